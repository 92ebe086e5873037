use Rattle.std.proofs.Common.{◌≡◌, ℤ, List, [], ◌∷◌, ◌++◌, pos, sym, ap, ◌∙◌, subst}
use Rattle.sv_gates.specs.Formulas.{IsProper}
use Rattle.sv_gates.specs.NormalForms.{ascending}
use Rattle.sv_gates.proofs.Keeping.{first_clause, start_proper}
use Rattle.sv_gates.proofs.gates.Gates.new.Goals as goal
use Rattle.sv_gates.proofs.gates.Gates.new.Goals.{In_ok-push}

made : (c : In_ok-push) → c.push.new.self.items ≡ (pos 1 ∷ []) ∷ []
made c =
    c.in_ok-push.ensures.items
    ∙ ap (λ z. z ++ c.in_ok-clause.clause ∷ []) c.new-clauses.ensures.items
    ∙ ap (λ z. z ∷ []) (c.in_ok-clause.ensures
    ∙ ap (λ (z : ℤ). ascending (z ∷ [])) c.of_variable.ensures ∙ first_clause)

pub invariant_of-result : goal.invariant_of-result
invariant_of-result c =
    subst (λ (z : List (List ℤ)). IsProper (record { variables = 1; clauses = z }))
    (sym (made (goal.at.invariant_of-result c).In_ok-push)) start_proper

pub returns : goal.returns
returns c =
    ap (λ (z : List (List ℤ)). record { variables = 1; clauses = z })
    (made (goal.at.returns c).In_ok-push)
