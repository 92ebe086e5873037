use Rattle.std.proofs.Common.{◌≡◌, ℤ, List, [], ◌∷◌, ◌++◌, All, sym, ap, ◌∙◌, subst}
use Rattle.sv_gates.specs.Formulas.{Formula, IsLiteral, IsProper}
use Rattle.sv_gates.specs.Gates.{with_raw}
use Rattle.sv_gates.proofs.Keeping.{raw_proper, with_raw-apart, with_raw-clash}
use Rattle.sv_gates.proofs.Keeping.{raw_begins}
use Rattle.sv_gates.specs.Extending.{Begins}
use Rattle.sv_gates.proofs.gates.Gates.add.Goals as goal
use Rattle.sv_gates.proofs.gates.Gates.add.Goals.{In_ok-push}

pub returns-then-clash-clause-ok : goal.returns-then-clash-clause-ok
returns-then-clash-clause-ok c =
    sym (with_raw-clash c.args.raw.now c.args.self.now (sym c.if-clash.ensures))

-- the fields after the push
added : (c : In_ok-push) → record {
  variables = c.self.inside.variables;
  clauses = c.push.new.self.items;
} ≡ with_raw c.args.raw.now (record {
  variables = c.self.inside.variables;
  clauses = c.self.inside.clauses.items;
})
added c =
    ap (λ (z : List (List ℤ)). record { variables = c.self.inside.variables; clauses = z })
    (c.in_ok-push.ensures.items
    ∙ ap (λ z. c.self.inside.clauses.items ++ z ∷ []) c.in_ok-clause.ensures)
    ∙ sym (with_raw-apart c.args.raw.now (record {
      variables = c.self.inside.variables;
      clauses = c.self.inside.clauses.items;
    }) (sym c.if-clash.ensures))

pub invariant_of-self-2 : goal.invariant_of-self-2
invariant_of-self-2 c =
    subst IsProper (sym (added (goal.at.invariant_of-self-2 c).In_ok-push))
    (raw_proper c.args.raw.now (record {
      variables = c.self.inside.variables;
      clauses = c.self.inside.clauses.items;
    })
    (subst (λ (z : Formula). All (IsLiteral z.variables) c.args.raw.now) (sym c.self.view_is)
    c.requires) c.self.invariant)

pub returns-clause-ok : goal.returns-clause-ok
returns-clause-ok c =
    added (goal.at.returns-clause-ok c).In_ok-push ∙ ap (with_raw c.args.raw.now) c.self.view_is

pub returns-clause-begins : goal.returns-clause-begins
returns-clause-begins c =
    subst (Begins c.args.self.now)
    (sym (added c ∙ ap (with_raw c.args.raw.now) c.self.view_is))
    (raw_begins c.args.raw.now c.args.self.now)
