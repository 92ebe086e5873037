use Rattle.std.proofs.Common.{rules, ◌≡◌, ◌∷◌, ◌++◌, unsigned_abs, FitsSigned, [], subst, w32, to_z}
use Rattle.std.proofs.Common.{of_z, arith, refl, sym, ap, ◌∙◌}
use Rattle.std.proofs.lemmas.Int.{ints, to_z-of_z}
use Rattle.sv_proof.proofs.Spelling.{ReadsLiterals, literals_stuck, literals_wrong, literals_more}
use Rattle.sv_proof.proofs.Spelling.{literals_done, literals_clause, literals_end}
use Rattle.sv_proof.proofs.steps.read_literals.Goals as goal

pub returns-in_default-read_literal-clause-none : goal.returns-in_default-read_literal-clause-none
returns-in_default-read_literal-clause-none c =
    λ none clause tail up e.
    literals_stuck _ _ _ _ _ _ c.literals.invariant c.in-Some.ensures.some.0
    c.in-Some.ensures.some.1 (c.in_default-read_literal.ensures.none refl) (clause, tail, up, e)

pub returns-then-literal-eq0-clause-some : goal.returns-then-literal-eq0-clause-some
returns-then-literal-eq0-clause-some c =
    literals_done _ _ _ _ _ _ c.literals.invariant c.in-Some.ensures.some.0 c.in-Some.ensures.some.1
    c.in-Some-read_literal.literal c.in-Some-read_literal.ensures.some (omega (arith, ints))

pub returns-then-literal-eq0-clause-normal : goal.returns-then-literal-eq0-clause-normal
returns-then-literal-eq0-clause-normal c = literals_clause _ _ _ _ c.literals.invariant

pub returns-then-variable-above-clause-none : goal.returns-then-variable-above-clause-none
returns-then-variable-above-clause-none c =
    λ none clause tail up e.
    literals_wrong _ _ _ _ _ _ c.literals.invariant c.in-Some.ensures.some.0
    c.in-Some.ensures.some.1 c.in-Some-read_literal.literal
    c.in-Some-read_literal.ensures.small c.in-Some-read_literal.ensures.some (omega (arith, ints))
    (omega (arith, ints)) (clause, tail, up, e)

pub literals-preserved : goal.literals-preserved
literals-preserved c =
    let l = c.in-Some-read_literal.literal in
    let fits : FitsSigned w32 l = search rules in
    let is : to_z w32 (of_z w32 l) ≡ l = to_z-of_z w32 l fits in
    let size : c.unsigned_abs-variable.result ≡ unsigned_abs l =
    c.unsigned_abs-variable.ensures.value ∙ ap unsigned_abs is in
    subst (λ z. ReadsLiterals c.args.line.now c.push.new.self.items z c.in-Some.after.now)
    (sym size)
    (literals_more _ _ _ _ _ _ c.literals.invariant c.in-Some.ensures.some.0
    c.in-Some.ensures.some.1 l c.push.new.self.items
    c.in-Some-read_literal.ensures.small c.in-Some-read_literal.ensures.some (omega arith)
    (c.in_ok-push.ensures.items ∙ ap (λ z. c.literals.literals.items ++ z ∷ []) is))

pub returns-clause-none : goal.returns-clause-none
returns-clause-none c =
    λ none clause tail up e.
    literals_end _ _ _ _ c.literals.invariant (c.in_default.ensures.none refl)
    (clause, tail, up, e)
