use Rattle.std.proofs.Common.{rules, ◌≡◌, vec_len, refl, sym, ◌∙◌, arith}
use Rattle.std.proofs.lemmas.Bool.{eqb-true, false≢true}
use Rattle.std.proofs.lemmas.List.{nil_from_length}
use Rattle.sv_proof.proofs.Spelling.{chain_stuck, chain_zero, chain_more, chain_ends, chain_whole}
use Rattle.sv_proof.proofs.steps.read_chain.Goals as goal
use Rattle.sv_proof.proofs.steps.read_chain.Goals.{then-is_empty-via-then-is_empty}
use Rattle.sv_proof.proofs.steps.read_chain.Goals.{then-is_empty-via-else-is_empty+then-not-is_line}

pub returns-in_default-read_number-clause-none : goal.returns-in_default-read_number-clause-none
returns-in_default-read_number-clause-none c =
    λ none chain is e. chain_stuck _ _ _ _ _ c.numbers.invariant c.in-Some.ensures.some.0
    c.in-Some.ensures.some.1 (c.in_default-read_number.ensures.none refl)
    (chain_whole _ chain is e)

pub returns-then-number-eq0-clause-none : goal.returns-then-number-eq0-clause-none
returns-then-number-eq0-clause-none c =
    λ none chain is e. chain_zero _ _ _ _ _ c.numbers.invariant c.in-Some.ensures.some.0
    c.in-Some.ensures.some.1 c.in-Some-read_number.number c.in-Some-read_number.ensures.some
    c.if-number-eq0.true (chain_whole _ chain is e)

pub numbers-preserved : goal.numbers-preserved
numbers-preserved c =
    chain_more _ _ _ _ _ c.numbers.invariant c.in-Some.ensures.some.0 c.in-Some.ensures.some.1
    c.in-Some-read_number.number _ c.in-Some-read_number.ensures.some c.if-number-eq0.false
    (search rules) c.in_ok-push.ensures.items

pub returns-then-is_empty-clause-none : goal.returns-then-is_empty-clause-none
returns-then-is_empty-clause-none c =
    λ none chain is e. let ends = chain_ends _ _ _ c.numbers.invariant
    (c.in_default.ensures.none refl) (chain_whole _ chain is e) in
    elim c.then-is_empty.branch [
      | then-is_empty-via-then-is_empty w ↦
          (let none_read : vec_len c.numbers.chain ≡
          0 = eqb-true (vec_len c.numbers.chain) 0 (sym c.is_empty.ensures
          ∙ w.if-is_empty.true) in
          ends.1 (nil_from_length c.numbers.chain.items (omega (arith, c.numbers.chain.ok.0))))
      | then-is_empty-via-else-is_empty+then-not-is_line w ↦
          false≢true (sym w.if-not-is_line.true ∙ w.is_line.ensures.1 ends.0)
    ]
