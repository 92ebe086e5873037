use Rattle.std.proofs.Common.{[], ◌<◌, ◌≤◌, ◌≡◌, ◌-◌, ◌&&◌, ◌||◌, length, arith, sym, ap, ◌∙◌, pos}
use Rattle.std.proofs.Common.{neg_ℤ, get_or, ℤ, true, false, refl}
use Rattle.std.proofs.lemmas.Bool.{false≢true}
use Rattle.sv_clause.specs.Literals.{stands}
use Rattle.sv_solve.proofs.Clauses.{numbered_place}
use Rattle.sv_solve.proofs.Deriving.{derive_skip, derive_step, later_skip, later_step, later_above}
use Rattle.sv_solve.proofs.analysis.resolve_to_first_uip.Goals as goal

pub back-preserved-then-not-contains : goal.back-preserved-then-not-contains
back-preserved-then-not-contains c =
    let trail = c.args.trail.now.literals in
    let p = c.back.bound - 1 in
    let above : c.args.mark < c.back.bound =
    later_above c.args.clauses.now trail c.back.seen.literals c.args.mark c.back.bound
    c.back.invariant.3 in
    let unseen : stands (neg_ℤ (get_or trail p (pos 0))) c.back.seen.literals ≡ false =
    ap (λ z. stands z c.back.seen.literals)
    (sym (c.negated.ensures ∙ ap neg_ℤ c.at.ensures.value)) ∙ sym c.if-not-contains.ensures in (
      omega arith,
      c.back.invariant.1,
      derive_skip c.args.clauses.now trail c.back.chain.items [] c.back.seen.literals c.back.bound p
          (omega arith) (omega arith) unseen c.back.invariant.2,
      later_skip c.args.clauses.now trail c.back.seen.literals c.args.mark c.back.bound p
          (omega arith) (omega arith) unseen c.back.invariant.3,
    )

pub is_some_seen-requires-clause-from : goal.is_some_seen-requires-clause-from
is_some_seen-requires-clause-from c =
    let above : c.args.mark < c.back.bound =
    later_above c.args.clauses.now c.args.trail.now.literals c.back.seen.literals c.args.mark
    c.back.bound c.back.invariant.3 in
    omega arith

pub returns-then-not-is_some_seen-clause-from : goal.returns-then-not-is_some_seen-clause-from
returns-then-not-is_some_seen-clause-from c =
    let above : c.args.mark < c.back.bound =
    later_above c.args.clauses.now c.args.trail.now.literals c.back.seen.literals c.args.mark
    c.back.bound c.back.invariant.3 in
    omega arith

pub back-preserved : goal.back-preserved
back-preserved c =
    let trail = c.args.trail.now.literals in
    let p = c.back.bound - 1 in
    let above : c.args.mark < c.back.bound =
    later_above c.args.clauses.now trail c.back.seen.literals c.args.mark c.back.bound
    c.back.invariant.3 in
    let small : p < length trail = omega arith in
    let here : stands (neg_ℤ (get_or trail p (pos 0))) c.back.seen.literals ≡ true =
    ap (λ z. stands z c.back.seen.literals)
    (sym (c.negated.ensures ∙ ap neg_ℤ c.at.ensures.value)) ∙ sym c.if-not-contains.ensures in
    let other = c.if-not-is_some_seen.ensures.some refl in
    let low : c.args.mark ≤ other.0 = other.1 in
    let high : other.0 < p = other.2 in
    let n = get_or c.args.trail.now.reasons p 0 in
    let h = c.requires.implied p (omega arith) small in
    let at = (numbered_place c.args.clauses.now n h.clause h.is).2 in
    let tests : (l : ℤ) →
    stands l c.resolve_at.new.seen.literals ≡
    (stands l c.back.seen.literals || (stands l h.clause && stands (neg_ℤ l) trail)) = λ l.
    c.in_ok-resolve_at.ensures.seen l
    ∙ ap (λ z. stands l c.back.seen.literals || (stands l z && stands (neg_ℤ l) trail)) at in (
      omega arith,
      c.in_ok-resolve_at.ensures.variables ∙ c.back.invariant.1,
      derive_step c.args.clauses.now trail c.back.chain.items c.resolve_at.new.chain.items []
          c.back.seen.literals c.resolve_at.new.seen.literals c.back.bound p n (omega arith) small
          c.len-bound.ensures.consistent (c.len-bound.ensures.each_open p small)
          here h c.in_ok-resolve_at.ensures.chain tests (λ l e.
          absurd (false≢true e)) c.back.invariant.2,
      later_step c.args.clauses.now trail c.back.seen.literals c.resolve_at.new.seen.literals
          c.args.mark p n (omega arith) small c.len-bound.ensures.consistent
          (c.len-bound.ensures.each_open p small) c.requires.rest h tests,
    )
