-- A learned has one literal left once the newest decision is taken back.
use Rattle.std.proofs.Common.{◌≡◌, ℕ, ◌-◌, ◌<◌, ◌≤◌, ℤ, pos, neg_ℤ, List, sym, ap, ◌∙◌, length}
use Rattle.std.proofs.Common.{take, get_or, arith, Option, Some, None}
use Rattle.std.specs.Prelude.{MatchOption}
use Rattle.std.proofs.lemmas.Bool.{false≢true}
use Rattle.sv_clause.specs.Literals.{stands, IsClause}
use Rattle.sv_clause.specs.Logs.{numbered}
use Rattle.sv_clause.specs.Units.{IsOpen}
use Rattle.sv_clause.proofs.Merging.{neg-neg}
use Rattle.sv_solve.specs.Lists.{EachOpen}
use Rattle.sv_solve.specs.ConflictClauses.{IsLatest, IsAsserting, IsMinimized}
use Rattle.sv_solve.specs.Search.{OthersFalse, Implies}
use Rattle.sv_solve.proofs.Clauses.{one_literal}
use Rattle.sv_solve.proofs.MinimizedClauses.{minimized_others}
use Rattle.sv_solve.proofs.Places.{stands_take_le, not_stands_take_le}
use Rattle.sv_solve.proofs.Trails.{stands_before}

module _ (trail clause : List ℤ) (first : ℤ) (mark keep : ℕ) where
  -- the literal that the last kept one makes false
  latest_some : EachOpen trail → mark ≤ length trail → IsOpen (take mark trail) first
      → IsMinimized trail first clause 0 keep mark → (other : ℤ) → 0 < keep
      → other ≡ neg_ℤ (get_or trail (keep - 1) (pos 0))
      → IsLatest trail clause first keep (Some other)
  latest_some o size free d other some is =
      let u = get_or trail (keep - 1) (pos 0) in
      let early = d.early in
      let back : neg_ℤ other ≡ u = ap neg_ℤ is ∙ neg-neg u in (
        λ same. false≢true (sym free.1
            ∙ stands_before trail (keep - 1) mark (neg_ℤ first) (omega (arith, early)) size
            (sym back ∙ ap neg_ℤ same)),
        ap (λ z. stands z clause) is ∙ d.latest some,
        some,
        ap (λ z. stands z (take (keep - 1) trail)) back ∙ (o (keep - 1) (omega (arith, early))).0,
      )

  latest_from : EachOpen trail → mark ≤ length trail → IsOpen (take mark trail) first
      → IsClause clause → IsMinimized trail first clause 0 keep mark
      → (other : Option ℤ)
      → MatchOption other (keep ≡ 0) (λ last.
      (0 < keep) × (last ≡ neg_ℤ (get_or trail (keep - 1) (pos 0))))
      → IsLatest trail clause first keep other
  latest_from o size free up d None is = (
    one_literal clause first up (λ l e ne. let b = d.others l e ne in
        let high : b.0 < keep = b.2 in absurd (omega arith)),
    is,
  )
  latest_from o size free up d (Some other) is = latest_some o size free d other is.0 is.1

  pub asserting : EachOpen trail → mark ≤ length trail → IsOpen (take mark trail) first
      → IsClause clause → IsMinimized trail first clause 0 keep mark
      → (other : Option ℤ)
      → MatchOption other (keep ≡ 0) (λ last.
      (0 < keep) × (last ≡ neg_ℤ (get_or trail (keep - 1) (pos 0))))
      → IsAsserting trail mark clause first other keep
  asserting o size free up d other is =
      record {
        early = d.early;
        member = d.member;
        open_first = free;
        others = minimized_others trail first mark clause 0 keep keep size (omega arith) d.early d;
        latest = latest_from o size free up d other is;
      }

-- What follows for each shorter trail that a search goes back to.
module _ (trail clause : List ℤ) (first : ℤ) (other : Option ℤ) (mark keep : ℕ)
    (a : IsAsserting trail mark clause first other keep) where
  -- the first literal is open in it
  pub asserting_open : (n : ℕ) → n ≤ mark → IsOpen (take n trail) first
  asserting_open n le = (
    not_stands_take_le first trail n mark le a.open_first.0,
    not_stands_take_le (neg_ℤ first)
        trail n mark le a.open_first.1,
  )

  -- the others are false in it
  pub asserting_others : (n : ℕ) → keep ≤ n → OthersFalse (take n trail) clause first
  asserting_others n le l e ne = stands_take_le (neg_ℤ l) trail keep n le (a.others l e ne)

  -- so the clause makes the first literal true there
  pub asserting_implies : (clauses : List (List ℤ)) (number n : ℕ) → keep ≤ n →
      numbered clauses number ≡ Some clause → Implies clauses number (take n trail) first
  asserting_implies clauses number n le is =
      record { clause = clause; is = is; member = a.member; others = asserting_others n le }
