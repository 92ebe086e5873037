-- A conflict clause while it is minimized.
use Rattle.std.proofs.Common.{◌≡◌, ℕ, ◌+◌, ◌-◌, ◌<◌, ◌≤◌, true, false, ℤ, pos, neg_ℤ, List, [], ◌∷◌}
use Rattle.std.proofs.Common.{◌++◌, refl, sym, ap, ◌∙◌, ⊎_elim, length, take, get_or, arith}
use Rattle.std.specs.Ordering.{int_eq}
use Rattle.sv_clause.specs.Literals.{stands, SameLiterals}
use Rattle.sv_clause.specs.Units.{IsOpen}
use Rattle.sv_clause.proofs.Standing.{same_from_int_eq, int_eq-same, cases_int}
use Rattle.sv_clause.proofs.Merging.{neg-neg}
use Rattle.sv_solve.specs.Lists.{EachOpen}
use Rattle.sv_solve.specs.ConflictClauses.{BecameFalse, IsMinimized}
use Rattle.sv_solve.specs.Search.{OthersFalse}
use Rattle.sv_solve.proofs.Places.{stands_push_old, stands_push_new, stands_push_cases, stands_is}
use Rattle.sv_solve.proofs.Places.{not_stands_take_le, or_nothing}
use Rattle.sv_solve.proofs.Trails.{stands_before}

module _ (trail : List ℤ) (first : ℤ) (mark : ℕ) where
  pub minimized_start : (literals : List ℤ) (bound : ℕ) → literals ≡ first ∷ [] →
      IsMinimized trail first literals bound 0 mark
  minimized_start literals bound is =
      record {
        early = omega arith;
        reach = λ h. absurd (omega arith);
        member =
            ap (stands first) is ∙ or_nothing (int_eq first first) ∙ int_eq-same first first refl;
        others =
            λ l e ne.
            absurd (ne (same_from_int_eq l first (sym (or_nothing (int_eq l first))
            ∙ sym (ap (stands l) is) ∙ e)));
        latest = λ h. absurd (omega arith);
      }

  earlier : (l : ℤ) (from from' to : ℕ) → from' ≤ from → BecameFalse trail l from to →
      BecameFalse trail l from' to
  earlier l from from' to le (i, low, high, at) = (i, omega arith, high, at)

  pub minimized_down : (literals : List ℤ) (bound p keep : ℕ) → p ≤ bound →
      IsMinimized trail first literals bound keep mark
      → IsMinimized trail first literals p keep mark
  minimized_down literals bound p keep le d =
      record {
        early = d.early;
        reach = λ h. let r = d.reach h in omega (arith, r);
        member = d.member;
        others = λ l e ne. earlier l bound p keep le (d.others l e ne);
        latest = d.latest;
      }

  -- one literal more, where there is another already
  pub minimized_more : (literals now : List ℤ) (bound p keep : ℕ) → bound ≡ p + 1 → 0 < keep →
      now ≡ literals ++ neg_ℤ (get_or trail p (pos 0)) ∷ [] →
      IsMinimized trail first literals bound keep mark → IsMinimized trail first now p keep mark
  minimized_more literals now bound p keep at some is d =
      let t = get_or trail p (pos 0) in
      let r = d.reach some in
      record {
        early = d.early;
        reach = λ h. omega (arith, r);
        member = ap (stands first) is ∙ stands_push_old first (neg_ℤ t) literals d.member;
        others = λ l e ne. ⊎_elim
            (λ old. earlier l bound p keep (omega arith) (d.others l old ne))
            (λ same. (p, omega arith, omega (arith, r), sym (ap neg_ℤ same ∙ neg-neg t)))
            (stands_push_cases l (neg_ℤ t) literals (sym (ap (stands l) is) ∙ e));
        latest =
            λ h. ap (stands (neg_ℤ (get_or trail (keep - 1) (pos 0)))) is
            ∙ stands_push_old (neg_ℤ (get_or trail (keep - 1) (pos 0))) (neg_ℤ t) literals
            (d.latest h);
      }

  -- the first one beside the first literal
  pub minimized_other : (literals now : List ℤ) (bound p keep : ℕ) → bound ≡ p + 1 → p < mark
      → keep ≡ 0 → now ≡ literals ++ neg_ℤ (get_or trail p (pos 0)) ∷ []
      → IsMinimized trail first literals bound keep mark
      → IsMinimized trail first now p (p + 1) mark
  minimized_other literals now bound p keep at below none is d =
      let t = get_or trail p (pos 0) in
      let last : p + 1 - 1 ≡ p = omega arith in
      record {
        early = omega arith;
        reach = λ h. omega arith;
        member = ap (stands first) is ∙ stands_push_old first (neg_ℤ t) literals d.member;
        others = λ l e ne. ⊎_elim
            (λ old. let b = d.others l old ne in let high : b.0 < keep = b.2 in
            absurd (omega arith))
            (λ same. (p, omega arith, omega arith, sym (ap neg_ℤ same ∙ neg-neg t)))
            (stands_push_cases l (neg_ℤ t) literals (sym (ap (stands l) is) ∙ e));
        latest =
            λ h. ap (λ z. stands (neg_ℤ (get_or trail z (pos 0))) now) last
            ∙ ap (stands (neg_ℤ t)) is ∙ stands_push_new (neg_ℤ t) literals;
      }

  pub minimized_like : (literals clause : List ℤ) (bound keep : ℕ) → SameLiterals clause literals →
      IsMinimized trail first literals bound keep mark
      → IsMinimized trail first clause bound keep mark
  minimized_like literals clause bound keep same d =
      record {
        early = d.early;
        reach = d.reach;
        member = same first ∙ d.member;
        others = λ l e ne. d.others l (sym (same l) ∙ e) ne;
        latest = λ h. same (neg_ℤ (get_or trail (keep - 1) (pos 0))) ∙ d.latest h;
      }

  -- a literal that is kept became false from the bound on
  pub minimized_late : (literals : List ℤ) (bound keep : ℕ) → EachOpen trail → mark ≤ length trail
      → bound ≤ mark → stands (neg_ℤ first) trail ≡ true → IsOpen (take mark trail) first
      → IsMinimized trail first literals bound keep mark
      → (l : ℤ) → stands l literals ≡ true → (stands (neg_ℤ l) (take bound trail) ≡ false)
      × (stands (neg_ℤ l) trail ≡ true)
  minimized_late literals bound keep o size le wrong free d l e =
      ⊎_elim
      (λ same. (
        ap (λ z. stands (neg_ℤ z) (take bound trail)) same
            ∙ not_stands_take_le (neg_ℤ first) trail bound mark le free.1,
        ap (λ z.
            stands (neg_ℤ z) trail) same ∙ wrong,
      ))
      (λ ne. let b = d.others l e ne in
      let low : bound ≤ b.0 = b.1 in
      let high : b.0 < keep = b.2 in
      let early = d.early in
      let within : b.0 < length trail = omega (arith, early) in (
        ap (λ z. stands z (take bound trail)) (sym b.3)
            ∙ not_stands_take_le (get_or trail b.0 (pos 0)) trail bound b.0 low (o b.0 within).0,
        stands_is (neg_ℤ l) trail b.0 within b.3,
      ))
      (cases_int l first)

  pub minimized_others : (literals : List ℤ) (bound keep to : ℕ) → mark ≤ length trail → keep ≤ to →
      to ≤ mark → IsMinimized trail first literals bound keep mark →
      OthersFalse (take to trail) literals first
  minimized_others literals bound keep to size le early d l e ne =
      let b = d.others l e ne in
      let high : b.0 < keep = b.2 in
      stands_before trail b.0 to (neg_ℤ l) (omega arith) (omega arith) b.3
