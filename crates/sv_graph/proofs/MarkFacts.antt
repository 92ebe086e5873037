-- Tables that say of each signal whether it is marked.
use Rattle.std.proofs.Common.{◌≡◌, ◌≢◌, ℕ, ◌<◌, Bool, true, false, ◌||◌, ◌==◌, List, [], ◌∷◌, ◌++◌}
use Rattle.std.proofs.Common.{length, map, set, get_or, ⊎_elim, refl, sym, ap, subst, ◌∙◌}
use Rattle.std.proofs.Common.{get_or-set_same, get_or-set_other}
use Rattle.std.specs.Prelude.{IsTrue, IsFalse}
use Rattle.std.specs.List.{list_any}
use Rattle.std.proofs.lemmas.Bool.{false≢true, eqb-true, eq-eqb}
use Rattle.sv_flat.proofs.LeastSets.{either_way}
use Rattle.sv_graph.specs.Marks.{is_marked, Marks}

pub or_yes : (b c : Bool) → IsTrue c → (b || c) ≡ true
or_yes true c h = refl
or_yes false c h = h

pub or_no : (b c : Bool) → IsFalse c → (b || c) ≡ b
or_no true c h = refl
or_no false c h = h

pub or_three : (a b c : Bool) → ((a || b) || c) ≡ (a || (b || c))
or_three true b c = refl
or_three false b c = refl

differ : (a b : ℕ) → IsFalse (a == b) → b ≢ a
differ a b h e = false≢true (sym h ∙ eq-eqb a b (sym e))

-- ---- one signal

pub one_marked : (old new : List Bool) (s : ℕ) → s < length old → new ≡ set old s true →
    Marks old new (λ t. s == t)
one_marked old new s inside is t below = ⊎_elim
    (λ same. subst (λ z. is_marked new z ≡ (is_marked old z || (s == z))) (eqb-true s t same)
    (ap (λ ts. get_or ts s false) is ∙ get_or-set_same old s true false inside
    ∙ sym (or_yes (is_marked old s) (s == s) (eq-eqb s s refl))))
    (λ other. ap (λ ts. get_or ts t false) is
    ∙ get_or-set_other old s t true false (differ s t other)
    ∙ sym (or_no (is_marked old t) (s == t) other))
    (either_way (s == t))

-- ---- one after the other

-- those so far, and those that are left
abbrev pub MarksSoFar : (old now : List Bool) → (all left : ℕ → Bool) → Type 0
MarksSoFar old now all left =
    (s : ℕ) → s < length old → (is_marked now s || left s) ≡ (is_marked old s || all s)

pub marks_more : (old now next : List Bool) (all left this rest : ℕ → Bool)
    → length now ≡ length old
    → ((s : ℕ) → left s ≡ (this s || rest s)) → Marks now next this → MarksSoFar old now all left
    → MarksSoFar old next all rest
marks_more old now next all left this rest size splits marks so_far s below =
    ap (λ t. t || rest s) (marks s (subst (λ n. s < n) (sym size) below))
    ∙ or_three (is_marked now s) (this s) (rest s)
    ∙ ap (λ t. is_marked now s || t) (sym (splits s))
    ∙ so_far s below

pub marks_end : (old now : List Bool) (all left : ℕ → Bool) → ((s : ℕ) → left s ≡ false) →
    MarksSoFar old now all left → Marks old now all
marks_end old now all left none so_far s below =
    sym (or_no (is_marked now s) (left s) (none s)) ∙ so_far s below

-- first these, then those
pub both_marked : (old mid new : List Bool) (first second : ℕ → Bool) → length mid ≡ length old
    → Marks old mid first → Marks mid new second
    → Marks old new (λ s. first s || second s)
both_marked old mid new first second size marks_first marks_second s below =
    marks_second s (subst (λ n. s < n) (sym size) below)
    ∙ ap (λ t. t || second s) (marks_first s below)
    ∙ or_three (is_marked old s) (first s) (second s)

pub same_marked : (old new : List Bool) (more others : ℕ → Bool) → ((s : ℕ) → more s ≡ others s) →
    Marks old new more → Marks old new others
same_marked old new more others same marks s below =
    marks s below ∙ ap (λ t. is_marked old s || t) (same s)

-- ---- what a statement reads

module _ {X : Type 0} (test : X → Bool) where
  pub any_append : (xs ys : List X) →
      list_any test (xs ++ ys) ≡ (list_any test xs || list_any test ys)
  any_append [] ys = refl
  any_append (x ∷ xs) ys =
      ap (λ t. test x || t) (any_append xs ys)
      ∙ sym (or_three (test x) (list_any test xs) (list_any test ys))

  pub any_map : {Y : Type 0} (f : Y → X) (ys : List Y) →
      list_any test (map f ys) ≡ list_any (λ y. test (f y)) ys
  any_map f [] = refl
  any_map f (y ∷ ys) = ap (λ t. test (f y) || t) (any_map f ys)
