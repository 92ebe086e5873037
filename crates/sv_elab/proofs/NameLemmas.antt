-- Names of points, each once.
use Rattle.std.proofs.Common.{◌≡◌, ℕ, zero, suc, ◌+◌, ◌<◌, ◌≤◌, Bool, true, false, not, ◌||◌, List}
use Rattle.std.proofs.Common.{[], ◌∷◌, ◌++◌, length, get_or, drop, map, Option, Some, None, refl}
use Rattle.std.proofs.Common.{sym, ap, ◌∙◌, subst, append_assoc, arith}
use Rattle.std.proofs.lemmas.List.{drop_more}
use Rattle.std.proofs.lemmas.List.Folds.{list_any-append}
use Rattle.std.proofs.lemmas.Slice.Eq.{bytes_eq-Decides}
use Rattle.std.specs.Prelude.{if◌then◌else◌}
use Rattle.std.specs.Str.{bytes_eq}
use Rattle.indexmap.specs.IndexSet.{insert_key}
use Rattle.sv_num.specs.declared.faults.Place.{Place}
use Rattle.sv_ast.specs.Tree.{PlacedName}
use Rattle.sv_ast.specs.Views.{placed_name, pair_tree}
use Rattle.sv_elab_rules.specs.Walks.{WalkStep}
use Rattle.sv_elab_rules.specs.Rules.{lattice_name}
use Rattle.sv_elab_rules.specs.Lattices.{Question, is_point, point_questions, pair_questions}
use Rattle.sv_elab.specs.Earliest.{broken_step, earlier, earliest, names_of}
use Rattle.sv_elab.proofs.EarliestLemmas.{earlier_assoc}

-- the same names are known
abbrev pub KnowSame : (xs ys : List (List ℕ)) → Type 0
KnowSame xs ys = (n : List ℕ) → is_point xs n ≡ is_point ys n

-- ---- a name more

after_insert : (keys : List (List ℕ)) (m n : List ℕ) (b : Bool) → is_point keys m ≡ b
    → is_point (if b then keys else keys ++ m ∷ []) n ≡ (bytes_eq n m || is_point keys n)
after_insert keys m n true known = by (bytes_eq n m) refl
  where
    by : (b : Bool) → bytes_eq n m ≡ b → is_point keys n ≡ (b || is_point keys n)
    by true e = subst (λ k. is_point keys k ≡ true) (sym ((bytes_eq-Decides n m).0 e)) known
    by false e = refl
after_insert keys m n false known =
    list_any-append (bytes_eq n) keys (m ∷ []) ∙ or_flip (is_point keys n) (bytes_eq n m)
  where
    or_flip : (a b : Bool) → (a || (b || false)) ≡ (b || a)
    or_flip true true = refl
    or_flip true false = refl
    or_flip false b = refl

pub known_more : (keys : List (List ℕ)) (m : List ℕ) →
    KnowSame (insert_key bytes_eq keys m) (m ∷ keys)
known_more keys m n = after_insert keys m n (is_point keys m) refl

pub questions_along : (xs ys : List (List ℕ)) → KnowSame xs ys → (ps : List PlacedName)
    → point_questions xs ps ≡ point_questions ys ps
questions_along xs ys same [] = refl
questions_along xs ys same (p ∷ ps) =
    ap (λ (b : Bool). (record { holds = not b; step = lattice_name p.place p.name }) ∷
    point_questions (p.name ∷ xs) ps) (same p.name)
    ∙ ap (λ qs. (record {
      holds = not (is_point ys p.name);
      step = lattice_name p.place p.name;
    }) ∷ qs)
    (questions_along (p.name ∷ xs) (p.name ∷ ys) (λ n.
    ap (λ (b : Bool). bytes_eq n p.name || b) (same n)) ps)

-- ---- a point more

abbrev pub point_question : (keys : List (List ℕ)) → List ℕ → Place → Question
point_question keys n p = record { holds = not (is_point keys n); step = lattice_name p n }

pub wrong_more : (w : Option WalkStep) (keys : List (List ℕ)) (x : List ℕ
    × Place) (xs : List (List ℕ × Place))
    → earlier (earlier w (broken_step (point_question keys x.0 x.1)))
    (earliest (point_questions (insert_key bytes_eq keys x.0) (map placed_name xs)))
    ≡ earlier w (earliest (point_questions keys (map placed_name (x ∷ xs))))
wrong_more w keys x xs =
    earlier_assoc w (broken_step (point_question keys x.0 x.1))
    (earliest (point_questions (insert_key bytes_eq keys x.0) (map placed_name xs)))
    ∙ ap (λ qs. earlier w (earlier (broken_step (point_question keys x.0 x.1)) (earliest qs)))
    (questions_along (insert_key bytes_eq keys x.0) (x.0 ∷ keys) (known_more keys x.0)
    (map placed_name xs))

or_mid : (a b c : Bool) → ((b || a) || c) ≡ (a || (b || c))
or_mid true true c = refl
or_mid true false c = refl
or_mid false true c = refl
or_mid false false c = refl

pub known_step : (keys : List (List ℕ)) (n : List ℕ) (x : List ℕ
    × Place) (xs : List (List ℕ × Place))
    → (is_point (insert_key bytes_eq keys x.0) n || is_point (names_of xs) n)
    ≡ (is_point keys n || is_point (names_of (x ∷ xs)) n)
known_step keys n x xs =
    ap (λ (b : Bool). b || is_point (names_of xs) n) (known_more keys x.0 n)
    ∙ or_mid (is_point keys n) (bytes_eq n x.0) (is_point (names_of xs) n)

none_parts : (w : Option WalkStep) (q : Question) → earlier w (broken_step q) ≡ None →
    (w ≡ None) × (q.holds ≡ true)
none_parts w q h = by w q.holds refl h
  where
    by : (v : Option WalkStep) (b : Bool) → q.holds ≡ b
        → earlier v (if b then None else Some q.step) ≡ None
        → (v ≡ None) × (q.holds ≡ true)
    by None true e k = (refl, e)
    by None false e k = absurd (cc k)
    by (Some s) true e k = absurd (cc k)
    by (Some s) false e k = absurd (cc k)

fresh : (keys : List (List ℕ)) (m : List ℕ) → not (is_point keys m) ≡ true →
    insert_key bytes_eq keys m ≡ keys ++ m ∷ []
fresh keys m h = by (is_point keys m) h
  where
    by : (b : Bool) → not b ≡ true → (if b then keys else keys ++ m ∷ []) ≡ keys ++ m ∷ []
    by true k = absurd (cc k)
    by false k = refl

pub all_step : (w : Option WalkStep) (keys all : List (List ℕ)) (x : List ℕ
    × Place) (xs : List (List ℕ × Place))
    → (w ≡ None → keys ++ names_of (x ∷ xs) ≡ all)
    → earlier w (broken_step (point_question keys x.0 x.1)) ≡ None
    → insert_key bytes_eq keys x.0 ++ names_of xs ≡ all
all_step w keys all x xs before h =
    let parts : (w ≡ None) × (not (is_point keys x.0) ≡ true) =
    none_parts w (point_question keys x.0 x.1) h in
    ap (λ ks. ks ++ names_of xs) (fresh keys x.0 parts.1)
    ∙ append_assoc keys (x.0 ∷ []) (names_of xs) ∙ before parts.0

-- ---- what is left of a list

pub left_more : {X : Type 0} (xs : List X) (i : ℕ) (x : X) → i < length xs → x ≡ get_or xs i x
    → drop i xs ≡ x ∷ drop (i + 1) xs
left_more xs i x within is = drop_more xs i x within ∙ ap (λ y. y ∷ drop (i + 1) xs) (sym is)

pub left_none : {X : Type 0} (xs : List X) (i : ℕ) → length xs ≤ i → drop i xs ≡ []
left_none [] zero h = refl
left_none [] (suc i) h = refl
left_none (x ∷ xs) zero h = absurd (omega arith)
left_none (x ∷ xs) (suc i) h = left_none xs i (omega arith)

pub earlier_none : (w : Option WalkStep) → earlier w None ≡ w
earlier_none None = refl
earlier_none (Some s) = refl

-- ---- loops

-- what was found and known, with what is left, is as of all points
pub record NamesLeft (points : List (List ℕ × Place)) (w : Option WalkStep) (keys : List (List ℕ))
    (rest : List (List ℕ × Place)) : Type 0 where
  pub wrong : earlier w (earliest (point_questions keys (map placed_name rest))) ≡
      earliest (point_questions [] (map placed_name points))
  pub known : (n : List ℕ) →
      (is_point keys n || is_point (names_of rest) n) ≡ is_point (names_of points) n
  pub all : w ≡ None → keys ++ names_of rest ≡ names_of points

pub next_left : (points : List (List ℕ × Place)) (w : Option WalkStep) (keys : List (List ℕ))
    (x : List ℕ × Place) (xs : List (List ℕ × Place))
    → NamesLeft points w keys (x ∷ xs)
    → NamesLeft points (earlier w (broken_step (point_question keys x.0 x.1)))
    (insert_key bytes_eq keys x.0) xs
next_left points w keys x xs left = record {
  wrong = wrong_more w keys x xs ∙ left.wrong;
  known = λ n. known_step keys n x xs ∙ left.known n;
  all = all_step w keys (names_of points) x xs left.all;
}

-- both names of a pair
pub pair_more : (w : Option WalkStep) (keys : List (List ℕ)) (x : List ℕ × Place × List ℕ
    × Place) (xs : List (List ℕ × Place × List ℕ × Place))
    → earlier (earlier (earlier w
    (broken_step (record { holds = is_point keys x.0; step = lattice_name x.1 x.0 })))
    (broken_step (record { holds = is_point keys x.2; step = lattice_name x.3 x.2 })))
    (earliest (pair_questions keys (map pair_tree xs)))
    ≡ earlier w (earliest (pair_questions keys (map pair_tree (x ∷ xs))))
pair_more w keys x xs =
    let first = broken_step (record { holds = is_point keys x.0; step = lattice_name x.1 x.0 }) in
    let second = broken_step (record { holds = is_point keys x.2; step = lattice_name x.3 x.2 }) in
    let rest = earliest (pair_questions keys (map pair_tree xs)) in
    earlier_assoc (earlier w first) second rest ∙ earlier_assoc w first (earlier second rest)
