-- The comparison of two traces finds one thing.
use Rattle.std.proofs.Common.{◌≡◌, ℕ, ◌<◌, ◌++◌, nat_lt, List, [], ◌∷◌, length}
use Rattle.std.proofs.Common.{ltb-true, ltb-false, sym, ap, ap₂, subst, ◌∙◌, ⊎_elim, arith}
use Rattle.std.specs.Prelude.{Contains}
use Rattle.std.proofs.lemmas.List.Elements.{All-contains}
use Rattle.std.proofs.lemmas.Option.{slice_get_within, same_Some}
use Rattle.sv_system.specs.System.{System, Environment, seen, view}
use Rattle.sv_system.proofs.Lists.{Contains-head, Contains-later}
use Rattle.sv_system.proofs.Noninterference.{first_same, rest_same}
use Rattle.sv_lattice.specs.declared.points.Point.{Point}
use Rattle.sv_flat.specs.declared.signals.SigId.{SigId}
use Rattle.sv_flat.proofs.LeastSets.{either_way}
use Rattle.sv_tworun.specs.declared.compared.Compared.{Compared}
use Rattle.sv_tworun.specs.declared.compared.Compared.TheVariants.{Equal, InputsDiffer}
use Rattle.sv_tworun.specs.declared.compared.Compared.TheVariants.{ViewsDiffer, LengthsDiffer}
use Rattle.sv_tworun.specs.Comparisons.{SaySame, IsFirstApart, is_given, InputsApart, ViewsApart}
use Rattle.sv_tworun.specs.Comparisons.{SameViews, AtCycle, IsFound}
use Rattle.sv_tworun.specs.Forms.{Finding, equal, inputs_differ, views_differ, lengths_differ}
use Rattle.sv_tworun.specs.Forms.{finding}
use Rattle.sv_tworun.proofs.TraceFacts.{same_at, seen_in_view}

-- two numbers of which neither is lower are one
one_of : (m n : ℕ) → (m < n → ⊥) → (n < m → ⊥) → m ≡ n
one_of m n not_lower not_higher = ⊎_elim
    (λ lower. absurd (not_lower (ltb-true m n lower)))
    (λ reaches. ⊎_elim
    (λ higher. absurd (not_higher (ltb-true n m higher)))
    (λ stays. let up = ltb-false m n reaches in let down = ltb-false n m stays in omega arith)
    (either_way (nat_lt n m)))
    (either_way (nat_lt m n))

module _ {X : Type 0} where
  -- the first element of a list that has no property is one
  first_without : (P : X → Type 0) (s t : X) (front other rest more : List X)
      → front ++ s ∷ rest ≡ other ++ t ∷ more → ((x : X) → Contains front x → P x)
      → ((x : X) → Contains other x → P x) → ¬ P s → ¬ P t → s ≡ t
  first_without P s t [] [] rest more same one two not_s not_t = first_same s t rest more same
  first_without P s t [] (y ∷ ys) rest more same one two not_s not_t =
      absurd (not_s (subst P (sym (first_same s y rest (ys ++ t ∷ more) same))
      (two y (Contains-head y ys))))
  first_without P s t (x ∷ xs) [] rest more same one two not_s not_t =
      absurd (not_t (subst P (first_same x t (xs ++ s ∷ rest) more same)
      (one x (Contains-head x xs))))
  first_without P s t (x ∷ xs) (y ∷ ys) rest more same one two not_s not_t =
      first_without P s t xs ys rest more
      (rest_same x y (xs ++ s ∷ rest) (ys ++ t ∷ more) same)
      (λ z at. one z (Contains-later x xs z at)) (λ z at. two z (Contains-later y ys z at))
      not_s not_t

module _ {Signal : Type 0} where
  -- two views are told apart by one signal first
  one_signal : (listed : List Signal) (ps qs : List (Signal × ℕ)) (s t : Signal)
      → IsFirstApart listed ps qs s → IsFirstApart listed ps qs t → s ≡ t
  one_signal listed ps qs s t one other =
      first_without (SaySame ps qs) s t one.front other.front one.rest other.rest
      (sym one.stands ∙ other.stands)
      (λ x at. All-contains (SaySame ps qs) one.front x one.before at)
      (λ x at. All-contains (SaySame ps qs) other.front x other.before at) one.apart other.apart

  -- equal views say the same of each
  pub equal_say_same : (ps qs : List (Signal × ℕ)) (s : Signal) → ps ≡ qs → SaySame ps qs s
  equal_say_same ps qs s same =
      subst (λ rs. SaySame ps rs s) same (λ value. ((λ at. at), (λ at. at)))

module _ {Signal : Type 0} (first second : List (Environment Signal)) where
  -- what holds of the environments of a cycle, said twice
  both_there : (cycle : ℕ) (P Q : Environment Signal → Environment Signal → Type 0)
      → (one : AtCycle cycle first second P) → AtCycle cycle first second Q → Q one.one one.other
  both_there cycle P Q one other =
      subst (λ e. Q e one.other)
      (same_Some other.one one.one (sym other.in_first ∙ one.in_first))
      (subst (Q other.one)
      (same_Some other.other one.other (sym other.in_second ∙ one.in_second)) other.holds)

module _ {Signal Level : Type 0} (system : System Signal Level) (level : Level)
    (first second : List (Environment Signal)) where
  -- the views of a cycle differ
  abbrev Differ : ℕ → Type 0
  Differ cycle = AtCycle cycle first second (λ e f. view system level e ≡ view system level f → ⊥)

  differ_by : (cycle : ℕ) (P : Environment Signal → Environment Signal → Type 0)
      → ((e f : Environment Signal) → P e f → view system level e ≡ view system level f → ⊥)
      → AtCycle cycle first second P → Differ cycle
  differ_by cycle P apart there = record {
    one = there.one;
    other = there.other;
    in_first = there.in_first;
    in_second = there.in_second;
    holds = apart there.one there.other there.holds;
  }

  apart_inputs : (cycle : ℕ) (s : Signal) → AtCycle cycle first second (InputsApart system level cycle s)
      → Differ cycle
  apart_inputs cycle s there =
      differ_by cycle (InputsApart system level cycle s) (λ e f is same.
      is.apart (equal_say_same (seen (is_given system cycle) system level e)
      (seen (is_given system cycle) system level f) s
      (seen_in_view system level (is_given system cycle) e f same))) there

  apart_views : (cycle : ℕ) (s : Signal) → AtCycle cycle first second (ViewsApart system level cycle s) →
      Differ cycle
  apart_views cycle s there =
      differ_by cycle (ViewsApart system level cycle s) (λ e f is same.
      is.first.apart (equal_say_same (view system level e) (view system level f) s same)) there

  never : (cycles k : ℕ) → SameViews system level cycles first second → Differ k → k < cycles → ⊥
  never cycles k same there below =
      there.holds (same_at (view system level) first second cycles k there.one there.other below
      there.in_first there.in_second same)

  one_cycle : (j k : ℕ) → SameViews system level j first second → Differ j
      → SameViews system level k first second → Differ k → j ≡ k
  one_cycle j k one here other there =
      one_of j k (never k j other here) (never j k one there)

  inside_first : (k : ℕ) → Differ k → k < length first
  inside_first k there = slice_get_within first k there.one there.in_first

  inside_second : (k : ℕ) → Differ k → k < length second
  inside_second k there = slice_get_within second k there.other there.in_second

  -- where the views of all cycles are the same none differ
  not_equal : (cycles k : ℕ) → IsFound system level first second (equal cycles) → Differ k → ⊥
  not_equal cycles k is there =
      never cycles k is.2 there (subst (λ n. k < n) is.0 (inside_first k there))

  not_shorter : (cycles k : ℕ) → IsFound system level first second (lengths_differ cycles)
      → Differ k → ⊥
  not_shorter cycles k is there =
      let below = inside_first k there in
      let inside = inside_second k there in
      never cycles k is.2 there (let shorter = is.1 in omega arith)

  -- two that tell environments apart are of one cycle, and of the same environments
  both_of : (P Q : ℕ → Environment Signal → Environment Signal → Type 0)
      → ((k : ℕ) → AtCycle k first second (P k) → Differ k)
      → ((k : ℕ) → AtCycle k first second (Q k) → Differ k) → (j k : ℕ)
      → (one : SameViews system level j first second × AtCycle j first second (P j))
      → SameViews system level k first second × AtCycle k first second (Q k)
      → (j ≡ k) × Q j one.1.one one.1.other
  both_of P Q one_apart other_apart j k one other =
      let same = one_cycle j k one.0 (one_apart j one.1) other.0 (other_apart k other.1) in (
        same,
        both_there first second j (P j) (Q j) one.1
            (subst (λ n. AtCycle n first second (Q n)) (sym same) other.1),
      )

  -- and where they are of one kind they are one
  two_alike : (makes : ℕ → Signal → Finding Signal)
      (P : Signal → ℕ → Environment Signal → Environment Signal → Type 0)
      (sees : ℕ → Environment Signal → List (Signal × ℕ))
      → ((s : Signal) (k : ℕ) → AtCycle k first second (P s k) → Differ k)
      → ((s : Signal) (k : ℕ) (e f : Environment Signal) → P s k e f
      → IsFirstApart system.signals (sees k e) (sees k f) s)
      → (j k : ℕ) (s t : Signal)
      → SameViews system level j first second × AtCycle j first second (P s j)
      → SameViews system level k first second × AtCycle k first second (P t k)
      → makes j s ≡ makes k t
  two_alike makes P sees apart tells j k s t one other =
      let both = both_of (P s) (P t) (apart s) (apart t) j k one other in
      ap₂ makes both.0
      (one_signal system.signals (sees j one.1.one) (sees j one.1.other) s t
      (tells s j one.1.one one.1.other one.1.holds) (tells t j one.1.one one.1.other both.1))

  two_inputs : (j k : ℕ) (s t : Signal) → IsFound system level first second (inputs_differ j s)
      → IsFound system level first second (inputs_differ k t) → inputs_differ j s ≡ inputs_differ k t
  two_inputs =
      two_alike (λ n r. inputs_differ n r) (λ s n. InputsApart system level n s)
      (λ n. seen (is_given system n) system level) (λ s n. apart_inputs n s) (λ s n e f is. is)

  two_views : (j k : ℕ) (s t : Signal) → IsFound system level first second (views_differ j s)
      → IsFound system level first second (views_differ k t) → views_differ j s ≡ views_differ k t
  two_views =
      two_alike (λ n r. views_differ n r) (λ s n. ViewsApart system level n s)
      (λ n. view system level) (λ s n. apart_views n s) (λ s n e f is. is.first)

  inputs_or_views : (j k : ℕ) (s t : Signal)
      → IsFound system level first second (inputs_differ j s)
      → IsFound system level first second (views_differ k t) → ⊥
  inputs_or_views j k s t one other =
      let both = both_of (λ n. InputsApart system level n s) (λ n. ViewsApart system level n t)
      (λ n. apart_inputs n s) (λ n. apart_views n t) j k one other in
      one.1.holds.apart (equal_say_same (seen (is_given system j) system level one.1.one)
      (seen (is_given system j) system level one.1.other) s both.1.alike)

  pub one_finding : (a b : Finding Signal) → IsFound system level first second a
      → IsFound system level first second b → a ≡ b
  one_finding (equal m) (equal n) one other = ap equal (sym one.0 ∙ other.0)
  one_finding (equal m) (lengths_differ n) one other = absurd (other.0 (one.0 ∙ sym one.1))
  one_finding (equal m) (inputs_differ k t) one other =
      absurd (not_equal m k one (apart_inputs k t other.1))
  one_finding (equal m) (views_differ k t) one other =
      absurd (not_equal m k one (apart_views k t other.1))
  one_finding (lengths_differ m) (equal n) one other = absurd (one.0 (other.0 ∙ sym other.1))
  one_finding (lengths_differ m) (lengths_differ n) one other =
      ap lengths_differ (one.1 ∙ sym other.1)
  one_finding (lengths_differ m) (inputs_differ k t) one other =
      absurd (not_shorter m k one (apart_inputs k t other.1))
  one_finding (lengths_differ m) (views_differ k t) one other =
      absurd (not_shorter m k one (apart_views k t other.1))
  one_finding (inputs_differ j s) (equal n) one other =
      absurd (not_equal n j other (apart_inputs j s one.1))
  one_finding (inputs_differ j s) (lengths_differ n) one other =
      absurd (not_shorter n j other (apart_inputs j s one.1))
  one_finding (inputs_differ j s) (inputs_differ k t) one other = two_inputs j k s t one other
  one_finding (inputs_differ j s) (views_differ k t) one other =
      absurd (inputs_or_views j k s t one other)
  one_finding (views_differ j s) (equal n) one other =
      absurd (not_equal n j other (apart_views j s one.1))
  one_finding (views_differ j s) (lengths_differ n) one other =
      absurd (not_shorter n j other (apart_views j s one.1))
  one_finding (views_differ j s) (inputs_differ k t) one other =
      absurd (inputs_or_views k j t s other one)
  one_finding (views_differ j s) (views_differ k t) one other = two_views j k s t one other

same_number : (s t : SigId) → s.0 ≡ t.0 → s ≡ t
same_number s t same = ap (λ (n : ℕ). let made : SigId = record { 0 = n } in made) same

-- findings that have one plain form are one
same_plain : (a b : Compared) → finding a ≡ finding b → a ≡ b
same_plain (Equal m) (Equal n) same = ap Equal (let is : m ≡ n = cc in is)
same_plain (LengthsDiffer m) (LengthsDiffer n) same =
    ap LengthsDiffer (let is : m ≡ n = cc in is)
same_plain (InputsDiffer j s) (InputsDiffer k t) same =
    ap₂ (λ n r. InputsDiffer n r) (let is : j ≡ k = cc in is)
    (same_number s t (let is : s.0 ≡ t.0 = cc in is))
same_plain (ViewsDiffer j s) (ViewsDiffer k t) same =
    ap₂ (λ n r. ViewsDiffer n r) (let is : j ≡ k = cc in is)
    (same_number s t (let is : s.0 ≡ t.0 = cc in is))
same_plain (Equal m) (InputsDiffer k t) same = absurd (let clash : ⊥ = cc in clash)
same_plain (Equal m) (ViewsDiffer k t) same = absurd (let clash : ⊥ = cc in clash)
same_plain (Equal m) (LengthsDiffer n) same = absurd (let clash : ⊥ = cc in clash)
same_plain (InputsDiffer j s) (Equal n) same = absurd (let clash : ⊥ = cc in clash)
same_plain (InputsDiffer j s) (ViewsDiffer k t) same = absurd (let clash : ⊥ = cc in clash)
same_plain (InputsDiffer j s) (LengthsDiffer n) same = absurd (let clash : ⊥ = cc in clash)
same_plain (ViewsDiffer j s) (Equal n) same = absurd (let clash : ⊥ = cc in clash)
same_plain (ViewsDiffer j s) (InputsDiffer k t) same = absurd (let clash : ⊥ = cc in clash)
same_plain (ViewsDiffer j s) (LengthsDiffer n) same = absurd (let clash : ⊥ = cc in clash)
same_plain (LengthsDiffer m) (Equal n) same = absurd (let clash : ⊥ = cc in clash)
same_plain (LengthsDiffer m) (InputsDiffer k t) same = absurd (let clash : ⊥ = cc in clash)
same_plain (LengthsDiffer m) (ViewsDiffer k t) same = absurd (let clash : ⊥ = cc in clash)

pub one_comparison : (system : System ℕ Point) (level : Point)
    (first second : List (Environment ℕ)) (a b : Compared)
    → IsFound system level first second (finding a)
    → IsFound system level first second (finding b) → a ≡ b
one_comparison system level first second a b one other =
    same_plain a b
    (one_finding system level first second (finding a) (finding b) one other)
