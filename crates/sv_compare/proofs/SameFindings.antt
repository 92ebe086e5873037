-- Two systems with the same signals under two names, and environments of the one that say what
-- those of the other say: the comparison of their traces finds the same.
use Rattle.std.proofs.Common.{◌≡◌, ℕ, zero, suc, ◌==◌, min, Bool, true}
use Rattle.std.proofs.Common.{◌&&◌, ◌||◌, List, [], ◌∷◌, ◌++◌}
use Rattle.std.proofs.Common.{map, take, length, Some, refl, sym, ap, ap₂, subst, ◌∙◌}
use Rattle.std.specs.Prelude.{Contains, filter, slice_get}
use Rattle.std.specs.List.{AllZip}
use Rattle.std.proofs.lemmas.List.{map-append}
use Rattle.std.proofs.lemmas.List.Elements.{All-contains, All-map, Contains-append_left}
use Rattle.std.proofs.lemmas.List.Elements.{Contains-append_right}
use Rattle.sv_system.specs.System.{System, Environment, seen, view}
use Rattle.sv_system.proofs.JoinedViews.{told_as}
use Rattle.sv_system.proofs.Lists.{Contains-head, Contains-later, Contains-map, Contains-from_map}
use Rattle.sv_system.proofs.Pointwise.{each}
use Rattle.sv_flat.proofs.LeastSets.{Contains-from_filter}
use Rattle.sv_run_laws.proofs.SameSimulations.{filter_named}
use Rattle.sv_tworun.specs.Comparisons.{SaySame, IsFirstApart, is_given, InputsApart, ViewsApart}
use Rattle.sv_tworun.specs.Comparisons.{SameViews, AtCycle, IsFound}
use Rattle.sv_tworun.specs.Forms.{Finding, equal, inputs_differ, views_differ, lengths_differ}
use Rattle.sv_compare.specs.ComparedTexts.{with_names}

-- the second system has the signals of the first under other names, of the same kinds
pub record SameNames {X P Y Q : Type 0} (first : System X P) (second : System Y Q) (to : X → Y) :
    Type 0 where
  pub from : Y → X
  pub from_to : (s : X) → Contains first.signals s → from (to s) ≡ s
  pub signals : second.signals ≡ map to first.signals
  pub inputs : (s : X) → Contains first.signals s → first.is_input s ≡ second.is_input (to s)
  pub registers : (s : X) → Contains first.signals s →
      first.is_register s ≡ second.is_register (to s)

-- two environments give each signal one value, and a point of each system sees it in both or in
-- neither
pub record SayAlike {X P Y Q : Type 0} (first : System X P) (second : System Y Q) (to : X → Y)
    (point : P) (other : Q) (e : Environment X) (f : Environment Y) : Type 0 where
  pub values : (s : X) → Contains first.signals s → e s ≡ f (to s)
  pub sees : (s : X) → Contains first.signals s →
      first.flows (first.label s e) point ≡ second.flows (second.label (to s) f) other

-- what is told of the elements of a list, told of their other names
told_named : {X Y : Type 0} (to : X → Y) (e : X → ℕ) (f : Y → ℕ) (xs : List X)
    → ((x : X) → Contains xs x → e x ≡ f (to x))
    → map (λ y. (y, f y)) (map to xs) ≡ map (told_as to) (map (λ x. (x, e x)) xs)
told_named to e f [] same = refl
told_named to e f (x ∷ xs) same =
    ap₂ (λ v ps. (to x, v) ∷ ps) (sym (same x (Contains-head x xs)))
    (told_named to e f xs (λ y at. same y (Contains-later x xs y at)))

module _ {X P Y Q : Type 0} (first : System X P) (second : System Y Q) (to : X → Y)
    (names : SameNames first second to) (point : P) (other : Q) where
  abbrev Alike : Environment X → Environment Y → Type 0
  Alike e f = SayAlike first second to point other e f

  -- ---- views

  seen_over : (kind : X → Bool) (kinds : Y → Bool)
      → ((s : X) → Contains first.signals s → kind s ≡ kinds (to s))
      → (e : Environment X) (f : Environment Y) → Alike e f
      → seen kinds second other f ≡ map (told_as to) (seen kind first point e)
  seen_over kind kinds same e f alike =
      let test = λ (s : X). kind s && first.flows (first.label s e) point in
      let tests = λ (t : Y). kinds t && second.flows (second.label t f) other in
      ap (λ ts. map (λ t. (t, f t)) (filter tests ts)) names.signals
      ∙ ap (map (λ t. (t, f t)))
      (filter_named to test tests first.signals
      (λ s at. ap₂ (λ b c. b && c) (same s at) (alike.sees s at)))
      ∙ told_named to e f (filter test first.signals)
      (λ s at. alike.values s (Contains-from_filter test first.signals s at).1)

  view_over : (e : Environment X) (f : Environment Y) → Alike e f
      → view second other f ≡ map (told_as to) (view first point e)
  view_over e f alike = seen_over (λ s. true) (λ s. true) (λ s at. refl) e f alike

  views_over : (k : ℕ) (es : List (Environment X)) (fs : List (Environment Y)) → AllZip Alike es fs
      → map (view second other) (take k fs) ≡
      map (map (told_as to)) (map (view first point) (take k es))
  views_over zero es fs alike = refl
  views_over (suc k) [] [] alike = refl
  views_over (suc k) [] (f ∷ fs) alike = absurd alike
  views_over (suc k) (e ∷ es) [] alike = absurd alike
  views_over (suc k) (e ∷ es) (f ∷ fs) alike =
      ap₂ (λ v vs. v ∷ vs) (view_over e f alike.0) (views_over k es fs alike.1)

  -- ---- signals that are told apart

  -- only signals of the system are told of
  abbrev Within : List (X × ℕ) → Type 0
  Within ps = (s : X) (v : ℕ) → Contains ps (s, v) → Contains first.signals s

  seen_within : (kind : X → Bool) (e : Environment X) → Within (seen kind first point e)
  seen_within kind e s v at =
      let test = λ (t : X). kind t && first.flows (first.label t e) point in
      let found = Contains-from_map (λ (t : X). (t, e t)) (filter test first.signals) (s, v) at in
      subst (Contains first.signals) (ap (λ (pair : X × ℕ). pair.0) found.2)
      (Contains-from_filter test first.signals found.0 found.1).1

  told_back : (ps : List (X × ℕ)) → Within ps → (s : X) → Contains first.signals s → (v : ℕ)
      → Contains (map (told_as to) ps) (to s, v) → Contains ps (s, v)
  told_back ps within s here v at =
      let found = Contains-from_map (told_as to) ps (to s, v) at in
      let there = within (found.0).0 (found.0).1 found.1 in
      subst (λ t. Contains ps (t, v))
      (sym (names.from_to (found.0).0 there)
      ∙ ap (λ (pair : Y × ℕ). names.from pair.0) found.2 ∙ names.from_to s here)
      (subst (λ n. Contains ps ((found.0).0, n)) (ap (λ (pair : Y × ℕ). pair.1) found.2) found.1)

  module _ (ps qs : List (X × ℕ)) (one : Within ps) (two : Within qs) where
    abbrev Same : X → Type 0
    Same s = SaySame ps qs s

    abbrev SameTold : Y → Type 0
    SameTold t = SaySame (map (told_as to) ps) (map (told_as to) qs) t

    say_over : (s : X) → Contains first.signals s → Same s → SameTold (to s)
    say_over s here same v = (
      λ at. Contains-map (told_as to) qs (s, v) ((same v).0 (told_back ps one s here v at)),
      λ at. Contains-map (told_as to) ps (s, v) ((same v).1 (told_back qs two s here v at)),
    )

    say_back : (s : X) → Contains first.signals s → SameTold (to s) → Same s
    say_back s here same v = (
      λ at. told_back qs two s here v ((same v).0 (Contains-map (told_as to) ps (s, v) at)),
      λ at. told_back ps one s here v ((same v).1 (Contains-map (told_as to) qs (s, v) at)),
    )

    apart_over : (s : X) → IsFirstApart first.signals ps qs s
        → IsFirstApart second.signals (map (told_as to) ps) (map (told_as to) qs) (to s)
    apart_over s is =
        let here = λ (t : X) (at : Contains (is.front ++ s ∷ is.rest) t).
        subst (λ ss. Contains ss t) (sym is.stands) at in
        record {
          front = map to is.front;
          rest = map to is.rest;
          stands =
              names.signals ∙ ap (map to) is.stands ∙ map-append to is.front (s ∷ is.rest);
          apart = λ same. is.apart (say_back s
              (here s (Contains-append_right is.front (s ∷ is.rest) s
              (Contains-head s is.rest))) same);
          before = All-map SameTold to is.front (each (λ t. SameTold (to t)) is.front
              (λ t at. say_over t (here t (Contains-append_left is.front (s ∷ is.rest) t at))
              (All-contains Same is.front t is.before at)));
        }

  -- the same of what is seen of a kind
  seen_apart : (kind : X → Bool) (kinds : Y → Bool)
      → ((s : X) → Contains first.signals s → kind s ≡ kinds (to s))
      → (e g : Environment X) (f h : Environment Y) → Alike e f → Alike g h → (s : X)
      → IsFirstApart first.signals (seen kind first point e) (seen kind first point g) s
      → IsFirstApart second.signals (seen kinds second other f) (seen kinds second other h) (to s)
  seen_apart kind kinds same e g f h one two s is =
      subst (λ ps. IsFirstApart second.signals ps (seen kinds second other h) (to s))
      (sym (seen_over kind kinds same e f one))
      (subst (λ ps. IsFirstApart second.signals (map (told_as to) (seen kind first point e)) ps
      (to s))
      (sym (seen_over kind kinds same g h two))
      (apart_over (seen kind first point e) (seen kind first point g) (seen_within kind e)
      (seen_within kind g) s is))

  given_same : (cycle : ℕ) (s : X) → Contains first.signals s
      → is_given first cycle s ≡ is_given second cycle (to s)
  given_same cycle s at =
      ap₂ (λ b c. b || (cycle == 0) && c) (names.inputs s at) (names.registers s at)

  -- ---- traces

  length_over : (es : List (Environment X)) (fs : List (Environment Y)) → AllZip Alike es fs
      → length fs ≡ length es
  length_over [] [] alike = refl
  length_over [] (f ∷ fs) alike = absurd alike
  length_over (e ∷ es) [] alike = absurd alike
  length_over (e ∷ es) (f ∷ fs) alike = ap suc (length_over es fs alike.1)

  there_over : (k : ℕ) (es : List (Environment X)) (fs : List (Environment Y)) → AllZip Alike es fs
      → (e : Environment X) → slice_get es k ≡ Some e
      → (f : Environment Y) × (slice_get fs k ≡ Some f) × Alike e f
  there_over k [] [] alike e is = let clash : ⊥ = cc in absurd clash
  there_over k [] (f ∷ fs) alike e is = absurd alike
  there_over k (g ∷ es) [] alike e is = absurd alike
  there_over zero (g ∷ es) (f ∷ fs) alike e is =
      (f, refl, subst (λ h. Alike h f) (let same : g ≡ e = cc in same) alike.0)
  there_over (suc k) (g ∷ es) (f ∷ fs) alike e is = there_over k es fs alike.1 e is

  module _ (es gs : List (Environment X)) (fs hs : List (Environment Y)) (one : AllZip Alike es fs)
      (two : AllZip Alike gs hs) where
    same_views : (k : ℕ) → SameViews first point k es gs → SameViews second other k fs hs
    same_views k same =
        views_over k es fs one ∙ ap (map (map (told_as to))) same ∙ sym (views_over k gs hs two)

    at_cycle : (k : ℕ) (R : Environment X → Environment X → Type 0)
        (S : Environment Y → Environment Y → Type 0)
        → ((e g : Environment X) (f h : Environment Y) → Alike e f → Alike g h → R e g → S f h)
        → AtCycle k es gs R → AtCycle k fs hs S
    at_cycle k R S over is =
        let here = there_over k es fs one is.one is.in_first in
        let there = there_over k gs hs two is.other is.in_second in
        record {
          one = here.0;
          other = there.0;
          in_first = here.1;
          in_second = there.1;
          holds = over is.one is.other here.0 there.0 here.2 there.2 is.holds;
        }

    -- what is found of the one is found of the other, under the other names
    pub found_over : (found : Finding X) → IsFound first point es gs found
        → IsFound second other fs hs (with_names to found)
    found_over (equal cycles) is = (
      length_over es fs one ∙ is.0,
      length_over gs hs two ∙ is.1,
      same_views cycles is.2,
    )
    found_over (inputs_differ cycle s) is = (
      same_views cycle is.0,
      at_cycle cycle (InputsApart first point cycle s) (InputsApart second other cycle (to s))
          (λ e g f h here there apart.
          seen_apart (is_given first cycle) (is_given second cycle) (given_same cycle) e g f h here
          there s apart)
          is.1,
    )
    found_over (views_differ cycle s) is = (
      same_views cycle is.0,
      at_cycle cycle (ViewsApart first point cycle s) (ViewsApart second other cycle (to s))
          (λ e g f h here there apart. record {
            alike =
                seen_over (is_given first cycle) (is_given second cycle) (given_same cycle) e f here
                ∙ ap (map (told_as to)) apart.alike
                ∙ sym (seen_over (is_given first cycle) (is_given second cycle) (given_same cycle)
                g h there);
            first = seen_apart (λ t. true) (λ t. true) (λ t at. refl) e g f h here there s
                apart.first;
          })
          is.1,
    )
    found_over (lengths_differ cycles) is =
        let left = length_over es fs one in
        let right = length_over gs hs two in (
          λ same. is.0 (sym left ∙ same ∙ right),
          is.1 ∙ sym (ap₂ (λ m n. min m n) left right),
          same_views cycles is.2,
        )
