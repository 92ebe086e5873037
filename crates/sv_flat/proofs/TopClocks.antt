-- Where links by whole names lead to earlier signals, a clock leads up to one that is an input of the
-- top module.
use Rattle.std.proofs.Common.{◌≡◌, ℕ, zero, suc, ◌<◌, Bool, true, false, ◌&&◌, ◌||◌, ◌==◌, List}
use Rattle.std.proofs.Common.{[], ◌∷◌, length, find, cond, ⊎_elim, refl, sym, ap, subst, ◌∙◌, Some}
use Rattle.std.proofs.Common.{None, ◌⊎◌, inl, inr, arith}
use Rattle.std.specs.Prelude.{Contains, IsTrue}
use Rattle.std.specs.List.{list_any}
use Rattle.std.proofs.lemmas.Bool.{or_left, eqb-true, eq-eqb}
use Rattle.std.proofs.lemmas.Option.{none-some}
use Rattle.sv_system.proofs.Lists.{Contains-head, Contains-nil, Contains-cases}
use Rattle.sv_flat.specs.Design.{FlatDesign}
use Rattle.sv_flat.specs.Soundness.{sound}
use Rattle.sv_flat.specs.Values.{signal_of}
use Rattle.sv_flat.specs.Processes.{signals_that, is_top_input}
use Rattle.sv_flat.specs.Clocks.{is_edge, links_in, links_out, lists_pair, makes_clock, clocks}
use Rattle.sv_flat.specs.Clocks.{is_clock, is_linked, is_one_bit_input, agrees_with_earlier}
use Rattle.sv_flat.specs.Clocks.{is_clock_alone, is_least_label}
use Rattle.sv_flat.specs.SignalLists.{top_clock}
use Rattle.sv_flat.specs.Admission.{IsAdmitted}
use Rattle.sv_flat.proofs.LeastSets.{or_cases, some_from, from_some, holds-from_Contains}
use Rattle.sv_flat.proofs.LeastSets.{those_below, least_set_closed, least_set_below}
use Rattle.sv_flat.proofs.AdmittedFacts.{and_true, proper}
use Rattle.sv_flat.proofs.Depths.{first_of, second_of}

found_none : {X : Type 0} (test : X → Bool) (xs : List X) → find test xs ≡ None → (x : X) →
    Contains xs x → IsTrue (test x) → ⊥
found_none test [] none x at passes = Contains-nil x at
found_none test (y ∷ xs) none x at passes =
    by (test y) refl (λ left later. found_none test xs left x later passes) (Contains-cases y xs x at)
  where
    by : (b : Bool) → test y ≡ b → (find test xs ≡ None → Contains xs x → ⊥)
        → (y ≡ x) ⊎ Contains xs x → ⊥
    by true is others either = none-some y (sym none ∙ ap (λ b. cond b (Some y) (find test xs)) is)
    by false is others (inl same) =
        let no : IsTrue false =
        subst (λ b. IsTrue b) is (subst (λ z. IsTrue (test z)) (sym same) passes) in
        absurd (cc no)
    by false is others (inr later) =
        others (sym (ap (λ b. cond b (Some y) (find test xs)) is) ∙ none) later

module _ (design : FlatDesign) (is_sound : IsTrue (sound design)) (admitted : IsAdmitted design)
    (up : (port name : ℕ) → Contains (links_in design) (port, name) → name < port) where
  linked : (s : ℕ) → IsTrue (is_clock design s) → IsTrue (is_linked design s)
  linked s clock =
      let shape = is_one_bit_input design s && is_linked design s in
      second_of (is_one_bit_input design s) (is_linked design s)
      (first_of shape (agrees_with_earlier design s)
      (first_of (shape && agrees_with_earlier design s) (is_clock_alone design s)
      (first_of (shape && agrees_with_earlier design s && is_clock_alone design s)
      (is_least_label design.lattice (signal_of design.signals s).label)
      (proper design is_sound admitted s clock))))

  edges_within : (k : ℕ) → Contains (signals_that design (is_edge design)) k →
      k < length design.signals
  edges_within k at = those_below (length design.signals) (is_edge design) k at

  -- a clock that is an input of the top module
  abbrev HasTop : Type 0
  HasTop = (t : ℕ) × Contains (clocks design) t × IsTrue (is_top_input design t)

  leads_up : (n s : ℕ) → s < n → Contains (clocks design) s → HasTop
  leads_up zero s below at = absurd (omega (arith, below))
  leads_up (suc n) s below at = ⊎_elim
      (λ top. (s, at, top))
      (λ link.
      let found = from_some (λ (pair : ℕ × ℕ). pair.0 == s) (links_in design) link in
      let name = found.0.1 in
      let same : found.0.0 ≡ s = eqb-true found.0.0 s found.2 in
      let lower : name < found.0.0 = up found.0.0 name found.1 in
      let earlier : name < s = subst (λ k. name < k) same lower in
      let inside : s < length design.signals =
      least_set_below (length design.signals) (makes_clock design)
      (signals_that design (is_edge design)) edges_within s at in
      let listed : IsTrue (lists_pair (links_in design) s name) =
      some_from (λ (pair : ℕ × ℕ). (pair.0 == s) && (pair.1 == name)) (links_in design) found.0
      found.1 (and_true (found.0.0 == s) (name == name) found.2 (eq-eqb name name refl)) in
      let brings : IsTrue (makes_clock design s name) =
      or_left (lists_pair (links_in design) s name || lists_pair (links_out design) name s)
      (lists_pair (links_in design) name s)
      (or_left (lists_pair (links_in design) s name) (lists_pair (links_out design) name s)
      listed) in
      leads_up n name (omega (arith, earlier, below))
      (least_set_closed (length design.signals) (makes_clock design)
      (signals_that design (is_edge design)) edges_within s name at brings
      (omega (arith, earlier, inside))))
      (or_cases (is_top_input design s)
      (list_any (λ (pair : ℕ × ℕ). pair.0 == s) (links_in design))
      (linked s (holds-from_Contains (clocks design) s at)))

  pub no_top_no_clock : top_clock design ≡ None → clocks design ≡ []
  no_top_no_clock none = by (clocks design) refl
    where
      by : (set : List ℕ) → clocks design ≡ set → clocks design ≡ []
      by [] is = is
      by (s ∷ set) is =
          let at : Contains (clocks design) s =
          subst (λ xs. Contains xs s) (sym is) (Contains-head s set) in
          let top = leads_up (suc s) s (omega arith) at in
          absurd (found_none (is_top_input design) (clocks design) none top.0 top.1 top.2)

  pub no_clock_no_top : clocks design ≡ [] → top_clock design ≡ None
  no_clock_no_top none = ap (find (is_top_input design)) none
