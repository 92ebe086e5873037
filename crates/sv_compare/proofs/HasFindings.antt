-- The comparison of any two traces of an admitted design finds something.
use Rattle.std.proofs.Common.{◌≡◌, ℕ, zero, suc, ◌+◌, Bool, true, not, ◌&&◌, ◌==◌}
use Rattle.std.proofs.Common.{List, [], ◌∷◌, length, drop, Option, Some, None, ◌⊎◌, inl, inr}
use Rattle.std.proofs.Common.{⊎_elim, refl, sym, ap, subst, ◌∙◌, arith}
use Rattle.std.specs.Prelude.{IsTrue, find, slice_get}
use Rattle.sv_system.specs.System.{System, Environment, seen, view}
use Rattle.sv_system.proofs.Lists.{told_same}
use Rattle.sv_lattice.specs.declared.points.Point.{Point}
use Rattle.sv_flat.specs.Clocks.{is_clock}
use Rattle.sv_flat.specs.Design.{FlatDesign}
use Rattle.sv_flat.specs.FlatSystem.{flat_system}
use Rattle.sv_flat.specs.Processes.{is_top_input}
use Rattle.sv_flat.specs.Sets.{those}
use Rattle.sv_flat.proofs.Depths.{second_of}
use Rattle.sv_flat.proofs.LeastSets.{or_cases, those_pass}
use Rattle.sv_design.specs.Designs.{IsDesign}
use Rattle.sv_sim.proofs.OneDesign.{register_no_clock}
use Rattle.sv_tworun.specs.Comparisons.{is_given, IsFirstApart, InputsApart, ViewsApart}
use Rattle.sv_tworun.specs.Comparisons.{SameViews, IsFound}
use Rattle.sv_tworun.specs.Forms.{Finding, equal, inputs_differ, views_differ, lengths_differ}
use Rattle.sv_tworun.specs.Sights.{differs, FindsFirst}
use Rattle.sv_tworun.proofs.ApartFacts.{first_found, first_apart, none_apart}
use Rattle.sv_tworun.proofs.TraceFacts.{there_after, same_more}

module _ (design : FlatDesign) (is : IsDesign design) (level : Point) where
  abbrev system : System ℕ Point
  system = flat_system design

  abbrev count : ℕ
  count = length design.signals

  abbrev unclocked : ℕ → Bool
  unclocked s = not (is_clock design s)

  given_unclocked : (cycle s : ℕ) → IsTrue (is_given system cycle s) → IsTrue (unclocked s)
  given_unclocked cycle s given = ⊎_elim
      (λ input. second_of (is_top_input design s) (unclocked s) input)
      (λ register. ap not (register_no_clock design is.is_sound is.is_admitted s
      (second_of (cycle == 0) (system.is_register s) register)))
      (or_cases (system.is_input s) ((cycle == 0) && system.is_register s) given)

  -- ---- one cycle

  module _ (e f : Environment ℕ) where
    abbrev test : ℕ → Bool
    test s = differs system level e f s

    abbrev Finds : (kind : ℕ → Bool) → Option ℕ → Type 0
    Finds kind answer = FindsFirst count (λ s. kind s && test s) answer

    searched : (kind : ℕ → Bool) → Finds kind (find test (those count kind))
    searched kind =
        first_found kind test count (those count kind) (find test (those count kind)) refl refl

    -- every signal of the system is no clock
    all_seen : (g : Environment ℕ) → seen unclocked system level g ≡ view system level g
    all_seen g =
        told_same (λ s. unclocked s && system.flows (system.label s g) level) (λ s.
        true && system.flows (system.label s g) level) g g system.signals
        (λ s at. ap (λ b. b && system.flows (system.label s g) level)
        (those_pass count unclocked s at))
        (λ s at visible. refl)

    -- what is given differs, or it is alike and the views differ, or they are alike too
    abbrev Shown : ℕ → Type 0
    Shown cycle =
        ((s : ℕ) × InputsApart system level cycle s e f)
        ⊎ (((s : ℕ) × ViewsApart system level cycle s e f)
        ⊎ (view system level e ≡ view system level f))

    shown_by_views : (cycle : ℕ) → seen (is_given system cycle) system level e ≡
        seen (is_given system cycle) system level f
        → (answer : Option ℕ) → Finds unclocked answer → Shown cycle
    shown_by_views cycle alike (Some s) first =
        let apart = first_apart system level count unclocked refl unclocked (λ t here. here) e f s
        first in
        inr (inl (
          s,
          record {
            alike = alike;
            first =
                subst (λ ps. IsFirstApart system.signals ps (view system level f) s) (all_seen e)
                (subst (λ ps. IsFirstApart system.signals (seen unclocked system level e) ps s)
                (all_seen f) apart);
          },
        ))
    shown_by_views cycle alike None none =
        inr (inr (sym (all_seen e)
        ∙ none_apart system level count unclocked refl unclocked (λ t here. here) e f none
        ∙ all_seen f))

    shown_by : (cycle : ℕ) → (answer : Option ℕ) → Finds (is_given system cycle) answer
        → Shown cycle
    shown_by cycle (Some s) first =
        inl (
          s,
          first_apart system level count unclocked refl (is_given system cycle)
              (given_unclocked cycle) e f s first,
        )
    shown_by cycle None none =
        shown_by_views cycle
        (none_apart system level count unclocked refl (is_given system cycle)
        (given_unclocked cycle) e f none)
        (find test (those count unclocked)) (searched unclocked)

    shown : (cycle : ℕ) → Shown cycle
    shown cycle =
        shown_by cycle (find test (those count (is_given system cycle)))
        (searched (is_given system cycle))

  -- ---- traces

  module _ (first second : List (Environment ℕ)) where
    abbrev Has : Type 0
    Has = (found : Finding ℕ) × IsFound system level first second found

    -- what is left of both from a cycle on, where the views so far were equal
    has_from : (k : ℕ) (es fs : List (Environment ℕ)) → drop k first ≡ es → drop k second ≡ fs
        → length first ≡ k + length es → length second ≡ k + length fs
        → SameViews system level k first second → Has
    has_from k [] [] one two m n same =
        (equal k, (omega (arith, m), omega (arith, n), same))
    has_from k [] (f ∷ fs) one two m n same =
        (lengths_differ k, (λ e. omega (arith, m, n, e), omega (arith, m, n), same))
    has_from k (e ∷ es) [] one two m n same =
        (lengths_differ k, (λ g. omega (arith, m, n, g), omega (arith, m, n), same))
    has_from k (e ∷ es) (f ∷ fs) one two m n same =
        let here = there_after first k e es one in
        let there = there_after second k f fs two in
        go (shown e f k) here.0 there.0
        (λ v. has_from (suc k) es fs here.1 there.1 (omega (arith, m)) (omega (arith, n))
        (same_more (view system level) first second k e f here.0 there.0 same v))
      where
        go : Shown e f k → slice_get first k ≡ Some e → slice_get second k ≡ Some f
            → (view system level e ≡ view system level f → Has) → Has
        go (inl (s, apart)) here there later = (
          inputs_differ k s,
          (same, record { one = e; other = f; in_first = here; in_second = there; holds = apart }),
        )
        go (inr (inl (s, apart))) here there later = (
          views_differ k s,
          (same, record { one = e; other = f; in_first = here; in_second = there; holds = apart }),
        )
        go (inr (inr v)) here there later = later v

    pub has_finding : Has
    has_finding = has_from zero first second refl refl (plain (length first))
        (plain (length second)) refl
      where
        plain : (n : ℕ) → n ≡ 0 + n
        plain n = omega arith
