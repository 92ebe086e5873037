-- What a process without an earlier read takes for its target is what the target's slice takes.
use Rattle.std.proofs.Common.{◌≡◌, ℕ, zero, suc, ◌+◌, ◌<◌, Bool, true, false, cond, ◌||◌}
use Rattle.std.proofs.Common.{List, [], ◌∷◌, length, refl, sym, ap, ap₂, subst, ◌∙◌}
use Rattle.std.proofs.Common.{arith, ltb-true, None}
use Rattle.std.specs.Prelude.{Contains, IsTrue}
use Rattle.std.specs.List.{list_any, list_all}
use Rattle.sv_system.proofs.Lists.{Contains-head}
use Rattle.sv_flat.specs.Design.{SignalForm, TypedTree, FlatStatement, nothing, after, assign}
use Rattle.sv_flat.specs.Design.{branch, ProcessForm, FlatDesign}
use Rattle.sv_flat.specs.Values.{signal_width, expression_width}
use Rattle.sv_flat.specs.Soundness.{is_signal, piece_fits, well_formed, statement_sound, sound}
use Rattle.sv_flat.specs.Assigned.{assigns}
use Rattle.sv_flat.specs.Readings.{no_bits}
use Rattle.sv_flat.specs.Processes.{is_block, drivers}
use Rattle.sv_flat.specs.Clocks.{processes_of}
use Rattle.sv_flat.specs.Reads.{wants, followed}
use Rattle.sv_flat.specs.Sets.{holds, those, with_all_brought, least_set}
use Rattle.sv_flat.specs.Admission.{IsAdmitted}
use Rattle.sv_flat.proofs.LeastSets.{Contains-from_holds, in_those}
use Rattle.sv_flat.proofs.LeastSets.{holds-from_Contains, those_pass, Contains-from_filter}
use Rattle.sv_flat.proofs.Depths.{first_of, second_of}
use Rattle.sv_flat.proofs.AdmittedFacts.{body_is_sound}
use Rattle.sv_rules.proofs.Sound.{branch_sound}
use Rattle.sv_obl.specs.MarkedBodies.{AllSettled, IsMarkedFor}
use Rattle.sv_obl.specs.BodySlices.{sliced, SameParts, first_body, driven_body}
use Rattle.sv_obl.specs.Wanted.{with_copies, marked}
use Rattle.sv_obl.proofs.MadeFacts.{follows_itself}
use Rattle.sv_obl.proofs.PutFacts.{width_settled}
use Rattle.sv_obl.proofs.SliceFacts.{same_parts_sized}
use Rattle.sv_obl.proofs.TargetReads.{follows_alone}
use Rattle.sv_obl.proofs.Unchanged.{marked_itself}
use Rattle.sv_encoding.specs.Sizes.{expression_size, chain_size, truth_size, widths_of, statement_size}
use Rattle.sv_encoding.specs.Sizes.{process_size, size_of_first, signal_size}
use Rattle.sv_encoding_laws.proofs.GateCounts.{mapped_more}
use Rattle.sv_blast.specs.SliceSizes.{slice_size}
use Rattle.sv_blast.proofs.SizeSums.{one_in_range}
use Rattle.sv_blast.proofs.RenamedSizes.{size_same}

-- ---- parts in a sequence

module _ (signals : List SignalForm) (width : ℕ) where
  -- statements with the same parts
  pub same_parts_size : (one other : FlatStatement) → SameParts one other →
      slice_size signals width one ≡ slice_size signals width other
  same_parts_size =
      same_parts_sized (slice_size signals width) refl (λ a b. refl)
      (λ place condition a b first second. omega (arith, first, second))

-- ---- a statement for one target

module _ (signals : List SignalForm) (s : ℕ) where
  both_same : (t : ℕ) → IsTrue (is_signal signals t) →
      signal_width (with_copies signals) t ≡ signal_width signals t
  both_same t known = width_settled signals t (ltb-true t (length signals) known)

  condition_same : (e : TypedTree) → IsTrue (well_formed signals e) →
      truth_size (with_copies signals) e ≡ truth_size signals e
  condition_same e h =
      ap (λ n. n + chain_size (expression_width e))
      (size_same signals (with_copies signals) both_same e h)

  sliced_size : (body : FlatStatement) → IsTrue (statement_sound signals body) →
      statement_size signals (s ∷ []) body
      ≡ slice_size signals (signal_width signals s) (sliced s body)
  sliced_size nothing h = refl
  sliced_size (after first second) h =
      ap₂ ◌+◌
      (sliced_size first
      (first_of (statement_sound signals first) (statement_sound signals second) h))
      (sliced_size second
      (second_of (statement_sound signals first) (statement_sound signals second) h))
  sliced_size (assign pieces place blocking right) h =
      by (assigns (assign pieces place blocking right) s)
    where
      formed : IsTrue (well_formed signals right)
      formed = first_of (well_formed signals right)
          (list_all (piece_fits signals right) pieces) h

      by : (c : Bool) →
          cond (c || false) (expression_size (with_copies signals) right) 0
          ≡ slice_size signals (signal_width signals s)
          (cond c (assign pieces place blocking right) nothing)
      by true = size_same signals (with_copies signals) both_same right formed
      by false = refl
  sliced_size (branch place condition first second) h =
      let (formed, sound_first, sound_second) =
      branch_sound signals place condition first second h in
      by formed (assigns (branch place condition first second) s)
      (sliced_size first sound_first) (sliced_size second sound_second)
    where
      width : ℕ
      width = signal_width signals s

      by : IsTrue (well_formed signals condition) → (c : Bool) →
          statement_size signals (s ∷ []) first ≡ slice_size signals width (sliced s first) →
          statement_size signals (s ∷ []) second ≡ slice_size signals width (sliced s second) →
          cond (c || false)
          (truth_size (with_copies signals) condition + statement_size signals (s ∷ []) first
          + statement_size signals (s ∷ []) second + widths_of signals (cond c (s ∷ []) [])) 0
          ≡ slice_size signals width
          (cond c (branch place condition (sliced s first) (sliced s second)) nothing)
      by formed true one two =
          omega (
            arith,
            condition_same condition formed,
            one,
            two,
            mapped_more (signal_width signals) s [],
          )
      by formed false one two = refl

-- ---- what is followed

least_alone : (n : ℕ) (brings : ℕ → ℕ → Bool) (s : ℕ) → s < n →
    IsTrue (holds (least_set n brings (s ∷ [])) s) →
    ((k : ℕ) → IsTrue (holds (least_set n brings (s ∷ [])) k) → k ≡ s) →
    least_set n brings (s ∷ []) ≡ s ∷ []
least_alone zero brings s low has only = absurd (omega arith)
least_alone (suc m) brings s low has only =
    let before = with_all_brought (suc m) brings (s ∷ []) m in
    let test = λ (k : ℕ). holds before k || list_any (λ t. brings t k) before in
    one_in_range test s 0 (suc m) (omega arith) (omega arith)
    (those_pass (suc m) test s (Contains-from_holds (those (suc m) test) s has))
    (λ k l h t. only k (holds-from_Contains (those (suc m) test) k
    (in_those (suc m) test k (omega arith) t)))

module _ (design : FlatDesign) (is_sound : IsTrue (sound design)) (admitted : IsAdmitted design)
    (s : ℕ) (known : s < length design.signals) where
  module _ (p : ProcessForm) (at : Contains (processes_of design) p)
      (own : IsTrue (assigns p.body s)) (all_settled : AllSettled design.signals p) where
    -- no value is an earlier one, so the signal alone is followed
    only_itself : (u : ℕ) → IsTrue (holds (followed design p s) u) → u ≡ s
    only_itself u held =
        sym (follows_alone design p s known all_settled u
        (Contains-from_holds (followed design p s) u held))

    pub followed_alone : followed design p s ≡ s ∷ []
    followed_alone =
        least_alone (length design.signals) (wants design p) s known
        (follows_itself design is_sound admitted p s at own) only_itself

    pub marked_is_itself : marked design.signals (is_block p.kind) p.body no_bits ≡ p.body
    marked_is_itself =
        marked_itself design.signals (is_block p.kind) p.body no_bits no_bits all_settled

    process_slice_size : process_size design s p
        ≡ slice_size design.signals (signal_width design.signals s) (sliced s p.body)
    process_slice_size =
        ap₂ (statement_size design.signals) followed_alone marked_is_itself
        ∙ sliced_size design.signals s p.body (body_is_sound design is_sound admitted p at)

  -- what the target's slice takes, where its process has no earlier read
  pub slice_takes : IsMarkedFor design s None → (slice : FlatStatement) →
      SameParts slice (sliced s (driven_body design s)) →
      slice_size design.signals (signal_width design.signals s) slice ≡ signal_size design s
  slice_takes unmarked slice same =
      same_parts_size design.signals width slice (sliced s (driven_body design s)) same
      ∙ by (drivers (processes_of design) s) refl
    where
      width : ℕ
      width = signal_width design.signals s

      by : (ps : List ProcessForm) → drivers (processes_of design) s ≡ ps →
          slice_size design.signals width (sliced s (first_body ps)) ≡ size_of_first design s ps
      by [] is = refl
      by (p ∷ ps) is =
          let found = Contains-from_filter (λ (q : ProcessForm). assigns q.body s)
          (processes_of design) p
          (subst (λ qs. Contains qs p) (sym is) (Contains-head p ps)) in
          sym (process_slice_size p found.1 found.0 (unmarked p found.1 found.0))
