-- A sound and admitted design meets what the law on schedules asks: every order of its
-- combinational processes comes to one settled environment.
use Rattle.std.proofs.Common.{◌≡◌, ℕ, ◌<◌, Bool, true, false, not, ◌&&◌, ◌||◌, ◌==◌, nat_le}
use Rattle.std.proofs.Common.{leb-true, ltb-true, lt-ltb, List, [], length, map, inl, inr, ⊎_elim}
use Rattle.std.proofs.Common.{refl, sym, ap, subst, arith}
use Rattle.std.specs.Prelude.{Contains, IsTrue, IsFalse}
use Rattle.std.proofs.lemmas.Bool.{false≢true, or_left, eq-eqb, le-leb}
use Rattle.sv_system.specs.System.{Environment}
use Rattle.sv_system.specs.Facts.{IsCombinational}
use Rattle.sv_system.specs.Schedules.{Block, Scheduled}
use Rattle.sv_system.proofs.Lists.{Contains-filter, Contains-map, Contains-from_map, map_map}
use Rattle.sv_flat.specs.Design.{ProcessForm, FlatDesign}
use Rattle.sv_flat.specs.Values.{signal_width}
use Rattle.sv_flat.specs.Soundness.{is_signal, sound}
use Rattle.sv_flat.specs.Assigned.{assigns, always_assigns}
use Rattle.sv_flat.specs.Processes.{is_clocked, is_top_input, is_register, signals_that}
use Rattle.sv_flat.specs.Clocks.{is_clock, processes_of}
use Rattle.sv_flat.specs.Reads.{is_combinational, is_read_for, depth}
use Rattle.sv_flat.specs.FlatSystem.{flat_system, combinational_processes, run_of}
use Rattle.sv_flat.specs.Admission.{IsAdmitted}
use Rattle.sv_flat.proofs.LeastSets.{either_way, some_from, in_those, those_below, those_pass}
use Rattle.sv_flat.proofs.LeastSets.{Contains-from_filter}
use Rattle.sv_flat.proofs.Depths.{first_of, second_of, reads_are_lower}
use Rattle.sv_flat.proofs.SameRuns.{or_none_left, or_none_right, none_found, run_leaves}
use Rattle.sv_flat.proofs.AdmittedFacts.{and_true, none_of_three, negated_true, some_width}
use Rattle.sv_flat.proofs.AdmittedFacts.{body_is_sound, assigned_is_signal}
use Rattle.sv_flat.proofs.AdmittedFacts.{targets_are_combinational, combinational_is_driven}
use Rattle.sv_flat.proofs.RunReads.{same_values}

no_input_alone : (a b : Bool) → IsFalse b → IsFalse (a && not b) → IsFalse a
no_input_alone true true h k = absurd (false≢true (sym h))
no_input_alone true false h k = k
no_input_alone false b h k = refl

module _ (design : FlatDesign) (is_sound : IsTrue (sound design))
    (admitted : IsAdmitted design) where
  -- a process with the signals that it assigns
  abbrev block_of : ProcessForm → Block ℕ
  block_of p = record { targets = signals_that design (assigns p.body); run = run_of design p }

  abbrev all_blocks : List (Block ℕ)
  all_blocks = map block_of (combinational_processes design)

  pub in_processes : (p : ProcessForm) → Contains (combinational_processes design) p →
      Contains (processes_of design) p
  in_processes p at =
      (Contains-from_filter (λ (q : ProcessForm).
      not (is_clocked q.kind)) (processes_of design) p at).1

  pub unclocked : (p : ProcessForm) → Contains (combinational_processes design) p →
      IsFalse (is_clocked p.kind)
  unclocked p at = negated_true (is_clocked p.kind)
      (Contains-from_filter (λ (q : ProcessForm).
      not (is_clocked q.kind)) (processes_of design) p at).0

  pub parts_of : (s : ℕ) → IsTrue (is_combinational design s)
      → IsTrue (is_signal design.signals s) × IsFalse (is_top_input design s)
      × IsFalse (is_register design s) × IsFalse (is_clock design s)
  parts_of s comb =
      let three = is_top_input design s || is_register design s || is_clock design s in
      let none = negated_true three (second_of (is_signal design.signals s) (not three) comb) in
      let two = or_none_left (is_top_input design s || is_register design s) (is_clock design s)
      none in (
        first_of (is_signal design.signals s) (not three) comb,
        or_none_left (is_top_input design s) (is_register design s) two,
        or_none_right (is_top_input design s) (is_register design s) two,
        or_none_right (is_top_input design s || is_register design s) (is_clock design s) none,
      )

  -- the system's combinational signals are those of the design
  pub to_system : (s : ℕ) → IsTrue (is_combinational design s) →
      IsCombinational (flat_system design) s
  to_system s comb =
      let parts = parts_of s comb in
      record {
        among =
            in_those (length design.signals) (λ z.
            not (is_clock design z)) s (ltb-true s (length design.signals) parts.0)
            (ap not parts.3);
        no_input = ap (λ b. b && not (is_clock design s)) parts.1;
        no_register = parts.2;
      }

  pub of_system : (s : ℕ) → IsCombinational (flat_system design) s →
      IsTrue (is_combinational design s)
  of_system s is =
      let no_clock = negated_true (is_clock design s)
      (those_pass (length design.signals) (λ z. not (is_clock design z)) s is.among) in
      let below = those_below (length design.signals) (λ z. not (is_clock design z)) s is.among in
      and_true (is_signal design.signals s)
      (not (is_top_input design s || is_register design s || is_clock design s))
      (lt-ltb s (length design.signals) below)
      (none_of_three (is_top_input design s) (is_register design s) (is_clock design s)
      (no_input_alone (is_top_input design s) (is_clock design s) no_clock is.no_input)
      is.no_register no_clock)

  -- ---- one process

  module _ (p : ProcessForm) (at : Contains (combinational_processes design) p) (s : ℕ)
      (assigned : IsTrue (assigns p.body s))
      (e f : Environment ℕ)
      (inputs : (t : ℕ) → IsTrue (is_top_input design t && not (is_clock design t)) → e t ≡ f t)
      (registers : (t : ℕ) → IsTrue (is_register design t) → e t ≡ f t)
      (lower : (t : ℕ) → IsFalse (assigns p.body t) → IsTrue (is_combinational design t) →
      depth design t < depth design s → e t ≡ f t) where
    process : Contains (processes_of design) p
    process = in_processes p at

    combinational : (t : ℕ) → IsTrue (assigns p.body t) → IsTrue (is_combinational design t)
    combinational t h =
        targets_are_combinational design is_sound admitted p t process (unclocked p at) h

    -- the signals that lie no higher
    abbrev is_no_higher : ℕ → Bool
    is_no_higher t = nat_le (depth design t) (depth design s)

    -- what is read for a target that lies no higher lies lower
    below_target : (t r : ℕ) → IsTrue (is_no_higher t) → IsTrue (assigns p.body t)
        → IsTrue (is_signal design.signals r)
        → IsTrue (is_read_for design t r) → depth design r < depth design s
    below_target t r among own inside read =
        let falls = reads_are_lower design admitted.ordered t r (combinational t own)
        (ltb-true r (length design.signals) inside) read in
        let most = leb-true (depth design t) (depth design s) among in
        omega arith

    pub same_target : run_of design p e s ≡ run_of design p f s
    same_target =
        same_values design is_sound admitted p process (unclocked p at) is_no_higher e f inputs
        registers
        (λ t r among own own_r read.
        let falls = below_target t r among own
        (assigned_is_signal design.signals p.body
        (body_is_sound design is_sound admitted p process) r own_r) read in
        le-leb (depth design r) (depth design s) (omega arith))
        (λ t r among own out comb read.
        lower r out comb (below_target t r among own
        (first_of (is_signal design.signals r)
        (not (is_top_input design r || is_register design r || is_clock design r)) comb) read))
        s assigned (le-leb (depth design s) (depth design s) (omega arith))

  -- ---- the law's premises

  abbrev FromLower : Block ℕ → Type 0
  FromLower b = (s : ℕ) → Contains b.targets s → (e f : Environment ℕ)
      → ((t : ℕ) → IsTrue (is_top_input design t && not (is_clock design t)) → e t ≡ f t)
      → ((t : ℕ) → IsTrue (is_register design t) → e t ≡ f t)
      → ((t : ℕ) → IsCombinational (flat_system design) t → depth design t < depth design s
      → e t ≡ f t)
      → b.run e s ≡ b.run f s

  from_lower : (p : ProcessForm) → Contains (combinational_processes design) p →
      FromLower (block_of p)
  from_lower p at s target e f inputs registers lower =
      same_target p at s (those_pass (length design.signals) (assigns p.body) s target) e f inputs
      registers
      (λ t out comb falls. lower t (to_system t comb) falls)

  leaves_others : (p : ProcessForm) → Contains (combinational_processes design) p
      → (e : Environment ℕ) (s : ℕ)
      → (Contains (signals_that design (assigns p.body)) s → ⊥) → run_of design p e s ≡ e s
  leaves_others p at e s no_target = run_leaves design.signals p.body s
      (none_found (assigns p.body s) (λ h.
      no_target (in_those (length design.signals) (assigns p.body) s
      (ltb-true s (length design.signals)
      (assigned_is_signal design.signals p.body
      (body_is_sound design is_sound admitted p (in_processes p at)) s h)) h)))
      (e, [])

  -- every order of the processes of a sound and admitted design comes to one settled environment:
  -- the premises of that law
  pub flat_is_scheduled : Scheduled (flat_system design)
  flat_is_scheduled = record {
    blocks = all_blocks;
    are_processes =
        sym (map_map (λ (b : Block ℕ). b.run) block_of (combinational_processes design));
    depth = depth design;
    targets_combinational = λ b at s target.
        let from = Contains-from_map block_of (combinational_processes design) b at in
        let p = from.0 in
        to_system s (targets_are_combinational design is_sound admitted p s (in_processes p from.1)
        (unclocked p from.1)
        (those_pass (length design.signals) (assigns p.body) s
        (subst (λ (c : Block ℕ). Contains c.targets s) (sym from.2) target)));
    assigned = λ s is.
        let comb = of_system s is in
        let found = combinational_is_driven design is_sound admitted s comb in
        let p = found.0 in (
          block_of p,
          Contains-map block_of (combinational_processes design) p
              (Contains-filter (λ (q : ProcessForm).
              not (is_clocked q.kind)) (processes_of design) p found.1 (ap not found.2)),
          in_those (length design.signals) (assigns p.body) s
              (ltb-true s (length design.signals) (parts_of s comb).0) found.3,
        );
    leaves = λ b at.
        let from = Contains-from_map block_of (combinational_processes design) b at in
        subst (λ (c : Block ℕ). (e : Environment ℕ) (s : ℕ) → (Contains c.targets s → ⊥) →
        c.run e s ≡ e s) from.2
        (leaves_others from.0 from.1);
    made_from_lower = λ b at.
        let from = Contains-from_map block_of (combinational_processes design) b at in
        subst FromLower from.2 (from_lower from.0 from.1);
  }
