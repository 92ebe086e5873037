-- Running the drivers of the combinational signals in the order of a plan settles them: a signal is
-- stable once no process that assigns it would change it.
use Rattle.std.proofs.Common.{◌≡◌, ℕ, ◌+◌, ◌<◌, ◌≤◌, false, not, ◌&&◌, arith}
use Rattle.std.proofs.Common.{List, [], ◌∷◌, length, take, sym, subst}
use Rattle.std.proofs.Common.{◌∙◌, ⊎_elim}
use Rattle.std.specs.Prelude.{Contains, IsTrue, IsFalse, None}
use Rattle.std.proofs.lemmas.Bool.{false≢true}
use Rattle.std.specs.Prelude.{slice_get, slice_index}
use Rattle.std.proofs.lemmas.List.{take_all}
use Rattle.sv_system.specs.System.{Environment}
use Rattle.sv_system.proofs.Lists.{Contains-nil, Contains-cases}
use Rattle.sv_flat.specs.Design.{ProcessForm, FlatDesign}
use Rattle.sv_flat.specs.Admission.{IsAdmitted}
use Rattle.sv_flat.specs.Assigned.{assigns}
use Rattle.sv_flat.specs.Clocks.{is_clock, processes_of}
use Rattle.sv_flat.specs.FlatSystem.{combinational_processes, run_of}
use Rattle.sv_flat.specs.Processes.{is_top_input, is_register, drivers}
use Rattle.sv_flat.specs.Reads.{is_combinational, is_read_for, reads_for, depth}
use Rattle.sv_flat.specs.Soundness.{sound}
use Rattle.sv_sim.specs.Settling.{IsStable, IsPlan, FrontIsStable, SameOthers}
use Rattle.sv_sim.proofs.Fronts.{place_before, longer_front, front_or_last}
use Rattle.sv_sim.proofs.ReadRuns.{IsClosed, same_values}
use Rattle.sv_flat.proofs.AdmittedFacts.{some_is_some, drives, extra_at}
use Rattle.sv_flat.proofs.AdmittedFacts.{targets_are_combinational}
use Rattle.sv_flat.proofs.Depths.{first_of, is_below}
use Rattle.sv_flat.proofs.FlatScheduled.{same_target, parts_of, in_processes, unclocked}
use Rattle.sv_flat.proofs.LeastSets.{either_way, in_those}
use Rattle.sv_flat.proofs.SameRuns.{run_leaves, none_found}

-- ---- designs

pub one_of_one : {X : Type 0} (xs : List X) (x y : X) → slice_get xs 1 ≡ None → Contains xs x
    → Contains xs y → x ≡ y
one_of_one [] x y none x_at y_at = absurd (Contains-nil x x_at)
one_of_one (a ∷ []) x y none x_at y_at = ⊎_elim
    (λ e. ⊎_elim (λ g. sym e ∙ g) (λ no. absurd (Contains-nil y no)) (Contains-cases a [] y y_at))
    (λ no. absurd (Contains-nil x no))
    (Contains-cases a [] x x_at)
one_of_one (a ∷ b ∷ xs) x y none x_at y_at = absurd (some_is_some b none)

module _ (design : FlatDesign) (is_sound : IsTrue (sound design))
    (admitted : IsAdmitted design) where
  -- a signal has one process that assigns it
  pub one_process : (s : ℕ) (p q : ProcessForm) → IsTrue (is_combinational design s)
      → Contains (processes_of design) p → Contains (processes_of design) q
      → IsTrue (assigns p.body s) → IsTrue (assigns q.body s) → p ≡ q
  one_process s p q comb p_at q_at p_assigns q_assigns =
      let parts = parts_of design is_sound admitted s comb in
      one_of_one (drivers (processes_of design) s) p q
      (extra_at design is_sound admitted false s parts.1 parts.0)
      (drives design is_sound admitted p s p_at p_assigns)
      (drives design is_sound admitted q s q_at q_assigns)

  pub no_given : (s : ℕ) → IsTrue (is_top_input design s && not (is_clock design s))
      → IsFalse (is_combinational design s)
  no_given s h = none_found (is_combinational design s) (λ comb.
      false≢true (sym (parts_of design is_sound admitted s comb).1
      ∙ first_of (is_top_input design s) (not (is_clock design s)) h))

  pub no_register : (s : ℕ) → IsTrue (is_register design s) → IsFalse (is_combinational design s)
  no_register s h = none_found (is_combinational design s)
      (λ comb. false≢true (sym (parts_of design is_sound admitted s comb).2 ∙ h))

  -- two runs of a process from environments that agree on what is given, and on lower signals that
  -- it does not assign
  same_run : (p : ProcessForm) → Contains (combinational_processes design) p → (s : ℕ)
      → IsTrue (assigns p.body s) → (e f : Environment ℕ)
      → SameOthers design e f
      → ((t : ℕ) → IsTrue (is_combinational design t) → IsFalse (assigns p.body t)
      → depth design t < depth design s → e t ≡ f t)
      → run_of design p e s ≡ run_of design p f s
  same_run p at s assigned e f given lower =
      same_target design is_sound admitted p at s assigned e f
      (λ t h. given t (no_given t h)) (λ t h. given t (no_register t h))
      (λ t out comb falls. lower t comb out falls)

  module _ (b : ProcessForm) (at : Contains (combinational_processes design) b)
      (e : Environment ℕ) where
    abbrev now : Environment ℕ
    now = run_of design b e

    leaves : (s : ℕ) → IsFalse (assigns b.body s) → now s ≡ e s
    leaves s none = run_leaves design.signals b.body s none (e, [])

    pub run_keeps_given : SameOthers design now e
    run_keeps_given s none = leaves s (none_found (assigns b.body s) (λ h.
        false≢true
        (sym none
        ∙ targets_are_combinational design is_sound admitted b s
        (in_processes design is_sound admitted b at)
        (unclocked design is_sound admitted b at) h)))

    -- a second run changes nothing
    twice : (s : ℕ) → IsTrue (assigns b.body s) → run_of design b now s ≡ now s
    twice s h = same_run b at s h now e run_keeps_given (λ t comb none lower. leaves t none)

    -- what the process assigns is stable after its run
    pub own_stable : (s : ℕ) → IsTrue (assigns b.body s) → IsStable design now s
    own_stable s h p p_at p_h =
        let comb = targets_are_combinational design is_sound admitted b s
        (in_processes design is_sound admitted b at)
        (unclocked design is_sound admitted b at) h in
        let same = one_process s b p comb (in_processes design is_sound admitted b at)
        (in_processes design is_sound admitted p p_at) h p_h in
        subst (λ (q : ProcessForm). run_of design q now s ≡ now s) same (twice s h)

    -- a run keeps what the process assigns, where it is stable
    keeps : (s : ℕ) → IsStable design e s → now s ≡ e s
    keeps s stable = ⊎_elim (λ h. stable b at h) (λ none. leaves s none)
        (either_way (assigns b.body s))

    -- what is stable in a list that has what is read for its signals stays so
    closed_stays : (signals : List ℕ) → IsClosed design signals
        → ((t : ℕ) → Contains signals t → IsStable design e t) → (v : ℕ) → Contains signals v
        → IsStable design now v
    closed_stays signals closed stable v v_at = ⊎_elim
        (λ h. own_stable v h)
        (λ none p p_at p_h.
        same_values design is_sound admitted p p_at signals closed now e
        (λ t h. run_keeps_given t (no_given t h)) (λ t h. run_keeps_given t (no_register t h))
        (λ t t_none comb t_at. keeps t (stable t t_at)) v p_h v_at
        ∙ stable v v_at p p_at p_h
        ∙ sym (leaves v none))
        (either_way (assigns b.body v))

  -- where all combinational signals are stable, no run changes anything
  pub all_still : (e : Environment ℕ)
      → ((t : ℕ) → IsTrue (is_combinational design t) → IsStable design e t)
      → (p : ProcessForm) → Contains (combinational_processes design) p → (s : ℕ)
      → run_of design p e s ≡ e s
  all_still e stable p at s = ⊎_elim
      (λ h. stable s
      (targets_are_combinational design is_sound admitted p s
      (in_processes design is_sound admitted p at) (unclocked design is_sound admitted p at) h) p
      at h)
      (λ none. run_leaves design.signals p.body s none (e, []))
      (either_way (assigns p.body s))

  module _ (plan : List ℕ) (is_plan : IsPlan design plan) where
    -- what is read for one of the first so many of a plan is one of them
    front_is_closed : (i : ℕ) → IsClosed design (take i plan)
    front_is_closed i s r s_at comb read =
        let found = place_before plan i s s_at in
        longer_front plan found.place i r (omega arith)
        (is_plan.behind found.place found.inside r comb
        (subst (λ z. Contains (reads_for design z) r) (sym found.here)
        (in_those (length design.signals) (is_read_for design s) r (is_below design r comb) read)))

    -- a run of a process keeps what is stable in front
    pub front_stays : (b : ProcessForm) → Contains (combinational_processes design) b
        → (e : Environment ℕ) (i : ℕ) → FrontIsStable design plan e i
        → FrontIsStable design plan (run_of design b e) i
    front_stays b at e i stable = closed_stays b at e (take i plan) (front_is_closed i) stable

    -- with one more stable signal of the plan a longer front is stable
    pub front_more : (e : Environment ℕ) (i v : ℕ) → i < length plan → slice_index plan i ≡ v
        → FrontIsStable design plan e i → IsStable design e v
        → FrontIsStable design plan e (i + 1)
    front_more e i v inside at stable here t t_at = ⊎_elim
        (λ before. stable t before)
        (λ last. subst (IsStable design e) (sym at ∙ last) here)
        (front_or_last plan i inside t t_at)

    -- where the whole plan is stable, no run changes anything
    pub plan_still : (e : Environment ℕ) (i : ℕ) → length plan ≤ i
        → FrontIsStable design plan e i
        → (p : ProcessForm) → Contains (combinational_processes design) p → (s : ℕ)
        → run_of design p e s ≡ e s
    plan_still e i whole stable = all_still e (λ t comb.
        stable t (subst (λ zs. Contains zs t) (sym (take_all i plan whole)) (is_plan.all t comb)))
