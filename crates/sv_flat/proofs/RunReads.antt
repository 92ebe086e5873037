-- What a run of a process gives a signal hangs on what is read for it: on the inputs, the
-- registers, and what is read for the signals of any set that has what is read for each of its
-- signals among those that the process assigns.
use Rattle.std.proofs.Common.{◌≡◌, ℕ, ◌<◌, ◌&&◌, ◌||◌, ◌==◌, not, List, [], inl, inr, ⊎_elim}
use Rattle.std.proofs.Common.{refl, ap, false, length, ltb-true}
use Rattle.std.specs.Prelude.{Bool, Contains, IsTrue, IsFalse}
use Rattle.std.specs.List.{list_any}
use Rattle.std.proofs.lemmas.Bool.{false≢true, or_left, eq-eqb}
use Rattle.std.proofs.lemmas.Nat.Bits.{same_from_bits_below}
use Rattle.sv_system.specs.System.{Environment}
use Rattle.sv_flat.specs.Design.{ProcessForm, FlatDesign}
use Rattle.sv_flat.specs.Admission.{IsAdmitted}
use Rattle.sv_flat.specs.Assigned.{assigns, always_assigns}
use Rattle.sv_flat.specs.Clocks.{is_clock, processes_of}
use Rattle.sv_flat.specs.FlatSystem.{run_of}
use Rattle.sv_flat.specs.Processes.{is_clocked, is_top_input, is_register, signal_numbers}
use Rattle.sv_flat.specs.Readings.{Reading, no_bits}
use Rattle.sv_flat.specs.Reads.{is_combinational, is_earlier, followed, is_read_for}
use Rattle.sv_flat.specs.Reads.{process_readings}
use Rattle.sv_flat.specs.Sets.{holds}
use Rattle.sv_flat.specs.Soundness.{is_signal, sound}
use Rattle.sv_flat.specs.Values.{signal_width}
use Rattle.sv_flat.proofs.AdmittedFacts.{and_true, none_of_three, some_width, body_is_sound}
use Rattle.sv_flat.proofs.AdmittedFacts.{assigned_is_signal}
use Rattle.sv_flat.proofs.BlockFacts.{earlier_is_assigned, follows_itself, follows_earlier}
use Rattle.sv_flat.proofs.BlockFacts.{follows_targets, settled_is_read, own_is_assigned}
use Rattle.sv_flat.proofs.BlockFacts.{assigns_all, is_blocking}
use Rattle.sv_flat.proofs.ClockFacts.{reads_no_clock}
use Rattle.sv_flat.proofs.Depths.{first_of, second_of}
use Rattle.sv_flat.proofs.LeastSets.{either_way, some_from, from_some, range_has}
use Rattle.sv_flat.proofs.LeastSets.{holds-from_Contains, Contains-from_holds}
use Rattle.sv_flat.proofs.ReadSignals.{readings_signals}
use Rattle.sv_flat.proofs.SameRuns.{Ready, runs_agree}

module _ (design : FlatDesign) (is_sound : IsTrue (sound design))
    (admitted : IsAdmitted design) (p : ProcessForm)
    (at : Contains (processes_of design) p) (unclocked : IsFalse (is_clocked p.kind))
    (among : ℕ → Bool) (e f : Environment ℕ)
    (inputs : (t : ℕ) → IsTrue (is_top_input design t && not (is_clock design t)) → e t ≡ f t)
    (registers : (t : ℕ) → IsTrue (is_register design t) → e t ≡ f t)
    (brings : (t r : ℕ) → IsTrue (among t) → IsTrue (assigns p.body t) → IsTrue (assigns p.body r)
    → IsTrue (is_read_for design t r) → IsTrue (among r))
    (others : (t r : ℕ) → IsTrue (among t) → IsTrue (assigns p.body t)
    → IsFalse (assigns p.body r) → IsTrue (is_combinational design r)
    → IsTrue (is_read_for design t r) → e r ≡ f r) where
  -- a target in the set follows the signal
  abbrev is_wanted_for : (t u : ℕ) → Bool
  is_wanted_for t u = among u && assigns p.body u && holds (followed design p u) t

  abbrev wanted : ℕ → Bool
  wanted t = list_any (is_wanted_for t) (signal_numbers design)

  abbrev Given : ℕ → Type 0
  Given t = e t ≡ f t

  wanted_by : (u t : ℕ) → IsTrue (among u) → IsTrue (assigns p.body u)
      → Contains (followed design p u) t
      → IsTrue (wanted t)
  wanted_by u t inside own t_at =
      some_from (is_wanted_for t) (signal_numbers design) u
      (range_has (length design.signals) u (ltb-true u (length design.signals)
      (assigned_is_signal design.signals p.body (body_is_sound design is_sound admitted p at) u
      own)))
      (and_true (among u && assigns p.body u) (holds (followed design p u) t)
      (and_true (among u) (assigns p.body u) inside own)
      (holds-from_Contains (followed design p u) t t_at))

  from_wanted : (t : ℕ) → IsTrue (wanted t)
      → (u : ℕ) × IsTrue (among u) × IsTrue (assigns p.body u) × Contains (followed design p u) t
  from_wanted t want =
      let found = from_some (is_wanted_for t) (signal_numbers design) want in
      let u = found.0 in
      let both = first_of (among u && assigns p.body u) (holds (followed design p u) t) found.2 in (
        u,
        first_of (among u) (assigns p.body u) both,
        second_of (among u) (assigns p.body u) both,
        Contains-from_holds (followed design p u) t
            (second_of (among u && assigns p.body u) (holds (followed design p u) t) found.2),
      )

  is_target : (t : ℕ) → IsTrue (wanted t) → IsTrue (assigns p.body t)
  is_target t want =
      let by = from_wanted t want in
      follows_targets design is_sound admitted p at by.0 by.2 t by.3

  -- what is read for a target in the set, and is not assigned, is the same
  given : (u : ℕ) → IsTrue (among u) → IsTrue (assigns p.body u) → (r : Reading)
      → Contains (process_readings design p) r
      → IsFalse (assigns p.body r.name.signal)
      → IsTrue (is_read_for design u r.name.signal) → Given r.name.signal
  given u inside own r r_at out read =
      let x = r.name.signal in
      let no_clock = reads_no_clock design is_sound admitted p x at
      (some_from (λ (z : Reading). z.name.signal == x) (process_readings design p) r r_at
      (eq-eqb x x refl)) in
      let is = readings_signals design.signals p.body no_bits no_bits
      (body_is_sound design is_sound admitted p at) r r_at in
      ⊎_elim
      (λ top. inputs x (and_true (is_top_input design x) (not (is_clock design x)) top
      (ap not no_clock)))
      (λ no_top. ⊎_elim
      (λ register. registers x register)
      (λ no_register. others u x inside own out
      (and_true (is_signal design.signals x)
      (not (is_top_input design x || is_register design x || is_clock design x)) is
      (none_of_three (is_top_input design x) (is_register design x) (is_clock design x) no_top
      no_register no_clock))
      read)
      (either_way (is_register design x)))
      (either_way (is_top_input design x))

  positive : (t : ℕ) → IsTrue (is_signal design.signals t) → 0 < signal_width design.signals t
  positive t inside = some_width design is_sound admitted t inside

  abbrev IsReady : Reading → Type 0
  IsReady r = Ready design.signals positive (assigns p.body) wanted Given r

  ready : (r : Reading) → Contains (process_readings design p) r → IsReady r
  ready r r_at t want served =
      let x = r.name.signal in
      let by = from_wanted t want in
      let u = by.0 in
      let inside = by.1 in
      let own = by.2 in
      let t_at = by.3 in
      let bits = own_is_assigned design is_sound admitted p t at unclocked (is_target t want) r r_at
      served in
      ⊎_elim
      (λ earlier. inr (
        wanted_by u x inside own
            (follows_earlier design is_sound admitted p at u own t t_at r r_at served earlier),
        bits (earlier_is_assigned design is_sound admitted p r r_at earlier),
      ))
      (λ late.
      let read = settled_is_read design is_sound admitted p at u own t t_at r r_at served late in
      ⊎_elim
      (λ own_x. inr (
        wanted_by x x (brings u x inside own own_x read) own_x
            (follows_itself design is_sound admitted p at x own_x),
        bits own_x,
      ))
      (λ out. inl (out, given u inside own r r_at out read))
      (either_way (assigns p.body x)))
      (either_way (is_earlier design p r))

  -- the process gives its targets in the set the same values from both environments
  pub same_values : (s : ℕ) → IsTrue (assigns p.body s) → IsTrue (among s) →
      run_of design p e s ≡ run_of design p f s
  same_values s assigned inside =
      let body = body_is_sound design is_sound admitted p at in
      let w = signal_width design.signals s in
      let want = wanted_by s s inside assigned
      (follows_itself design is_sound admitted p at s assigned) in
      let agrees = runs_agree design.signals positive (assigns p.body) wanted Given p.body no_bits
      no_bits (e, []) (f, []) body
      (is_blocking design is_sound admitted p at unclocked)
      (λ t h. h) ready
      ((λ t out g. g), (λ t b want_t below h. absurd (false≢true h))) in
      let bit = λ (b : ℕ) (below : b < w). agrees.1 s b want below
      (or_left (always_assigns p.body s b) false
      (assigns_all design is_sound admitted p s b at unclocked assigned below)) in
      let lowest = bit 0 (positive s (assigned_is_signal design.signals p.body body s assigned)) in
      same_from_bits_below w (run_of design p e s) (run_of design p f s) lowest.0 lowest.1
      (λ b below. (bit b below).2)
