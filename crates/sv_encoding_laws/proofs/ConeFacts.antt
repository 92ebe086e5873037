-- The cones of an obligation have what is read for each combinational signal in them, and no clock.
use Rattle.std.proofs.Common.{ℕ, ◌<◌, Bool, true, false, ◌||◌, ◌&&◌, ◌==◌, not, List, length}
use Rattle.std.proofs.Common.{sym, ap, subst, ◌∙◌, ⊎_elim, ltb-true, lt-ltb}
use Rattle.std.specs.Prelude.{Contains, IsTrue, IsFalse}
use Rattle.std.specs.List.{list_any}
use Rattle.std.proofs.lemmas.Bool.{false≢true, eqb-true, or_left, or_right}
use Rattle.sv_flat.specs.Design.{ProcessForm, FlatDesign}
use Rattle.sv_flat.specs.Soundness.{sound, is_signal}
use Rattle.sv_flat.specs.Assigned.{assigns}
use Rattle.sv_flat.specs.Readings.{Reading}
use Rattle.sv_flat.specs.Processes.{is_top_input, is_register, drivers}
use Rattle.sv_flat.specs.Clocks.{is_clock, processes_of}
use Rattle.sv_flat.specs.Reads.{is_combinational, is_read_for, reads_settled, followed, is_earlier}
use Rattle.sv_flat.specs.Reads.{process_readings}
use Rattle.sv_flat.specs.SignalLists.{system_signals}
use Rattle.sv_flat.specs.Sets.{holds}
use Rattle.sv_flat.specs.Admission.{IsAdmitted}
use Rattle.sv_flat.proofs.AdmittedFacts.{and_true, negated_true, assigns_no_clock}
use Rattle.sv_flat.proofs.AdmittedFacts.{assigned_is_signal}
use Rattle.sv_obl.proofs.MadeFacts.{register_driver}
use Rattle.sv_flat.proofs.ClockFacts.{reads_no_clock}
use Rattle.sv_flat.specs.Readings.{no_bits}
use Rattle.sv_flat.proofs.AdmittedFacts.{body_is_sound}
use Rattle.sv_flat.proofs.ReadSignals.{readings_signals}
use Rattle.sv_flat.proofs.Depths.{first_of, second_of}
use Rattle.sv_flat.proofs.LeastSets.{or_cases, some_from, from_some, in_those, those_pass, those_below}
use Rattle.sv_flat.proofs.LeastSets.{least_set_least, least_set_closed, least_set_has, either_way}
use Rattle.sv_flat.proofs.LeastSets.{Contains-from_holds, holds-from_Contains, Contains-from_filter}
use Rattle.sv_flat.proofs.SameRuns.{or_none_left, or_none_right}
use Rattle.sv_encoding.specs.Cones.{brings_reads, with_reads}
use Rattle.sv_encoding.specs.BothWays.{IsCone}

module _ (design : FlatDesign) (is_sound : IsTrue (sound design)) (admitted : IsAdmitted design) where
  abbrev pub Seen : ℕ → Type 0
  Seen t = Contains (system_signals design) t

  pub seen_below : (t : ℕ) → Seen t → t < length design.signals
  seen_below t seen = those_below (length design.signals) (λ s. not (is_clock design s)) t seen

  no_register : (s : ℕ) → IsTrue (is_combinational design s) → IsFalse (is_register design s)
  no_register s comb =
      or_none_right (is_top_input design s) (is_register design s)
      (or_none_left (is_top_input design s || is_register design s) (is_clock design s)
      (negated_true (is_top_input design s || is_register design s || is_clock design s)
      (second_of (is_signal design.signals s)
      (not (is_top_input design s || is_register design s || is_clock design s)) comb)))

  -- what is read for a signal is in a reading of a process
  read_in : (m k : ℕ) → IsTrue (list_any (λ p. reads_settled design p (followed design p m) k)
      (drivers (processes_of design) m)) → (p : ProcessForm) × Contains (processes_of design) p
      × (r : Reading) × Contains (process_readings design p) r × IsTrue (r.name.signal == k)
  read_in m k read =
      let found = from_some (λ p. reads_settled design p (followed design p m) k)
      (drivers (processes_of design) m) read in
      let p = found.0 in
      let one = from_some (λ (r : Reading). not (is_earlier design p r)
      && list_any r.serves (followed design p m) && (r.name.signal == k))
      (process_readings design p) found.2 in
      let r = one.0 in (
        p,
        (Contains-from_filter (λ (q : ProcessForm). assigns q.body m) (processes_of design) p
            found.1).1,
        r,
        one.1,
        second_of (not (is_earlier design p r) && list_any r.serves (followed design p m))
            (r.name.signal == k) one.2,
      )

  seen_in : (m k : ℕ) → IsTrue (list_any (λ p. reads_settled design p (followed design p m) k)
      (drivers (processes_of design) m)) → k < length design.signals → Seen k
  seen_in m k read low =
      let one = read_in m k read in
      in_those (length design.signals) (λ s. not (is_clock design s)) k low
      (ap not (reads_no_clock design is_sound admitted one.0 k one.1
      (some_from (λ (x : Reading). x.name.signal == k) (process_readings design one.0) one.2 one.3
      one.4)))

  -- what is read for a combinational signal is no clock
  brought_seen : (m k : ℕ) → IsTrue (brings_reads design m k) → k < length design.signals → Seen k
  brought_seen m k brings low =
      let comb = first_of (is_combinational design m) (is_read_for design m k) brings in
      ⊎_elim
      (λ held. absurd (false≢true (sym (no_register m comb)
      ∙ first_of (is_register design m) (m == k) held)))
      (λ read. seen_in m k read low)
      (or_cases (is_register design m && (m == k))
      (list_any (λ p. reads_settled design p (followed design p m) k)
      (drivers (processes_of design) m))
      (second_of (is_combinational design m) (is_read_for design m k) brings))

  pub read_below : (s t : ℕ) → IsTrue (is_read_for design s t) → t < length design.signals
  read_below s t reads =
      ⊎_elim
      (λ held.
      let register = first_of (is_register design s) (s == t) held in
      let driver = register_driver design is_sound admitted s register in
      subst (λ z. z < length design.signals)
      (eqb-true s t (second_of (is_register design s) (s == t) held))
      (ltb-true s (length design.signals) (assigned_is_signal design.signals driver.0.body
      (body_is_sound design is_sound admitted driver.0 driver.1) s driver.3)))
      (λ read.
      let one = read_in s t read in
      let r = one.2 in
      subst (λ k. k < length design.signals) (eqb-true r.name.signal t one.4)
      (ltb-true r.name.signal (length design.signals)
      (readings_signals design.signals one.0.body no_bits no_bits
      (body_is_sound design is_sound admitted one.0 one.1) r one.3)))
      (or_cases (is_register design s && (s == t))
      (list_any (λ p. reads_settled design p (followed design p s) t)
      (drivers (processes_of design) s)) reads)

  -- what is read for any signal is no clock
  pub read_seen : (m k : ℕ) → IsTrue (is_read_for design m k) → k < length design.signals → Seen k
  read_seen m k reads low = ⊎_elim
      (λ held.
      let register = first_of (is_register design m) (m == k) held in
      let driver = register_driver design is_sound admitted m register in
      subst Seen (eqb-true m k (second_of (is_register design m) (m == k) held))
      (in_those (length design.signals) (λ s. not (is_clock design s)) m
      (subst (λ z. z < length design.signals)
      (sym (eqb-true m k (second_of (is_register design m) (m == k) held))) low)
      (ap not (assigns_no_clock design is_sound admitted driver.0 m driver.1 driver.3))))
      (λ read. seen_in m k read low)
      (or_cases (is_register design m && (m == k))
      (list_any (λ p. reads_settled design p (followed design p m) k)
      (drivers (processes_of design) m)) reads)

  kind_of : (s : ℕ) → Seen s →
      IsTrue (is_top_input design s || is_register design s || is_combinational design s)
  kind_of s seen = ⊎_elim
      (λ given. or_left (is_top_input design s || is_register design s) (is_combinational design s)
      given)
      (λ none. or_right (is_top_input design s || is_register design s) (is_combinational design s)
      (and_true (is_signal design.signals s)
      (not (is_top_input design s || is_register design s || is_clock design s))
      (lt-ltb s (length design.signals) (seen_below s seen))
      (ap not (no_three (is_top_input design s || is_register design s) (is_clock design s) none
      (negated_true (is_clock design s)
      (those_pass (length design.signals) (λ z. not (is_clock design z)) s seen))))))
      (either_way (is_top_input design s || is_register design s))
    where
      no_three : (a b : Bool) → IsFalse a → IsFalse b → IsFalse (a || b)
      no_three true b p q = p
      no_three false b p q = q

  module _ (starts : List ℕ) (seen : (t : ℕ) → Contains starts t → Seen t) where
    below : (t : ℕ) → Contains starts t → t < length design.signals
    below t at = seen_below t (seen t at)

    pub cone_seen : (t : ℕ) → IsTrue (holds (with_reads design starts) t) → Seen t
    cone_seen t held =
        least_set_least (length design.signals) (brings_reads design) starts below Seen seen
        (λ m k at brings low. brought_seen m k brings low) t
        (Contains-from_holds (with_reads design starts) t held)

    pub is_cone : IsCone design (with_reads design starts)
    is_cone = record {
      kinds = λ s held. kind_of s (cone_seen s held);
      closed = λ s t held comb reads.
          holds-from_Contains (with_reads design starts) t
          (least_set_closed (length design.signals) (brings_reads design) starts below s t
          (Contains-from_holds (with_reads design starts) s held)
          (and_true (is_combinational design s) (is_read_for design s t) comb reads)
          (read_below s t reads));
    }

    pub cone_starts : (t : ℕ) → Contains starts t → IsTrue (holds (with_reads design starts) t)
    cone_starts t at =
        holds-from_Contains (with_reads design starts) t
        (least_set_has (length design.signals) (brings_reads design) starts below t at)
