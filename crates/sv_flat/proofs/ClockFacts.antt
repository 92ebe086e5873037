-- No process of a sound and admitted design reads a clock.
use Rattle.std.proofs.Common.{◌≡◌, ℕ, ◌<◌, false, cond, ◌&&◌, ◌||◌, ◌==◌, ltb-true, List, [], ◌∷◌}
use Rattle.std.proofs.Common.{length, ⊎_elim, refl, sym, ap, subst, ◌∙◌, Some, None, Option}
use Rattle.std.specs.Prelude.{Contains, IsTrue, IsFalse, is_none, unwrap_or, option_map}
use Rattle.std.specs.List.{list_any, filter_map, cons_option}
use Rattle.std.proofs.lemmas.Bool.{false≢true, or_left, or_right, eqb-true, eq-eqb}
use Rattle.sv_system.proofs.Lists.{Contains-head, Contains-later, Contains-nil, Contains-cases}
use Rattle.sv_system.proofs.Lists.{Contains-from_map}
use Rattle.sv_flat.specs.Design.{SignalForm, TypedTree, typed, read, FlatStatement, assign}
use Rattle.sv_flat.specs.Design.{ProcessForm, FlatDesign}
use Rattle.sv_flat.specs.Soundness.{sound}
use Rattle.sv_flat.specs.Assigned.{assigns, can_assign}
use Rattle.sv_flat.specs.Readings.{ReadForm, whole_read, reads, Reading, reading_of, readings}
use Rattle.sv_flat.specs.Readings.{no_bits, either}
use Rattle.sv_flat.specs.Processes.{signals_that}
use Rattle.sv_flat.specs.Clocks.{is_edge, whole_name, whole_link, is_port_in, link_in, links_in}
use Rattle.sv_flat.specs.Clocks.{links_out, lists_pair, makes_clock, clocks, is_clock, processes_of}
use Rattle.sv_flat.specs.Clocks.{reads_signal, uses_as_signal}
use Rattle.sv_flat.specs.Admission.{IsAdmitted}
use Rattle.sv_flat.proofs.LeastSets.{either_way, some_from, from_some, Contains-from_holds}
use Rattle.sv_flat.proofs.LeastSets.{those_below, least_set_closed}
use Rattle.sv_flat.proofs.SameRuns.{none_found}
use Rattle.sv_flat.proofs.AdmittedFacts.{and_true, some_is_some, port_in_of, unused, no_clock_link}
use Rattle.sv_flat.proofs.AdmittedFacts.{is_process, body_is_sound, assigned_is_signal}

-- ---- links

none_is_no_some : {X : Type 0} (x : X) → None ≡ Some x → ⊥
none_is_no_some x e = some_is_some x (sym e)

some_same : {X : Type 0} (x y : X) → Some x ≡ Some y → x ≡ y
some_same x y e = ap (λ o. unwrap_or o x) e

linked_name : (port : ℕ) (o : Option ℕ) (pair : ℕ × ℕ) → option_map (λ s. (port, s)) o ≡ Some pair →
    o ≡ Some pair.1
linked_name port None pair e = absurd (none_is_no_some pair e)
linked_name port (Some n) pair e = ap (λ z. Some z.1) (some_same (port, n) pair e)

linked_port : (port : ℕ) (o : Option ℕ) (pair : ℕ × ℕ) → option_map (λ s. (port, s)) o ≡ Some pair →
    port ≡ pair.0
linked_port port None pair e = absurd (none_is_no_some pair e)
linked_port port (Some n) pair e = ap (λ z. z.0) (some_same (port, n) pair e)

module _ (signals : List SignalForm) where
  -- a whole name reads its signal alone
  name_reads : (right : TypedTree) (n : ℕ) → whole_name right ≡ Some n → (r : ReadForm) →
      Contains (reads signals right) r → n ≡ r.signal
  name_reads (typed w s (read m p)) n e r at =
      let same = some_same m n e in
      ⊎_elim
      (λ is. sym same ∙ ap (λ (z : ReadForm). z.signal) is)
      (λ later. absurd (Contains-nil r later))
      (Contains-cases (whole_read signals m p) [] r at)
  name_reads (typed w s _) n e r at = absurd (none_is_no_some n e)

  link_name : (body : FlatStatement) (pair : ℕ × ℕ) → whole_link body ≡ Some pair → (t : ℕ)
      → IsTrue (reads_signal signals body t)
      → pair.1 ≡ t
  link_name (assign (piece ∷ []) place blocking right) pair e t h =
      let found = from_some (λ (r : Reading). r.name.signal == t)
      (readings signals (assign (piece ∷ []) place blocking right) no_bits no_bits) h in
      let whole = assign (piece ∷ []) place blocking right in
      let from = Contains-from_map
      (reading_of (assigns whole) no_bits (either (can_assign whole) no_bits))
      (reads signals right) found.0 found.1 in
      name_reads right pair.1 (linked_name piece.signal (whole_name right) pair e) from.0 from.1
      ∙ ap (λ (y : Reading). y.name.signal) from.2 ∙ eqb-true (found.0).name.signal t found.2
  link_name _ pair e t h = absurd (none_is_no_some pair e)

  link_port : (body : FlatStatement) (pair : ℕ × ℕ) → whole_link body ≡ Some pair →
      IsTrue (assigns body pair.0)
  link_port (assign (piece ∷ []) place blocking right) pair e =
      or_left (piece.signal == pair.0) false
      (eq-eqb piece.signal pair.0 (linked_port piece.signal (whole_name right) pair e))
  link_port _ pair e = absurd (none_is_no_some pair e)

still_made : {Y : Type 0} (o : Option Y) (ys : List Y) (y : Y) → Contains ys y →
    Contains (cons_option o ys) y
still_made None ys y at = at
still_made (Some z) ys y at = Contains-later z ys y at

made_of : {X Y : Type 0} (f : X → Option Y) (xs : List X) (x : X) (y : Y) → Contains xs x →
    f x ≡ Some y → Contains (filter_map f xs) y
made_of f [] x y at e = absurd (Contains-nil x at)
made_of f (z ∷ xs) x y at e = ⊎_elim
    (λ is. subst (λ o. Contains (cons_option o (filter_map f xs)) y)
    (sym (subst (λ w. f w ≡ Some y) (sym is) e))
    (Contains-head y (filter_map f xs)))
    (λ inside. still_made (f z) (filter_map f xs) y (made_of f xs x y inside e))
    (Contains-cases z xs x at)

is_found : {X : Type 0} (o : Option X) → IsFalse (is_none o) → (x : X) × (o ≡ Some x)
is_found None h = absurd (false≢true (sym h))
is_found (Some x) h = (x, refl)

module _ (design : FlatDesign) (is_sound : IsTrue (sound design))
    (admitted : IsAdmitted design) where
  edges_within : (k : ℕ) → Contains (signals_that design (is_edge design)) k →
      k < length design.signals
  edges_within k at = those_below (length design.signals) (is_edge design) k at

  link_is : (p : ProcessForm) (pair : ℕ × ℕ) → IsTrue (is_port_in p.kind) → link_in p ≡ Some pair →
      whole_link p.body ≡ Some pair
  link_is p pair port e = sym (ap (λ b. cond b (whole_link p.body) None) port) ∙ e

  -- no process reads a clock
  pub reads_no_clock : (p : ProcessForm) (s : ℕ) → Contains (processes_of design) p
      → IsTrue (reads_signal design.signals p.body s) → IsFalse (is_clock design s)
  reads_no_clock p s at h = none_found (is_clock design s) (λ clock. ⊎_elim
      (λ none. false≢true (sym (unused design is_sound admitted s clock)
      ∙ some_from (uses_as_signal design s) design.processes p
      (is_process design is_sound admitted p at)
      (and_true (is_none (link_in p)) (assigns p.body s
      || reads_signal design.signals p.body s) none
      (or_right (assigns p.body s) (reads_signal design.signals p.body s) h))))
      (λ some.
      let port = port_in_of design is_sound admitted (is_port_in p.kind) (whole_link p.body) some in
      let link = is_found (link_in p) some in
      let pair = link.0 in
      let whole = link_is p pair port link.1 in
      let name : pair.1 ≡ s = link_name design.signals p.body pair whole s h in
      let assigned = link_port design.signals p.body pair whole in
      let below = ltb-true pair.0 (length design.signals)
      (assigned_is_signal design.signals p.body (body_is_sound design is_sound admitted p at) pair.0
      assigned) in
      let listed = some_from (λ (q : ℕ × ℕ). (q.0 == pair.0) && (q.1 == s)) (links_in design) pair
      (made_of link_in design.processes p pair (is_process design is_sound admitted p at) link.1)
      (and_true (pair.0 == pair.0) (pair.1 == s) (eq-eqb pair.0 pair.0 refl)
      (eq-eqb pair.1 s name)) in
      let brought = or_right (lists_pair (links_in design) s pair.0
      || lists_pair (links_out design) pair.0 s)
      (lists_pair (links_in design) pair.0 s) listed in
      let joined = least_set_closed (length design.signals) (makes_clock design)
      (signals_that design (is_edge design)) edges_within s pair.0
      (Contains-from_holds (clocks design) s clock) brought below in
      false≢true (sym (no_clock_link design is_sound admitted p at)
      ∙ and_true (is_port_in p.kind) (list_any (assigns p.body) (clocks design)) port
      (some_from (assigns p.body) (clocks design) pair.0 joined assigned)))
      (either_way (is_none (link_in p))))
