-- A tick of the clocked processes of a flat design in any order does what one of the text's clocked
-- processes in that order does.
use Rattle.std.proofs.Common.{◌≡◌, ℕ, ◌<◌, ◌^◌, List, [], ◌∷◌, ◌++◌, map}
use Rattle.std.proofs.Common.{length, Option, Some, None, refl, sym, ap, ap₂, subst, ◌∙◌}
use Rattle.std.specs.Prelude.{not, ◌==◌, filter, flat_map, Contains, IsTrue}
use Rattle.std.specs.List.{slice_get, list_any, filter_map, cons_option, AllZip}
use Rattle.std.proofs.lemmas.Bool.{and_left, cond-false}
use Rattle.std.proofs.lemmas.List.{map-append}
use Rattle.sv_system.specs.System.{System, Environment, last_update}
use Rattle.sv_system.specs.Joining.{Agree}
use Rattle.sv_system.proofs.Lists.{Contains-nil}
use Rattle.sv_system.proofs.Pointwise.{fits_at}
use Rattle.sv_ast.specs.Tree.{StatementTree, TextTree}
use Rattle.sv_ast.specs.Parts.{Path, same_path, Part, parts}
use Rattle.sv_ast.specs.Processes.{Process, combinational, clocked, linking, processes, updates_of}
use Rattle.sv_flat.specs.Admission.{IsAdmitted}
use Rattle.sv_flat.specs.Assigned.{assigns}
use Rattle.sv_flat.specs.Clocks.{is_clock, is_port_in, is_clock_link, clocks, processes_of}
use Rattle.sv_flat.specs.Design.{ProcessForm, FlatDesign}
use Rattle.sv_flat.specs.FlatSystem.{clocked_processes, all_updates, flat_system}
use Rattle.sv_flat.specs.Processes.{is_clocked}
use Rattle.sv_flat.specs.Runs.{Updates, updates_of as flat_updates_of}
use Rattle.sv_flat.specs.Schedules.{in_order, after_tick}
use Rattle.sv_flat.specs.Soundness.{sound}
use Rattle.sv_flat.specs.Values.{signal_width as flat_width}
use Rattle.sv_flat.proofs.AdmittedFacts.{body_is_sound}
use Rattle.sv_flat.proofs.LeastSets.{Contains-from_filter}
use Rattle.sv_flat.proofs.RunsFit.{AllFit, UpdatesFit, run_fits, all_updates_fit, last_update_fits}
use Rattle.sv_elab_laws.specs.Rounds.{clocked_in, after_text_tick}
use Rattle.sv_elab_laws.specs.SideBySide.{runs_at_edge}
use Rattle.sv_elab_laws.proofs.PartsGrown.{IsBody, IsFlat}
use Rattle.sv_elab_laws.proofs.PartsLists.{zip_left, zip_right, zip_length, get_contains}
use Rattle.sv_elab_laws.proofs.PartsNamed.{from_filter_map}
use Rattle.sv_flat.proofs.Members.{from_flat_map}
use Rattle.sv_elab_laws.proofs.PartsTexts.{SideBySide, sources_of}
use Rattle.sv_elab_laws.proofs.JoinedClocks.{clocked_no_link}
use Rattle.sv_flat.proofs.AlikeUpdates.{flat_map_same}
use Rattle.sv_elab_laws.proofs.JoinedNext.{skip_flat, keep_flat, updates_alike}
use Rattle.sv_elab_laws.proofs.JoinedNext.{same_updates, update_below, last_same}
use Rattle.sv_elab_laws.proofs.JoinedNumbers.{at_number, flat_signals, signal_below, signal_no_clock}
use Rattle.sv_elab_laws.proofs.JoinedProcesses.{link_unclocked}
use Rattle.sv_elab_laws.proofs.JoinedRuns.{source_system, path_to, unclocked_values, numbered_values}
use Rattle.sv_elab_laws.proofs.JoinedRuns.{numbered_same}
use Rattle.sv_elab_laws.proofs.JoinedSchedules.{quiet, quiet_fits}

module _ (text : TextTree) (top : Option (List ℕ)) (design : FlatDesign)
    (side : SideBySide text top design)
    (is_sound : IsTrue (sound design)) (admitted : IsAdmitted design) where
  abbrev second : System Path (List ℕ)
  second = source_system text top design side

  abbrev toward : ℕ → Path
  toward = path_to text top design side

  abbrev Flat : Process → ProcessForm → Type 0
  Flat q f = IsFlat side.tables (sources_of text top) (parts text top) q f

  -- a clocked process and the flat one beside it
  record Pair (q : Process) (f : ProcessForm) : Type 0 where
    part : Part
    statement : StatementTree
    is : q ≡ clocked part statement
    body : IsBody side.tables (sources_of text top) (parts text top) part statement f

  abbrev unlinked : List ProcessForm → List ProcessForm
  unlinked fs = filter (λ z. not (is_clock_link design z)) fs

  abbrev clocked_of : List ProcessForm → List ProcessForm
  clocked_of fs = filter (λ (p : ProcessForm). is_clocked p.kind) fs

  pairs_from : (qs : List Process) (fs : List ProcessForm) → AllZip Flat qs fs
      → AllZip Pair (filter runs_at_edge qs) (clocked_of (unlinked fs))
  pairs_from [] [] h = tt
  pairs_from [] (f ∷ fs) h = absurd h
  pairs_from (q ∷ qs) [] h = absurd h
  pairs_from (combinational p s ∷ qs) (f ∷ fs) h =
      subst (AllZip Pair (filter runs_at_edge qs))
      (sym (skip_flat f (not (is_clock_link design f)) (unlinked fs) h.0.1))
      (pairs_from qs fs h.1)
  pairs_from (linking l ∷ qs) (f ∷ fs) h =
      subst (AllZip Pair (filter runs_at_edge qs))
      (sym (skip_flat f (not (is_clock_link design f)) (unlinked fs)
      (link_unclocked text top design side is_sound admitted l f h.0)))
      (pairs_from qs fs h.1)
  pairs_from (clocked p s ∷ qs) (f ∷ fs) h =
      subst (AllZip Pair (clocked p s ∷ filter runs_at_edge qs))
      (sym (keep_flat f (not (is_clock_link design f)) (unlinked fs)
      (ap not (and_left (is_port_in f.kind) (list_any (assigns f.body) (clocks design))
      (clocked_no_link f.kind h.0.1).0)) h.0.1))
      (record { part = p; statement = s; is = refl; body = h.0.0 }, pairs_from qs fs h.1)

  pairs : AllZip Pair (clocked_in text top) (clocked_processes design)
  pairs = pairs_from (processes text top) design.processes side.bodies

  pub same_count : length (clocked_in text top) ≡ length (clocked_processes design)
  same_count = zip_length Pair (clocked_in text top) (clocked_processes design) pairs

  -- what runs in an order is a clocked process
  in_order_listed : (order : List ℕ) (f : ProcessForm) → Contains (in_order design order) f
      → Contains (processes_of design) f
  in_order_listed order f at =
      let k = from_filter_map (slice_get (clocked_processes design)) order f at in
      (Contains-from_filter (λ (p : ProcessForm). is_clocked p.kind) (processes_of design) f
      (get_contains (clocked_processes design) k.0 f k.2)).1

  module _ (e : Environment ℕ) (g : Environment Path)
      (agree : Agree (flat_system design) second toward e g) where
    abbrev free : Environment Path
    free = unclocked_values text top design side g

    abbrev numbers : Environment ℕ
    numbers = numbered_values text top design side g

    abbrev pathed : ℕ × ℕ → Path × ℕ
    pathed u = (toward u.0, u.1)

    abbrev flat_updates : ProcessForm → Updates
    flat_updates f = flat_updates_of design.signals f.body numbers

    pair_updates : (q : Process) (f : ProcessForm) → Pair q f
        → map pathed (flat_updates f) ≡ updates_of free q
    pair_updates q f pair =
        same_updates text top design side is_sound admitted e g agree pair.part pair.statement f
        pair.body
        ∙ ap (updates_of free) (sym pair.is)

    -- the processes at one place
    one_place : (k : ℕ) (fs : List ProcessForm) (qs : List Process)
        → map pathed (flat_map flat_updates fs) ≡ flat_map (updates_of free) qs
        → map pathed (flat_map flat_updates
        (cons_option (slice_get (clocked_processes design) k) fs))
        ≡ flat_map (updates_of free) (cons_option (slice_get (clocked_in text top) k) qs)
    one_place k fs qs rest =
        by_get (slice_get (clocked_in text top) k) (slice_get (clocked_processes design) k) refl
        refl
      where
        by_get : (o : Option Process) (z : Option ProcessForm)
            → slice_get (clocked_in text top) k ≡ o
            → slice_get (clocked_processes design) k ≡ z
            → map pathed (flat_map flat_updates (cons_option z fs))
            ≡ flat_map (updates_of free) (cons_option o qs)
        by_get (Some q) (Some f) q_at f_at =
            let found = zip_left Pair (clocked_in text top) (clocked_processes design) pairs k q
            q_at in
            let same : found.0 ≡ f = let c : Some found.0 ≡ Some f = sym found.1 ∙ f_at in cc c in
            map-append pathed (flat_updates f) (flat_map flat_updates fs)
            ∙ ap₂ (λ us vs. us ++ vs) (pair_updates q f (subst (Pair q) same found.2)) rest
        by_get None None q_at f_at = rest
        by_get (Some q) None q_at f_at =
            let found = zip_left Pair (clocked_in text top) (clocked_processes design) pairs k q
            q_at in
            absurd (let c : None ≡ Some found.0 = sym f_at ∙ found.1 in cc c)
        by_get None (Some f) q_at f_at =
            let found = zip_right Pair (clocked_in text top) (clocked_processes design) pairs k f
            f_at in
            absurd (let c : None ≡ Some found.0 = sym q_at ∙ found.1 in cc c)

    order_updates : (order : List ℕ)
        → map pathed (flat_map flat_updates (in_order design order))
        ≡ flat_map (updates_of free) (filter_map (slice_get (clocked_in text top)) order)
    order_updates [] = refl
    order_updates (k ∷ order) =
        one_place k (in_order design order)
        (filter_map (slice_get (clocked_in text top)) order) (order_updates order)

    -- updates hang on no clock
    order_alike : (order : List ℕ) (d : Environment ℕ)
        → ((k : ℕ) → Contains (flat_signals text top design side) k → e k ≡ d k)
        → all_updates design (in_order design order) e ≡
        all_updates design (in_order design order) d
    order_alike order d same =
        flat_map_same (λ (p : ProcessForm). flat_updates_of design.signals p.body e)
        (λ (p : ProcessForm). flat_updates_of design.signals p.body d) (in_order design order)
        (λ p at. updates_alike text top design side is_sound admitted p
        (in_order_listed order p at) e d same)

    order_below : (order : List ℕ) (u : ℕ × ℕ)
        → Contains (flat_map flat_updates (in_order design order)) u
        → u.0 < length design.signals
    order_below order u at =
        let f = from_flat_map flat_updates (in_order design order) u at in
        let k = from_filter_map (slice_get (clocked_processes design)) order f.0 f.1 in
        let q = zip_right Pair (clocked_in text top) (clocked_processes design) pairs k.0 f.0 k.2 in
        update_below text top design side is_sound admitted e g agree (q.2).part (q.2).statement
        f.0 (q.2).body u f.2

    tick_same : (order : List ℕ) (k : ℕ) → Contains (flat_signals text top design side) k
        → after_tick design order e k ≡ after_text_tick text top order g (toward k)
    tick_same order k at =
        let a = at_number text top design side k (signal_below text top design side k at) in
        ap (λ us. last_update ◌==◌ k (e k) us)
        (order_alike order numbers (λ t t_in. numbered_same text top design side e g agree t t_in))
        ∙ ap (λ v. last_update ◌==◌ k v (flat_map flat_updates (in_order design order)))
        (agree.same k at)
        ∙ last_same text top design side is_sound admitted e g agree
        (flat_map flat_updates (in_order design order)) (order_below order) k a (g (toward k))
        ∙ ap (last_update same_path (toward k) (g (toward k))) (order_updates order)

    tick_fits : (order : List ℕ) (k : ℕ) → Contains (flat_signals text top design side) k
        → after_tick design order e k < 2 ^ flat_width design.signals k
    tick_fits order k at =
        let still = quiet text top design side is_sound admitted e in
        let all_fit : AllFit design.signals still =
        quiet_fits text top design side is_sound admitted e agree.first_fits in
        let updates_fit : UpdatesFit design.signals
        (all_updates design (in_order design order) still) =
        all_updates_fit design.signals (λ (p : ProcessForm).
        flat_updates_of design.signals p.body still) (in_order design order) (λ p p_at.
        (run_fits design.signals p.body (still, [])
        (body_is_sound design is_sound admitted p (in_order_listed order p p_at))
        (all_fit, (λ u none. absurd (Contains-nil u none)))).1) in
        last_update_fits design.signals k (e k) (all_updates design (in_order design order) e)
        (fits_at (flat_system design) e agree.first_fits k at)
        (subst (UpdatesFit design.signals)
        (sym (order_alike order still (λ t t_in.
        sym (cond-false (is_clock design t) 0 (e t)
        (signal_no_clock text top design side t t_in))))) updates_fit)

    pub tick_agrees : (order : List ℕ) → ((k : ℕ) → Contains (flat_signals text top design side) k
        → after_tick design order e k ≡ after_text_tick text top order g (toward k))
        × ((k : ℕ) → Contains (flat_signals text top design side) k
        → after_tick design order e k < 2 ^ flat_width design.signals k)
    tick_agrees order = (tick_same order, tick_fits order)
