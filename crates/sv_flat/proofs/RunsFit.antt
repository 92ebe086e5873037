-- Runs and clock edges keep each value at its signal's width.
use Rattle.std.proofs.Common.{ℕ, ◌/◌, ◌^◌, ◌<◌, Bool, true, false, cond, ◌&&◌, ◌==◌, List, [], ◌∷◌}
use Rattle.std.proofs.Common.{fold, ⊎_elim, refl, sym, subst}
use Rattle.std.specs.Prelude.{Contains, IsTrue, flat_map, ◌==◌}
use Rattle.std.specs.List.{list_all}
use Rattle.std.proofs.lemmas.Bool.{eqb-true}
use Rattle.sv_num.specs.Vectors.{is_true}
use Rattle.sv_system.specs.System.{Environment, last_update}
use Rattle.sv_system.proofs.Lists.{Contains-head, Contains-later, Contains-nil, Contains-cases}
use Rattle.sv_flat.specs.Design.{SignalForm, TypedTree, PieceForm, FlatStatement, nothing, after}
use Rattle.sv_flat.specs.Design.{assign, branch, ProcessForm, FlatDesign}
use Rattle.sv_flat.specs.Values.{signal_width, value}
use Rattle.sv_flat.specs.Runs.{Updates, with_piece, put_piece, run}
use Rattle.sv_flat.specs.Soundness.{is_signal, piece_fits, well_formed, statement_sound, sound}
use Rattle.sv_flat.specs.Processes.{is_clocked}
use Rattle.sv_flat.specs.Clocks.{processes_of}
use Rattle.sv_flat.specs.FlatSystem.{clocked_processes, all_updates, after_edge}
use Rattle.sv_flat.specs.Admission.{IsAdmitted}
use Rattle.sv_flat.proofs.Members.{Contains-either}
use Rattle.sv_flat.proofs.LeastSets.{either_way, Contains-from_filter}
use Rattle.sv_flat.proofs.Depths.{first_of, second_of, from_all}
use Rattle.sv_flat.proofs.ReplacedBits.{replaced_below}
use Rattle.sv_flat.proofs.SameRuns.{piece_lies_inside, put_other, put_there}
use Rattle.sv_flat.proofs.AdmittedFacts.{body_is_sound}

module _ (signals : List SignalForm) where
  -- each signal's value has its width
  abbrev pub AllFit : Environment ℕ → Type 0
  AllFit e = (t : ℕ) → IsTrue (is_signal signals t) → e t < 2 ^ signal_width signals t

  -- each update's value has its signal's width
  abbrev pub UpdatesFit : Updates → Type 0
  UpdatesFit us = (u : ℕ × ℕ) → Contains us u → u.1 < 2 ^ signal_width signals u.0

  abbrev pub BothFit : Environment ℕ × Updates → Type 0
  BothFit now = AllFit now.0 × UpdatesFit now.1

  pub last_update_fits : (s old : ℕ) (us : Updates) → old < 2 ^ signal_width signals s
      → UpdatesFit us
      → last_update ◌==◌ s old us < 2 ^ signal_width signals s
  last_update_fits s old [] fits each = fits
  last_update_fits s old (u ∷ us) fits each =
      last_update_fits s (cond (u.0 == s) u.1 old) us
      (newer (u.0 == s) (λ is.
      subst (λ z. u.1 < 2 ^ signal_width signals z) (eqb-true u.0 s is)
      (each u (Contains-head u us))))
      (λ v at. each v (Contains-later u us v at))
    where
      newer : (b : Bool) → (IsTrue b → u.1 < 2 ^ signal_width signals s) →
          cond b u.1 old < 2 ^ signal_width signals s
      newer true new = new refl
      newer false new = fits

  piece_keeps : (blocking : Bool) (right : TypedTree) (v : ℕ) (now : Environment ℕ
      × Updates) (p : PieceForm)
      → IsTrue (piece_fits signals right p)
      → BothFit now → BothFit (put_piece signals blocking v now p)
  piece_keeps true right v now p fine both =
      let inside = piece_lies_inside signals right p fine in
      let new = with_piece signals p v (now.0 p.signal) in
      let fits = replaced_below (signal_width signals p.signal) p.high p.low (now.0 p.signal)
      (v / 2 ^ p.from) inside.0 inside.1 in (
        (λ t t_is. ⊎_elim
            (λ there.
            let is = eqb-true p.signal t there in
            subst (λ z. (put_piece signals true v now p).0 z < 2 ^ signal_width signals z) is
            (subst (λ z. z < 2 ^ signal_width signals p.signal)
            (sym (put_there p.signal new now.0)) fits))
            (λ other. subst (λ z.
            z < 2 ^ signal_width signals t) (sym (put_other p.signal t new now.0 other))
            (both.0 t t_is))
            (either_way (p.signal == t))),
        both.1,
      )
  piece_keeps false right v now p fine both =
      let inside = piece_lies_inside signals right p fine in
      let pending = last_update ◌==◌ p.signal (now.0 p.signal) now.1 in
      let new : ℕ × ℕ = (p.signal, with_piece signals p v pending) in
      let fits = replaced_below (signal_width signals p.signal) p.high p.low pending
      (v / 2 ^ p.from) inside.0 inside.1 in (
        both.0,
        (λ u at. ⊎_elim
            (λ old. both.1 u old)
            (λ last. ⊎_elim
            (λ is. subst (λ (z : ℕ × ℕ). z.1 < 2 ^ signal_width signals z.0) is fits)
            (λ none. absurd (Contains-nil u none))
            (Contains-cases new [] u last))
            (Contains-either now.1 (new ∷ []) u at)),
      )

  pieces_keep : (blocking : Bool) (right : TypedTree) (v : ℕ) (pieces : List PieceForm)
      (now : Environment ℕ × Updates)
      → ((p : PieceForm) → Contains pieces p → IsTrue (piece_fits signals right p)) → BothFit now
      → BothFit (fold (put_piece signals blocking v) now pieces)
  pieces_keep blocking right v [] now each both = both
  pieces_keep blocking right v (p ∷ pieces) now each both =
      pieces_keep blocking right v pieces (put_piece signals blocking v now p) (λ q at.
      each q (Contains-later p pieces q at))
      (piece_keeps blocking right v now p (each p (Contains-head p pieces)) both)

  either_fits : (b : Bool) (x y : Environment ℕ × Updates) → BothFit x → BothFit y →
      BothFit (cond b x y)
  either_fits true x y first second = first
  either_fits false x y first second = second

  -- a run of a sound statement keeps the widths
  pub run_fits : (body : FlatStatement) (now : Environment ℕ × Updates)
      → IsTrue (statement_sound signals body) → BothFit now
      → BothFit (run signals body now)
  run_fits nothing now h both = both
  run_fits (after first second) now h both =
      run_fits second (run signals first now)
      (second_of (statement_sound signals first) (statement_sound signals second) h)
      (run_fits first now (first_of (statement_sound signals first) (statement_sound signals second)
      h) both)
  run_fits (assign pieces place blocking right) now h both =
      pieces_keep blocking right (value signals now.0 right) pieces now
      (λ p at. from_all (piece_fits signals right) pieces p
      (second_of (well_formed signals right) (list_all (piece_fits signals right) pieces) h)
      at) both
  run_fits (branch place condition first second) now h both =
      let front = first_of (well_formed signals condition && statement_sound signals first)
      (statement_sound signals second) h in
      either_fits (is_true (value signals now.0 condition)) (run signals first now)
      (run signals second now)
      (run_fits first now (second_of (well_formed signals condition) (statement_sound signals first)
      front) both)
      (run_fits second now
      (second_of (well_formed signals condition && statement_sound signals first)
      (statement_sound signals second) h) both)

  pub all_updates_fit : (each : ProcessForm → Updates) (ps : List ProcessForm)
      → ((p : ProcessForm) → Contains ps p → UpdatesFit (each p)) → UpdatesFit (flat_map each ps)
  all_updates_fit each [] fit u at = absurd (Contains-nil u at)
  all_updates_fit each (p ∷ ps) fit u at = ⊎_elim
      (λ l. fit p (Contains-head p ps) u l)
      (λ r. all_updates_fit each ps (λ q q_at. fit q (Contains-later p ps q q_at)) u r)
      (Contains-either (each p) (flat_map each ps) u at)

module _ (design : FlatDesign) (is_sound : IsTrue (sound design))
    (admitted : IsAdmitted design) where
  -- what the clock edge makes of an environment of the right widths has them too
  pub edge_fits : (e : Environment ℕ) → AllFit design.signals e →
      AllFit design.signals (after_edge design (clocked_processes design) e)
  edge_fits e fits s inside =
      last_update_fits design.signals s (e s) (all_updates design (clocked_processes design) e)
      (fits s inside)
      (all_updates_fit design.signals (λ (p : ProcessForm).
      (run design.signals p.body (e, [])).1) (clocked_processes design) (λ p at.
      (run_fits design.signals p.body (e, [])
      (body_is_sound design is_sound admitted p
      (Contains-from_filter (λ (q : ProcessForm). is_clocked q.kind) (processes_of design) p at).1)
      (fits, (λ u none. absurd (Contains-nil u none)))).1))
