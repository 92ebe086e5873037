-- The process at a place of an admitted design.
use Rattle.std.proofs.Common.{◌≡◌, ℕ, ◌+◌, ◌<◌, List, ◌∷◌, ◌++◌, length, map, take, drop}
use Rattle.std.proofs.Common.{get_or}
use Rattle.std.proofs.Common.{sym, ap, subst, ◌∙◌, drop-cons, add-one}
use Rattle.std.specs.Prelude.{Contains, IsTrue}
use Rattle.std.proofs.lemmas.List.{length-map, get_or-map, take-append-drop}
use Rattle.std.proofs.lemmas.List.Elements.{Contains-get_or}
use Rattle.sv_flat.specs.declared.designs.Flat.{Flat}
use Rattle.sv_flat.specs.declared.designs.Process.{Process}
use Rattle.sv_flat.specs.declared.signals.Signal.{Signal}
use Rattle.sv_flat.specs.ByNumber.{signal_forms}
use Rattle.sv_flat.specs.Design.{ProcessForm, continuous, nothing, FlatDesign}
use Rattle.sv_flat.specs.Admission.{IsAdmitted}
use Rattle.sv_flat.specs.Clocks.{processes_of}
use Rattle.sv_flat.specs.Soundness.{statement_sound, sound}
use Rattle.sv_flat.specs.Views.{design_of, process_form, flat_statement}
use Rattle.sv_flat.proofs.AdmittedFacts.{body_is_sound}
use Rattle.sv_design.specs.Designs.{IsDesign}
use Rattle.sv_sim.specs.Simulations.{process_at}

-- a process that does nothing
abbrev pub idle : ProcessForm
idle = record { place = record { line = 0; column = 0 }; kind = continuous; body = nothing }

-- it is the plain form of the process that a list has there
pub process_there : (design : FlatDesign) (ps : List Process) → map process_form ps ≡
    processes_of design → (place : ℕ) (p : Process) → place < length (processes_of design)
    → p ≡ get_or ps place p → process_form p ≡ process_at design place
process_there design ps are place p inside is =
    let within = subst (λ n. place < n) (length-map ps process_form)
    (subst (λ qs. place < length qs) (sym are) inside) in
    ap process_form is
    ∙ sym (get_or-map process_form ps place p idle within)
    ∙ ap (λ qs. get_or qs place idle) are

module _ (design : FlatDesign) (is_sound : IsTrue (sound design)) (admitted : IsAdmitted design)
    (place : ℕ) (inside : place < length (processes_of design)) where
  pub is_among : Contains (processes_of design) (process_at design place)
  is_among = Contains-get_or (processes_of design) place idle inside

  -- its statement is sound
  pub sound_there : (p : Process) → process_form p ≡ process_at design place →
      IsTrue (statement_sound design.signals (flat_statement p.body))
  sound_there p is = subst (λ (q : ProcessForm). IsTrue (statement_sound design.signals q.body))
      (sym is) (body_is_sound design is_sound admitted (process_at design place) is_among)

  -- the processes before it, it, and those after it
  pub cut_there : take place (processes_of design)
      ++ process_at design place ∷ drop (place + 1) (processes_of design) ≡ processes_of design
  cut_there =
      let ps = processes_of design in
      ap (λ k. take place ps ++ process_at design place ∷ drop k ps) (add-one place)
      ∙ ap (λ qs. take place ps ++ qs) (sym (drop-cons ps place idle inside))
      ∙ take-append-drop place ps

-- of a design as the code holds it
module _ (flat : Flat) (fine : IsDesign (design_of flat)) where
  pub statement_there : (signals : List Signal) (ps : List Process) (p : Process) (place : ℕ)
      → place < length (processes_of (design_of flat)) → signals ≡ flat.signals.items
      → map process_form ps ≡ processes_of (design_of flat) → p ≡ get_or ps place p
      → IsTrue (statement_sound (signal_forms signals) (flat_statement p.body))
  statement_there signals ps p place inside signals_are are is =
      subst (λ (ss : List Signal).
      IsTrue (statement_sound (signal_forms ss) (flat_statement p.body))) (sym signals_are)
      (sound_there (design_of flat) fine.is_sound fine.is_admitted place inside p
      (process_there (design_of flat) ps are place p inside is))
