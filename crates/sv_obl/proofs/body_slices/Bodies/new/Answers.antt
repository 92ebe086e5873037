use Rattle.std.proofs.Common.{◌≤◌, List, length, map, All, refl, sym, ap, subst, ◌∙◌}
use Rattle.std.specs.Prelude.{IsTrue, is_some}
use Rattle.std.specs.List.{AllZip, list_any}
use Rattle.sv_flat.specs.ByNumber.{signal_forms, AreWords}
use Rattle.sv_flat.specs.Clocks.{processes_of}
use Rattle.sv_flat.specs.Design.{ProcessForm}
use Rattle.sv_flat.specs.Soundness.{statement_sound}
use Rattle.sv_flat.specs.Views.{design_of, signal_form, process_form}
use Rattle.sv_flat.specs.declared.signals.Signal.{Signal}
use Rattle.sv_flat.proofs.AdmittedFacts.{body_is_sound}
use Rattle.sv_flat.proofs.LeastSets.{some_from}
use Rattle.sv_flat.proofs.Members.{contained_all}
use Rattle.sv_rules.proofs.Sound.{few_bits}
use Rattle.sv_obl.specs.IndexedBodies.{AreIndexed}
use Rattle.sv_obl.specs.MarkedBodies.{IsMarkedBody}
use Rattle.sv_obl.specs.Wanted.{with_copies}
use Rattle.sv_obl.proofs.FormLists.{length_mapped}
use Rattle.sv_obl.proofs.body_slices.Bodies.new.Goals as goal

pub marked_bodies-requires-clause-words : goal.marked_bodies-requires-clause-words
marked_bodies-requires-clause-words c =
    subst (λ (signals : List Signal). AreWords (signal_forms signals))
    (sym c.signals-signals.ensures.signals)
    (few_bits (design_of c.args.design.now) c.signals-signals.ensures.design.is_sound)

pub marked_bodies-requires-clause-bodies : goal.marked_bodies-requires-clause-bodies
marked_bodies-requires-clause-bodies c =
    let design = design_of c.args.design.now in
    let d = c.signals-signals.ensures.design in
    subst (λ (signals : List Signal). All (λ (process : ProcessForm).
    IsTrue (statement_sound (signal_forms signals) process.body))
    (map process_form c.processes-processes.result.now)) (sym c.signals-signals.ensures.signals)
    (subst (All (λ (process : ProcessForm).
    IsTrue (statement_sound design.signals process.body))) (sym c.processes-processes.ensures.processes)
    (contained_all (λ (process : ProcessForm).
    IsTrue (statement_sound design.signals process.body)) (processes_of design)
    (λ p at. body_is_sound design d.is_sound d.is_admitted p at)))

pub returns : goal.returns
returns c =
    let design = design_of c.args.design.now in
    record {
      indexed =
          subst (λ (ps : List ProcessForm). AreIndexed ps c.in_ok-indexed.indexed.items)
          c.processes-processes.ensures.processes c.in_ok-indexed.ensures;
      marked =
          subst (λ (ps : List ProcessForm).
          AllZip (IsMarkedBody design.signals) ps c.in_ok-marked.marked.items)
          c.processes-processes.ensures.processes
          (subst (λ (signals : List Signal). AllZip (IsMarkedBody (signal_forms signals))
          (map process_form c.processes-processes.result.now) c.in_ok-marked.marked.items)
          c.signals-signals.ensures.signals c.in_ok-marked.ensures.bodies);
      copies = λ x at.
          record {
            few =
                subst (λ n. n ≤ 2147483647)
                (ap (λ (signals : List Signal). length signals) c.signals-signals.ensures.signals
                ∙ sym (length_mapped signal_form c.args.design.now.signals.items))
                c.in_ok-marked.ensures.few;
            twice =
                c.in_ok-twice.ensures
                (subst (λ held. IsTrue (list_any is_some held)) (sym c.deref.ensures.value)
                (some_from is_some c.in_ok-marked.marked.items _ at refl))
                ∙ ap (λ (signals : List Signal). with_copies (signal_forms signals))
                c.signals-signals.ensures.signals;
          };
    }
