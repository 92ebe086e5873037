use Rattle.std.proofs.Common.{◌≡◌, ℕ, List, ◌++◌, Some, ◌⊎◌, refl, sym, subst}
use Rattle.std.specs.Prelude.{IfSome, IfNone, IsSome, Option}
use Rattle.sv_io.specs.Sink.{WritesFront}
use Rattle.sv_flat.specs.Views.{design_of}
use Rattle.sv_io.specs.Source.{WhateverFollows}
use Rattle.sv_paths.specs.ListLines.{list_text}
use Rattle.sv_encoding.specs.CnfText.{cnf_text}
use Rattle.sv_blast.specs.Coded.{encoding_of}
use Rattle.sv_sim_run.specs.Simulated.{level_asked, WritesAllCycles}
use Rattle.sv_cli.specs.declared.prepared.Prepared.{Prepared}
use Rattle.sv_cli.specs.Answer.{Answer, answer_of, done}
use Rattle.sv_cli.specs.Prepared.{IsReady, EndsAs, IsPerformed, Performs, IsSimulationWith}
use Rattle.sv_cli.proofs.Sending.{few_taken, sent, some_given, sent_whatever, front_whatever}
use Rattle.sv_cli.proofs.top.perform.Goals as goal

pub returns-in-Whole-clause-performed : goal.returns-in-Whole-clause-performed
returns-in-Whole-clause-performed g c =
    let report = c.in-Whole.report in
    let ready : IsSome (answer_of report.outcome) = subst IsReady c.in-Whole.is c.requires in
    let first = some_given (answer_of report.outcome) ready in
    subst (λ (p : Prepared). Performs (IsPerformed p) (λ (s : List ℕ).
    g.S.Source.given c.args.input.now ≡ g.S.Source.given c.args.input.now ++ s) g.S.Source.tells
    (g.S.Source.left c.args.input.now) (g.K.Sink.accepted c.args.out.now)
    (g.K.Sink.accepted c.send.new.out) (answer_of c.send.result)) (sym c.in-Whole.is)
    (sent (λ (a : Answer). answer_of report.outcome ≡ Some a)
    (g.S.Source.given c.args.input.now) report.text.items (g.S.Source.left c.args.input.now)
    (g.K.Sink.accepted c.args.out.now) (g.K.Sink.accepted c.send.new.out) g.S.Source.tells first.0
    first.1 (answer_of c.send.result)
    c.send.ensures.answered c.send.ensures.whole c.send.ensures.front)

pub returns-in-Whole-clause-most : goal.returns-in-Whole-clause-most
returns-in-Whole-clause-most g c = few_taken (g.S.Source.given c.args.input.now)

pub returns-in-Lines-clause-performed : goal.returns-in-Lines-clause-performed
returns-in-Lines-clause-performed g c =
    let given = g.S.Source.given c.args.input.now in
    let left = g.S.Source.left c.args.input.now in
    let old = g.K.Sink.accepted c.args.out.now in
    let new = g.K.Sink.accepted c.send_lines.new.out in
    subst (λ (p : Prepared). Performs (IsPerformed p) (λ (s : List ℕ). given ≡ given ++ s)
    g.S.Source.tells left old new (answer_of c.send_lines.result)) (sym c.in-Lines.is)
    (sent (λ (a : Answer). a ≡ done) given (list_text (design_of c.in-Lines.design)) left old new
    g.S.Source.tells done refl (answer_of c.send_lines.result)
    c.send_lines.ensures.answered c.send_lines.ensures.whole c.send_lines.ensures.front)

pub returns-in-Lines-clause-most : goal.returns-in-Lines-clause-most
returns-in-Lines-clause-most g c = few_taken (g.S.Source.given c.args.input.now)

pub returns-in-Clauses-clause-performed : goal.returns-in-Clauses-clause-performed
returns-in-Clauses-clause-performed g c =
    let given = g.S.Source.given c.args.input.now in
    let left = g.S.Source.left c.args.input.now in
    let old = g.K.Sink.accepted c.args.out.now in
    let new = g.K.Sink.accepted c.send_clauses.new.out in
    subst (λ (p : Prepared). Performs (IsPerformed p) (λ (s : List ℕ). given ≡ given ++ s)
    g.S.Source.tells left old new (answer_of c.send_clauses.result)) (sym c.in-Clauses.is)
    (sent (λ (a : Answer). a ≡ done) given (cnf_text (encoding_of c.in-Clauses.coded)) left old new
    g.S.Source.tells done refl (answer_of c.send_clauses.result)
    c.send_clauses.ensures.answered c.send_clauses.ensures.whole c.send_clauses.ensures.front)

pub returns-in-Clauses-clause-most : goal.returns-in-Clauses-clause-most
returns-in-Clauses-clause-most g c = few_taken (g.S.Source.given c.args.input.now)

pub returns-in-Simulation-clause-performed : goal.returns-in-Simulation-clause-performed
returns-in-Simulation-clause-performed g c =
    subst (λ (p : Prepared). Performs (IsPerformed p) (λ (s : List ℕ).
    g.S.Source.given c.simulation.new.input ≡ g.S.Source.given c.args.input.now ++ s)
    g.S.Source.tells
    (g.S.Source.left c.args.input.now) (g.K.Sink.accepted c.args.out.now)
    (g.K.Sink.accepted c.simulation.new.out) (answer_of c.simulation.result))
    (sym c.in-Simulation.is)
    (subst (λ (l : Option (List ℕ)).
    Performs (EndsAs (design_of c.in-Simulation.design) l c.in-Simulation.order) (λ (s : List ℕ).
    g.S.Source.given c.simulation.new.input ≡ g.S.Source.given c.args.input.now ++ s)
    g.S.Source.tells (g.S.Source.left c.args.input.now) (g.K.Sink.accepted c.args.out.now)
    (g.K.Sink.accepted c.simulation.new.out) (answer_of c.simulation.result))
    c.as_deref.ensures.value c.simulation.ensures.performed)

pub returns-in-Simulation-clause-read_fault : goal.returns-in-Simulation-clause-read_fault
returns-in-Simulation-clause-read_fault g c failed =
    let fault = c.simulation.ensures.read_fault failed in (
      fault.0,
      fault.1,
      fault.2,
      fault.3,
      subst (λ (p : Prepared). IsSimulationWith (λ level design.
          WritesAllCycles design level fault.0 (g.K.Sink.accepted c.args.out.now)
          (g.K.Sink.accepted c.simulation.new.out)) p) (sym c.in-Simulation.is)
          (subst (λ (l : Option (List ℕ)).
          WritesAllCycles (design_of c.in-Simulation.design) l fault.0
          (g.K.Sink.accepted c.args.out.now) (g.K.Sink.accepted c.simulation.new.out))
          c.as_deref.ensures.value fault.4),
    )

pub returns-in-Simulation-clause-input_unchanged :
    goal.returns-in-Simulation-clause-input_unchanged
returns-in-Simulation-clause-input_unchanged g c =
    subst (λ (p : Prepared). (c.simulation.new.input ≡ c.args.input.now)
    ⊎ IsSimulationWith (λ level design. IsSome (level_asked design level)) p)
    (sym c.in-Simulation.is)
    (subst (λ (l : Option (List ℕ)). (c.simulation.new.input ≡ c.args.input.now)
    ⊎ IsSome (level_asked (design_of c.in-Simulation.design) l)) c.as_deref.ensures.value
    c.simulation.ensures.untouched)

-- ---- whatever follows

pub returns-in-Whole-clause-to_the_end : goal.returns-in-Whole-clause-to_the_end
returns-in-Whole-clause-to_the_end g c =
    let report = c.in-Whole.report in
    let given = g.S.Source.given c.args.input.now in
    let old = g.K.Sink.accepted c.args.out.now in
    let new = g.K.Sink.accepted c.send.new.out in
    subst (λ (p : Prepared). WhateverFollows (g.S.Source.ended c.args.input.now) given given
    (λ stimulus. IfSome (answer_of c.send.result) (λ a. (printed : List ℕ)
    × IsPerformed p stimulus a printed × (new ≡ old ++ printed)))) (sym c.in-Whole.is)
    (λ goes_on taken more same.
    sent_whatever (λ (a : Answer). answer_of report.outcome ≡ Some a) report.text.items old new
    (answer_of c.send.result) c.send.ensures.answered c.send.ensures.whole)

pub returns-in-Lines-clause-to_the_end : goal.returns-in-Lines-clause-to_the_end
returns-in-Lines-clause-to_the_end g c =
    let given = g.S.Source.given c.args.input.now in
    let old = g.K.Sink.accepted c.args.out.now in
    let new = g.K.Sink.accepted c.send_lines.new.out in
    subst (λ (p : Prepared). WhateverFollows (g.S.Source.ended c.args.input.now) given given
    (λ stimulus. IfSome (answer_of c.send_lines.result) (λ a. (printed : List ℕ)
    × IsPerformed p stimulus a printed × (new ≡ old ++ printed)))) (sym c.in-Lines.is)
    (λ goes_on taken more same.
    sent_whatever (λ (a : Answer). a ≡ done) (list_text (design_of c.in-Lines.design)) old new
    (answer_of c.send_lines.result) c.send_lines.ensures.answered c.send_lines.ensures.whole)

pub returns-in-Clauses-clause-to_the_end : goal.returns-in-Clauses-clause-to_the_end
returns-in-Clauses-clause-to_the_end g c =
    let given = g.S.Source.given c.args.input.now in
    let old = g.K.Sink.accepted c.args.out.now in
    let new = g.K.Sink.accepted c.send_clauses.new.out in
    subst (λ (p : Prepared). WhateverFollows (g.S.Source.ended c.args.input.now) given given
    (λ stimulus. IfSome (answer_of c.send_clauses.result) (λ a. (printed : List ℕ)
    × IsPerformed p stimulus a printed × (new ≡ old ++ printed)))) (sym c.in-Clauses.is)
    (λ goes_on taken more same.
    sent_whatever (λ (a : Answer). a ≡ done) (cnf_text (encoding_of c.in-Clauses.coded)) old new
    (answer_of c.send_clauses.result) c.send_clauses.ensures.answered c.send_clauses.ensures.whole)

pub returns-in-Simulation-clause-to_the_end : goal.returns-in-Simulation-clause-to_the_end
returns-in-Simulation-clause-to_the_end g c =
    let ended = g.S.Source.ended c.simulation.new.input in
    let given_old = g.S.Source.given c.args.input.now in
    let given_new = g.S.Source.given c.simulation.new.input in
    let old = g.K.Sink.accepted c.args.out.now in
    let new = g.K.Sink.accepted c.simulation.new.out in
    subst (λ (p : Prepared). WhateverFollows ended given_old given_new (λ stimulus.
    IfSome (answer_of c.simulation.result) (λ a. (printed : List ℕ)
    × IsPerformed p stimulus a printed × (new ≡ old ++ printed)))) (sym c.in-Simulation.is)
    (subst (λ (l : Option (List ℕ)). WhateverFollows ended given_old given_new (λ stimulus.
    IfSome (answer_of c.simulation.result) (λ a. (printed : List ℕ)
    × EndsAs (design_of c.in-Simulation.design) l c.in-Simulation.order stimulus a printed
    × (new ≡ old ++ printed)))) c.as_deref.ensures.value c.simulation.ensures.to_the_end)

pub returns-in-Whole-clause-front_to_the_end : goal.returns-in-Whole-clause-front_to_the_end
returns-in-Whole-clause-front_to_the_end g c =
    let report = c.in-Whole.report in
    let given = g.S.Source.given c.args.input.now in
    let old = g.K.Sink.accepted c.args.out.now in
    let new = g.K.Sink.accepted c.send.new.out in
    let ready : IsSome (answer_of report.outcome) = subst IsReady c.in-Whole.is c.requires in
    let first = some_given (answer_of report.outcome) ready in
    subst (λ (p : Prepared). WhateverFollows (g.S.Source.ended c.args.input.now) given given
    (λ stimulus. IfNone (answer_of c.send.result) ((a : Answer) × (printed : List ℕ)
    × IsPerformed p stimulus a printed × WritesFront old printed new))) (sym c.in-Whole.is)
    (λ goes_on taken more same.
    front_whatever (λ (a : Answer). answer_of report.outcome ≡ Some a) report.text.items old new
    first.0 first.1 (answer_of c.send.result) c.send.ensures.front)

pub returns-in-Lines-clause-front_to_the_end : goal.returns-in-Lines-clause-front_to_the_end
returns-in-Lines-clause-front_to_the_end g c =
    let given = g.S.Source.given c.args.input.now in
    let old = g.K.Sink.accepted c.args.out.now in
    let new = g.K.Sink.accepted c.send_lines.new.out in
    subst (λ (p : Prepared). WhateverFollows (g.S.Source.ended c.args.input.now) given given
    (λ stimulus. IfNone (answer_of c.send_lines.result) ((a : Answer) × (printed : List ℕ)
    × IsPerformed p stimulus a printed × WritesFront old printed new))) (sym c.in-Lines.is)
    (λ goes_on taken more same.
    front_whatever (λ (a : Answer). a ≡ done) (list_text (design_of c.in-Lines.design)) old new
    done refl (answer_of c.send_lines.result) c.send_lines.ensures.front)

pub returns-in-Clauses-clause-front_to_the_end : goal.returns-in-Clauses-clause-front_to_the_end
returns-in-Clauses-clause-front_to_the_end g c =
    let given = g.S.Source.given c.args.input.now in
    let old = g.K.Sink.accepted c.args.out.now in
    let new = g.K.Sink.accepted c.send_clauses.new.out in
    subst (λ (p : Prepared). WhateverFollows (g.S.Source.ended c.args.input.now) given given
    (λ stimulus. IfNone (answer_of c.send_clauses.result) ((a : Answer) × (printed : List ℕ)
    × IsPerformed p stimulus a printed × WritesFront old printed new))) (sym c.in-Clauses.is)
    (λ goes_on taken more same.
    front_whatever (λ (a : Answer). a ≡ done) (cnf_text (encoding_of c.in-Clauses.coded)) old new
    done refl (answer_of c.send_clauses.result) c.send_clauses.ensures.front)

pub returns-in-Simulation-clause-front_to_the_end :
    goal.returns-in-Simulation-clause-front_to_the_end
returns-in-Simulation-clause-front_to_the_end g c =
    let ended = g.S.Source.ended c.simulation.new.input in
    let given_old = g.S.Source.given c.args.input.now in
    let given_new = g.S.Source.given c.simulation.new.input in
    let old = g.K.Sink.accepted c.args.out.now in
    let new = g.K.Sink.accepted c.simulation.new.out in
    subst (λ (p : Prepared). WhateverFollows ended given_old given_new (λ stimulus.
    IfNone (answer_of c.simulation.result) ((a : Answer) × (printed : List ℕ)
    × IsPerformed p stimulus a printed × WritesFront old printed new))) (sym c.in-Simulation.is)
    (subst (λ (l : Option (List ℕ)). WhateverFollows ended given_old given_new (λ stimulus.
    IfNone (answer_of c.simulation.result) ((a : Answer) × (printed : List ℕ)
    × EndsAs (design_of c.in-Simulation.design) l c.in-Simulation.order stimulus a printed
    × WritesFront old printed new))) c.as_deref.ensures.value
    c.simulation.ensures.front_to_the_end)
