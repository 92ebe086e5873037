use Rattle.std.proofs.Common.{map, All}
use Rattle.std.specs.Prelude.{OnOk}
use Rattle.std.specs.List.{AllZip}
use Rattle.std.proofs.lemmas.Result.{IfOk-weaker}
use Rattle.sv_flat.specs.Views.{design_of}
use Rattle.sv_obl.specs.Noninterference.{NoninterferentUnder}
use Rattle.sv_obl.specs.Validity.{IsValid, AllValid}
use Rattle.sv_obl.specs.Views.{obligation_of}
use Rattle.sv_proof.specs.Certificate.{plain_logs}
use Rattle.sv_accept.specs.Accepting.{IsAccepted}
use Rattle.sv_accept.proofs.Accepted.{RefutedAreValid, all_valid, obligations_valid}
use Rattle.sv_accept.proofs.logs.accept.Goals as goal
use Rattle.sv_accept.proofs.logs.accept.Goals.{After-check_queries}

-- each obligation whose log is accepted is valid
valid : (c : After-check_queries) → OnOk c.check_queries.result
    (All (IsValid (design_of c.args.design.now)) (map obligation_of c.args.queries.now))
valid c =
    let design = design_of c.args.design.now in
    let list = map obligation_of c.args.queries.now in
    let logs = plain_logs c.args.logs.now in
    let law : RefutedAreValid design =
    λ o steps asked. c.refuted_obligations_are_valid.ensures design o steps
    c.know_design.ensures.checked asked in
    IfOk-weaker c.check_queries.result (λ _. AllZip (IsAccepted design) list logs)
    (λ _. All (IsValid design) list)
    (λ _ each. all_valid design list logs law c.requires.queries each)
    c.check_queries.ensures.refuted

pub returns-clause-each_valid : goal.returns-clause-each_valid
returns-clause-each_valid c = valid (goal.at.returns-clause-each_valid c).After-check_queries

pub returns-clause-all_valid : goal.returns-clause-all_valid
returns-clause-all_valid c facts begins =
    let design = design_of c.args.design.now in
    let list = map obligation_of c.args.queries.now in
    IfOk-weaker c.check_queries.result (λ _. All (IsValid design) list)
    (λ _. AllValid facts design) (λ _ each. obligations_valid facts design list begins each)
    (valid (goal.at.returns-clause-all_valid c).After-check_queries)

pub returns-clause-noninterferent : goal.returns-clause-noninterferent
returns-clause-noninterferent c facts begins =
    let design = design_of c.args.design.now in
    IfOk-weaker c.check_queries.result (λ _. AllValid facts design)
    (λ _. NoninterferentUnder facts design)
    (λ _ all. c.valid_obligations_mean_noninterference.ensures facts design
    c.know_design.ensures.checked all)
    (returns-clause-all_valid c facts begins)
