use Rattle.sv_run_laws.proofs.SystemLabels.{label_is_declared, flows_are_declared}
use Rattle.sv_run_laws.proofs.sources.systems_of_texts_have_declared_labels.Goals as goal

pub returns-clause-labels : goal.returns-clause-labels
returns-clause-labels c text asked design can flat s among inside environment =
    label_is_declared text asked design can flat s among inside environment

pub returns-clause-flows : goal.returns-clause-flows
returns-clause-flows c text asked design flat a b =
    flows_are_declared text asked design flat a b
