use Rattle.sv_run_laws.proofs.TypedSizes.{typed_no_larger}
use Rattle.sv_run_laws.proofs.sizes.typed_expressions_are_no_larger.Goals as goal

pub returns : goal.returns
returns c names e length signed = typed_no_larger names e length signed
