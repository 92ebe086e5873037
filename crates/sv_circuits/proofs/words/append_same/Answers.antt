use Rattle.std.proofs.Common.{◌∙◌, sym, arith}
use Rattle.std.proofs.lemmas.List.{append-nil}
use Rattle.sv_circuits.proofs.WordSteps.{same_more, same_done}
use Rattle.sv_circuits.proofs.words.append_same.Goals as goal

pub fill-init : goal.fill-init
fill-init c = sym (append-nil c.args.word.now.items)

pub fill-preserved : goal.fill-preserved
fill-preserved c = c.in_ok-push.ensures.items ∙ same_more _ _ _ _ c.fill.invariant

pub returns : goal.returns
returns c = same_done _ _ _ _ _ (omega arith) c.fill.invariant
