use Rattle.std.proofs.Common.{arith}
use Rattle.std.proofs.lemmas.Map.Text.{text_keys}
use Rattle.sv_io.proofs.files.count_one.Goals as goal

-- another name than the one that was counted keeps its count
pub returns-clause-others : goal.returns-clause-others
returns-clause-others c = λ other differs. grind (arith, text_keys)

-- no count falls
pub returns-clause-no_fewer : goal.returns-clause-no_fewer
returns-clause-no_fewer c = λ other. grind (arith, text_keys)
