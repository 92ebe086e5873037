use Rattle.std.proofs.Common.{◌≡◌, ◌∙◌, rules}
use Rattle.sv_num.specs.OperatorTables.{binary_spelling}
use Rattle.sv_num.specs.declared.operator_tables.TheConstants.{BINARY}
use Rattle.sv_token.proofs.SignLaws.{row_is}
use Rattle.sv_token.proofs.operators.binary_row.Goals as goal

pub returns : goal.returns
returns c =
    let same : c.map.result ≡ c.find.result = search rules in
    same ∙ c.find.ensures ∙ row_is binary_spelling BINARY c.args.text.now
