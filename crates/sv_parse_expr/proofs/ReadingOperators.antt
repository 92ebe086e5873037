-- What the rows of the table of binary operators say.
use Rattle.std.proofs.Common.{◌≡◌, ℕ, List, subst, slice_get, option_map, option_and_then, Option}
use Rattle.std.proofs.Common.{Some, sym, ap, ◌∙◌}
use Rattle.std.proofs.lemmas.Option.{slice_get-map}
use Rattle.sv_num.specs.declared.operator_tables.TheConstants.{BINARY}
use Rattle.sv_num.specs.declared.operator_tables.BinRow.{BinRow}
use Rattle.sv_num.specs.OperatorTables.{binary_row, binary_table}
use Rattle.sv_token.specs.declared.signs.Operator.{Operator}
use Rattle.sv_num.specs.declared.operators.BinOp.{BinOp}
use Rattle.sv_num.specs.declared.faults.Place.{Place}
use Rattle.sv_token.specs.Lexemes.{Placed}
use Rattle.sv_ast.specs.GrammarForms.{binary_operator, binary_at, somewhere}
use Rattle.sv_ast.specs.GrammarGroups.{precedence_of}

looked_up : (n : ℕ) (row : BinRow) → slice_get BINARY n ≡ Some row →
    option_map (λ r. r.1) (slice_get binary_table n) ≡ Some row.op
looked_up n row found =
    ap (option_map (λ r. r.1)) (slice_get-map binary_row BINARY n)
    ∙ ap (λ (r : Option BinRow). option_map (λ r. r.1) (option_map binary_row r)) found

pub row_operator :
    (o : Operator) (n : ℕ) (row : BinRow) → o.binary ≡ Some n → slice_get BINARY n ≡ Some row →
    Some row.op ≡ binary_operator o
row_operator o n row known found =
    sym (ap (λ (b : Option ℕ).
    option_and_then (λ row. option_map (λ r. r.1) (slice_get binary_table row)) b) known
    ∙ looked_up n row found)

precedences : (n : ℕ) → option_map (λ (r : BinRow). r.level) (slice_get BINARY n) ≡
    option_map (λ (r : BinRow). precedence_of r.op) (slice_get BINARY n)
precedences n =
    sym (slice_get-map (λ (r : BinRow). r.level) BINARY n)
    ∙ slice_get-map (λ (r : BinRow). precedence_of r.op) BINARY n

pub row_precedence :
    (o : Operator) (n : ℕ) (row : BinRow) → o.binary ≡ Some n → slice_get BINARY n ≡ Some row →
    Some row.level ≡ option_map precedence_of (binary_operator o)
row_precedence o n row known found =
    sym (ap (option_map (λ (r : BinRow). r.level)) found)
    ∙ precedences n
    ∙ ap (option_map (λ (r : BinRow). precedence_of r.op)) found
    ∙ ap (option_map precedence_of) (row_operator o n row known found)

pub operator_is : (found op : BinOp) (p : Place) (ts rest : List Placed) → found ≡ op →
    binary_at found p ts rest → somewhere (binary_at op) ts rest
operator_is found op p ts rest eq h = (p, subst (λ (x : BinOp). binary_at x p ts rest) eq h)
