use Rattle.std.proofs.Common.{◌≡◌, ℕ, List, take}
use Rattle.sv_token.specs.Lexemes.{placed_tokens}
use Rattle.sv_ast.specs.GrammarRules as grammar
use Rattle.sv_parse_expr.specs.Expectations.{part_of}
use Rattle.sv_parse_expr.proofs.forms.last_part.Given as goal

abbrev pub invariant-loop-token : goal.invariant-loop-token
invariant-loop-token l =
    (bytes : List ℕ) → part_of l.part ≡
    grammar.last_part (placed_tokens bytes (take l.token-index l.tokens))
