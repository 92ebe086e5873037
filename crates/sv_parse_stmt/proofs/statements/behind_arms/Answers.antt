use Rattle.std.proofs.Common.{◌<◌, Option, Some, None, IfNone}
use Rattle.sv_token.specs.declared.keywords.WordKind.TheVariants as words
use Rattle.sv_token.specs.Lexemes.{placed_tokens}
use Rattle.sv_parse_machine.specs.Reads.{NextIsNotWord}
use Rattle.sv_parse_stmt.proofs.statements.behind_arms.Goals as goal

-- what holds where nothing is there holds under a premise
under : {T : Type 0} (r : Option T) (P Q : Type 0) → IfNone r P → IfNone r (Q → P)
under None P Q holds = λ _. holds
under (Some x) P Q holds = tt

pub returns-clause-none : goal.returns-clause-none
returns-clause-none c = λ bytes.
    under _ (NextIsNotWord words.Endcase (placed_tokens bytes c.args.tokens.now))
    (0 < c.args.before) (c.behind_word.ensures.none bytes)
