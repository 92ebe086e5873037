-- The reader opened up, for examples.
use Rattle.std.proofs.Common.{ℕ, List, Option, None}
use Rattle.std.specs.Prelude.{option_map}
use Rattle.sv_token.specs.Lexed.{Lexed, lexed, tokens, refused}
use Rattle.sv_token.specs.Lexemes.{Placed}
use Rattle.sv_token.specs.Gaps.{block_comment_at, directive_at}
use Rattle.sv_token.specs.Numerals.{number_at, unsized_number_at}
use Rattle.sv_token.specs.Signs.{sign_of, sign_text, sign_at}
use Rattle.sv_token.specs.Tokens.{front_at}
use Rattle.sv_token.specs.Words.{is_refused_word, word_of, name_at, system_name_at}
use Rattle.sv_ast.specs.Tree.{TextTree}
use Rattle.sv_ast.specs.GrammarExpressions.{IsExpression}
use Rattle.sv_ast.specs.GrammarModules.{IsItem, IsModule, IsLattice, IsMap, IsText}
use Rattle.sv_ast.specs.GrammarRules.{all_limits, BeginText}
use Rattle.sv_ast.proofs.GrammarReadsModules.{read_text}

abbrev pub in_tokens : {A : Type 0} → (List Placed → Option A) → Lexed → Option A
in_tokens read (tokens ts) = read ts
in_tokens read (refused number names place) = None

abbrev pub text_of : List ℕ → Option TextTree
text_of text = in_tokens (λ ts. option_map (λ r. r.0) (read_text all_limits ts)) (lexed text)

-- an example names this one definition to compute with all of them
unfoldable pub read : List ℕ → Option TextTree
unfolding front_at word_of name_at system_name_at block_comment_at directive_at number_at
    unsized_number_at sign_of sign_text sign_at is_refused_word IsExpression IsItem IsModule
    IsLattice IsMap IsText BeginText
read text = text_of text
