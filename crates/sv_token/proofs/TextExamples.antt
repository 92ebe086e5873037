-- Gaps between tokens, and places: what the plain program finds. At the end the same is said by the
-- relation.
use Rattle.std.proofs.Common.{◌≡◌, false, [], ◌∷◌, ◌++◌, map, Some, None, refl}
use Rattle.std.specs.Prelude.{codes}
use Rattle.sv_token.specs.declared.keywords.WordKind.TheVariants.{Module, Endmodule}
use Rattle.sv_token.specs.declared.signs.SignKind.TheVariants.{Semicolon}
use Rattle.sv_token.specs.Lexed.{lexed, tokens}
use Rattle.sv_token.specs.Tokens.{AreTokensOf, BreaksLexis}
use Rattle.sv_token.proofs.Agreement.{found_are_tokens, found_is_broken}
use Rattle.sv_token.proofs.Computed.{computed, the_word, the_name, the_sign, the_operator, sized}
use Rattle.sv_token.proofs.Computed.{refused_at, left_out_at, EachGives}

-- an empty text has no tokens
pub empty_text : lexed [] ≡ tokens []
unfolding computed
empty_text = refl

-- space, tab, carriage return, line feed and form feed; only a line feed begins a line
pub each_blank :
    lexed (97 ∷ 32 ∷ 98 ∷ 9 ∷ 99 ∷ 13 ∷ 100 ∷ 10 ∷ 101 ∷ 12 ∷ 102 ∷ []) ≡
    tokens
    (the_name (codes "a") 1 1 ∷ the_name (codes "b") 1 3 ∷ the_name (codes "c") 1 5
    ∷ the_name (codes "d") 1 7 ∷ the_name (codes "e") 2 1 ∷ the_name (codes "f") 2 3 ∷ [])
unfolding computed
each_blank = refl

-- a comment of a line goes up to the line feed or the end, and over a carriage return
pub line_comments : lexed (codes "a // b /* \\ \"" ++ 13 ∷ codes "c\nd//") ≡
    tokens (the_name (codes "a") 1 1 ∷ the_name (codes "d") 2 1 ∷ [])
unfolding computed
line_comments = refl

-- any bytes stand in a comment
pub bytes_in_comments : lexed (codes "/*" ++ 0 ∷ 200 ∷ codes "' // \n*/a//" ++ 255 ∷ []) ≡
    tokens (the_name (codes "a") 2 3 ∷ [])
unfolding computed
bytes_in_comments = refl

-- a comment ends at the first `*/` behind `/*`
pub first_close :
    lexed (codes "/**/a/*/*/b/***/c*/d") ≡
    tokens
    (the_name (codes "a") 1 5 ∷ the_name (codes "b") 1 11 ∷ the_name (codes "c") 1 17
    ∷ the_operator (Some 0) None 1 18 ∷ the_operator (Some 1) None 1 19 ∷ the_name (codes "d") 1 20
    ∷ [])
unfolding computed
first_close = refl

-- `/*` without `*/`
pub open_comments :
    map lexed
    (codes "m; /*/ n" ∷ codes "// a\n  /* b * /\n" ∷ codes "/* a */ /* b" ∷ codes "/*" ∷ []) ≡
    refused_at 103 1 4 ∷ refused_at 103 2 3 ∷ refused_at 103 1 9 ∷ refused_at 103 1 1 ∷ []
unfolding computed
open_comments = refl

-- a comment parts tokens, and goes over lines
pub parted_by_comments : lexed (codes "a/**/b/*\n\n*/c") ≡
    tokens (the_name (codes "a") 1 1 ∷ the_name (codes "b") 1 6 ∷ the_name (codes "c") 3 3 ∷ [])
unfolding computed
parted_by_comments = refl

-- lines of two directives are skipped from the backquote on, whatever stands there
pub skipped_lines : lexed
    (codes "a `timescale 1ns/1ps /* ' \\\nb `default_nettype none\nc `timescale") ≡
    tokens (the_name (codes "a") 1 1 ∷ the_name (codes "b") 2 1 ∷ the_name (codes "c") 3 1 ∷ [])
unfolding computed
skipped_lines = refl

-- other directives are left out, also where the name is a word
pub other_directives : EachGives (left_out_at (codes "directive") 1 1)
    (codes "`define A 1" ∷ codes "`timescale2 1" ∷ codes "`if" ∷ codes "`TIMESCALE 1"
    ∷ codes "`timescale$" ∷ codes "`_" ∷ [])
unfolding computed
other_directives = refl

-- a backquote wants a name directly behind it
pub lone_backquotes : EachGives (refused_at 101 1 1)
    (codes "` timescale" ∷ codes "`1" ∷ codes "``timescale" ∷ codes "`" ∷ [])
unfolding computed
lone_backquotes = refl

-- the first broken rule of a text is found
pub first_broken :
    map lexed
    (codes "endmodule (\n ;; 65'h0" ∷ codes "initial 1.5" ∷ codes "# ' /*" ∷ []) ≡
    refused_at 102 2 5 ∷ left_out_at (codes "real") 1 9 ∷ refused_at 101 1 3 ∷ []
unfolding computed
first_broken = refl

-- places over several lines, where a tab is one column
pub places :
    lexed (codes "module m;\n\n" ++ 9 ∷ codes "4'd9" ++ 13 ∷ codes "\n  endmodule") ≡
    tokens
    (the_word Module 1 1 ∷ the_name (codes "m") 1 8 ∷ the_sign Semicolon 1 9 ∷ sized 4 false 9 3 2
    ∷ the_word Endmodule 4 3 ∷ [])
unfolding computed
places = refl

-- by the relation: these are the tokens of the text
pub tokens_of_a_text :
    AreTokensOf (codes "module\n m;")
    (the_word Module 1 1 ∷ the_name (codes "m") 2 2 ∷ the_sign Semicolon 2 3 ∷ [])
unfolding computed
tokens_of_a_text = found_are_tokens refl

-- and here the text breaks a rule, behind one token
pub break_of_a_text :
    BreaksLexis 104 (codes "power" ∷ []) (record { line = 2; column = 2 }) (codes "a\n ** ' b")
unfolding computed
break_of_a_text = found_is_broken refl
