-- Bytes mean a text or break a rule on tokens or on the grammar, never both, and one rule first.
use Rattle.std.proofs.Common.{◌≡◌, ℕ, List, ◌⊎◌, inl, inr, ap, subst}
use Rattle.sv_num.specs.declared.faults.Place.{Place}
use Rattle.sv_token.specs.Lexemes.{Placed}
use Rattle.sv_token.specs.Tokens.{AreTokensOf}
use Rattle.sv_token.proofs.Agreement.{HasTokens, HasBreak, has_tokens_or_break, tokens_are_one}
use Rattle.sv_token.proofs.Agreement.{break_is_one, not_both}
use Rattle.sv_ast.specs.Tree.{TextTree}
use Rattle.sv_ast.specs.GrammarRules.{BreaksGrammar}
use Rattle.sv_ast.specs.GrammarMeaning.{Means, BreaksSyntax, end_place}
use Rattle.sv_ast.proofs.SyntaxLaws.{means_no_break}
use Rattle.sv_parse_machine.proofs.Decisions.{MeansOrBreaks, means_or_breaks}
use Rattle.sv_parse_machine.proofs.OneRule.{one_rule}

pub text_breaks_nothing : (bytes : List ℕ) (text : TextTree) → Means bytes text
    → (number : ℕ) (names : List (List ℕ)) (place : Place)
    → BreaksSyntax number names place bytes → ⊥
text_breaks_nothing = means_no_break

pub one_syntax_rule : (bytes : List ℕ) (n m : ℕ) (names others : List (List ℕ)) (p q : Place)
    → BreaksSyntax n names p bytes → BreaksSyntax m others q bytes
    → (n ≡ m) × (names ≡ others) × (p ≡ q)
one_syntax_rule bytes n m names others p q (inl first) (inl second) =
    let same = break_is_one first second in
    (ap (λ r. r.0) same, ap (λ r. r.1) same, ap (λ r. r.2) same)
one_syntax_rule bytes n m names others p q (inl first) (inr (ts, are, breaks)) =
    absurd (not_both are first)
one_syntax_rule bytes n m names others p q (inr (ts, are, breaks)) (inl second) =
    absurd (not_both are second)
one_syntax_rule bytes n m names others p q (inr (ts, are, breaks)) (inr (us, are_too, breaks_too)) =
    one_rule n m names others p q (end_place bytes) us
    (subst (λ vs. BreaksGrammar n names p (end_place bytes) vs) (tokens_are_one are are_too) breaks)
    breaks_too

abbrev pub MeansOrBreaksSyntax : List ℕ → Type 0
MeansOrBreaksSyntax bytes =
    ((text : TextTree) × Means bytes text)
    ⊎ ((number : ℕ) × (names : List (List ℕ)) × (place : Place)
    × BreaksSyntax number names place bytes)

pub text_or_rule : (bytes : List ℕ) → MeansOrBreaksSyntax bytes
text_or_rule bytes = by_tokens (has_tokens_or_break bytes)
  where
    by_grammar : (ts : List Placed) → AreTokensOf bytes ts → MeansOrBreaks ts (end_place bytes) →
        MeansOrBreaksSyntax bytes
    by_grammar ts are (inl (text, mean)) = inl (text, (ts, are, mean))
    by_grammar ts are (inr (number, names, place, breaks)) =
        inr (number, names, place, inr (ts, are, breaks))

    by_tokens : HasTokens bytes ⊎ HasBreak bytes → MeansOrBreaksSyntax bytes
    by_tokens (inl (ts, are)) = by_grammar ts are (means_or_breaks ts (end_place bytes))
    by_tokens (inr (number, names, place, breaks)) = inr (number, names, place, inl breaks)
