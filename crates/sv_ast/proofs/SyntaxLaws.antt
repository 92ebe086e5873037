-- A text's meaning and its refusals exclude each other, and one refusal comes first.
use Rattle.std.proofs.Common.{◌≡◌, ℕ, inl, inr, List, subst, ap}
use Rattle.sv_num.specs.declared.faults.Place.{Place}
use Rattle.sv_token.proofs.Agreement.{tokens_are_one, break_is_one, not_both}
use Rattle.sv_ast.specs.Tree.{TextTree}
use Rattle.sv_ast.specs.GrammarRules.{TokensMean, BreaksGrammar}
use Rattle.sv_ast.specs.GrammarMeaning.{Means, BreaksSyntax, end_place}
use Rattle.sv_ast.proofs.GrammarLaws.{meaning_breaks_no_rule, one_refusal}

pub means_no_break : (bytes : List ℕ) (text : TextTree) → Means bytes text
    → (number : ℕ) (names : List (List ℕ)) (place : Place)
    → BreaksSyntax number names place bytes → ⊥
means_no_break bytes text (ts, are, mean) number names place (inl lexis) = not_both are lexis
means_no_break bytes text (ts, are, mean) number names place (inr (us, are_too, breaks)) =
    meaning_breaks_no_rule us text number names place (end_place bytes)
    (subst (λ vs. TokensMean vs text) (tokens_are_one are are_too) mean) breaks

pub broken_once : (bytes : List ℕ) (number other : ℕ) (names others : List (List ℕ))
    (place elsewhere : Place)
    → BreaksSyntax number names place bytes → BreaksSyntax other others elsewhere bytes
    → (number ≡ other) × (place ≡ elsewhere)
broken_once bytes n m ns ms p q (inl first) (inl second) =
    let same = break_is_one first second in (ap (λ r. r.0) same, ap (λ r. r.2) same)
broken_once bytes n m ns ms p q (inl first) (inr (us, are, breaks)) = absurd (not_both are first)
broken_once bytes n m ns ms p q (inr (ts, are, breaks)) (inl second) = absurd (not_both are second)
broken_once bytes n m ns ms p q (inr (ts, are, breaks)) (inr (us, are_too, breaks_too)) =
    one_refusal n m ns ms p q (end_place bytes) us
    (subst (BreaksGrammar n ns p (end_place bytes)) (tokens_are_one are are_too) breaks) breaks_too
