-- Tokens mean a tree or break a rule, never both; and what they break first is one rule at one
-- place.
use Rattle.std.proofs.Common.{◌≡◌, ℕ, List, [], ◌∷◌, ◌++◌, inl, inr, ⊎_elim, refl, sym, ap, subst}
use Rattle.std.proofs.Common.{◌∙◌}
use Rattle.std.proofs.lemmas.List.{append_assoc}
use Rattle.sv_num.specs.declared.faults.Place.{Place}
use Rattle.sv_token.specs.Lexemes.{Placed}
use Rattle.sv_ast.specs.Tree.{TextTree}
use Rattle.sv_ast.specs.GrammarRules.{no_limits, all_limits, TokensMean, BeginText, TokenBreaks}
use Rattle.sv_ast.specs.GrammarRules.{BreaksGrammar}
use Rattle.sv_ast.proofs.GrammarNesting.{splits}
use Rattle.sv_ast.proofs.GrammarWider.{IsWider}
use Rattle.sv_ast.proofs.GrammarWiderTexts.{wide_text, begins_with_first, within_levels}
use Rattle.sv_ast.proofs.GrammarWiderTexts.{within_none, begins_with_meaning}

-- no text within the limits begins with a token that breaks a rule
pub broken_is_no_begin :
    (number : ℕ) (names : List (List ℕ)) (before : List Placed) (t : Placed) (after : List Placed)
    → TokenBreaks number names before t after → BeginText all_limits (before ++ t ∷ []) → ⊥
broken_is_no_begin number names before t after breaks begins =
    let levels = within_levels (before ++ t ∷ []) begins in
    let none = within_none (before ++ t ∷ []) levels in
    ⊎_elim (λ unexpected. unexpected.2.0.1 none)
    (λ others. ⊎_elim (λ unsupported. unsupported.1.2.0.1 none)
    (λ limits. ⊎_elim (λ deep. deep.2.2 levels) (λ long. long.2.2 begins) limits) others) breaks

all_to_none : IsWider all_limits no_limits
all_to_none = record { levels = λ m is. refl; tokens = λ ts rest is. refl; arms = λ m is. refl }

-- tokens with a meaning break no rule
pub meaning_breaks_no_rule :
    (ts : List Placed) (t : TextTree) (number : ℕ) (names : List (List ℕ)) (place stop : Place)
    → TokensMean ts t → BreaksGrammar number names place stop ts → ⊥
unfolding BreaksGrammar
meaning_breaks_no_rule ts t number names place stop means breaks =
    ⊎_elim
    (λ at_token.
    let (before, x, after, parts, at, begins, rule) = at_token in
    broken_is_no_begin number names before x after rule
    (begins_with_first all_limits (before ++ x ∷ []) after
    (subst (BeginText all_limits) (parts ∙ sym (append_assoc before (x ∷ []) after))
    (begins_with_meaning ts t means))))
    (λ at_end. at_end.4.1 t (wide_text all_to_none t ts means))
    breaks

-- ---- one refusal

-- a token breaks rules of one number
one_number : (n m : ℕ) (names others : List (List ℕ)) (before : List Placed) (t : Placed)
    (after : List Placed)
    → TokenBreaks n names before t after → TokenBreaks m others before t after → n ≡ m
one_number n m names others before t after (inl p) (inl q) = p.0 ∙ sym q.0
one_number n m names others before t after (inl p) (inr (inl q)) = absurd (p.2.1 q.1.0 q.1.2.1)
one_number n m names others before t after (inl p) (inr (inr (inl q))) = absurd (p.2.0.1 q.2.1)
one_number n m names others before t after (inl p) (inr (inr (inr q))) =
    absurd (p.2.0.1 (within_none _ q.2.1))
one_number n m names others before t after (inr (inl p)) (inl q) = absurd (q.2.1 p.1.0 p.1.2.1)
one_number n m names others before t after (inr (inl p)) (inr (inl q)) = p.0 ∙ sym q.0
one_number n m names others before t after (inr (inl p)) (inr (inr (inl q))) =
    absurd (p.1.2.0.1 q.2.1)
one_number n m names others before t after (inr (inl p)) (inr (inr (inr q))) =
    absurd (p.1.2.0.1 (within_none _ q.2.1))
one_number n m names others before t after (inr (inr (inl p))) (inl q) = absurd (q.2.0.1 p.2.1)
one_number n m names others before t after (inr (inr (inl p))) (inr (inl q)) =
    absurd (q.1.2.0.1 p.2.1)
one_number n m names others before t after (inr (inr (inl p))) (inr (inr (inl q))) = p.0 ∙ sym q.0
one_number n m names others before t after (inr (inr (inl p))) (inr (inr (inr q))) =
    absurd (p.2.2 q.2.1)
one_number n m names others before t after (inr (inr (inr p))) (inl q) =
    absurd (q.2.0.1 (within_none _ p.2.1))
one_number n m names others before t after (inr (inr (inr p))) (inr (inl q)) =
    absurd (q.1.2.0.1 (within_none _ p.2.1))
one_number n m names others before t after (inr (inr (inr p))) (inr (inr (inl q))) =
    absurd (q.2.2 p.2.1)
one_number n m names others before t after (inr (inr (inr p))) (inr (inr (inr q))) = p.0 ∙ sym q.0

-- no text within the limits begins with tokens behind one that breaks a rule
broken_before : (number : ℕ) (names : List (List ℕ)) (before : List Placed) (t : Placed)
    (after us front : List Placed)
    → TokenBreaks number names before t after → front ≡ (before ++ t ∷ []) ++ us
    → BeginText all_limits front → ⊥
broken_before number names before t after us front rule longer begins =
    broken_is_no_begin number names before t after rule
    (begins_with_first all_limits (before ++ t ∷ []) us
    (subst (BeginText all_limits) longer begins))

-- tokens break one rule first, at one place
pub one_refusal : (n m : ℕ) (names others : List (List ℕ)) (p q stop : Place) (ts : List Placed)
    → BreaksGrammar n names p stop ts → BreaksGrammar m others q stop ts → (n ≡ m) × (p ≡ q)
unfolding BreaksGrammar
one_refusal n m names others p q stop ts (inr first) (inr second) =
    (first.0 ∙ sym second.0, first.2 ∙ sym second.2)
one_refusal n m names others p q stop ts (inl (before, x, after, parts, at, begins, rule))
    (inr second) =
    absurd (broken_before n names before x after after ts rule (parts
    ∙ sym (append_assoc before (x ∷ []) after)) second.3)
one_refusal n m names others p q stop ts (inr first)
    (inl (before, x, after, parts, at, begins, rule)) =
    absurd (broken_before m others before x after after ts rule (parts
    ∙ sym (append_assoc before (x ∷ []) after)) first.3)
one_refusal n m names others p q stop ts (inl (before, x, after, parts, at, begins, rule))
    (inl (front, y, back, parts_too, at_too, begins_too, rule_too)) =
    ⊎_elim (λ first. absurd
    (broken_before n names before x after first.0 front rule first.1 begins_too))
    (λ rest. ⊎_elim (λ second.
    absurd (broken_before m others front y back second.0 before rule_too second.1 begins))
    (λ one. same_token one.0 one.1 one.2) rest)
    (splits before x after front y back (sym parts ∙ parts_too))
  where
    same_token : before ≡ front → x ≡ y → after ≡ back → (n ≡ m) × (p ≡ q)
    same_token one two three = (
      one_number n m names others before x after rule
          (subst (λ b. TokenBreaks m others b x after) (sym one)
          (subst (λ z. TokenBreaks m others front z after) (sym two)
          (subst (λ c. TokenBreaks m others front y c) (sym three) rule_too))),
      sym at ∙ ap (λ z. z.place) two ∙ at_too,
    )
