-- Tokens break one rule first, with one list of names.
use Rattle.std.proofs.Common.{◌≡◌, ℕ, List, [], ◌∷◌, ◌++◌, Some, ◌⊎◌, inl, inr, ⊎_elim, refl, sym}
use Rattle.std.proofs.Common.{ap, subst, ◌∙◌, arith}
use Rattle.sv_num.specs.declared.faults.Place.{Place}
use Rattle.sv_token.specs.Lexemes.{Placed}
use Rattle.sv_token.specs.Tokens.{first_place}
use Rattle.sv_ast.specs.GrammarRules.{no_limits, all_limits, BeginText, IsStuck, IsRefusedForm}
use Rattle.sv_ast.specs.GrammarRules.{IsUnsupported, TokenBreaks, BreaksGrammar}
use Rattle.sv_ast.proofs.GrammarNesting.{splits}
use Rattle.sv_ast.proofs.GrammarWiderTexts.{begins_with_first, within_levels, within_none}
use Rattle.sv_ast.proofs.GrammarLaws.{meaning_breaks_no_rule, one_refusal}
use Rattle.sv_parse_machine.specs.Machine.{MachineEnd, done, fails, Failure, stuck_at, too_deep}
use Rattle.sv_parse_machine.specs.Machine.{too_long, ends_early, run, text_state}
use Rattle.sv_parse_machine.specs.Verdict.{refused_word, rule_number, rule_names}
use Rattle.sv_parse_machine.proofs.Runs.{text_of_run}
use Rattle.sv_parse_machine.proofs.TextTrees.{form_of_text, text_of_form}
use Rattle.sv_parse_machine.proofs.Walks.{where_run_fails}
use Rattle.sv_parse_machine.specs.Symbols.{Expected}
use Rattle.sv_parse_machine.specs.Reads.{failure_at}
use Rattle.sv_parse_machine.proofs.Refusals.{Stopped, stopped, begins_within_all, stuck_is_stuck}
use Rattle.sv_parse_machine.proofs.Verdicts.{form_has_word}
use Rattle.sv_parse_machine.proofs.Breaks.{known, end_breaks, failure_breaks}

-- where a form that is left out begins
record AtForm (ts : List Placed) (name : List ℕ) : Type 0 where
  before : List Placed
  token : Placed
  after : List Placed
  parts : ts ≡ before ++ token ∷ after
  begins : BeginText all_limits before
  is : IsUnsupported before token after name

abbrev IsNameless : ℕ → List (List ℕ) → Type 0
IsNameless number names = (number ≡ 202 → ⊥) × (names ≡ [])

other_number : (number other : ℕ) → number ≡ other → (other ≡ 202 → ⊥) → number ≡ 202 → ⊥
other_number number other is differs same = differs (sym is ∙ same)

abbrev HasForm : ℕ → List (List ℕ) → List Placed → Type 0
HasForm number names ts = (number ≡ 202) × (name : List ℕ) × (names ≡ name ∷ []) × AtForm ts name

form_at : (number : ℕ) (names : List (List ℕ)) (ts before : List Placed) (t : Placed)
    (after : List Placed) → ts ≡ before ++ t ∷ after → BeginText all_limits before
    → TokenBreaks number names before t after → IsNameless number names ⊎ HasForm number names ts
form_at number names ts before t after parts begins (inl unexpected) =
    inl (other_number number 201 unexpected.0 (λ same. omega arith), unexpected.1)
form_at number names ts before t after parts begins (inr (inl form)) =
    inr (
      form.0,
      form.1.0,
      form.1.1,
      record {
        before = before;
        token = t;
        after = after;
        parts = parts;
        begins = begins;
        is = form.1.2;
      },
    )
form_at number names ts before t after parts begins (inr (inr (inl deep))) =
    inl (other_number number 203 deep.0 (λ same. omega arith), deep.1)
form_at number names ts before t after parts begins (inr (inr (inr long))) =
    inl (other_number number 204 long.0 (λ same. omega arith), long.1)

-- a rule has no names, or is broken by a form that is left out
form_or_nameless : (number : ℕ) (names : List (List ℕ)) (place stop : Place) (ts : List Placed) →
    BreaksGrammar number names place stop ts → IsNameless number names ⊎ HasForm number names ts
unfolding BreaksGrammar
form_or_nameless number names place stop ts (inl (before, t, after, parts, at, begins, rule)) =
    form_at number names ts before t after parts begins rule
form_or_nameless number names place stop ts (inr at_end) =
    inl (other_number number 201 at_end.0 (λ same. omega arith), at_end.1)

breaks_at : (ts : List Placed) (name : List ℕ) (stop : Place) (form : AtForm ts name) →
    BreaksGrammar 202 (name ∷ []) form.token.place stop ts
unfolding BreaksGrammar
breaks_at ts name stop form =
    inl (
      form.before,
      form.token,
      form.after,
      form.parts,
      refl,
      form.begins,
      inr
          (inl (refl, (name, refl, form.is))),
    )

-- ---- one place

-- tokens behind one that is stuck begin no text
stuck_before : (before : List Placed) (t : Placed) (us front : List Placed) → IsStuck before t →
    front ≡ (before ++ t ∷ []) ++ us → BeginText all_limits front → ⊥
stuck_before before t us front stuck longer begins =
    stuck.1 (begins_with_first no_limits (before ++ t ∷ []) us
    (subst (BeginText no_limits) longer (within_none front (within_levels front begins))))

same_split : (before : List Placed) (t : Placed) (after front : List Placed) (u : Placed)
    (back : List Placed) → before ++ t ∷ after ≡ front ++ u ∷ back
    → BeginText all_limits before → BeginText all_limits front → IsStuck before t → IsStuck front u
    → (before ≡ front) × (t ≡ u) × (after ≡ back)
same_split before t after front u back same begins begins_too stuck stuck_too =
    ⊎_elim (λ first. absurd (stuck_before before t first.0 front stuck first.1 begins_too))
    (λ rest. ⊎_elim (λ second.
    absurd (stuck_before front u second.0 before stuck_too second.1 begins)) (λ one. one) rest)
    (splits before t after front u back same)

-- ---- one word

same_name : (x y : List ℕ) → Some x ≡ Some y → x ≡ y
same_name x y same = cc

module _ (ts : List Placed) (t : Placed) (after : List Placed) (e : Expected)
    (s : Stopped form_of_text text_of_form ts t after (stuck_at e)) where
  -- a form that is left out has the word that the stop of the run has
  word_at_stop : (name : List ℕ) → AtForm ts name →
      refused_word e s.before t.lexeme after ≡ Some name
  word_at_stop name form =
      let one = same_split form.before form.token form.after s.before t after (sym form.parts
      ∙ s.parts) form.begins
      (begins_within_all form_of_text text_of_form ts t after s) form.is.0
      (stuck_is_stuck form_of_text text_of_form ts t after s) in
      form_has_word s.before t.lexeme e after name (known ts t after e s)
      (subst (λ us. IsRefusedForm us t.lexeme after name) one.0
      (subst (λ u. IsRefusedForm form.before u.lexeme after name) one.1
      (subst (λ us. IsRefusedForm form.before form.token.lexeme us name) one.2 form.is.1)))

  one_word : (name other : List ℕ) → AtForm ts name → AtForm ts other → name ≡ other
  one_word name other first second =
      same_name name other (sym (word_at_stop name first) ∙ word_at_stop other second)

abbrev end_number : ℕ
end_number = 201

end_is_no_form : end_number ≡ 202 → ⊥
end_is_no_form same = omega arith

module _ (ts : List Placed) (name other : List ℕ) (first : AtForm ts name)
    (second : AtForm ts other) where
  -- no rule but 202 is broken
  only_forms : (number : ℕ) (names : List (List ℕ)) (place stop : Place) →
      BreaksGrammar number names place stop ts → number ≡ 202
  only_forms number names place stop breaks =
      (one_refusal number 202 names (name ∷ []) place first.token.place stop ts breaks
      (breaks_at ts name stop first)).0

  other_failure : (f : Failure) (t : Placed) (after : List Placed)
      → run all_limits text_state ts ≡ fails (failure_at f (t ∷ after)) (t ∷ after)
      → ((before : List Placed) → rule_number f before (t ∷ after) ≡ 202 → ⊥) → name ≡ other
  other_failure f t after e clash =
      let found = where_run_fails all_limits ts text_state f (t ∷ after) e in
      absurd (clash found.0
      (only_forms (rule_number f found.0 (t ∷ after)) (rule_names f found.0 (t ∷ after)) t.place
      first_place
      (failure_breaks ts found.0 (t ∷ after) f first_place found.1 e)))

  by_end : (o : MachineEnd) → run all_limits text_state ts ≡ o → name ≡ other
  by_end done e =
      let means = text_of_form all_limits ts (text_of_run all_limits ts e) in
      absurd (meaning_breaks_no_rule ts means.0 202 (name ∷ []) first.token.place first_place
      means.1 (breaks_at ts name first_place first))
  by_end (fails f []) e =
      absurd (end_is_no_form
      (only_forms 201 [] first_place first_place (end_breaks ts f first_place e)))
  by_end (fails (stuck_at x) (t ∷ after)) e =
      one_word ts t after x (stopped form_of_text text_of_form ts t after (stuck_at x) e) name other
      first second
  by_end (fails too_deep (t ∷ after)) e =
      other_failure too_deep t after e (λ before same. omega arith)
  by_end (fails too_long (t ∷ after)) e =
      other_failure too_long t after e (λ before same. omega arith)
  by_end (fails ends_early (t ∷ after)) e =
      other_failure ends_early t after e (λ before same. omega arith)

-- tokens break one rule first, with one list of names
pub one_rule : (n m : ℕ) (names others : List (List ℕ)) (p q stop : Place) (ts : List Placed)
    → BreaksGrammar n names p stop ts → BreaksGrammar m others q stop ts
    → (n ≡ m) × (names ≡ others) × (p ≡ q)
one_rule n m names others p q stop ts first second =
    let one = one_refusal n m names others p q stop ts first second in (
      one.0,
      on (form_or_nameless n names p stop ts first)
          (form_or_nameless m others q stop ts second),
      one.1,
    )
  where
    on : IsNameless n names ⊎ HasForm n names ts → IsNameless m others ⊎ HasForm m others ts →
        names ≡ others
    on (inl none) (inl none_too) = none.1 ∙ sym none_too.1
    on (inl none) (inr form) =
        absurd (none.0 ((one_refusal n m names others p q stop ts first second).0 ∙ form.0))
    on (inr form) (inl none) =
        absurd (none.0 (sym (one_refusal n m names others p q stop ts first second).0 ∙ form.0))
    on (inr (is, name, named, at)) (inr (is_too, other, named_too, at_too)) =
        named ∙ ap (λ x. x ∷ [])
        (by_end ts name other at at_too (run all_limits text_state ts) refl) ∙ sym named_too
