-- Where a run over the tokens fails, they break the rule of the grammar that it says.
use Rattle.std.proofs.Common.{◌≡◌, ℕ, ◌+◌, Bool, true, false, ◌&&◌, List, [], ◌∷◌, ◌++◌, length}
use Rattle.std.proofs.Common.{Option, Some, None, inl, inr, refl, sym, subst, ◌∙◌}
use Rattle.std.specs.Prelude.{IsTrue}
use Rattle.std.proofs.lemmas.Bool.{false≢true}
use Rattle.std.proofs.lemmas.List.{append_cancel_right}
use Rattle.sv_num.specs.declared.faults.Place.{Place}
use Rattle.sv_token.specs.declared.keywords.WordKind.TheVariants as words
use Rattle.sv_token.specs.declared.signs.SignKind.TheVariants as signs
use Rattle.sv_token.specs.Lexemes.{Lexeme, word, identifier, sign, Placed}
use Rattle.sv_token.specs.Tokens.{first_place}
use Rattle.sv_ast.specs.GrammarRules.{no_limits, all_limits, MayFollow, stop_at_name, StopAtOperand}
use Rattle.sv_ast.specs.GrammarRules.{TokenBreaks, BreaksGrammar}
use Rattle.sv_parse_machine.specs.Symbols.{State, Expected, behind_name}
use Rattle.sv_parse_machine.specs.Machine.{MachineStep, goes, fails_as, Failure, stuck_at, too_deep}
use Rattle.sv_parse_machine.specs.Machine.{too_long, ends_early, within_limits, tokens_of, step}
use Rattle.sv_parse_machine.specs.Machine.{fails, run, text_state}
use Rattle.sv_parse_machine.specs.Verdict.{refused_word, stuck_number, stuck_names, rule_number}
use Rattle.sv_parse_machine.specs.Verdict.{rule_names, rule_place}
use Rattle.sv_parse_machine.specs.Reads.{failure_at}
use Rattle.sv_ast.specs.GrammarExpressions.{is_within}
use Rattle.sv_parse_machine.proofs.TextTrees.{form_of_text, text_of_form}
use Rattle.sv_parse_machine.proofs.Walks.{walk, Forecast, forecast}
use Rattle.sv_parse_machine.proofs.Invariants.{Sound, sound_walk}
use Rattle.sv_parse_machine.proofs.Beginnings.{start_is_sound}
use Rattle.sv_parse_machine.proofs.Refusals.{Stopped, stopped, under_none, begins_within_all}
use Rattle.sv_parse_machine.proofs.Refusals.{begins_with_more, begins_not_with_more, stuck_is_stuck}
use Rattle.sv_parse_machine.proofs.Refusals.{deep_is_deep, long_is_long, early_is_early, never_stuck}
use Rattle.sv_parse_machine.proofs.AgreedRows.{is_named, IsFree}
use Rattle.sv_parse_machine.proofs.Expecting.{goes_on, IsNoDot, Expects, expects}
use Rattle.sv_parse_machine.proofs.Naming.{Named, named_walk, dot_behind_name, name_before_question}
use Rattle.sv_parse_machine.proofs.Verdicts.{May, MayBeName, Known, form_has_word, word_has_form}

-- ---- what is known of a place where a token is stuck

free_of : (x : Lexeme) → ((y : List ℕ) → x ≡ identifier y → ⊥) → IsFree x
free_of (identifier y) none = absurd (none y refl)
free_of x none = tt

no_dot_of : (x : Lexeme) → (x ≡ sign signs.Dot → ⊥) → IsNoDot x
no_dot_of (sign signs.Dot) none = absurd (none refl)
no_dot_of x none = tt

abbrev token : Lexeme → Place → Placed
token x p = record { lexeme = x; place = p }

module _ (ts : List Placed) (t : Placed) (after : List Placed) (e : Expected)
    (s : Stopped form_of_text text_of_form ts t after (stuck_at e)) where
  loose : walk no_limits (length after + 1) text_state s.before ≡ goes s.last
  loose = under_none form_of_text text_of_form ts t after s

  stuck_loosely : step no_limits (length after) s.last t.lexeme ≡ fails_as (stuck_at e)
  stuck_loosely = on (forecast (length after) s.last t.lexeme)
    where
      on : Forecast (length after) s.last t.lexeme →
          step no_limits (length after) s.last t.lexeme ≡ fails_as (stuck_at e)
      on (inl (f, is)) =
          let kinds : fails_as (stuck_at f) ≡ fails_as (stuck_at e) =
          sym (is all_limits) ∙ s.stops in
          is no_limits ∙ kinds
      on (inr (level, arm, start, next, is)) =
          absurd (never_stuck (is_within all_limits.levels level) (is_within all_limits.arms arm
          && is_within all_limits.tokens (tokens_of all_limits start (length after)))
          next e (sym (is all_limits) ∙ s.stops))

  -- a lexeme may come next exactly where the state takes it
  may : (x : Lexeme) (next : State) → step no_limits (length after) s.last x ≡ goes next →
      MayFollow s.before x
  may x next goes_there = (
    first_place,
    begins_with_more form_of_text text_of_form no_limits refl refl refl
        (length after) s.before (token x first_place) s.last next loose goes_there,
  )

  may_not : (x : Lexeme) (f : Failure) → step no_limits (length after) s.last x ≡ fails_as f →
      MayFollow s.before x → ⊥
  may_not x f fails_there (p, begins) =
      begins_not_with_more form_of_text text_of_form no_limits refl refl refl (length after)
      s.before (token x p) s.last f loose fails_there begins

  may_where_it_goes : (x : Lexeme) → goes_on (step no_limits (length after) s.last x) ≡ true →
      MayFollow s.before x
  may_where_it_goes x is = on (step no_limits (length after) s.last x) refl is
    where
      on : (st : MachineStep) → step no_limits (length after) s.last x ≡ st → goes_on st ≡ true →
          MayFollow s.before x
      on (goes next) found is = may x next found
      on (fails_as f) found is = absurd (false≢true is)

  may_not_where_it_fails : (x : Lexeme) → goes_on (step no_limits (length after) s.last x) ≡ false →
      MayFollow s.before x → ⊥
  may_not_where_it_fails x is = on (step no_limits (length after) s.last x) refl is
    where
      on : (st : MachineStep) → step no_limits (length after) s.last x ≡ st → goes_on st ≡ false →
          MayFollow s.before x → ⊥
      on (goes next) found is begins = false≢true (sym is)
      on (fails_as f) found is begins = may_not x f found begins

  sound_last : Sound no_limits (length after + 1) s.last
  sound_last =
      sound_walk no_limits (length after + 1) s.before text_state s.last
      (length s.before + (length after + 1)) refl
      (start_is_sound no_limits (length s.before + (length after + 1))) loose

  named_last : Named (stop_at_name s.before) s.last
  named_last =
      named_walk no_limits (length after + 1) 0 s.before false text_state s.last
      (record { layers = tt; sane = refl; plain = refl })
      (inr (tt, λ named. absurd (false≢true named))) loose

  known_words : IsFree t.lexeme → IsNoDot t.lexeme → Expects (length after) s.last t.lexeme e
  known_words free no_dot = expects (length after) s.last t.lexeme e free no_dot stuck_loosely

  may_of : Expects (length after) s.last t.lexeme e → May s.before e
  may_of is = record {
    items = λ kind. may_where_it_goes (word words.Always) (is.items ∙ kind);
    no_items = λ kind. may_not_where_it_fails (word words.Always) (is.items ∙ kind);
    statements = λ kind. may_where_it_goes (word words.Begin) (is.statements ∙ kind);
    no_statements = λ kind. may_not_where_it_fails (word words.Begin) (is.statements ∙ kind);
  }

  names_of : (y : List ℕ) → t.lexeme ≡ identifier y → Expects (length after) s.last t.lexeme e →
      MayBeName s.before e
  names_of y at is =
      let named : IsTrue (is_named t.lexeme) = subst (λ x. IsTrue (is_named x)) (sym at) refl in
      record {
        edges = λ kind. may_where_it_goes (word words.Posedge) (is.edges ∙ kind);
        no_edges = λ kind. may_not_where_it_fails (word words.Posedge) (is.edges ∙ kind);
        ports = λ kind. may_where_it_goes (word words.Input) (is.ports named ∙ kind);
        no_ports = λ kind. may_not_where_it_fails (word words.Input) (is.ports named ∙ kind);
      }

  dot_is_behind_name : t.lexeme ≡ sign signs.Dot → e ≡ behind_name → StopAtOperand s.before
  dot_is_behind_name at kind =
      let here : step no_limits (length after) s.last (sign signs.Dot) ≡
      fails_as (stuck_at behind_name) =
      subst (λ x. step no_limits (length after) s.last x ≡ fails_as (stuck_at behind_name)) at
      (subst (λ e. step no_limits (length after) s.last t.lexeme ≡ fails_as (stuck_at e)) kind
      stuck_loosely) in
      let found = dot_behind_name no_limits (length after) (stop_at_name s.before) s.last
      named_last here in
      (may (sign signs.Question) found.1.0 found.1.1, found.0)

  behind_name_at_dot : t.lexeme ≡ sign signs.Dot → StopAtOperand s.before → e ≡ behind_name
  behind_name_at_dot at (choice, named) =
      on (step no_limits (length after) s.last (sign signs.Question)) refl
    where
      on : (st : MachineStep) → step no_limits (length after) s.last (sign signs.Question) ≡ st →
          e ≡ behind_name
      on (goes next) found =
          let waits : Named true s.last = subst (λ b. Named b s.last) named named_last in
          let here = name_before_question no_limits (length after) s.last next waits
          sound_last.shape.sane found in
          let stuck_here : step no_limits (length after) s.last (sign signs.Dot) ≡
          fails_as (stuck_at e) =
          subst (λ x. step no_limits (length after) s.last x ≡ fails_as (stuck_at e)) at
          stuck_loosely in
          let kinds : fails_as (stuck_at e) ≡ fails_as (stuck_at behind_name) =
          sym stuck_here ∙ here in
          cc
      on (fails_as f) found = absurd (may_not (sign signs.Question) f found choice)

  pub known : Known s.before t.lexeme e
  known = record {
    may =
        λ no_name no_dot. may_of
        (known_words (free_of t.lexeme no_name) (no_dot_of t.lexeme no_dot));
    may_be_name = λ y at free.
        names_of y at (known_words (subst IsFree (sym at) free) (subst IsNoDot (sym at) tt));
    dots = λ at. (dot_is_behind_name at, behind_name_at_dot at);
  }

  -- 202 with the word, or 201
  token_breaks : (w : Option (List ℕ)) → refused_word e s.before t.lexeme after ≡ w →
      TokenBreaks (stuck_number w) (stuck_names w) s.before t after
  token_breaks (Some name) found =
      inr
      (inl (
        refl,
        (
          name,
          refl,
          (
            stuck_is_stuck form_of_text text_of_form ts t after s,
            word_has_form s.before t.lexeme e
                after name known found,
          ),
        ),
      ))
  token_breaks None found =
      inl (
        refl,
        refl,
        (
          stuck_is_stuck form_of_text text_of_form ts t after s,
          λ name is.
              clash name (sym found ∙ form_has_word s.before t.lexeme e after name known is),
        ),
      )
    where
      clash : (name : List ℕ) → None ≡ Some name → ⊥
      clash name same = cc

-- ---- the rules

same_before : (ts before : List Placed) (t : Placed) (after : List Placed) (f : Failure)
    (s : Stopped form_of_text text_of_form ts t after f) → ts ≡ before ++ t ∷ after →
    s.before ≡ before
same_before ts before t after f s parts =
    append_cancel_right s.before before (t ∷ after) (sym s.parts ∙ parts)

-- with what may begin there
breaks_at : (number : ℕ) (names : List (List ℕ)) (ts : List Placed) (t : Placed)
    (after : List Placed) (f : Failure) (stop : Place)
    (s : Stopped form_of_text text_of_form ts t after f) → TokenBreaks number names s.before t after
    → BreaksGrammar number names t.place stop ts
unfolding BreaksGrammar
breaks_at number names ts t after f stop s rule = inl (
  s.before,
  t,
  after,
  s.parts,
  refl,
  begins_within_all form_of_text text_of_form ts t after s,
  rule,
)

-- 201 or 202
pub stuck_breaks : (ts before : List Placed) (t : Placed) (after : List Placed) (e : Expected)
    (stop : Place) → ts ≡ before ++ t ∷ after
    → run all_limits text_state ts ≡ fails (stuck_at e) (t ∷ after)
    → BreaksGrammar (stuck_number (refused_word e before t.lexeme after))
    (stuck_names (refused_word e before t.lexeme after)) t.place stop ts
stuck_breaks ts before t after e stop parts failed =
    let s = stopped form_of_text text_of_form ts t after (stuck_at e) failed in
    let same = same_before ts before t after (stuck_at e) s parts in
    breaks_at (stuck_number (refused_word e before t.lexeme after))
    (stuck_names (refused_word e before t.lexeme after)) ts t after (stuck_at e) stop s
    (subst (λ us. TokenBreaks (stuck_number (refused_word e us t.lexeme after))
    (stuck_names (refused_word e us t.lexeme after)) s.before t after) same
    (token_breaks ts t after e s (refused_word e s.before t.lexeme after) refl))

-- a failure at a limit breaks the rule of that number
abbrev pub BreaksLimit : ℕ → Failure → Type 0
BreaksLimit number f =
    (ts : List Placed) (t : Placed) (after : List Placed) (stop : Place)
    → run all_limits text_state ts ≡ fails f (t ∷ after)
    → BreaksGrammar number [] t.place stop ts

limit_breaks : (number : ℕ) (f : Failure)
    → ((ts : List Placed) (t : Placed) (after : List Placed)
    (s : Stopped form_of_text text_of_form ts t after f) → TokenBreaks number [] s.before t after)
    → BreaksLimit number f
limit_breaks number f rule ts t after stop failed =
    let s = stopped form_of_text text_of_form ts t after f failed in
    breaks_at number [] ts t after f stop s (rule ts t after s)

pub deep_breaks : BreaksLimit 203 too_deep
deep_breaks ts t after stop failed = limit_breaks 203 too_deep (λ us u rest s.
    inr (inr (inl (refl, refl, deep_is_deep form_of_text text_of_form us u rest s))))
    ts t after stop failed

pub long_breaks : BreaksLimit 204 too_long
long_breaks ts t after stop failed = limit_breaks 204 too_long (λ us u rest s.
    inr (inr (inr (refl, refl, long_is_long form_of_text text_of_form us u rest s))))
    ts t after stop failed

-- 201 at the end
pub end_breaks : (ts : List Placed) (f : Failure) (stop : Place) →
    run all_limits text_state ts ≡ fails f [] → BreaksGrammar 201 [] stop stop ts
unfolding BreaksGrammar
end_breaks ts f stop failed =
    let early = early_is_early form_of_text text_of_form ts f failed in
    inr (refl, refl, refl, early.1, early.2)

-- no step ends early
no_early_step : (ts : List Placed) (t : Placed) (after : List Placed) →
    run all_limits text_state ts ≡ fails ends_early (t ∷ after) → ⊥
no_early_step ts t after failed =
    let s = stopped form_of_text text_of_form ts t after ends_early failed in
    on s.last s.stops (forecast (length after) s.last t.lexeme)
  where
    never_early : (d c : Bool) (s : State) → within_limits d c s ≡ fails_as ends_early → ⊥
    never_early true true s same = cc
    never_early true false s same = cc
    never_early false c s same = cc

    on : (last : State) → step all_limits (length after) last t.lexeme ≡ fails_as ends_early →
        Forecast (length after) last t.lexeme → ⊥
    on last stops (inl (f, is)) =
        let clash : fails_as (stuck_at f) ≡ fails_as ends_early = sym (is all_limits) ∙ stops in cc
    on last stops (inr (level, arm, start, next, is)) =
        never_early (is_within all_limits.levels level) (is_within all_limits.arms arm
        && is_within all_limits.tokens (tokens_of all_limits start (length after))) next
        (sym (is all_limits) ∙ stops)

-- tokens at whose rest the run fails break the rule that the failure says, there
pub failure_breaks : (ts before rest : List Placed) (f : Failure) (stop : Place)
    → ts ≡ before ++ rest → run all_limits text_state ts ≡ fails (failure_at f rest) rest
    → BreaksGrammar (rule_number f before rest) (rule_names f before rest)
    (rule_place stop rest) stop ts
failure_breaks ts before [] (stuck_at e) stop parts failed = end_breaks ts ends_early stop failed
failure_breaks ts before [] too_deep stop parts failed = end_breaks ts ends_early stop failed
failure_breaks ts before [] too_long stop parts failed = end_breaks ts ends_early stop failed
failure_breaks ts before [] ends_early stop parts failed = end_breaks ts ends_early stop failed
failure_breaks ts before (t ∷ after) (stuck_at e) stop parts failed =
    stuck_breaks ts before t after e stop parts failed
failure_breaks ts before (t ∷ after) too_deep stop parts failed = deep_breaks ts t after stop failed
failure_breaks ts before (t ∷ after) too_long stop parts failed = long_breaks ts t after stop failed
failure_breaks ts before (t ∷ after) ends_early stop parts failed =
    absurd (no_early_step ts t after failed)
