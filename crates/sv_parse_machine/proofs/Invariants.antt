-- What holds of every state that a walk reaches: it can be completed without opening a level, and
-- the tokens of the open expression are not too many.
use Rattle.std.proofs.Common.{◌≡◌, ℕ, zero, ◌+◌, ◌-◌, ◌≤◌, max, Bool, true, false, ◌&&◌, List, []}
use Rattle.std.proofs.Common.{◌∷◌, ◌++◌, length, Option, Some, None, inl, refl, sym, subst, arith}
use Rattle.std.specs.List.{list_all}
use Rattle.std.specs.Prelude.{IsTrue}
use Rattle.std.proofs.lemmas.Bool.{and_parts, and_from}
use Rattle.std.proofs.lemmas.List.{length-append}
use Rattle.sv_token.specs.declared.keywords.WordKind.TheVariants as words
use Rattle.sv_token.specs.declared.signs.SignKind.TheVariants as signs
use Rattle.sv_token.specs.Lexemes.{Lexeme, word, sign, Placed}
use Rattle.sv_token.specs.Tokens.{first_place}
use Rattle.sv_ast.specs.GrammarGroups.{literal, no_more}
use Rattle.sv_ast.specs.GrammarExpressions.{Limits, is_within}
use Rattle.sv_parse_machine.specs.Symbols.{Inner, operand, tail, selection, selection_end}
use Rattle.sv_parse_machine.specs.Symbols.{members_or_count, members, inner_colon, inner_parenthesis}
use Rattle.sv_parse_machine.specs.Symbols.{inner_bracket, inner_brace, Outer, one_module, inner, outer}
use Rattle.sv_parse_machine.specs.Symbols.{State, InnerReaction, takes_inner, over_inner, stuck_inner}
use Rattle.sv_parse_machine.specs.Symbols.{OuterReaction, takes, begins, over, stuck}
use Rattle.sv_parse_machine.specs.ExpressionTable.{inner_on}
use Rattle.sv_parse_machine.specs.ModuleTable.{one_module_on}
use Rattle.sv_parse_machine.specs.Machine.{outer_on, MachineStep, goes, fails_as, ends_early}
use Rattle.sv_parse_machine.specs.Machine.{within_limits, inside_on, outside_on, tokens_of}
use Rattle.sv_parse_machine.specs.Machine.{after_inner, after_outer, step}
use Rattle.sv_parse_machine.proofs.ExpressionForms.{inner_form}
use Rattle.sv_parse_machine.proofs.Completions.{a_token, a_number, zero_literal, is_sane, is_plain}
use Rattle.sv_parse_machine.proofs.Completions.{closing, closed, closing_is_quiet}
use Rattle.sv_parse_machine.proofs.QuietTokens.{Quiet, ends_tail_quietly, ends_name_quietly}
use Rattle.sv_parse_machine.proofs.FineRows.{are_sane, are_plain, plain_behind, row_is_fine}
use Rattle.sv_parse_machine.proofs.FineRows.{rows_are_fine}
use Rattle.sv_parse_machine.proofs.Runs.{Fits}
use Rattle.sv_parse_machine.proofs.Walks.{then_step, walk, shift}

-- ---- shapes of states

-- nothing of an expression
abbrev pub AllOuter : State → Type 0
AllOuter [] = Unit {0}
AllOuter (inner start s ∷ below) = ⊥
AllOuter (outer y ∷ below) = AllOuter below

-- what is of an expression comes first, and is all of one that began with so many tokens left
abbrev pub AllInner : ℕ → State → Type 0
AllInner start [] = Unit {0}
AllInner start (inner begun s ∷ below) = (begun ≡ start) × AllInner start below
AllInner start (outer y ∷ below) = AllOuter below

-- what is of no expression passes a test
abbrev pub state_passes : (Outer → Bool) → State → Bool
state_passes test [] = true
state_passes test (inner start s ∷ below) = state_passes test below
state_passes test (outer y ∷ below) = test y && state_passes test below

abbrev pub state_is_sane : State → Bool
state_is_sane s = state_passes is_sane s

abbrev pub state_is_plain : State → Bool
state_is_plain s = state_passes is_plain s

abbrev pub below_is_plain : State → Bool
below_is_plain [] = true
below_is_plain (s ∷ below) = state_is_plain below

pub record Shape (start : ℕ) (s : State) : Type 0 where
  pub layers : AllInner start s
  pub sane : IsTrue (state_is_sane s)
  pub plain : IsTrue (below_is_plain s)

-- with so many tokens left
pub record Sound (l : Limits) (a : ℕ) (s : State) : Type 0 where
  pub start : ℕ
  pub shape : Shape start s
  pub counted : IsTrue (is_within l.tokens (tokens_of l start a))

-- ---- steps keep them

outer_is_inner : (start : ℕ) (s : State) → AllOuter s → AllInner start s
outer_is_inner start [] is = tt
outer_is_inner start (inner begun x ∷ below) is = absurd is
outer_is_inner start (outer y ∷ below) is = is

outside_is_outer : (ys : List Outer) (below : State) → AllOuter below →
    AllOuter (outside_on ys ++ below)
outside_is_outer [] below is = is
outside_is_outer (y ∷ ys) below is = outside_is_outer ys below is

inside_is_inner : (start : ℕ) (xs : List Inner) (below : State) → AllInner start below →
    AllInner start (inside_on start xs ++ below)
inside_is_inner start [] below is = is
inside_is_inner start (x ∷ xs) below is = (refl, inside_is_inner start xs below is)

inside_passes : (test : Outer → Bool) (start : ℕ) (xs : List Inner) (below : State)
    → IsTrue (state_passes test below) → IsTrue (state_passes test (inside_on start xs ++ below))
inside_passes test start [] below is = is
inside_passes test start (x ∷ xs) below is = inside_passes test start xs below is

outside_passes : (test : Outer → Bool) (ys : List Outer) (below : State)
    → IsTrue (list_all test ys)
    → IsTrue (state_passes test below) → IsTrue (state_passes test (outside_on ys ++ below))
outside_passes test [] below fine is = is
outside_passes test (y ∷ ys) below fine is =
    let parts = and_parts (test y) (list_all test ys) fine in
    and_from (test y) (state_passes test (outside_on ys ++ below)) parts.0
    (outside_passes test ys below parts.1 is)

plain_below : (s : State) → IsTrue (state_is_plain s) → IsTrue (below_is_plain s)
plain_below [] is = refl
plain_below (inner start x ∷ below) is = is
plain_below (outer y ∷ below) is = (and_parts (is_plain y) (state_is_plain below) is).1

below_inside : (start : ℕ) (xs : List Inner) (below : State) → IsTrue (state_is_plain below) →
    IsTrue (below_is_plain (inside_on start xs ++ below))
below_inside start [] below is = plain_below below is
below_inside start (x ∷ xs) below is = inside_passes is_plain start xs below is

below_outside : (ys : List Outer) (below : State) → IsTrue (plain_behind ys) →
    IsTrue (state_is_plain below) → IsTrue (below_is_plain (outside_on ys ++ below))
below_outside [] below fine is = plain_below below is
below_outside (y ∷ ys) below fine is = outside_passes is_plain ys below fine is

-- behind a symbol
below_inner : (start begun : ℕ) (x : Inner) (below : State) → Shape start (inner begun x ∷ below) →
    Shape start below
below_inner start begun x below is =
    record { layers = is.layers.1; sane = is.sane; plain = plain_below below is.plain }

below_outer : (start : ℕ) (y : Outer) (below : State) → Shape start (outer y ∷ below) →
    Shape start below
below_outer start y below is = record {
  layers = outer_is_inner start below is.layers;
  sane = (and_parts (is_sane y) (state_is_sane below) is.sane).1;
  plain = plain_below below is.plain;
}

no_tokens : (o : Option ℕ) (n : ℕ) → IsTrue (is_within o (0 - n))
no_tokens None n = refl
no_tokens (Some m) n = grind arith

admits : (d c : Bool) (s next : State) → within_limits d c s ≡ goes next →
    IsTrue d × IsTrue c × (s ≡ next)
admits true true s next e = (refl, refl, cc)
admits true false s next e = absurd (cc)
admits false c s next e = absurd (cc)

sound_inner : (l : Limits) (a start begun : ℕ) (x : Inner) (below next : State) (skip : MachineStep)
    (r : InnerReaction) → Shape start (inner begun x ∷ below)
    → after_inner l a begun below skip r ≡ goes next → (skip ≡ goes next → Sound l a next)
    → Sound l a next
sound_inner l a start begun x below next skip (takes_inner level xs) shape e skips =
    let (opens, count, same) =
    admits (is_within l.levels level) (is_within l.tokens (tokens_of l begun a))
    (inside_on begun xs ++ below) next e in
    let layers : AllInner begun below =
    subst (λ n. AllInner n below) (sym shape.layers.0) shape.layers.1 in
    subst (Sound l a) same (record {
      start = begun;
      shape = record {
        layers = inside_is_inner begun xs below layers;
        sane = inside_passes is_sane begun xs below shape.sane;
        plain = below_inside begun xs below shape.plain;
      };
      counted = count;
    })
sound_inner l a start begun x below next skip over_inner shape e skips = skips e
sound_inner l a start begun x below next skip (stuck_inner f) shape e skips = absurd (cc)

sound_reaction : (l : Limits) (a : ℕ) (below next : State) (skip : MachineStep) (r : OuterReaction)
    → IsTrue (row_is_fine r) → AllOuter below → IsTrue (state_is_sane below)
    → IsTrue (state_is_plain below)
    → after_outer l a below skip r ≡ goes next → (skip ≡ goes next → Sound l a next)
    → Sound l a next
sound_reaction l a below next skip (takes level arm ys) fine layers sane plain e skips =
    let (opens, few, same) =
    admits (is_within l.levels level) (is_within l.arms arm) (outside_on ys ++ below) next e in
    let parts = and_parts (are_sane ys) (plain_behind ys) fine in
    subst (Sound l a) same (record {
      start = 0;
      shape = record {
        layers = outer_is_inner 0 (outside_on ys ++ below) (outside_is_outer ys below layers);
        sane = outside_passes is_sane ys below parts.0 sane;
        plain = below_outside ys below parts.1 plain;
      };
      counted = no_tokens l.tokens (max a l.unread);
    })
sound_reaction l a below next skip (begins level arm xs ys) fine layers sane plain e skips =
    let (opens, both, same) =
    admits (is_within l.levels level) (is_within l.arms arm
    && is_within l.tokens (tokens_of l (a + 1) a))
    (inside_on (a + 1) xs ++ (outside_on ys ++ below)) next e in
    let parts = and_parts (are_sane ys) (are_plain ys) fine in
    subst (Sound l a) same (record {
      start = a + 1;
      shape = record {
        layers =
            inside_is_inner (a + 1) xs (outside_on ys ++ below)
            (outer_is_inner (a + 1) (outside_on ys ++ below) (outside_is_outer ys below layers));
        sane =
            inside_passes is_sane (a + 1) xs (outside_on ys ++ below)
            (outside_passes is_sane ys below parts.0 sane);
        plain =
            below_inside (a + 1) xs (outside_on ys ++ below)
            (outside_passes is_plain ys below parts.1 plain);
      };
      counted =
          (and_parts (is_within l.arms arm) (is_within l.tokens (tokens_of l (a + 1) a)) both).1;
    })
sound_reaction l a below next skip over fine layers sane plain e skips = skips e
sound_reaction l a below next skip (stuck f) fine layers sane plain e skips = absurd (cc)

no_skip : (l : Limits) (a : ℕ) (x : Lexeme) (next : State) →
    after_outer l a [] (goes []) (one_module_on x) ≡ goes next →
    after_outer l a [] (fails_as ends_early) (one_module_on x) ≡ goes next
no_skip l a (word words.Module) next e = e
no_skip l a x next e = e

pub sound_step : (l : Limits) (a start : ℕ) (s next : State) (x : Lexeme) → Shape start s →
    step l a s x ≡ goes next → Sound l a next
sound_step l a start [] next x shape e =
    sound_reaction l a [] next (fails_as ends_early) (one_module_on x) (rows_are_fine one_module x)
    tt refl refl (no_skip l a x next e)
    (λ same. absurd (cc))
sound_step l a start (inner begun y ∷ below) next x shape e =
    sound_inner l a start begun y below next (step l a below x) (inner_on y x) shape e (λ same.
    sound_step l a start below next x (below_inner start begun y below shape) same)
sound_step l a start (outer y ∷ below) next x shape e =
    sound_reaction l a below next (step l a below x) (outer_on y x) (rows_are_fine y x) shape.layers
    (and_parts (is_sane y) (state_is_sane below) shape.sane).1 shape.plain e (λ same.
    sound_step l a start below next x (below_outer start y below shape) same)

pub sound_walk : (l : Limits) (k : ℕ) (ts : List Placed) (s next : State) (a : ℕ) →
    a ≡ length ts + k → Sound l a s → walk l k s ts ≡ goes next → Sound l k next
sound_walk l k [] s next a at sound e =
    let same : s ≡ next = cc in
    let here : a ≡ k = omega arith in
    subst (λ n. Sound l n next) here (subst (Sound l a) same sound)
sound_walk l k (t ∷ ts) s next a at sound e =
    on (step l (length ts + k) s t.lexeme) refl e (λ s.
    sound_walk l k ts s next (length ts + k) refl)
  where
    on : (st : MachineStep) → step l (length ts + k) s t.lexeme ≡ st
        → then_step st (λ s. walk l k s ts) ≡ goes next
        → ((s : State) → Sound l (length ts + k) s → walk l k s ts ≡ goes next → Sound l k next)
        → Sound l k next
    on (goes s1) stepped e further =
        further s1 (sound_step l (length ts + k) sound.start s s1 t.lexeme sound.shape stepped) e
    on (fails_as f) stepped e further = absurd (cc)

-- ---- completing them

abbrev pub closing_inner : Inner → List Placed
closing_inner (operand n) = a_number ∷ []
closing_inner (tail n) = []
closing_inner (selection n) = []
closing_inner (selection_end n) = a_token (sign signs.CloseBracket) ∷ []
closing_inner (members_or_count n) = a_token (sign signs.CloseBrace) ∷ []
closing_inner (members n) = a_token (sign signs.CloseBrace) ∷ []
closing_inner inner_colon = a_token (sign signs.Colon) ∷ []
closing_inner inner_parenthesis = a_token (sign signs.CloseParenthesis) ∷ []
closing_inner inner_bracket = a_token (sign signs.CloseBracket) ∷ []
closing_inner inner_brace = a_token (sign signs.CloseBrace) ∷ []

closed_inner : (l : Limits) (x : Inner) (us : List Placed) → Quiet us →
    inner_form l x (closing_inner x ++ us) us
closed_inner l (operand n) us quiet = (literal zero_literal first_place, (tt, refl, tt))
closed_inner l (tail n) us quiet = ([], (us, refl, inl (ends_tail_quietly us quiet, refl)))
closed_inner l (selection n) us quiet = inl (ends_name_quietly us quiet, refl)
closed_inner l (selection_end n) us quiet = inl (first_place, refl)
closed_inner l (members_or_count n) us quiet =
    inl (no_more, (a_token (sign signs.CloseBrace) ∷ us, refl, (first_place, refl)))
closed_inner l (members n) us quiet =
    (no_more, (a_token (sign signs.CloseBrace) ∷ us, refl, (first_place, refl)))
closed_inner l inner_colon us quiet = (first_place, refl)
closed_inner l inner_parenthesis us quiet = (first_place, refl)
closed_inner l inner_bracket us quiet = (first_place, refl)
closed_inner l inner_brace us quiet = (first_place, refl)

closing_inner_is_quiet : (x : Inner) (us : List Placed) → Quiet us → Quiet (closing_inner x ++ us)
closing_inner_is_quiet (tail n) us quiet = quiet
closing_inner_is_quiet (selection n) us quiet = quiet
closing_inner_is_quiet x us quiet = refl

-- tokens that complete the state
abbrev pub closing_state : State → List Placed
closing_state [] = []
closing_state (inner start x ∷ below) = closing_inner x ++ closing_state below
closing_state (outer y ∷ below) = closing y ++ closing_state below

closing_state_is_quiet : (s : State) → IsTrue (state_is_plain s) → Quiet (closing_state s)
closing_state_is_quiet [] plain = tt
closing_state_is_quiet (inner start x ∷ below) plain =
    closing_inner_is_quiet x (closing_state below) (closing_state_is_quiet below plain)
closing_state_is_quiet (outer y ∷ below) plain =
    let parts = and_parts (is_plain y) (state_is_plain below) plain in
    closing_is_quiet y (closing_state below) parts.0 (closing_state_is_quiet below parts.1)

unread_count : (o : Option ℕ) (start b u : ℕ) → b ≤ u → IsTrue (is_within o start) →
    IsTrue (is_within o ((start + u) - max b u))
unread_count None start b u less is = refl
unread_count (Some m) start b u less is = grind arith

no_longer : (ts us : List Placed) (u : ℕ) → length (ts ++ us) ≤ u → length us ≤ u
no_longer ts us u less =
    let parts = length-append ts us in
    omega (arith, parts)

pub completes : (l : Limits) (u start : ℕ) (s : State) → IsTrue (is_within l.arms 1)
    → IsTrue (is_within l.tokens start) → Shape start s → length (closing_state s) ≤ u
    → Fits (record l { unread = u }) (shift u s) (closing_state s)
completes l u start [] few counted shape less = (zero, refl)
completes l u start (inner begun x ∷ below) few counted shape less =
    let us : List Placed = closing_state below in
    let short = no_longer (closing_inner x) us u less in
    let count : IsTrue (is_within l.tokens begun) =
    subst (λ n. IsTrue (is_within l.tokens n)) (sym shape.layers.0) counted in (
      us,
      (
        closed_inner (record l { unread = u }) x us
            (closing_state_is_quiet below shape.plain),
        unread_count l.tokens begun (length us) u
            short count,
      ),
      completes l u start below few counted (below_inner start begun x below shape) short,
    )
completes l u start (outer y ∷ below) few counted shape less =
    let us : List Placed = closing_state below in
    let short = no_longer (closing y) us u less in (
      us,
      closed (record l { unread = u }) y us few
          (and_parts (is_sane y) (state_is_sane below) shape.sane).0
          (closing_state_is_quiet below shape.plain) less,
      completes l u start below few counted (below_outer start y below shape) short,
    )
