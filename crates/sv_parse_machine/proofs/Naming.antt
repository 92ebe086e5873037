-- Where the machine waits for a bit or a part of a name: right behind a name that is an operand,
-- and nowhere else.
use Rattle.std.proofs.Common.{◌≡◌, ℕ, ◌+◌, Bool, true, false, ◌&&◌, List, [], ◌∷◌, ◌++◌, length}
use Rattle.std.proofs.Common.{Option, Some, None, ◌⊎◌, inl, inr, refl, subst}
use Rattle.std.specs.Prelude.{IsTrue, fold}
use Rattle.std.proofs.lemmas.Bool.{false≢true, and_parts}
use Rattle.sv_num.specs.declared.operators.UnOp.{UnOp}
use Rattle.sv_num.specs.declared.operators.BinOp.{BinOp}
use Rattle.sv_token.specs.declared.keywords.WordKind.TheVariants as words
use Rattle.sv_token.specs.declared.signs.SignKind.TheVariants as signs
use Rattle.sv_token.specs.declared.signs.Operator.{Operator}
use Rattle.sv_token.specs.Lexemes.{Lexeme, word, identifier, numeral, sign, Placed}
use Rattle.sv_token.specs.Words.{is_refused_word}
use Rattle.sv_ast.specs.GrammarForms.{binary_operator, unary_operator}
use Rattle.sv_ast.specs.GrammarExpressions.{Limits, is_within}
use Rattle.sv_ast.specs.GrammarRules.{is_name, no_limits}
use Rattle.sv_parse_machine.specs.Symbols.{Inner, operand, tail, selection, selection_end}
use Rattle.sv_parse_machine.specs.Symbols.{members_or_count, members, inner_colon, inner_parenthesis}
use Rattle.sv_parse_machine.specs.Symbols.{inner_bracket, inner_brace, Outer, inner, outer, State}
use Rattle.sv_parse_machine.specs.Symbols.{behind_name, InnerReaction, takes_inner, over_inner}
use Rattle.sv_parse_machine.specs.Symbols.{stuck_inner, OuterReaction, takes, begins, over, stuck}
use Rattle.sv_parse_machine.specs.ExpressionTable.{name_operand, prefix_operand, infix_tail, inner_on}
use Rattle.sv_parse_machine.specs.ModuleTable.{one_module_on}
use Rattle.sv_parse_machine.specs.Machine.{outer_on, MachineStep, goes, fails_as, stuck_at}
use Rattle.sv_parse_machine.specs.Machine.{ends_early, within_limits, inside_on, outside_on}
use Rattle.sv_parse_machine.specs.Machine.{tokens_of, after_inner, after_outer, step}
use Rattle.sv_parse_machine.proofs.Completions.{is_sane}
use Rattle.sv_parse_machine.proofs.Walks.{then_step, walk}
use Rattle.sv_parse_machine.proofs.Invariants.{AllOuter, AllInner, state_is_sane, Shape, sound_step}
use Rattle.sv_parse_machine.proofs.NamedRows.{tail_comes, row_is_tidy, begins_well, rows_begin_well}
use Rattle.sv_parse_machine.proofs.NamedRows.{is_not_behind_name, dots_are_outside, is_not_taken}
use Rattle.sv_parse_machine.proofs.NamedRows.{questions_are_inside}

-- ---- states

abbrev pub TailNext : State → Type 0
TailNext (inner start (tail n) ∷ below) = Unit {0}
TailNext s = ⊥

-- operands have what follows them directly behind, and no name waits
abbrev pub Tidy : State → Type 0
Tidy [] = Unit {0}
Tidy (inner start (operand n) ∷ below) = TailNext below × Tidy below
Tidy (inner start (selection n) ∷ below) = ⊥
Tidy (inner start x ∷ below) = Tidy below
Tidy (outer y ∷ below) = Tidy below

-- a name waits
abbrev pub NameWaits : State → Type 0
NameWaits (inner start (selection n) ∷ below) = TailNext below × Tidy below
NameWaits s = ⊥

-- behind a name: it waits, or is no part of an expression; behind another token no name waits
abbrev pub Named : Bool → State → Type 0
Named named s = (NameWaits s × (named ≡ true)) ⊎ (Tidy s × (named ≡ true → AllOuter s))

-- ---- steps

same_next : (d c : Bool) (s next : State) → within_limits d c s ≡ goes next → s ≡ next
same_next true true s next e = cc
same_next true false s next e = absurd (cc)
same_next false c s next e = absurd (cc)

tidy_outside : (ys : List Outer) (below : State) → Tidy below → Tidy (outside_on ys ++ below)
tidy_outside [] below tidy = tidy
tidy_outside (y ∷ ys) below tidy = tidy_outside ys below tidy

outer_outside : (ys : List Outer) (below : State) → AllOuter below →
    AllOuter (outside_on ys ++ below)
outer_outside [] below is = is
outer_outside (y ∷ ys) below is = outer_outside ys below is

tail_inside : (start : ℕ) (xs : List Inner) (below : State) → IsTrue (tail_comes xs) →
    TailNext (inside_on start xs ++ below)
tail_inside start [] below comes = absurd (false≢true comes)
tail_inside start (tail n ∷ xs) below comes = tt
tail_inside start (x ∷ xs) below comes = absurd (false≢true comes)

tidy_inside : (start : ℕ) (xs : List Inner) (below : State) → IsTrue (row_is_tidy xs) → Tidy below →
    Tidy (inside_on start xs ++ below)
tidy_inside start [] below fine tidy = tidy
tidy_inside start (operand n ∷ xs) below fine tidy =
    let parts = and_parts (tail_comes xs) (row_is_tidy xs) fine in
    (tail_inside start xs below parts.0, tidy_inside start xs below parts.1 tidy)
tidy_inside start (selection n ∷ xs) below fine tidy = absurd (false≢true fine)
tidy_inside start (tail n ∷ xs) below fine tidy = tidy_inside start xs below fine tidy
tidy_inside start (selection_end n ∷ xs) below fine tidy = tidy_inside start xs below fine tidy
tidy_inside start (members_or_count n ∷ xs) below fine tidy = tidy_inside start xs below fine tidy
tidy_inside start (members n ∷ xs) below fine tidy = tidy_inside start xs below fine tidy
tidy_inside start (inner_colon ∷ xs) below fine tidy = tidy_inside start xs below fine tidy
tidy_inside start (inner_parenthesis ∷ xs) below fine tidy = tidy_inside start xs below fine tidy
tidy_inside start (inner_bracket ∷ xs) below fine tidy = tidy_inside start xs below fine tidy
tidy_inside start (inner_brace ∷ xs) below fine tidy = tidy_inside start xs below fine tidy

not_named : {P : Type 0} → false ≡ true → P
not_named named = absurd (false≢true named)

-- what an expression begins with
named_begun : (named : Bool) (level arm start : ℕ) (xs : List Inner) (ys : List Outer)
    (below : State) → IsTrue (begins_well named (begins level arm xs ys)) → Tidy below
    → Named named (inside_on start xs ++ below)
named_begun false level arm start xs ys below well tidy =
    inr ((tidy_inside start xs below well tidy), not_named)
named_begun true level arm start (selection n ∷ tail m ∷ []) ys below well tidy =
    inl ((tt, tidy), refl)
named_begun true level arm start xs ys below well tidy = absurd (false≢true well)

named_outside : (l : Limits) (a : ℕ) (named : Bool) (below next : State) (skip : MachineStep)
    (r : OuterReaction) → IsTrue (begins_well named r) → Tidy below → AllOuter below
    → after_outer l a below skip r ≡ goes next → (skip ≡ goes next → Named named next)
    → Named named next
named_outside l a named below next skip (takes level arm ys) well tidy layers e skips =
    subst (Named named) (same_next (is_within l.levels level) (is_within l.arms arm)
    (outside_on ys ++ below) next e)
    (inr (tidy_outside ys below tidy, λ _. outer_outside ys below layers))
named_outside l a named below next skip (begins level arm xs ys) well tidy layers e skips =
    subst (Named named)
    (same_next (is_within l.levels level) (is_within l.arms arm
    && is_within l.tokens (tokens_of l (a + 1) a))
    (inside_on (a + 1) xs ++ (outside_on ys ++ below)) next e)
    (named_begun named level arm (a + 1) xs ys (outside_on ys ++ below) well
    (tidy_outside ys below tidy))
named_outside l a named below next skip over well tidy layers e skips = skips e
named_outside l a named below next skip (stuck f) well tidy layers e skips = absurd (cc)

-- what a symbol of an expression is followed by, where nothing waits: the taken token is a name
-- only of an operand
abbrev Followed : ℕ → State → Lexeme → InnerReaction → Type 0
Followed start below x (takes_inner level xs) = Named (is_name x) (inside_on start xs ++ below)
Followed start below x r = Unit {0}

followed_name : (start n : ℕ) (below : State) (y : List ℕ) (b : Bool) → TailNext below →
    Tidy below → Followed start below (identifier y) (name_operand n b)
followed_name start n below y true comes tidy = tt
followed_name start n below y false comes tidy = inl ((comes, tidy), refl)

followed_prefix : (start n : ℕ) (below : State) (o : Operator) (u : Option UnOp) → TailNext below
    → Tidy below
    → Followed start below (sign (signs.Operator o)) (prefix_operand n u)
followed_prefix start n below o None comes tidy = tt
followed_prefix start n below o (Some op) comes tidy = inr ((comes, tidy), not_named)

followed_infix : (start n : ℕ) (below : State) (o : Operator) (b : Option BinOp) → Tidy below
    → Followed start below (sign (signs.Operator o)) (infix_tail n b)
followed_infix start n below o None tidy = tt
followed_infix start n below o (Some op) tidy = inr ((tt, tidy), not_named)

followed : (start : ℕ) (s : Inner) (below : State) (x : Lexeme) → Tidy (inner start s ∷ below) →
    Followed start below x (inner_on s x)
followed start (operand n) below (numeral v) tidy = inr (tidy.1, not_named)
followed start (operand n) below (identifier y) tidy =
    followed_name start n below y (is_refused_word y) tidy.0 tidy.1
followed start (operand n) below (sign signs.OpenParenthesis) tidy = inr ((tt, tidy.1), not_named)
followed start (operand n) below (sign signs.OpenBrace) tidy = inr ((tt, tidy.1), not_named)
followed start (operand n) below (sign (signs.Operator o)) tidy =
    followed_prefix start n below o (unary_operator o) tidy.0 tidy.1
followed start (operand n) below x tidy = tt
followed start (tail n) below (sign signs.Question) tidy = inr ((tt, (tt, tidy)), not_named)
followed start (tail n) below (sign (signs.Operator o)) tidy =
    followed_infix start n below o (binary_operator o) tidy
followed start (tail n) below x tidy = tt
followed start (selection n) below x tidy = absurd tidy
followed start (selection_end n) below (sign signs.CloseBracket) tidy = inr (tidy, not_named)
followed start (selection_end n) below (sign signs.Colon) tidy = inr ((tt, tidy), not_named)
followed start (selection_end n) below x tidy = tt
followed start (members_or_count n) below (sign signs.CloseBrace) tidy = inr (tidy, not_named)
followed start (members_or_count n) below (sign signs.Comma) tidy = inr ((tt, tidy), not_named)
followed start (members_or_count n) below (sign signs.OpenBrace) tidy = inr ((tt, tidy), not_named)
followed start (members_or_count n) below x tidy = tt
followed start (members n) below (sign signs.CloseBrace) tidy = inr (tidy, not_named)
followed start (members n) below (sign signs.Comma) tidy = inr ((tt, tidy), not_named)
followed start (members n) below x tidy = tt
followed start inner_colon below (sign signs.Colon) tidy = inr (tidy, not_named)
followed start inner_colon below x tidy = tt
followed start inner_parenthesis below (sign signs.CloseParenthesis) tidy = inr (tidy, not_named)
followed start inner_parenthesis below x tidy = tt
followed start inner_bracket below (sign signs.CloseBracket) tidy = inr (tidy, not_named)
followed start inner_bracket below x tidy = tt
followed start inner_brace below (sign signs.CloseBrace) tidy = inr (tidy, not_named)
followed start inner_brace below x tidy = tt

tidy_below : (start : ℕ) (s : Inner) (below : State) → Tidy (inner start s ∷ below) → Tidy below
tidy_below start (operand n) below tidy = tidy.1
tidy_below start (selection n) below tidy = absurd tidy
tidy_below start s below tidy = tidy

named_inside : (l : Limits) (a start : ℕ) (below next : State) (x : Lexeme) (skip : MachineStep)
    (r : InnerReaction) → Followed start below x r
    → after_inner l a start below skip r ≡ goes next → (skip ≡ goes next → Named (is_name x) next)
    → Named (is_name x) next
named_inside l a start below next x skip (takes_inner level xs) follows e skips =
    subst (Named (is_name x))
    (same_next (is_within l.levels level) (is_within l.tokens (tokens_of l start a))
    (inside_on start xs ++ below) next e) follows
named_inside l a start below next x skip over_inner follows e skips = skips e
named_inside l a start below next x skip (stuck_inner f) follows e skips = absurd (cc)

outer_layers : (start : ℕ) (s : State) → AllOuter s → AllInner start s
outer_layers start [] is = tt
outer_layers start (inner begun x ∷ below) is = absurd is
outer_layers start (outer y ∷ below) is = is

named_module : (l : Limits) (a : ℕ) (next : State) (x : Lexeme) →
    after_outer l a [] (goes []) (one_module_on x) ≡ goes next → Named (is_name x) next
named_module l a next (word words.Module) e =
    named_outside l a false [] next (fails_as ends_early) (one_module_on (word words.Module)) refl
    tt tt e (λ same. absurd (cc))
named_module l a next x e = absurd (cc)

-- from a state in which nothing waits
tidy_step : (l : Limits) (a start : ℕ) (s next : State) (x : Lexeme) → AllInner start s → Tidy s →
    step l a s x ≡ goes next → Named (is_name x) next
tidy_step l a start [] next x layers tidy e = named_module l a next x e
tidy_step l a start (inner begun y ∷ below) next x layers tidy e =
    named_inside l a begun below next x (step l a below x) (inner_on y x)
    (followed begun y below x tidy) e
    (λ same. tidy_step l a start below next x layers.1 (tidy_below begun y below tidy) same)
tidy_step l a start (outer y ∷ below) next x layers tidy e =
    named_outside l a (is_name x) below next (step l a below x) (outer_on y x) (rows_begin_well y x)
    tidy layers e
    (λ same. tidy_step l a start below next x (outer_layers start below layers) tidy same)

-- from one in which a name waits: its bracket, or what stands behind
waiting_step : (l : Limits) (a start : ℕ) (s next : State) (x : Lexeme) → AllInner start s →
    NameWaits s → step l a s x ≡ goes next → Named (is_name x) next
waiting_step l a start [] next x layers waits e = absurd waits
waiting_step l a start (outer y ∷ below) next x layers waits e = absurd waits
waiting_step l a start (inner begun (selection n) ∷ below) next x layers waits e =
    named_inside l a begun below next x (step l a below x) (inner_on (selection n) x) (bits x) e
    (λ same. tidy_step l a start below next x layers.1 waits.1 same)
  where
    bits : (x : Lexeme) → Followed begun below x (inner_on (selection n) x)
    bits (sign signs.OpenBracket) = inr ((tt, waits.1), not_named)
    bits x = tt
waiting_step l a start (inner begun y ∷ below) next x layers waits e = absurd waits

named_step : (l : Limits) (a start : ℕ) (named : Bool) (s next : State) (x : Lexeme) →
    AllInner start s → Named named s → step l a s x ≡ goes next → Named (is_name x) next
named_step l a start named s next x layers (inl waits) e =
    waiting_step l a start s next x layers waits.0 e
named_step l a start named s next x layers (inr tidy) e =
    tidy_step l a start s next x layers tidy.0 e

-- whether the last of the tokens is a name
abbrev pub last_is_name : Bool → List Placed → Bool
last_is_name named ts = fold (λ _ t. is_name t.lexeme) named ts

pub named_walk : (l : Limits) (k start : ℕ) (ts : List Placed) (named : Bool) (s next : State)
    → Shape start s → Named named s → walk l k s ts ≡ goes next
    → Named (last_is_name named ts) next
named_walk l k start [] named s next shape is e =
    let same : s ≡ next = cc in subst (Named named) same is
named_walk l k start (t ∷ ts) named s next shape is e =
    on (step l (length ts + k) s t.lexeme) refl e (λ start s.
    named_walk l k start ts (is_name t.lexeme) s next)
  where
    on : (st : MachineStep) → step l (length ts + k) s t.lexeme ≡ st
        → then_step st (λ s. walk l k s ts) ≡ goes next
        → ((start : ℕ) (s : State) → Shape start s → Named (is_name t.lexeme) s
        → walk l k s ts ≡ goes next → Named (last_is_name (is_name t.lexeme) ts) next)
        → Named (last_is_name named (t ∷ ts)) next
    on (goes s1) stepped e further =
        let sound = sound_step l (length ts + k) start s s1 t.lexeme shape stepped in
        further sound.start s1 sound.shape
        (named_step l (length ts + k) start named s s1 t.lexeme shape.layers is stepped) e
    on (fails_as f) stepped e further = absurd (cc)

-- ---- a dot

true_first : (x y : Bool) → IsTrue (x && y) → IsTrue x
true_first true y all = refl
true_first false y all = absurd (false≢true all)

never_stuck : (d c : Bool) (s : State) → within_limits d c s ≡ fails_as (stuck_at behind_name) → ⊥
never_stuck true true s same = cc
never_stuck true false s same = cc
never_stuck false c s same = cc

dot_is_outside : (l : Limits) (a : ℕ) (below : State) (skip : MachineStep) (r : OuterReaction)
    → IsTrue (is_not_behind_name r)
    → after_outer l a below skip r ≡ fails_as (stuck_at behind_name)
    → (skip ≡ fails_as (stuck_at behind_name) → ⊥) → ⊥
dot_is_outside l a below skip (takes level arm ys) kind e further =
    never_stuck (is_within l.levels level) (is_within l.arms arm) (outside_on ys ++ below) e
dot_is_outside l a below skip (begins level arm xs ys) kind e further =
    never_stuck (is_within l.levels level) (is_within l.arms arm
    && is_within l.tokens (tokens_of l (a + 1) a))
    (inside_on (a + 1) xs ++ (outside_on ys ++ below)) e
dot_is_outside l a below skip over kind e further = further e
dot_is_outside l a below skip (stuck behind_name) kind e further = absurd (false≢true kind)
dot_is_outside l a below skip (stuck f) kind e further = cc

-- where nothing waits, a dot is behind no name
tidy_dot : (l : Limits) (a : ℕ) (s : State) → Tidy s →
    step l a s (sign signs.Dot) ≡ fails_as (stuck_at behind_name) → ⊥
tidy_dot l a [] tidy e = cc
tidy_dot l a (inner start (operand n) ∷ below) tidy e = cc
tidy_dot l a (inner start (tail n) ∷ below) tidy e = tidy_dot l a below tidy e
tidy_dot l a (inner start (selection n) ∷ below) tidy e = tidy
tidy_dot l a (inner start x ∷ below) tidy e = cc
tidy_dot l a (outer y ∷ below) tidy e =
    dot_is_outside l a below (step l a below (sign signs.Dot)) (outer_on y (sign signs.Dot))
    (dots_are_outside y) e (λ same. tidy_dot l a below tidy same)

-- a name that waits may be followed by a `?`, and is stuck at a dot
waiting_question : (a : ℕ) (s : State) → NameWaits s →
    (next : State) × (step no_limits a s (sign signs.Question) ≡ goes next)
waiting_question a (inner start (selection n) ∷ inner begun (tail m) ∷ below) waits = (_, refl)
waiting_question a (inner start (selection n) ∷ []) waits = absurd waits.0
waiting_question a (inner start (selection n) ∷ outer y ∷ below) waits = absurd waits.0
waiting_question a (inner start (selection n) ∷ inner begun x ∷ below) waits = absurd waits.0
waiting_question a [] waits = absurd waits
waiting_question a (outer y ∷ below) waits = absurd waits
waiting_question a (inner start x ∷ below) waits = absurd waits

pub waiting_dot : (l : Limits) (a : ℕ) (s : State) → NameWaits s →
    step l a s (sign signs.Dot) ≡ fails_as (stuck_at behind_name)
waiting_dot l a [] waits = absurd waits
waiting_dot l a (outer y ∷ below) waits = absurd waits
waiting_dot l a (inner start (selection n) ∷ below) waits = refl
waiting_dot l a (inner start x ∷ below) waits = absurd waits

-- no `?` outside expressions
question_outside : (l : Limits) (a : ℕ) (s next : State) → AllOuter s → IsTrue (state_is_sane s) →
    step l a s (sign signs.Question) ≡ goes next → ⊥
question_outside l a [] next layers sane e = cc
question_outside l a (inner start x ∷ below) next layers sane e = layers
question_outside l a (outer y ∷ below) next layers sane e =
    on (outer_on y (sign signs.Question))
    (questions_are_inside y (true_first (is_sane y) (state_is_sane below) sane)) e
    (question_outside l a below next layers (true_second (is_sane y) (state_is_sane below) sane))
  where
    true_second : (x y : Bool) → IsTrue (x && y) → IsTrue y
    true_second true y all = all
    true_second false y all = absurd (false≢true all)

    on : (r : OuterReaction) → IsTrue (is_not_taken r)
        → after_outer l a below (step l a below (sign signs.Question)) r ≡ goes next
        → (step l a below (sign signs.Question) ≡ goes next → ⊥) → ⊥
    on (takes level arm ys) kind e further = false≢true kind
    on (begins level arm xs ys) kind e further = false≢true kind
    on over kind e further = further e
    on (stuck f) kind e further = cc

-- a dot behind a name that is an operand
pub dot_behind_name : (l : Limits) (a : ℕ) (named : Bool) (s : State) → Named named s
    → step l a s (sign signs.Dot) ≡ fails_as (stuck_at behind_name)
    → (named ≡ true) × ((next : State) × (step no_limits a s (sign signs.Question) ≡ goes next))
dot_behind_name l a named s (inl waits) e = (waits.1, waiting_question a s waits.0)
dot_behind_name l a named s (inr tidy) e = absurd (tidy_dot l a s tidy.0 e)

pub name_before_question : (l : Limits) (a : ℕ) (s next : State) → Named true s
    → IsTrue (state_is_sane s) → step no_limits a s (sign signs.Question) ≡ goes next
    → step l a s (sign signs.Dot) ≡ fails_as (stuck_at behind_name)
name_before_question l a s next (inl waits) sane e = waiting_dot l a s waits.0
name_before_question l a s next (inr tidy) sane e =
    absurd (question_outside no_limits a s next (tidy.1 refl) sane e)
