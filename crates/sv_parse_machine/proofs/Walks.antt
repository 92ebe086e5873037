-- Walks over the first tokens of a text: what they have to do with runs, and with other limits and
-- other tokens behind.
use Rattle.std.proofs.Common.{◌≡◌, ℕ, ◌+◌, ◌-◌, max, Bool, true, false, ◌&&◌, List, [], ◌∷◌, ◌++◌}
use Rattle.std.proofs.Common.{map, length, Option, Some, None, ◌⊎◌, inl, inr, refl, sym, ap, subst}
use Rattle.std.proofs.Common.{◌∙◌, arith}
use Rattle.std.proofs.lemmas.List.{length-append}
use Rattle.sv_token.specs.declared.keywords.WordKind.TheVariants as words
use Rattle.sv_token.specs.Lexemes.{Lexeme, word, Placed}
use Rattle.sv_ast.specs.GrammarExpressions.{Limits, is_within}
use Rattle.sv_parse_machine.specs.Symbols.{Inner, Outer, Symbol, inner, outer, State, Expected, something}
use Rattle.sv_parse_machine.specs.Symbols.{InnerReaction, takes_inner, over_inner, stuck_inner}
use Rattle.sv_parse_machine.specs.Symbols.{OuterReaction, takes, begins, over, stuck}
use Rattle.sv_parse_machine.specs.ExpressionTable.{inner_on}
use Rattle.sv_parse_machine.specs.ModuleTable.{one_module_on}
use Rattle.sv_parse_machine.specs.Machine.{outer_on, MachineStep, goes, fails_as, Failure, stuck_at}
use Rattle.sv_parse_machine.specs.Machine.{within_limits, inside_on, outside_on, tokens_of, after_inner}
use Rattle.sv_parse_machine.specs.Machine.{after_outer, step, done, fails, may_be_empty, ended, at_end}
use Rattle.sv_parse_machine.specs.Machine.{go_on, run}

abbrev pub then_step : MachineStep → (State → MachineStep) → MachineStep
then_step (goes s) f = f s
then_step (fails_as e) f = fails_as e

-- over tokens behind which so many others stand
abbrev pub walk : Limits → (beyond : ℕ) → State → List Placed → MachineStep
walk l k s [] = goes s
walk l k s (t ∷ ts) = then_step (step l (length ts + k) s t.lexeme) (λ next. walk l k next ts)

-- ---- walks and runs

behind : (ts us : List Placed) → length (ts ++ us) ≡ length ts + length us
behind ts us = length-append ts us

pub run_of_walk : (l : Limits) (ts us : List Placed) (s next : State) →
    walk l (length us) s ts ≡ goes next → run l s (ts ++ us) ≡ run l next us
run_of_walk l [] us s next e = ap (λ st. go_on (λ s. run l s us) us st) e
run_of_walk l (t ∷ ts) us s next e =
    subst (λ n. go_on (λ s. run l s (ts ++ us)) (t ∷ (ts ++ us)) (step l n s t.lexeme) ≡
    run l next us) (sym (behind ts us))
    (on (step l (length ts + length us) s t.lexeme) e (λ s. run_of_walk l ts us s next))
  where
    on : (st : MachineStep) → then_step st (λ s. walk l (length us) s ts) ≡ goes next
        → ((s : State) → walk l (length us) s ts ≡ goes next → run l s (ts ++ us) ≡ run l next us)
        → go_on (λ s. run l s (ts ++ us)) (t ∷ (ts ++ us)) st ≡ run l next us
    on (goes s) e further = further s e
    on (fails_as f) e further = absurd (cc)

-- a run to the end walks over its first tokens
pub walk_of_run : (l : Limits) (ts us : List Placed) (s : State) → run l s (ts ++ us) ≡ done →
    (next : State) × (walk l (length us) s ts ≡ goes next) × (run l next us ≡ done)
walk_of_run l [] us s e = (s, refl, e)
walk_of_run l (t ∷ ts) us s e =
    let e : go_on (λ s. run l s (ts ++ us)) (t ∷ (ts ++ us))
    (step l (length ts + length us) s t.lexeme) ≡ done =
    subst (λ n. go_on (λ s. run l s (ts ++ us)) (t ∷ (ts ++ us)) (step l n s t.lexeme) ≡ done)
    (behind ts us) e in
    on (step l (length ts + length us) s t.lexeme) e (λ s. walk_of_run l ts us s)
  where
    on : (st : MachineStep) → go_on (λ s. run l s (ts ++ us)) (t ∷ (ts ++ us)) st ≡ done
        → ((s : State) → run l s (ts ++ us) ≡ done
        → (next : State) × (walk l (length us) s ts ≡ goes next) × (run l next us ≡ done))
        → (next : State) × (then_step st (λ s. walk l (length us) s ts) ≡ goes next)
        × (run l next us ≡ done)
    on (goes s) e further = further s e
    on (fails_as f) e further = absurd (cc)

-- where a run fails: at a token that the state does not take, or at the end
abbrev pub StopsAs : Limits → State → Failure → List Placed → Type 0
StopsAs l s f [] = at_end s ≡ fails f []
StopsAs l s f (t ∷ after) = step l (length after) s t.lexeme ≡ fails_as f

abbrev pub FailsAt : Limits → State → List Placed → Failure → List Placed → Type 0
FailsAt l s ts f rest =
    (before : List Placed) × (ts ≡ before ++ rest) × (last : State)
    × (walk l (length rest) s before ≡ goes last) × StopsAs l last f rest

end_has_no_rest : (s : State) (f : Failure) (rest : List Placed) → at_end s ≡ fails f rest →
    rest ≡ []
end_has_no_rest [] f rest e = absurd (cc)
end_has_no_rest (s ∷ below) f rest e = on (may_be_empty s) e (end_has_no_rest below f rest)
  where
    on : (b : Bool) → ended b (at_end below) ≡ fails f rest →
        (at_end below ≡ fails f rest → rest ≡ []) → rest ≡ []
    on true e further = further e
    on false e further = cc

pub where_run_fails :
    (l : Limits) (ts : List Placed) (s : State) (f : Failure) (rest : List Placed) →
    run l s ts ≡ fails f rest → FailsAt l s ts f rest
where_run_fails l [] s f rest e =
    let none : rest ≡ [] = end_has_no_rest s f rest e in
    subst (λ us. FailsAt l s [] f us) (sym none)
    ([], refl, s, refl, subst (λ us. at_end s ≡ fails f us) none e)
where_run_fails l (t ∷ ts) s f rest e =
    on (step l (length ts) s t.lexeme) refl e (λ s. where_run_fails l ts s f rest)
  where
    on : (st : MachineStep) → step l (length ts) s t.lexeme ≡ st
        → go_on (λ s. run l s ts) (t ∷ ts) st ≡ fails f rest
        → ((s : State) → run l s ts ≡ fails f rest → FailsAt l s ts f rest)
        → FailsAt l s (t ∷ ts) f rest
    on (goes next) stepped e further =
        let (before, parts, last, walked, stops) = further next e in
        let many : length ts ≡ length before + length rest =
        ap length parts ∙ behind before rest in (
          t ∷ before,
          ap (λ us. t ∷ us) parts,
          last,
          subst (λ n. then_step (step l n s t.lexeme) (λ s. walk l (length rest) s before) ≡
              goes last) many
              (subst (λ st. then_step st (λ s. walk l (length rest) s before) ≡ goes last)
              (sym stepped) walked),
          stops,
        )
    on (fails_as g) stepped e further =
        let kinds : g ≡ f = cc in
        let rests : t ∷ ts ≡ rest = cc in
        subst (λ us. FailsAt l s (t ∷ ts) f us) rests (
          [],
          refl,
          s,
          refl,
          subst (λ h.
              step l (length ts) s t.lexeme ≡ fails_as h) kinds stepped,
        )

-- ---- other tokens behind

abbrev pub shifted : ℕ → Symbol → Symbol
shifted m (inner start s) = inner (start + m) s
shifted m (outer y) = outer y

abbrev pub shift : ℕ → State → State
shift m s = map (shifted m) s

abbrev pub shift_step : ℕ → MachineStep → MachineStep
shift_step m (goes s) = goes (shift m s)
shift_step m (fails_as f) = fails_as f

shift_inside : (m start : ℕ) (xs : List Inner) (below : State) →
    shift m (inside_on start xs ++ below) ≡ inside_on (start + m) xs ++ shift m below
shift_inside m start [] below = refl
shift_inside m start (x ∷ xs) below =
    ap (λ s. inner (start + m) x ∷ s) (shift_inside m start xs below)

shift_outside : (m : ℕ) (ys : List Outer) (below : State) →
    shift m (outside_on ys ++ below) ≡ outside_on ys ++ shift m below
shift_outside m [] below = refl
shift_outside m (y ∷ ys) below = ap (λ s. outer y ∷ s) (shift_outside m ys below)

within_shift : (m : ℕ) (d c : Bool) (s t : State) → shift m s ≡ t →
    within_limits d c t ≡ shift_step m (within_limits d c s)
within_shift m true true s t e = ap goes (sym e)
within_shift m true false s t e = refl
within_shift m false c s t e = refl

-- tokens of expressions count alike under both limits
abbrev pub CountAlike : ℕ → Limits → ℕ → Type 0
CountAlike m k u =
    (start after : ℕ) → tokens_of (record k { unread = u }) (start + m) (after + m) ≡
    tokens_of k start after

module _ (m u : ℕ) (k : Limits) (alike : CountAlike m k u) where
  shift_after_inner : (a start : ℕ) (below : State) (skip other : MachineStep) (r : InnerReaction)
      → other ≡ shift_step m skip
      → after_inner (record k { unread = u }) (a + m) (start + m) (shift m below) other r ≡
      shift_step m (after_inner k a start below skip r)
  shift_after_inner a start below skip other (takes_inner level xs) same =
      subst (λ n. within_limits (is_within k.levels level) (is_within k.tokens n)
      (inside_on (start + m) xs ++ shift m below)
      ≡ shift_step m (within_limits (is_within k.levels level)
      (is_within k.tokens (tokens_of k start a)) (inside_on start xs ++ below)))
      (sym (alike start a))
      (within_shift m (is_within k.levels level) (is_within k.tokens (tokens_of k start a))
      (inside_on start xs ++ below) (inside_on (start + m) xs ++ shift m below)
      (shift_inside m start xs below))
  shift_after_inner a start below skip other over_inner same = same
  shift_after_inner a start below skip other (stuck_inner e) same = refl

  begun_at : (a : ℕ) → (a + 1) + m ≡ (a + m) + 1
  begun_at a = omega arith

  shift_after_outer : (a : ℕ) (below : State) (skip other : MachineStep) (r : OuterReaction)
      → other ≡ shift_step m skip
      → after_outer (record k { unread = u }) (a + m) (shift m below) other r ≡
      shift_step m (after_outer k a below skip r)
  shift_after_outer a below skip other (takes level arm ys) same =
      within_shift m (is_within k.levels level) (is_within k.arms arm) (outside_on ys ++ below)
      (outside_on ys ++ shift m below) (shift_outside m ys below)
  shift_after_outer a below skip other (begins level arm xs ys) same =
      subst (λ n. within_limits (is_within k.levels level) (is_within k.arms arm
      && is_within k.tokens (tokens_of (record k { unread = u }) n (a + m)))
      (inside_on n xs ++ (outside_on ys ++ shift m below))
      ≡ shift_step m (within_limits (is_within k.levels level) (is_within k.arms arm
      && is_within k.tokens (tokens_of k (a + 1) a))
      (inside_on (a + 1) xs ++ (outside_on ys ++ below))))
      (begun_at a)
      (subst (λ n. within_limits (is_within k.levels level) (is_within k.arms arm
      && is_within k.tokens n)
      (inside_on ((a + 1) + m) xs ++ (outside_on ys ++ shift m below))
      ≡ shift_step m (within_limits (is_within k.levels level) (is_within k.arms arm
      && is_within k.tokens (tokens_of k (a + 1) a))
      (inside_on (a + 1) xs ++ (outside_on ys ++ below))))
      (sym (alike (a + 1) a))
      (within_shift m (is_within k.levels level) (is_within k.arms arm
      && is_within k.tokens (tokens_of k (a + 1) a))
      (inside_on (a + 1) xs ++ (outside_on ys ++ below))
      (inside_on ((a + 1) + m) xs ++ (outside_on ys ++ shift m below))
      (shift_inside m (a + 1) xs (outside_on ys ++ below)
      ∙ ap (λ s. inside_on ((a + 1) + m) xs ++ s) (shift_outside m ys below))))
  shift_after_outer a below skip other over same = same
  shift_after_outer a below skip other (stuck e) same = refl

  shift_one : (a : ℕ) (s : State) (x : Lexeme) →
      step (record k { unread = u }) (a + m) (shift m s) x ≡ shift_step m (step k a s x)
  shift_one a [] x = shift_after_outer a [] (goes []) (goes []) (one_module_on x) refl
  shift_one a (inner start s ∷ below) x =
      shift_after_inner a start below (step k a below x)
      (step (record k { unread = u }) (a + m) (shift m below) x) (inner_on s x)
      (shift_one a below x)
  shift_one a (outer y ∷ below) x =
      shift_after_outer a below (step k a below x)
      (step (record k { unread = u }) (a + m) (shift m below) x) (outer_on y x)
      (shift_one a below x)

  further_behind : (a j : ℕ) → (a + j) + m ≡ a + (j + m)
  further_behind a j = omega arith

  -- a walk with more tokens behind it, none of which were read, or with none that are not read
  pub shift_walk : (j : ℕ) (ts : List Placed) (s : State) →
      walk (record k { unread = u }) (j + m) (shift m s) ts ≡ shift_step m (walk k j s ts)
  shift_walk j [] s = refl
  shift_walk j (t ∷ ts) s =
      subst (λ n. then_step (step (record k { unread = u }) n (shift m s) t.lexeme) (λ next.
      walk (record k { unread = u }) (j + m) next ts)
      ≡ shift_step m (then_step (step k (length ts + j) s t.lexeme) (λ next. walk k j next ts)))
      (further_behind (length ts) j)
      (subst (λ st. then_step st (λ next. walk (record k { unread = u }) (j + m) next ts)
      ≡ shift_step m (then_step (step k (length ts + j) s t.lexeme) (λ next. walk k j next ts)))
      (sym (shift_one (length ts + j) s t.lexeme))
      (on (step k (length ts + j) s t.lexeme) (λ next. shift_walk j ts next)))
    where
      on : (st : MachineStep) → ((next : State)
          → walk (record k { unread = u }) (j + m) (shift m next) ts ≡
          shift_step m (walk k j next ts))
          → then_step (shift_step m st) (λ next. walk (record k { unread = u }) (j + m) next ts) ≡
          shift_step m (then_step st (λ next. walk k j next ts))
      on (goes next) further = further next
      on (fails_as f) further = refl

-- ---- other limits

-- a step goes on within the limits
abbrev pub GoesWithin : ℕ → State → Lexeme → Type 0
GoesWithin a s x = (level arm start : ℕ) × (next : State)
    × ((l : Limits) → step l a s x ≡
    within_limits (is_within l.levels level) (is_within l.arms arm
    && is_within l.tokens (tokens_of l start a)) next)

-- what a step does under any limits: it is stuck, or it goes on within the limits
abbrev pub Forecast : ℕ → State → Lexeme → Type 0
Forecast a s x =
    ((e : Expected) × ((l : Limits) → step l a s x ≡ fails_as (stuck_at e))) ⊎ GoesWithin a s x

within_zero : (o : Option ℕ) → is_within o 0 ≡ true
within_zero None = refl
within_zero (Some m) = grind arith

no_tokens : (o : Option ℕ) (n : ℕ) → is_within o (0 - n) ≡ true
no_tokens None n = refl
no_tokens (Some m) n = grind arith

and_true : (b : Bool) → b ≡ b && true
and_true true = refl
and_true false = refl

forecast_inner : (a start : ℕ) (s : Inner) (below : State) (x : Lexeme) (r : InnerReaction) →
    inner_on s x ≡ r → Forecast a below x → Forecast a (inner start s ∷ below) x
forecast_inner a start s below x (takes_inner level xs) found further =
    inr (
      level,
      0,
      start,
      inside_on start xs ++ below,
      λ l. subst (λ r. after_inner l a start below (step l a below x) r
          ≡ within_limits (is_within l.levels level) (is_within l.arms 0
          && is_within l.tokens (tokens_of l start a)) (inside_on start xs ++ below))
          (sym found)
          (ap (λ b. within_limits (is_within l.levels level)
          (b && is_within l.tokens (tokens_of l start a)) (inside_on start xs ++ below))
          (sym (within_zero l.arms))),
    )
forecast_inner a start s below x over_inner found (inl (e, is)) =
    inl (
      e,
      λ l. subst (λ r.
          after_inner l a start below (step l a below x) r ≡
          fails_as (stuck_at e)) (sym found) (is l),
    )
forecast_inner a start s below x over_inner found (inr (level, arm, begun, next, is)) =
    inr (
      level,
      arm,
      begun,
      next,
      λ l. subst (λ r. after_inner l a start below (step l a below x) r
          ≡ within_limits (is_within l.levels level) (is_within l.arms arm
          && is_within l.tokens (tokens_of l begun a)) next) (sym found) (is l),
    )
forecast_inner a start s below x (stuck_inner e) found further =
    inl (
      e,
      λ l. subst (λ r.
          after_inner l a start below (step l a below x) r ≡
          fails_as (stuck_at e)) (sym found) refl,
    )

forecast_reaction : (a : ℕ) (below : State) (x : Lexeme)
    (skip : Limits → MachineStep) (r : OuterReaction)
    → (((e : Expected) × ((l : Limits) → skip l ≡ fails_as (stuck_at e)))
    ⊎ ((level arm start : ℕ) × (next : State)
    × ((l : Limits) → skip l ≡
    within_limits (is_within l.levels level) (is_within l.arms arm
    && is_within l.tokens (tokens_of l start a)) next)))
    → ((e : Expected) × ((l : Limits) → after_outer l a below (skip l) r ≡ fails_as (stuck_at e)))
    ⊎ ((level arm start : ℕ) × (next : State)
    × ((l : Limits) → after_outer l a below (skip l) r ≡
    within_limits (is_within l.levels level) (is_within l.arms arm
    && is_within l.tokens (tokens_of l start a)) next))
forecast_reaction a below x skip (takes level arm ys) further =
    inr (
      level,
      arm,
      0,
      outside_on ys ++ below,
      λ l. ap (λ b. within_limits (is_within l.levels level) b (outside_on ys ++ below))
          (subst (λ c. is_within l.arms arm ≡ is_within l.arms arm && c)
          (sym (no_tokens l.tokens (max a l.unread))) (and_true (is_within l.arms arm))),
    )
forecast_reaction a below x skip (begins level arm xs ys) further =
    inr (level, arm, a + 1, inside_on (a + 1) xs ++ (outside_on ys ++ below), λ l. refl)
forecast_reaction a below x skip over further = further
forecast_reaction a below x skip (stuck e) further = inl (e, λ l. refl)

no_module : (a : ℕ) (x : Lexeme) → Forecast a [] x
no_module a (word words.Module) =
    forecast_reaction a [] (word words.Module) (λ l.
    fails_as (stuck_at something)) (one_module_on (word words.Module))
    (inl (something, λ l. refl))
no_module a x = inl (something, λ l. refl)

pub forecast : (a : ℕ) (s : State) (x : Lexeme) → Forecast a s x
forecast a [] x = no_module a x
forecast a (inner start s ∷ below) x =
    forecast_inner a start s below x (inner_on s x) refl (forecast a below x)
forecast a (outer y ∷ below) x =
    forecast_reaction a below x (λ l. step l a below x) (outer_on y x) (forecast a below x)
