-- What a failed run says of the rules on the grammar.
use Rattle.std.proofs.Common.{◌≡◌, ℕ, ◌+◌, Bool, true, false, ◌&&◌, List, [], ◌∷◌, ◌++◌, length}
use Rattle.std.proofs.Common.{inl, inr, refl, sym, ap, subst, ◌∙◌, arith}
use Rattle.std.specs.Prelude.{IsTrue}
use Rattle.std.proofs.lemmas.Bool.{false≢true, and_parts, and_from}
use Rattle.std.proofs.lemmas.List.{length-append, append-nil}
use Rattle.sv_token.specs.Lexemes.{Lexeme, Placed}
use Rattle.sv_ast.specs.Tree.{TextTree}
use Rattle.sv_ast.specs.GrammarExpressions.{Limits, is_within}
use Rattle.sv_ast.specs.GrammarModules.{IsText}
use Rattle.sv_ast.specs.GrammarRules.{no_limits, limit_of_levels, all_limits, BeginText, IsStuck}
use Rattle.sv_ast.specs.GrammarRules.{IsTooDeep, IsTooLong, EndsEarly}
use Rattle.sv_parse_machine.specs.Symbols.{State, Expected}
use Rattle.sv_parse_machine.specs.Machine.{MachineStep, goes, fails_as, Failure, stuck_at, too_deep}
use Rattle.sv_parse_machine.specs.Machine.{too_long, ends_early, within_limits, tokens_of, step}
use Rattle.sv_parse_machine.specs.Machine.{done, fails, may_be_empty, ended, at_end, run}
use Rattle.sv_parse_machine.specs.Machine.{text_state}
use Rattle.sv_parse_machine.proofs.TextForm.{text_form}
use Rattle.sv_parse_machine.proofs.Runs.{run_of_text}
use Rattle.sv_parse_machine.proofs.Walks.{then_step, walk, run_of_walk, where_run_fails, shift_step}
use Rattle.sv_parse_machine.proofs.Walks.{GoesWithin, Forecast, forecast}
use Rattle.sv_parse_machine.proofs.Beginnings.{walk_read, fails_back, goes_back, beginning_of_walk}
use Rattle.sv_parse_machine.proofs.Beginnings.{no_beginning}

-- ---- one token more

then_goes : (st : MachineStep) → then_step st goes ≡ st
then_goes (goes s) = refl
then_goes (fails_as f) = refl

no_more_behind : (k : ℕ) → length {A = Placed} [] + k ≡ k
no_more_behind k = omega arith

one_behind : (us : List Placed) (t : Placed) (k : ℕ) →
    length us + (k + 1) ≡ length (us ++ t ∷ []) + k
one_behind us t k = let parts = length-append us (t ∷ []) in omega (arith, parts)

pub walk_more : (l : Limits) (k : ℕ) (s last : State) (before : List Placed) (t : Placed)
    → walk l (k + 1) s before ≡ goes last
    → walk l k s (before ++ t ∷ []) ≡ step l k last t.lexeme
walk_more l k s last [] t walked =
    let same : s ≡ last = cc in
    subst (λ n. then_step (step l n s t.lexeme) goes ≡ step l k last t.lexeme)
    (sym (no_more_behind k))
    (subst (λ n. then_step (step l k s t.lexeme) goes ≡ step l k n t.lexeme) same
    (then_goes (step l k s t.lexeme)))
walk_more l k s last (u ∷ us) t walked =
    subst (λ n. then_step (step l n s u.lexeme) (λ s. walk l k s (us ++ t ∷ [])) ≡
    step l k last t.lexeme) (one_behind us t k)
    (on (step l (length us + (k + 1)) s u.lexeme) walked (λ s. walk_more l k s last us t))
  where
    on : (st : MachineStep) → then_step st (λ s. walk l (k + 1) s us) ≡ goes last
        → ((s : State) → walk l (k + 1) s us ≡ goes last
        → walk l k s (us ++ t ∷ []) ≡ step l k last t.lexeme)
        → then_step st (λ s. walk l k s (us ++ t ∷ [])) ≡ step l k last t.lexeme
    on (goes s) e further = further s e
    on (fails_as f) e further = absurd (cc)

-- ---- wider limits

pub record Widens (l k : Limits) : Type 0 where
  pub levels : (n : ℕ) → IsTrue (is_within l.levels n) → IsTrue (is_within k.levels n)
  pub arms : (n : ℕ) → IsTrue (is_within l.arms n) → IsTrue (is_within k.arms n)
  pub tokens : (start after : ℕ) → IsTrue (is_within l.tokens (tokens_of l start after)) →
      IsTrue (is_within k.tokens (tokens_of k start after))

admits : (d c : Bool) (s next : State) → within_limits d c s ≡ goes next →
    IsTrue d × IsTrue c × (s ≡ next)
admits true true s next e = (refl, refl, cc)
admits true false s next e = absurd (cc)
admits false c s next e = absurd (cc)

admitted : (d c : Bool) (s : State) → IsTrue d → IsTrue c → within_limits d c s ≡ goes s
admitted true true s first second = refl
admitted true false s first second = absurd (false≢true second)
admitted false c s first second = absurd (false≢true first)

pub never_stuck : (d c : Bool) (s : State) (e : Expected) →
    within_limits d c s ≡ fails_as (stuck_at e) → ⊥
never_stuck true true s e same = cc
never_stuck true false s e same = cc
never_stuck false c s e same = cc

is_deep : (d c : Bool) (s : State) → within_limits d c s ≡ fails_as too_deep → d ≡ false
is_deep true true s same = absurd (cc)
is_deep true false s same = absurd (cc)
is_deep false c s same = refl

is_long : (d c : Bool) (s : State) → within_limits d c s ≡ fails_as too_long → IsTrue d
is_long true c s same = refl
is_long false c s same = absurd (cc)

wider_step : (l k : Limits) → Widens l k → (a : ℕ) (s next : State) (x : Lexeme) →
    step l a s x ≡ goes next → step k a s x ≡ goes next
wider_step l k wider a s next x e = on (forecast a s x)
  where
    on : Forecast a s x → step k a s x ≡ goes next
    on (inl (f, is)) = let clash : fails_as (stuck_at f) ≡ goes next = sym (is l) ∙ e in absurd (cc)
    on (inr (level, arm, start, then, is)) =
        let parts = admits (is_within l.levels level) (is_within l.arms arm
        && is_within l.tokens (tokens_of l start a)) then next (sym (is l) ∙ e) in
        let counts = and_parts (is_within l.arms arm) (is_within l.tokens (tokens_of l start a))
        parts.1 in
        is k
        ∙ admitted (is_within k.levels level) (is_within k.arms arm
        && is_within k.tokens (tokens_of k start a)) then (wider.levels level parts.0)
        (and_from (is_within k.arms arm) (is_within k.tokens (tokens_of k start a))
        (wider.arms arm counts.0) (wider.tokens start a counts.1))
        ∙ ap goes parts.2

pub wider_walk : (l k : Limits) → Widens l k → (j : ℕ) (ts : List Placed) (s next : State) →
    walk l j s ts ≡ goes next → walk k j s ts ≡ goes next
wider_walk l k wider j [] s next e = e
wider_walk l k wider j (t ∷ ts) s next e =
    on (step l (length ts + j) s t.lexeme) refl e (λ s. wider_walk l k wider j ts s next)
  where
    on : (st : MachineStep) → step l (length ts + j) s t.lexeme ≡ st
        → then_step st (λ s. walk l j s ts) ≡ goes next
        → ((s : State) → walk l j s ts ≡ goes next → walk k j s ts ≡ goes next)
        → then_step (step k (length ts + j) s t.lexeme) (λ s. walk k j s ts) ≡ goes next
    on (goes s1) stepped e further =
        subst (λ st. then_step st (λ s. walk k j s ts) ≡ goes next)
        (sym (wider_step l k wider (length ts + j) s s1 t.lexeme stepped)) (further s1 e)
    on (fails_as f) stepped e further = absurd (cc)

pub all_to_levels : Widens all_limits limit_of_levels
all_to_levels = record { levels = λ n is. is; arms = λ n is. refl; tokens = λ start after is. refl }

pub all_to_none : Widens all_limits no_limits
all_to_none = record { levels = λ n is. refl; arms = λ n is. refl; tokens = λ start after is. refl }

-- ---- the rules

end_is_early : (s : State) (f : Failure) → at_end s ≡ fails f [] → f ≡ ends_early
end_is_early [] f e = absurd (cc)
end_is_early (s ∷ below) f e = on (may_be_empty s) e (end_is_early below f)
  where
    on : (b : Bool) → ended b (at_end below) ≡ fails f [] →
        (at_end below ≡ fails f [] → f ≡ ends_early) → f ≡ ends_early
    on true e further = further e
    on false e further = cc

module _ (form_of : (l : Limits) (t : TextTree) (ts : List Placed) → IsText l t ts → text_form l ts)
    (text_of : (l : Limits) (ts : List Placed) → text_form l ts →
    (t : TextTree) × IsText l t ts) where
  -- limits that leave no token out
  module _ (k : Limits) (none : k.unread ≡ 0) (whole : record k { unread = 0 } ≡ k)
      (few : IsTrue (is_within k.arms 1)) where
    reads_all : (m : ℕ) (ts : List Placed) →
        walk k m text_state ts ≡ shift_step m (walk k 0 text_state ts)
    reads_all m ts =
        subst (λ l. walk l m text_state ts ≡ shift_step m (walk k 0 text_state ts)) whole
        (walk_read k none m ts)

    pub begins_where_it_goes : (m : ℕ) (ts : List Placed) (last : State) →
        walk k m text_state ts ≡ goes last → BeginText k ts
    begins_where_it_goes m ts last walked =
        let first = goes_back m (walk k 0 text_state ts) last (sym (reads_all m ts) ∙ walked) in
        beginning_of_walk form_of text_of k none few ts first.0 first.1

    pub begins_not_where_it_fails : (m : ℕ) (ts : List Placed) (f : Failure) →
        walk k m text_state ts ≡ fails_as f → BeginText k ts → ⊥
    begins_not_where_it_fails m ts f walked begins =
        no_beginning form_of text_of k none ts f
        (fails_back m (walk k 0 text_state ts) f (sym (reads_all m ts) ∙ walked)) begins

    -- with a further token
    pub begins_with_more : (a : ℕ) (before : List Placed) (t : Placed) (last next : State)
        → walk k (a + 1) text_state before ≡ goes last
        → step k a last t.lexeme ≡ goes next → BeginText k (before ++ t ∷ [])
    begins_with_more a before t last next walked stepped =
        begins_where_it_goes a (before ++ t ∷ []) next
        (walk_more k a text_state last before t walked ∙ stepped)

    pub begins_not_with_more :
        (a : ℕ) (before : List Placed) (t : Placed) (last : State) (f : Failure)
        → walk k (a + 1) text_state before ≡ goes last
        → step k a last t.lexeme ≡ fails_as f → BeginText k (before ++ t ∷ []) → ⊥
    begins_not_with_more a before t last f walked stepped =
        begins_not_where_it_fails a (before ++ t ∷ []) f
        (walk_more k a text_state last before t walked ∙ stepped)

  -- where the run stops: the state before the token, and how many tokens are left behind it
  pub record Stopped (ts : List Placed) (t : Placed) (after : List Placed) (f : Failure) :
      Type 0 where
    pub before : List Placed
    pub parts : ts ≡ before ++ t ∷ after
    pub last : State
    pub walked : walk all_limits (length after + 1) text_state before ≡ goes last
    pub stops : step all_limits (length after) last t.lexeme ≡ fails_as f

  one_left : (t : Placed) (after : List Placed) → length (t ∷ after) ≡ length after + 1
  one_left t after = omega arith

  pub stopped : (ts : List Placed) (t : Placed) (after : List Placed) (f : Failure) →
      run all_limits text_state ts ≡ fails f (t ∷ after) → Stopped ts t after f
  stopped ts t after f e =
      let (before, parts, last, walked, stops) =
      where_run_fails all_limits ts text_state f (t ∷ after) e in
      record {
        before = before;
        parts = parts;
        last = last;
        walked =
            subst (λ n. walk all_limits n text_state before ≡ goes last) (one_left t after) walked;
        stops = stops;
      }

  module _ (ts : List Placed) (t : Placed) (after : List Placed) where
    pub under_none : {f : Failure} (s : Stopped ts t after f) →
        walk no_limits (length after + 1) text_state s.before ≡ goes s.last
    under_none s =
        wider_walk all_limits no_limits all_to_none (length after + 1) s.before text_state s.last
        s.walked

    under_levels : {f : Failure} (s : Stopped ts t after f) →
        walk limit_of_levels (length after + 1) text_state s.before ≡ goes s.last
    under_levels s =
        wider_walk all_limits limit_of_levels all_to_levels (length after + 1) s.before text_state
        s.last s.walked

    pub begins_within_all : {f : Failure} (s : Stopped ts t after f) → BeginText all_limits s.before
    begins_within_all s =
        begins_where_it_goes all_limits refl refl refl (length after + 1) s.before s.last s.walked

    pub stuck_is_stuck : {e : Expected} (s : Stopped ts t after (stuck_at e)) → IsStuck s.before t
    stuck_is_stuck {e} s = on (forecast (length after) s.last t.lexeme)
      where
        on : Forecast (length after) s.last t.lexeme → IsStuck s.before t
        on (inl (f, is)) = (
          begins_where_it_goes no_limits refl refl refl (length after + 1) s.before s.last
              (under_none s),
          begins_not_with_more no_limits refl refl refl (length after) s.before t s.last
              (stuck_at f) (under_none s) (is no_limits),
        )
        on (inr (level, arm, start, next, is)) =
            absurd (never_stuck (is_within all_limits.levels level) (is_within all_limits.arms arm
            && is_within all_limits.tokens (tokens_of all_limits start (length after)))
            next e (sym (is all_limits) ∙ s.stops))

    -- where it is a limit that stops the run, the token goes on within others
    limited : {f : Failure} (s : Stopped ts t after f) →
        ((e : Expected) → fails_as (stuck_at e) ≡ fails_as f → ⊥) →
        GoesWithin (length after) s.last t.lexeme
    limited s never = on (forecast (length after) s.last t.lexeme)
      where
        on : Forecast (length after) s.last t.lexeme → GoesWithin (length after) s.last t.lexeme
        on (inl (e, is)) = absurd (never e (sym (is all_limits) ∙ s.stops))
        on (inr goes_on) = goes_on

    pub deep_is_deep : (s : Stopped ts t after too_deep) → IsTooDeep s.before t
    deep_is_deep s =
        let (level, arm, start, next, is) = limited s (λ e same. cc) in
        let deep = is_deep (is_within all_limits.levels level) (is_within all_limits.arms arm
        && is_within all_limits.tokens (tokens_of all_limits start (length after)))
        next (sym (is all_limits) ∙ s.stops) in (
          begins_where_it_goes limit_of_levels refl refl refl (length after + 1) s.before s.last
              (under_levels s),
          begins_with_more no_limits refl refl refl (length after) s.before t s.last next
              (under_none s) (is no_limits),
          begins_not_with_more limit_of_levels refl refl refl (length after) s.before t s.last
              too_deep (under_levels s)
              (is limit_of_levels
              ∙ ap (λ d. within_limits d (is_within limit_of_levels.arms arm
              && is_within limit_of_levels.tokens
              (tokens_of limit_of_levels start (length after))) next) deep),
        )

    pub long_is_long : (s : Stopped ts t after too_long) → IsTooLong s.before t
    long_is_long s =
        let (level, arm, start, next, is) = limited s (λ e same. cc) in
        let level_kept = is_long (is_within all_limits.levels level)
        (is_within all_limits.arms arm
        && is_within all_limits.tokens (tokens_of all_limits start (length after)))
        next (sym (is all_limits) ∙ s.stops) in (
          begins_within_all s,
          begins_with_more limit_of_levels refl refl refl (length after) s.before t s.last next
              (under_levels s)
              (is limit_of_levels ∙ admitted (is_within limit_of_levels.levels level) true next
              level_kept refl),
          begins_not_with_more all_limits refl refl refl (length after) s.before t s.last
              too_long s.walked s.stops,
        )

  -- ---- the end of the tokens

  pub early_is_early : (ts : List Placed) (f : Failure) →
      run all_limits text_state ts ≡ fails f [] →
      (f ≡ ends_early) × BeginText all_limits ts × EndsEarly ts
  early_is_early ts f e =
      let (before, parts, last, walked, stops) = where_run_fails all_limits ts text_state f [] e in
      let same : before ≡ ts = sym (append-nil before) ∙ sym parts in
      let walked : walk all_limits 0 text_state ts ≡ goes last =
      subst (λ us. walk all_limits 0 text_state us ≡ goes last) same walked in
      let loose = wider_walk all_limits no_limits all_to_none 0 ts text_state last walked in
      let whole : run no_limits text_state ts ≡ at_end last =
      subst (λ us. run no_limits text_state us ≡ at_end last) (append-nil ts)
      (run_of_walk no_limits ts [] text_state last loose) in (
        end_is_early last f stops,
        begins_where_it_goes all_limits refl refl refl 0 ts last walked,
        (
          begins_where_it_goes no_limits refl refl refl 0 ts last loose,
          λ t is. no_end f (sym stops ∙ sym whole
              ∙ run_of_text no_limits ts (form_of no_limits t ts is)),
        ),
      )
    where
      no_end : (f : Failure) → fails f [] ≡ done → ⊥
      no_end f same = cc
