-- A run goes through all tokens exactly where the forms of its symbols stand there one behind the
-- other.
use Rattle.std.proofs.Common.{◌≡◌, ℕ, zero, suc, ◌+◌, ◌-◌, ◌≤◌, max, Bool, true, false, ◌&&◌, List}
use Rattle.std.proofs.Common.{[], ◌∷◌, ◌++◌, length, Option, Some, None, inl, refl, sym, subst}
use Rattle.std.proofs.Common.{arith}
use Rattle.std.specs.Prelude.{IsTrue}
use Rattle.std.proofs.lemmas.Bool.{false≢true, and_parts, and_from}
use Rattle.sv_token.specs.declared.keywords.WordKind.TheVariants as words
use Rattle.sv_token.specs.Lexemes.{Lexeme, word, Placed}
use Rattle.sv_ast.specs.GrammarForms.{Form}
use Rattle.sv_ast.specs.GrammarExpressions.{Limits, is_within, read_tokens}
use Rattle.sv_parse_machine.specs.Symbols.{Inner, tail, selection, Outer, Symbol, inner, outer, State}
use Rattle.sv_parse_machine.specs.Symbols.{InnerReaction, takes_inner, over_inner, stuck_inner}
use Rattle.sv_parse_machine.specs.Symbols.{OuterReaction, takes, begins, over, stuck}
use Rattle.sv_parse_machine.specs.ExpressionTable.{inner_on}
use Rattle.sv_parse_machine.specs.ModuleTable.{one_module_on}
use Rattle.sv_parse_machine.specs.Machine.{outer_on, MachineStep, goes, fails_as, within_limits}
use Rattle.sv_parse_machine.specs.Machine.{inside_on, outside_on, tokens_of, after_inner}
use Rattle.sv_parse_machine.specs.Machine.{after_outer, step, MachineEnd, done, may_be_empty, ended}
use Rattle.sv_parse_machine.specs.Machine.{at_end, go_on, run, text_state}
use Rattle.sv_parse_machine.proofs.ExpressionForms.{inner_form, inner_forms, AcceptsInner}
use Rattle.sv_parse_machine.proofs.ExpressionLengths.{all_inner_shrink}
use Rattle.sv_parse_machine.proofs.InnerSteps.{by_token, no_token, none_opens, no_arm, f_inner}
use Rattle.sv_parse_machine.proofs.InnerForms.{b_inner, none_inner}
use Rattle.sv_parse_machine.proofs.OuterForms.{IsOver, one_module_form, outer_form, outer_forms, Accepts}
use Rattle.sv_parse_machine.proofs.OuterSteps.{f_outer, b_outer, none_outer, empty_outer}
use Rattle.sv_parse_machine.proofs.ItemForms.{b_one_module}
use Rattle.sv_parse_machine.proofs.TextForm.{modules_form, text_form}

-- ---- how many tokens

-- an expression that began with so many tokens left has no token too many up to here
abbrev pub Counted : Limits → ℕ → List Placed → Type 0
Counted l start ts = IsTrue (is_within l.tokens (tokens_of l start (length ts)))

fewer : (o : Option ℕ) (start u a b : ℕ) → a ≤ b → IsTrue (is_within o (start - max a u)) →
    IsTrue (is_within o (start - max b u))
fewer None start u a b less is = refl
fewer (Some m) start u a b less is = grind arith

earlier : (l : Limits) (start : ℕ) (ts rest : List Placed) → length rest ≤ length ts →
    Counted l start rest → Counted l start ts
earlier l start ts rest less is = fewer l.tokens start l.unread (length rest) (length ts) less is

one_more : (t : Placed) (ts : List Placed) → length (t ∷ ts) ≡ length ts + 1
one_more t ts = omega arith

count_from : (l : Limits) (t : Placed) (ts mid : List Placed) →
    IsTrue (is_within l.tokens (read_tokens l (t ∷ ts) mid)) → Counted l (length ts + 1) mid
count_from l t ts mid is =
    subst (λ n. IsTrue (is_within l.tokens (n - max (length mid) l.unread))) (one_more t ts) is

count_to : (l : Limits) (t : Placed) (ts mid : List Placed) → Counted l (length ts + 1) mid →
    IsTrue (is_within l.tokens (read_tokens l (t ∷ ts) mid))
count_to l t ts mid is =
    subst (λ n. IsTrue (is_within l.tokens (n - max (length mid) l.unread)))
    (sym (one_more t ts)) is

-- ---- from forms to runs

abbrev pub symbol_form : Limits → Symbol → Form
symbol_form l (inner start s) ts rest = inner_form l s ts rest × Counted l start rest
symbol_form l (outer y) ts rest = outer_form l y ts rest

-- the tokens are all that is still to come
abbrev pub Fits : Limits → State → List Placed → Type 0
Fits l [] ts = modules_form l ts []
Fits l (s ∷ below) ts = (mid : List Placed) × symbol_form l s ts mid × Fits l below mid

fits_inside : (l : Limits) (start : ℕ) (xs : List Inner) (below : State) (ts rest : List Placed)
    → inner_forms l xs ts rest → Counted l start rest → Fits l below rest
    → Fits l (inside_on start xs ++ below) ts
fits_inside l start [] below ts rest is counted fits = subst (Fits l below) (sym is) fits
fits_inside l start (x ∷ xs) below ts rest is counted fits = (
  is.0,
  (is.1, earlier l start is.0 rest (all_inner_shrink l xs is.0 rest is.2) counted),
  fits_inside l start xs below is.0 rest is.2 counted fits,
)

fits_outside : (l : Limits) (ys : List Outer) (below : State) (ts rest : List Placed) →
    outer_forms l ys ts rest → Fits l below rest → Fits l (outside_on ys ++ below) ts
fits_outside l [] below ts rest is fits = subst (Fits l below) (sym is) fits
fits_outside l (y ∷ ys) below ts rest is fits =
    (is.0, is.1, fits_outside l ys below is.0 rest is.2 fits)

admitted : (d c : Bool) (s : State) → IsTrue d → IsTrue c → within_limits d c s ≡ goes s
admitted true true s first second = refl
admitted true false s first second = absurd (false≢true second)
admitted false c s first second = absurd (false≢true first)

-- the step goes on, and the tokens behind are all that is still to come then
abbrev Steps : Limits → List Placed → MachineStep → Type 0
Steps l ts st = (next : State) × (st ≡ goes next) × Fits l next ts

f_after_inner : (l : Limits) (t : Placed) (ts mid : List Placed) (start : ℕ) (below : State)
    (skip : MachineStep) (r : InnerReaction)
    → AcceptsInner l t ts mid r → Counted l start mid → Fits l below mid
    → (mid ≡ t ∷ ts → Steps l ts skip)
    → Steps l ts (after_inner l (length ts) start below skip r)
f_after_inner l t ts mid start below skip (takes_inner level xs) (opens, is) counted fits skips = (
  inside_on start xs ++ below,
  admitted (is_within l.levels level) (is_within l.tokens (tokens_of l start (length ts)))
      (inside_on start xs ++ below) opens
      (earlier l start ts mid (all_inner_shrink l xs ts mid is) counted),
  fits_inside l start xs below ts mid is counted fits,
)
f_after_inner l t ts mid start below skip over_inner same counted fits skips = skips (sym same)
f_after_inner l t ts mid start below skip (stuck_inner e) is counted fits skips = absurd is

f_after_outer : (l : Limits) (t : Placed) (ts mid : List Placed) (below : State)
    (skip : MachineStep) (r : OuterReaction)
    → Accepts l t ts mid r → Fits l below mid → (IsOver r → mid ≡ t ∷ ts → Steps l ts skip)
    → Steps l ts (after_outer l (length ts) below skip r)
f_after_outer l t ts mid below skip (takes level arm ys) (opens, few, is) fits skips = (
  outside_on ys ++ below,
  admitted (is_within l.levels level) (is_within l.arms arm) (outside_on ys ++ below) opens few,
  fits_outside l ys below ts mid is fits,
)
f_after_outer l t ts mid below skip (begins level arm xs ys) (opens, few, m, inners, count, is)
    fits skips =
    let counted = count_from l t ts m count in
    let next : State = inside_on (length ts + 1) xs ++ (outside_on ys ++ below) in (
      next,
      admitted (is_within l.levels level) (is_within l.arms arm
          && is_within l.tokens (tokens_of l (length ts + 1) (length ts))) next opens
          (and_from (is_within l.arms arm)
          (is_within l.tokens (tokens_of l (length ts + 1) (length ts))) few
          (earlier l (length ts + 1) ts m (all_inner_shrink l xs ts m inners) counted)),
      fits_inside l (length ts + 1) xs (outside_on ys ++ below) ts m inners counted
          (fits_outside l ys below m mid is fits),
    )
f_after_outer l t ts mid below skip over same fits skips = skips tt (sym same)
f_after_outer l t ts mid below skip (stuck e) is fits skips = absurd is

pub f_step : (l : Limits) (s : State) (t : Placed) (ts : List Placed) → Fits l s (t ∷ ts) →
    Steps l ts (step l (length ts) s t.lexeme)
f_step l [] t ts (zero, same) = absurd (no_token (sym same))
f_step l [] t ts (suc k, (m, (m1, (p, e), is), others)) =
    by_token (λ x us. Steps l us (step l (length us) [] x)) e
    (f_after_outer l t m1 m [] (goes []) (one_module_on (word words.Module))
    (none_opens l, no_arm l, is) (k, others) (λ over same. absurd over))
f_step l (inner start s ∷ below) t ts (m, (is, counted), fits) =
    f_after_inner l t ts m start below (step l (length ts) below t.lexeme) (inner_on s t.lexeme)
    (f_inner l s t ts m is) counted fits
    (λ same. f_step l below t ts (subst (Fits l below) same fits))
f_step l (outer y ∷ below) t ts (m, is, fits) =
    f_after_outer l t ts m below (step l (length ts) below t.lexeme) (outer_on y t.lexeme)
    (f_outer l y t ts m is) fits
    (λ over same. f_step l below t ts (subst (Fits l below) same fits))

f_end : (l : Limits) (s : State) → Fits l s [] → at_end s ≡ done
f_end l [] fits = refl
f_end l (inner start x ∷ below) (m, (is, counted), fits) =
    let none = none_inner l start x m is in
    subst (λ b. ended b (at_end below) ≡ done) (sym none.0)
    (f_end l below (subst (Fits l below) (sym none.1) fits))
f_end l (outer y ∷ below) (m, is, fits) =
    let none = none_outer l y m is in
    subst (λ b. ended b (at_end below) ≡ done) (sym none.0)
    (f_end l below (subst (Fits l below) (sym none.1) fits))

pub f_run : (l : Limits) (ts : List Placed) (s : State) → Fits l s ts → run l s ts ≡ done
f_run l [] s fits = f_end l s fits
f_run l (t ∷ ts) s fits =
    let next = f_step l s t ts fits in
    subst (λ st. go_on (λ s. run l s ts) (t ∷ ts) st ≡ done) (sym next.1) (f_run l ts next.0 next.2)

-- ---- from runs to forms

-- the form, where the tokens before are not too many
abbrev pub kept_form : Limits → Symbol → Form
kept_form l (inner start s) ts rest =
    inner_form l s ts rest × (Counted l start ts → Counted l start rest)
kept_form l (outer y) ts rest = outer_form l y ts rest

abbrev pub Kept : Limits → State → List Placed → Type 0
Kept l [] ts = modules_form l ts []
Kept l (s ∷ below) ts = (mid : List Placed) × kept_form l s ts mid × Kept l below mid

abbrev KeptInside : Limits → ℕ → List Inner → State → List Placed → Type 0
KeptInside l start xs below ts =
    (mid : List Placed) × inner_forms l xs ts mid × (Counted l start ts → Counted l start mid)
    × Kept l below mid

kept_inside : (l : Limits) (start : ℕ) (xs : List Inner) (below : State) (ts : List Placed) →
    Kept l (inside_on start xs ++ below) ts → KeptInside l start xs below ts
kept_inside l start [] below ts is = (ts, refl, λ counted. counted, is)
kept_inside l start (x ∷ xs) below ts (m, (is, counts), others) =
    let further = kept_inside l start xs below m others in
    (further.0, (m, is, further.1), λ counted. further.2 (counts counted), further.3)

kept_outside : (l : Limits) (ys : List Outer) (below : State) (ts : List Placed) →
    Kept l (outside_on ys ++ below) ts → (mid : List Placed) × outer_forms l ys ts mid
    × Kept l below mid
kept_outside l [] below ts is = (ts, refl, is)
kept_outside l (y ∷ ys) below ts (m, is, others) =
    let further = kept_outside l ys below m others in
    (further.0, (m, is, further.1), further.2)

admits : (d c : Bool) (s next : State) → within_limits d c s ≡ goes next →
    IsTrue d × IsTrue c × (s ≡ next)
admits true true s next e = (refl, refl, cc)
admits true false s next e = absurd (cc)
admits false c s next e = absurd (cc)

b_after_inner : (l : Limits) (t : Placed) (ts : List Placed) (start : ℕ) (below next : State)
    (skip : MachineStep) (r : InnerReaction)
    → after_inner l (length ts) start below skip r ≡ goes next → Kept l next ts
    → (skip ≡ goes next → Kept l below (t ∷ ts))
    → (mid : List Placed) × AcceptsInner l t ts mid r
    × (Counted l start (t ∷ ts) → Counted l start mid) × Kept l below mid
b_after_inner l t ts start below next skip (takes_inner level xs) e kept skips =
    let (opens, counted, same) =
    admits (is_within l.levels level) (is_within l.tokens (tokens_of l start (length ts)))
    (inside_on start xs ++ below) next e in
    let (m, is, counts, others) =
    kept_inside l start xs below ts (subst (λ s. Kept l s ts) (sym same) kept) in
    (m, (opens, is), λ before. counts counted, others)
b_after_inner l t ts start below next skip over_inner e kept skips =
    (t ∷ ts, refl, λ counted. counted, skips e)
b_after_inner l t ts start below next skip (stuck_inner x) e kept skips = absurd (cc)

b_after_outer : (l : Limits) (t : Placed) (ts : List Placed) (below next : State)
    (skip : MachineStep) (r : OuterReaction)
    → after_outer l (length ts) below skip r ≡ goes next → Kept l next ts
    → (IsOver r → skip ≡ goes next → Kept l below (t ∷ ts))
    → (mid : List Placed) × Accepts l t ts mid r × Kept l below mid
b_after_outer l t ts below next skip (takes level arm ys) e kept skips =
    let (opens, few, same) =
    admits (is_within l.levels level) (is_within l.arms arm) (outside_on ys ++ below) next e in
    let (m, is, others) = kept_outside l ys below ts (subst (λ s. Kept l s ts) (sym same) kept) in
    (m, (opens, few, is), others)
b_after_outer l t ts below next skip (begins level arm xs ys) e kept skips =
    let (opens, both, same) =
    admits (is_within l.levels level) (is_within l.arms arm
    && is_within l.tokens (tokens_of l (length ts + 1) (length ts)))
    (inside_on (length ts + 1) xs ++ (outside_on ys ++ below)) next e in
    let parts = and_parts (is_within l.arms arm)
    (is_within l.tokens (tokens_of l (length ts + 1) (length ts))) both in
    let (m, inners, counts, behind) =
    kept_inside l (length ts + 1) xs (outside_on ys ++ below) ts
    (subst (λ s. Kept l s ts) (sym same) kept) in
    let (m1, is, others) = kept_outside l ys below m behind in
    (m1, (opens, parts.0, m, inners, count_to l t ts m (counts parts.1), is), others)
b_after_outer l t ts below next skip over e kept skips = (t ∷ ts, refl, skips tt e)
b_after_outer l t ts below next skip (stuck x) e kept skips = absurd (cc)

module_not_over : (x : Lexeme) → IsOver (one_module_on x) → ⊥
module_not_over (word words.Module) is = is
module_not_over x is = is

pub b_step : (l : Limits) (s : State) (t : Placed) (ts : List Placed) (next : State) →
    step l (length ts) s t.lexeme ≡ goes next → Kept l next ts → Kept l s (t ∷ ts)
b_step l [] t ts next e kept =
    let (m, is, (k, others)) =
    b_after_outer l t ts [] next (goes []) (one_module_on t.lexeme) e kept (λ over same.
    absurd (module_not_over t.lexeme over)) in
    (suc k, (m, b_one_module l t.lexeme t.place ts m is, others))
b_step l (inner start s ∷ below) t ts next e kept =
    let (m, is, counts, others) =
    b_after_inner l t ts start below next (step l (length ts) below t.lexeme) (inner_on s t.lexeme)
    e kept (λ same. b_step l below t ts next same kept) in
    (m, (b_inner l s t.lexeme t.place ts m is, counts), others)
b_step l (outer y ∷ below) t ts next e kept =
    let (m, is, others) =
    b_after_outer l t ts below next (step l (length ts) below t.lexeme) (outer_on y t.lexeme) e kept
    (λ over same. b_step l below t ts next same kept) in
    (m, b_outer l y t.lexeme t.place ts m is, others)

empty_inner : (l : Limits) (start : ℕ) (s : Inner) → IsTrue (may_be_empty (inner start s)) →
    inner_form l s [] []
empty_inner l start (tail n) may = ([], ([], refl, inl (tt, refl)))
empty_inner l start (selection n) may = inl (tt, refl)
empty_inner l start s may = absurd (false≢true may)

ends_both : (b : Bool) (below : MachineEnd) → ended b below ≡ done → IsTrue b × (below ≡ done)
ends_both true below e = (refl, e)
ends_both false below e = absurd (cc)

b_end : (l : Limits) (s : State) → at_end s ≡ done → Kept l s []
b_end l [] e = (zero, refl)
b_end l (inner start x ∷ below) e =
    let ends = ends_both (may_be_empty (inner start x)) (at_end below) e in
    ([], (empty_inner l start x ends.0, λ counted. counted), b_end l below ends.1)
b_end l (outer y ∷ below) e =
    let ends = ends_both (may_be_empty (outer y)) (at_end below) e in
    ([], empty_outer l y ends.0, b_end l below ends.1)

b_go_on : (l : Limits) (t : Placed) (ts : List Placed) (s : State) (st : MachineStep)
    → step l (length ts) s t.lexeme ≡ st
    → go_on (λ s. run l s ts) (t ∷ ts) st ≡ done
    → ((next : State) → run l next ts ≡ done → Kept l next ts) → Kept l s (t ∷ ts)
b_go_on l t ts s (goes next) stepped e further = b_step l s t ts next stepped (further next e)
b_go_on l t ts s (fails_as f) stepped e further = absurd (cc)

pub b_run : (l : Limits) (ts : List Placed) (s : State) → run l s ts ≡ done → Kept l s ts
b_run l [] s e = b_end l s e
b_run l (t ∷ ts) s e =
    b_go_on l t ts s (step l (length ts) s t.lexeme) refl e (λ next. b_run l ts next)

-- ---- whole texts

pub run_of_text : (l : Limits) (ts : List Placed) → text_form l ts → run l text_state ts ≡ done
run_of_text l ts (m, (m1, lattice, (m2, maps, (m3, one, same))), modules) =
    f_run l ts text_state
    (m1, lattice, (m2, maps, (m, subst (one_module_form l m2) same one, modules)))

pub text_of_run : (l : Limits) (ts : List Placed) → run l text_state ts ≡ done → text_form l ts
text_of_run l ts e =
    let (m1, lattice, (m2, maps, (m, one, modules))) = b_run l ts text_state e in
    (m, (m1, lattice, (m2, maps, (m, one, refl))), modules)
