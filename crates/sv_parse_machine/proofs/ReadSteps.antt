-- How reading is put together: one token, one after the other, and what is read in front of other
-- symbols.
use Rattle.std.proofs.Common.{◌≡◌, ℕ, ◌+◌, ◌-◌, ◌<◌, ◌≤◌, max, Bool, true, false, ◌&&◌, List, []}
use Rattle.std.proofs.Common.{◌∷◌, ◌++◌, length, Some, refl, sym, ap, ◌∙◌}
use Rattle.std.proofs.Common.{append_assoc, arith}
use Rattle.std.proofs.lemmas.Bool.{false≢true}
use Rattle.std.proofs.lemmas.List.{length-map}
use Rattle.sv_token.specs.declared.tokens.Token.{Token}
use Rattle.sv_token.specs.Lexemes.{Lexeme, Placed, placed_of, placed_tokens}
use Rattle.sv_ast.specs.GrammarExpressions.{is_within}
use Rattle.sv_ast.specs.GrammarRules.{all_limits}
use Rattle.sv_parse_machine.specs.Symbols.{Inner, operand, tail, Outer, expression, Symbol, inner, outer}
use Rattle.sv_parse_machine.specs.Symbols.{State, Expected, InnerReaction, takes_inner, over_inner, stuck_inner}
use Rattle.sv_parse_machine.specs.Symbols.{OuterReaction, takes, over, stuck}
use Rattle.sv_parse_machine.specs.ExpressionTable.{operand_on, inner_on}
use Rattle.sv_parse_machine.specs.ExpressionTable.{as_expression, expression_on}
use Rattle.sv_parse_machine.specs.Machine.{outer_on, MachineStep, goes, fails_as, Failure, stuck_at}
use Rattle.sv_parse_machine.specs.Machine.{too_deep, too_long, ends_early, within_limits, inside_on}
use Rattle.sv_parse_machine.specs.Machine.{outside_on, tokens_of, after_inner, after_outer, step}
use Rattle.sv_parse_machine.specs.Machine.{MachineEnd, fails, may_be_empty, ended, at_end, go_on}
use Rattle.sv_parse_machine.specs.Machine.{run}
use Rattle.sv_parse_machine.specs.Reads.{Reads, Halts}
use Rattle.sv_parse_machine.proofs.AgreedRows.{PlainlyStuck, operand_is_plain}
use Rattle.sv_parse_machine.proofs.ExpressionForms.{Next}

-- ---- one after the other

pub reads_then : (xs ys zs : State) (ts mid rest : List Placed) → Reads xs ys ts mid →
    Reads ys zs mid rest → Reads xs zs ts rest
reads_then xs ys zs ts mid rest first second =
    record { runs = λ below. first.runs below ∙ second.runs below }

pub halts_then : (xs ys : State) (ts mid : List Placed) (f : Failure) (left : ℕ) →
    Reads xs ys ts mid → Halts ys mid f left → Halts xs ts f left
halts_then xs ys ts mid f left first second = record {
  rest = second.rest;
  many = second.many;
  runs = λ below. first.runs below ∙ second.runs below;
}

-- in front of other symbols
pub reads_before : (xs ys others : State) (ts rest : List Placed) → Reads xs ys ts rest →
    Reads (xs ++ others) (ys ++ others) ts rest
reads_before xs ys others ts rest is = record {
  runs = λ below.
      ap (λ s. run all_limits s ts) (append_assoc xs others below)
      ∙ is.runs (others ++ below)
      ∙ ap (λ s. run all_limits s rest) (sym (append_assoc ys others below));
}

pub halts_before : (xs others : State) (ts : List Placed) (f : Failure) (left : ℕ) →
    Halts xs ts f left → Halts (xs ++ others) ts f left
halts_before xs others ts f left is = record {
  rest = is.rest;
  many = is.many;
  runs =
      λ below. ap (λ s. run all_limits s ts) (append_assoc xs others below)
      ∙ is.runs (others ++ below);
}

-- ---- a token outside expressions

stepped : (s : State) (t : Placed) (ts : List Placed) (st : MachineStep)
    → step all_limits (length ts) s t.lexeme ≡ st
    → run all_limits s (t ∷ ts) ≡ go_on (λ next. run all_limits next ts) (t ∷ ts) st
stepped s t ts st e = ap (λ st. go_on (λ next. run all_limits next ts) (t ∷ ts) st) e

outer_step : (y : Outer) (below : State) (t : Placed) (ts : List Placed) (r : OuterReaction)
    → outer_on y t.lexeme ≡ r
    → step all_limits (length ts) (outer y ∷ below) t.lexeme ≡
    after_outer all_limits (length ts) below (step all_limits (length ts) below t.lexeme) r
outer_step y below t ts r e =
    ap (λ r. after_outer all_limits (length ts) below
    (step all_limits (length ts) below t.lexeme) r) e

fails_at : (y : Symbol) (t : Placed) (ts : List Placed) (f : Failure)
    → ((below : State) → step all_limits (length ts) (y ∷ below) t.lexeme ≡ fails_as f)
    → Halts (y ∷ []) (t ∷ ts) f (length (t ∷ ts))
fails_at y t ts f stops = record {
  rest = t ∷ ts;
  many = refl;
  runs = λ below. stepped (y ∷ below) t ts (fails_as f) (stops below);
}

pub takes_token : (y : Outer) (ys : List Outer) (t : Placed) (ts : List Placed) →
    outer_on y t.lexeme ≡ takes 0 0 ys → Reads (outer y ∷ []) (outside_on ys) (t ∷ ts) ts
takes_token y ys t ts e = record {
  runs =
      λ below. stepped (outer y ∷ below) t ts (goes (outside_on ys ++ below))
      (outer_step y below t ts (takes 0 0 ys) e);
}

within : (n most : ℕ) → n ≤ most → is_within (Some most) n ≡ true
within n most less = grind arith

pub beyond : (n most : ℕ) → most < n → is_within (Some most) n ≡ false
beyond n most more = grind arith

-- it opens a level
pub takes_level : (y : Outer) (level : ℕ) (ys : List Outer) (t : Placed) (ts : List Placed)
    → level ≤ 64 → outer_on y t.lexeme ≡ takes level 0 ys
    → Reads (outer y ∷ []) (outside_on ys) (t ∷ ts) ts
takes_level y level ys t ts less e = record {
  runs = λ below. stepped (outer y ∷ below) t ts (goes (outside_on ys ++ below))
      (outer_step y below t ts (takes level 0 ys) e
      ∙ ap (λ b. within_limits b true (outside_on ys ++ below)) (within level 64 less));
}

pub level_is_too_deep : (y : Outer) (level : ℕ) (ys : List Outer) (t : Placed) (ts : List Placed)
    → 64 < level → outer_on y t.lexeme ≡ takes level 0 ys
    → Halts (outer y ∷ []) (t ∷ ts) too_deep (length (t ∷ ts))
level_is_too_deep y level ys t ts more e = fails_at (outer y) t ts too_deep (λ below.
    outer_step y below t ts (takes level 0 ys) e
    ∙ ap (λ b. within_limits b true (outside_on ys ++ below)) (beyond level 64 more))

ended_over : (b : Bool) (below : MachineEnd) → b ≡ true → ended b below ≡ below
ended_over true below e = refl
ended_over false below e = absurd (false≢true e)

-- nothing of it comes
pub skips : (y : Outer) (ts : List Placed) → may_be_empty (outer y) ≡ true →
    Next (λ x. outer_on y x ≡ over) ts → Reads (outer y ∷ []) [] ts ts
skips y [] empty next =
    record { runs = λ below. ended_over (may_be_empty (outer y)) (at_end below) empty }
skips y (t ∷ ts) empty next = record {
  runs =
      λ below. stepped (outer y ∷ below) t ts (step all_limits (length ts) below t.lexeme)
      (outer_step y below t ts over next);
}

ended_early : (b : Bool) (below : MachineEnd) → b ≡ false → ended b below ≡ fails ends_early []
ended_early true below e = absurd (false≢true (sym e))
ended_early false below e = refl

-- no text goes on with the next token, or it has no more
pub is_stuck : (y : Outer) (e : Expected) (ts : List Placed) → may_be_empty (outer y) ≡ false
    → Next (λ x. outer_on y x ≡ stuck e) ts
    → Halts (outer y ∷ []) ts (stuck_at e) (length ts)
is_stuck y e [] full next =
    record {
      rest = [];
      many = refl;
      runs = λ below.
          ended_early (may_be_empty (outer y)) (at_end below) full;
    }
is_stuck y e (t ∷ ts) full next = record {
  rest = t ∷ ts;
  many = refl;
  runs =
      λ below. stepped (outer y ∷ below) t ts (fails_as (stuck_at e))
      (outer_step y below t ts (stuck e) next);
}

-- ---- a token of an expression

inner_step : (start : ℕ) (s : Inner) (below : State) (t : Placed) (ts : List Placed)
    (r : InnerReaction) → inner_on s t.lexeme ≡ r
    → step all_limits (length ts) (inner start s ∷ below) t.lexeme ≡
    after_inner all_limits (length ts) start below
    (step all_limits (length ts) below t.lexeme) r
inner_step start s below t ts r e =
    ap (λ r. after_inner all_limits (length ts) start below
    (step all_limits (length ts) below t.lexeme) r) e

counted : (start : ℕ) (t : Placed) (ts : List Placed) → start - 1024 < length (t ∷ ts) →
    is_within all_limits.tokens (tokens_of all_limits start (length ts)) ≡ true
counted start t ts less = within (start - max (length ts) 0) 1024 (omega arith)

overcounted : (start : ℕ) (t : Placed) (ts : List Placed) → length (t ∷ ts) ≤ start - 1024 →
    is_within all_limits.tokens (tokens_of all_limits start (length ts)) ≡ false
overcounted start t ts more = beyond (start - max (length ts) 0) 1024 (omega arith)

pub takes_inside : (start : ℕ) (s : Inner) (level : ℕ) (xs : List Inner) (t : Placed)
    (ts : List Placed) → level ≤ 64 → start - 1024 < length (t ∷ ts)
    → inner_on s t.lexeme ≡ takes_inner level xs
    → Reads (inner start s ∷ []) (inside_on start xs) (t ∷ ts) ts
takes_inside start s level xs t ts less count e = record {
  runs = λ below. stepped (inner start s ∷ below) t ts (goes (inside_on start xs ++ below))
      (inner_step start s below t ts (takes_inner level xs) e
      ∙ ap (λ b. within_limits b
      (is_within all_limits.tokens (tokens_of all_limits start (length ts)))
      (inside_on start xs ++ below)) (within level 64 less)
      ∙ ap (λ b. within_limits true b (inside_on start xs ++ below)) (counted start t ts count));
}

pub inside_is_too_deep :
    (start : ℕ) (s : Inner) (level : ℕ) (xs : List Inner) (t : Placed) (ts : List Placed)
    → 64 < level
    → inner_on s t.lexeme ≡ takes_inner level xs
    → Halts (inner start s ∷ []) (t ∷ ts) too_deep (length (t ∷ ts))
inside_is_too_deep start s level xs t ts more e = fails_at (inner start s) t ts too_deep (λ below.
    inner_step start s below t ts (takes_inner level xs) e
    ∙ ap (λ b. within_limits b
    (is_within all_limits.tokens (tokens_of all_limits start (length ts)))
    (inside_on start xs ++ below)) (beyond level 64 more))

pub inside_is_too_long :
    (start : ℕ) (s : Inner) (level : ℕ) (xs : List Inner) (t : Placed) (ts : List Placed)
    → level ≤ 64 → length (t ∷ ts) ≤ start - 1024
    → inner_on s t.lexeme ≡ takes_inner level xs
    → Halts (inner start s ∷ []) (t ∷ ts) too_long (length (t ∷ ts))
inside_is_too_long start s level xs t ts less count e = fails_at (inner start s) t ts too_long
    (λ below.
    inner_step start s below t ts (takes_inner level xs) e
    ∙ ap (λ b. within_limits b
    (is_within all_limits.tokens (tokens_of all_limits start (length ts)))
    (inside_on start xs ++ below)) (within level 64 less)
    ∙ ap (λ b. within_limits true b (inside_on start xs ++ below)) (overcounted start t ts count))

pub skips_inside : (start : ℕ) (s : Inner) (ts : List Placed) → may_be_empty (inner start s) ≡ true
    → Next (λ x. inner_on s x ≡ over_inner) ts
    → Reads (inner start s ∷ []) [] ts ts
skips_inside start s [] empty next =
    record { runs = λ below. ended_over (may_be_empty (inner start s)) (at_end below) empty }
skips_inside start s (t ∷ ts) empty next = record {
  runs =
      λ below. stepped (inner start s ∷ below) t ts (step all_limits (length ts) below t.lexeme)
      (inner_step start s below t ts over_inner next);
}

pub is_stuck_inside : (start : ℕ) (s : Inner) (e : Expected) (ts : List Placed)
    → may_be_empty (inner start s) ≡ false → Next (λ x. inner_on s x ≡ stuck_inner e) ts
    → Halts (inner start s ∷ []) ts (stuck_at e) (length ts)
is_stuck_inside start s e [] full next =
    record {
      rest = [];
      many = refl;
      runs = λ below.
          ended_early (may_be_empty (inner start s)) (at_end below) full;
    }
is_stuck_inside start s e (t ∷ ts) full next = record {
  rest = t ∷ ts;
  many = refl;
  runs =
      λ below. stepped (inner start s ∷ below) t ts (fails_as (stuck_at e))
      (inner_step start s below t ts (stuck_inner e) next);
}

-- a symbol that is stuck at a token, though it may have none
pub is_stuck_inside_at : (start : ℕ) (s : Inner) (e : Expected) (t : Placed) (ts : List Placed)
    → inner_on s t.lexeme ≡ stuck_inner e
    → Halts (inner start s ∷ []) (t ∷ ts) (stuck_at e) (length (t ∷ ts))
is_stuck_inside_at start s e t ts is = record {
  rest = t ∷ ts;
  many = refl;
  runs =
      λ below. stepped (inner start s ∷ below) t ts (fails_as (stuck_at e))
      (inner_step start s below t ts (stuck_inner e) is);
}

-- ---- the first token of an expression

abbrev pub expression_from : ℕ → ℕ → List Outer → State
expression_from start n ys = inner start (operand n) ∷ inner start (tail n) ∷ outside_on ys

map_append : (start : ℕ) (xs : List Inner) (x : Inner) (below : State) →
    inside_on start (xs ++ x ∷ []) ++ below ≡ inside_on start xs ++ (inner start x ∷ below)
map_append start [] x below = refl
map_append start (z ∷ xs) x below = ap (λ s. inner start z ∷ s) (map_append start xs x below)

arm_is_kept : (arm : ℕ) (b : Bool) → arm ≤ 256 → (is_within (Some 256) arm && b) ≡ b
arm_is_kept arm b less = ap (λ c. c && b) (within arm 256 less)

abbrev pub NotOver : InnerReaction → Type 0
NotOver over_inner = ⊥
NotOver r = Unit {0}

plain_is_not_over : (r : InnerReaction) → PlainlyStuck r → NotOver r
plain_is_not_over (takes_inner level xs) plain = tt
plain_is_not_over over_inner plain = absurd plain
plain_is_not_over (stuck_inner e) plain = tt

pub operand_not_over : (n : ℕ) (x : Lexeme) → NotOver (operand_on n x)
operand_not_over n x = plain_is_not_over (operand_on n x) (operand_is_plain n x)

begun_step : (n arm : ℕ) (ys : List Outer) (a : ℕ) (below : State) (skip other : MachineStep)
    (r : InnerReaction) → NotOver r → arm ≤ 256
    → after_outer all_limits a below skip (as_expression n arm ys r)
    ≡ after_inner all_limits a (a + 1) (inner (a + 1) (tail n) ∷ (outside_on ys ++ below)) other r
begun_step n arm ys a below skip other (takes_inner level xs) kind less =
    ap (λ b. within_limits (is_within all_limits.levels level) b
    (inside_on (a + 1) (xs ++ tail n ∷ []) ++ (outside_on ys ++ below)))
    (arm_is_kept arm (is_within all_limits.tokens (tokens_of all_limits (a + 1) a)) less)
    ∙ ap (λ s. within_limits (is_within all_limits.levels level)
    (is_within all_limits.tokens (tokens_of all_limits (a + 1) a)) s)
    (map_append (a + 1) xs (tail n) (outside_on ys ++ below))
begun_step n arm ys a below skip other over_inner kind less = absurd kind
begun_step n arm ys a below skip other (stuck_inner e) kind less = refl

one_more : (t : Placed) (ts : List Placed) → length ts + 1 ≡ length (t ∷ ts)
one_more t ts = omega arith

-- a symbol that begins as an expression does where no other token of its own comes, the arm of this
-- number being within the limit
pub begins_expression : (y : Outer) (n arm : ℕ) (ys : List Outer) (ts : List Placed) → arm ≤ 256
    → may_be_empty (outer y) ≡ false
    → Next (λ x. outer_on y x ≡ expression_on n arm ys x) ts
    → Reads (outer y ∷ []) (expression_from (length ts) n ys) ts ts
begins_expression y n arm ys [] less full next =
    record { runs = λ below. ended_early (may_be_empty (outer y)) (at_end below) full }
begins_expression y n arm ys (t ∷ ts) less full next = record {
  runs = λ below.
      ap (λ st. go_on (λ next. run all_limits next ts) (t ∷ ts) st)
      (outer_step y below t ts (expression_on n arm ys t.lexeme) next
      ∙ begun_step n arm ys (length ts) below (step all_limits (length ts) below t.lexeme)
      (step all_limits (length ts) (inner (length ts + 1) (tail n) ∷ (outside_on ys ++ below))
      t.lexeme) (operand_on n t.lexeme) (operand_not_over n t.lexeme) less)
      ∙ ap (λ start. run all_limits
      (inner start (operand n) ∷ inner start (tail n) ∷ (outside_on ys ++ below)) (t ∷ ts))
      (one_more t ts);
}

every_next : (P : Lexeme → Type 0) → ((x : Lexeme) → P x) → (ts : List Placed) → Next P ts
every_next P is [] = tt
every_next P is (t ∷ ts) = is t.lexeme

-- an expression that stands in no other one
pub reads_expression : (n : ℕ) (ts : List Placed) →
    Reads (outer (expression n) ∷ []) (expression_from (length ts) n []) ts ts
reads_expression n ts =
    begins_expression (expression n) n 0 [] ts (omega arith) refl
    (every_next (λ x. outer_on (expression n) x ≡ expression_on n 0 [] x) (λ x. refl) ts)

-- ---- how many tokens are left

pub halts_left : (xs : State) (ts : List Placed) (f : Failure) (left other : ℕ) → left ≡ other →
    Halts xs ts f left → Halts xs ts f other
halts_left xs ts f left other same is =
    record { rest = is.rest; many = is.many ∙ same; runs = is.runs }

-- as many tokens as their plain forms
pub as_many : (bytes : List ℕ) (tokens : List Token) →
    length (placed_tokens bytes tokens) ≡ length tokens
as_many bytes tokens = length-map tokens (placed_of bytes)
