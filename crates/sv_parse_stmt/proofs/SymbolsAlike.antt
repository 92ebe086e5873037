-- Symbols that begin as others do, whatever the next token is, and how what comes behind them is
-- put together.
use Rattle.std.proofs.Common.{◌≡◌, ℕ, Bool, true, false, List, [], ◌∷◌, ◌++◌, length, refl, sym, ap}
use Rattle.std.proofs.Common.{subst}
use Rattle.std.proofs.lemmas.Bool.{false≢true}
use Rattle.sv_num.specs.declared.operators.BinOp.TheVariants.{Le}
use Rattle.sv_token.specs.declared.keywords.WordKind.{WordKind}
use Rattle.sv_token.specs.declared.keywords.WordKind.TheVariants as words
use Rattle.sv_token.specs.declared.signs.SignKind.TheVariants as signs
use Rattle.sv_token.specs.declared.tokens.Token.{Token}
use Rattle.sv_token.specs.Lexemes.{Lexeme, word, identifier, sign, Placed}
use Rattle.sv_token.specs.Words.{is_refused_word}
use Rattle.sv_ast.specs.GrammarForms.{a_sign, binary_at, somewhere}
use Rattle.sv_ast.specs.GrammarStatements.{IsNext}
use Rattle.sv_ast.specs.GrammarRules.{all_limits}
use Rattle.sv_parse_expr.specs.declared.stop.Stop.{Stop}
use Rattle.sv_parse_expr.specs.declared.stop.Stop.TheVariants as stops
use Rattle.sv_parse_expr.specs.Expectations.{HaltsAs, StopsAt}
use Rattle.sv_parse_machine.specs.Symbols.{Outer, punctuation, plain_name, expression, more_names}
use Rattle.sv_parse_machine.specs.Symbols.{statement, statements, perhaps_bits, bits_end, more_targets}
use Rattle.sv_parse_machine.specs.Symbols.{assigns, more_choices, assigned, value_or_release}
use Rattle.sv_parse_machine.specs.Symbols.{later_assigned, more_assigned, outer, State, takes, and_then}
use Rattle.sv_parse_machine.specs.Symbols.{unless_refused}
use Rattle.sv_parse_machine.specs.StatementTable.{assignment_behind, is_less_equal, taken_if}
use Rattle.sv_parse_machine.specs.Machine.{outer_on, MachineStep, outside_on, after_outer, step}
use Rattle.sv_parse_machine.specs.Machine.{MachineEnd, may_be_empty, ended, at_end, go_on, run}
use Rattle.sv_parse_machine.specs.Reads.{Reads, NextIs, IsNot, NextIsNotSign, NextIsNotWord, GoesOn}
use Rattle.sv_parse_machine.specs.Reads.{NextIsTarget, BeginsTarget}
use Rattle.sv_parse_machine.proofs.ReadSteps.{reads_then, reads_before, takes_token, expression_from}
use Rattle.sv_parse_machine.proofs.ReadSteps.{reads_expression}
use Rattle.sv_parse_machine.proofs.ReadRows.{sign_taken}
use Rattle.sv_parse_machine.proofs.SkippedRows.{begins_value_or_release}
use Rattle.sv_parse_machine.proofs.ReadLists.{name_first, NextIsIdentifier, ends_more_targets}
use Rattle.sv_parse_expr.proofs.ReadingRuns.{then_read}

-- ---- put together

pub reads_back : (xs ys : State) (ts : List Placed) → Reads xs ys ts ts → Reads ys xs ts ts
reads_back xs ys ts is = record { runs = λ below. sym (is.runs below) }

-- what is read behind others, in front of further ones
pub then_on : (xs ys us zs : State) (ts mid rest : List Placed) → Reads xs (ys ++ zs) ts mid →
    Reads ys us mid rest → Reads xs (us ++ zs) ts rest
then_on xs ys us zs ts mid rest first second =
    reads_then xs (ys ++ zs) (us ++ zs) ts mid rest first (reads_before ys us zs mid rest second)

-- ---- symbols that begin as others do

-- the lexeme does to the symbol what it does to the other one with these behind it
abbrev pub BeginsAs : Outer → Outer → List Outer → Lexeme → Type 0
BeginsAs y z zs x =
    (a : ℕ) (below : State) (skip other : MachineStep) →
    after_outer all_limits a below skip (outer_on y x) ≡
    after_outer all_limits a (outside_on zs ++ below) other (outer_on z x)

pub begins_as :
    (y z : Outer) (zs : List Outer) (ts : List Placed) → may_be_empty (outer y) ≡ false →
    may_be_empty (outer z) ≡ false → NextIs (BeginsAs y z zs) ts →
    Reads (outer y ∷ []) (outer z ∷ outside_on zs) ts ts
begins_as y z zs [] first second next =
    record {
      runs = λ below.
          early (may_be_empty (outer y)) (may_be_empty (outer z)) (at_end below)
          (at_end (outside_on zs ++ below)) first second;
    }
  where
    early : (b c : Bool) (p q : MachineEnd) → b ≡ false → c ≡ false → ended b p ≡ ended c q
    early true c p q first second = absurd (false≢true (sym first))
    early false true p q first second = absurd (false≢true (sym second))
    early false false p q first second = refl
begins_as y z zs (t ∷ ts) first second next = record {
  runs = λ below.
      ap (λ st. go_on (λ s. run all_limits s ts) (t ∷ ts) st)
      (next (length ts) below (step all_limits (length ts) below t.lexeme)
      (step all_limits (length ts) (outside_on zs ++ below) t.lexeme));
}

next_by : (P Q : Lexeme → Type 0) → ((x : Lexeme) → P x → Q x) → (ts : List Placed) → NextIs P ts →
    NextIs Q ts
next_by P Q f [] next = tt
next_by P Q f (t ∷ ts) next = f t.lexeme next

-- ---- a block: a statement, and then the same again

name_in_block :
    (n : ℕ) (b : Bool) (a : ℕ) (below : State) (skip other : MachineStep) →
    after_outer all_limits a below skip
    (and_then (statements n ∷ [])
    (unless_refused b (takes 0 0 (perhaps_bits n ∷ assignment_behind n))))
    ≡ after_outer all_limits a (outer (statements n) ∷ below) other
    (unless_refused b (takes 0 0 (perhaps_bits n ∷ assignment_behind n)))
name_in_block n true a below skip other = refl
name_in_block n false a below skip other = refl

row_statements : (n : ℕ) (x : Lexeme) → IsNot (word words.End) x →
    BeginsAs (statements n) (statement n) (statements n ∷ []) x
row_statements n (identifier y) none =
    λ a below skip other. name_in_block n (is_refused_word y) a below skip other
row_statements n (sign signs.Semicolon) none = λ a below skip other. refl
row_statements n (sign signs.OpenBrace) none = λ a below skip other. refl
row_statements n (word words.Begin) none = λ a below skip other. refl
row_statements n (word words.If) none = λ a below skip other. refl
row_statements n (word words.Case) none = λ a below skip other. refl
row_statements n (word words.End) none = absurd (none refl)
row_statements n x none = λ a below skip other. refl

pub one_statement : (n : ℕ) (ts : List Placed) → NextIsNotWord words.End ts →
    Reads (outer (statements n) ∷ []) (outer (statement n) ∷ outer (statements n) ∷ []) ts ts
one_statement n ts none =
    begins_as (statements n) (statement n) (statements n ∷ []) ts refl refl
    (next_by (IsNot (word words.End)) (BeginsAs (statements n) (statement n) (statements n ∷ []))
    (row_statements n) ts none)

-- ---- targets of `assign`

name_alike :
    (ys : List Outer) (b : Bool) (a : ℕ) (below : State) (skip other : MachineStep) →
    after_outer all_limits a below skip (unless_refused b (takes 0 0 ys)) ≡
    after_outer all_limits a (outside_on ys ++ below) other (unless_refused b (takes 0 0 []))
name_alike ys true a below skip other = refl
name_alike ys false a below skip other = refl

abbrev valued : List Outer
valued = punctuation signs.Equals ∷ expression 0 ∷ []

abbrev valued_or_released : List Outer
valued_or_released = punctuation signs.Equals ∷ value_or_release ∷ []

row_later : (x : Lexeme) → IsNot (sign signs.OpenBrace) x →
    BeginsAs later_assigned plain_name valued x
row_later (identifier y) none =
    λ a below skip other. name_alike valued (is_refused_word y) a below skip other
row_later (sign signs.OpenBrace) none = absurd (none refl)
row_later x none = λ a below skip other. refl

-- without braces, a target is a name
pub later_is_named : (ts : List Placed) → NextIsNotSign signs.OpenBrace ts →
    Reads (outer later_assigned ∷ []) (outer plain_name ∷ outside_on valued) ts ts
later_is_named ts none =
    begins_as later_assigned plain_name valued ts refl refl
    (next_by (IsNot (sign signs.OpenBrace)) (BeginsAs later_assigned plain_name valued)
    row_later ts none)

row_first : (x : Lexeme) → IsNot (sign signs.OpenBrace) x →
    BeginsAs assigned plain_name valued_or_released x
row_first (identifier y) none =
    λ a below skip other. name_alike valued_or_released (is_refused_word y) a below skip other
row_first (sign signs.OpenBrace) none = absurd (none refl)
row_first x none = λ a below skip other. refl

pub first_is_named : (ts : List Placed) → NextIsNotSign signs.OpenBrace ts →
    Reads (outer assigned ∷ []) (outer plain_name ∷ outside_on valued_or_released) ts ts
first_is_named ts none =
    begins_as assigned plain_name valued_or_released ts refl refl
    (next_by (IsNot (sign signs.OpenBrace)) (BeginsAs assigned plain_name valued_or_released)
    row_first ts none)

-- in braces, they begin no release
pub first_is_joined : (ts rest : List Placed) → a_sign signs.OpenBrace ts rest →
    Reads (outer assigned ∷ []) (outer later_assigned ∷ outer more_assigned ∷ []) ts ts
first_is_joined ts rest (p, at) =
    subst (λ us. Reads (outer assigned ∷ []) (outer later_assigned ∷ outer more_assigned ∷ []) us
    us) (sym at)
    (begins_as assigned later_assigned (more_assigned ∷ []) (record {
      lexeme = sign signs.OpenBrace;
      place = p;
    } ∷ rest) refl refl (λ a below skip other. refl))

-- ---- expressions

-- a symbol that begins as an expression does has an expression first
pub expression_first :
    (y : Outer) (n : ℕ) (ys : List Outer) (ts : List Placed) →
    Reads (outer y ∷ []) (expression_from (length ts) n ys) ts ts →
    Reads (outer y ∷ []) (outer (expression n) ∷ outside_on ys) ts ts
expression_first y n ys ts is =
    reads_then (outer y ∷ []) (expression_from (length ts) n ys)
    (outer (expression n) ∷ outside_on ys) ts ts ts is
    (reads_before (expression_from (length ts) n []) (outer (expression n) ∷ [])
    (outside_on ys) ts ts
    (reads_back (outer (expression n) ∷ []) (expression_from (length ts) n []) ts
    (reads_expression n ts)))

pub value_first : (ts : List Placed) → NextIsNotWord words.Release ts →
    Reads (outer value_or_release ∷ []) (outer (expression 0) ∷ outer more_assigned ∷ []) ts ts
value_first ts none =
    expression_first value_or_release 0 (more_assigned ∷ []) ts (begins_value_or_release ts none)

-- ---- targets of a statement

identifier_comes : (ts : List Placed) → NextIsTarget ts → NextIsNotSign signs.OpenBrace ts →
    NextIsIdentifier ts
identifier_comes [] comes none = absurd comes
identifier_comes (t ∷ ts) comes none = of_lexeme t.lexeme comes none
  where
    of_lexeme : (x : Lexeme) → BeginsTarget x → IsNot (sign signs.OpenBrace) x →
        (y : List ℕ) × (x ≡ identifier y)
    of_lexeme (identifier y) comes none = (y, refl)
    of_lexeme (sign signs.OpenBrace) comes none = absurd (none refl)
    of_lexeme x comes none = absurd comes

pub target_is_named :
    (n : ℕ) (ts : List Placed) → NextIsTarget ts → NextIsNotSign signs.OpenBrace ts →
    Reads (outer (statement n) ∷ [])
    (outer plain_name ∷ outer (perhaps_bits n) ∷ outside_on (assignment_behind n)) ts ts
target_is_named n ts comes none =
    name_first (statement n) (perhaps_bits n ∷ assignment_behind n) ts (λ x.
    refl) (identifier_comes ts comes none)

-- ---- `<=`

pub less_equal_assigns : (ts rest : List Placed) → somewhere (binary_at Le) ts rest →
    Reads (outer assigns ∷ []) [] ts rest
less_equal_assigns ts rest (p, (o, known, at)) =
    subst (λ us. Reads (outer assigns ∷ []) [] us rest) (sym at)
    (takes_token assigns [] (record { lexeme = sign (signs.Operator o); place = p }) rest
    (ap (λ op. taken_if (is_less_equal op)) known))

-- ---- lists

pub targets_go_on : (n : ℕ) →
    GoesOn (outer (more_targets n) ∷ []) (outer plain_name ∷ outer (perhaps_bits n) ∷ [])
targets_go_on n =
    record {
      comma = λ ts rest comma.
          sign_taken (more_targets n) signs.Comma
          (plain_name ∷ perhaps_bits n ∷ more_targets n ∷ []) ts
          rest refl comma;
    }

-- behind a comma comes one symbol and then the same again
goes_on : (more next : Outer) → outer_on more (sign signs.Comma) ≡ takes 0 0 (next ∷ more ∷ []) →
    GoesOn (outer more ∷ []) (outer next ∷ [])
goes_on more next row = record {
  comma = λ ts rest comma. sign_taken more signs.Comma (next ∷ more ∷ []) ts rest row comma;
}

pub choices_go_on : (n : ℕ) → GoesOn (outer (more_choices n) ∷ []) (outer (expression n) ∷ [])
choices_go_on n = goes_on (more_choices n) (expression n) refl

pub joined_go_on : GoesOn (outer (more_names signs.CloseBrace) ∷ []) (outer plain_name ∷ [])
joined_go_on = goes_on (more_names signs.CloseBrace) plain_name refl

pub assigned_go_on : GoesOn (outer more_assigned ∷ []) (outer later_assigned ∷ [])
assigned_go_on = goes_on more_assigned later_assigned refl

-- ---- what cannot be, since the caller saw the word

pub not_a_word : (w : WordKind) (ts : List Placed) → IsNext w ts → NextIsNotWord w ts → ⊥
not_a_word w [] is other = is
not_a_word w (t ∷ ts) is other = other is

pub word_is_there : (xs : State) (w : WordKind) (ts : List Placed) (tokens : List Token)
    (others : List Placed) (stop : Stop) → IsNext w ts
    → StopsAt tokens (NextIsNotWord w ts) stop → HaltsAs xs others stop
word_is_there xs w ts tokens others (stops.Broken breach left) comes at =
    absurd (not_a_word w ts comes at.0)
word_is_there xs w ts tokens others stops.OutOfMemory comes at = tt

-- ---- bits of a target

pub bits_begun : (n : ℕ) (ts a b : List Placed) → a_sign signs.OpenBracket ts a →
    Reads (outer (expression n) ∷ []) [] a b →
    Reads (outer (perhaps_bits n) ∷ []) (outer (bits_end n) ∷ []) ts b
bits_begun n ts a b opens first =
    then_read (outer (perhaps_bits n) ∷ []) (outer (expression n) ∷ [])
    (outer (bits_end n) ∷ []) ts a b
    (sign_taken (perhaps_bits n) signs.OpenBracket (expression n ∷ bits_end n ∷ []) ts a refl
    opens) first

-- ---- targets in braces

pub targets_begun :
    (n : ℕ) (ts a : List Placed) → a_sign signs.OpenBrace ts a →
    Reads (outer (statement n) ∷ [])
    ((outer plain_name ∷ outer (perhaps_bits n) ∷ outer (more_targets n) ∷ [])
    ++ outside_on (assignment_behind n)) ts a
targets_begun n ts a opens =
    sign_taken (statement n) signs.OpenBrace
    (plain_name ∷ perhaps_bits n ∷ more_targets n ∷ assignment_behind n) ts a refl opens

pub targets_closing :
    (n : ℕ) (ts a b : List Placed) → a_sign signs.OpenBrace ts a →
    Reads (outer plain_name ∷ outer (perhaps_bits n) ∷ outer (more_targets n) ∷ [])
    (outer (more_targets n) ∷ []) a b → NextIsNotSign signs.Comma b →
    Reads (outer (statement n) ∷ [])
    (outer (punctuation signs.CloseBrace) ∷ outside_on (assignment_behind n)) ts b
targets_closing n ts a b opens are over =
    then_on (outer (statement n) ∷ [])
    (outer plain_name ∷ outer (perhaps_bits n) ∷ outer (more_targets n) ∷ [])
    (outer (punctuation signs.CloseBrace) ∷ [])
    (outside_on (assignment_behind n)) ts a b (targets_begun n ts a opens)
    (reads_then (outer plain_name ∷ outer (perhaps_bits n) ∷ outer (more_targets n) ∷ [])
    (outer (more_targets n) ∷ []) (outer (punctuation signs.CloseBrace) ∷ []) a b b
    are (ends_more_targets n b over))
