-- Lists end with their signs where no comma comes, and symbols that begin with a name or a sign
-- begin as these do.
use Rattle.std.proofs.Common.{◌≡◌, ℕ, Bool, true, false, List, [], ◌∷◌, ◌++◌, length, refl, sym, ap}
use Rattle.std.proofs.Common.{Option, None, Some, subst, ◌∙◌}
use Rattle.sv_token.specs.declared.signs.SignKind.{SignKind}
use Rattle.sv_token.specs.declared.signs.SignKind.TheVariants as signs
use Rattle.sv_token.specs.Lexemes.{Lexeme, identifier, sign, Placed}
use Rattle.sv_token.specs.Words.{is_refused_word}
use Rattle.sv_ast.specs.GrammarRules.{all_limits}
use Rattle.sv_parse_machine.specs.Symbols.{Inner, members_or_count, members, inner_brace, Outer}
use Rattle.sv_parse_machine.specs.Symbols.{punctuation, plain_name, more_names, more_values}
use Rattle.sv_parse_machine.specs.Symbols.{more_header_parameters, more_ports, more_parameters}
use Rattle.sv_parse_machine.specs.Symbols.{more_wires, more_assigned, more_named_overrides}
use Rattle.sv_parse_machine.specs.Symbols.{more_named_links, more_instances, more_targets, more_choices}
use Rattle.sv_parse_machine.specs.Symbols.{inner, outer, State, takes, unless_refused}
use Rattle.sv_parse_machine.specs.ExpressionTable.{inner_on}
use Rattle.sv_parse_machine.specs.Machine.{outer_on, MachineStep, outside_on, after_inner}
use Rattle.sv_parse_machine.specs.Machine.{after_outer, step, may_be_empty, ended, at_end, go_on}
use Rattle.sv_parse_machine.specs.Machine.{run}
use Rattle.sv_parse_machine.specs.Reads.{IsNot, NextIs, NextIsNot, Reads}

-- ---- symbols that do the same

no_end : (b c : Bool) → b ≡ false → c ≡ false → b ≡ c
no_end b c first second = first ∙ sym second

-- both have to come, and the next token does the same to both
pub same_outer : (y z : Outer) (ts : List Placed) → may_be_empty (outer y) ≡ false
    → may_be_empty (outer z) ≡ false → NextIs (λ x. outer_on y x ≡ outer_on z x) ts
    → Reads (outer y ∷ []) (outer z ∷ []) ts ts
same_outer y z [] first second next =
    record {
      runs = λ below.
          ap (λ b. ended b (at_end below))
          (no_end (may_be_empty (outer y)) (may_be_empty (outer z)) first second);
    }
same_outer y z (t ∷ ts) first second next = record {
  runs =
      λ below.
      ap (λ r. go_on (λ s.
      run all_limits s ts) (t ∷ ts)
      (after_outer all_limits (length ts) below (step all_limits (length ts) below t.lexeme)
      r)) next;
}

pub same_inner : (start : ℕ) (y z : Inner) (ts : List Placed) → may_be_empty (inner start y) ≡ false
    → may_be_empty (inner start z) ≡ false
    → NextIs (λ x. inner_on y x ≡ inner_on z x) ts
    → Reads (inner start y ∷ []) (inner start z ∷ []) ts ts
same_inner start y z [] first second next = record {
  runs =
      λ below. ap (λ b. ended b (at_end below))
      (no_end (may_be_empty (inner start y)) (may_be_empty (inner start z)) first second);
}
same_inner start y z (t ∷ ts) first second next = record {
  runs = λ below.
      ap (λ r. go_on (λ s.
      run all_limits s ts) (t ∷ ts)
      (after_inner all_limits (length ts) start below
      (step all_limits (length ts) below t.lexeme) r)) next;
}

alike_if : (P : Lexeme → Type 0) (y z : Outer) → may_be_empty (outer y) ≡ false
    → may_be_empty (outer z) ≡ false → ((x : Lexeme) → P x → outer_on y x ≡ outer_on z x)
    → (ts : List Placed) → NextIs P ts → Reads (outer y ∷ []) (outer z ∷ []) ts ts
alike_if P y z first second row [] next = same_outer y z [] first second tt
alike_if P y z first second row (t ∷ ts) next =
    same_outer y z (t ∷ ts) first second (row t.lexeme next)

inner_alike_if : (k : SignKind) (start : ℕ) (y z : Inner) → may_be_empty (inner start y) ≡ false
    → may_be_empty (inner start z) ≡ false
    → ((x : Lexeme) → IsNot (sign k) x → inner_on y x ≡ inner_on z x)
    → (ts : List Placed) → NextIsNot (sign k) ts
    → Reads (inner start y ∷ []) (inner start z ∷ []) ts ts
inner_alike_if k start y z first second row [] next = same_inner start y z [] first second tt
inner_alike_if k start y z first second row (t ∷ ts) next =
    same_inner start y z (t ∷ ts) first second (row t.lexeme next)

-- ---- lists without a further comma

-- the sign behind the list, if the symbol is a list
abbrev list_end : Outer → Option SignKind
list_end more_values = Some signs.CloseParenthesis
list_end more_header_parameters = Some signs.CloseParenthesis
list_end more_ports = Some signs.CloseParenthesis
list_end more_named_overrides = Some signs.CloseParenthesis
list_end more_named_links = Some signs.CloseParenthesis
list_end more_parameters = Some signs.Semicolon
list_end more_wires = Some signs.Semicolon
list_end more_assigned = Some signs.Semicolon
list_end more_instances = Some signs.Semicolon
list_end (more_targets n) = Some signs.CloseBrace
list_end (more_choices n) = Some signs.Colon
list_end (more_names signs.Semicolon) = Some signs.Semicolon
list_end (more_names signs.CloseBrace) = Some signs.CloseBrace
list_end y = None

abbrev IsLikeItsEnd : Option SignKind → Outer → Lexeme → Type 0
IsLikeItsEnd None y x = Unit {0}
IsLikeItsEnd (Some s) y x = outer_on y x ≡ outer_on (punctuation s) x

row_list : (y : Outer) (x : Lexeme) → IsNot (sign signs.Comma) x → IsLikeItsEnd (list_end y) y x
row_list more_values (sign signs.Comma) other = absurd (other refl)
row_list more_values x other = refl
row_list more_header_parameters (sign signs.Comma) other = absurd (other refl)
row_list more_header_parameters x other = refl
row_list more_ports (sign signs.Comma) other = absurd (other refl)
row_list more_ports x other = refl
row_list more_named_overrides (sign signs.Comma) other = absurd (other refl)
row_list more_named_overrides x other = refl
row_list more_named_links (sign signs.Comma) other = absurd (other refl)
row_list more_named_links x other = refl
row_list more_parameters (sign signs.Comma) other = absurd (other refl)
row_list more_parameters x other = refl
row_list more_wires (sign signs.Comma) other = absurd (other refl)
row_list more_wires x other = refl
row_list more_assigned (sign signs.Comma) other = absurd (other refl)
row_list more_assigned x other = refl
row_list more_instances (sign signs.Comma) other = absurd (other refl)
row_list more_instances x other = refl
row_list (more_targets n) (sign signs.Comma) other = absurd (other refl)
row_list (more_targets n) x other = refl
row_list (more_choices n) (sign signs.Comma) other = absurd (other refl)
row_list (more_choices n) x other = refl
row_list (more_names signs.Semicolon) (sign signs.Comma) other = absurd (other refl)
row_list (more_names signs.Semicolon) x other = refl
row_list (more_names signs.CloseBrace) (sign signs.Comma) other = absurd (other refl)
row_list (more_names signs.CloseBrace) x other = refl
row_list y x other = tt

ends_list : (y : Outer) (s : SignKind) → may_be_empty (outer y) ≡ false
    → ((x : Lexeme) → IsNot (sign signs.Comma) x → outer_on y x ≡ outer_on (punctuation s) x)
    → (ts : List Placed) → NextIsNot (sign signs.Comma) ts
    → Reads (outer y ∷ []) (outer (punctuation s) ∷ []) ts ts
ends_list y s full row = alike_if (IsNot (sign signs.Comma)) y (punctuation s) full refl row

pub ends_more_values : (ts : List Placed) → NextIsNot (sign signs.Comma) ts →
    Reads (outer more_values ∷ []) (outer (punctuation signs.CloseParenthesis) ∷ []) ts ts
ends_more_values = ends_list more_values signs.CloseParenthesis refl (row_list more_values)

pub ends_more_header_parameters : (ts : List Placed) → NextIsNot (sign signs.Comma) ts →
    Reads (outer more_header_parameters ∷ []) (outer (punctuation signs.CloseParenthesis) ∷ []) ts
    ts
ends_more_header_parameters =
    ends_list more_header_parameters signs.CloseParenthesis refl (row_list more_header_parameters)

pub ends_more_ports : (ts : List Placed) → NextIsNot (sign signs.Comma) ts →
    Reads (outer more_ports ∷ []) (outer (punctuation signs.CloseParenthesis) ∷ []) ts ts
ends_more_ports = ends_list more_ports signs.CloseParenthesis refl (row_list more_ports)

pub ends_more_named_overrides : (ts : List Placed) → NextIsNot (sign signs.Comma) ts →
    Reads (outer more_named_overrides ∷ []) (outer (punctuation signs.CloseParenthesis) ∷ []) ts ts
ends_more_named_overrides =
    ends_list more_named_overrides signs.CloseParenthesis refl (row_list more_named_overrides)

pub ends_more_named_links : (ts : List Placed) → NextIsNot (sign signs.Comma) ts →
    Reads (outer more_named_links ∷ []) (outer (punctuation signs.CloseParenthesis) ∷ []) ts ts
ends_more_named_links =
    ends_list more_named_links signs.CloseParenthesis refl (row_list more_named_links)

pub ends_more_parameters : (ts : List Placed) → NextIsNot (sign signs.Comma) ts →
    Reads (outer more_parameters ∷ []) (outer (punctuation signs.Semicolon) ∷ []) ts ts
ends_more_parameters = ends_list more_parameters signs.Semicolon refl (row_list more_parameters)

pub ends_more_wires : (ts : List Placed) → NextIsNot (sign signs.Comma) ts →
    Reads (outer more_wires ∷ []) (outer (punctuation signs.Semicolon) ∷ []) ts ts
ends_more_wires = ends_list more_wires signs.Semicolon refl (row_list more_wires)

pub ends_more_assigned : (ts : List Placed) → NextIsNot (sign signs.Comma) ts →
    Reads (outer more_assigned ∷ []) (outer (punctuation signs.Semicolon) ∷ []) ts ts
ends_more_assigned = ends_list more_assigned signs.Semicolon refl (row_list more_assigned)

pub ends_more_instances : (ts : List Placed) → NextIsNot (sign signs.Comma) ts →
    Reads (outer more_instances ∷ []) (outer (punctuation signs.Semicolon) ∷ []) ts ts
ends_more_instances = ends_list more_instances signs.Semicolon refl (row_list more_instances)

pub ends_more_targets : (n : ℕ) (ts : List Placed) → NextIsNot (sign signs.Comma) ts →
    Reads (outer (more_targets n) ∷ []) (outer (punctuation signs.CloseBrace) ∷ []) ts ts
ends_more_targets n = ends_list (more_targets n) signs.CloseBrace refl (row_list (more_targets n))

pub ends_more_choices : (n : ℕ) (ts : List Placed) → NextIsNot (sign signs.Comma) ts →
    Reads (outer (more_choices n) ∷ []) (outer (punctuation signs.Colon) ∷ []) ts ts
ends_more_choices n = ends_list (more_choices n) signs.Colon refl (row_list (more_choices n))

pub ends_listed : (ts : List Placed) → NextIsNot (sign signs.Comma) ts →
    Reads (outer (more_names signs.Semicolon) ∷ []) (outer (punctuation signs.Semicolon) ∷ []) ts ts
ends_listed =
    ends_list (more_names signs.Semicolon) signs.Semicolon refl
    (row_list (more_names signs.Semicolon))

pub ends_joined : (ts : List Placed) → NextIsNot (sign signs.Comma) ts →
    Reads (outer (more_names signs.CloseBrace) ∷ []) (outer (punctuation signs.CloseBrace) ∷ [])
    ts ts
ends_joined =
    ends_list (more_names signs.CloseBrace) signs.CloseBrace refl
    (row_list (more_names signs.CloseBrace))

-- ---- braces of expressions

row_members : (n : ℕ) (x : Lexeme) → IsNot (sign signs.Comma) x →
    inner_on (members n) x ≡ inner_on inner_brace x
row_members n (sign signs.Comma) other = absurd (other refl)
row_members n x other = refl

pub ends_members : (start n : ℕ) (ts : List Placed) → NextIsNot (sign signs.Comma) ts →
    Reads (inner start (members n) ∷ []) (inner start inner_brace ∷ []) ts ts
ends_members start n =
    inner_alike_if signs.Comma start (members n) inner_brace refl refl (row_members n)

row_first_member : (n : ℕ) (x : Lexeme) → IsNot (sign signs.OpenBrace) x →
    inner_on (members_or_count n) x ≡ inner_on (members n) x
row_first_member n (sign signs.OpenBrace) other = absurd (other refl)
row_first_member n x other = refl

-- a join, where no second brace comes
pub no_count : (start n : ℕ) (ts : List Placed) → NextIsNot (sign signs.OpenBrace) ts →
    Reads (inner start (members_or_count n) ∷ []) (inner start (members n) ∷ []) ts ts
no_count start n =
    inner_alike_if signs.OpenBrace start (members_or_count n) (members n) refl refl
    (row_first_member n)

-- ---- symbols that begin with a name or a sign

abbrev pub NextIsIdentifier : List Placed → Type 0
NextIsIdentifier [] = ⊥
NextIsIdentifier (t ∷ ts) = (x : List ℕ) × (t.lexeme ≡ identifier x)

named_alike : (b : Bool) (ys : List Outer) (a : ℕ) (below : State) (skip other : MachineStep)
    → after_outer all_limits a below skip (unless_refused b (takes 0 0 ys)) ≡
    after_outer all_limits a (outside_on ys ++ below) other (unless_refused b (takes 0 0 []))
named_alike true ys a below skip other = refl
named_alike false ys a below skip other = refl

-- where a name comes, refused or not, a symbol with a row for it is a name and what follows in that
-- row
pub name_first : (y : Outer) (ys : List Outer) (ts : List Placed)
    → ((x : List ℕ) → outer_on y (identifier x) ≡ unless_refused (is_refused_word x) (takes 0 0 ys))
    → NextIsIdentifier ts → Reads (outer y ∷ []) (outer plain_name ∷ outside_on ys) ts ts
name_first y ys [] row next = absurd next
name_first y ys (t ∷ ts) row (x, at) = record {
  runs = λ below.
      ap (λ st. go_on (λ s. run all_limits s ts) (t ∷ ts) st)
      (subst (λ z. after_outer all_limits (length ts) below (step all_limits (length ts) below z)
      (outer_on y z)
      ≡ after_outer all_limits (length ts) (outside_on ys ++ below)
      (step all_limits (length ts) (outside_on ys ++ below) z) (outer_on plain_name z)) (sym at)
      (ap (λ r. after_outer all_limits (length ts) below
      (step all_limits (length ts) below (identifier x)) r) (row x)
      ∙ named_alike (is_refused_word x) ys (length ts) below
      (step all_limits (length ts) below (identifier x))
      (step all_limits (length ts) (outside_on ys ++ below) (identifier x))));
}
