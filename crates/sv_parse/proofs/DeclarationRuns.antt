-- What reading declarations is to the machine of the grammar.
use Rattle.std.proofs.Common.{◌≡◌, ℕ, Bool, true, false, List, [], ◌∷◌, ◌++◌, length, Option, Some}
use Rattle.std.proofs.Common.{None, refl, sym, ap, ◌∙◌}
use Rattle.std.specs.Prelude.{is_some, IfSome}
use Rattle.std.proofs.lemmas.Bool.{false≢true}
use Rattle.sv_token.specs.declared.keywords.WordKind.TheVariants as words
use Rattle.sv_token.specs.declared.signs.SignKind.TheVariants as signs
use Rattle.sv_token.specs.Lexemes.{Lexeme, word, identifier, sign, Placed}
use Rattle.sv_token.specs.Words.{is_refused_word}
use Rattle.sv_ast.specs.GrammarForms.{a_sign, a_word}
use Rattle.sv_ast.specs.GrammarRules.{all_limits}
use Rattle.sv_parse_expr.specs.declared.stop.Stop.{Stop}
use Rattle.sv_parse_expr.specs.Expectations.{HaltsAs}
use Rattle.sv_parse_expr.proofs.Halting.{stops_then, stops_before}
use Rattle.sv_parse_machine.specs.Symbols.{Outer, punctuation, plain_name, plain_number, more_names}
use Rattle.sv_parse_machine.specs.Symbols.{perhaps_second_name, later_header_parameter}
use Rattle.sv_parse_machine.specs.Symbols.{more_header_parameters, later_port, more_ports, items}
use Rattle.sv_parse_machine.specs.Symbols.{more_parameters, perhaps_value, more_wires, perhaps_signed}
use Rattle.sv_parse_machine.specs.Symbols.{perhaps_range, reg_label, reg_name, behind_reg_name}
use Rattle.sv_parse_machine.specs.Symbols.{label_selector, memory_name, Symbol, outer, State, something}
use Rattle.sv_parse_machine.specs.Symbols.{takes, stuck, unless_refused}
use Rattle.sv_parse_machine.specs.ModuleTable.{value, number_range, behind_selector}
use Rattle.sv_parse_machine.specs.Machine.{outer_on, MachineStep, outside_on, after_outer, step}
use Rattle.sv_parse_machine.specs.Machine.{may_be_empty, ended, at_end, go_on, run}
use Rattle.sv_parse_machine.specs.Reads.{Reads, NextIs, IsNot, NextIsNotSign, NextIsNotWord, GoesOn}
use Rattle.sv_parse_machine.proofs.ReadSteps.{reads_then, reads_before}
use Rattle.sv_parse_machine.proofs.ReadRows.{sign_taken, word_taken}
use Rattle.sv_parse_machine.proofs.ReadLists.{same_outer}
use Rattle.sv_parse.specs.declared.registers.RegLabel.{RegLabel}
use Rattle.sv_parse.specs.ReadingDeclarations.{table_end, named_value, memory_end, behind_name}

-- ---- symbols that begin with a name

-- a name and what is behind it are taken, and all else is stuck
abbrev pub TakesName : Outer → List Outer → Lexeme → Type 0
TakesName y ys (identifier x) =
    outer_on y (identifier x) ≡ unless_refused (is_refused_word x) (takes 0 0 ys)
TakesName y ys x = outer_on y x ≡ stuck something

named_step : (b : Bool) (ys : List Outer) (a : ℕ) (below : State) (skip other : MachineStep) →
    after_outer all_limits a below skip (unless_refused b (takes 0 0 ys)) ≡
    after_outer all_limits a (outside_on ys ++ below) other (unless_refused b (takes 0 0 []))
named_step true ys a below skip other = refl
named_step false ys a below skip other = refl

name_step : (y : Outer) (ys : List Outer) (x : Lexeme) (a : ℕ) (below : State)
    (skip other : MachineStep) → TakesName y ys x →
    after_outer all_limits a below skip (outer_on y x) ≡
    after_outer all_limits a (outside_on ys ++ below) other (outer_on plain_name x)
name_step y ys (identifier x) a below skip other row =
    ap (λ r. after_outer all_limits a below skip r) row
    ∙ named_step (is_refused_word x) ys a below skip other
name_step y ys x a below skip other row = ap (λ r. after_outer all_limits a below skip r) row

pub begins_with_name :
    (y : Outer) (ys : List Outer) (ts : List Placed) → may_be_empty (outer y) ≡ false →
    NextIs (TakesName y ys) ts →
    Reads (outer y ∷ []) (outer plain_name ∷ outside_on ys) ts ts
begins_with_name y ys [] full next =
    record { runs = λ below. early (may_be_empty (outer y)) below full }
  where
    early : (b : Bool) (below : State) → b ≡ false →
        ended b (at_end below) ≡ at_end (outer plain_name ∷ (outside_on ys ++ below))
    early true below e = absurd (false≢true (sym e))
    early false below e = refl
begins_with_name y ys (t ∷ ts) full next = record {
  runs = λ below.
      ap (λ st. go_on (λ s. run all_limits s ts) (t ∷ ts) st)
      (name_step y ys t.lexeme (length ts) below (step all_limits (length ts) below t.lexeme)
      (step all_limits (length ts) (outside_on ys ++ below) t.lexeme) next);
}

every : (P : Lexeme → Type 0) → ((x : Lexeme) → P x) → (ts : List Placed) → NextIs P ts
every P is [] = tt
every P is (t ∷ ts) = is t.lexeme

next_by : (P Q : Lexeme → Type 0) → ((x : Lexeme) → P x → Q x) → (ts : List Placed) → NextIs P ts →
    NextIs Q ts
next_by P Q f [] next = tt
next_by P Q f (t ∷ ts) next = f t.lexeme next

row_reg_name : (x : Lexeme) → TakesName reg_name (behind_reg_name ∷ []) x
row_reg_name (identifier x) = refl
row_reg_name x = refl

pub reg_name_first : (ts : List Placed) →
    Reads (outer reg_name ∷ []) (outside_on (plain_name ∷ behind_reg_name ∷ [])) ts ts
reg_name_first ts =
    begins_with_name reg_name (behind_reg_name ∷ []) ts refl
    (every (TakesName reg_name (behind_reg_name ∷ [])) row_reg_name ts)

row_memory_name : (x : Lexeme) →
    TakesName memory_name (punctuation signs.OpenBracket ∷ number_range) x
row_memory_name (identifier x) = refl
row_memory_name x = refl

pub memory_name_first : (ts : List Placed) →
    Reads (outer memory_name ∷ [])
    (outside_on (plain_name ∷ punctuation signs.OpenBracket ∷ number_range)) ts ts
memory_name_first ts =
    begins_with_name memory_name (punctuation signs.OpenBracket ∷ number_range) ts refl
    (every (TakesName memory_name (punctuation signs.OpenBracket ∷ number_range))
    row_memory_name ts)

row_reg_label : (x : Lexeme) → IsNot (sign signs.OpenBrace) x →
    TakesName reg_label (behind_reg_name ∷ []) x
row_reg_label (sign signs.OpenBrace) none = absurd (none refl)
row_reg_label (identifier x) none = refl
row_reg_label x none = refl

-- no label
pub reg_label_skipped : (ts : List Placed) → NextIsNotSign signs.OpenBrace ts →
    Reads (outer reg_label ∷ []) (outside_on (plain_name ∷ behind_reg_name ∷ [])) ts ts
reg_label_skipped ts none =
    begins_with_name reg_label (behind_reg_name ∷ []) ts refl
    (next_by (IsNot (sign signs.OpenBrace)) (TakesName reg_label (behind_reg_name ∷ []))
    row_reg_label ts none)

-- behind the selectors of a register's label
abbrev pub behind_table : List Outer
behind_table = plain_name ∷ more_names signs.Semicolon ∷ []

row_selector : (x : Lexeme) → IsNot (sign signs.Hash) x →
    TakesName label_selector (perhaps_second_name ∷ behind_selector behind_table) x
row_selector (sign signs.Hash) none = absurd (none refl)
row_selector (identifier x) none = refl
row_selector x none = refl

-- a selector that is a name
pub selector_named : (ts : List Placed) → NextIsNotSign signs.Hash ts →
    Reads (outer label_selector ∷ []) (outside_on (table_end ++ behind_table)) ts ts
selector_named ts none =
    begins_with_name label_selector (perhaps_second_name ∷ behind_selector behind_table) ts refl
    (next_by (IsNot (sign signs.Hash))
    (TakesName label_selector (perhaps_second_name ∷ behind_selector behind_table)) row_selector
    ts none)

row_later_parameter : (x : Lexeme) → IsNot (word words.Parameter) x →
    TakesName later_header_parameter (value []) x
row_later_parameter (word words.Parameter) none = absurd (none refl)
row_later_parameter (identifier x) none = refl
row_later_parameter x none = refl

-- a parameter of a header that has the type of the one before it
pub later_parameter_alike : (ts : List Placed) → NextIsNotWord words.Parameter ts →
    Reads (outer later_header_parameter ∷ []) (outside_on named_value) ts ts
later_parameter_alike ts none =
    begins_with_name later_header_parameter (value []) ts refl
    (next_by (IsNot (word words.Parameter)) (TakesName later_header_parameter (value []))
    row_later_parameter ts none)

row_later_port : (x : Lexeme) → IsNot (word words.Input) x → IsNot (word words.Output) x →
    TakesName later_port [] x
row_later_port (word words.Input) no_input no_output = absurd (no_input refl)
row_later_port (word words.Output) no_input no_output = absurd (no_output refl)
row_later_port (identifier x) no_input no_output = refl
row_later_port x no_input no_output = refl

-- a port that has the kind and the type of the one before it
pub later_port_alike : (ts : List Placed) → NextIsNotWord words.Input ts →
    NextIsNotWord words.Output ts → Reads (outer later_port ∷ []) (outer plain_name ∷ []) ts ts
later_port_alike [] no_input no_output = begins_with_name later_port [] [] refl tt
later_port_alike (t ∷ ts) no_input no_output =
    begins_with_name later_port [] (t ∷ ts) refl (row_later_port t.lexeme no_input no_output)

-- ---- behind the name of a register

row_more_registers : (x : Lexeme) → IsNot (sign signs.OpenBracket) x →
    outer_on behind_reg_name x ≡ outer_on (more_names signs.Semicolon) x
row_more_registers (sign signs.OpenBracket) none = absurd (none refl)
row_more_registers (sign signs.Comma) none = refl
row_more_registers (sign signs.Semicolon) none = refl
row_more_registers x none = refl

-- registers, where no memory's bounds come
pub registers_behind : (ts : List Placed) → NextIsNotSign signs.OpenBracket ts →
    Reads (outer behind_reg_name ∷ []) (outer (more_names signs.Semicolon) ∷ []) ts ts
registers_behind ts none =
    same_outer behind_reg_name (more_names signs.Semicolon) ts refl refl
    (next_by (IsNot (sign signs.OpenBracket)) (λ x.
    outer_on behind_reg_name x ≡ outer_on (more_names signs.Semicolon) x) row_more_registers
    ts none)

pub reads_back : (xs ys zs : State) (ts rest : List Placed) → Reads xs zs ts rest →
    Reads ys zs ts rest → Reads xs ys ts ts
reads_back xs ys zs ts rest first second =
    record { runs = λ below. first.runs below ∙ sym (second.runs below) }

abbrev inside_bounds : List Outer
inside_bounds =
    plain_number ∷ punctuation signs.Colon ∷ plain_number ∷ punctuation signs.CloseBracket ∷
    punctuation signs.Semicolon ∷ []

-- the bounds of a memory, where its bracket comes
pub memory_behind : (ts rest : List Placed) → a_sign signs.OpenBracket ts rest →
    Reads (outer behind_reg_name ∷ []) (outside_on memory_end) ts ts
memory_behind ts rest opens =
    reads_back (outer behind_reg_name ∷ []) (outside_on memory_end)
    (outside_on inside_bounds) ts rest
    (sign_taken behind_reg_name signs.OpenBracket inside_bounds ts rest refl opens)
    (reads_before (outer (punctuation signs.OpenBracket) ∷ []) [] (outside_on inside_bounds) ts rest
    (sign_taken (punctuation signs.OpenBracket) signs.OpenBracket [] ts rest refl opens))

-- what follows where a value is there, which a test says
pub where_some : {A : Type 0} (o : Option A) (b : Bool) (P : A → Type 0) (Q : Type 0) →
    b ≡ is_some o → b ≡ true → IfSome o P → ((a : A) → P a → Q) → Q
where_some None b P Q is holds h follows = absurd (false≢true (sym is ∙ holds))
where_some (Some a) b P Q is holds h follows = follows a h

-- ---- lists

pub parameters_go_on : GoesOn (outer more_parameters ∷ outer items ∷ []) (outside_on named_value)
parameters_go_on = record {
  comma = λ ts rest comma.
      reads_before (outer more_parameters ∷ []) (outside_on (named_value ++ more_parameters ∷ []))
      (outer items ∷ []) ts rest
      (sign_taken more_parameters signs.Comma (named_value ++ more_parameters ∷ []) ts rest
      refl comma);
}

pub header_parameters_go_on :
    GoesOn (outer more_header_parameters ∷ []) (outer later_header_parameter ∷ [])
header_parameters_go_on = record {
  comma =
      λ ts rest comma. sign_taken more_header_parameters signs.Comma
      (later_header_parameter ∷ more_header_parameters ∷ []) ts rest refl comma;
}

pub ports_go_on : GoesOn (outer more_ports ∷ []) (outer later_port ∷ [])
ports_go_on =
    record {
      comma = λ ts rest comma.
          sign_taken more_ports signs.Comma (later_port ∷ more_ports ∷ []) ts rest refl comma;
    }

pub wires_go_on : GoesOn (outer more_wires ∷ outer items ∷ [])
    (outer plain_name ∷ outer perhaps_value ∷ [])
wires_go_on = record {
  comma = λ ts rest comma.
      reads_before (outer more_wires ∷ [])
      (outside_on (plain_name ∷ perhaps_value ∷ more_wires ∷ [])) (outer items ∷ []) ts rest
      (sign_taken more_wires signs.Comma (plain_name ∷ perhaps_value ∷ more_wires ∷ []) ts rest
      refl comma);
}

pub registers_go_on : GoesOn (outer (more_names signs.Semicolon) ∷ []) (outer plain_name ∷ [])
registers_go_on = record {
  comma =
      λ ts rest comma. sign_taken (more_names signs.Semicolon) signs.Comma
      (plain_name ∷ more_names signs.Semicolon ∷ []) ts rest refl comma;
}

-- ---- one symbol after the other

pub front_read : (s : Symbol) (zs : State) (ts rest : List Placed) → Reads (s ∷ []) [] ts rest →
    Reads (s ∷ zs) zs ts rest
front_read s zs ts rest is = reads_before (s ∷ []) [] zs ts rest is

pub front_stop : (s : Symbol) (zs : State) (ts : List Placed) (stop : Stop) →
    HaltsAs (s ∷ []) ts stop → HaltsAs (s ∷ zs) ts stop
front_stop s zs ts stop is = stops_before (s ∷ []) zs ts stop is

pub and_read : (s : Symbol) (zs us : State) (ts mid rest : List Placed) → Reads (s ∷ []) [] ts mid →
    Reads zs us mid rest → Reads (s ∷ zs) us ts rest
and_read s zs us ts mid rest first second =
    reads_then (s ∷ zs) zs us ts mid rest (front_read s zs ts mid first) second

pub and_stop : (s : Symbol) (zs : State) (ts mid : List Placed) (stop : Stop) →
    Reads (s ∷ []) [] ts mid → HaltsAs zs mid stop → HaltsAs (s ∷ zs) ts stop
and_stop s zs ts mid stop first second =
    stops_then (s ∷ zs) zs ts mid stop (front_read s zs ts mid first) second

-- ---- an item that begins with `reg`

-- what `reg` is behind its name, where these symbols are the same there
pub reg_begun :
    (l : RegLabel) (ys : List Outer) (ts a b c : List Placed) → a_word words.Reg ts a →
    Reads (outside_on (perhaps_signed ∷ perhaps_range ∷ reg_label ∷ []))
    (outside_on (plain_name ∷ behind_name l)) a b → Reads (outer plain_name ∷ []) [] b c →
    Reads (outside_on (behind_name l)) (outside_on ys) c c →
    Reads (outer items ∷ []) (outside_on ys ++ outer items ∷ []) ts c
reg_begun l ys ts a b c reg typed name behind =
    let start : Reads (outer items ∷ [])
    (outside_on (perhaps_signed ∷ perhaps_range ∷ reg_label ∷ items ∷ [])) ts a =
    word_taken items words.Reg (perhaps_signed ∷ perhaps_range ∷ reg_label ∷ items ∷ []) ts a
    refl reg in
    let type_read : Reads (outside_on (perhaps_signed ∷ perhaps_range ∷ reg_label ∷ items ∷ []))
    (outside_on (plain_name ∷ behind_name l) ++ outer items ∷ []) a b =
    reads_before (outside_on (perhaps_signed ∷ perhaps_range ∷ reg_label ∷ []))
    (outside_on (plain_name ∷ behind_name l)) (outer items ∷ []) a b typed in
    let name_read : Reads (outside_on (plain_name ∷ behind_name l) ++ outer items ∷ [])
    (outside_on (behind_name l) ++ outer items ∷ []) b c =
    reads_before (outer plain_name ∷ []) [] (outside_on (behind_name l) ++ outer items ∷ []) b
    c name in
    let last : Reads (outside_on (behind_name l) ++ outer items ∷ [])
    (outside_on ys ++ outer items ∷ []) c c =
    reads_before (outside_on (behind_name l)) (outside_on ys) (outer items ∷ []) c c behind in
    reads_then _ _ _ ts b c (reads_then _ _ _ ts a b start type_read)
    (reads_then _ _ _ b c c name_read last)
