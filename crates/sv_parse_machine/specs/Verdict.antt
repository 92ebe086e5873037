-- Private: how the code goes. The number and the names of the rule that tokens break where a run
-- fails.
use Rattle.std.specs.Prelude.{ℕ, nat_eq, Bool, true, false, ◌&&◌, List, [], ◌∷◌, Option, Some, None}
use Rattle.std.specs.Prelude.{codes}
use Rattle.sv_token.specs.declared.keywords.WordKind.{WordKind}
use Rattle.sv_token.specs.declared.keywords.WordKind.TheVariants as words
use Rattle.sv_token.specs.declared.signs.SignKind.TheVariants as signs
use Rattle.sv_token.specs.Lexemes.{Lexeme, word, identifier, sign, Placed}
use Rattle.sv_token.specs.Words.{is_refused_word}
use Rattle.sv_ast.specs.GrammarForms.{binary_operator}
use Rattle.sv_ast.specs.GrammarRules.{Part, body, last_part, last_word, open_brackets, is_name}
use Rattle.sv_ast.specs.GrammarRules.{stop_at_name}
use Rattle.sv_parse_machine.specs.Symbols.{Expected, an_item, a_statement, an_edge, a_port, behind_name}
use Rattle.sv_parse_machine.specs.StatementTable.{is_star}
use Rattle.sv_parse_machine.specs.Machine.{Failure, stuck_at, too_deep, too_long, ends_early}
use Rattle.sv_num.specs.declared.faults.Place.{Place}

abbrev pub word_if : Bool → List ℕ → Option (List ℕ)
word_if true name = Some name
word_if false name = None

-- a name, where it is a refused word or not
abbrev pub name_word : (refused : Bool) → List ℕ → Expected → Option (List ℕ)
name_word true x e = Some x
name_word false x an_edge = Some (codes "sensitivity-list")
name_word false x a_port = Some (codes "header-names")
name_word false x e = None

abbrev pub is_star_lexeme : Lexeme → Bool
is_star_lexeme (sign (signs.Operator o)) = is_star (binary_operator o)
is_star_lexeme x = false

abbrev pub star_is_next : List Placed → Bool
star_is_next [] = false
star_is_next (t ∷ ts) = is_star_lexeme t.lexeme

abbrev pub parenthesis_word : Expected → (star : Bool) → Option (List ℕ)
parenthesis_word an_item star = word_if star (codes "attribute")
parenthesis_word a_statement star = word_if star (codes "attribute")
parenthesis_word e star = None

abbrev pub is_body : Part → Bool
is_body body = true
is_body p = false

abbrev pub hash_word : Expected → (in_body : Bool) → Option (List ℕ)
hash_word an_item in_body = None
hash_word e in_body = word_if in_body (codes "delay")

-- behind a name that a `reg` declares
abbrev pub equals_word : Option WordKind → (declared : Bool) → Option (List ℕ)
equals_word (Some words.Reg) declared = word_if declared (codes "reg-init")
equals_word w declared = None

-- behind a name that a signal is declared with, or that an `assign` item has
abbrev pub bracket_word : Option WordKind → (named declared : Bool) → Option (List ℕ)
bracket_word (Some words.Input) named declared = word_if declared (codes "memory")
bracket_word (Some words.Output) named declared = word_if declared (codes "memory")
bracket_word (Some words.Wire) named declared = word_if declared (codes "memory")
bracket_word (Some words.Reg) named declared = word_if declared (codes "memory")
bracket_word (Some words.Assign) named declared = word_if named (codes "target-select")
bracket_word w named declared = None

abbrev pub at_word : Expected → Option (List ℕ)
at_word a_statement = Some (codes "event-control")
at_word e = None

abbrev pub is_posedge : Lexeme → Bool
is_posedge (word words.Posedge) = true
is_posedge x = false

-- the last two tokens are `posedge` and a name
abbrev pub stop_at_clock : List Placed → Bool
stop_at_clock [] = false
stop_at_clock (t ∷ []) = false
stop_at_clock (t ∷ u ∷ []) = is_posedge t.lexeme && is_name u.lexeme
stop_at_clock (t ∷ u ∷ v ∷ ts) = stop_at_clock (u ∷ v ∷ ts)

abbrev pub dot_word : Expected → Option (List ℕ)
dot_word behind_name = Some (codes "hierarchical-name")
dot_word e = None

abbrev pub stop_at_declared : List Placed → Bool
stop_at_declared before = stop_at_name before && nat_eq (open_brackets before) 0

-- the word of the form that is left out and begins with the lexeme, between these tokens; none,
-- where it begins no such form
abbrev pub refused_word : Expected → (before : List Placed) → Lexeme → (after : List Placed) →
    Option (List ℕ)
refused_word e before (identifier x) after = name_word (is_refused_word x) x e
refused_word e before (sign signs.OpenParenthesis) after = parenthesis_word e (star_is_next after)
refused_word e before (sign signs.Hash) after = hash_word e (is_body (last_part before))
refused_word e before (sign signs.Equals) after =
    equals_word (last_word before) (stop_at_declared before)
refused_word e before (sign signs.OpenBracket) after =
    bracket_word (last_word before) (stop_at_name before) (stop_at_declared before)
refused_word e before (sign signs.At) after = at_word e
refused_word e before (sign signs.Comma) after =
    word_if (stop_at_clock before) (codes "several-events")
refused_word e before (sign signs.Dot) after = dot_word e
refused_word e before x after = None

-- 202 with the word, or 201
abbrev pub stuck_number : Option (List ℕ) → ℕ
stuck_number (Some name) = 202
stuck_number None = 201

abbrev pub stuck_names : Option (List ℕ) → List (List ℕ)
stuck_names (Some name) = name ∷ []
stuck_names None = []

-- ---- the rule that a failure breaks, between the tokens before and the rest

abbrev pub rule_number : Failure → (before rest : List Placed) → ℕ
rule_number f before [] = 201
rule_number (stuck_at e) before (t ∷ after) = stuck_number (refused_word e before t.lexeme after)
rule_number too_deep before (t ∷ after) = 203
rule_number too_long before (t ∷ after) = 204
rule_number ends_early before (t ∷ after) = 201

abbrev pub rule_names : Failure → (before rest : List Placed) → List (List ℕ)
rule_names (stuck_at e) before (t ∷ after) = stuck_names (refused_word e before t.lexeme after)
rule_names f before rest = []

-- at the first token of the rest, or where the text ends
abbrev pub rule_place : (stop : Place) → List Placed → Place
rule_place stop [] = stop
rule_place stop (t ∷ after) = t.place
