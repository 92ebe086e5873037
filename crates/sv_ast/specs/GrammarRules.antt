-- What tokens mean, and where they break rules 201 to 204 (this project's profile, over the grammar
-- of IEEE 1364-2005).
use Rattle.std.specs.Prelude.{◌≡◌, ℕ, ◌+◌, ◌-◌, nat_eq, Bool, true, false, not, ◌&&◌, IsTrue, List}
use Rattle.std.specs.Prelude.{[], ◌∷◌, ◌++◌, length, fold, Option, Some, None, ◌⊎◌, codes}
use Rattle.sv_num.specs.declared.operators.BinOp.TheVariants.{Mul}
use Rattle.sv_num.specs.declared.faults.Place.{Place}
use Rattle.sv_token.specs.declared.keywords.WordKind.{WordKind}
use Rattle.sv_token.specs.declared.keywords.WordKind.TheVariants as words
use Rattle.sv_token.specs.declared.signs.SignKind.TheVariants as signs
use Rattle.sv_token.specs.Lexemes.{Lexeme, word, identifier, sign, Placed}
use Rattle.sv_token.specs.Words.{is_refused_word}
use Rattle.sv_ast.specs.Tree.{TextTree}
use Rattle.sv_ast.specs.GrammarForms.{binary_operator}
use Rattle.sv_ast.specs.GrammarExpressions.{Limits}
use Rattle.sv_ast.specs.GrammarModules.{IsText}

-- ---- limits, and what tokens mean

abbrev pub no_limits : Limits
no_limits = record { levels = None; tokens = None; arms = None; unread = 0 }

abbrev pub limit_of_levels : Limits
limit_of_levels = record no_limits { levels = Some 64 }

abbrev pub all_limits : Limits
all_limits = record { levels = Some 64; tokens = Some 1024; arms = Some 256; unread = 0 }

-- the tokens mean the tree, and no other one: forms that may stand at one place differ in their
-- first tokens, or in the token behind a common name; a list goes on exactly where its comma or a
-- further member comes; of operators each one's operands bind as they must; and an `if` without
-- `else` ends where no `else` comes
abbrev pub TokensMean : List Placed → TextTree → Type 0
TokensMean ts t = IsText all_limits t ts

-- a text begins with the tokens, and as far as they go it keeps within the limits
unfoldable pub BeginText : Limits → List Placed → Type 0
BeginText l ts =
    (others : List Placed) × (t : TextTree)
    × IsText (record l { unread = length others }) t (ts ++ others)

-- a token of the lexeme may come next
abbrev pub MayFollow : List Placed → Lexeme → Type 0
MayFollow ts x = (p : Place) × BeginText no_limits (ts ++ record { lexeme = x; place = p } ∷ [])

-- ---- where tokens stop

abbrev pub StatementMayBegin : List Placed → Type 0
StatementMayBegin ts = MayFollow ts (word words.Begin)

abbrev pub ItemMayBegin : List Placed → Type 0
ItemMayBegin ts = MayFollow ts (word words.Always)

-- an operand is complete
abbrev pub ChoiceMayFollow : List Placed → Type 0
ChoiceMayFollow ts = MayFollow ts (sign signs.Question)

abbrev pub PortMayBegin : List Placed → Type 0
PortMayBegin ts = MayFollow ts (word words.Input)

abbrev pub EdgeMayFollow : List Placed → Type 0
EdgeMayFollow ts = MayFollow ts (word words.Posedge)

-- parts of a text: a module's header, up to its `;`, its body, up to `endmodule`, and all else
pub data Part : Type 0 where
  header : Part
  body : Part
  outside : Part

abbrev pub part_behind : Part → Lexeme → Part
part_behind part (word words.Module) = header
part_behind part (word words.Endmodule) = outside
part_behind header (sign signs.Semicolon) = body
part_behind part x = part

-- the part in which the tokens stop
abbrev pub last_part : List Placed → Part
last_part ts = fold (λ part t. part_behind part t.lexeme) outside ts

-- in an item, behind its first token
abbrev pub StopInItem : List Placed → Type 0
StopInItem ts = (last_part ts ≡ body) × (ItemMayBegin ts → ⊥)

abbrev pub word_behind : Option WordKind → Lexeme → Option WordKind
word_behind w (word words.Signed) = w
word_behind w (word v) = Some v
word_behind w (sign signs.Semicolon) = None
word_behind w x = w

-- the last word other than `signed`, where no `;` comes behind it
abbrev pub last_word : List Placed → Option WordKind
last_word ts = fold (λ w t. word_behind w t.lexeme) None ts

abbrev pub open_behind : ℕ → Lexeme → ℕ
open_behind n (sign signs.OpenBracket) = n + 1
open_behind n (sign signs.OpenBrace) = n + 1
open_behind n (sign signs.CloseBracket) = n - 1
open_behind n (sign signs.CloseBrace) = n - 1
open_behind n x = n

-- how many brackets and braces are open
abbrev pub open_brackets : List Placed → ℕ
open_brackets ts = fold (λ n t. open_behind n t.lexeme) 0 ts

abbrev pub is_name : Lexeme → Bool
is_name (identifier x) = true
is_name x = false

abbrev pub stop_at_name : List Placed → Bool
stop_at_name ts = fold (λ _ t. is_name t.lexeme) false ts

-- at a name that a port or an item with this word declares: at one outside the range and the label
abbrev pub StopAtDeclared : WordKind → List Placed → Type 0
StopAtDeclared w ts =
    (last_word ts ≡ Some w) × IsTrue (stop_at_name ts && nat_eq (open_brackets ts) 0)

-- at the declared name of a port, of a `wire` or of a `reg`
abbrev pub StopAtSignal : List Placed → Type 0
StopAtSignal ts =
    StopAtDeclared words.Input ts ⊎ StopAtDeclared words.Output ts ⊎ StopAtDeclared words.Wire ts
    ⊎ StopAtDeclared words.Reg ts

-- at a name of an `assign` item. Where its value stops at a name, a `[` is no refused form, since a
-- text goes on with it
abbrev pub StopAtTarget : List Placed → Type 0
StopAtTarget ts = (last_word ts ≡ Some words.Assign) × IsTrue (stop_at_name ts)

-- at a name that is an operand, or ends one
abbrev pub StopAtOperand : List Placed → Type 0
StopAtOperand ts = ChoiceMayFollow ts × IsTrue (stop_at_name ts)

-- at the name of a clock
abbrev pub StopAtClock : List Placed → Type 0
StopAtClock ts =
    (others : List Placed) × (p q : Place) × (x : List ℕ)
    × (ts ≡ others ++ record {
      lexeme = word words.Posedge;
      place = p;
    } ∷ record { lexeme = identifier x; place = q } ∷ [])

abbrev pub IsStar : Lexeme → Type 0
IsStar (sign (signs.Operator o)) = binary_operator o ≡ Some Mul
IsStar x = ⊥

abbrev pub StarIsNext : List Placed → Type 0
StarIsNext [] = ⊥
StarIsNext (t ∷ ts) = IsStar t.lexeme

-- ---- forms that are left out, each with its word

abbrev pub IsRefusedName : (before : List Placed) → (text name : List ℕ) → Type 0
IsRefusedName before x name =
    (IsTrue (is_refused_word x) × (name ≡ x))
    ⊎ (IsTrue (not (is_refused_word x)) × (name ≡ codes "sensitivity-list") × EdgeMayFollow before)
    ⊎ (IsTrue (not (is_refused_word x)) × (name ≡ codes "header-names") × PortMayBegin before)

-- the lexeme between these tokens
abbrev pub IsRefusedForm : (before : List Placed) → Lexeme → (after : List Placed) →
    (name : List ℕ) → Type 0
IsRefusedForm before (identifier x) after name = IsRefusedName before x name
IsRefusedForm before (sign signs.OpenParenthesis) after name =
    (name ≡ codes "attribute") × StarIsNext after × (ItemMayBegin before ⊎ StatementMayBegin before)
IsRefusedForm before (sign signs.Hash) after name = (name ≡ codes "delay") × StopInItem before
IsRefusedForm before (sign signs.Equals) after name =
    (name ≡ codes "reg-init") × StopAtDeclared words.Reg before
IsRefusedForm before (sign signs.OpenBracket) after name =
    ((name ≡ codes "memory") × StopAtSignal before)
    ⊎ ((name ≡ codes "target-select") × StopAtTarget before)
IsRefusedForm before (sign signs.At) after name =
    (name ≡ codes "event-control") × StatementMayBegin before
IsRefusedForm before (sign signs.Comma) after name =
    (name ≡ codes "several-events") × StopAtClock before
IsRefusedForm before (sign signs.Dot) after name =
    (name ≡ codes "hierarchical-name") × StopAtOperand before
IsRefusedForm before x after name = ⊥

-- ---- the rules

-- a text begins with the tokens, and none with this one behind them
abbrev pub IsStuck : (before : List Placed) → Placed → Type 0
IsStuck before t = BeginText no_limits before × (BeginText no_limits (before ++ t ∷ []) → ⊥)

-- 201 at a token
abbrev pub IsUnexpected : (before : List Placed) → Placed → (after : List Placed) → Type 0
IsUnexpected before t after =
    IsStuck before t × ((name : List ℕ) → IsRefusedForm before t.lexeme after name → ⊥)

-- 201 at the end: the text ends too early
abbrev pub EndsEarly : List Placed → Type 0
EndsEarly ts = BeginText no_limits ts × ((t : TextTree) → IsText no_limits t ts → ⊥)

-- 202: a form that is left out, with its word
abbrev pub IsUnsupported : (before : List Placed) → Placed → (after : List Placed) →
    (name : List ℕ) → Type 0
IsUnsupported before t after name = IsStuck before t × IsRefusedForm before t.lexeme after name

-- 203: the token begins a level too many. No text needs a further level behind one that is open, so
-- it is this token that begins it
abbrev pub IsTooDeep : (before : List Placed) → Placed → Type 0
IsTooDeep before t =
    BeginText limit_of_levels before
    × BeginText no_limits (before ++ t ∷ [])
    × (BeginText limit_of_levels (before ++ t ∷ []) → ⊥)

-- 204: the token is one too many of an expression, or begins an arm too many of a case
abbrev pub IsTooLong : (before : List Placed) → Placed → Type 0
IsTooLong before t =
    BeginText all_limits before
    × BeginText limit_of_levels (before ++ t ∷ [])
    × (BeginText all_limits (before ++ t ∷ []) → ⊥)

-- the token breaks the rule of the number, with these names
abbrev pub TokenBreaks : ℕ → List (List ℕ) → (before : List Placed) → Placed →
    (after : List Placed) → Type 0
TokenBreaks number names before t after =
    ((number ≡ 201) × (names ≡ []) × IsUnexpected before t after)
    ⊎ ((number ≡ 202) × ((name : List ℕ) × (names ≡ name ∷ []) × IsUnsupported before t after name))
    ⊎ ((number ≡ 203) × (names ≡ []) × IsTooDeep before t)
    ⊎ ((number ≡ 204) × (names ≡ []) × IsTooLong before t)

-- the tokens of a text that ends at the place `stop` break the rule of the number, with these
-- names, first here
unfoldable pub BreaksGrammar : ℕ → List (List ℕ) → Place → (stop : Place) → List Placed → Type 0
BreaksGrammar number names place stop ts =
    ((before : List Placed) × (t : Placed) × (after : List Placed)
    × (ts ≡ before ++ t ∷ after)
    × (t.place ≡ place)
    × BeginText all_limits before
    × TokenBreaks number names before t after)
    ⊎ ((number ≡ 201) × (names ≡ []) × (place ≡ stop) × BeginText all_limits ts × EndsEarly ts)
