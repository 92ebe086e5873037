-- Private: how the code goes. What a function that reads ensures, a word for each clause: of the
-- input that it is handed, and of what it gives back, an item with the tokens that are left, or a
-- stop.
use Rattle.std.specs.Prelude.{◌≡◌, ℕ, ◌-◌, ◌<◌, ◌≤◌, List, length, map, Result, IfOk, IfErr}
use Rattle.std.specs.Borrow.{Bor}
use Rattle.std.specs.Global.{Vec}
use Rattle.sv_token.specs.declared.tokens.Token.{Token}
use Rattle.sv_token.specs.Lexemes.{Placed, placed_tokens}
use Rattle.sv_ast.specs.GrammarForms.{Form}
use Rattle.sv_parse_machine.specs.Symbols.{Inner, Outer, State}
use Rattle.sv_parse_machine.specs.Machine.{inside_on, outside_on}
use Rattle.sv_parse_machine.specs.Reads.{Reads}
use Rattle.sv_parse_expr.specs.declared.stop.Input.{Input}
use Rattle.sv_parse_expr.specs.declared.stop.Stop.{Stop}
use Rattle.sv_parse_expr.specs.declared.stop.Stop.TheVariants.{OutOfMemory}
use Rattle.sv_parse_expr.specs.Expectations.{HaltsAs}

-- ---- the input

-- the tokens that are left, as the grammar has them
abbrev pub placed : Input → List Placed
placed input = placed_tokens input.bytes.now input.rest.now

-- the tokens, as those that are left of a text of the bytes: for a function that is handed tokens
-- alone
abbrev pub in_text : (bytes : List ℕ) → (tokens : List Token) → Input
in_text bytes tokens = record {
  bytes = record { ref_ptr = (0, 0); now = bytes };
  rest = record { ref_ptr = (0, 0); now = tokens };
}

-- ---- up to some of the tokens

-- the form stands from the tokens of the input up to the rest
abbrev pub Stands : Form → Input → (rest : List Token) → Type 0
Stands form input rest = form (placed input) (placed_tokens input.bytes.now rest)

-- reading these symbols comes to reading those
abbrev pub Comes : (xs ys : List Outer) → Input → (rest : List Token) → Type 0
Comes xs ys input rest =
    Reads (outside_on xs) (outside_on ys) (placed input) (placed_tokens input.bytes.now rest)

-- ---- an item is given

-- its form stands up to the tokens that are left
abbrev pub GivesAs : {A : Type 0} → Result (A × Bor (List Token)) Stop → Input → (A → Form) → Type 0
GivesAs result input form = IfOk result (λ x. Stands (form x.0) input x.1.now)

-- likewise the form of its tree
abbrev pub Gives : {A B : Type 0} → Result (A × Bor (List Token)) Stop → Input → (A → B) →
    (B → Form) → Type 0
Gives result input tree form = IfOk result (λ x. Stands (form (tree x.0)) input x.1.now)

-- likewise the form of the trees of several
abbrev pub GivesAll : {A B : Type 0} → Result (Vec A × Bor (List Token)) Stop → Input → (A → B) →
    (List B → Form) → Type 0
GivesAll result input tree form =
    IfOk result (λ x. Stands (form (map tree x.0.items)) input x.1.now)

-- fewer tokens are left
abbrev pub Shortens : {A : Type 0} → Result (A × Bor (List Token)) Stop → Input → Type 0
Shortens result input = IfOk result (λ x. length x.1.now < length input.rest.now)

-- no more tokens are left
abbrev pub NoLonger : {A : Type 0} → Result (A × Bor (List Token)) Stop → Input → Type 0
NoLonger result input = IfOk result (λ x. length x.1.now ≤ length input.rest.now)

-- reading these symbols comes to reading those, with the tokens that are left
abbrev pub LeadsBy : {A : Type 0} → Result (A × Bor (List Token)) Stop → Input → (xs ys : State) →
    Type 0
LeadsBy result input xs ys =
    IfOk result (λ x. Reads xs ys (placed input) (placed_tokens input.bytes.now x.1.now))

-- likewise symbols around expressions
abbrev pub Leads : {A : Type 0} → Result (A × Bor (List Token)) Stop → Input →
    (xs ys : List Outer) → Type 0
Leads result input xs ys = LeadsBy result input (outside_on xs) (outside_on ys)

-- likewise symbols of an expression that has none of the last `beyond` tokens
abbrev pub LeadsIn : {A : Type 0} → Result (A × Bor (List Token)) Stop → Input → (beyond : ℕ) →
    (xs ys : List Inner) → Type 0
LeadsIn result input beyond xs ys =
    (start : ℕ) → beyond ≡ start - 1024 →
    LeadsBy result input (inside_on start xs) (inside_on start ys)

-- ---- reading stops

-- these symbols fail on the tokens as the stop says
abbrev pub HaltsBy : {A : Type 0} → Result A Stop → Input → State → Type 0
HaltsBy result input xs = IfErr result (λ e. HaltsAs xs (placed input) e)

-- likewise symbols around expressions
abbrev pub HaltsOn : {A : Type 0} → Result A Stop → Input → List Outer → Type 0
HaltsOn result input xs = HaltsBy result input (outside_on xs)

-- likewise symbols of an expression that has none of the last `beyond` tokens
abbrev pub HaltsIn : {A : Type 0} → Result A Stop → Input → (beyond : ℕ) → List Inner → Type 0
HaltsIn result input beyond xs =
    (start : ℕ) → beyond ≡ start - 1024 → HaltsBy result input (inside_on start xs)

-- it takes no memory, so none runs out
abbrev pub TakesNoMemory : {A : Type 0} → Result A Stop → Type 0
TakesNoMemory result = IfErr result (λ e. e ≡ OutOfMemory → ⊥)
