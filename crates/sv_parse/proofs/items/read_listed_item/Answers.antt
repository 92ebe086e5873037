use Rattle.std.proofs.Common.{List, map, inl, inr}
use Rattle.std.specs.Prelude.{Result, IfOk}
use Rattle.std.proofs.lemmas.Result.{IfOk-weaker}
use Rattle.sv_token.specs.Lexemes.{Placed, placed_tokens}
use Rattle.sv_parse_expr.specs.Parses.{placed}
use Rattle.sv_ast.specs.Tree as tree
use Rattle.sv_ast.specs.Tree.{ItemTree}
use Rattle.sv_ast.specs.Views.{item_tree}
use Rattle.sv_ast.specs.GrammarForms.{Form, ◌or◌}
use Rattle.sv_ast.specs.GrammarStatements.{only}
use Rattle.sv_ast.specs.GrammarDeclarations.{AreParameters, AreSignals, IsMemory}
use Rattle.sv_ast.specs.GrammarModules.{all_as, AreContinuous, IsReleased, IsInvariant}
use Rattle.sv_ast.specs.GrammarModules.{AreInstances, IsListedItem}
use Rattle.sv_ast.specs.GrammarRules.{all_limits}
use Rattle.sv_parse.proofs.items.read_listed_item.Goals as goal

-- items of one form are items that stand up to a `;`
listed_as : {X E : Type 0} (r : Result X E) (items : X → List ItemTree) (behind : X → List Placed)
    (ts : List Placed) (P : List ItemTree → Form)
    → ((is : List ItemTree) (us : List Placed) → P is ts us → IsListedItem all_limits is ts us)
    → IfOk r (λ x. P (items x) ts (behind x))
    → IfOk r (λ x. IsListedItem all_limits (items x) ts (behind x))
listed_as r items behind ts P follows read =
    IfOk-weaker r (λ x. P (items x) ts (behind x))
    (λ x. IsListedItem all_limits (items x) ts (behind x))
    (λ x is. follows (items x) (behind x) is) read

abbrev AreRegisters : List ItemTree → Form
AreRegisters is =
    all_as tree.declared (AreSignals all_limits) is
    or all_as tree.memory_item (only (IsMemory all_limits)) is

of_registers : (ts : List Placed) (is : List ItemTree) (rest : List Placed) →
    AreRegisters is ts rest → IsListedItem all_limits is ts rest
of_registers ts is rest (inl signals) = inr (inl signals)
of_registers ts is rest (inr memory) = inr (inr (inl memory))

abbrev AreAssigned : List ItemTree → Form
AreAssigned is = AreContinuous all_limits is or only (IsReleased all_limits) is

of_assigned : (ts : List Placed) (is : List ItemTree) (rest : List Placed) →
    AreAssigned is ts rest → IsListedItem all_limits is ts rest
of_assigned ts is rest (inl assigned) = inr (inr (inr (inl assigned)))
of_assigned ts is rest (inr released) = inr (inr (inr (inr (inl released))))

pub returns-in-Word-Parameter-clause-is : goal.returns-in-Word-Parameter-clause-is
returns-in-Word-Parameter-clause-is c =
    listed_as c.read_params.result (λ x. map item_tree x.0.items)
    (λ x. placed_tokens c.args.input.bytes.now x.1.now) (placed c.args.input)
    (all_as tree.parameter_item (AreParameters all_limits)) (λ is rest h. inl h)
    c.read_params.ensures.is

pub returns-in-Word-Wire-clause-is : goal.returns-in-Word-Wire-clause-is
returns-in-Word-Wire-clause-is c =
    listed_as c.read_wires.result (λ x. map item_tree x.0.items)
    (λ x. placed_tokens c.args.input.bytes.now x.1.now) (placed c.args.input)
    (all_as tree.declared (AreSignals all_limits)) (λ is rest h. inr (inl h))
    c.read_wires.ensures.is

pub returns-in-Word-Reg-clause-is : goal.returns-in-Word-Reg-clause-is
returns-in-Word-Reg-clause-is c =
    listed_as c.read_registers.result (λ x. map item_tree x.0.items)
    (λ x. placed_tokens c.args.input.bytes.now x.1.now) (placed c.args.input)
    AreRegisters (of_registers _) c.read_registers.ensures.is

pub returns-in-Word-Assign-clause-is : goal.returns-in-Word-Assign-clause-is
returns-in-Word-Assign-clause-is c =
    listed_as c.read_assigned.result (λ x. map item_tree x.0.items)
    (λ x. placed_tokens c.args.input.bytes.now x.1.now) (placed c.args.input)
    AreAssigned (of_assigned _) c.read_assigned.ensures.is

pub returns-in-Word-Invariant-clause-is : goal.returns-in-Word-Invariant-clause-is
returns-in-Word-Invariant-clause-is c =
    listed_as c.read_invariant.result (λ x. map item_tree x.0.items)
    (λ x. placed_tokens c.args.input.bytes.now x.1.now) (placed c.args.input)
    (only (IsInvariant all_limits)) (λ is rest h. inr (inr (inr (inr (inr (inl h))))))
    c.read_invariant.ensures.is

pub returns-in-Name-clause-is : goal.returns-in-Name-clause-is
returns-in-Name-clause-is c =
    listed_as c.read_instances.result (λ x. map item_tree x.0.items)
    (λ x. placed_tokens c.args.input.bytes.now x.1.now) (placed c.args.input)
    (all_as tree.instance_item (AreInstances all_limits))
    (λ is rest h. inr (inr (inr (inr (inr (inr h)))))) c.read_instances.ensures.is
