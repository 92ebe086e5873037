-- What forms of statements, items and texts are forms of is shaped as the grammar gives it.
use Rattle.std.proofs.Common.{◌≡◌, ℕ, ◌+◌, Bool, true, false, not, ◌&&◌, ◌||◌, List, [], ◌∷◌}
use Rattle.std.proofs.Common.{flat_map, inl, inr, refl, sym, ap, subst, ◌∙◌, arith}
use Rattle.std.specs.Prelude.{IsTrue, nat_le}
use Rattle.std.specs.List.{list_all}
use Rattle.std.proofs.lemmas.Bool.{false≢true, and_from, and_parts}
use Rattle.std.proofs.lemmas.List.Folds.{list_all-append, list_all-map}
use Rattle.sv_num.specs.declared.faults.Place.{Place}
use Rattle.sv_token.specs.declared.signs.SignKind.TheVariants as signs
use Rattle.sv_token.specs.Lexemes.{Placed}
use Rattle.sv_ast.specs.declared.modules.Text.{Text}
use Rattle.sv_ast.specs.Views.{text_tree}
use Rattle.sv_ast.specs.Tree.{ExpressionTree, literal, named, Selection, whole, bit_at, part_from}
use Rattle.sv_ast.specs.Tree.{TargetTree, StatementTree, null, assignment, block, if_only, if_else}
use Rattle.sv_ast.specs.Tree.{case_of, StatementTrees, no_statements, more_statements, ArmTrees}
use Rattle.sv_ast.specs.Tree.{no_arms, more_arms}
use Rattle.sv_ast.specs.Tree.{ParameterTree, DeclarationTree, named_overrides, ordered_overrides}
use Rattle.sv_ast.specs.Tree.{named_links, ordered_links, InstanceTree}
use Rattle.sv_ast.specs.Tree.{ItemTree, parameter_item, continuous, released, always_item}
use Rattle.sv_ast.specs.Tree.{invariant_item, ModuleTree, TextTree}
use Rattle.sv_ast.specs.GrammarForms.{Form, ◌⨾◌, ◌or◌, given, nothing, optional, a_sign}
use Rattle.sv_ast.specs.GrammarForms.{in_parentheses, each, some, commas}
use Rattle.sv_ast.specs.GrammarExpressions.{Limits, IsExpression}
use Rattle.sv_ast.specs.GrammarDeclarations.{AreHeaderParameters, ArePorts}
use Rattle.sv_ast.specs.GrammarStatements.{IsSelection, IsTarget, only, AreTargets, IsArmHead}
use Rattle.sv_ast.specs.GrammarStatements.{is_default, IsStatement, AreStatements, AreArms}
use Rattle.sv_ast.specs.GrammarModules.{hash_parentheses, IsWholeTarget, IsContinuous, IsReleased}
use Rattle.sv_ast.specs.GrammarModules.{IsAlways, IsInvariant, IsNamedOverride, AreOverrides}
use Rattle.sv_ast.specs.GrammarModules.{IsNamedLink, AreLinks, IsNamedInstance, IsInstance}
use Rattle.sv_ast.specs.GrammarModules.{AreOfOneModule, AreInstances, all_as, IsListedItem, IsItem}
use Rattle.sv_ast.specs.GrammarModules.{IsModule, IsNumber, IsKeyRange, IsMap, IsText}
use Rattle.sv_ast.specs.GrammarRules.{TokensMean, all_limits}
use Rattle.sv_ast.specs.Shape.{is_shaped_expression, is_whole, is_shaped_selection, has_target}
use Rattle.sv_ast.specs.Shape.{is_shaped_target, has_arm, default_count, is_shaped_statement}
use Rattle.sv_ast.specs.Shape.{are_shaped_statements, are_shaped_arms, is_shaped_override}
use Rattle.sv_ast.specs.Shape.{are_shaped_overrides, is_shaped_link, are_shaped_links}
use Rattle.sv_ast.specs.Shape.{is_shaped_instance, is_port, is_shaped_parameter}
use Rattle.sv_ast.specs.Shape.{is_shaped_declaration, is_whole_target, is_shaped_item}
use Rattle.sv_ast.specs.Shape.{is_shaped_module, is_number, is_plain_span, is_shaped_map, is_shaped}
use Rattle.sv_parse_machine.proofs.ShapedForms.{Passes, all_listed, all_each, perhaps_passes}
use Rattle.sv_parse_machine.proofs.ShapedForms.{value_is_shaped, parameters_are_shaped}
use Rattle.sv_parse_machine.proofs.ShapedForms.{header_parameters_are_shaped, header_parameters_are_outer}
use Rattle.sv_parse_machine.proofs.ShapedForms.{ports_are_shaped, ports_are_ports, signals_are_shaped}
use Rattle.sv_parse_machine.proofs.ShapedForms.{memory_is_shaped}

values_are_shaped : (l : Limits) (n : ℕ) (es : List ExpressionTree) (ts r : List Placed)
    → commas (IsExpression l n) es ts r
    → IsTrue (list_all is_shaped_expression es)
values_are_shaped l n es ts r is =
    all_listed is_shaped_expression (value_is_shaped l n) (λ before known.
    value_is_shaped l n) es ts r is

-- ---- targets

selection_is_shaped : (l : Limits) (n : ℕ) → Passes is_shaped_selection (IsSelection l n)
selection_is_shaped l n whole ts r is = refl
selection_is_shaped l n (bit_at i) ts r is = value_is_shaped l n i _ _ is.2.1
selection_is_shaped l n (part_from high low) ts r is =
    and_from _ _ (value_is_shaped l n high _ _ is.2.1.1) (value_is_shaped l n low _ _ is.2.1.2.2)

target_is_shaped : (l : Limits) (n : ℕ) → Passes is_shaped_target (IsTarget l n)
target_is_shaped l n t ts r is = selection_is_shaped l n t.selection _ _ is.2

targets_pass : {P : TargetTree → Form} (test : TargetTree → Bool) → Passes test P
    → (us : List TargetTree) (ts r : List Placed) → AreTargets P us ts r
    → IsTrue (has_target us && list_all test us)
targets_pass test member [] ts r (inl one) = absurd one
targets_pass test member (u ∷ []) ts r (inl one) = and_from _ _ (member u ts r one) refl
targets_pass test member (u ∷ v ∷ us) ts r (inl one) = absurd one
targets_pass test member [] ts r (inr all) = absurd all.2.1
targets_pass test member (u ∷ us) ts r (inr all) =
    all_listed test member (λ before known. member) (u ∷ us) _ _ all.2.1

-- ---- statements

-- how many defaults may come behind a default, or none
abbrev further_defaults : (default : Bool) → ℕ
further_defaults true = 0
further_defaults false = 1

defaults : (l : Limits) (n before : ℕ) (default : Bool) (a : ArmTrees) (ts r : List Placed)
    → AreArms l n before default a ts r
    → IsTrue (nat_le (default_count a) (further_defaults default))
defaults l n before true no_arms ts r is = refl
defaults l n before false no_arms ts r is = refl
defaults l n before true (more_arms p [] s a) ts r is = absurd (false≢true is.1.1.0)
defaults l n before false (more_arms p [] s a) ts r is =
    let others = defaults l n (before + 1) true a _ _ is.1.2.2 in
    at_most (default_count a) others
  where
    at_most : (k : ℕ) → IsTrue (nat_le k 0) → IsTrue (nat_le (k + 1) 1)
    at_most k none = grind arith
defaults l n before true (more_arms p (e ∷ es) s a) ts r is =
    defaults l n (before + 1) true a _ _ is.1.2.2
defaults l n before false (more_arms p (e ∷ es) s a) ts r is =
    defaults l n (before + 1) false a _ _ is.1.2.2

items_are_shaped : (l : Limits) (n : ℕ) (default : Bool) (p : Place) (es : List ExpressionTree)
    (ts r : List Placed)
    → IsArmHead l n default p es ts r → IsTrue (list_all is_shaped_expression es)
items_are_shaped l n default p [] ts r is = refl
items_are_shaped l n default p (e ∷ es) ts r is = values_are_shaped l n (e ∷ es) _ _ is.2.1

some_arm : (l : Limits) (n : ℕ) (default : Bool) (a : ArmTrees) (ts r : List Placed) →
    AreArms l n 0 default a ts r → IsTrue (has_arm a)
some_arm l n default no_arms ts r is = is.0
some_arm l n default (more_arms p es s a) ts r is = refl

mutual
  statement_is_shaped : (l : Limits) (n : ℕ) (s : StatementTree) (ts r : List Placed) →
      IsStatement l n s ts r → IsTrue (is_shaped_statement s)
  statement_is_shaped l n null ts r is = refl
  statement_is_shaped l n (assignment us p b e) ts r is =
      and_from _ _ (targets_pass is_shaped_target (target_is_shaped l n) us _ _ is.1.1)
      (value_is_shaped l n e _ _ is.1.2.2.1)
  statement_is_shaped l n (block ss) ts r is = statements_are_shaped l (n + 1) ss _ _ is.1.2.2.1
  statement_is_shaped l n (if_only p c s) ts r is =
      and_from _ _ (value_is_shaped l (n + 1) c _ _ is.1.2.1.2.1)
      (statement_is_shaped l (n + 1) s _ _ is.1.2.2.1)
  statement_is_shaped l n (if_else p c s t) ts r is =
      and_from _ _ (and_from _ _ (value_is_shaped l (n + 1) c _ _ is.1.2.1.2.1)
      (statement_is_shaped l (n + 1) s _ _ is.1.2.2.1))
      (statement_is_shaped l (n + 1) t _ _ is.1.2.2.2.2)
  statement_is_shaped l n (case_of p e a) ts r is =
      let arms = is.1.2.2.1 in
      and_from _ _ (and_from _ _
      (and_from _ _ (value_is_shaped l (n + 1) e _ _ is.1.2.1.2.1)
      (some_arm l (n + 1) false a _ _ arms))
      (defaults l (n + 1) 0 false a _ _ arms))
      (arms_are_shaped l (n + 1) 0 false a _ _ arms)

  statements_are_shaped : (l : Limits) (n : ℕ) (ss : StatementTrees) (ts r : List Placed)
      → AreStatements l n ss ts r
      → IsTrue (are_shaped_statements ss)
  statements_are_shaped l n no_statements ts r is = refl
  statements_are_shaped l n (more_statements s ss) ts r is =
      and_from _ _ (statement_is_shaped l n s _ _ is.1) (statements_are_shaped l n ss _ _ is.2)

  arms_are_shaped : (l : Limits) (n before : ℕ) (default : Bool) (a : ArmTrees) (ts r : List Placed)
      → AreArms l n before default a ts r
      → IsTrue (are_shaped_arms a)
  arms_are_shaped l n before default no_arms ts r is = refl
  arms_are_shaped l n before default (more_arms p es s a) ts r is =
      and_from _ _ (and_from _ _ (items_are_shaped l n default p es _ _ is.1.1)
      (statement_is_shaped l n s _ _ is.1.2.1))
      (arms_are_shaped l n (before + 1) (default || is_default es) a _ _ is.1.2.2)

-- ---- instances

override_is_shaped : (l : Limits) → Passes is_shaped_override (IsNamedOverride l)
override_is_shaped l o ts r is = value_is_shaped l 0 o.value _ _ is.2.2.2.1

link_is_shaped : (l : Limits) → Passes is_shaped_link (IsNamedLink l)
link_is_shaped l k ts r is =
    perhaps_passes is_shaped_expression (value_is_shaped l 0) k.value _ _ is.2.2.2.1

overrides_are_shaped : (l : Limits) → Passes are_shaped_overrides (AreOverrides l)
overrides_are_shaped l (named_overrides os) ts r is =
    all_listed is_shaped_override (override_is_shaped l) (λ before known.
    override_is_shaped l) os _ _ is.2.2.1
overrides_are_shaped l (ordered_overrides []) ts r is = refl
overrides_are_shaped l (ordered_overrides (e ∷ es)) ts r is =
    values_are_shaped l 0 (e ∷ es) _ _ is.2.2.1

links_are_shaped : (l : Limits) → Passes are_shaped_links (AreLinks l)
links_are_shaped l (named_links ks) ts r is =
    all_listed is_shaped_link (link_is_shaped l) (λ before known. link_is_shaped l) ks ts r is
links_are_shaped l (ordered_links []) ts r is = refl
links_are_shaped l (ordered_links (e ∷ es)) ts r is = values_are_shaped l 0 (e ∷ es) ts r is

instance_is_shaped : (l : Limits) → Passes is_shaped_instance (IsInstance l)
instance_is_shaped l i ts r is =
    and_from _ _ (overrides_are_shaped l i.overrides _ _ is.2.1)
    (links_are_shaped l i.links _ _ is.2.2.2.2.1)

later_instance : (l : Limits) (before i : InstanceTree) (ts r : List Placed)
    → IsTrue (is_shaped_instance before)
    → AreOfOneModule before i → IsNamedInstance l i ts r
    → IsTrue (is_shaped_instance i)
later_instance l before i ts r known same is =
    and_from _ _ (ap are_shaped_overrides same.2 ∙ (and_parts _ _ known).0)
    (links_are_shaped l i.links _ _ is.2.2.1)

instances_are_shaped : (l : Limits) (xs : List InstanceTree) (ts r : List Placed) →
    AreInstances l xs ts r → IsTrue (list_all is_shaped_instance xs)
instances_are_shaped l xs ts r is = all_listed is_shaped_instance (instance_is_shaped l)
    (λ before known i us s one. later_instance l before i us s known one.0 one.1) xs ts r is

-- ---- items

all_as_pass : {A : Type 0} {as_item : A → ItemTree} {P : List A → Form}
    → ((xs : List A) (ts r : List Placed) → P xs ts r
    → IsTrue (list_all (λ x. is_shaped_item (as_item x)) xs))
    → (items : List ItemTree) (ts r : List Placed) → all_as as_item P items ts r
    → IsTrue (list_all is_shaped_item items)
all_as_pass {as_item = as_item} member items ts r is =
    subst (λ ys. IsTrue (list_all is_shaped_item ys)) (sym is.1)
    (list_all-map is_shaped_item as_item is.0 ∙ member is.0 ts r is.2)

only_pass : {A : Type 0} {P : A → Form} (test : A → Bool) → Passes test P
    → (xs : List A) (ts r : List Placed) → only P xs ts r
    → IsTrue (list_all test xs)
only_pass test member [] ts r is = absurd is
only_pass test member (a ∷ b ∷ xs) ts r is = absurd is
only_pass test member (a ∷ []) ts r is = and_from _ _ (member a ts r is) refl

whole_target : (s : Selection) → s ≡ whole → IsTrue (is_whole s)
whole_target s same = ap is_whole same

continuous_is_shaped : (l : Limits) → Passes is_shaped_item (IsContinuous l)
continuous_is_shaped l (continuous us p e) ts r is =
    and_from _ _ (targets_pass {P = IsWholeTarget} is_whole_target (λ u vs s one.
    whole_target u.selection one.0) us _ _ is.1.1)
    (value_is_shaped l 0 e _ _ is.1.2.2)
continuous_is_shaped l (parameter_item q) ts r is = absurd is
continuous_is_shaped l _ ts r is = absurd is

released_is_shaped : (l : Limits) → Passes is_shaped_item (IsReleased l)
released_is_shaped l (released t e x) ts r is = value_is_shaped l 0 e _ _ is.2.2.2.2.2.1.1
released_is_shaped l (parameter_item q) ts r is = absurd is
released_is_shaped l _ ts r is = absurd is

always_is_shaped : (l : Limits) → Passes is_shaped_item (IsAlways l)
always_is_shaped l (always_item p x s) ts r is = statement_is_shaped l 0 s _ _ is.2.2.2
always_is_shaped l (parameter_item q) ts r is = absurd is
always_is_shaped l _ ts r is = absurd is

invariant_is_shaped : (l : Limits) → Passes is_shaped_item (IsInvariant l)
invariant_is_shaped l (invariant_item p e) ts r is = value_is_shaped l 0 e _ _ is.1.2
invariant_is_shaped l (parameter_item q) ts r is = absurd is
invariant_is_shaped l _ ts r is = absurd is

listed_item_is_shaped : (l : Limits) (xs : List ItemTree) (ts r : List Placed) →
    IsListedItem l xs ts r → IsTrue (list_all is_shaped_item xs)
listed_item_is_shaped l xs ts r (inl is) = all_as_pass (parameters_are_shaped l) xs ts r is
listed_item_is_shaped l xs ts r (inr (inl is)) = all_as_pass (signals_are_shaped l) xs ts r is
listed_item_is_shaped l xs ts r (inr (inr (inl is))) =
    all_as_pass (only_pass _ (memory_is_shaped l)) xs ts r is
listed_item_is_shaped l xs ts r (inr (inr (inr (inl is)))) =
    all_listed is_shaped_item (continuous_is_shaped l) (λ before known.
    continuous_is_shaped l) xs _ _ is.2
listed_item_is_shaped l xs ts r (inr (inr (inr (inr (inl is))))) =
    only_pass is_shaped_item (released_is_shaped l) xs ts r is
listed_item_is_shaped l xs ts r (inr (inr (inr (inr (inr (inl is)))))) =
    only_pass is_shaped_item (invariant_is_shaped l) xs ts r is
listed_item_is_shaped l xs ts r (inr (inr (inr (inr (inr (inr is)))))) =
    all_as_pass (instances_are_shaped l) xs ts r is

item_is_shaped : (l : Limits) (xs : List ItemTree) (ts r : List Placed) → IsItem l xs ts r →
    IsTrue (list_all is_shaped_item xs)
unfolding IsItem
item_is_shaped l xs ts r is = either is
  where
    either : (only (IsAlways l) xs or (IsListedItem l xs ⨾ a_sign signs.Semicolon)) ts r →
        IsTrue (list_all is_shaped_item xs)
    either (inl one) = only_pass is_shaped_item (always_is_shaped l) xs ts r one
    either (inr one) = listed_item_is_shaped l xs _ _ one.1

groups_are_shaped : (l : Limits) (groups : List (List ItemTree)) (ts r : List Placed)
    → each (IsItem l) groups ts r
    → IsTrue (list_all is_shaped_item (flat_map (λ group. group) groups))
groups_are_shaped l [] ts r is = refl
groups_are_shaped l (group ∷ groups) ts r is =
    list_all-append is_shaped_item group _
    ∙ and_from _ _ (item_is_shaped l group _ _ is.1) (groups_are_shaped l groups _ _ is.2)

-- ---- modules, label maps and texts

-- no parameters or ports, or those of a list
none_or_all : {A : Type 0} (P Q : Form) (test : A → Bool) (xs : List A) (ts r : List Placed)
    → ((us s : List Placed) → Q us s → IsTrue (list_all test xs))
    → (given (xs ≡ []) P or Q) ts r → IsTrue (list_all test xs)
none_or_all P Q test xs ts r all (inl none) = ap (list_all test) none.0
none_or_all P Q test xs ts r all (inr those) = all ts r those

module_is_shaped : (l : Limits) → Passes is_shaped_module (IsModule l)
unfolding IsModule
module_is_shaped l m ts r is =
    let header = is.1.2.2 in
    let parameters = header.1 in
    let ports = header.2.1 in
    let items = is.2.1 in
    and_from _ _ (and_from _ _ (and_from _ _ (and_from _ _
    (of_parameters (λ q. not q.local) (header_parameters_are_outer l m.parameters) parameters)
    (of_parameters is_shaped_parameter (header_parameters_are_shaped l m.parameters) parameters))
    (of_ports is_port (ports_are_ports l m.ports) ports))
    (of_ports is_shaped_declaration (ports_are_shaped l m.ports) ports))
    (subst (λ xs. IsTrue (list_all is_shaped_item xs)) (sym items.1)
    (groups_are_shaped l items.0 _ _ items.2))
  where
    of_parameters : {us s : List Placed} (test : ParameterTree → Bool)
        → ((vs w : List Placed) → AreHeaderParameters l m.parameters vs w
        → IsTrue (list_all test m.parameters))
        → (given (m.parameters ≡ []) nothing
        or hash_parentheses (AreHeaderParameters l m.parameters)) us s
        → IsTrue (list_all test m.parameters)
    of_parameters test all one =
        none_or_all nothing (hash_parentheses (AreHeaderParameters l m.parameters)) test
        m.parameters _ _ (λ vs w those. all _ _ those.2.2.1) one

    of_ports : {us s : List Placed} (test : DeclarationTree → Bool)
        → ((vs w : List Placed) → ArePorts l m.ports vs w → IsTrue (list_all test m.ports))
        → (given (m.ports ≡ []) (optional (in_parentheses nothing))
        or in_parentheses (ArePorts l m.ports)) us s → IsTrue (list_all test m.ports)
    of_ports test all one =
        none_or_all (optional (in_parentheses nothing)) (in_parentheses (ArePorts l m.ports)) test
        m.ports _ _ (λ vs w those. all _ _ those.2.1) one

number_is_number : Passes is_number IsNumber
number_is_number (literal v p) ts r is = refl
number_is_number (named x p) ts r is = absurd is
number_is_number _ ts r is = absurd is

key_range_is_plain : Passes is_plain_span IsKeyRange
key_range_is_plain s ts r is =
    and_from _ _ (number_is_number s.high _ _ is.2.1.1) (number_is_number s.low _ _ is.2.1.2.2)

map_is_shaped : Passes is_shaped_map IsMap
unfolding IsMap
map_is_shaped m ts r is =
    and_from _ _ (key_range_is_plain m.span _ _ is.2.2.1)
    (perhaps_passes is_plain_span key_range_is_plain m.second _ _ is.2.2.2.1)

modules_are_shaped : (l : Limits) (ms : List ModuleTree) (ts r : List Placed) →
    some (IsModule l) ms ts r → IsTrue (list_all is_shaped_module ms)
modules_are_shaped l [] ts r is = absurd is
modules_are_shaped l (m ∷ ms) ts r is =
    and_from _ _ (module_is_shaped l m _ _ is.1)
    (all_each is_shaped_module (module_is_shaped l) ms _ _ is.2)

-- a tree that tokens mean is shaped
pub tree_is_shaped : (tokens : List Placed) (t : TextTree) → TokensMean tokens t →
    IsTrue (is_shaped t)
unfolding IsText
tree_is_shaped tokens t is =
    and_from _ _ (all_each is_shaped_map map_is_shaped t.maps _ _ is.2.1)
    (modules_are_shaped all_limits t.modules _ _ is.2.2)

-- and so is a text with this tree
pub text_is_shaped : (tokens : List Placed) (text : Text) → TokensMean tokens (text_tree text) →
    IsTrue (is_shaped (text_tree text))
text_is_shaped tokens text is = tree_is_shaped tokens (text_tree text) is
