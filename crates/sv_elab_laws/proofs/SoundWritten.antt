-- The numbers that are written in a text that was read have 1 to 64 bits, and fit them.
use Rattle.std.proofs.Common.{List, ◌++◌, map, Option, Some, None, sym, subst, ⊎_elim}
use Rattle.std.specs.Prelude.{Contains, option_map}
use Rattle.sv_system.proofs.Lists.{Contains-from_map}
use Rattle.sv_ast.specs.declared.expressions.Expr.{Expr}
use Rattle.sv_ast.specs.declared.modules.Item.{Item}
use Rattle.sv_ast.specs.declared.modules.Item.TheVariants as item
use Rattle.sv_ast.specs.declared.modules.Links.{Links}
use Rattle.sv_ast.specs.declared.modules.Links.TheVariants as links
use Rattle.sv_ast.specs.declared.modules.Module.{Module}
use Rattle.sv_ast.specs.declared.modules.Overrides.{Overrides}
use Rattle.sv_ast.specs.declared.modules.Overrides.TheVariants as overrides
use Rattle.sv_ast.specs.declared.modules.Text.{Text}
use Rattle.sv_ast.specs.Tree.{ParameterTree, DeclarationTree, parameter_item, declared}
use Rattle.sv_ast.specs.Tree.{NamedOverride, NamedLink, ModuleTree}
use Rattle.sv_ast.specs.Views.{expression_tree, expression_trees}
use Rattle.sv_ast.specs.Views.{declaration_tree, parameter_tree, named_override}
use Rattle.sv_ast.specs.Views.{override_trees, named_link, link_trees, item_tree, module_tree}
use Rattle.sv_ast.specs.Views.{text_tree}
use Rattle.sv_width.specs.Agreement.{NumbersHaveLengths}
use Rattle.sv_width.proofs.Ends.{expression_lengths}
use Rattle.sv_width.proofs.StatementLengths.{statement_lengths}
use Rattle.sv_elab_laws.specs.FlattenedTexts.{ItemNumbersFit, EachItem}
use Rattle.sv_width.specs.WrittenLengths.{AllHaveLengths}
use Rattle.sv_width.specs.WrittenLengths.{ValueHasLengths, OverridesHaveLengths, LinksHaveLengths}
use Rattle.sv_width.specs.WrittenLengths.{ItemHasLengths, ModuleHasLengths, TextHasLengths}
use Rattle.sv_flat.proofs.Members.{Contains-either as contains_either}
use Rattle.sv_elab_laws.proofs.WrittenNumbers.{selectors_fit}

value_lengths : (o : Option Expr) → ValueHasLengths (option_map expression_tree o)
value_lengths (Some e) = expression_lengths e
value_lengths None = tt

all_lengths : (es : List Expr) → AllHaveLengths (expression_trees es)
all_lengths es x at =
    let e = Contains-from_map expression_tree es x at in
    subst NumbersHaveLengths e.2 (expression_lengths e.0)

override_lengths : (os : Overrides) → OverridesHaveLengths (override_trees os)
override_lengths (overrides.Named os) = λ o at.
    let x = Contains-from_map named_override os.items o at in
    subst (λ (z : NamedOverride). NumbersHaveLengths z.value) x.2 (expression_lengths x.0.2)
override_lengths (overrides.Ordered es) = all_lengths es.items

link_lengths : (ls : Links) → LinksHaveLengths (link_trees ls)
link_lengths (links.Named ls) = λ l at.
    let x = Contains-from_map named_link ls.items l at in
    subst (λ (z : NamedLink). ValueHasLengths z.value) x.2 (value_lengths x.0.2)
link_lengths (links.Ordered es) = all_lengths es.items

item_lengths : (i : Item) → ItemHasLengths (item_tree i)
item_lengths (item.Param p) = expression_lengths p.value
item_lengths (item.Decl d) = value_lengths d.value
item_lengths (item.Memory m) = tt
item_lengths (item.Assign targets place value) = expression_lengths value
item_lengths (item.Release target place value point point_place) = expression_lengths value
item_lengths (item.Always place clock body) = statement_lengths body
item_lengths (item.Invariant place e) = tt
item_lengths (item.Instance i) = (override_lengths i.overrides, link_lengths i.links)

module_lengths : (m : Module) → ModuleHasLengths (module_tree m)
module_lengths m x at =
    let parameters = map parameter_item (map parameter_tree m.params.items) in
    let ports = map declared (map declaration_tree m.ports.items) in
    ⊎_elim
    (λ header. ⊎_elim
    (λ mine.
    let p = Contains-from_map parameter_item (map parameter_tree m.params.items) x mine in
    let q = Contains-from_map parameter_tree m.params.items p.0 p.1 in
    subst ItemHasLengths p.2 (subst (λ (z : ParameterTree). NumbersHaveLengths z.value) q.2
    (expression_lengths q.0.value)))
    (λ port.
    let d = Contains-from_map declared (map declaration_tree m.ports.items) x port in
    let e = Contains-from_map declaration_tree m.ports.items d.0 d.1 in
    subst ItemHasLengths d.2 (subst (λ (z : DeclarationTree). ValueHasLengths z.value) e.2
    (value_lengths e.0.value)))
    (contains_either parameters ports x header))
    (λ inside. let i = Contains-from_map item_tree m.items.items x inside in
    subst ItemHasLengths i.2 (item_lengths i.0))
    (contains_either (parameters ++ ports) (map item_tree m.items.items) x at)

pub text_lengths : (text : Text) → TextHasLengths (text_tree text)
text_lengths text m at =
    let x = Contains-from_map module_tree text.modules.items m at in
    subst ModuleHasLengths x.2 (module_lengths x.0)

item_fits : (i : Item) → ItemNumbersFit (item_tree i)
item_fits (item.Always place clock body) = selectors_fit body
item_fits (item.Param p) = tt
item_fits (item.Decl d) = tt
item_fits (item.Memory m) = tt
item_fits (item.Assign targets place value) = tt
item_fits (item.Release target place value point point_place) = tt
item_fits (item.Invariant place e) = tt
item_fits (item.Instance i) = tt

pub text_fits : (text : Text) → EachItem ItemNumbersFit (text_tree text)
text_fits text m at x inside =
    let n = Contains-from_map module_tree text.modules.items m at in
    let i = Contains-from_map item_tree n.0.items.items x
    (subst (λ (z : ModuleTree). Contains z.items x) (sym n.2) inside) in
    subst ItemNumbersFit i.2 (item_fits i.0)
