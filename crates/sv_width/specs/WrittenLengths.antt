-- Numbers that are written with 1 to 64 bits, as those that are read are (IEEE 1364-2005, clause
-- 3.5.1; the limit is this project's profile).
use Rattle.std.specs.Prelude.{List, [], ◌∷◌, Option, Some, None, Contains}
use Rattle.sv_ast.specs.Tree.{ExpressionTree, StatementTree, null, assignment, block, if_only}
use Rattle.sv_ast.specs.Tree.{if_else, case_of, StatementTrees, no_statements, more_statements}
use Rattle.sv_ast.specs.Tree.{ArmTrees, no_arms, more_arms, NamedOverride, OverrideTrees}
use Rattle.sv_ast.specs.Tree.{named_overrides, ordered_overrides, NamedLink, LinkTrees, named_links}
use Rattle.sv_ast.specs.Tree.{ordered_links, ItemTree, parameter_item, declared, continuous}
use Rattle.sv_ast.specs.Tree.{released, always_item, instance_item, ModuleTree, TextTree}
use Rattle.sv_ast.specs.Instances.{all_items}
use Rattle.sv_width.specs.Agreement.{NumbersHaveLengths}

abbrev pub ItemsHaveLengths : List ExpressionTree → Type 0
ItemsHaveLengths [] = Unit {0}
ItemsHaveLengths (e ∷ es) = NumbersHaveLengths e × ItemsHaveLengths es

abbrev mutual
  -- the numbers in right sides, conditions, selectors and items of a statement
  pub StatementHasLengths : StatementTree → Type 0
  StatementHasLengths null = Unit {0}
  StatementHasLengths (assignment ts p blocking e) = NumbersHaveLengths e
  StatementHasLengths (block ss) = StatementsHaveLengths ss
  StatementHasLengths (if_only p c a) = NumbersHaveLengths c × StatementHasLengths a
  StatementHasLengths (if_else p c a b) =
      NumbersHaveLengths c × StatementHasLengths a × StatementHasLengths b
  StatementHasLengths (case_of p e arms) = NumbersHaveLengths e × ArmsHaveLengths arms

  pub StatementsHaveLengths : StatementTrees → Type 0
  StatementsHaveLengths no_statements = Unit {0}
  StatementsHaveLengths (more_statements s ss) = StatementHasLengths s × StatementsHaveLengths ss

  pub ArmsHaveLengths : ArmTrees → Type 0
  ArmsHaveLengths no_arms = Unit {0}
  ArmsHaveLengths (more_arms p items body arms) =
      ItemsHaveLengths items × StatementHasLengths body × ArmsHaveLengths arms

abbrev pub AllHaveLengths : List ExpressionTree → Type 0
AllHaveLengths es = (e : ExpressionTree) → Contains es e → NumbersHaveLengths e

abbrev pub ValueHasLengths : Option ExpressionTree → Type 0
ValueHasLengths None = Unit {0}
ValueHasLengths (Some e) = NumbersHaveLengths e

abbrev pub OverridesHaveLengths : OverrideTrees → Type 0
OverridesHaveLengths (named_overrides os) =
    (o : NamedOverride) → Contains os o → NumbersHaveLengths o.value
OverridesHaveLengths (ordered_overrides es) = AllHaveLengths es

abbrev pub LinksHaveLengths : LinkTrees → Type 0
LinksHaveLengths (named_links ls) = (l : NamedLink) → Contains ls l → ValueHasLengths l.value
LinksHaveLengths (ordered_links es) = AllHaveLengths es

-- the numbers in what an item gives a value
abbrev pub ItemHasLengths : ItemTree → Type 0
ItemHasLengths (parameter_item p) = NumbersHaveLengths p.value
ItemHasLengths (declared d) = ValueHasLengths d.value
ItemHasLengths (continuous ts p e) = NumbersHaveLengths e
ItemHasLengths (released target e to) = NumbersHaveLengths e
ItemHasLengths (always_item p clock s) = StatementHasLengths s
ItemHasLengths (instance_item i) = OverridesHaveLengths i.overrides × LinksHaveLengths i.links
ItemHasLengths _ = Unit {0}

abbrev pub ModuleHasLengths : ModuleTree → Type 0
ModuleHasLengths m = (item : ItemTree) → Contains (all_items m) item → ItemHasLengths item

abbrev pub TextHasLengths : TextTree → Type 0
TextHasLengths text = (m : ModuleTree) → Contains text.modules m → ModuleHasLengths m
