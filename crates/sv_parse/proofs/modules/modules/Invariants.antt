use Rattle.std.proofs.Common.{◌≡◌, ◌<◌, [], ◌∷◌, length, map}
use Rattle.sv_token.specs.Lexemes.{placed_tokens}
use Rattle.sv_parse_expr.specs.Parses.{placed}
use Rattle.sv_ast.specs.Tree.{ModuleTree}
use Rattle.sv_ast.specs.Views.{module_tree}
use Rattle.sv_ast.specs.GrammarModules.{IsModule}
use Rattle.sv_ast.specs.GrammarRules.{all_limits}
use Rattle.sv_parse_machine.specs.Symbols.{outer, one_module}
use Rattle.sv_parse_machine.specs.Machine.{run}
use Rattle.sv_parse.proofs.ReadingItems.{AreOpenEach}
use Rattle.sv_parse.proofs.modules.modules.Given as goal

abbrev pub invariant-loop-rest : goal.invariant-loop-rest
invariant-loop-rest l = record {
  are : AreOpenEach ModuleTree (IsModule all_limits) (map module_tree l.modules.items)
      (placed l.input) (placed_tokens l.input.bytes.now l.rest);
  some : 0 < length l.modules.items;
  runs : run all_limits (outer one_module ∷ []) (placed l.input) ≡
      run all_limits [] (placed_tokens l.input.bytes.now l.rest);
}

abbrev pub decreases-loop-rest : goal.decreases-loop-rest
decreases-loop-rest l = length l.rest
