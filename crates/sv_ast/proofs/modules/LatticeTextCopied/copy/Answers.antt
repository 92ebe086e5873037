use Rattle.std.proofs.Common.{◌≡◌, ℕ, List, map, ap, ◌∙◌}
use Rattle.sv_num.specs.declared.faults.Place.{Place}
use Rattle.sv_ast.specs.Tree.{PlacedName, PairTree, LatticeTree}
use Rattle.sv_ast.specs.Views.{placed_name, pair_tree}
use Rattle.sv_ast.proofs.MadeAlike.{made_alike}
use Rattle.sv_ast.proofs.modules.LatticeTextCopied.copy.Goals as goal

abbrev name_parts : List ℕ × Place → List ℕ × Place
name_parts n = (n.0, n.1)

abbrev pair_parts : List ℕ × Place × List ℕ × Place → List ℕ × Place × List ℕ × Place
pair_parts p = (p.0, p.1, p.2, p.3)

abbrev made : Place → List PlacedName → List PairTree → LatticeTree
made place points pairs = record { place = place; points = points; pairs = pairs }

pub returns : goal.returns
returns c =
    let place = c.args.self.now.place in
    let points = map placed_name c.args.self.now.points.items in
    let copied_pairs = map pair_tree c.in_ok-copy-2.field-0.items in
    ap (λ (xs : List PlacedName). made place xs copied_pairs)
    (made_alike placed_name name_parts _ _ c.in_ok-copy.ensures)
    ∙ ap (λ (xs : List PairTree). made place points xs)
    (made_alike pair_tree pair_parts _ _ c.in_ok-copy-2.ensures)
