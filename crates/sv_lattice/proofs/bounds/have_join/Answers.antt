use Rattle.std.proofs.Common.{eqb, ℕ, List}
use Rattle.std.proofs.lemmas.Bool.Decides.{Decides-eqb}
use Rattle.std.proofs.lemmas.List.Elements.{contains_decides, Decides-contains}
use Rattle.std.specs.List.{Contains}
use Rattle.std.specs.Bool.{Decides}
use Rattle.sv_lattice.proofs.BoundLemmas.{uppers, contained, joined}
use Rattle.sv_lattice.proofs.bounds.have_join.Goals as goal

pub returns : goal.returns
returns c =
    let table : List ℕ = c.args.table.now in
    let within = c.requires.within in
    let order = c.requires.preorder in
    let row : ℕ = uppers table within order c.args.first c.args.second c.requires.first
    c.requires.second in
    let found : Decides c.contains.result (Contains table row) =
    Decides-contains table row c.contains.result
    (contains_decides eqb Decides-eqb table row c.contains.result c.contains.ensures.cases) in (
      λ h. joined table within order c.args.first c.args.second c.requires.first c.requires.second
          (found.0 h),
      λ join. found.1 (contained table within order c.args.first c.args.second c.requires.first
          c.requires.second join),
    )
