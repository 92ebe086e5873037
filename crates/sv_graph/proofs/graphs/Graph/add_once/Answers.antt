use Rattle.std.proofs.Common.{◌≡◌, sym, ap, ◌∙◌}
use Rattle.sv_graph.specs.Graphs.{ends_in, row}
use Rattle.sv_graph.specs.Numbers.{numbers}
use Rattle.sv_graph.proofs.GraphFacts.{once_ended, once_added, row_is}
use Rattle.sv_graph.proofs.graphs.Graph.add_once.Goals as goal

pub returns-then-ends_in-clause-adds : goal.returns-then-ends_in-clause-adds
returns-then-ends_in-clause-adds c =
    let is : numbers c.as_slice-row.result.now ≡ row c.args.self.now c.args.from.0 =
    ap numbers c.as_slice-row.ensures.value
    ∙ row_is c.args.self.now c.args.from.0 c.index.result.now c.requires c.index.ensures in
    once_ended c.args.self.now c.args.self.now c.args.from.0 c.args.to.0
    (ap (λ r. ends_in r c.args.to.0) (sym is) ∙ sym c.ends_in.ensures ∙ c.if-ends_in.true)

pub returns-clause-adds : goal.returns-clause-adds
returns-clause-adds c =
    let is : numbers c.as_slice-row.result.now ≡ row c.args.self.now c.args.from.0 =
    ap numbers c.as_slice-row.ensures.value
    ∙ row_is c.args.self.now c.args.from.0 c.index.result.now c.requires c.index.ensures in
    once_added c.args.self.now c.add.new.self c.args.from.0 c.args.to.0
    (ap (λ r. ends_in r c.args.to.0) (sym is) ∙ sym c.ends_in.ensures ∙ c.if-ends_in.false)
    c.in_ok-add.ensures.adds
