use Rattle.std.proofs.Common.{◌<◌, ◌^◌, sym, subst}
use Rattle.sv_graph.specs.BitGraphs.{size, has_edge, IsOver, ClosesUpTo}
use Rattle.sv_graph.proofs.FollowFacts.{through_none}
use Rattle.sv_design.proofs.reads.follow_earlier.Goals as goal

pub returns-then-not-has_edges-clause-edges : goal.returns-then-not-has_edges-clause-edges
returns-then-not-has_edges-clause-edges c = λ a b below.
    let graph = c.args.graph.now in
    through_none (size graph) (has_edge graph) (has_edge c.args.earlier)
    (c.has_edges.ensures c.if-not-has_edges.true) a b below

pub close-requires-clause-few : goal.close-requires-clause-few
close-requires-clause-few c = subst (λ n. n < 2 ^ 32) (sym c.requires.earlier.0) c.requires.few

pub close-requires-clause-over : goal.close-requires-clause-over
close-requires-clause-over c =
    subst (λ n. IsOver n c.args.earlier) (sym c.requires.earlier.0) c.requires.earlier

pub follow-requires-clause-ways : goal.follow-requires-clause-ways
follow-requires-clause-ways c =
    subst (λ n. IsOver n c.close.new.self) c.requires.earlier.0 c.in_ok-close.ensures.over

pub returns-clause-edges : goal.returns-clause-edges
returns-clause-edges c =
    c.in_ok-follow.ensures.edges (has_edge c.args.earlier)
    (subst (λ n. ClosesUpTo n (has_edge c.args.earlier) (has_edge c.close.new.self) n)
    c.requires.earlier.0 c.in_ok-close.ensures.ways)
