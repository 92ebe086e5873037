use Rattle.std.proofs.Common.{◌≡◌, ◌&&◌, ◌||◌, ◌==◌, nat_lt, length, sym, ap, subst, ◌∙◌}
use Rattle.std.proofs.Common.{arith}
use Rattle.sv_graph.specs.BitGraphs.{has_edge, IsOver, GainsEdges}
use Rattle.sv_graph.specs.Marks.{is_marked}
use Rattle.sv_design.proofs.FeedFacts.{registers_more, no_register}
use Rattle.sv_graph.proofs.MarkFacts.{or_no, or_three}
use Rattle.sv_design.proofs.reads.add_registers.Goals as goal

pub loop-s-init : goal.loop-s-init
loop-s-init c = (
  c.requires.over,
  λ a b.
      sym (or_no (has_edge c.args.graph.now a b) (nat_lt b 0
      && (is_marked c.args.registers.now b && (b == a)))
      (no_register (is_marked c.args.registers.now b && (b == a)) b)),
)

pub loop-s-preserved : goal.loop-s-preserved
loop-s-preserved c =
    let registers = c.args.registers.now in
    let s = c.loop-s.s in (
      subst (λ n. IsOver n c.add_register.new.graph) c.loop-s.invariant.0.0
          c.add_register.ensures.over,
      λ a b.
          c.add_register.ensures.gains a b
          ∙ ap (λ t. t || (is_marked registers s && ((s == a) && (s == b))))
          (c.loop-s.invariant.1 a b)
          ∙ or_three (has_edge c.args.graph.now a b) (nat_lt b s
          && (is_marked registers b && (b == a))) (is_marked registers s
          && ((s == a) && (s == b)))
          ∙ ap (λ t. has_edge c.args.graph.now a b || t)
          (sym (registers_more (is_marked registers) s a b)),
    )

pub returns-clause-gains : goal.returns-clause-gains
returns-clause-gains c =
    let registers = c.args.registers.now in
    let end : c.loop-s.s ≡ length registers =
    (let most = c.loop-s.auto.s-end in omega (arith, c.loop-s-test.false)) in
    subst (λ n. GainsEdges c.args.graph.now c.loop-s.graph (λ a b.
    nat_lt b n && (is_marked registers b && (b == a)))) end c.loop-s.invariant.1
