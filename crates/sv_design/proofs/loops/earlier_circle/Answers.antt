use Rattle.std.proofs.Common.{◌≡◌, true, false, sym, subst, ◌∙◌, rules}
use Rattle.sv_design.specs.Circles.{FindsCircleFrom}
use Rattle.sv_graph.specs.Marks.{is_marked}
use Rattle.sv_flat.proofs.Depths.{second_of}
use Rattle.sv_design.proofs.FirstCircles.{not_begun, none_here, later_here, first_here}
use Rattle.sv_design.proofs.loops.earlier_circle.Goals as goal

pub circle_from-requires-clause-first : goal.circle_from-requires-clause-first
circle_from-requires-clause-first c =
    let is : c.can_begin.result ≡ true = search rules in
    second_of (is_marked c.args.begins.now c.args.here.signal.0)
    (is_marked c.args.reads.now.combs.items c.args.here.signal.0)
    (sym c.can_begin.ensures ∙ is)

pub returns-then-not-can_begin : goal.returns-then-not-can_begin
returns-then-not-can_begin c = λ design are has placed so_far.
    let is : c.can_begin.result ≡ false = search rules in
    none_here design c.args.here.signal.0 c.args.circle
    (not_begun design c.args.reads.now are c.args.begins.now has c.args.here.signal.0
    c.requires.inside (sym c.can_begin.ensures ∙ is)) so_far

pub returns-then-not-precedes : goal.returns-then-not-precedes
returns-then-not-precedes c = λ design are has placed so_far.
    let is : c.precedes.result ≡ false = search rules in
    later_here design c.args.here placed c.args.circle (sym c.precedes.ensures ∙ is) so_far

pub returns-in-Some : goal.returns-in-Some
returns-in-Some c = λ design are has placed so_far.
    let is : c.precedes.result ≡ true = search rules in
    first_here design c.args.here placed c.in-Some.signals
    (subst (FindsCircleFrom design c.args.here.signal.0) c.in-Some.is
    (c.in_ok-signals.ensures design are)) c.args.circle (sym c.precedes.ensures ∙ is) so_far

pub returns-in-None : goal.returns-in-None
returns-in-None c = λ design are has placed so_far.
    none_here design c.args.here.signal.0 c.args.circle
    (subst (FindsCircleFrom design c.args.here.signal.0) c.in-None.is
    (c.in_ok-signals.ensures design are)) so_far
