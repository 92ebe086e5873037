use Rattle.sv_gen.specs.Sample.{line_of}
use Rattle.sv_gen.proofs.SampleFacts.{line_more}
use Rattle.sv_gen.proofs.sample.push_lines.Goals as goal

pub loop-i-preserved : goal.loop-i-preserved
loop-i-preserved c =
    line_more (line_of c.args.line) c.args.text.now.items c.loop-i.text.items
    c.push_line.new.text.items c.loop-i.i c.loop-i.invariant c.in_ok-push_line.ensures
