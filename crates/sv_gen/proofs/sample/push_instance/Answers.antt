use Rattle.std.proofs.Common.{◌++◌, codes, ap, ◌∙◌, append_assoc}
use Rattle.std.specs.Prelude.{decimal}
use Rattle.sv_gen.specs.Sample.{bin_of}
use Rattle.sv_gen.proofs.SampleFacts.{two_parts, two_written, lane_parts}
use Rattle.sv_gen.proofs.sample.push_instance.Goals as goal

pub returns : goal.returns
returns c =
    let i = decimal c.args.i in
    let inputs = codes "  lane u" ++ i ++ codes "(.clk(clk), .turn(turn), .req(r" ++ i
    ++ codes "), .bin(" in
    let links = codes "), .d(d" ++ i ++ codes "), .g(g" ++ i ++ codes "), .lo(l" ++ i
    ++ codes "), .hi(h" ++ i ++ codes "), .bout(b" ++ i ++ codes "));\n" in
    let bin = bin_of c.args.i in
    two_written c.args.text.now.items c.extend_from_slice.new.self.items
    c.extend_from_slice-2.new.self.items c.as_bytes.result.now (bin ++ c.as_bytes-2.result.now)
    inputs (bin ++ links) c.in_ok-extend_from_slice.ensures.items
    (two_parts c.extend_from_slice.new.self.items c.push_bin.new.text.items
    c.extend_from_slice-2.new.self.items bin c.as_bytes-2.result.now c.in_ok-push_bin.ensures
    c.in_ok-extend_from_slice-2.ensures.items)
    (c.as_bytes.ensures.value ∙ c.in_ok-inputs.ensures.ok ∙ simp append_assoc)
    (ap (λ t. bin ++ t) (c.as_bytes-2.ensures.value ∙ c.in_ok-links.ensures.ok ∙ simp append_assoc))
    ∙ ap (λ t. c.args.text.now.items ++ t) (lane_parts i (codes "  lane u")
    (codes "(.clk(clk), .turn(turn), .req(r") (codes "), .bin(") bin (codes "), .d(d")
    (codes "), .g(g") (codes "), .lo(l") (codes "), .hi(h") (codes "), .bout(b") (codes "));\n"))
