use Rattle.std.proofs.Common.{◌++◌, codes, ap, ◌∙◌, append_assoc}
use Rattle.std.specs.Prelude.{decimal}
use Rattle.sv_gen.proofs.SampleFacts.{two_written, port_parts}
use Rattle.sv_gen.proofs.sample.push_ports.Goals as goal

pub returns : goal.returns
returns c =
    let i = decimal c.args.i in
    let inputs = codes "  , input r" ++ i ++ codes ", input [7:0] {Dom(turn)} d" ++ i in
    let outputs = codes ", output g" ++ i ++ codes ", output [7:0] l" ++ i
    ++ codes ", output [7:0] {H} h" ++ i ++ codes "\n" in
    two_written c.args.text.now.items c.extend_from_slice.new.self.items
    c.extend_from_slice-2.new.self.items c.as_bytes.result.now c.as_bytes-2.result.now
    inputs outputs
    c.in_ok-extend_from_slice.ensures.items c.in_ok-extend_from_slice-2.ensures.items
    (c.as_bytes.ensures.value ∙ c.in_ok-inputs.ensures.ok ∙ simp append_assoc)
    (c.as_bytes-2.ensures.value ∙ c.in_ok-outputs.ensures.ok ∙ simp append_assoc)
    ∙ ap (λ t. c.args.text.now.items ++ t) (port_parts i (codes "  , input r")
    (codes ", input [7:0] {Dom(turn)} d") (codes ", output g") (codes ", output [7:0] l")
    (codes ", output [7:0] {H} h") (codes "\n"))
