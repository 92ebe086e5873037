-- What follows the head in the text of one lane and in that of three, by computation.
use Rattle.std.proofs.Common.{◌≡◌, ◌++◌, codes, refl}
use Rattle.std.specs.Fmt.{digits}
use Rattle.sv_gen.specs.Sample.{head, sample_text}

pub one_lane : sample_text 1 ≡ head
    ++ codes "  , input r0, input [7:0] {Dom(turn)} d0, output g0, output [7:0] l0, "
    ++ codes "output [7:0] {H} h0\n"
    ++ codes "  );\n"
    ++ codes "  wire b0;\n"
    ++ codes "  lane u0(.clk(clk), .turn(turn), .req(r0), .bin(1'b0), .d(d0), .g(g0), "
    ++ codes ".lo(l0), .hi(h0), .bout(b0));\n"
    ++ codes "endmodule\n"
unfolding digits
one_lane = refl

pub three_lanes : sample_text 3 ≡ head
    ++ codes "  , input r0, input [7:0] {Dom(turn)} d0, output g0, output [7:0] l0, "
    ++ codes "output [7:0] {H} h0\n"
    ++ codes "  , input r1, input [7:0] {Dom(turn)} d1, output g1, output [7:0] l1, "
    ++ codes "output [7:0] {H} h1\n"
    ++ codes "  , input r2, input [7:0] {Dom(turn)} d2, output g2, output [7:0] l2, "
    ++ codes "output [7:0] {H} h2\n"
    ++ codes "  );\n"
    ++ codes "  wire b0;\n"
    ++ codes "  wire b1;\n"
    ++ codes "  wire b2;\n"
    ++ codes "  lane u0(.clk(clk), .turn(turn), .req(r0), .bin(1'b0), .d(d0), .g(g0), "
    ++ codes ".lo(l0), .hi(h0), .bout(b0));\n"
    ++ codes "  lane u1(.clk(clk), .turn(turn), .req(r1), .bin(b0), .d(d1), .g(g1), .lo(l1), "
    ++ codes ".hi(h1), .bout(b1));\n"
    ++ codes "  lane u2(.clk(clk), .turn(turn), .req(r2), .bin(b1), .d(d2), .g(g2), .lo(l2), "
    ++ codes ".hi(h2), .bout(b2));\n"
    ++ codes "endmodule\n"
unfolding digits
three_lanes = refl
