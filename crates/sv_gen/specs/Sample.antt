-- The text that `secv gen` prints: a design of so many lanes, which leaks nothing (this project's
-- profile).
use Rattle.std.specs.Prelude.{ℕ, zero, suc, ◌≤◌, List, [], ◌++◌, codes, decimal}
use Rattle.sv_gen.specs.declared.sample.Line.{Line}
use Rattle.sv_gen.specs.declared.sample.Line.TheVariants as line

-- how many lanes there may be
abbrev pub HasLanes : ℕ → Type 0
HasLanes lanes = (1 ≤ lanes) × (lanes ≤ 200)

-- the module of a lane, and the beginning of the top module
abbrev pub head : List ℕ
head =
    codes "labelmap Dom [0:0] 0: L; default: H; endlabelmap\n"
    ++ codes "module lane(input clk, input turn, input req, input bin, "
    ++ codes "input [7:0] {Dom(turn)} d,\n"
    ++ codes "  output reg g, output reg [7:0] lo, output reg [7:0] {H} hi, output bout);\n"
    ++ codes "  assign bout = bin | req;\n"
    ++ codes "  always @(posedge clk) begin\n"
    ++ codes "    g <= req & ~bin & ~turn;\n"
    ++ codes "    if (turn) hi <= d; else lo <= d;\n"
    ++ codes "  end\n"
    ++ codes "endmodule\n"
    ++ codes "module top(input clk, input turn\n"

-- the ports of the lane with this number
abbrev pub port_line : ℕ → List ℕ
port_line i =
    codes "  , input r" ++ decimal i ++ codes ", input [7:0] {Dom(turn)} d" ++ decimal i
    ++ codes ", output g" ++ decimal i ++ codes ", output [7:0] l" ++ decimal i
    ++ codes ", output [7:0] {H} h" ++ decimal i ++ codes "\n"

-- the wire by which it tells the next lane that a lane before asks
abbrev pub wire_line : ℕ → List ℕ
wire_line i = codes "  wire b" ++ decimal i ++ codes ";\n"

-- what it is told: the wire of the lane before it, and of the first lane that none asks
abbrev pub bin_of : ℕ → List ℕ
bin_of zero = codes "1'b0"
bin_of (suc before) = codes "b" ++ decimal before

-- the lane itself
abbrev pub lane_line : ℕ → List ℕ
lane_line i =
    codes "  lane u" ++ decimal i ++ codes "(.clk(clk), .turn(turn), .req(r" ++ decimal i
    ++ codes "), .bin(" ++ bin_of i ++ codes "), .d(d" ++ decimal i
    ++ codes "), .g(g" ++ decimal i ++ codes "), .lo(l" ++ decimal i
    ++ codes "), .hi(h" ++ decimal i ++ codes "), .bout(b" ++ decimal i ++ codes "));\n"

-- which of the three
abbrev pub line_of : Line → (lane : ℕ) → List ℕ
line_of line.Ports i = port_line i
line_of line.Wire i = wire_line i
line_of line.Instance i = lane_line i

-- a line for each lane, from 0 on
abbrev pub lines_below : (line : ℕ → List ℕ) → (lanes : ℕ) → List ℕ
lines_below line zero = []
lines_below line (suc lanes) = lines_below line lanes ++ line lanes

abbrev pub foot : List ℕ
foot = codes "endmodule\n"

abbrev pub sample_text : (lanes : ℕ) → List ℕ
sample_text lanes =
    head ++ lines_below port_line lanes ++ codes "  );\n" ++ lines_below wire_line lanes
    ++ lines_below lane_line lanes ++ foot
