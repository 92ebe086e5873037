-- How long the text is.
use Rattle.std.proofs.Common.{◌≡◌, ℕ, zero, suc, ◌*◌, ◌≤◌, ◌<◌, List, length, refl, arith}
use Rattle.std.proofs.Common.{length-append}
use Rattle.std.specs.Prelude.{decimal}
use Rattle.std.proofs.lemmas.Fmt.{length-decimal-le}
use Rattle.sv_gen.specs.Sample.{head, port_line, wire_line, bin_of, lane_line}
use Rattle.sv_gen.specs.Sample.{lines_below, sample_text}

-- the number of a lane
number_short : (i : ℕ) → i < 200 → length (decimal i) ≤ 3
number_short i few = length-decimal-le 3 i (omega arith) (omega arith) (omega arith)

port_short : (i : ℕ) → i < 200 → length (port_line i) ≤ 200
port_short i few =
    let number = number_short i few in simp length-append (omega arith)

wire_short : (i : ℕ) → i < 200 → length (wire_line i) ≤ 200
wire_short i few =
    let number = number_short i few in simp length-append (omega arith)

bin_short : (i : ℕ) → i < 200 → length (bin_of i) ≤ 4
bin_short zero few = omega arith
bin_short (suc before) few =
    let number = number_short before (omega arith) in simp length-append (omega arith)

lane_short : (i : ℕ) → i < 200 → length (lane_line i) ≤ 200
lane_short i few =
    let number = number_short i few in
    let bin = bin_short i few in simp length-append (omega arith)

-- a line for each lane
lines_short : (line : ℕ → List ℕ) → ((i : ℕ) → i < 200 → length (line i) ≤ 200)
    → (lanes : ℕ) → lanes ≤ 200 → length (lines_below line lanes) ≤ lanes * 200
lines_short line short zero few = omega arith
lines_short line short (suc lanes) few =
    let rest = lines_short line short lanes (omega arith) in
    let last = short lanes (omega arith) in rw length-append (omega arith)

pub sample_short : (lanes : ℕ) → lanes ≤ 200 → length (sample_text lanes) ≤ 1048576
sample_short lanes few =
    let begins : length head ≡ 381 = refl in
    let ports = lines_short port_line port_short lanes few in
    let wires = lines_short wire_line wire_short lanes few in
    let instances = lines_short lane_line lane_short lanes few in
    simp length-append (omega arith)
