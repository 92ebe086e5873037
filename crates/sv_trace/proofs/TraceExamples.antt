-- The lines of small traces, by computation.
use Rattle.std.proofs.Common.{◌≡◌, [], ◌∷◌, Some, None, refl}
use Rattle.std.specs.Prelude.{codes}
use Rattle.std.specs.Fmt.{digits}
use Rattle.sv_flat.specs.ByNumber.{by_number}
use Rattle.sv_obl.proofs.ExampleDesigns.{turns, point}
use Rattle.sv_trace.specs.Traces.{trace_line}

-- module top(input turn, input a, input {H} b, output {Dom(turn)} y); assign y = turn ? b : a;

-- all signals, and those that a level sees: y has a label by the value of a signal, in this cycle
pub lines_of_cycles : trace_line turns 0 None (by_number (0 ∷ 1 ∷ 0 ∷ 1 ∷ []))
    ∷ trace_line turns 0 (Some (point 0)) (by_number (0 ∷ 1 ∷ 0 ∷ 1 ∷ []))
    ∷ trace_line turns 12 (Some (point 0)) (by_number (1 ∷ 1 ∷ 1 ∷ 1 ∷ []))
    ∷ trace_line turns 1 (Some (point 1)) (by_number (1 ∷ 1 ∷ 1 ∷ 1 ∷ []))
    ∷ [] ≡
    codes "0 turn=0 a=1 b=0 y=1\n"
    ∷ codes "0 turn=0 a=1 y=1\n"
    ∷ codes "12 turn=1 a=1\n"
    ∷ codes "1 turn=1 a=1 b=1 y=1\n"
    ∷ []
unfolding digits
lines_of_cycles = refl
