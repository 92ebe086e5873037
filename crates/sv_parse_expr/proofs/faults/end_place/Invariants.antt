use Rattle.std.proofs.Common.{◌≡◌, ◌+◌, ◌≤◌, take}
use Rattle.sv_token.specs.Tokens.{first_place, place_behind}
use Rattle.sv_parse_expr.proofs.faults.end_place.Given as goal

abbrev pub invariant-loop-byte : goal.invariant-loop-byte
invariant-loop-byte l =
    record {
      place : l.place ≡ place_behind first_place (take l.byte-index l.bytes);
      line : l.place.line ≤ l.byte-index + 1;
      column : l.place.column ≤ l.byte-index + 1;
    }
