use Rattle.std.proofs.Common.{◌≡◌, ◌+◌, ◌≤◌, take}
use Rattle.sv_token.specs.Tokens.{place_behind}
use Rattle.sv_token.proofs.lexer.Cursor.behind.Given as goal

abbrev pub invariant-loop-byte : goal.invariant-loop-byte
invariant-loop-byte l =
    record {
      place : l.place ≡ place_behind l.initial.place (take l.byte-index l.byte-items);
      line : l.place.line ≤ l.initial.place.line + l.byte-index;
      column : l.place.column ≤ l.initial.place.column + l.byte-index;
    }
