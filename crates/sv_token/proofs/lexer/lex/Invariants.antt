use Rattle.std.proofs.Common.{◌≡◌, ◌+◌, ◌-◌, ◌≤◌, length, take}
use Rattle.std.specs.Prelude.{All}
use Rattle.sv_token.specs.Lexemes.{placed_tokens}
use Rattle.sv_token.specs.Spans.{IsAtSpan, IsAtPlace}
use Rattle.sv_token.specs.Tokens.{first_place, place_behind}
use Rattle.sv_token.proofs.LexLaws.{IsRead, AreInOrderUpTo}
use Rattle.sv_token.proofs.lexer.lex.Given as goal

abbrev pub invariant-loop-here : goal.invariant-loop-here
invariant-loop-here l =
    record {
      within : l.here.position ≤ length l.bytes;
      line : l.here.place.line ≤ l.here.position + 1;
      column : l.here.place.column ≤ l.here.position + 1;
      read : IsRead l.bytes (placed_tokens l.bytes l.tokens.items) l.here.position l.here.place;
      spans : All (IsAtSpan l.bytes) l.tokens.items;
      place : l.here.place ≡ place_behind first_place (take l.here.position l.bytes);
      places : All (IsAtPlace l.bytes) l.tokens.items;
      order : AreInOrderUpTo 0 l.tokens.items l.here.position;
    }

abbrev pub decreases-loop-here : goal.decreases-loop-here
decreases-loop-here l = length l.bytes - l.here.position
