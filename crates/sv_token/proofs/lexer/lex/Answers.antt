use Rattle.std.proofs.Common.{◌+◌, arith}
use Rattle.std.proofs.lemmas.List.Elements.{All-push}
use Rattle.sv_token.specs.Lexemes.{lexeme_of, placed_tokens}
use Rattle.sv_token.specs.Spans.{IsAtSpan, IsAtPlace}
use Rattle.sv_token.specs.Views.{rule_number, rule_names}
use Rattle.sv_token.proofs.LexLaws.{front_here, gap_here, token_here, read_gap}
use Rattle.sv_token.proofs.LexLaws.{read_token, read_break, read_all, at_span, placed_push}
use Rattle.sv_token.proofs.LexLaws.{order_push, order_later, in_order, fault_is, place_later}
use Rattle.sv_token.proofs.lexer.lex.Goals as goal

pub behind-here-requires : goal.behind-here-requires
behind-here-requires c =
    let here = gap_here c.args.bytes.now c.loop-here.here.position c.front_at.result c.in-Gap.more
    c.loop-here-test.true c.front_at.ensures c.in-Gap.is in
    record {
      within = omega (arith, here.1);
      line = omega (arith, here.1, c.loop-here.invariant.line);
      column = omega (arith, here.1, c.loop-here.invariant.column);
    }

pub behind-next-requires : goal.behind-next-requires
behind-next-requires c =
    let here = token_here c.args.bytes.now c.loop-here.here.position c.front_at.result
    c.in-Token.kind c.in-Token.more c.loop-here-test.true c.front_at.ensures c.in-Token.is in
    record {
      within = omega (arith, here.1);
      line = omega (arith, here.1, c.loop-here.invariant.line);
      column = omega (arith, here.1, c.loop-here.invariant.column);
    }

pub loop-here-preserved-in-Gap : goal.loop-here-preserved-in-Gap
loop-here-preserved-in-Gap c =
    let here = gap_here c.args.bytes.now c.loop-here.here.position c.front_at.result c.in-Gap.more
    c.loop-here-test.true c.front_at.ensures c.in-Gap.is in
    let next = read_gap c.args.bytes.now (placed_tokens c.args.bytes.now c.loop-here.tokens.items)
    c.loop-here.here.position c.loop-here.here.place c.in-Gap.more c.loop-here-test.true here.0
    c.loop-here.invariant.read in
    let moved = c.behind-here.ensures in
    record {
      within = omega (arith, here.1, moved.position);
      line = omega (arith, c.loop-here.invariant.line, moved.position, moved.line);
      column = omega (arith, c.loop-here.invariant.column, moved.position, moved.column);
      read = rw (moved.position, moved.place) next;
      spans = c.loop-here.invariant.spans;
      place =
          rw (moved.position, moved.place)
          (place_later c.args.bytes.now c.loop-here.here.position c.in-Gap.more
          c.loop-here.here.place c.loop-here.invariant.place);
      places = c.loop-here.invariant.places;
      order =
          order_later 0 c.loop-here.tokens.items c.loop-here.here.position
          c.behind-here.result.position (omega (arith, moved.position))
          c.loop-here.invariant.order;
    }

pub loop-here-preserved : goal.loop-here-preserved
loop-here-preserved c =
    let here = token_here c.args.bytes.now c.loop-here.here.position c.front_at.result
    c.in-Token.kind c.in-Token.more c.loop-here-test.true c.front_at.ensures c.in-Token.is in
    let next = read_token c.args.bytes.now (placed_tokens c.args.bytes.now c.loop-here.tokens.items)
    c.loop-here.here.position c.loop-here.here.place
    (lexeme_of c.args.bytes.now c.in-Token.kind c.loop-here.here.position
    (c.loop-here.here.position + c.in-Token.more + 1)) c.in-Token.more c.loop-here-test.true
    here.0 c.loop-here.invariant.read in
    let spanned = at_span c.args.bytes.now c.in-Token.kind c.loop-here.here.position c.in-Token.more
    c.loop-here.here.place c.loop-here-test.true here.0 in
    let moved = c.behind-next.ensures in
    record {
      within = omega (arith, here.1, moved.position);
      line = omega (arith, c.loop-here.invariant.line, moved.position, moved.line);
      column = omega (arith, c.loop-here.invariant.column, moved.position, moved.column);
      read =
          rw (
            c.in_ok-push-in-Token.ensures.items,
            placed_push,
            moved.position,
            moved.place,
          ) next;
      spans =
          rw (c.in_ok-push-in-Token.ensures.items, moved.position)
          (All-push (IsAtSpan c.args.bytes.now) c.loop-here.tokens.items _
          c.loop-here.invariant.spans spanned);
      place =
          rw (moved.position, moved.place)
          (place_later c.args.bytes.now c.loop-here.here.position c.in-Token.more
          c.loop-here.here.place c.loop-here.invariant.place);
      places =
          rw (c.in_ok-push-in-Token.ensures.items, moved.position)
          (All-push (IsAtPlace c.args.bytes.now) c.loop-here.tokens.items _
          c.loop-here.invariant.places c.loop-here.invariant.place);
      order =
          rw c.in_ok-push-in-Token.ensures.items
          (order_push 0 c.loop-here.tokens.items c.loop-here.here.position _ (omega arith)
          (omega (arith, moved.position)) c.loop-here.invariant.order);
    }

pub returns-in-Broken-clause-refusal : goal.returns-in-Broken-clause-refusal
returns-in-Broken-clause-refusal c =
    let is = front_here c.args.bytes.now c.loop-here.here.position c.front_at.result
    c.loop-here-test.true c.front_at.ensures in
    let broken_is = rw c.in-Broken.is at is in
    let breaks = read_break c.args.bytes.now
    (placed_tokens c.args.bytes.now c.loop-here.tokens.items) c.loop-here.here.position
    c.loop-here.here.place (rule_number c.in-Broken.breach) (rule_names c.in-Broken.breach)
    c.loop-here-test.true broken_is c.loop-here.invariant.read in
    fault_is c.args.bytes.now c.in_ok-fault-in-Broken.field-0 (rule_number c.in-Broken.breach)
    c.loop-here.here.place (rule_names c.in-Broken.breach)
    c.in_ok-fault-in-Broken.ensures breaks

pub returns-clause-tokens : goal.returns-clause-tokens
returns-clause-tokens c =
    read_all c.args.bytes.now (placed_tokens c.args.bytes.now c.loop-here.tokens.items)
    c.loop-here.here.position c.loop-here.here.place c.loop-here-test.false
    c.loop-here.invariant.read

pub returns-clause-order : goal.returns-clause-order
returns-clause-order c =
    in_order 0 c.loop-here.tokens.items c.loop-here.here.position c.loop-here.invariant.order
