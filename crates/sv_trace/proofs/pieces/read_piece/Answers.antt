use Rattle.std.proofs.Common.{rules, [], ◌∷◌, ◌++◌, sym, ap, ◌∙◌, subst, append_assoc, length}
use Rattle.std.proofs.Common.{arith}
use Rattle.std.proofs.lemmas.List.{length-append}
use Rattle.sv_trace.specs.Reading.{said_of, Lacks}
use Rattle.sv_trace.specs.Steps.{PieceRead, Stands, StopsWith}
use Rattle.sv_trace.specs.Stimulus.{read_front}
use Rattle.sv_trace.proofs.PieceFacts.{at_err, rest_read}
use Rattle.sv_trace.proofs.SaidFacts.{keeps_all, keeps_more}
use Rattle.sv_trace.proofs.pieces.read_piece.Goals as goal

pub lines-init : goal.lines-init
lines-init c = record {
  said = search rules;
  room = search rules;
  short = search rules;
  begun = search rules;
  cycles = keeps_all (said_of c.args.state.now);
  read = search rules;
}

pub returns-in_err-end_line-clause-cycles : goal.returns-in_err-end_line-clause-cycles
returns-in_err-end_line-clause-cycles c =
    keeps_more (said_of c.args.state.now) (said_of c.lines.state) (said_of c.end_line.new.state)
    c.lines.invariant.cycles c.end_line.ensures.cycles

pub returns-in_err-end_line-clause-read : goal.returns-in_err-end_line-clause-read
returns-in_err-end_line-clause-read c =
    let done = c.lines.invariant.read.0 in
    let line = c.in-Some.parts.0.now in
    let after = c.in-Some.parts.1.now in
    let form = c.args.form.now in
    let new = said_of c.end_line.new.state in
    let fault = c.in_err-end_line.field-0.0 in
    λ bytes taken s.
    at_err c.from_residual.result fault c.from_residual.ensures.1
    (λ r. PieceRead form (bytes ++ c.args.piece.now) taken r new c.end_line.new.kept.items)
    (subst (λ b. StopsWith (read_front form b) form taken new fault)
    (append_assoc bytes done (line ++ 10 ∷ after)
    ∙ ap (λ b. bytes ++ b) (ap (λ b. done ++ b) (sym c.in-Some.ensures.parts)
    ∙ sym c.lines.invariant.read.1))
    (c.in_err-end_line.ensures.read (bytes ++ done) taken
    (c.lines.invariant.read.2 bytes taken s) after))

pub lines-preserved : goal.lines-preserved
lines-preserved c =
    let done = c.lines.invariant.read.0 in
    let line = c.in-Some.parts.0.now in
    let after = c.in-Some.parts.1.now in
    let form = c.args.form.now in
    let new = said_of c.end_line.new.state in
    let kept = c.end_line.new.kept.items in
    record {
      said = search rules;
      room = omega (
        arith,
        ap length c.in-Some.ensures.parts,
        length-append line (10 ∷ after),
        c.in_ok-end_line.ensures.next,
        c.in_ok-end_line.ensures.none,
      );
      short = search rules;
      begun = λ begun.
          let was = c.lines.invariant.begun begun in
          let now = c.end_line.ensures.start was.1 in
          (now.0 ∙ was.0, now.1);
      cycles = keeps_more (said_of c.args.state.now) (said_of c.lines.state) new
          c.lines.invariant.cycles c.end_line.ensures.cycles;
      read = (
        done ++ (line ++ 10 ∷ []),
        c.lines.invariant.read.1 ∙ ap (λ b. done ++ b) c.in-Some.ensures.parts
            ∙ sym (append_assoc done (line ++ 10 ∷ []) after
            ∙ ap (λ b. done ++ b) (append_assoc line (10 ∷ []) after)),
        λ bytes taken s.
            subst (λ b. Stands form b taken new kept) (append_assoc bytes done (line ++ 10 ∷ []))
            (c.in_ok-end_line.ensures.read (bytes ++ done) taken
            (c.lines.invariant.read.2 bytes taken s)),
      );
    }

pub returns-clause-read : goal.returns-clause-read
returns-clause-read c =
    let done = c.lines.invariant.read.0 in
    let lacks : Lacks 10 c.lines.left.now = search rules in
    λ bytes taken s.
    rest_read c.args.form.now (bytes ++ done) (bytes ++ c.args.piece.now) taken
    (said_of c.lines.state) c.lines.kept.items c.lines.left.now c.keep.new.kept.items c.keep.result
    (c.lines.invariant.read.2 bytes taken s) lacks
    (ap (λ b. bytes ++ b) c.lines.invariant.read.1 ∙ sym (append_assoc bytes done c.lines.left.now))
    c.keep.ensures.kept c.keep.ensures.short c.keep.ensures.long
