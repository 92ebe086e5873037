use Rattle.std.proofs.Common.{◌≡◌, length, sym, ◌∙◌, subst, arith}
use Rattle.std.proofs.lemmas.Bool.{eqb-true, eqb-false}
use Rattle.sv_trace.specs.Reading.{said_of}
use Rattle.sv_trace.specs.Steps.{EndRead}
use Rattle.sv_trace.proofs.PieceFacts.{at_err, empty_ends, last_ends, last_stops}
use Rattle.sv_trace.proofs.SaidFacts.{keeps_all}
use Rattle.sv_trace.proofs.pieces.read_end.Goals as goal

pub returns-then-is_empty-clause-cycles : goal.returns-then-is_empty-clause-cycles
returns-then-is_empty-clause-cycles c = keeps_all (said_of c.args.state.now)

pub returns-then-is_empty-clause-read : goal.returns-then-is_empty-clause-read
returns-then-is_empty-clause-read c =
    let none : length c.args.kept.now ≡ 0 =
    eqb-true (length c.args.kept.now) 0 (sym c.is_empty.ensures ∙ c.if-is_empty.true) in
    λ bytes taken s.
    subst (λ r. EndRead c.args.form.now bytes taken r (said_of c.args.state.now))
    (sym c.ask_header.ensures)
    (empty_ends c.args.form.now bytes taken (said_of c.args.state.now) c.args.kept.now s
    (omega arith))

pub returns-in_err-read_line-clause-read : goal.returns-in_err-read_line-clause-read
returns-in_err-read_line-clause-read c =
    let some : length c.args.kept.now ≡ 0 → ⊥ =
    eqb-false (length c.args.kept.now) 0 (sym c.is_empty.ensures ∙ c.if-is_empty.false) in
    λ bytes taken s.
    at_err c.from_residual.result c.in_err-read_line.field-0.0 c.from_residual.ensures.1
    (λ r. EndRead c.args.form.now bytes taken r (said_of c.read_line.new.state))
    (last_stops c.args.form.now bytes taken (said_of c.args.state.now)
    (said_of c.read_line.new.state) c.args.kept.now c.in_err-read_line.field-0.0 s (omega arith)
    (c.in_err-read_line.ensures.read s.right taken s.lines))

pub returns-clause-read : goal.returns-clause-read
returns-clause-read c =
    let some : length c.args.kept.now ≡ 0 → ⊥ =
    eqb-false (length c.args.kept.now) 0 (sym c.is_empty.ensures ∙ c.if-is_empty.false) in
    λ bytes taken s.
    subst (λ r. EndRead c.args.form.now bytes taken r (said_of c.read_line.new.state))
    (sym c.ask_header-2.ensures)
    (last_ends c.args.form.now bytes taken (said_of c.args.state.now)
    (said_of c.read_line.new.state) c.args.kept.now s (omega arith)
    (c.in_ok-read_line.ensures.read s.right taken s.lines))
