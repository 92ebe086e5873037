use Rattle.std.proofs.Common.{[], ◌∷◌, ◌++◌, refl, sym, ◌∙◌, subst}
use Rattle.std.specs.Prelude.{Ok, Err}
use Rattle.sv_trace.specs.Reading.{said_of}
use Rattle.sv_trace.specs.Steps.{LineRead, LineEnded, Stands}
use Rattle.sv_trace.proofs.PieceFacts.{at_err, stops_long, stops_at, stands_on}
use Rattle.sv_trace.proofs.SaidFacts.{keeps_all}
use Rattle.sv_trace.proofs.pieces.end_line.Goals as goal

pub returns-in_err-keep-clause-cycles : goal.returns-in_err-keep-clause-cycles
returns-in_err-keep-clause-cycles c = keeps_all (said_of c.args.state.now)

pub returns-in_err-keep-clause-read : goal.returns-in_err-keep-clause-read
returns-in_err-keep-clause-read c =
    λ bytes taken s.
    let form = c.args.form.now in
    let line = c.args.line.now in
    let said = said_of c.args.state.now in
    at_err c.from_residual.result c.in_err-keep.field-0.0 c.from_residual.ensures.1
    (λ r. LineEnded form bytes line taken r said c.keep.new.kept.items)
    (λ after. stops_long form bytes (bytes ++ (line ++ 10 ∷ after)) taken said
    c.args.kept.now.items line after c.in_err-keep.field-0.0 s c.requires.bytes refl
    c.in_err-keep.ensures.long)

pub returns-in_err-read_line-clause-read : goal.returns-in_err-read_line-clause-read
returns-in_err-read_line-clause-read c =
    λ bytes taken s.
    let form = c.args.form.now in
    let line = c.args.line.now in
    let kept = c.args.kept.now.items in
    let fault = c.in_err-read_line.field-0.0 in
    let new = said_of c.read_line.new.state in
    at_err c.from_residual-in_err-read_line.result fault c.from_residual-in_err-read_line.ensures.1
    (λ r. LineEnded form bytes line taken r new c.keep.new.kept.items)
    (λ after. stops_at form bytes (bytes ++ (line ++ 10 ∷ after)) taken
    (said_of c.args.state.now) new kept line after fault s c.requires.bytes refl
    (subst (λ l. LineRead form s.right taken l (Err fault) new)
    (c.as_slice.ensures.value ∙ c.in_ok-keep.ensures.kept)
    (c.in_err-read_line.ensures.read s.right taken s.lines)))

pub returns-clause-read : goal.returns-clause-read
returns-clause-read c =
    λ bytes taken s.
    let form = c.args.form.now in
    let line = c.args.line.now in
    let kept = c.args.kept.now.items in
    let new = said_of c.read_line.new.state in
    subst (λ k. Stands form (bytes ++ (line ++ 10 ∷ [])) taken new k) (sym c.clear.ensures.items)
    (stands_on form bytes taken (said_of c.args.state.now) new kept line s c.requires.bytes
    (subst (λ l. LineRead form s.right taken l (Ok tt) new)
    (c.as_slice.ensures.value ∙ c.in_ok-keep.ensures.kept)
    (c.in_ok-read_line.ensures.read s.right taken s.lines)))
