use Rattle.std.proofs.Common.{rules, ◌<◌, ◌^◌, refl, sym, ◌∙◌}
use Rattle.std.proofs.lemmas.Fmt.{decimal_injective}
use Rattle.sv_proof.proofs.Spelling.{log_parts}
use Rattle.sv_proof.proofs.steps.read_log_line.Goals as goal

pub returns-in_err-read_number-clause-none : goal.returns-in_err-read_number-clause-none
returns-in_err-read_number-clause-none c =
    λ none n small e.
    let fits : c.args.number < 2 ^ 64 = search rules in
    let parts = log_parts c.args.line.now c.in_ok-rest.rest.now c.in_ok-word.word.now
    c.in_ok-word.rest.now c.args.number n fits c.in_ok-rest.ensures.some
    c.in_ok-word.ensures.some.0 c.in_ok-word.ensures.some.1 e in
    c.in_err-read_number.ensures.none refl c.args.number fits parts.0

pub returns-then-branch-number-clause-none : goal.returns-then-branch-number-clause-none
returns-then-branch-number-clause-none c =
    λ none n small e.
    let fits : c.args.number < 2 ^ 64 = search rules in
    let fits' : c.in_ok-read_number.field-0 < 2 ^ 64 = search rules in
    let parts = log_parts c.args.line.now c.in_ok-rest.rest.now c.in_ok-word.word.now
    c.in_ok-word.rest.now c.args.number n fits c.in_ok-rest.ensures.some
    c.in_ok-word.ensures.some.0 c.in_ok-word.ensures.some.1 e in
    c.if-branch-number.true
    (decimal_injective c.in_ok-read_number.field-0 c.args.number fits' fits
    (sym c.in_ok-read_number.ensures.some ∙ parts.0))

pub returns-clause-none : goal.returns-clause-none
returns-clause-none c =
    λ none n small e.
    let fits : c.args.number < 2 ^ 64 = search rules in
    let parts = log_parts c.args.line.now c.in_ok-rest.rest.now c.in_ok-word.word.now
    c.in_ok-word.rest.now c.args.number n fits c.in_ok-rest.ensures.some
    c.in_ok-word.ensures.some.0 c.in_ok-word.ensures.some.1 e in
    c.read_below.ensures.none none n small parts.1
