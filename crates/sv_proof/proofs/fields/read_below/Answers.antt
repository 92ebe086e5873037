use Rattle.std.proofs.Common.{rules, ◌≡◌, ◌<◌, ◌^◌, arith, sym, ◌∙◌}
use Rattle.std.proofs.lemmas.Fmt.{decimal_injective}
use Rattle.sv_proof.proofs.fields.read_below.Goals as goal

pub returns-then-number-bound-clause-none : goal.returns-then-number-bound-clause-none
returns-then-number-bound-clause-none c =
    λ none n small e.
    let number = c.in_ok-number.number in
    let fits : number < 2 ^ 64 = search rules in
    let wide : c.args.bound < 2 ^ 64 = search rules in
    let same : number ≡ n =
    decimal_injective number n fits (omega arith) (sym c.in_ok-number.ensures.some ∙ e) in
    absurd (omega arith)
