use Rattle.std.proofs.Common.{◌≡◌, ◌+◌, sym, ap, ◌∙◌, rules}
use Rattle.std.specs.Prelude.{option_map, None}
use Rattle.sv_token.proofs.GapLaws.{closes_where}
use Rattle.sv_token.proofs.gaps.close_length.Goals as goal

pub returns-in_err-place-clause-is : goal.returns-in_err-place-clause-is
returns-in_err-place-clause-is c =
    let none : c.from_residual.result ≡ None = search rules in
    none
    ∙ ap (option_map (λ n. n + 2)) (sym c.in_err-place.was)
    ∙ closes_where c.args.bytes.now c.find.result c.find.ensures

pub returns-clause-is : goal.returns-clause-is
returns-clause-is c =
    ap (option_map (λ n. n + 2)) (sym c.in_ok-place.was)
    ∙ closes_where c.args.bytes.now c.find.result c.find.ensures
