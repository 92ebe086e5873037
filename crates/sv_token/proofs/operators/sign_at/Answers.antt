use Rattle.std.proofs.Common.{◌≡◌, ◌∙◌, ap, rules, List, ℕ}
use Rattle.std.specs.Prelude.{option_map, Some}
use Rattle.std.specs.Option.{MatchOption}
use Rattle.sv_token.specs.Views.{front_of}
use Rattle.sv_token.proofs.SignLaws.{spelled_by, first_found}
use Rattle.sv_token.proofs.operators.sign_at.Goals as goal

pub returns : goal.returns
returns c =
    let bytes : List ℕ = c.args.bytes.now in
    let two : MatchOption c.spelled.result
    (option_map (front_of bytes) c.or_else.result ≡ spelled_by 2 bytes)
    (λ f. c.or_else.result ≡ Some f) = search rules in
    let one : MatchOption c.or_else.result
    (option_map (front_of bytes) c.or_else-2.result ≡ spelled_by 1 bytes)
    (λ f. c.or_else-2.result ≡ Some f) = search rules in
    ap (front_of bytes) c.unwrap_or.ensures
    ∙ first_found bytes c.spelled.result c.or_else.result c.or_else-2.result
    c.spelled.ensures two one
