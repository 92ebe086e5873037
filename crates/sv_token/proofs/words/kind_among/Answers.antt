use Rattle.std.proofs.Common.{◌≡◌, ℕ, List, Bor, ◌∙◌, ap, rules}
use Rattle.std.specs.Prelude.{option_map}
use Rattle.std.specs.Option.{option_copied}
use Rattle.sv_token.specs.declared.keywords.WordKind.{WordKind}
use Rattle.sv_token.proofs.WordLaws.{found_entry}
use Rattle.sv_token.proofs.words.kind_among.Goals as goal

pub returns : goal.returns
returns c =
    let mapped : c.map.result ≡ option_map (λ (row : Bor (List ℕ) × WordKind).
    row.1) (option_copied c.row_among.result) = search rules in
    mapped ∙ ap (option_map (λ (row : Bor (List ℕ) × WordKind). row.1)) c.row_among.ensures
    ∙ found_entry c.args.text.now c.args.rows.now
