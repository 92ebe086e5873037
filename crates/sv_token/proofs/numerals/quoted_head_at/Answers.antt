use Rattle.std.proofs.Common.{◌≡◌, List, ℕ, subst}
use Rattle.std.specs.Prelude.{option_map}
use Rattle.std.proofs.lemmas.List.{take_rest}
use Rattle.sv_token.specs.Numerals.{head_at}
use Rattle.sv_token.specs.Views.{head_behind}
use Rattle.sv_token.proofs.NumeralLaws.{quoted}
use Rattle.sv_token.proofs.numerals.quoted_head_at.Goals as goal

pub returns-in-len1-up-clause-is : goal.returns-in-len1-up-clause-is
returns-in-len1-up-clause-is c =
    let P : List ℕ → Type 0 = λ bs. option_map (head_behind bs 0) c.head_at.result ≡ head_at bs in
    quoted c.args.bytes.now c.head_at.result c.in-len1-up.len_at_least c.if-quote-eq39.true
    (subst P (take_rest c.args.bytes.now 1) c.head_at.ensures.is)
