use Rattle.std.proofs.Common.{◌≡◌, ℕ, List, ◌∙◌, ap, sym, subst, Some, None}
use Rattle.std.proofs.lemmas.List.{take_rest}
use Rattle.sv_token.specs.Numerals.{head_at}
use Rattle.sv_token.specs.Views.{head_behind}
use Rattle.sv_token.proofs.NumeralLaws.{unsized_is}
use Rattle.sv_token.proofs.numerals.unsized_number_at.Goals as goal

pub returns-in-Some : goal.returns-in-Some
returns-in-Some c =
    let P : List ℕ → Type 0 = λ bs. Some (head_behind bs 0 c.in-Some.head) ≡ head_at bs in
    c.based_at.ensures
    ∙ sym (unsized_is c.args.bytes.now (Some (head_behind c.args.bytes.now 1 c.in-Some.head))
    (subst P (take_rest c.args.bytes.now 1) c.in-Some.ensures.is))

pub returns-in-None : goal.returns-in-None
returns-in-None c =
    sym (unsized_is c.args.bytes.now None (c.in-None.ensures.is
    ∙ ap head_at (take_rest c.args.bytes.now 1)))
