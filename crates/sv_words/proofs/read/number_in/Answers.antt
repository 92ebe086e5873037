use Rattle.std.proofs.Common.{refl, sym, subst}
use Rattle.std.specs.Prelude.{IsSome}
use Rattle.std.specs.Str.Parse.{ParsesUnsigned, ExplainsUnsignedError, HasUnsignedDigitsIfOk}
use Rattle.sv_words.proofs.Numbers.{small_number}
use Rattle.sv_words.proofs.read.number_in.Goals as goal

pub unwrap-requires : goal.unwrap-requires
unwrap-requires c =
    let is = small_number _ (λ bs r. ParsesUnsigned 32 10 bs r × ExplainsUnsignedError 10 bs r
    × HasUnsignedDigitsIfOk bs r) c.requires.text c.get_one.result
    (c.get_one.ensures.value _ c.requires.read) (λ u x g. g.0) c.requires.within in
    subst (λ o. IsSome o) (sym is) refl
