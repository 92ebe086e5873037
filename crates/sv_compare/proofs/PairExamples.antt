-- Which of two small stimuli is refused, by computation.
use Rattle.std.proofs.Common.{ℕ, List, [], ◌∷◌, refl}
use Rattle.std.specs.Prelude.{codes}
use Rattle.sv_texts.specs.declared.stimuli.StimKind.TheVariants.{Header, Value}
use Rattle.sv_trace.specs.Forms.{StimForm}
use Rattle.sv_compare.specs.declared.faults.CompareFault.TheVariants.{First, Second}
use Rattle.sv_compare.specs.Pairs.{IsRight, HasCompareFault}

-- an input d of one bit
abbrev form : StimForm
form = record { header = codes "inputs d"; inputs = 1 ∷ []; registers = [] }

abbrev right : List ℕ
right = codes "inputs d\n1\n0\n"

-- its third line is wrong
abbrev wrong : List ℕ
wrong = codes "inputs d\n1\n2\n"

pub both_are_right : IsRight form right × IsRight form (codes "inputs d")
both_are_right = (refl, refl)

pub first_is_refused : HasCompareFault form wrong right (First 3 Value)
first_is_refused = refl

pub second_is_refused : HasCompareFault form right wrong (Second 3 Value)
second_is_refused = (refl, refl)

-- of two wrong ones the first is told, though the second is wrong in a line before
pub first_comes_first : HasCompareFault form wrong (codes "inputs e\n") (First 3 Value)
first_comes_first = refl

pub never_the_second : HasCompareFault form wrong (codes "inputs e\n") (Second 1 Header) → ⊥
never_the_second is = let none = is.0 in cc
