-- What a call answers for a walk: what it found, or the rule that is broken first, or that memory
-- ran out.
use Rattle.std.specs.Prelude.{◌≡◌, ℕ, ℤ, pos, negsuc, Option, Some, None, Result, Err}
use Rattle.sv_num.specs.declared.faults.Refusal.{Refusal}
use Rattle.sv_num.specs.declared.faults.Fault.{Fault}
use Rattle.sv_num.specs.declared.faults.Fault.TheVariants.{Rule, OutOfMemory}
use Rattle.sv_elab_rules.specs.Walks.{WalkStep}
use Rattle.sv_elab_rules.specs.Rules.{step}

-- the step that a refusal names
abbrev pub step_of : Refusal → WalkStep
step_of r = step r.number r.place r.names.items

-- the fault is want of memory, or refuses by the step that the walk breaks
abbrev pub IsBreach : {X : Type 0} → Result X WalkStep → Fault → Type 0
IsBreach end (Rule r) = end ≡ Err (step_of r)
IsBreach end OutOfMemory = Unit {0}

-- the number that a value stands for, if it is not negative
abbrev pub whole_part : ℤ → Option ℕ
whole_part (pos n) = Some n
whole_part (negsuc n) = None
