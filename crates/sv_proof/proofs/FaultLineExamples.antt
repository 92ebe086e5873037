-- Lines of faults in a certificate of three logs: of two steps, of none and of one.
use Rattle.std.proofs.Common.{◌≡◌, List, [], ◌∷◌, refl}
use Rattle.sv_clause.specs.Logs.{Step as LogStep}
use Rattle.sv_proof.specs.FaultLines.{line_of_log, fault_line}
use Rattle.sv_proof.specs.declared.check.LogFault.TheVariants.{Step, NotEmpty}

abbrev step : LogStep
step = record { clause = []; chain = 1 ∷ 2 ∷ [] }

abbrev logs : List (List LogStep)
logs = (step ∷ step ∷ []) ∷ [] ∷ (step ∷ []) ∷ []

first_begins : line_of_log logs 0 ≡ 3
first_begins = refl

first_step_of_first : fault_line logs 0 (Step 0) ≡ 4
first_step_of_first = refl

last_line_of_first : fault_line logs 0 NotEmpty ≡ 5
last_line_of_first = refl

-- the log of no step has its `o` line alone
last_line_of_second : fault_line logs 1 NotEmpty ≡ 6
last_line_of_second = refl

first_step_of_third : fault_line logs 2 (Step 0) ≡ 8
first_step_of_third = refl
