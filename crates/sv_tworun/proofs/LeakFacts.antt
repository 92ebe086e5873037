-- Where a system is noninterferent, its traces show no difference of views.
use Rattle.std.proofs.Common.{◌&&◌, ◌==◌, List, map, ap₂}
use Rattle.std.proofs.lemmas.Bool.{or_left, or_right, eq-eqb}
use Rattle.sv_system.specs.System.{System, Environment, IsTrace, Noninterferent, view}
use Rattle.sv_lattice.specs.declared.points.Point.{Point}
use Rattle.sv_flat.specs.Design.{FlatDesign}
use Rattle.sv_flat.specs.FlatSystem.{flat_system}
use Rattle.sv_flat.specs.Given.{given}
use Rattle.sv_flat.specs.SignalLists.{inputs, registers}
use Rattle.sv_tworun.specs.declared.compared.Compared.{Compared}
use Rattle.sv_tworun.specs.Comparisons.{is_given, IsFound, IsComparison, FindsNoLeak}
use Rattle.sv_tworun.specs.Forms.{Run, Finding, equal, inputs_differ, views_differ, lengths_differ}
use Rattle.sv_tworun.specs.Forms.{finding}
use Rattle.sv_tworun.proofs.OneFinding.{equal_say_same}
use Rattle.sv_tworun.proofs.TraceFacts.{seen_within, stay_alike}

module _ {Signal Level : Type 0} (system : System Signal Level) (holds : Noninterferent system)
    (level : Level) (start1 start2 : Environment Signal)
    (inputs1 inputs2 first second : List (Environment Signal))
    (of_first : IsTrace system start1 inputs1 first)
    (of_second : IsTrace system start2 inputs2 second) where
  pub none_leaks : (found : Finding Signal) → IsFound system level first second found →
      FindsNoLeak found
  none_leaks (equal cycles) is = tt
  none_leaks (inputs_differ cycle signal) is = tt
  none_leaks (lengths_differ cycles) is = tt
  none_leaks (views_differ cycle signal) is =
      let there = is.1 in
      let shown = there.holds in
      shown.first.apart (equal_say_same (view system level there.one)
      (view system level there.other) signal
      (stay_alike system level holds start1 start2 inputs1 inputs2 first second of_first of_second
      cycle there.one there.other there.in_first there.in_second is.0
      (seen_within system level system.is_input (is_given system cycle)
      (λ s input. or_left (system.is_input s) ((cycle == 0) && system.is_register s) input)
      there.one there.other shown.alike)
      (λ at_start. seen_within system level system.is_register (is_given system cycle)
      (λ s register. or_right (system.is_input s) ((cycle == 0) && system.is_register s)
      (ap₂ (λ b c. b && c) (eq-eqb cycle 0 at_start) register))
      there.one there.other shown.alike)))

-- likewise the runs of a design
pub no_leak : (design : FlatDesign) → Noninterferent (flat_system design) → (level : Point)
    (first second : Run) (found : Compared) → IsComparison design level first second found
    → FindsNoLeak (finding found)
no_leak design holds level first second found is =
    none_leaks (flat_system design) holds level (given (registers design) first.start)
    (given (registers design) second.start) (map (given (inputs design)) first.cycles)
    (map (given (inputs design)) second.cycles) is.one is.other is.of_first is.of_second
    (finding found) is.finds
