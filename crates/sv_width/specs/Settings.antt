-- Private: how the code goes. Which names an expression may name, in the settings of the code; the
-- meaning stands in `asked` of sv_elab_rules/specs/ExpressionSteps.antt.
use Rattle.std.specs.Prelude.{ℕ, Bool, true, false, not, List, if◌then◌else◌}
use Rattle.sv_num.specs.declared.faults.Place.{Place}
use Rattle.sv_elab_rules.specs.Walks.{WalkStep, Steps, ask, ◌>>=◌}
use Rattle.sv_elab_rules.specs.Rules.{unknown_name, not_constant}
use Rattle.sv_elab_rules.specs.Names.{Names, means_signal}
use Rattle.sv_width.specs.declared.lookups.Reach.{Reach}
use Rattle.sv_width.specs.declared.lookups.Setting.{Setting}
use Rattle.sv_width.specs.declared.lookups.Setting.TheVariants.{Open, Constant, Declaring}
use Rattle.sv_width.specs.Scopes.{Known, names_of, names_ahead}

-- the names that are in reach
abbrev pub names_in : Setting → Known → Names
names_in Open known = names_of known
names_in Constant known = names_of known
names_in Declaring known = names_ahead known

abbrev pub reach_names : Reach → Names
reach_names r = names_in r.setting r.scope.now

-- whether it is a constant place
abbrev pub is_constant : Setting → Bool
is_constant Open = false
is_constant Constant = true
is_constant Declaring = true

-- the step that refuses a name that stands for nothing yet
abbrev pub absent_step : Names → Place → List ℕ → WalkStep
absent_step names place n = if names.later n then not_constant place else unknown_name place n

-- the steps at the name of which a bit or a part is taken
abbrev pub selected_steps : Names → (constant : Bool) → Place → List ℕ → Steps
selected_steps names c place n = do
  _ ← ask (means_signal names n) (unknown_name place n)
  ask (not c) (not_constant place)
