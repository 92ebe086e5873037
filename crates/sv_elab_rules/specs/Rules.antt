-- The rules 301 to 410 as steps: number, place and names of a refusal (this project's profile).
use Rattle.std.specs.Prelude.{ℕ, List, [], ◌∷◌}
use Rattle.sv_num.specs.declared.faults.Place.{Place}
use Rattle.sv_elab_rules.specs.Walks.{WalkStep}

abbrev pub step : (rule : ℕ) → Place → List (List ℕ) → WalkStep
step rule place names = record { rule = rule; place = place; names = names }

-- no point, or more than 32
abbrev pub lattice_size : Place → WalkStep
lattice_size p = step 301 p []

-- a point declared twice, or a pair with an unknown point
abbrev pub lattice_name : Place → List ℕ → WalkStep
lattice_name p point = step 302 p (point ∷ [])

-- two points flow to each other
abbrev pub circle : Place → (a b : List ℕ) → WalkStep
circle p a b = step 303 p (a ∷ b ∷ [])

-- two points have no least upper point
abbrev pub no_join : Place → (a b : List ℕ) → WalkStep
no_join p a b = step 304 p (a ∷ b ∷ [])

-- two points have no greatest lower point
abbrev pub no_meet : Place → (a b : List ℕ) → WalkStep
no_meet p a b = step 305 p (a ∷ b ∷ [])

-- a label map declared twice
abbrev pub map_name : Place → List ℕ → WalkStep
map_name p map = step 306 p (map ∷ [])

-- a range that is not `[m:0]`, more than 8 bits in all, a key with another number of parts than
-- there are ranges, a part out of range, a key twice, or an unknown point
abbrev pub map_row : Place → List ℕ → WalkStep
map_row p map = step 307 p (map ∷ [])

-- no default, and a key without a row
abbrev pub map_hole : Place → List ℕ → WalkStep
map_hole p map = step 308 p (map ∷ [])

-- the module asked for is absent or, none asked for, not exactly one module is without instances of
-- it
abbrev pub no_top : WalkStep
no_top = step 310 (record { line = 1; column = 1 }) []

-- an instance of no module
abbrev pub unknown_module : Place → List ℕ → WalkStep
unknown_module p master = step 311 p (master ∷ [])

-- a module name twice, or a name twice in one module
abbrev pub twice : Place → List ℕ → WalkStep
twice p name = step 312 p (name ∷ [])

-- an unknown port, a port linked twice, or an output linked to an expression that is not a whole
-- signal's name
abbrev pub wrong_link : Place → List ℕ → WalkStep
wrong_link p port = step 313 p (port ∷ [])

-- too many links
abbrev pub links_over : Place → WalkStep
links_over p = step 313 p []

-- a module inside itself
abbrev pub recursive : Place → List ℕ → WalkStep
recursive p master = step 314 p (master ∷ [])

-- the 4,097th signal or the 1,025th instance
abbrev pub too_many : Place → WalkStep
too_many p = step 315 p []

-- an override of no parameter or of a local one, or a second one
abbrev pub wrong_override : Place → List ℕ → WalkStep
wrong_override p parameter = step 316 p (parameter ∷ [])

-- too many overrides
abbrev pub overrides_over : Place → WalkStep
overrides_over p = step 316 p []

-- a name stands for no signal and no parameter in reach, or for a parameter where a signal is
-- wanted
abbrev pub unknown_name : Place → List ℕ → WalkStep
unknown_name p name = step 401 p (name ∷ [])

-- a length above 64
abbrev pub too_wide : Place → WalkStep
too_wide p = step 402 p []

-- a constant index or part out of range, or a part with its high below its low
abbrev pub bad_select : Place → WalkStep
bad_select p = step 403 p []

-- a signal in a constant place
abbrev pub not_constant : Place → WalkStep
not_constant p = step 404 p []

-- a constant divisor is 0
abbrev pub zero_divisor : Place → WalkStep
zero_divisor p = step 405 p []

-- `/` or `%` with an operand that is not constant
abbrev pub division : Place → WalkStep
division p = step 406 p []

-- an unsized literal directly in a concatenation or replication
abbrev pub unsized_part : Place → WalkStep
unsized_part p = step 407 p []

-- a replication count that is not 1 to 64
abbrev pub bad_count : Place → WalkStep
bad_count p = step 408 p []

-- a range that is not `[m:0]` with m from 0 to 63
abbrev pub bad_range : Place → WalkStep
bad_range p = step 409 p []

-- an unknown point, map or selector, or selectors whose number or widths are not the map's
abbrev pub bad_label : Place → List ℕ → WalkStep
bad_label p name = step 410 p (name ∷ [])
