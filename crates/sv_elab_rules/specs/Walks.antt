-- A walk over a text: the rules that it asks, in order. It ends at the first one that is broken, or
-- else with what it found (this project's profile).
use Rattle.std.specs.Prelude.{ℕ, Bool, true, false, List, [], ◌∷◌, ◌++◌, Option, Some, None, Result}
use Rattle.std.specs.Prelude.{Ok, Err}
use Rattle.sv_num.specs.declared.faults.Place.{Place}

-- a rule that is asked, by its number, with the place and the names of a refusal by it
pub record WalkStep : Type 0 where
  pub rule : ℕ
  pub place : Place
  pub names : List (List ℕ)

-- the steps that were passed, and what they lead to: a value, or the step that is broken
pub record Walk (X : Type 0) : Type 0 where
  pub passed : List WalkStep
  pub end : Result X WalkStep

-- a walk that asks and finds nothing
abbrev pub Steps : Type 0
Steps = Walk (Unit {0})

abbrev pub done : {X : Type 0} → X → Walk X
done x = record { passed = []; end = Ok x }

-- the step is passed where the test holds, else broken
abbrev pub ask : Bool → WalkStep → Steps
ask true s = record { passed = s ∷ []; end = Ok tt }
ask false s = record { passed = []; end = Err s }

-- the step is passed where there is something, and finds it
abbrev pub found : {X : Type 0} → Option X → WalkStep → Walk X
found (Some x) s = record { passed = s ∷ []; end = Ok x }
found None s = record { passed = []; end = Err s }

-- the step is broken, whatever would follow
abbrev pub broken : {X : Type 0} → WalkStep → Walk X
broken s = record { passed = []; end = Err s }

-- what follows where nothing was broken
abbrev pub then_walk : {X Y : Type 0} → List WalkStep → Result X WalkStep → (X → Walk Y) → Walk Y
then_walk passed (Ok x) more =
    let next = more x in record { passed = passed ++ next.passed; end = next.end }
then_walk passed (Err s) more = record { passed = passed; end = Err s }

-- one walk, and then the one that follows from what it found
infixl 10 ◌>>=◌
abbrev pub ◌>>=◌ : {X Y : Type 0} → Walk X → (X → Walk Y) → Walk Y
w >>= more = then_walk w.passed w.end more

-- a walk for each of some things, in order
unfoldable pub each : {X : Type 0} → (X → Steps) → List X → Steps
each step [] = done tt
each step (x ∷ xs) = do
  _ ← step x
  each step xs

-- the value of a result, or else the given one
abbrev pub value_or : {X : Type 0} → Result X WalkStep → X → X
value_or (Ok x) other = x
value_or (Err s) other = other
