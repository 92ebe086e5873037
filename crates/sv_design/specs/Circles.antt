-- Circles of reads, and which of them comes first.
use Rattle.std.specs.Prelude.{◌≡◌, ◌<◌, ℕ, Bool, true, List, ◌∷◌, Option, Some, None, IsTrue}
use Rattle.std.specs.Prelude.{IsFalse}
use Rattle.std.specs.declared.alloc.Global.{Global}
use Rattle.std.specs.declared.vec.Vec.{Vec}
use Rattle.sv_flat.specs.declared.signals.SigId.{SigId}
use Rattle.sv_flat.specs.Design.{FlatDesign}
use Rattle.sv_flat.specs.Breaches.{Breach, comes_before, first_signal}
use Rattle.sv_flat.specs.Loops.{is_circle, IsLoop}
use Rattle.sv_rules.specs.declared.found.Found.{Found}
use Rattle.sv_design.specs.declared.loops.Circle.{Circle}
use Rattle.sv_rules.specs.First.{found_before}
use Rattle.sv_flat.specs.Processes.{declared_at}
use Rattle.sv_graph.specs.Marks.{is_marked}
use Rattle.sv_design.specs.Numbers.{numbers}
use Rattle.sv_design.specs.declared.orders.SignalReads.{SignalReads}

-- the breach of a circle
abbrev pub circle_breach : Circle → Breach
circle_breach circle =
    record { number = 607; place = circle.first.place; signals = numbers circle.signals.items }

-- a circle that no circle comes before
pub record IsFirstLoop (design : FlatDesign) (first : Breach) : Type 0 where
  pub is_loop : IsLoop design first
  pub before : (other : Breach) → IsLoop design other → IsFalse (comes_before other first)

-- the circle is one, and none comes before it; or there is none
abbrev pub FindsCircle : FlatDesign → Option Circle → Type 0
FindsCircle design None = (b : Breach) → IsLoop design b → ⊥
FindsCircle design (Some circle) = IsFirstLoop design (circle_breach circle)

-- ---- circles from one signal on

-- the signals are a circle that begins at a signal
abbrev pub IsCircleFrom : FlatDesign → (first : ℕ) → (circle : List ℕ) → Type 0
IsCircleFrom design first circle =
    (signals : List ℕ) × (circle ≡ first ∷ signals)
    × IsTrue (is_circle design (first ∷ signals))

-- likewise, or no circle begins there
abbrev pub FindsCircleFrom : FlatDesign → (first : ℕ) → Option (Vec SigId Global) → Type 0
FindsCircleFrom design first None =
    (signals : List ℕ) → IsTrue (is_circle design (first ∷ signals)) → ⊥
FindsCircleFrom design first (Some circle) = IsCircleFrom design first (numbers circle.items)

-- ---- circles from the signals below a limit on

-- the first of the circles that begin below a limit
pub record IsFirstLoopBelow (design : FlatDesign) (limit : ℕ) (circle : Circle) : Type 0 where
  pub is_loop : IsLoop design (circle_breach circle)
  pub begins : first_signal (circle_breach circle) ≡ circle.first.signal.0
  pub before : (other : Breach) → IsLoop design other → first_signal other < limit
      → IsFalse (comes_before other (circle_breach circle))

-- the circle is that one, or no circle begins below the limit
abbrev pub FindsCircleBelow : FlatDesign → (limit : ℕ) → Option Circle → Type 0
FindsCircleBelow design limit None =
    (b : Breach) → IsLoop design b → first_signal b < limit → ⊥
FindsCircleBelow design limit (Some circle) = IsFirstLoopBelow design limit circle

-- something comes before the circle, if there is one
abbrev pub precedes : Found → Option Circle → Bool
precedes here None = true
precedes here (Some circle) = found_before here circle.first

-- what was found is a combinational signal with its place, if there is one
abbrev pub IsBegin : FlatDesign → SignalReads → Option Found → Type 0
IsBegin design reads None = Unit {0}
IsBegin design reads (Some here) =
    IsTrue (is_marked reads.combs.items here.signal.0)
    × (here.place ≡ declared_at design here.signal.0)
