-- No combinational signals read each other in a circle (this project's profile; in IEEE 1364-2005,
-- clause 11, such processes need not come to rest).
use Rattle.std.specs.Prelude.{◌≡◌, ℕ, Bool, true, false, ◌==◌, ◌&&◌, ◌||◌, not, nat_lt, IsTrue}
use Rattle.std.specs.Prelude.{List, [], ◌∷◌}
use Rattle.std.specs.List.{list_any, list_all}
use Rattle.sv_flat.specs.Design.{FlatDesign}
use Rattle.sv_flat.specs.Reads.{is_combinational, is_read_for, reads_for}
use Rattle.sv_flat.specs.Processes.{declared_at, signals_that}
use Rattle.sv_flat.specs.Sets.{holds}
use Rattle.sv_flat.specs.Breaches.{Breach}

-- each of the signals reads only inputs, registers and signals that stand before it, in the list or
-- in what comes first
abbrev pub reads_only_before : FlatDesign → (first signals : List ℕ) → Bool
reads_only_before design first [] = true
reads_only_before design first (s ∷ signals) =
    list_all (λ t. not (is_combinational design t) || holds first t) (reads_for design s)
    && reads_only_before design (s ∷ first) signals

-- a list with every combinational signal, in which each reads only earlier ones
abbrev pub is_read_order : FlatDesign → List ℕ → Bool
is_read_order design signals =
    list_all (holds signals) (signals_that design (is_combinational design))
    && reads_only_before design [] signals

abbrev pub HasReadOrder : FlatDesign → Type 0
HasReadOrder design = (signals : List ℕ) × IsTrue (is_read_order design signals)

-- a reads the first of the signals, each of them the next, and the last of them z
abbrev pub reads_along : FlatDesign → ℕ → List ℕ → ℕ → Bool
reads_along design a [] z = is_read_for design a z
reads_along design a (b ∷ signals) z = is_read_for design a b && reads_along design b signals z

-- no number stands in the list twice
abbrev pub all_differ : List ℕ → Bool
all_differ [] = true
all_differ (a ∷ others) = not (list_any (λ b. b == a) others) && all_differ others

-- combinational signals in a circle, from the least of them on, each reading the next and the last
-- the first
abbrev pub is_circle : FlatDesign → List ℕ → Bool
is_circle design [] = false
is_circle design (a ∷ signals) =
    reads_along design a signals a
    && list_all (is_combinational design) (a ∷ signals)
    && list_all (nat_lt a) signals
    && all_differ signals

-- rule 607, at the declaration of the first signal of the circle
abbrev pub loop_breach : FlatDesign → (first : ℕ) → List ℕ → Breach
loop_breach design first signals =
    record { number = 607; place = declared_at design first; signals = first ∷ signals }

-- the breach is that of a circle
abbrev pub IsLoop : FlatDesign → Breach → Type 0
IsLoop design b =
    (first : ℕ) × (signals : List ℕ)
    × IsTrue (is_circle design (first ∷ signals)) × (b ≡ loop_breach design first signals)
