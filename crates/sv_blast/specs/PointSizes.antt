-- Private: how the code goes. The sizes of labels and of flows between them, told point by point
-- and with no list of keys.
use Rattle.std.specs.Prelude.{ℕ, Bool, false, ◌==◌, ◌&&◌, not, if◌then◌else◌, List, length, map}
use Rattle.std.specs.Prelude.{sum, count_by, slice_index_or}
use Rattle.std.specs.List.{list_any, range_with_len}
use Rattle.sv_lattice.specs.declared.points.Point.{Point}
use Rattle.sv_lattice.specs.declared.labels.Label.{Label}
use Rattle.sv_lattice.specs.declared.labels.Label.TheVariants.{Point as Declared, Table}
use Rattle.sv_lattice.specs.Labels.{map_of}
use Rattle.sv_lattice.specs.Tables.{flow_test}
use Rattle.sv_flat.specs.Design.{FlatDesign}
use Rattle.sv_encoding.specs.Sizes.{point_size, label_of_signal}

-- these points, each with as many keys as rows have it
abbrev pub points_size : (width : ℕ) → List Point → List ℕ → ℕ
points_size width rows points =
    sum (map (λ p. point_size width (count_by (λ (row : Point). row.0 == p) rows)) points)

-- the label may be the point
abbrev pub has_point : FlatDesign → Label → ℕ → Bool
has_point design (Declared point) p = point.0 == p
has_point design (Table map first second) p =
    list_any (λ (row : Point). row.0 == p) (map_of design.maps map).rows

-- to how many of these points, where they are the target's, a point does not flow
abbrev pub stays_from : (lattice : List ℕ) → (from : ℕ) → (target : List Bool) → List ℕ → ℕ
stays_from lattice p target points =
    sum (map (λ q. if slice_index_or target q false && not (flow_test lattice p q) then 1 else 0)
    points)

-- the same for each of these points that is the label's
abbrev pub stays_between : (lattice : List ℕ) → (label target : List Bool) → List ℕ → ℕ
stays_between lattice label target points =
    sum (map (λ p. if slice_index_or label p false
    then stays_from lattice p target (range_with_len 0 (length lattice))
    else 0) points)

-- how many pairs do not flow of a point of a signal's label and one of the target's
abbrev pub stays_at : FlatDesign → (target : List Bool) → (signal : ℕ) → ℕ
stays_at design target s =
    sum (map (λ p. if has_point design (label_of_signal design s) p
    then stays_from design.lattice p target (range_with_len 0 (length design.lattice))
    else 0) (range_with_len 0 (length design.lattice)))

-- those of all these signals
abbrev pub stays_of : FlatDesign → (target : List Bool) → (signals : List ℕ) → ℕ
stays_of design target signals = sum (map (stays_at design target) signals)
