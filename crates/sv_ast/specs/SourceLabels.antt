-- The lattice, the label maps and the labels of a text (SecVerilog, ASPLOS 2015). Points go by
-- their names.
use Rattle.std.specs.Prelude.{◌≡◌, ℕ, Bool, true, false, ◌==◌, ◌&&◌, List, [], ◌∷◌, map, find}
use Rattle.std.specs.Prelude.{length, Contains, Option, Some, None, unwrap_or, option_map}
use Rattle.std.specs.Prelude.{option_and_then, codes, ℤ, pos, negsuc}
use Rattle.std.specs.List.{list_all}
use Rattle.std.specs.Option.{option_map_or}
use Rattle.std.specs.Str.{bytes_eq}
use Rattle.sv_num.specs.Vectors.{as_number}
use Rattle.sv_system.specs.System.{Environment}
use Rattle.sv_ast.specs.Reach.{Leads, holds, reached}
use Rattle.sv_ast.specs.Tree.{LabelTree, point_label, table_label, PlacedName, PairTree}
use Rattle.sv_ast.specs.Tree.{LatticeTree, KeyTree, RowTree, MapTree, TextTree}

-- The lattice of a text; without one it has the points L and H, and L flows to H.

-- the names of the points, in the order of their declaration
abbrev pub points : TextTree → List (List ℕ)
points text = option_map_or
    (λ (l : LatticeTree). map (λ (p : PlacedName). p.name) l.points)
    text.lattice (codes "L" ∷ codes "H" ∷ [])

-- the declared pairs: the first flows to the second
abbrev pub pairs : TextTree → List (List ℕ × List ℕ)
pairs text = option_map_or
    (λ (l : LatticeTree). map (λ (p : PairTree). (p.lower.name, p.upper.name)) l.pairs)
    text.lattice ((codes "L", codes "H") ∷ [])

-- a flows to b: declared pairs lead from a to b
abbrev pub Flows : TextTree → List ℕ → List ℕ → Type 0
Flows text a b = Leads (pairs text) a b

-- likewise as a test: in at most as many steps as there are points
abbrev pub flows : TextTree → List ℕ → List ℕ → Bool
flows text a b = holds bytes_eq (reached bytes_eq (pairs text) (length (points text)) (a ∷ [])) b

-- the point that flows to all
abbrev pub least : TextTree → List ℕ
least text = unwrap_or (find (λ a. list_all (flows text a) (points text)) (points text)) []

-- the least point that two points flow to
pub record IsJoin (text : TextTree) (a b c : List ℕ) : Type 0 where
  pub is_point : Contains (points text) c
  pub above_first : Flows text a c
  pub above_second : Flows text b c
  pub below_others : (d : List ℕ) → Contains (points text) d
      → Flows text a d → Flows text b d → Flows text c d

-- the greatest point that flows to two points
pub record IsMeet (text : TextTree) (a b c : List ℕ) : Type 0 where
  pub is_point : Contains (points text) c
  pub below_first : Flows text c a
  pub below_second : Flows text c b
  pub above_others : (d : List ℕ) → Contains (points text) d
      → Flows text d a → Flows text d b → Flows text d c

-- the points are a lattice: no two different points flow to each other, and any two have a least
-- upper point and a greatest lower one
pub record PointsAreLattice (text : TextTree) : Type 0 where
  pub apart : (a b : List ℕ) → Contains (points text) a → Contains (points text) b
      → Flows text a b → Flows text b a → a ≡ b
  pub joins : (a b : List ℕ) → Contains (points text) a → Contains (points text) b
      → (c : List ℕ) × IsJoin text a b c
  pub meets : (a b : List ℕ) → Contains (points text) a → Contains (points text) b
      → (c : List ℕ) × IsMeet text a b c

-- Label maps.

-- whether a whole number is the natural number v
abbrev pub is_natural : ℤ → (v : ℕ) → Bool
is_natural (pos k) v = k == v
is_natural (negsuc k) v = false

-- whether a value has the given key, read by its own signedness
abbrev pub is_key : KeyTree → (v : ℕ) → Bool
is_key key v = is_natural (as_number key.value.width key.value.signed key.value.value) v

-- likewise for a second key, which a row has where the map has two ranges
abbrev pub is_second_key : Option KeyTree → Option ℕ → Bool
is_second_key (Some key) (Some v) = is_key key v
is_second_key None None = true
is_second_key _ _ = false

-- a map's point at a value, or at a pair of values: that of the row with these keys, or else that
-- of all other keys
abbrev pub row_at : MapTree → (first : ℕ) → (second : Option ℕ) → Option (List ℕ)
row_at m v w = option_map_or (λ (r : RowTree). Some r.to)
    (find (λ (r : RowTree). is_key r.first v && is_second_key r.second w) m.rows) m.other

-- the first map of a name
abbrev pub map_named : TextTree → List ℕ → Option MapTree
map_named text n = find (λ (m : MapTree). bytes_eq n m.name) text.maps

-- Labels.

-- the point of a label where the signals of its instance have the given values: the declared one,
-- or the map's row at the values of its selectors. A signal without a label has the least point.
abbrev pub label_point : TextTree → (values : Environment (List ℕ)) → Option LabelTree → List ℕ
label_point text values None = least text
label_point text values (Some (point_label p place)) = p
label_point text values (Some (table_label m first second place)) =
    unwrap_or (option_and_then (λ t. row_at t (values first) (option_map values second))
    (map_named text m)) (least text)
