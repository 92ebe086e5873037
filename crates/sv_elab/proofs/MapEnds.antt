-- Where the walk of a label map ends.
use Rattle.std.proofs.Common.{◌≡◌, ℕ, ◌+◌, ◌^◌, ◌<◌, ◌≤◌, Bool, true, false, not, ◌&&◌, ◌||◌, List}
use Rattle.std.proofs.Common.{[], ◌∷◌, ◌++◌, length, map, Option, Some, None, refl, sym, ap, ◌∙◌}
use Rattle.std.proofs.Common.{subst, arith}
use Rattle.std.specs.Prelude.{Result, Ok, Err, option_map, is_some, unwrap_or, nat_le}
use Rattle.std.specs.Prelude.{if◌then◌else◌}
use Rattle.std.specs.List.{list_all}
use Rattle.std.specs.Map.{lookup}
use Rattle.std.specs.Str.{bytes_eq}
use Rattle.std.proofs.lemmas.Bool.{and_parts, leb-true}
use Rattle.std.proofs.lemmas.List.{same_lists}
use Rattle.std.proofs.lemmas.List.FromFn.{get_or-map-range_with_len, length-map-range_with_len}
use Rattle.sv_lattice.specs.declared.points.Point.{Point}
use Rattle.sv_lattice.specs.Maps.{MapRows, IsMap}
use Rattle.sv_ast.specs.Tree.{MapTree, SpanTree}
use Rattle.sv_ast.specs.Instances.{span_width}
use Rattle.sv_elab_rules.specs.Walks.{WalkStep, Walk, ask, done, ◌>>=◌}
use Rattle.sv_elab_rules.specs.Rules.{map_name, map_row, map_hole}
use Rattle.sv_elab_rules.specs.CaseChains.{numbers_below}
use Rattle.sv_elab_rules.specs.LabelMaps.{no_names, is_map_range, is_second_range, point_at, rows_walk}
use Rattle.sv_elab_rules.specs.LabelMaps.{default_walk, all_rows, has_all_rows, is_map, map_walk}
use Rattle.sv_elab_rules.specs.LabelMaps.{maps_walk}
use Rattle.sv_elab_rules.proofs.WalkLemmas.{end_after, end_broken, joined_ends}
use Rattle.sv_elab.specs.declared.maps.Ranges.{Ranges}
use Rattle.sv_elab.specs.MapParts.{first_width, second_width, bits_in, bits_of, has_ranges}
use Rattle.sv_elab.specs.MapParts.{HasWidths, AreFilled, IsTable, table_point, is_whole, points_in}
use Rattle.sv_elab.specs.MapParts.{own_walk}

-- ---- the table as a list

module _ (bits : ℕ) (rows : List (ℕ × ℕ)) (table : List (Option Point))
    (is : IsTable bits rows table) where
  at_value : ℕ → Option Point
  at_value v = table_point (point_at rows v)

  table_is : table ≡ map at_value (numbers_below (2 ^ bits))
  unfolding at_value
  table_is = same_lists table (map at_value (numbers_below (2 ^ bits)))
      (is.size ∙ sym (length-map-range_with_len at_value 0 (2 ^ bits)))
      (λ k d h. let low : k < 2 ^ bits = subst (λ n. k < n) is.size h in
      is.points k d low ∙ sym
      (get_or-map-range_with_len at_value 0 (2 ^ bits) k k d low (omega arith)))

  all_some : (vs : List ℕ) →
      list_all is_some (map at_value vs) ≡ list_all (λ v. is_some (point_at rows v)) vs
  unfolding at_value
  all_some [] = refl
  all_some (v ∷ vs) = by (point_at rows v) (all_some vs)
    where
      by : (o : Option ℕ) → list_all is_some (map at_value vs) ≡ list_all (λ v.
          is_some (point_at rows v)) vs
          → (is_some (table_point o) && list_all is_some (map at_value vs)) ≡
          (is_some o && list_all (λ v. is_some (point_at rows v)) vs)
      by None rest = refl
      by (Some k) rest = rest

  pub whole_same : (p : Option Point) →
      is_whole table p ≡ (is_some (option_map (λ (q : Point). q.0) p) || has_all_rows bits rows)
  whole_same p =
      ap (λ ts. is_some p || list_all is_some ts) table_is
      ∙ ap (λ b. is_some p || b) (all_some (numbers_below (2 ^ bits))) ∙ by p
    where
      by : (p : Option Point) →
          (is_some p || has_all_rows bits rows) ≡
          (is_some (option_map (λ (q : Point). q.0) p) || has_all_rows bits rows)
      by None = refl
      by (Some q) = refl

  each_point : (p : Option Point) (vs : List ℕ) →
      map (λ o. unwrap_or o (unwrap_or p (record { 0 = 0 }))) (map at_value vs)
      ≡ map (λ v.
      record {
        0 = unwrap_or (point_at rows v)
            (unwrap_or (option_map (λ (q : Point). q.0) p) 0);
      }) vs
  unfolding at_value
  each_point p [] = refl
  each_point p (v ∷ vs) = by (point_at rows v) p (each_point p vs)
    where
      by : (o : Option ℕ) (p : Option Point) {xs ys : List Point} → xs ≡ ys
          → unwrap_or (table_point o) (unwrap_or p (record { 0 = 0 })) ∷ xs
          ≡ (record { 0 = unwrap_or o (unwrap_or (option_map (λ (q : Point). q.0) p) 0) }) ∷ ys
      by None None rest = ap (λ ps. (record { 0 = 0 }) ∷ ps) rest
      by None (Some q) rest = ap (λ ps. q ∷ ps) rest
      by (Some k) p rest = ap (λ ps. (record { 0 = k }) ∷ ps) rest

  pub points_same : (p : Option Point) →
      points_in table p ≡ all_rows bits rows (option_map (λ (q : Point). q.0) p)
  points_same p = ap (λ ts. points_in ts p) table_is ∙ each_point p (numbers_below (2 ^ bits))

  pub points_length : (p : Option Point) → length (points_in table p) ≡ 2 ^ bits
  points_length p =
      ap length (points_same p) ∙ length-map-range_with_len (λ v.
      record { 0 = unwrap_or (point_at rows v) (unwrap_or (option_map (λ (q : Point). q.0) p) 0) })
      0 (2 ^ bits)

-- ---- the ranges

module _ (t : MapTree) (r : Ranges) (has : HasWidths t r) where
  pub few_bits : bits_in r.first r.second ≤ 8
  few_bits =
      let parts = and_parts (is_map_range t.span && is_second_range t.second) (nat_le (bits_of t) 8)
      has.0 in
      subst (λ o. bits_in r.first o ≤ 8) (sym has.2)
      (subst (λ n. bits_in n (second_width t) ≤ 8) (sym has.1) (leb-true (bits_of t) 8 parts.1))

  pub same_bits : bits_in r.first r.second ≡ bits_of t
  same_bits = ap (λ n. bits_in n r.second) has.1 ∙ ap (λ o. bits_in (first_width t) o) has.2

  pub new_is_map : (rows : List Point) → length rows ≡ 2 ^ bits_in r.first r.second →
      IsMap r.first r.second rows
  new_is_map rows size = by t.second has.2 few_bits size
    where
      some : 1 ≤ r.first
      some = let e : r.first ≡ first_width t = has.1 in omega arith

      by : (o : Option SpanTree) → r.second ≡ option_map (λ span. span_width no_names (Some span)) o
          → bits_in r.first r.second ≤ 8
          → length rows ≡ 2 ^ bits_in r.first r.second → IsMap r.first r.second rows
      by None e few size =
          let all : bits_in r.first None ≤ 8 = subst (λ o. bits_in r.first o ≤ 8) e few in
          let none : r.first + 0 ≡ r.first = omega arith in
          rw e (
            some,
            omega arith,
            subst (λ n.
                length rows ≡ 2 ^ n) none (subst (λ o. length rows ≡ 2 ^ bits_in r.first o) e size),
          )
      by (Some span) e few size =
          rw e (
            some,
            omega arith,
            subst (λ o. bits_in r.first o ≤ 8) e few,
            subst (λ o.
                length rows ≡ 2 ^ bits_in r.first o) e size,
          )

-- ---- the steps

module _ (points : List (List ℕ)) (t : MapTree) where
  last : List (ℕ × ℕ) → Option ℕ → Walk MapRows
  last rows other = ask (is_some other || has_all_rows (bits_of t) rows) (map_hole t.place t.name)
      >>= λ _. done (record {
        first = first_width t;
        second = second_width t;
        rows = all_rows (bits_of t) rows other;
      })

  rest : List (ℕ × ℕ) → Walk MapRows
  rest rows = default_walk points t t.other >>= λ other. last rows other

  the_rows : Walk (List (ℕ × ℕ))
  the_rows = rows_walk points t (first_width t) (second_width t) [] t.rows

  pub ranges_broken : has_ranges t ≡ false → (own_walk points t).end ≡ Err (map_row t.place t.name)
  ranges_broken h = rw h refl

  ranged : has_ranges t ≡ true → (own_walk points t).end ≡ (the_rows >>= rest).end
  unfolding the_rows rest last
  ranged h = rw h refl

  module _ (has : has_ranges t ≡ true) where
    pub rows_broken : (s : WalkStep) →
        (rows_walk points t (first_width t) (second_width t) [] t.rows).end ≡ Err s →
        (own_walk points t).end ≡ Err s
    unfolding the_rows
    rows_broken s h = ranged has ∙ end_broken the_rows rest s h

    module _ (rows : List (ℕ × ℕ))
        (rows_are : (rows_walk points t (first_width t) (second_width t) [] t.rows).end ≡
        Ok rows) where
      pub other_stops : (s : WalkStep) → (default_walk points t t.other).end ≡ Err s →
          (own_walk points t).end ≡ Err s
      unfolding the_rows rest
      other_stops s h =
          ranged has ∙ end_after the_rows rest rows rows_are
          ∙ end_broken (default_walk points t t.other) (λ other. last rows other) s h

      to_last : (other : Option ℕ) → (default_walk points t t.other).end ≡ Ok other →
          (own_walk points t).end ≡ (last rows other).end
      unfolding the_rows rest
      to_last other h =
          ranged has ∙ end_after the_rows rest rows rows_are
          ∙ end_after (default_walk points t t.other) (λ other. last rows other) other h

      pub hole_broken : (other : Option ℕ) → (default_walk points t t.other).end ≡ Ok other
          → (is_some other || has_all_rows (bits_of t) rows) ≡ false
          → (own_walk points t).end ≡ Err (map_hole t.place t.name)
      unfolding last
      hole_broken other h k = to_last other h ∙ rw k refl

      pub own_found : (other : Option ℕ) → (default_walk points t t.other).end ≡ Ok other
          → (is_some other || has_all_rows (bits_of t) rows) ≡ true
          → (own_walk points t).end ≡
          Ok (record {
            first = first_width t;
            second = second_width t;
            rows = all_rows (bits_of t) rows other;
          })
      unfolding last
      own_found other h k = to_last other h ∙ rw k refl

-- ---- maps one after another

pub map_there : (maps : List (List ℕ × MapRows)) (n : List ℕ) →
    is_map maps n ≡ is_some (lookup (bytes_eq n) maps)
map_there [] n = refl
map_there (m ∷ maps) n = by (bytes_eq n m.0) (map_there maps n)
  where
    by : (b : Bool) → is_map maps n ≡ is_some (lookup (bytes_eq n) maps)
        → (b || is_map maps n) ≡ is_some (if b then Some m.1 else lookup (bytes_eq n) maps)
    by true rest = refl
    by false rest = rest

module _ (points : List (List ℕ)) (maps : List (List ℕ × MapRows)) (t : MapTree)
    (ts : List MapTree) where
  pub again_broken : is_map maps t.name ≡ true →
      (maps_walk points maps (t ∷ ts)).end ≡ Err (map_name t.place t.name)
  unfolding maps_walk map_walk
  again_broken h = rw h refl

  own_next : is_map maps t.name ≡ false
      → (maps_walk points maps (t ∷ ts)).end ≡ (own_walk points t >>= λ rows.
      maps_walk points (maps ++ (t.name, rows) ∷ []) ts).end
  unfolding maps_walk map_walk
  own_next h =
      let new = ask (not (is_map maps t.name)) (map_name t.place t.name) in
      let more : MapRows → Walk (List (List ℕ × MapRows)) =
      λ rows. maps_walk points (maps ++ (t.name, rows) ∷ []) ts in
      joined_ends new (λ _. own_walk points t) more
      ∙ end_after new (λ _.
      own_walk points t >>= more) tt (ap (λ b. (ask (not b) (map_name t.place t.name)).end) h)

  pub own_broken : is_map maps t.name ≡ false → (s : WalkStep) → (own_walk points t).end ≡ Err s →
      (maps_walk points maps (t ∷ ts)).end ≡ Err s
  own_broken h s e =
      own_next h ∙ end_broken (own_walk points t) (λ rows.
      maps_walk points (maps ++ (t.name, rows) ∷ []) ts) s e

  pub own_passed : is_map maps t.name ≡ false → (rows : MapRows) → (own_walk points t).end ≡ Ok rows
      → (maps_walk points maps (t ∷ ts)).end ≡
      (maps_walk points (maps ++ (t.name, rows) ∷ []) ts).end
  own_passed h rows e =
      own_next h ∙ end_after (own_walk points t) (λ rows.
      maps_walk points (maps ++ (t.name, rows) ∷ []) ts) rows e

pub maps_none : (points : List (List ℕ)) (maps : List (List ℕ × MapRows)) →
    (maps_walk points maps []).end ≡ Ok maps
unfolding maps_walk
maps_none points maps = refl

-- ---- the whole map, as the code makes it

module _ (points : List (List ℕ)) (t : MapTree) (r : Ranges) (has : HasWidths t r) where
  rows_at : (end : Result (List (ℕ × ℕ)) WalkStep)
      → (rows_walk points t r.first r.second [] t.rows).end ≡ end
      → (rows_walk points t (first_width t) (second_width t) [] t.rows).end ≡ end
  rows_at end h =
      ap (λ n. (rows_walk points t n (second_width t) [] t.rows).end) (sym has.1)
      ∙ ap (λ o. (rows_walk points t r.first o [] t.rows).end) (sym has.2) ∙ h

  pub rows_stop : (s : WalkStep) → (rows_walk points t r.first r.second [] t.rows).end ≡ Err s →
      (own_walk points t).end ≡ Err s
  rows_stop s h = rows_broken points t has.0 s (rows_at (Err s) h)

  module _ (table : List (Option Point)) (filled : AreFilled points t r.first r.second table) where
    pub other_stop : (s : WalkStep) → (default_walk points t t.other).end ≡ Err s →
        (own_walk points t).end ≡ Err s
    other_stop s h = other_stops points t has.0 filled.0 (rows_at (Ok filled.0) filled.1) s h

    table_at : IsTable (bits_of t) filled.0 table
    table_at = subst (λ n. IsTable n filled.0 table) (same_bits t r has) filled.2

    module _ (p : Option Point) (other : (default_walk points t t.other).end ≡
        Ok (option_map (λ (q : Point). q.0) p)) where
      pub map_stop : is_whole table p ≡ false →
          (own_walk points t).end ≡ Err (map_hole t.place t.name)
      map_stop h =
          hole_broken points t has.0 filled.0 (rows_at (Ok filled.0) filled.1)
          (option_map (λ (q : Point). q.0) p) other
          (sym (whole_same (bits_of t) filled.0 table table_at p) ∙ h)

      pub map_length : (all : List Point) → all ≡ points_in table p →
          length all ≡ 2 ^ bits_in r.first r.second
      map_length all is =
          ap length is ∙ points_length (bits_in r.first r.second) filled.0 table filled.2 p

      pub map_made : (all : List Point) → is_whole table p ≡ true → all ≡ points_in table p
          → (own_walk points t).end ≡ Ok (record { first = r.first; second = r.second; rows = all })
      map_made all h is =
          own_found points t has.0 filled.0 (rows_at (Ok filled.0) filled.1)
          (option_map (λ (q : Point). q.0) p) other
          (sym (whole_same (bits_of t) filled.0 table table_at p) ∙ h)
          ∙ ap (λ (ps : List Point).
          Ok (record { first = first_width t; second = second_width t; rows = ps }))
          (sym (points_same (bits_of t) filled.0 table table_at p) ∙ sym is)
          ∙ ap (λ n. Ok (record { first = n; second = second_width t; rows = all })) (sym has.1)
          ∙ ap (λ o. Ok (record { first = r.first; second = o; rows = all })) (sym has.2)
