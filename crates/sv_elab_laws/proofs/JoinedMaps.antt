-- The rows of a flat map are those of its text, at each value of its range.
use Rattle.std.proofs.Common.{◌≡◌, ℕ, suc, ◌+◌, ◌*◌, ◌^◌, ◌<◌, ◌≤◌, Bool, true, false, cond}
use Rattle.std.proofs.Common.{List, [], ◌∷◌, ◌++◌, Option, Some, None, refl, sym, ap}
use Rattle.std.proofs.Common.{subst, ◌∙◌, arith, ◌⊎◌, inl, inr, ⊎_elim}
use Rattle.std.specs.Prelude.{not, ◌==◌, ◌&&◌, ◌||◌, nat_le, find, unwrap_or}
use Rattle.std.specs.Prelude.{is_some, is_none, option_map, slice_index_or, Ok}
use Rattle.std.specs.Prelude.{ℤ, pos, negsuc}
use Rattle.std.specs.List.{AllZip, position_or_len}
use Rattle.std.specs.Option.{option_map_or}
use Rattle.std.proofs.lemmas.Bool.{cases_Bool, false≢true, and_parts, and_from, eqb-true, eq-eqb}
use Rattle.std.proofs.lemmas.Bool.{ltb-true, cases_order, or_cases}
use Rattle.std.proofs.lemmas.List.{append_assoc, append-nil}
use Rattle.std.proofs.lemmas.List.FromFn.{get_or-map-range_with_len}
use Rattle.sv_lattice.specs.declared.points.Point.{Point}
use Rattle.sv_lattice.specs.Maps.{MapRows, row_of}
use Rattle.sv_ast.specs.Tree.{SpanTree, KeyTree, RowTree, MapTree}
use Rattle.sv_ast.specs.Values.{natural}
use Rattle.sv_ast.specs.Instances.{span_width}
use Rattle.sv_ast.specs.SourceLabels.{is_natural, row_at}
use Rattle.sv_ast.specs.SourceLabels.{is_key as is_source_key, is_second_key as is_source_second}
use Rattle.sv_elab_rules.specs.Walks.{ask, found}
use Rattle.sv_elab_rules.specs.Rules.{map_name, map_row, map_hole}
use Rattle.sv_elab_rules.specs.ExpressionSteps.{is_below}
use Rattle.sv_elab_rules.specs.Lattices.{point_number}
use Rattle.sv_elab_rules.specs.CaseChains.{numbers_below}
use Rattle.sv_elab_rules.specs.LabelMaps.{no_names, is_map_range, is_second_range, key_number, is_key}
use Rattle.sv_elab_rules.specs.LabelMaps.{is_second_key, second_value, key_value, point_at, rows_walk}
use Rattle.sv_elab_rules.specs.LabelMaps.{default_walk, all_rows, has_all_rows, is_map, map_walk}
use Rattle.sv_elab_rules.specs.LabelMaps.{maps_walk}
use Rattle.sv_elab_rules.proofs.WalkLemmas.{parts_done, asked_true, found_some}
use Rattle.sv_flat.proofs.LeastSets.{range_has}
use Rattle.sv_flat.proofs.Depths.{from_all}
use Rattle.sv_elab_laws.proofs.PartsDeclared.{same_ok}
use Rattle.sv_elab_laws.proofs.JoinedClocks.{same_bool}
use Rattle.sv_elab_laws.proofs.JoinedLattice.{IsPointNumber}

-- ---- the first that passes, on both sides

module _ {X Y : Type 0} (R : X → Y → Type 0) (f : X → Bool) (g : Y → Bool) where
  -- both find nothing, or two that belong together
  pub data BothFind (xs : List X) (ys : List Y) : Type 0 where
    nothing_found : find f xs ≡ None → find g ys ≡ None → BothFind xs ys
    both_found : (x : X) → (y : Y) → find f xs ≡ Some x → find g ys ≡ Some y → R x y →
        BothFind xs ys

  pub find_both : (xs : List X) (ys : List Y) → AllZip R xs ys →
      ((x : X) (y : Y) → R x y → f x ≡ g y) → BothFind xs ys
  find_both [] [] h same = nothing_found refl refl
  find_both [] (y ∷ ys) h same = absurd h
  find_both (x ∷ xs) [] h same = absurd h
  find_both (x ∷ xs) (y ∷ ys) h same = by_test (cases_Bool (f x)) (find_both xs ys h.1 same)
    where
      by_test : (f x ≡ true) ⊎ (f x ≡ false) → BothFind xs ys → BothFind (x ∷ xs) (y ∷ ys)
      by_test (inl yes') rest = both_found x y (ap (λ b. cond b (Some x) (find f xs)) yes')
          (ap (λ b. cond b (Some y) (find g ys)) (sym (same x y h.0) ∙ yes')) h.0
      by_test (inr no') (nothing_found a b) = nothing_found
          (ap (λ c. cond c (Some x) (find f xs)) no' ∙ a)
          (ap (λ c. cond c (Some y) (find g ys)) (sym (same x y h.0) ∙ no') ∙ b)
      by_test (inr no') (both_found z w a b r) = both_found z w
          (ap (λ c. cond c (Some x) (find f xs)) no' ∙ a)
          (ap (λ c. cond c (Some y) (find g ys)) (sym (same x y h.0) ∙ no') ∙ b) r

  pub same_places : (xs : List X) (ys : List Y) → AllZip R xs ys
      → ((x : X) (y : Y) → R x y → f x ≡ g y)
      → position_or_len f xs ≡ position_or_len g ys
  same_places [] [] h same = refl
  same_places [] (y ∷ ys) h same = absurd h
  same_places (x ∷ xs) [] h same = absurd h
  same_places (x ∷ xs) (y ∷ ys) h same =
      ap (λ b. cond (not b) (1 + position_or_len f xs) 0) (same x y h.0)
      ∙ ap (λ k. cond (not (g y)) (1 + k) 0) (same_places xs ys h.1 same)

-- ---- rows

-- a row of the walk is that of a row of the text
pub record IsRowOf (points : List (List ℕ)) (first : ℕ) (second : Option ℕ) (r : RowTree) (row : ℕ
    × ℕ) : Type 0 where
  pub key : row.0 ≡ key_value second r
  pub point : IsPointNumber points r.to row.1
  pub fits : is_key first r.first ≡ true
  pub second_fits : is_second_key second r.second ≡ true

rows_done : (points : List (List ℕ)) (t : MapTree) (first : ℕ) (second : Option ℕ)
    (rows : List RowTree) (earlier all : List (ℕ × ℕ))
    → (rows_walk points t first second earlier rows).end ≡ Ok all
    → (new : List (ℕ × ℕ)) × (all ≡ earlier ++ new) × AllZip (IsRowOf points first second) rows new
unfolding rows_walk
rows_done points t first second [] earlier all h =
    ([], sym (same_ok earlier all h) ∙ sym (append-nil earlier), tt)
rows_done points t first second (row ∷ rows) earlier all h =
    let test = is_key first row.first && is_second_key second row.second in
    let fits = parts_done (ask test (map_row t.place t.name)) _ all h in
    let fresh = parts_done
    (ask (is_none (point_at earlier (key_value second row))) (map_row t.place t.name)) _ all
    fits.2 in
    let point = parts_done (found (point_number points row.to) (map_row t.place t.name))
    (λ k. rows_walk points t first second (earlier ++ (key_value second row, k) ∷ []) rows) all
    fresh.2 in
    let both = and_parts (is_key first row.first) (is_second_key second row.second)
    (asked_true test (map_row t.place t.name) fits.1) in
    let rest = rows_done points t first second rows
    (earlier ++ (key_value second row, point.0) ∷ []) all point.2 in (
      (key_value second row, point.0) ∷ rest.0,
      rest.1 ∙ append_assoc earlier ((key_value second row, point.0) ∷ []) rest.0,
      (
        record {
          key = refl;
          point = found_some (point_number points row.to) (map_row t.place t.name) point.0 point.1;
          fits = both.0;
          second_fits = both.1;
        },
        rest.2,
      ),
    )

-- ---- keys

one_key : (z : ℤ) (limit v : ℕ) → is_below limit z ≡ true →
    (is_natural z v ≡ (natural z == v)) × (natural z < limit)
one_key (pos k) limit v h = (refl, ltb-true k limit h)
one_key (negsuc k) limit v h = absurd (false≢true h)

less_rows : (a c m : ℕ) → suc a ≤ c → suc a * m ≤ c * m
less_rows a c m h = grind arith

-- two numbers by their rows and places are the same only in both
same_digits : (a b c d m : ℕ) → b < m → d < m → a * m + b ≡ c * m + d → (a ≡ c) × (b ≡ d)
same_digits a b c d m low other e = ⊎_elim
    (λ is. (is, let same : a * m ≡ c * m = ap (λ x. x * m) is in omega arith))
    (λ apart. ⊎_elim
    (λ less. absurd (let more = less_rows a c m less in omega arith))
    (λ less. absurd (let more = less_rows c a m less in omega arith))
    apart)
    (cases_order a c)

-- the value of a pair of selectors, or of one
abbrev pub selected_value : (second : Option ℕ) → (v : ℕ) → Option ℕ → ℕ
selected_value second v None = v
selected_value second v (Some w) = v * 2 ^ unwrap_or second 0 + w

-- the second value fits the second range, where there is one
abbrev pub SecondFits : Option ℕ → Option ℕ → Type 0
SecondFits None None = Unit {0}
SecondFits (Some width) (Some w) = w < 2 ^ width
SecondFits _ _ = ⊥

keys_same : (points : List (List ℕ)) (first : ℕ) (second : Option ℕ) (v : ℕ) (w : Option ℕ)
    → SecondFits second w
    → (r : RowTree) (row : ℕ × ℕ) → IsRowOf points first second r row
    → (is_source_key r.first v && is_source_second r.second w) ≡
    (row.0 == selected_value second v w)
keys_same points first second v w fits r row is =
    by_second second w r.second fits is.second_fits refl
    ∙ ap (λ k. k == selected_value second v w) (sym is.key)
  where
    z : ℤ
    z = key_number r.first

    one : (is_natural (key_number r.first) v ≡ (natural (key_number r.first) == v))
        × (natural (key_number r.first) < 2 ^ first)
    one = one_key (key_number r.first) (2 ^ first) v is.fits

    and_yes : (b : Bool) → (b && true) ≡ b
    and_yes true = refl
    and_yes false = refl

    by_second : (s u : Option ℕ) (k : Option KeyTree) → SecondFits s u → is_second_key s k ≡ true
        → second_value k ≡ second_value k
        → (is_source_key r.first v && is_source_second k u) ≡
        (natural (key_number r.first) * 2 ^ unwrap_or s 0 + second_value k
        == selected_value s v u)
    by_second None None None f h e =
        and_yes (is_source_key r.first v) ∙ one.0
        ∙ ap (λ x. x == v) (let q : natural (key_number r.first) ≡
        natural (key_number r.first) * 1 + 0 = omega arith in q)
    by_second None None (Some k) f h e = absurd (false≢true h)
    by_second None (Some u) k f h e = absurd f
    by_second (Some m) None k f h e = absurd f
    by_second (Some m) (Some u) None f h e = absurd (false≢true h)
    by_second (Some m) (Some u) (Some k) f h e =
        let two = one_key (key_number k) (2 ^ m) u h in
        let a = natural (key_number r.first) in
        let b = natural (key_number k) in
        ap (λ x. x && is_source_key k u) one.0 ∙ ap (λ x. (a == v) && x) two.0
        ∙ same_bool ((a == v) && (b == u)) (a * 2 ^ m + b == v * 2 ^ m + u)
        (λ both.
        let parts = and_parts (a == v) (b == u) both in
        eq-eqb (a * 2 ^ m + b) (v * 2 ^ m + u)
        (ap (λ x. x * 2 ^ m + b) (eqb-true a v parts.0)
        ∙ ap (λ x. v * 2 ^ m + x) (eqb-true b u parts.1)))
        (λ same.
        let parts = same_digits a b v u (2 ^ m) two.1 f
        (eqb-true (a * 2 ^ m + b) (v * 2 ^ m + u) same) in
        and_from (a == v) (b == u) (eq-eqb a v parts.0) (eq-eqb b u parts.1))

-- ---- maps

-- a flat map is that of a map of the text
pub record IsMapOf (points : List (List ℕ)) (t : MapTree) (m : List ℕ × MapRows) : Type 0 where
  pub name : m.0 ≡ t.name
  pub first_is : m.1.first ≡ span_width no_names (Some t.span)
  pub second_is : m.1.second ≡
      option_map (λ (s : SpanTree). span_width no_names (Some s)) t.second
  pub rows : List (ℕ × ℕ)
  pub each_row : AllZip (IsRowOf points m.1.first m.1.second) t.rows rows
  pub other : Option ℕ
  pub other_walked : (default_walk points t t.other).end ≡ Ok other
  pub whole : (is_some other || has_all_rows (m.1.first + unwrap_or m.1.second 0) rows) ≡ true
  pub all : m.1.rows ≡ all_rows (m.1.first + unwrap_or m.1.second 0) rows other

map_done : (points : List (List ℕ)) (earlier : List (List ℕ × MapRows)) (t : MapTree) (m : MapRows)
    → (map_walk points earlier t).end ≡ Ok m
    → IsMapOf points t (t.name, m)
unfolding map_walk
map_done points earlier t m h =
    let first = span_width no_names (Some t.span) in
    let second = option_map (λ (s : SpanTree). span_width no_names (Some s)) t.second in
    let bits = first + unwrap_or second 0 in
    let fresh = parts_done (ask (not (is_map earlier t.name)) (map_name t.place t.name)) _ m h in
    let range = parts_done
    (ask (is_map_range t.span && is_second_range t.second && nat_le bits 8)
    (map_row t.place t.name)) _ m fresh.2 in
    let rows = parts_done (rows_walk points t first second [] t.rows) _ m range.2 in
    let other = parts_done (default_walk points t t.other) _ m rows.2 in
    let whole = parts_done
    (ask (is_some other.0 || has_all_rows bits rows.0) (map_hole t.place t.name)) _ m other.2 in
    let built = rows_done points t first second t.rows [] rows.0 rows.1 in
    let made : MapRows =
    record { first = first; second = second; rows = all_rows bits rows.0 other.0 } in
    subst (λ (z : MapRows). IsMapOf points t (t.name, z)) (same_ok made m whole.2) (record {
      name = refl;
      first_is = refl;
      second_is = refl;
      rows = rows.0;
      each_row = subst (AllZip (IsRowOf points first second) t.rows) (sym built.1) built.2;
      other = other.0;
      other_walked = other.1;
      whole =
          asked_true (is_some other.0 || has_all_rows bits rows.0) (map_hole t.place t.name)
          whole.1;
      all = refl;
    })

pub maps_done : (points : List (List ℕ)) (ts : List MapTree) (earlier all : List (List ℕ × MapRows))
    → (maps_walk points earlier ts).end ≡ Ok all
    → (new : List (List ℕ × MapRows)) × (all ≡ earlier ++ new) × AllZip (IsMapOf points) ts new
unfolding maps_walk
maps_done points [] earlier all h = ([], sym (same_ok earlier all h) ∙ sym (append-nil earlier), tt)
maps_done points (t ∷ ts) earlier all h =
    let first = parts_done (map_walk points earlier t) (λ rows.
    maps_walk points (earlier ++ (t.name, rows) ∷ []) ts) all h in
    let rest = maps_done points ts (earlier ++ (t.name, first.0) ∷ []) all first.2 in (
      (t.name, first.0) ∷ rest.0,
      rest.1 ∙ append_assoc earlier ((t.name, first.0) ∷ []) rest.0,
      (map_done points earlier t first.0 first.1, rest.2),
    )

default_done : (points : List (List ℕ)) (t : MapTree) (o : Option (List ℕ)) (other : Option ℕ)
    → (default_walk points t o).end ≡ Ok other
    → ((o ≡ None) × (other ≡ None))
    ⊎ ((n : List ℕ) × (k : ℕ) × (o ≡ Some n) × (other ≡ Some k) × IsPointNumber points n k)
unfolding default_walk
default_done points t None other h = inl (refl, sym (same_ok None other h))
default_done points t (Some n) other h =
    let point = parts_done (found (point_number points n) (map_row t.place t.name)) _ other h in
    inr (
      n,
      point.0,
      refl,
      sym (same_ok (Some point.0) other point.2),
      found_some
          (point_number points n) (map_row t.place t.name) point.0 point.1,
    )

module _ (points : List (List ℕ)) (t : MapTree) (m : List ℕ
    × MapRows) (is : IsMapOf points t m) where
  abbrev bits : ℕ
  bits = m.1.first + unwrap_or m.1.second 0

  abbrev row_number : ℕ → ℕ
  row_number key = unwrap_or (point_at is.rows key) (unwrap_or is.other 0)

  row_is : (key : ℕ) → key < 2 ^ bits → (row_of m.1 key).0 ≡ row_number key
  row_is key below =
      ap (λ (ps : List Point). (slice_index_or ps key (record { 0 = 0 })).0) is.all
      ∙ ap (λ (p : Point).
      p.0) (get_or-map-range_with_len (λ value.
      record { 0 = unwrap_or (point_at is.rows value) (unwrap_or is.other 0) }) 0
      (2 ^ bits) key key
      (record { 0 = 0 }) below (omega arith))

  -- at each value of the range a flat map has the number of the point of its text
  pub same_row : (v : ℕ) (w : Option ℕ) → SecondFits m.1.second w
      → selected_value m.1.second v w < 2 ^ bits → (least : List ℕ)
      → IsPointNumber points (unwrap_or (row_at t v w) least)
      (row_of m.1 (selected_value m.1.second v w)).0
  same_row v w fits below least =
      let key = selected_value m.1.second v w in
      subst (IsPointNumber points (unwrap_or (row_at t v w) least)) (sym (row_is key below))
      (by_found (find_both (IsRowOf points m.1.first m.1.second) (λ (r : RowTree).
      is_source_key r.first v && is_source_second r.second w)
      (λ (row : ℕ × ℕ). row.0 == key) t.rows is.rows is.each_row
      (keys_same points m.1.first m.1.second v w fits)))
    where
      test : RowTree → Bool
      test r = is_source_key r.first v && is_source_second r.second w

      by_found : BothFind (IsRowOf points m.1.first m.1.second) (λ (r : RowTree).
          is_source_key r.first v && is_source_second r.second w)
          (λ (row : ℕ × ℕ). row.0 == selected_value m.1.second v w) t.rows is.rows
          → IsPointNumber points (unwrap_or (row_at t v w) least)
          (row_number (selected_value m.1.second v w))
      by_found (both_found r row a b both) =
          subst (λ o. IsPointNumber points
          (unwrap_or (option_map_or (λ (x : RowTree). Some x.to) o t.other) least)
          (row_number (selected_value m.1.second v w))) (sym a)
          (subst (λ o. IsPointNumber points r.to
          (unwrap_or (option_map (λ (x : ℕ × ℕ). x.1) o) (unwrap_or is.other 0))) (sym b)
          both.point)
      by_found (nothing_found a b) = ⊎_elim
          (λ none.
          let key = selected_value m.1.second v w in
          let all = ⊎_elim (λ some. absurd (false≢true (sym (ap is_some none.1) ∙ some)))
          (λ rows. rows)
          (or_cases (is_some is.other) (has_all_rows bits is.rows) is.whole) in
          let has = from_all (λ value. is_some (point_at is.rows value)) (numbers_below (2 ^ bits))
          key all (range_has (2 ^ bits) key below) in
          absurd (false≢true (ap (λ o. is_some (option_map (λ (x : ℕ × ℕ). x.1) o)) (sym b) ∙ has)))
          (λ some.
          subst (λ o. IsPointNumber points
          (unwrap_or (option_map_or (λ (x : RowTree). Some x.to) o t.other) least)
          (row_number (selected_value m.1.second v w))) (sym a)
          (subst (λ o. IsPointNumber points (unwrap_or t.other least)
          (unwrap_or (option_map (λ (x : ℕ × ℕ). x.1) o) (unwrap_or is.other 0))) (sym b)
          (subst (λ o. IsPointNumber points (unwrap_or o least) (unwrap_or is.other 0)) (sym some.2)
          (subst (λ o. IsPointNumber points some.0 (unwrap_or o 0)) (sym some.3) some.4))))
          (default_done points t t.other is.other is.other_walked)
