-- Label maps: ranges, keys and rows.
use Rattle.std.proofs.Common.{◌≡◌, ℕ, ◌+◌, ◌-◌, ◌*◌, ◌%◌, ◌^◌, ◌<◌, ◌≤◌, Bool, true, false, cond}
use Rattle.std.proofs.Common.{◌==◌, ◌⊎◌, inl, inr, List, [], ◌∷◌, ◌++◌, find, set, get_or, Option}
use Rattle.std.proofs.Common.{Some, None, refl, sym, ap, ◌∙◌, subst, arith}
use Rattle.std.specs.Prelude.{pos, nat_lt, option_map, is_none, Ok, Err}
use Rattle.std.proofs.lemmas.Nat.{mul-add-lt, pow-add, shl_whole}
use Rattle.std.proofs.lemmas.Bool.{and_from, lt-ltb, ltb-true, ltb-false, eq-eqb, ne_eqb, cases_eq}
use Rattle.std.proofs.lemmas.List.{get_or-set_same, get_or-set_other, get_or_past, length-set}
use Rattle.sv_num.specs.declared.faults.Place.{Place}
use Rattle.sv_num.specs.Vectors.{as_number, is_negative, reduced, number_of}
use Rattle.sv_num.proofs.NumberLemmas.{number_at, wider_above, wider_below}
use Rattle.sv_token.specs.Lexemes.{literal_of}
use Rattle.sv_token.specs.declared.tokens.Lit.{Lit}
use Rattle.sv_ast.specs.Tree.{literal, KeyTree, RowTree, MapTree}
use Rattle.sv_ast.specs.Values.{value, length_of, signed_of, whole_number}
use Rattle.sv_lattice.specs.declared.points.Point.{Point}
use Rattle.sv_elab_rules.specs.Walks.{ask, found, ◌>>=◌}
use Rattle.sv_elab_rules.specs.Rules.{map_row}
use Rattle.sv_elab_rules.specs.Lattices.{point_number}
use Rattle.sv_elab_rules.specs.LabelMaps.{no_names, key_number, key_value, point_at, rows_walk}
use Rattle.sv_elab_rules.specs.LabelMaps.{default_walk}
use Rattle.sv_elab.specs.MapParts.{bits_in, is_row_key, IsValue, IsTable, IsRow, IsWrongRow}
use Rattle.sv_elab.specs.MapParts.{table_point}

-- a value at its own length and signedness is itself
own_value_kept : (n v : ℕ) (s : Bool) → v < 2 ^ n → reduced n (as_number n s v) ≡ v
own_value_kept n v s low = by (is_negative n s v)
  where
    by : (t : Bool) → reduced n (number_at n t v) ≡ v
    by true =
        let e : 2 ^ n - 1 - (2 ^ n - 1 - v) ≡ v = omega arith in
        wider_below n n v (omega arith) low ∙ e
    by false = wider_above n n v (omega arith) low

pub plain_number : (l : Lit) (p : Place) →
    whole_number no_names (literal (literal_of l) p) ≡ number_of l.bits
unfolding value length_of signed_of
plain_number l p =
    ap (λ v. as_number l.bits.width l.bits.signed v)
    (own_value_kept l.bits.width l.bits.value l.bits.signed l.bits.in_range.2)

pub pair_value : (f : ℕ) (second : Option ℕ) (row : RowTree) (w : ℕ) (key : KeyTree) (a b : ℕ)
    → second ≡ Some w → row.second ≡ Some key → bits_in f second ≤ 8
    → key_number row.first ≡ pos a → a < 2 ^ f → key_number key ≡ pos b → b < 2 ^ w
    → IsValue f second row (a * 2 ^ w % 2 ^ 64 + b)
pair_value f second row w key a b s k few first first_low other other_low =
    subst (λ o. IsValue f o row (a * 2 ^ w % 2 ^ 64 + b)) (sym s) (rw (k, first, other) (
      and_from (nat_lt a (2 ^ f)) (nat_lt b (2 ^ w)) (lt-ltb a (2 ^ f) first_low)
          (lt-ltb b (2 ^ w) other_low),
      ap (λ n. n + b) moved,
      low,
    ))
  where
    few_bits : f + w ≤ 8
    few_bits = subst (λ o. bits_in f o ≤ 8) s few

    moved : a * 2 ^ w % 2 ^ 64 ≡ a * 2 ^ w
    moved = shl_whole a f w 64 first_low (omega (arith, few_bits))

    low : a * 2 ^ w % 2 ^ 64 + b < 2 ^ (f + w)
    low = omega (arith, pow-add 2 f w, moved, mul-add-lt a (2 ^ w) b (2 ^ f) first_low other_low)

-- ---- the point of the other keys

module _ (points : List (List ℕ)) (t : MapTree) where
  pub other_none : (default_walk points t None).end ≡ Ok None
  unfolding default_walk
  other_none = refl

  pub other_found : (n : List ℕ) (k : ℕ) → point_number points n ≡ Some k →
      (default_walk points t (Some n)).end ≡ Ok (Some k)
  unfolding default_walk
  other_found n k h = rw h refl

  pub other_broken : (n : List ℕ) → point_number points n ≡ None →
      (default_walk points t (Some n)).end ≡ Err (map_row t.place t.name)
  unfolding default_walk
  other_broken n h = rw h refl

-- ---- rows

point_fresh : (rows : List (ℕ × ℕ)) (v p : ℕ) → point_at rows v ≡ None →
    point_at (rows ++ (v, p) ∷ []) v ≡ Some p
point_fresh [] v p h = let e : (v == v) ≡ true = eq-eqb v v refl in rw e refl
point_fresh (r ∷ rows) v p h = by (r.0 == v) h (λ k. point_fresh rows v p k)
  where
    by : (b : Bool) → option_map (λ (row : ℕ × ℕ).
        row.1) (cond b (Some r) (find (λ (row : ℕ × ℕ). row.0 == v) rows)) ≡ None
        → (point_at rows v ≡ None → point_at (rows ++ (v, p) ∷ []) v ≡ Some p)
        → option_map (λ (row : ℕ × ℕ).
        row.1) (cond b (Some r) (find (λ (row : ℕ × ℕ). row.0 == v) (rows ++ (v, p) ∷ []))) ≡
        Some p
    by true k rest = absurd (cc k)
    by false k rest = rest k

point_kept : (rows : List (ℕ × ℕ)) (u p v : ℕ) → (u == v) ≡ false →
    point_at (rows ++ (u, p) ∷ []) v ≡ point_at rows v
point_kept [] u p v h = rw h refl
point_kept (r ∷ rows) u p v h = by (r.0 == v) (point_kept rows u p v h)
  where
    by : (b : Bool) → point_at (rows ++ (u, p) ∷ []) v ≡ point_at rows v
        → option_map (λ (row : ℕ × ℕ).
        row.1) (cond b (Some r) (find (λ (row : ℕ × ℕ). row.0 == v) (rows ++ (u, p) ∷ [])))
        ≡ option_map (λ (row : ℕ × ℕ).
        row.1) (cond b (Some r) (find (λ (row : ℕ × ℕ). row.0 == v) rows))
    by true rest = refl
    by false rest = rest

pub table_more : (bits : ℕ) (rows : List (ℕ × ℕ)) (table : List (Option Point)) (value : ℕ)
    (point : Point)
    → IsTable bits rows table → value < 2 ^ bits → point_at rows value ≡ None
    → IsTable bits (rows ++ (value, point.0) ∷ []) (set table value (Some point))
table_more bits rows table value point is within free = record {
  size = length-set table value (Some point) ∙ is.size;
  points = λ v d h. by v d h (cases_eq v value);
}
  where
    by : (v : ℕ) (d : Option Point) → v < 2 ^ bits → (v ≡ value) ⊎ (v ≡ value → ⊥)
        → get_or (set table value (Some point)) v d ≡
        table_point (point_at (rows ++ (value, point.0) ∷ []) v)
    by v d h (inl e) =
        ap (λ k. get_or (set table value (Some point)) k d) e
        ∙ get_or-set_same table value (Some point) d (subst (λ n. value < n) (sym is.size) within)
        ∙ ap table_point (sym (ap (λ k. point_at (rows ++ (value, point.0) ∷ []) k) e
        ∙ point_fresh rows value point.0 free))
    by v d h (inr ne) =
        get_or-set_other table value v (Some point) d ne ∙ is.points v d h
        ∙ ap table_point (sym (point_kept rows value point.0 v (ne_eqb value v (λ e. ne (sym e)))))

module _ (points : List (List ℕ)) (t : MapTree) (first : ℕ) (second : Option ℕ) (bits : ℕ)
    (rows : List (ℕ × ℕ))
    (table : List (Option Point)) (is : IsTable bits rows table) (row : RowTree)
    (rest : List RowTree) where
  free_there : point_at rows (key_value second row) ≡ None →
      get_or table (key_value second row) None ≡ None
  free_there h = by (nat_lt (key_value second row) (2 ^ bits)) refl
    where
      by : (b : Bool) → nat_lt (key_value second row) (2 ^ bits) ≡ b →
          get_or table (key_value second row) None ≡ None
      by true e =
          is.points (key_value second row) None (ltb-true (key_value second row) (2 ^ bits) e)
          ∙ ap table_point h
      by false e =
          get_or_past table (key_value second row) None
          (subst (λ n. n ≤ key_value second row) (sym is.size)
          (ltb-false (key_value second row) (2 ^ bits) e))

  pub row_wrong : IsWrongRow points first second table row
      → (rows_walk points t first second rows (row ∷ rest)).end ≡ Err (map_row t.place t.name)
  unfolding rows_walk
  row_wrong wrong =
      by (is_row_key first second row) refl (point_at rows (key_value second row)) refl
      (point_number points row.to) refl
    where
      by : (b : Bool) → is_row_key first second row ≡ b → (o : Option ℕ)
          → point_at rows (key_value second row) ≡ o
          → (p : Option ℕ) → point_number points row.to ≡ p
          → (ask b (map_row t.place t.name) >>= λ _.
          ask (is_none o) (map_row t.place t.name) >>= λ _. found p (map_row t.place t.name)
          >>= λ point. rows_walk points t first second (rows ++ (key_value second row, point) ∷ [])
          rest).end ≡ Err (map_row t.place t.name)
      by false e o f p g = refl
      by true e (Some k) f p g = refl
      by true e None f None g = refl
      by true e None f (Some k) g = absurd (cc (wrong e (free_there f), g))

  pub row_free : (value : ℕ) (point : Point) → bits_in first second ≡ bits
      → IsRow points first second table row value point
      → (value < 2 ^ bits) × (point_at rows value ≡ None)
  row_free value point same right =
      let low : value < 2 ^ bits = subst (λ n. value < 2 ^ n) same right.key.2 in
      (low, none (point_at rows value) (sym (is.points value None low) ∙ right.free))
    where
      none : (o : Option ℕ) → table_point o ≡ None → o ≡ None
      none None h = refl
      none (Some k) h = absurd (cc h)

  pub row_right : (value : ℕ) (point : Point) → bits_in first second ≡ bits
      → IsRow points first second table row value point
      → (rows_walk points t first second rows (row ∷ rest)).end
      ≡ (rows_walk points t first second (rows ++ (value, point.0) ∷ []) rest).end
  unfolding rows_walk
  row_right value point same right =
      rw (sym right.key.1, right.key.0, (row_free value point same right).1, right.named) refl

pub rows_none : (points : List (List ℕ)) (t : MapTree) (first : ℕ) (second : Option ℕ)
    (rows : List (ℕ × ℕ))
    → (rows_walk points t first second rows []).end ≡ Ok rows
unfolding rows_walk
rows_none points t first second rows = refl
