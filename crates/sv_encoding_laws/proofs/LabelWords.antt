-- The literals of a label say its point, where words of its selectors spell their values.
use Rattle.std.proofs.Common.{◌≡◌, ℕ, ◌+◌, ◌*◌, ◌^◌, ◌<◌, ◌≤◌, Bool, true, false, ◌||◌, ◌&&◌}
use Rattle.std.proofs.Common.{◌==◌, List, [], ◌∷◌, ◌++◌, length, map, refl, sym, ap, ap₂, subst, ◌∙◌}
use Rattle.std.proofs.Common.{⊎_elim, arith, Option, Some, None, nat_lt, ltb-true, unwrap_or}
use Rattle.std.specs.Prelude.{Contains, IsTrue}
use Rattle.std.specs.List.{list_any}
use Rattle.std.proofs.lemmas.Bool.{false≢true, eqb-true, eq-eqb}
use Rattle.std.proofs.Math.Nat.{mul_comm}
use Rattle.std.proofs.lemmas.List.{length-append}
use Rattle.sv_system.specs.System.{Environment}
use Rattle.sv_system.proofs.Lists.{Contains-head, Contains-later, Contains-cases, Contains-nil}
use Rattle.sv_lattice.specs.declared.points.Point.{Point}
use Rattle.sv_lattice.specs.declared.labels.Label.{Label}
use Rattle.sv_lattice.specs.declared.labels.Label.TheVariants.{Point as Declared, Table}
use Rattle.sv_lattice.specs.Maps.{MapRows, IsMap, row_of, pair_value}
use Rattle.sv_lattice.specs.Labels.{map_of}
use Rattle.sv_flat.specs.Design.{FlatDesign}
use Rattle.sv_flat.specs.Values.{signal_of, signal_width}
use Rattle.sv_flat.specs.Soundness.{is_signal, selector_fits, second_fits, label_sound, sound}
use Rattle.sv_flat.specs.FlatSystem.{label_in}
use Rattle.sv_flat.specs.Selectors.{selectors_of}
use Rattle.sv_flat.specs.Sets.{holds}
use Rattle.sv_flat.proofs.Depths.{first_of, second_of}
use Rattle.sv_flat.proofs.LeastSets.{some_from, from_some, in_those, those_below, those_pass}
use Rattle.sv_flat.proofs.LeastSets.{holds-from_Contains, Contains-from_holds}
use Rattle.sv_flat.proofs.SelectorBounds.{label_is_sound, rows_are_points, label_map}
use Rattle.sv_flat.proofs.Members.{all_contained, only, Contains-left, Contains-right}
use Rattle.std.proofs.lemmas.List.Elements.{Contains-get_or}
use Rattle.sv_clause.specs.Literals.{literal_true}
use Rattle.sv_gates.specs.Formulas.{Formula, IsLiteral}
use Rattle.sv_gates.specs.Gates.{true_literal, false_literal, or_gate}
use Rattle.sv_gates.specs.Extending.{Makes}
use Rattle.sv_gates.proofs.ExtendingLaws.{makes_at_once, meets-begins, extends_trans}
use Rattle.sv_gates.proofs.GateLaws.{literal_more, or_makes}
use Rattle.sv_circuits.specs.Words.{Word, BitMaker, word_value, equals_number_bit, or_chain}
use Rattle.sv_circuits.specs.Circuits.{bits_of, IsWord, IsBase, GivesBit}
use Rattle.sv_circuits.proofs.Pieces.{base_more, word_more, GivesEach, values_of, chain_gives, chained}
use Rattle.sv_circuits.proofs.BitPieces.{bit_as, false_is, false_known, true_is, true_known}
use Rattle.sv_circuits.proofs.Picks.{is_number_bits, equals_number_gives}
use Rattle.sv_circuits.proofs.BitTests.{exists, some_is, is_number_tells}
use Rattle.sv_circuits.proofs.BitNumbers.{word_number}
use Rattle.sv_circuits.proofs.Products.{bits_length, joined_is}
use Rattle.sv_circuits.proofs.WordValues.{word_low, both_value}
use Rattle.sv_encoding.specs.Expressions.{Words}
use Rattle.sv_encoding.specs.Labels.{PointLiteral, LabelForm, selector_word, row_points, keys_of}
use Rattle.sv_encoding.specs.Labels.{point_bit, point_literals, label_literals, signal_label, signal_labels}
use Rattle.sv_encoding.specs.BothWays.{SpellThere}
use Rattle.sv_encoding.specs.LabelMeanings.{HasLiterals, SaysPoint, HaveRows, AreWordsOf}
use Rattle.sv_encoding.specs.LabelMeanings.{LabelSaysPoint, HaveLiterals, SayPoints, LabelsSayPoints, selectors_for}
use Rattle.sv_encoding.specs.Cones.{label_selectors}

-- ---- truths

-- two truths that follow from each other are one
pub same_truth : (a b : Bool) → (IsTrue a → IsTrue b) → (IsTrue b → IsTrue a) → a ≡ b
same_truth true b there back = sym (there refl)
same_truth false true there back = back refl
same_truth false false there back = refl

-- some piece of a chain is true
pub exists_any : (vs : List ((ℕ → Bool) → Bool)) (values : ℕ → Bool) →
    exists (values_of vs values) ≡ list_any (λ v. v values) vs
exists_any [] values = refl
exists_any (v ∷ vs) values = ap (λ z. v values || z) (exists_any vs values)

-- the OR chain of pieces gives whether some of them does
pub some_chain_gives : (n : ℕ) (makes : List BitMaker) (vs : List ((ℕ → Bool) → Bool)) →
    GivesEach n makes vs → GivesBit n (or_chain makes) (λ values. list_any (λ v. v values) vs)
some_chain_gives n makes vs gives =
    bit_as n (or_chain makes) (λ values. chained ◌||◌ false (values_of vs values))
    (λ values. list_any (λ v. v values) vs)
    (λ values. some_is (values_of vs values) ∙ exists_any vs values)
    (chain_gives or_gate ◌||◌ or_makes false_literal false false_is false_known n makes vs gives)

-- ---- one point

-- the selector is this key
abbrev is_key : Word → ℕ → (ℕ → Bool) → Bool
is_key selector key values = is_number_bits (bits_of values selector) key

keys_each : (n : ℕ) (selector : Word) → IsWord n selector → (keys : List ℕ) →
    GivesEach n (map (equals_number_bit selector) keys) (map (is_key selector) keys)
keys_each n selector is [] = tt
keys_each n selector is (k ∷ keys) =
    (equals_number_gives n selector k is, keys_each n selector is keys)

key_tells : (values : ℕ → Bool) (selector : Word) (k : ℕ) → k < 2 ^ length selector →
    is_key selector k values ≡ (word_value values selector == k)
key_tells values selector k low =
    is_number_tells (bits_of values selector) k
    (subst (λ n. k < 2 ^ n) (sym (bits_length values selector)) low)
    ∙ ap (λ v. v == k) (sym (word_number values selector))

keys_tell : (values : ℕ → Bool) (selector : Word) (keys : List ℕ) →
    ((k : ℕ) → Contains keys k → k < 2 ^ length selector) →
    list_any (λ (v : (ℕ → Bool) → Bool). v values) (map (is_key selector) keys)
    ≡ list_any (λ k. word_value values selector == k) keys
keys_tell values selector [] low = refl
keys_tell values selector (k ∷ keys) low =
    ap₂ ◌||◌ (key_tells values selector k (low k (Contains-head k keys)))
    (keys_tell values selector keys (λ j at. low j (Contains-later k keys j at)))

-- the point of the row that a number selects
abbrev row_point : MapRows → ℕ → ℕ
row_point rows key = (row_of rows key).0

some_key : (rows : MapRows) (v p : ℕ) → v < length rows.rows →
    list_any (λ k. v == k) (keys_of rows p) ≡ (p == row_point rows v)
some_key rows v p inside =
    same_truth (list_any (λ k. v == k) (keys_of rows p)) (p == row_point rows v)
    (λ some. let found = from_some (λ k. v == k) (keys_of rows p) some in
    let is : v ≡ found.0 = eqb-true v found.0 found.2 in
    eq-eqb p (row_point rows v)
    (sym (ap (row_point rows) is
    ∙ eqb-true (row_point rows found.0) p
    (those_pass (length rows.rows) (λ key. row_point rows key == p) found.0 found.1))))
    (λ same. some_from (λ k. v == k) (keys_of rows p) v
    (in_those (length rows.rows) (λ key. row_point rows key == p) v inside
    (eq-eqb (row_point rows v) p (sym (eqb-true p (row_point rows v) same))))
    (eq-eqb v v refl))

-- the map has a row for each value of the selector
abbrev IsFull : MapRows → Word → Type 0
IsFull rows selector = length rows.rows ≡ 2 ^ length selector

point_gives : (n : ℕ) (rows : MapRows) (selector : Word) (p : ℕ) → IsWord n selector →
    IsFull rows selector → GivesBit n (point_bit rows selector p)
    (λ values. p == row_point rows (word_value values selector))
point_gives n rows selector p is full =
    bit_as n (point_bit rows selector p)
    (λ values. list_any (λ (v : (ℕ → Bool) → Bool). v values) (map (is_key selector) keys))
    (λ values. p == row_point rows (word_value values selector))
    (λ values. keys_tell values selector keys
    (λ k at. subst (λ m. k < m) full
    (those_below (length rows.rows) (λ key. row_point rows key == p) k at))
    ∙ some_key rows (word_value values selector) p
    (subst (λ m. word_value values selector < m) (sym full) (word_low values selector)))
    (some_chain_gives n (map (equals_number_bit selector) keys) (map (is_key selector) keys)
    (keys_each n selector is keys))
  where
    keys : List ℕ
    keys = keys_of rows p

-- ---- one point after the other

pub literals_more : (m n : ℕ) (label : LabelForm) → m ≤ n → HasLiterals m label →
    HasLiterals n label
literals_more m n label h has l at = literal_more m n l.literal h (has l at)

-- each literal says whether its point is the one, and each of the points has a literal
record SaysEach (ps : List ℕ) (values : ℕ → Bool) (label : LabelForm) (point : ℕ) : Type 0 where
  exact : (l : PointLiteral) → Contains label l →
      literal_true values l.literal ≡ (l.point == point)
  found : (p : ℕ) → Contains ps p → (l : PointLiteral) × Contains label l × (l.point ≡ p)

points_make : (n : ℕ) (rows : MapRows) (selector : Word) → IsWord n selector →
    IsFull rows selector → (ps : List ℕ) (old : Formula) → n ≤ old.variables → IsBase old →
    Makes old (point_literals rows selector ps old) HasLiterals
    (λ values label. SaysEach ps values label (row_point rows (word_value values selector)))
points_make n rows selector is full [] old h base =
    makes_at_once old [] HasLiterals
    (λ values label. SaysEach [] values label (row_point rows (word_value values selector)))
    base.closed (λ l at. absurd (Contains-nil l at))
    (λ values e. record {
      exact = λ l at. absurd (Contains-nil l at);
      found = λ p at. absurd (Contains-nil p at);
    })
points_make n rows selector is full (p ∷ ps) old h base =
    let first = point_bit rows selector p old in
    let one = point_gives n rows selector p is full old h base in
    let rest = point_literals rows selector ps first.0 in
    let q = points_make n rows selector is full ps first.0
    (omega (arith, h, one.extends.begins.grows)) (base_more old first.0 base one.extends) in
    let here : PointLiteral = record { point = p; literal = first.1 } in
    let m = (first.0).variables in
    let k = (rest.0).variables in
    record {
      extends = extends_trans old first.0 rest.0 one.extends q.extends;
      within = λ l at. ⊎_elim
          (λ same. subst (λ (z : PointLiteral). IsLiteral k z.literal) same
          (literal_more m k first.1 q.extends.begins.grows one.within))
          (λ later. q.within l later) (Contains-cases here rest.1 l at);
      says = λ values met.
          let point = row_point rows (word_value values selector) in
          let said = q.says values met in
          let this = one.says values (meets-begins first.0 rest.0 values q.extends.begins met) in
          record {
            exact = λ l at. ⊎_elim
                (λ same. subst (λ (z : PointLiteral). literal_true values z.literal
                ≡ (z.point == point)) same this)
                (λ later. said.exact l later) (Contains-cases here rest.1 l at);
            found = λ r at. ⊎_elim
                (λ same. (here, Contains-head here rest.1, same))
                (λ later. let found = said.found r later in
                (found.0, Contains-later here rest.1 found.0 found.1, found.2))
                (Contains-cases p ps r at);
          };
    }

-- ---- the rows of a map

module _ (design : FlatDesign) (is_sound : IsTrue (sound design)) (rows_there : HaveRows design)
  where
    abbrev map_at : ℕ → MapRows
    map_at k = map_of design.maps k

    is_map : (k : ℕ) → k < length design.maps →
        IsMap (map_at k).first (map_at k).second (map_at k).rows
    is_map k inside =
        all_contained (λ (m : MapRows). IsMap m.first m.second m.rows) design.maps rows_there
        (map_at k) (Contains-get_or design.maps k _ inside)

    row_listed : (k : ℕ) → k < length design.maps → (v : ℕ) → v < length (map_at k).rows →
        Contains (row_points design (map_at k)) (row_point (map_at k) v)
    row_listed k inside v low =
        let rows = (map_at k).rows in
        let point = row_of (map_at k) v in
        let at : Contains rows point = Contains-get_or rows v _ low in
        in_those (length design.lattice) (λ p. list_any (λ (row : Point). row.0 == p) rows) point.0
        (all_contained (λ (row : Point). row.0 < length design.lattice) rows
        (rows_are_points design is_sound k inside) point at)
        (some_from (λ (row : Point). row.0 == point.0) rows point at (eq-eqb point.0 point.0 refl))

    -- ---- the selector

    width_of : (t width : ℕ) → IsTrue (selector_fits design.signals t width) →
        signal_width design.signals t ≡ width
    width_of t width h =
        eqb-true (signal_width design.signals t) width
        (second_of (is_signal design.signals t) (signal_width design.signals t == width) h)

    table_makes : (k first : ℕ) (second : Option ℕ) →
        IsTrue (label_sound design (Table k first second)) → (words : Words) (old : Formula) →
        IsBase old → IsWord old.variables (selector_word words first second) →
        IsFull (map_at k) (selector_word words first second) →
        ((values : ℕ → Bool) (e : Environment ℕ) →
        SpellThere (selectors_of (Table k first second)) values words e →
        label_in design.maps (Table k first second) e
        ≡ row_of (map_at k) (word_value values (selector_word words first second))) →
        Makes old (label_literals design words (Table k first second) old) HasLiterals
        (λ values label. (e : Environment ℕ) →
        SpellThere (selectors_of (Table k first second)) values words e →
        SaysPoint values label (label_in design.maps (Table k first second) e).0)
    table_makes k first second fits words old base is full reads =
        let selector = selector_word words first second in
        let inside = label_map design k first second fits in
        let p = points_make old.variables (map_at k) selector is full
        (row_points design (map_at k)) old (omega arith) base in
        record {
          extends = p.extends;
          within = p.within;
          says = λ values met e spelled.
              let said = p.says values met in
              let v = word_value values selector in
              let label = (label_literals design words (Table k first second) old).1 in
              subst (λ (z : Point). SaysPoint values label z.0) (sym (reads values e spelled))
              (record {
                exact = said.exact;
                found = said.found (row_point (map_at k) v) (row_listed k inside v
                    (subst (λ m. v < m) (sym full) (word_low values selector)));
              });
        }

    map_there : (k first : ℕ) (second : Option ℕ) →
        IsTrue (label_sound design (Table k first second)) →
        IsMap (map_at k).first (map_at k).second (map_at k).rows
    map_there k first second fits = is_map k (label_map design k first second fits)

    first_width : (k first : ℕ) (second : Option ℕ) →
        IsTrue (label_sound design (Table k first second)) →
        signal_width design.signals first ≡ (map_at k).first
    first_width k first second fits =
        width_of first (map_at k).first
        (second_of (nat_lt k (length design.maps)) (selector_fits design.signals first (map_at k).first)
        (first_of (nat_lt k (length design.maps)
        && selector_fits design.signals first (map_at k).first)
        (second_fits design.signals second (map_at k).second) fits))

    second_known : (k first : ℕ) (second : Option ℕ) →
        IsTrue (label_sound design (Table k first second)) →
        IsTrue (second_fits design.signals second (map_at k).second)
    second_known k first second fits =
        second_of (nat_lt k (length design.maps)
        && selector_fits design.signals first (map_at k).first)
        (second_fits design.signals second (map_at k).second) fits

    one_full : (k first : ℕ) → IsTrue (label_sound design (Table k first None)) → (word : Word) →
        length word ≡ signal_width design.signals first → IsFull (map_at k) word
    one_full k first fits word wide =
        by_range (map_at k).second (map_there k first None fits) (second_known k first None fits)
      where
        by_range : (range : Option ℕ) → IsMap (map_at k).first range (map_at k).rows →
            IsTrue (second_fits design.signals None range) → IsFull (map_at k) word
        by_range None is h = is.2 ∙ ap (λ n. 2 ^ n) (sym (wide ∙ first_width k first None fits))
        by_range (Some width) is h = absurd (false≢true h)

    second_width : (k first t : ℕ) → IsTrue (label_sound design (Table k first (Some t))) →
        signal_width design.signals t ≡ unwrap_or (map_at k).second 0
    second_width k first t fits = by_range (map_at k).second (second_known k first (Some t) fits)
      where
        by_range : (range : Option ℕ) → IsTrue (second_fits design.signals (Some t) range) →
            signal_width design.signals t ≡ unwrap_or range 0
        by_range None h = absurd (false≢true h)
        by_range (Some width) h = width_of t width h

    pair_full : (k first t : ℕ) → IsTrue (label_sound design (Table k first (Some t))) →
        (low high : Word) → length low ≡ signal_width design.signals t →
        length high ≡ signal_width design.signals first → IsFull (map_at k) (low ++ high)
    pair_full k first t fits low high wide_low wide_high =
        rows_count (map_at k).second (map_there k first (Some t) fits)
        ∙ ap (λ n. 2 ^ n)
        (omega (
          arith,
          length-append low high,
          wide_low,
          wide_high,
          first_width k first (Some t) fits,
          second_width k first t fits,
        ))
      where
        rows_count : (range : Option ℕ) → IsMap (map_at k).first range (map_at k).rows →
            length (map_at k).rows ≡ 2 ^ ((map_at k).first + unwrap_or range 0)
        rows_count None is = is.2 ∙ ap (λ n. 2 ^ n) (omega arith)
        rows_count (Some width) is = is.3

    pair_spelled : (k first t : ℕ) → IsTrue (label_sound design (Table k first (Some t))) →
        (low high : Word) → length low ≡ signal_width design.signals t → (values : ℕ → Bool) →
        pair_value (map_at k) (word_value values high) (word_value values low)
        ≡ word_value values (low ++ high)
    pair_spelled k first t fits low high wide values =
        let a = word_value values low in
        let b = word_value values high in
        ap (λ n. b * 2 ^ n + a) (sym (wide ∙ second_width k first t fits))
        ∙ omega (arith, mul_comm b (2 ^ length low))
        ∙ sym (both_value values low high)

    -- ---- a label

    pub label_makes : (label : Label) → IsTrue (label_sound design label) → (words : Words)
        (old : Formula) → IsBase old → AreWordsOf design (selectors_of label) old.variables words →
        Makes old (label_literals design words label old) HasLiterals
        (λ values made. (e : Environment ℕ) → SpellThere (selectors_of label) values words e →
        SaysPoint values made (label_in design.maps label e).0)
    label_makes (Declared point) fits words old base are =
        let here : PointLiteral = record { point = point.0; literal = true_literal } in
        makes_at_once old (here ∷ []) HasLiterals
        (λ values made. (e : Environment ℕ) → SpellThere [] values words e →
        SaysPoint values made point.0) base.closed
        (λ l at. subst (λ (z : PointLiteral). IsLiteral old.variables z.literal) (only here l at)
        (literal_more 1 old.variables true_literal base.some true_is))
        (λ values met e spelled. record {
          exact = λ l at. subst (λ (z : PointLiteral). literal_true values z.literal
              ≡ (z.point == point.0)) (only here l at)
              (true_known values (base.truth values met) ∙ sym (eq-eqb point.0 point.0 refl));
          found = (here, Contains-head here [], refl);
        })
    label_makes (Table k first None) fits words old base are =
        let has = are first (holds-from_Contains (first ∷ []) first (Contains-head first [])) in
        table_makes k first None fits words old base has.0 (one_full k first fits (words first) has.1)
        (λ values e spelled. ap (row_of (map_at k))
        (sym (spelled first (holds-from_Contains (first ∷ []) first (Contains-head first [])))))
    label_makes (Table k first (Some t)) fits words old base are =
        let both : List ℕ = first ∷ t ∷ [] in
        let at_first : IsTrue (holds both first) =
        holds-from_Contains both first (Contains-head first (t ∷ [])) in
        let at_second : IsTrue (holds both t) =
        holds-from_Contains both t (Contains-later first (t ∷ []) t (Contains-head t [])) in
        let high = are first at_first in
        let low = are t at_second in
        table_makes k first (Some t) fits words old base
        (joined_is old.variables (words t) (words first) low.0 high.0)
        (pair_full k first t fits (words t) (words first) low.1 high.1)
        (λ values e spelled. ap (row_of (map_at k))
        (ap₂ (pair_value (map_at k)) (sym (spelled first at_first)) (sym (spelled t at_second))
        ∙ pair_spelled k first t fits (words t) (words first) low.1 values))

pub label_says_point : LabelSaysPoint
label_says_point design words s formula is_sound rows_there inside base are =
    label_makes design is_sound rows_there (signal_of design.signals s).label
    (label_is_sound design is_sound s (ltb-true s (length design.signals) inside)) words formula
    base are

-- ---- labels one after the other

pub labels_say_points : LabelsSayPoints
labels_say_points design words [] formula is_sound rows_there inside base are =
    makes_at_once formula [] HaveLiterals (λ values labels. (e : Environment ℕ) →
    SpellThere [] values words e → SayPoints values labels []) base.closed
    (λ label at. absurd (Contains-nil label at)) (λ values met e spelled. tt)
labels_say_points design words (s ∷ ss) formula is_sound rows_there inside base are =
    let here = label_selectors design s in
    let later = selectors_for design ss in
    let first = signal_label design words s formula in
    let p = label_says_point design words s formula is_sound rows_there
    (inside s (Contains-head s ss)) base (λ t at. are t (holds_left here later t at)) in
    let m = formula.variables in
    let n = (first.0).variables in
    let rest = signal_labels design words ss first.0 in
    let q = labels_say_points design words ss first.0 is_sound rows_there
    (λ u at. inside u (Contains-later s ss u at)) (base_more formula first.0 base p.extends)
    (λ t at. let has = are t (holds_right here later t at) in
    (word_more m n (words t) p.extends.begins.grows has.0, has.1)) in
    let k = (rest.0).variables in
    record {
      extends = extends_trans formula first.0 rest.0 p.extends q.extends;
      within = λ label at. ⊎_elim
          (λ same. subst (HasLiterals k) same
          (literals_more n k first.1 q.extends.begins.grows p.within))
          (λ more. q.within label more) (Contains-cases first.1 rest.1 label at);
      says = λ values met e spelled. (
        p.says values (meets-begins first.0 rest.0 values q.extends.begins met) e
            (λ t at. spelled t (holds_left here later t at)),
        q.says values met e (λ t at. spelled t (holds_right here later t at)),
      );
    }
  where
    holds_left : (xs ys : List ℕ) (t : ℕ) → IsTrue (holds xs t) → IsTrue (holds (xs ++ ys) t)
    holds_left xs ys t at =
        holds-from_Contains (xs ++ ys) t (Contains-left xs ys t (Contains-from_holds xs t at))

    holds_right : (xs ys : List ℕ) (t : ℕ) → IsTrue (holds ys t) → IsTrue (holds (xs ++ ys) t)
    holds_right xs ys t at =
        holds-from_Contains (xs ++ ys) t (Contains-right xs ys t (Contains-from_holds ys t at))
