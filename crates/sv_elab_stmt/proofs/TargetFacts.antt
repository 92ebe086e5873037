-- What targets are asked, and the pieces that they get.
use Rattle.std.proofs.Common.{◌≡◌, ℕ, ◌+◌, ◌-◌, ◌<◌, ◌≤◌, Bool, true, false, List, [], ◌∷◌, map}
use Rattle.std.proofs.Common.{refl, sym, ap, ◌∙◌, arith}
use Rattle.std.specs.Prelude.{nat_le, IsTrue, Ok, Err}
use Rattle.std.proofs.lemmas.Bool.{le-leb}
use Rattle.sv_num.specs.declared.faults.Place.{Place}
use Rattle.sv_num.specs.declared.faults.Fault.{Fault}
use Rattle.sv_num.specs.Parts.{span_of}
use Rattle.sv_num.specs.declared.vectors.Bits.{Bits}
use Rattle.sv_num.specs.Vectors.{as_number, number_of as whole_number_of}
use Rattle.sv_ast.specs.Scopes.{Number, signal, width_of}
use Rattle.sv_ast.specs.Tree.{ExpressionTree, Selection, whole, bit_at, part_from, TargetTree}
use Rattle.sv_ast.specs.Instances.{is_signal}
use Rattle.sv_ast.specs.Values.{natural, whole_number, constant_of}
use Rattle.sv_ast.specs.Runs.{selected, target_width, targets_width}
use Rattle.sv_ast.specs.GrammarModules.{place_of}
use Rattle.sv_flat.specs.Design.{TypedTree, PieceForm, assign}
use Rattle.sv_elab_rules.specs.Walks.{WalkStep, Steps, ask, each}
use Rattle.sv_elab_rules.specs.Rules.{unknown_name, too_wide, bad_select}
use Rattle.sv_elab_rules.specs.Names.{Names}
use Rattle.sv_elab_rules.specs.ExpressionSteps.{is_below, is_part, asked, own_divisors, constant_walk}
use Rattle.sv_elab_rules.specs.ExpressionSteps.{expression_walk}
use Rattle.sv_elab_rules.specs.Targets.{highest, lowest, selection_steps, target_steps, targets_steps}
use Rattle.sv_elab_rules.specs.Targets.{pieces_of, assignment_walk}
use Rattle.sv_elab_rules.proofs.WalkLemmas.{end_after, end_broken, parts_done}
use Rattle.sv_width.specs.Agreement.{HaveLengths}
use Rattle.sv_width.specs.Answers.{IsBreach}
use Rattle.sv_width.specs.Scopes.{number_of as number_in}
use Rattle.sv_width.proofs.SoundStatements.{IsRange, range_of, target_passes}
use Rattle.sv_width.proofs.SoundStatements.{each_parts}
use Rattle.sv_width.proofs.Measures.{breach_first, breach_after, passes_on}
use Rattle.sv_elab_stmt.specs.declared.parts.TargetPart.{TargetPart}
use Rattle.sv_elab_stmt.specs.Targets.{IsSelected, piece_at, target_piece, AreParts, parts_width, placed}

-- ---- selections

target_range : (names : Names) → HaveLengths names.scope → (t : TargetTree)
    → (target_steps names t).end ≡ Ok tt
    → IsRange names t.name t.place t.selection
target_range names lengths t h =
    let both = target_passes names t h in
    range_of names lengths t.name t.place t.selection both.0 both.1

pub target_unknown : (names : Names) (t : TargetTree) → is_signal (names.scope t.name) ≡ false
    → (target_steps names t).end ≡ Err (unknown_name t.place t.name)
unfolding target_steps
target_unknown names t h =
    end_broken (ask (is_signal (names.scope t.name)) (unknown_name t.place t.name))
    (λ _. selection_steps names t.name t.place t.selection) (unknown_name t.place t.name)
    (ap (λ b. (ask b (unknown_name t.place t.name)).end) h)

pub target_unselected : (names : Names) (t : TargetTree) (f : Fault)
    → is_signal (names.scope t.name) ≡ true
    → IsBreach (selection_steps names t.name t.place t.selection).end f
    → IsBreach (target_steps names t).end f
unfolding target_steps
target_unselected names t f h broken =
    breach_after (ask (is_signal (names.scope t.name)) (unknown_name t.place t.name)) _ tt f
    (ap (λ b. (ask b (unknown_name t.place t.name)).end) h) broken

pub target_found : (names : Names) (t : TargetTree) (number high low : ℕ)
    → is_signal (names.scope t.name) ≡ true
    → number ≡ names.number t.name → IsSelected names t high low
    → ((target_steps names t).end ≡ Ok tt)
    × (record {
      signal = number;
      place = t.place;
      high = high;
      low = low;
      from = 0;
    } ≡ target_piece names 0 t)
unfolding target_steps
target_found names t number high low h same selected = (
  passes_on (ask (is_signal (names.scope t.name)) (unknown_name t.place t.name)) _ _
      (ap (λ b. (ask b (unknown_name t.place t.name)).end) h) selected.0,
  ap (λ k. record { signal = k; place = t.place; high = high; low = low; from = 0 }) same
      ∙ ap (λ k. record {
        signal = names.number t.name;
        place = t.place;
        high = k;
        low = low;
        from = 0;
      }) selected.3
      ∙ ap (λ k. record {
        signal = names.number t.name;
        place = t.place;
        high = highest names.scope (width_of (names.scope t.name)) t.selection;
        low = k;
        from = 0;
      }) selected.4,
)

-- ---- selections from constants

module _ (names : Names) (n : List ℕ) (p : Place) where
  pub whole_selected : (selection_steps names n p whole).end ≡ Ok tt
  unfolding selection_steps
  whole_selected = refl

  pub bit_selected : (i : ExpressionTree) (v : Number) → (constant_walk names i).end ≡ Ok v
      → IsTrue (is_below (width_of (names.scope n)) (whole_number names.scope i))
      → (selection_steps names n p (bit_at i)).end ≡ Ok tt
  unfolding selection_steps
  bit_selected i v h inside =
      end_after (constant_walk names i) _ v h
      ∙ ap (λ b. (ask b (bad_select (place_of i))).end) inside

  pub bit_outside : (i : ExpressionTree) (v : Number) → (constant_walk names i).end ≡ Ok v
      → is_below (width_of (names.scope n)) (whole_number names.scope i) ≡ false
      → (selection_steps names n p (bit_at i)).end ≡ Err (bad_select (place_of i))
  unfolding selection_steps
  bit_outside i v h outside =
      end_after (constant_walk names i) _ v h
      ∙ ap (λ b. (ask b (bad_select (place_of i))).end) outside

  pub bit_unfound : (i : ExpressionTree) (f : Fault) → IsBreach (constant_walk names i).end f
      → IsBreach (selection_steps names n p (bit_at i)).end f
  unfolding selection_steps
  bit_unfound i f h = breach_first (constant_walk names i) _ f h

  pub part_selected : (high low : ExpressionTree) (v w : Number)
      → (constant_walk names high).end ≡ Ok v
      → (constant_walk names low).end ≡ Ok w
      → IsTrue (is_part (width_of (names.scope n)) (whole_number names.scope high)
      (whole_number names.scope low))
      → (selection_steps names n p (part_from high low)).end ≡ Ok tt
  unfolding selection_steps
  part_selected high low v w g h inside =
      end_after (constant_walk names high) _ v g ∙ end_after (constant_walk names low) _ w h
      ∙ ap (λ b. (ask b (bad_select p)).end) inside

  pub part_outside : (high low : ExpressionTree) (v w : Number)
      → (constant_walk names high).end ≡ Ok v
      → (constant_walk names low).end ≡ Ok w
      → is_part (width_of (names.scope n)) (whole_number names.scope high)
      (whole_number names.scope low) ≡ false
      → (selection_steps names n p (part_from high low)).end ≡ Err (bad_select p)
  unfolding selection_steps
  part_outside high low v w g h outside =
      end_after (constant_walk names high) _ v g ∙ end_after (constant_walk names low) _ w h
      ∙ ap (λ b. (ask b (bad_select p)).end) outside

  pub high_unfound : (high low : ExpressionTree) (f : Fault)
      → IsBreach (constant_walk names high).end f
      → IsBreach (selection_steps names n p (part_from high low)).end f
  unfolding selection_steps
  high_unfound high low f h = breach_first (constant_walk names high) _ f h

  pub low_unfound : (high low : ExpressionTree) (v : Number) (f : Fault)
      → (constant_walk names high).end ≡ Ok v
      → IsBreach (constant_walk names low).end f
      → IsBreach (selection_steps names n p (part_from high low)).end f
  unfolding selection_steps
  low_unfound high low v f g h =
      breach_after (constant_walk names high) _ v f g (breach_first (constant_walk names low) _ f h)

-- the whole number that a constant is found to be
pub whole_found : (names : Names) (e : ExpressionTree) (bits : Bits)
    → (constant_walk names e).end ≡ Ok (number_in bits)
    → whole_number_of bits ≡ whole_number names.scope e
unfolding constant_walk
whole_found names e bits h =
    let first = parts_done (asked names true e) _ (number_in bits) h in
    let second = parts_done (own_divisors names.scope e) _ (number_in bits) first.2 in
    let is : constant_of names.scope e ≡ number_in bits = cc second.2 in
    ap (λ (x : Number). as_number x.width x.signed x.value) (sym is)

-- a selection's highest and lowest bit, inside the signal
abbrev pub IsChosen : Names → List ℕ → Place → Selection → (high low : ℕ) → Type 0
IsChosen names n p sel high low = ((selection_steps names n p sel).end ≡ Ok tt)
    × (high < width_of (names.scope n)) × (low ≤ high)
    × (high ≡ highest names.scope (width_of (names.scope n)) sel) × (low ≡ lowest names.scope sel)

module _ (names : Names) (n : List ℕ) (p : Place) (width : ℕ)
    (known : width ≡ width_of (names.scope n)) where
  pub whole_chosen : 1 ≤ width → IsChosen names n p whole (width - 1) 0
  whole_chosen some = (
    whole_selected names n p,
    omega (arith, known, some),
    omega arith,
    ap (λ k. k - 1) known,
    refl,
  )

  pub bit_chosen : (i : ExpressionTree) (bits : Bits) (bit : ℕ)
      → (constant_walk names i).end ≡ Ok (number_in bits)
      → bit < width → IsTrue (is_below width (whole_number_of bits))
      → bit ≡ natural (whole_number_of bits)
      → IsChosen names n p (bit_at i) bit bit
  bit_chosen i bits bit h below inside is =
      let whole = whole_found names i bits h in (
        bit_selected names n p i (number_in bits) h
            (sym (ap (λ z. is_below (width_of (names.scope n)) z) whole)
            ∙ sym (ap (λ w. is_below w (whole_number_of bits)) known) ∙ inside),
        omega (arith, known, below),
        omega arith,
        is ∙ ap natural whole,
        is ∙ ap natural whole,
      )

  pub bit_refused : (i : ExpressionTree) (bits : Bits)
      → (constant_walk names i).end ≡ Ok (number_in bits)
      → is_below width (whole_number_of bits) ≡ false
      → (selection_steps names n p (bit_at i)).end ≡ Err (bad_select (place_of i))
  bit_refused i bits h outside =
      bit_outside names n p i (number_in bits) h
      (sym (ap (λ z. is_below (width_of (names.scope n)) z) (whole_found names i bits h))
      ∙ sym (ap (λ w. is_below w (whole_number_of bits)) known) ∙ outside)

  same_part : (high low : ExpressionTree) (a b : Bits)
      → (constant_walk names high).end ≡ Ok (number_in a)
      → (constant_walk names low).end ≡ Ok (number_in b)
      → is_part (width_of (names.scope n)) (whole_number names.scope high)
      (whole_number names.scope low)
      ≡ is_part width (whole_number_of a) (whole_number_of b)
  same_part high low a b g h =
      sym (ap (λ w. is_part w (whole_number_of a) (whole_number_of b)) known
      ∙ ap (λ z. is_part (width_of (names.scope n)) z (whole_number_of b))
      (whole_found names high a g)
      ∙ ap (λ z. is_part (width_of (names.scope n)) (whole_number names.scope high) z)
      (whole_found names low b h))

  pub part_chosen : (high low : ExpressionTree) (a b : Bits) (k j : ℕ)
      → (constant_walk names high).end ≡ Ok (number_in a)
      → (constant_walk names low).end ≡ Ok (number_in b) → k < width → j ≤ k
      → IsTrue (is_part width (whole_number_of a) (whole_number_of b))
      → k ≡ natural (whole_number_of a)
      → j ≡ natural (whole_number_of b) → IsChosen names n p (part_from high low) k j
  part_chosen high low a b k j g h below order inside top bottom = (
    part_selected names n p high low (number_in a) (number_in b) g h (same_part high low a b g h
        ∙ inside),
    omega (arith, known, below),
    order,
    top ∙ ap natural (whole_found names high a g),
    bottom ∙ ap natural (whole_found names low b h),
  )

  pub part_refused : (high low : ExpressionTree) (a b : Bits)
      → (constant_walk names high).end ≡ Ok (number_in a)
      → (constant_walk names low).end ≡ Ok (number_in b)
      → is_part width (whole_number_of a) (whole_number_of b) ≡ false
      → (selection_steps names n p (part_from high low)).end ≡ Err (bad_select p)
  part_refused high low a b g h outside =
      part_outside names n p high low (number_in a) (number_in b) g h (same_part high low a b g h
      ∙ outside)

-- ---- some things, one after the other

pub each_none : {X : Type 0} (step : X → Steps) → (each step []).end ≡ Ok tt
unfolding each
each_none step = refl

pub each_more : {X : Type 0} (step : X → Steps) (x : X) (xs : List X) → (step x).end ≡ Ok tt
    → (each step (x ∷ xs)).end ≡ (each step xs).end
unfolding each
each_more step x xs h = end_after (step x) (λ _. each step xs) tt h

pub each_broken : {X : Type 0} (step : X → Steps) (x : X) (xs : List X) (f : Fault)
    → IsBreach (step x).end f
    → IsBreach (each step (x ∷ xs)).end f
unfolding each
each_broken step x xs f h = breach_first (step x) (λ _. each step xs) f h

-- ---- parts and pieces

-- what parts of targets say of the first target and its part, and of the others
parts_split : (names : Names) (t : TargetTree) (ts : List TargetTree) (p : TargetPart)
    (ps : List TargetPart) → AreParts names (t ∷ ts) (p ∷ ps)
    → ((target_steps names t).end ≡ Ok tt) × (piece_at 0 p ≡ target_piece names 0 t)
    × AreParts names ts ps
parts_split names t ts p ps h =
    let both = each_parts (target_steps names) t ts h.0 in
    let head : piece_at 0 p ≡ target_piece names 0 t = cc h.1 in
    let tail : map (piece_at 0) ps ≡ map (target_piece names 0) ts = cc h.1 in
    (both.0, head, (both.1, tail))

module _ (names : Names) (lengths : HaveLengths names.scope) where
  pub parts_have : (ts : List TargetTree) (ps : List TargetPart) → AreParts names ts ps
      → parts_width ps ≡ targets_width names.scope ts
  parts_have [] [] h = refl
  parts_have [] (p ∷ ps) h = absurd (cc h.1)
  parts_have (t ∷ ts) [] h = absurd (cc h.1)
  parts_have (t ∷ ts) (p ∷ ps) h =
      let split = parts_split names t ts p ps h in
      let width : span_of p.high p.low ≡ target_width names.scope t =
      ap (λ (x : PieceForm). span_of x.high x.low) split.1
      ∙ (target_range names lengths t split.0).2 in
      ap (λ k. k + parts_width ps) width
      ∙ ap (λ k. target_width names.scope t + k) (parts_have ts ps split.2)

  pub parts_placed : (ts : List TargetTree) (ps : List TargetPart) → AreParts names ts ps →
      placed ps ≡ pieces_of names ts
  parts_placed [] [] h = refl
  parts_placed [] (p ∷ ps) h = absurd (cc h.1)
  parts_placed (t ∷ ts) [] h = absurd (cc h.1)
  parts_placed (t ∷ ts) (p ∷ ps) h =
      let split = parts_split names t ts p ps h in
      let first : piece_at (parts_width ps) p ≡
      target_piece names (targets_width names.scope ts) t =
      ap (λ (x : PieceForm).
      record {
        signal = x.signal;
        place = x.place;
        high = x.high;
        low = x.low;
        from = parts_width ps;
      }) split.1
      ∙ ap (λ k. target_piece names k t) (parts_have ts ps split.2) in
      ap (λ x. x ∷ placed ps) first
      ∙ ap (λ xs. target_piece names (targets_width names.scope ts) t ∷ xs)
      (parts_placed ts ps split.2)

-- ---- the whole assignment

few_bits : (n : ℕ) (s : WalkStep) → n ≤ 64 → (ask (nat_le n 64) s).end ≡ Ok tt
few_bits n s h = ap (λ b. (ask b s).end) (le-leb n 64 h)

many_bits : (n : ℕ) (s : WalkStep) → nat_le n 64 ≡ false → (ask (nat_le n 64) s).end ≡ Err s
many_bits n s h = ap (λ b. (ask b s).end) h

module _ (names : Names) (ts : List TargetTree) (place : Place) (blocking : Bool)
    (e : ExpressionTree) where
  pub targets_broken : (f : Fault) → IsBreach (each (target_steps names) ts).end f
      → IsBreach (assignment_walk names ts place blocking e).end f
  unfolding assignment_walk targets_steps
  targets_broken f h = breach_first (targets_steps names ts place) _ f
      (breach_first (each (target_steps names) ts) (λ _.
      ask (nat_le (targets_width names.scope ts) 64) (too_wide place)) f h)

  pub targets_wide : (each (target_steps names) ts).end ≡ Ok tt
      → nat_le (targets_width names.scope ts) 64 ≡ false
      → (assignment_walk names ts place blocking e).end ≡ Err (too_wide place)
  unfolding assignment_walk targets_steps
  targets_wide passes wide =
      rw (passes_on (each (target_steps names) ts) (λ _.
      ask (nat_le (targets_width names.scope ts) 64) (too_wide place)) _ passes
      (many_bits (targets_width names.scope ts) (too_wide place) wide)) refl

  all_targets : (each (target_steps names) ts).end ≡ Ok tt → targets_width names.scope ts ≤ 64
      → (targets_steps names ts place).end ≡ Ok tt
  unfolding targets_steps
  all_targets passes few =
      passes_on (each (target_steps names) ts) _ _ passes
      (few_bits (targets_width names.scope ts) (too_wide place) few)

  pub value_broken : (f : Fault) → (each (target_steps names) ts).end ≡ Ok tt
      → targets_width names.scope ts ≤ 64
      → IsBreach (expression_walk names e (targets_width names.scope ts)).end f
      → IsBreach (assignment_walk names ts place blocking e).end f
  unfolding assignment_walk
  value_broken f passes few h =
      breach_after (targets_steps names ts place) _ tt f (all_targets passes few)
      (breach_first (expression_walk names e (targets_width names.scope ts)) _ f h)

  pub assigned : (pieces : List PieceForm) (value : TypedTree)
      → (each (target_steps names) ts).end ≡ Ok tt
      → targets_width names.scope ts ≤ 64
      → (expression_walk names e (targets_width names.scope ts)).end ≡ Ok value
      → pieces ≡ pieces_of names ts
      → (assignment_walk names ts place blocking e).end ≡ Ok (assign pieces place blocking value)
  unfolding assignment_walk
  assigned pieces value passes few found placed =
      passes_on (targets_steps names ts place) _ _ (all_targets passes few)
      (end_after (expression_walk names e (targets_width names.scope ts)) _ value found
      ∙ ap (λ (ps : List PieceForm). Ok (assign ps place blocking value)) (sym placed))
