-- Facts and conditions whose literals are kept, and those that are made behind them.
use Rattle.std.proofs.Common.{◌≡◌, ℕ, zero, suc, ◌+◌, ◌-◌, ◌<◌, ◌≤◌, ℤ, List, [], ◌∷◌, ◌++◌, length}
use Rattle.std.proofs.Common.{map}
use Rattle.std.proofs.Common.{take, drop, get_or, Option, Some, None, refl, sym, ap, ap₂, ◌∙◌}
use Rattle.std.proofs.Common.{subst, arith}
use Rattle.std.proofs.Common.{append_assoc}
use Rattle.std.specs.Prelude.{slice_get}
use Rattle.std.proofs.lemmas.List.{append-nil, length-map, length-take-le, take-map, drop-map}
use Rattle.std.proofs.lemmas.List.{take_more}
use Rattle.std.proofs.Math.Seq.{take-append_seam, drop-append_seam}
use Rattle.sv_flat.specs.declared.expressions.FExpr.{FExpr}
use Rattle.sv_flat.specs.Design.{FlatDesign, TypedTree}
use Rattle.sv_flat.specs.Views.{typed_tree, typed_trees}
use Rattle.sv_gates.specs.declared.gates.Mark.{Mark}
use Rattle.sv_gates.specs.Extending.{Begins}
use Rattle.sv_gates.specs.Formulas.{Formula, IsLiteral, IsProper}
use Rattle.sv_gates.proofs.ExtendingLaws.{begins_none, begins_trans}
use Rattle.sv_circuits.specs.Circuits.{IsWord}
use Rattle.sv_circuits.proofs.Lengths.{each_length}
use Rattle.sv_circuits.proofs.WordKeeps.{onto, literal_up}
use Rattle.sv_obl.specs.declared.queries.PathStep.{PathStep}
use Rattle.sv_obl.specs.Obligations.{Obligation}
use Rattle.sv_obl.specs.Paths.{StepForm}
use Rattle.sv_obl.specs.Views.{step_form}
use Rattle.sv_encoding.specs.Cones.{conditions_of}
use Rattle.sv_encoding.specs.Encoding.{truth_literals}
use Rattle.sv_encoding.specs.Expressions.{Words, is_true_bit}
use Rattle.sv_blast.specs.Framed.{trees_of, literals_of, AreFirst, mark_behind, IsTruth, AreTruths}
use Rattle.sv_blast.specs.Framed.{with_truths}
use Rattle.sv_blast.specs.Steps.{after_settled, after_next, after_facts, after_conditions}
use Rattle.sv_blast.specs.declared.framed.Truth.{Truth}
use Rattle.sv_blast.proofs.Growing.{truths_grow}

-- ---- lists

-- the value of an option, or another
abbrev value_or : {X : Type 0} → X → Option X → X
value_or d (Some x) = x
value_or d None = d

-- what stands at a place is the first of what begins there
pub drop_at : {X : Type 0} (xs : List X) (k : ℕ) (x : X) → slice_get xs k ≡ Some x →
    drop k xs ≡ x ∷ drop (suc k) xs
drop_at [] k x e = absurd (let bad : None ≡ Some x = e in cc)
drop_at (y ∷ xs) zero x e = ap (λ z. value_or y z ∷ xs) e
drop_at (y ∷ xs) (suc k) x e = drop_at xs k x e

pub drop_past : {X : Type 0} (xs : List X) (k : ℕ) → slice_get xs k ≡ None → drop k xs ≡ []
drop_past [] zero e = refl
drop_past [] (suc k) e = refl
drop_past (y ∷ xs) zero e = absurd (let bad : Some y ≡ None = e in cc)
drop_past (y ∷ xs) (suc k) e = drop_past xs k e

-- where something stands, there are more
pub inside_at : {X : Type 0} (xs : List X) (k : ℕ) (x : X) (more : List X) →
    drop k xs ≡ x ∷ more → k < length xs
inside_at [] zero x more e = absurd (cc)
inside_at [] (suc k) x more e = absurd (cc)
inside_at (y ∷ xs) zero x more e = omega arith
inside_at (y ∷ xs) (suc k) x more e = let rest = inside_at xs k x more e in omega (arith, rest)

-- what stands in a list at a place, in two lists together
pub get_left : (xs : List FExpr) (ys : List TypedTree) (k : ℕ) (x : FExpr) → k < length xs →
    x ≡ get_or xs k x → Some (typed_tree x) ≡ slice_get (typed_trees xs ++ ys) k
get_left [] ys k x inside is = absurd (omega (arith, inside))
get_left (e ∷ xs) ys zero x inside is = ap (λ (z : FExpr). Some (typed_tree z)) is
get_left (e ∷ xs) ys (suc k) x inside is = get_left xs ys k x (omega (arith, inside)) is

abbrev pub path_trees : List PathStep → List TypedTree
path_trees path = map (λ (step : StepForm). step.condition) (map step_form path)

pub get_right : (xs : List FExpr) (path : List PathStep) (k j : ℕ) (s : PathStep)
    → k ≡ length xs + j → j < length path → s ≡ get_or path j s →
    Some (typed_tree s.cond) ≡ slice_get (typed_trees xs ++ path_trees path) k
get_right [] path k j s e inside is =
    let same : j ≡ k = omega (arith, e) in
    subst (λ n. Some (typed_tree s.cond) ≡ slice_get (path_trees path) n) same
    (here path j inside is)
  where
    here : (path : List PathStep) (k : ℕ) → k < length path → s ≡ get_or path k s →
        Some (typed_tree s.cond) ≡ slice_get (path_trees path) k
    here [] k inside is = absurd (omega (arith, inside))
    here (t ∷ path) zero inside is = ap (λ (z : PathStep). Some (typed_tree z.cond)) is
    here (t ∷ path) (suc k) inside is = here path k (omega (arith, inside)) is
get_right (x ∷ xs) path zero j s e inside is = absurd (omega (arith, e))
get_right (x ∷ xs) path (suc k) j s e inside is =
    get_right xs path k j s (omega (arith, e)) inside is

pub get_none : (xs : List FExpr) (path : List PathStep) (k j : ℕ) → k ≡ length xs + j →
    length path ≤ j → None ≡ slice_get (typed_trees xs ++ path_trees path) k
get_none [] path k j e past =
    let same : j ≡ k = omega (arith, e) in
    subst (λ n. None ≡ slice_get (path_trees path) n) same (here path j past)
  where
    here : (path : List PathStep) (k : ℕ) → length path ≤ k → None ≡ slice_get (path_trees path) k
    here [] k past = refl
    here (t ∷ path) zero past = absurd (omega (arith, past))
    here (t ∷ path) (suc k) past = here path k (omega (arith, past))
get_none (x ∷ xs) path zero j e past = absurd (omega (arith, e))
get_none (x ∷ xs) path (suc k) j e past = get_none xs path k j (omega (arith, e)) past

-- ---- the first ones

-- so many are the first, by their number in the place of a length
pub first_by : (truths : List Truth) (k : ℕ) (es : List TypedTree) → k ≤ length truths →
    es ≡ trees_of (take k truths) ++ drop k es → AreFirst (take k truths) es
first_by truths k es inside e =
    e ∙ ap (λ n. trees_of (take k truths) ++ drop n es) (sym (length-take-le k truths inside))

pub first_more : (truths : List Truth) (truth : Truth) (es : List TypedTree) →
    AreFirst truths es →
    drop (length truths) es ≡ typed_tree truth.expr ∷ drop (suc (length truths)) es →
    AreFirst (truths ++ truth ∷ []) es
first_more truths truth es first next =
    first ∙ ap (λ z. trees_of truths ++ z) next
    ∙ ap (λ n. trees_of truths ++ typed_tree truth.expr ∷ drop n es) (sym (pushed truths))
    ∙ joined truths (drop (length (truths ++ truth ∷ [])) es)
  where
    pushed : (ts : List Truth) → length (ts ++ truth ∷ []) ≡ suc (length ts)
    pushed [] = refl
    pushed (t ∷ ts) = ap suc (pushed ts)

    joined : (ts : List Truth) (more : List TypedTree) →
        trees_of ts ++ typed_tree truth.expr ∷ more ≡ trees_of (ts ++ truth ∷ []) ++ more
    joined [] more = refl
    joined (t ∷ ts) more = ap (λ z. typed_tree t.expr ∷ z) (joined ts more)

pub length_more : (ts : List Truth) (t : Truth) → length (ts ++ t ∷ []) ≡ suc (length ts)
length_more [] t = refl
length_more (x ∷ ts) t = ap suc (length_more ts t)

-- one more of them is the first of what is left
pub take_next : (truths : List Truth) (k : ℕ) (t : Truth) (es : List TypedTree) →
    k < length truths → t ≡ get_or truths k t →
    es ≡ trees_of (take k truths) ++ drop k es →
    drop k es ≡ typed_tree t.expr ∷ drop (suc k) es →
    es ≡ trees_of (take (suc k) truths) ++ drop (suc k) es
take_next truths k t es inside is first next =
    first ∙ ap (λ z. trees_of (take k truths) ++ z) next ∙ taken truths k (drop (suc k) es) inside is
  where
    taken : (ts : List Truth) (k : ℕ) (more : List TypedTree) → k < length ts → t ≡ get_or ts k t →
        trees_of (take k ts) ++ typed_tree t.expr ∷ more ≡ trees_of (take (suc k) ts) ++ more
    taken [] k more inside is = absurd (omega (arith, inside))
    taken (x ∷ ts) zero more inside is = ap (λ (z : Truth). typed_tree z.expr ∷ more) is
    taken (x ∷ ts) (suc k) more inside is =
        ap (λ z. typed_tree x.expr ∷ z) (taken ts k more (omega (arith, inside)) is)

-- where nothing is left, they are all
pub first_all : (truths : List Truth) (es : List TypedTree) → AreFirst truths es →
    drop (length truths) es ≡ [] → trees_of truths ≡ es
first_all truths es first none =
    sym (first ∙ ap (λ z. trees_of truths ++ z) none ∙ append-nil (trees_of truths))

-- ---- marks

pub last_mark_is : (truths : List Truth) (mark : Mark) (truth : Truth) →
    Some truth ≡ slice_get truths (length truths - 1) → truth.mark ≡ mark_behind mark truths
last_mark_is [] mark truth is = absurd (let bad : Some truth ≡ None = is in cc)
last_mark_is (t ∷ truths) mark truth is =
    let last : length (t ∷ truths) - 1 ≡ length truths = omega arith in
    by truths t (subst (λ n. Some truth ≡ slice_get (t ∷ truths) n) last is)
  where
    by : (truths : List Truth) (t : Truth) → Some truth ≡ slice_get (t ∷ truths) (length truths) →
        truth.mark ≡ mark_behind t.mark truths
    by [] t is = ap (λ (z : Option Truth). (value_or t z).mark) is
    by (u ∷ truths) t is = by truths u is

pub no_last_mark : (truths : List Truth) (mark : Mark) →
    None ≡ slice_get truths (length truths - 1) → mark ≡ mark_behind mark truths
no_last_mark [] mark is = refl
no_last_mark (t ∷ truths) mark is =
    let last : length (t ∷ truths) - 1 ≡ length truths = omega arith in
    absurd (some truths t (subst (λ n. None ≡ slice_get (t ∷ truths) n) last is))
  where
    some : (truths : List Truth) (t : Truth) → None ≡ slice_get (t ∷ truths) (length truths) → ⊥
    some [] t is = let e : None ≡ Some t = is in cc
    some (u ∷ truths) t is = some truths u is

-- ---- what is made of them

module _ (design : FlatDesign) (now : Words) where
  abbrev bit : TypedTree → Formula → Formula × ℤ
  bit e from = is_true_bit design.signals now e from

  pub with_begins : (from there : Formula) (truths : List Truth) →
      AreTruths design now from there truths → Begins (with_truths design now from truths) there
  with_begins from there [] is = is
  with_begins from there (t ∷ truths) is =
      with_begins (bit (typed_tree t.expr) from).0 there truths is.1

  pub truths_begin : (from there : Formula) (truths : List Truth) →
      AreTruths design now from there truths → Begins from there
  truths_begin from there [] is = is
  truths_begin from there (t ∷ truths) is =
      begins_trans from (bit (typed_tree t.expr) from).0 there is.0.begins
      (truths_begin (bit (typed_tree t.expr) from).0 there truths is.1)

  -- the first so many, without what came behind them
  pub truths_front : (from there : Formula) (truths : List Truth) (k : ℕ) →
      AreTruths design now from there truths →
      AreTruths design now from (with_truths design now from (take k truths)) (take k truths)
  truths_front from there [] zero is = begins_none from
  truths_front from there [] (suc k) is = begins_none from
  truths_front from there (t ∷ truths) zero is = begins_none from
  truths_front from there (t ∷ truths) (suc k) is =
      (is.0, truths_front (bit (typed_tree t.expr) from).0 there truths k is.1)

  -- the first so many are the beginning of what is there
  pub front_begins : (from there : Formula) (truths : List Truth) (k : ℕ) →
      AreTruths design now from there truths →
      Begins (with_truths design now from (take k truths)) there
  front_begins from there [] zero is = is
  front_begins from there [] (suc k) is = is
  front_begins from there (t ∷ truths) zero is = truths_begin from there (t ∷ truths) is
  front_begins from there (t ∷ truths) (suc k) is =
      front_begins (bit (typed_tree t.expr) from).0 there truths k is.1

  -- something else behind them
  pub truths_onward : (from there other : Formula) (truths : List Truth) →
      AreTruths design now from there truths → Begins (with_truths design now from truths) other →
      AreTruths design now from other truths
  truths_onward from there other [] is begins = begins
  truths_onward from there other (t ∷ truths) is begins =
      (is.0, truths_onward (bit (typed_tree t.expr) from).0 there other truths is.1 begins)

  pub mark_is : (from there : Formula) (mark : Mark) (truths : List Truth) →
      mark.variables ≡ from.variables → mark.clauses ≡ length from.clauses → IsProper from →
      AreTruths design now from there truths →
      ((mark_behind mark truths).variables ≡ (with_truths design now from truths).variables)
      × ((mark_behind mark truths).clauses
      ≡ length (with_truths design now from truths).clauses)
      × IsProper (with_truths design now from truths)
  mark_is from there mark [] v c proper is = (v, c, proper)
  mark_is from there mark (t ∷ truths) v c proper is =
      mark_is (bit (typed_tree t.expr) from).0 there t.mark truths is.0.variables is.0.clauses
      is.0.proper is.1

  pub literals_are : (from there : Formula) (truths : List Truth) →
      AreTruths design now from there truths →
      literals_of truths ≡ (truth_literals design now (trees_of truths) from).1
  literals_are from there [] is = refl
  literals_are from there (t ∷ truths) is =
      ap₂ ◌∷◌ is.0.literal (literals_are (bit (typed_tree t.expr) from).0 there truths is.1)

  pub literals_inside : (from there : Formula) (truths : List Truth) →
      AreTruths design now from there truths → IsWord there.variables (literals_of truths)
  literals_inside from there [] is = tt
  literals_inside from there (t ∷ truths) is =
      let made = bit (typed_tree t.expr) from in (
        literal_up (made.0).variables there.variables t.literal
            (truths_begin made.0 there truths is.1).grows is.0.within,
        literals_inside made.0 there truths is.1,
      )

  -- one more behind them
  pub truths_more : (from there : Formula) (truths : List Truth) (t : Truth) →
      there ≡ with_truths design now from truths → AreTruths design now from there truths →
      IsTruth there (bit (typed_tree t.expr) there) t →
      AreTruths design now from (bit (typed_tree t.expr) there).0 (truths ++ t ∷ [])
  truths_more from there [] t e is one =
      let made = bit (typed_tree t.expr) there in
      subst (λ (z : Formula). AreTruths design now z made.0 (t ∷ [])) e (one, begins_none made.0)
  truths_more from there (u ∷ truths) t e is one =
      (is.0, truths_more (bit (typed_tree u.expr) from).0 there truths t e is.1 one)

  pub with_more : (from : Formula) (truths : List Truth) (t : Truth) →
      with_truths design now from (truths ++ t ∷ [])
      ≡ (bit (typed_tree t.expr) (with_truths design now from truths)).0
  with_more from [] t = refl
  with_more from (u ∷ truths) t = with_more (bit (typed_tree u.expr) from).0 truths t

  -- some expressions and others behind them
  pub truths_joined : (xs ys : List TypedTree) (from : Formula) →
      truth_literals design now (xs ++ ys) from
      ≡ onto (truth_literals design now xs from).1
      (truth_literals design now ys (truth_literals design now xs from).0)
  truths_joined [] ys from = refl
  truths_joined (x ∷ xs) ys from =
      ap (λ (z : Formula × List ℤ). (z.0, (bit x from).1 ∷ z.1))
      (truths_joined xs ys (bit x from).0)

  -- what the next one needs is no more than what all need
  pub next_full : (from : Formula) (truths : List Truth) (es rest : List TypedTree) (e : TypedTree)
      (most : ℕ) → AreFirst truths es → drop (length truths) es ≡ e ∷ rest →
      most < ((bit e (with_truths design now from truths)).0).variables →
      most < ((truth_literals design now es from).0).variables
  next_full from truths es rest e most first next full =
      let made = bit e (with_truths design now from truths) in
      let all = first ∙ ap (λ z. trees_of truths ++ z) next in
      let same = ap (λ z. ((truth_literals design now z from).0).variables) all
      ∙ ap (λ (z : Formula × List ℤ). (z.0).variables)
      (truths_joined (trees_of truths) (e ∷ rest) from) in
      omega (arith, full, same, truths_grow design.signals now rest made.0)

-- ---- those of an obligation

module _ (design : FlatDesign) (o : Obligation) where
  abbrev now_words : Words
  now_words = (after_settled design o).1

  pub all_made : truth_literals design now_words (conditions_of o) (after_next design o).0
      ≡ onto (after_facts design o).1 (after_conditions design o)
  all_made =
      truths_joined design now_words o.facts (map (λ (step : StepForm). step.condition) o.path)
      (after_next design o).0

  module _ (truths : List Truth) (all : trees_of truths ≡ conditions_of o) where
    pub with_all : with_truths design now_words (after_next design o).0 truths
        ≡ (after_conditions design o).0
    with_all =
        ap (λ z. (truth_literals design now_words z (after_next design o).0).0) all
        ∙ ap (λ (z : Formula × List ℤ). z.0) all_made

    module _ (there : Formula)
        (are : AreTruths design now_words (after_next design o).0 there truths) where
      both : literals_of truths ≡ (after_facts design o).1 ++ (after_conditions design o).1
      both =
          literals_are design now_words (after_next design o).0 there truths are
          ∙ ap (λ z. (truth_literals design now_words z (after_next design o).0).1) all
          ∙ ap (λ (z : Formula × List ℤ). z.1) all_made

      count : length (after_facts design o).1 ≡ length o.facts
      count =
          each_length (map (is_true_bit design.signals now_words) o.facts) (after_next design o).0
          ∙ length-map o.facts (is_true_bit design.signals now_words)

      -- a part up to or from the seam
      parted : (part : ℕ → List ℤ → List ℤ) (n : ℕ) → n ≡ length o.facts →
          part n (literals_of truths)
          ≡ part (length (after_facts design o).1)
          ((after_facts design o).1 ++ (after_conditions design o).1)
      parted part n e = ap₂ part (e ∙ sym count) both

      pub facts_are : (n : ℕ) → n ≡ length o.facts →
          literals_of (take n truths) ≡ (after_facts design o).1
      facts_are n e =
          sym (take-map (λ (truth : Truth). truth.literal) n truths) ∙ parted take n e
          ∙ take-append_seam (after_facts design o).1 (after_conditions design o).1

      pub conditions_are : (n : ℕ) → n ≡ length o.facts →
          literals_of (drop n truths) ≡ (after_conditions design o).1
      conditions_are n e =
          sym (drop-map (λ (truth : Truth). truth.literal) n truths) ∙ parted drop n e
          ∙ drop-append_seam (after_facts design o).1 (after_conditions design o).1
