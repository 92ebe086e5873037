-- Loops over expressions: what is to be made, what is left of it, and what is made so far.
use Rattle.std.proofs.Common.{◌≡◌, ℕ, zero, suc, ◌+◌, ◌<◌, ◌≤◌, ℤ, List, [], ◌∷◌, ◌++◌, length, map}
use Rattle.std.proofs.Common.{All, drop, get_or, refl, sym, ap, subst, ◌∙◌, arith, append_assoc}
use Rattle.std.proofs.lemmas.List.{append-nil, get_or-map, length-map, drop_more}
use Rattle.std.proofs.lemmas.List.Elements.{All-nil, All-cons}
use Rattle.sv_flat.specs.declared.expressions.FExpr.{FExpr}
use Rattle.sv_flat.specs.Design.{SignalForm, TypedTree, TypedTrees, more_parts, no_parts}
use Rattle.sv_flat.specs.Readings.{reads, parts_reads}
use Rattle.sv_flat.specs.Views.{typed_tree}
use Rattle.sv_flat.proofs.Parts.{trees, parts_at}
use Rattle.sv_gates.specs.Formulas.{Formula, IsLiteral}
use Rattle.sv_gates.specs.Extending.{Begins}
use Rattle.sv_gates.proofs.ExtendingLaws.{begins_none, begins_trans}
use Rattle.sv_circuits.specs.Words.{Word, made_in_turn}
use Rattle.sv_circuits.specs.Circuits.{IsWord}
use Rattle.sv_circuits.proofs.WordKeeps.{onto, step_behind, word_up, word_push, word_join}
use Rattle.sv_obl.specs.declared.queries.PathStep.{PathStep}
use Rattle.sv_obl.specs.Paths.{StepForm}
use Rattle.sv_obl.specs.Views.{step_form}
use Rattle.sv_encoding.specs.Expressions.{Words, expression_word, joined_word, is_true_bit}
use Rattle.sv_blast.proofs.Growing.{joined_grows, truths_grow}
use Rattle.sv_blast.proofs.Standing.{StandAll, stand_left, stand_right, stand_up}

-- what is made, below bits that are in hand
abbrev pub below : Word → Formula × Word → Formula × Word
below above made = (made.0, made.1 ++ above)

module _ (signals : List SignalForm) (words : Words) where
  -- ---- the parts of a concatenation

  pub record JoinAt (whole : Formula × Word) (left : TypedTrees) (old now : Formula) (above : Word)
      : Type 0 where
    pub made : whole ≡ below above (joined_word signals words left now)
    pub within : IsWord now.variables above
    pub begins : Begins old now

  pub join_start : (es : TypedTrees) (old : Formula) (above : Word) → above ≡ [] →
      JoinAt (joined_word signals words es old) es old old above
  join_start es old above e =
      let all = joined_word signals words es old in
      rw e (record {
        made = ap (λ z. (all.0, z)) (sym (append-nil all.1));
        within = tt;
        begins = begins_none old;
      })

  pub join_more : (whole : Formula × Word) (left rest : TypedTrees) (e : TypedTree)
      (old now later : Formula) (above first next : Word) → JoinAt whole left old now above →
      left ≡ more_parts e rest → expression_word signals words e now ≡ (later, first) →
      IsWord later.variables first → Begins now later → next ≡ first ++ above →
      JoinAt whole rest old later next
  join_more whole left rest e old now later above first next at el em is up en =
      let more = joined_word signals words rest later in
      rw en (record {
        made = at.made ∙ ap (λ z. below above (joined_word signals words z now)) el
            ∙ ap (λ (z : Formula × Word). below above (
              (joined_word signals words rest z.0).0,
              (joined_word signals words rest z.0).1 ++ z.1,
            )) em
            ∙ ap (λ z. (more.0, z)) (append_assoc more.1 first above);
        within = word_join later.variables first above is
            (word_up now.variables later.variables above up.grows at.within);
        begins = begins_trans old now later at.begins up;
      })

  pub join_full : (whole : Formula × Word) (left rest : TypedTrees) (e : TypedTree)
      (old now : Formula) (above : Word) (most : ℕ) → JoinAt whole left old now above →
      left ≡ more_parts e rest →
      most < ((expression_word signals words e now).0).variables → most < (whole.0).variables
  join_full whole left rest e old now above most at el h =
      let first = expression_word signals words e now in
      let same = ap (λ (z : Formula × Word). (z.0).variables)
      (at.made ∙ ap (λ z. below above (joined_word signals words z now)) el) in
      omega (arith, h, same, joined_grows signals words rest first.0)

  pub join_end : (whole : Formula × Word) (left : TypedTrees) (old now : Formula) (above : Word) →
      JoinAt whole left old now above → left ≡ no_parts → whole ≡ (now, above)
  join_end whole left old now above at e =
      at.made ∙ ap (λ z. below above (joined_word signals words z now)) e

  -- ---- the parts that are left

  stand_from : (n : ℕ) (es : List FExpr) (i : ℕ) →
      StandAll signals n words (parts_reads signals (trees es)) →
      StandAll signals n words (parts_reads signals (trees (drop i es)))
  stand_from n es zero all = all
  stand_from n [] (suc i) all = all
  stand_from n (e ∷ es) (suc i) all =
      stand_from n es i (stand_right signals n words (reads signals (typed_tree e))
      (parts_reads signals (trees es)) all)

  -- the part that a turn takes
  pub stand_at : (m n : ℕ) (es : List FExpr) (i : ℕ) (e : FExpr) → m ≤ n → i < length es →
      e ≡ get_or es i e → StandAll signals m words (parts_reads signals (trees es)) →
      StandAll signals n words (reads signals (typed_tree e))
  stand_at m n es i e up inside is all =
      let left = trees (drop (i + 1) es) in
      stand_up signals m n words (reads signals (typed_tree e)) up
      (stand_left signals m words (reads signals (typed_tree e)) (parts_reads signals left)
      (subst (λ z. StandAll signals m words (parts_reads signals z))
      (parts_at es i e inside is) (stand_from m es i all)))

  -- ---- literals of expressions

  pub record TruthsAt (whole : Formula × Word) (left : List TypedTree) (old now : Formula)
      (front : Word) : Type 0 where
    pub made : whole ≡ onto front (made_in_turn (map (is_true_bit signals words) left) now)
    pub within : IsWord now.variables front
    pub begins : Begins old now

  pub truths_start : (es : List TypedTree) (old : Formula) (front : Word) → front ≡ [] →
      TruthsAt (made_in_turn (map (is_true_bit signals words) es) old) es old old front
  truths_start es old front e = rw e (record {
    made = refl;
    within = tt;
    begins = begins_none old;
  })

  pub truths_more : (whole : Formula × Word) (left rest : List TypedTree) (e : TypedTree)
      (old now later : Formula) (front next : Word) (l : ℤ) →
      TruthsAt whole left old now front → left ≡ e ∷ rest →
      is_true_bit signals words e now ≡ (later, l) → IsLiteral later.variables l →
      Begins now later → next ≡ front ++ l ∷ [] → TruthsAt whole rest old later next
  truths_more whole left rest e old now later front next l at el em is up en =
      rw en (record {
        made = at.made
            ∙ ap (λ z. onto front (made_in_turn (map (is_true_bit signals words) z) now)) el
            ∙ step_behind front (λ z. z)
            (λ f. made_in_turn (map (is_true_bit signals words) rest) f)
            (is_true_bit signals words e now) later l em;
        within = word_push later.variables front l
            (word_up now.variables later.variables front up.grows at.within) is;
        begins = begins_trans old now later at.begins up;
      })

  pub truths_full : (whole : Formula × Word) (left rest : List TypedTree) (e : TypedTree)
      (old now : Formula) (front : Word) (most : ℕ) → TruthsAt whole left old now front →
      left ≡ e ∷ rest → most < ((is_true_bit signals words e now).0).variables →
      most < (whole.0).variables
  truths_full whole left rest e old now front most at el h =
      let first = is_true_bit signals words e now in
      let same = ap (λ (z : Formula × Word). (z.0).variables) (at.made
      ∙ ap (λ z. onto front (made_in_turn (map (is_true_bit signals words) z) now)) el) in
      omega (arith, h, same, truths_grow signals words rest first.0)

  pub truths_end : (whole : Formula × Word) (left : List TypedTree) (old now : Formula)
      (front : Word) → TruthsAt whole left old now front → left ≡ [] → whole ≡ (now, front)
  truths_end whole left old now front at e =
      at.made ∙ ap (λ z. onto front (made_in_turn (map (is_true_bit signals words) z) now)) e
      ∙ ap (λ z. (now, z)) (append-nil front)

pub all_within : (n : ℕ) (word : Word) → IsWord n word → All (IsLiteral n) word
all_within n [] is = All-nil (IsLiteral n)
all_within n (l ∷ word) is = All-cons (IsLiteral n) l word is.0 (all_within n word is.1)

-- what all have that are made from some, one of these gives
pub all_at : {X Y : Type 0} (f : X → Y) (P : Y → Type 0) (xs : List X) (i : ℕ) (x : X) →
    i < length xs → x ≡ get_or xs i x → All P (map f xs) → P (f x)
all_at f P xs i x inside is all =
    subst P (get_or-map f xs i x (f x) inside ∙ ap f (sym is))
    (all i (f x) (subst (λ n. i < n) (sym (length-map xs f)) inside))

-- what is left at the turn that takes this one
pub turn : {X Y : Type 0} (f : X → Y) (xs : List X) (i : ℕ) (x : X) → i < length xs →
    x ≡ get_or xs i x → map f (drop i xs) ≡ f x ∷ map f (drop (i + 1) xs)
turn f xs i x inside is =
    ap (map f) (drop_more xs i x inside)
    ∙ ap (λ z. f z ∷ map f (drop (i + 1) xs)) (sym is)

-- the conditions of steps
pub conditions_of : (path : List PathStep) →
    map (λ (step : StepForm). step.condition) (map step_form path)
    ≡ map (λ (step : PathStep). typed_tree step.cond) path
conditions_of [] = refl
conditions_of (step ∷ path) = ap (λ z. typed_tree step.cond ∷ z) (conditions_of path)
