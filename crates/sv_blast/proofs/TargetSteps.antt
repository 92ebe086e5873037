-- One target's word, statement by statement: what it keeps, and how a formula grows by it.
use Rattle.std.proofs.Common.{◌≡◌, ℕ, ◌<◌, ◌≤◌, Bool, true, false, cond, List, [], ◌∷◌, ◌++◌, map}
use Rattle.std.proofs.Common.{fold, drop, length, refl, sym, ap, subst, ◌∙◌, arith, ◌==◌, All}
use Rattle.std.specs.Prelude.{IsTrue, ℤ}
use Rattle.std.specs.List.{list_all}
use Rattle.std.proofs.lemmas.Bool.{eqb-true, eq-eqb}
use Rattle.std.proofs.lemmas.List.Elements.{All-nil, All-cons}
use Rattle.sv_num.specs.declared.faults.Place.{Place}
use Rattle.sv_flat.specs.declared.statements.Piece.{Piece}
use Rattle.sv_flat.specs.Design.{SignalForm, TypedTree, PieceForm, FlatStatement, nothing, after}
use Rattle.sv_flat.specs.Design.{assign, branch}
use Rattle.sv_flat.specs.Values.{signal_width}
use Rattle.sv_flat.specs.Readings.{ReadForm, reads}
use Rattle.sv_flat.specs.Soundness.{piece_fits}
use Rattle.sv_flat.specs.Views.{piece_form}
use Rattle.sv_flat.proofs.Depths.{first_of, second_of}
use Rattle.sv_flat.proofs.LeastSets.{some_from}
use Rattle.sv_flat.proofs.SameRuns.{piece_lies_inside}
use Rattle.sv_gates.specs.Formulas.{Formula, IsLiteral}
use Rattle.sv_gates.specs.Gates.{mux_gate}
use Rattle.sv_gates.specs.Extending.{Begins}
use Rattle.sv_gates.proofs.ExtendingLaws.{begins_trans}
use Rattle.sv_circuits.specs.Words.{Word, replaced_word, bitwise_word}
use Rattle.sv_circuits.specs.Circuits.{IsWord}
use Rattle.sv_circuits.proofs.Comparisons.{drop_is}
use Rattle.sv_circuits.proofs.LoopSteps.{bits_grow, mux_takes}
use Rattle.sv_circuits.proofs.PartValues.{replaced_is, replaced_length}
use Rattle.sv_circuits.proofs.WordKeeps.{literal_up, word_up}
use Rattle.sv_encoding.specs.Expressions.{Words, expression_word, is_true_bit}
use Rattle.sv_encoding_laws.proofs.ExpressionLaws.{Named}
use Rattle.sv_encoding_laws.proofs.NamedValues.{named_from_reads}
use Rattle.sv_encoding_laws.proofs.OperatorCounts.{IsLong, expression_count, truth_count}
use Rattle.sv_blast.specs.declared.arms.TargetArm.{TargetArm}
use Rattle.sv_blast.specs.WordTables.{StandFor}
use Rattle.sv_blast.specs.TargetWords.{with_piece_of, target_word, IsReady, AreReady}
use Rattle.sv_blast.specs.TargetWords.{chosen_back, StandAt}
use Rattle.sv_blast.proofs.ArmSteps.{chosen_last, back_grows, stand_with, stand_up}
use Rattle.sv_blast.proofs.SliceWords.{ready_up}

-- ---- pieces

pub pieces_ordered : (signals : List SignalForm) (e : TypedTree) (pieces : List Piece) →
    IsTrue (list_all (piece_fits signals e) (map piece_form pieces)) →
    All (λ (piece : Piece). piece.low ≤ piece.high) pieces
pieces_ordered signals e [] fit = All-nil (λ (piece : Piece). piece.low ≤ piece.high)
pieces_ordered signals e (p ∷ pieces) fit =
    let here = piece_fits signals e (piece_form p) in
    let later = list_all (piece_fits signals e) (map piece_form pieces) in
    All-cons (λ (piece : Piece). piece.low ≤ piece.high) p pieces
    (piece_lies_inside signals e (piece_form p) (first_of here later fit)).0
    (pieces_ordered signals e pieces (second_of here later fit))

module _ (signals : List SignalForm) (e : TypedTree) (s n : ℕ) (some : 1 ≤ n) (right : Word)
    (right_is : IsWord n right) where
  -- a word of the target at its width
  abbrev pub IsTarget : Word → Type 0
  IsTarget word = IsWord n word × (length word ≡ signal_width signals s)

  piece_kept : (p : PieceForm) → IsTrue (piece_fits signals e p) → (word : Word) → IsTarget word →
      IsTarget (with_piece_of s right word p)
  piece_kept p fit word is = by (p.signal == s) refl
    where
      lies : (p.low ≤ p.high) × (p.high < signal_width signals p.signal)
      lies = piece_lies_inside signals e p fit

      by : (c : Bool) → (p.signal == s) ≡ c →
          IsTarget (cond c (replaced_word p.high p.low word (drop p.from right)) word)
      by true same =
          let inside : p.high < length word =
          subst (λ k. p.high < k)
          (ap (signal_width signals) (eqb-true p.signal s same) ∙ sym is.1) lies.1 in (
            replaced_is n p.high p.low word (drop p.from right) some is.0
                (drop_is n p.from right right_is),
            replaced_length p.high p.low word (drop p.from right) lies.0 inside ∙ is.1,
          )
      by false other = is

  pub pieces_kept : (pieces : List PieceForm) → IsTrue (list_all (piece_fits signals e) pieces) →
      (word : Word) → IsTarget word → IsTarget (fold (with_piece_of s right) word pieces)
  pieces_kept [] fit word is = is
  pieces_kept (p ∷ pieces) fit word is =
      let here = piece_fits signals e p in
      let later = list_all (piece_fits signals e) pieces in
      pieces_kept pieces (second_of here later fit) (with_piece_of s right word p)
      (piece_kept p (first_of here later fit) word is)

-- ---- how a formula grows

module _ (signals : List SignalForm) (words : Words) where
  named_long : (n : ℕ) (e : TypedTree) → StandFor signals n words e → Named (IsLong signals words) e
  named_long n e stand =
      named_from_reads signals (IsLong signals words) e
      (λ r r_at. (stand r.signal
      (some_from (λ (q : ReadForm). q.signal == r.signal) (reads signals e) r r_at
      (eq-eqb r.signal r.signal refl))).1)

  pub expression_grows : (n : ℕ) (e : TypedTree) → IsReady signals n words e → (f : Formula) →
      f.variables ≤ (expression_word signals words e f).0.variables
  expression_grows n e ready f =
      let count = expression_count signals words e ready.0 (named_long n e ready.1) f in
      omega (arith, count)

  pub truth_grows : (n : ℕ) (e : TypedTree) → IsReady signals n words e → (f : Formula) →
      f.variables ≤ (is_true_bit signals words e f).0.variables
  truth_grows n e ready f =
      let count = truth_count signals words e ready.0 (named_long n e ready.1) f in
      omega (arith, count)

  module _ (n s : ℕ) where
    pub target_grows : (a : FlatStatement) → AreReady signals n words a → (w : Word) (f : Formula) →
        f.variables ≤ (target_word signals words s a w f).0.variables
    target_grows nothing ready w f = omega arith
    target_grows (after x y) ready w f =
        let first = target_word signals words s x w f in
        let one = target_grows x ready.0 w f in
        let two = target_grows y ready.1 first.1 first.0 in
        omega (arith, one, two)
    target_grows (assign pieces place blocking right) ready w f =
        expression_grows n right ready.0 f
    target_grows (branch place condition x y) ready w f =
        let bit = is_true_bit signals words condition f in
        let one = target_word signals words s x w bit.0 in
        let two = target_word signals words s y w one.0 in
        let p = truth_grows n condition ready.0 f in
        let q = target_grows x ready.1.0 w bit.0 in
        let r = target_grows y ready.1.1 w one.0 in
        let t = bits_grow (mux_gate bit.1) one.1 two.1 two.0 (mux_takes bit.1) in
        omega (arith, p, q, r, t)

    -- what takes too many variables in the first of two statements
    pub first_full : (x y : FlatStatement) → AreReady signals n words y → (w : Word) (f : Formula)
        (most : ℕ) → most < (target_word signals words s x w f).0.variables →
        most < (target_word signals words s (after x y) w f).0.variables
    first_full x y ready w f most high =
        let first = target_word signals words s x w f in
        let grows = target_grows y ready first.1 first.0 in
        omega (arith, high, grows)

-- ---- the way down a chain of branches

-- what is to be made comes from the arms that are open and from what is left of the slice; the
-- target's word is still that of before
pub record DownAt (signals : List SignalForm) (words : Words) (s : ℕ) (whole : Formula × Word)
    (width : ℕ) (old now : Formula) (arms : List TargetArm) (rest : FlatStatement)
    (word : Word) : Type 0
  where
    pub made : whole ≡ chosen_back arms (target_word signals words s rest word now)
    pub ready : AreReady signals now.variables words rest
    pub stand : StandAt width now.variables arms
    pub is : IsWord now.variables word
    pub wide : length word ≡ width
    pub begins : Begins old now

module _ (signals : List SignalForm) (words : Words) (s : ℕ) (whole : Formula × Word)
    (width : ℕ) (old now : Formula) (arms : List TargetArm) (word : Word) where
  abbrev Down : FlatStatement → Type 0
  Down rest = DownAt signals words s whole width old now arms rest word

  -- what takes too many variables
  pub rest_full : (rest : FlatStatement) → Down rest → (most : ℕ) →
      most < (target_word signals words s rest word now).0.variables → most < whole.0.variables
  rest_full rest down most high =
      let grows = back_grows arms (target_word signals words s rest word now) in
      subst (λ (z : Formula × Word). most < z.0.variables) (sym down.made)
      (omega (arith, high, grows))

  module _ (place : Place) (condition : TypedTree) (x y : FlatStatement)
      (down : DownAt signals words s whole width old now arms (branch place condition x y) word)
    where
      abbrev bit : Formula × ℤ
      bit = is_true_bit signals words condition now

      abbrev one : Formula × Word
      one = target_word signals words s x word bit.0

      abbrev two : Formula × Word
      two = target_word signals words s y word one.0

      one_full : (most : ℕ) → most < one.0.variables → most < whole.0.variables
      one_full most high =
          let q = target_grows signals words now.variables s y down.ready.1.1 word one.0 in
          let t = bits_grow (mux_gate bit.1) one.1 two.1 two.0 (mux_takes bit.1) in
          rest_full (branch place condition x y) down most (omega (arith, high, q, t))

      pub condition_full : (most : ℕ) → most < bit.0.variables → most < whole.0.variables
      condition_full most high =
          let p = target_grows signals words now.variables s x down.ready.1.0 word bit.0 in
          one_full most (omega (arith, high, p))

      module _ (mid : Formula) (literal : ℤ)
          (bit_is : is_true_bit signals words condition now ≡ (mid, literal)) where
        pub arm_full : (most : ℕ) →
            most < (target_word signals words s x word mid).0.variables → most < whole.0.variables
        arm_full most high =
            one_full most
            (subst (λ (z : Formula × ℤ).
            most < (target_word signals words s x word z.0).0.variables) (sym bit_is) high)

        pub branch_opened : (later : Formula) (arm : TargetArm) → arm.condition ≡ literal →
            target_word signals words s x word mid ≡ (later, arm.word.items) →
            IsLiteral mid.variables literal → Begins now mid → Begins mid later →
            IsWord later.variables arm.word.items → length arm.word.items ≡ width →
            DownAt signals words s whole width old later (arms ++ arm ∷ []) y word
        branch_opened later arm condition_is made literal_in up more word_is wide =
            let n = now.variables in
            let m = later.variables in
            let grows = (begins_trans now mid later up more).grows in
            record {
              made = down.made
                  ∙ ap (chosen_back arms)
                  (ap (λ (z : Formula × ℤ).
                  let first = target_word signals words s x word z.0 in
                  let second = target_word signals words s y word first.0 in
                  bitwise_word (mux_gate z.1) first.1 second.1 second.0) bit_is
                  ∙ ap (λ (z : Formula × Word).
                  let second = target_word signals words s y word z.0 in
                  bitwise_word (mux_gate literal) z.1 second.1 second.0) made
                  ∙ ap (λ l.
                  let second = target_word signals words s y word later in
                  bitwise_word (mux_gate l) arm.word.items second.1 second.0) (sym condition_is))
                  ∙ sym (chosen_last arms arm (target_word signals words s y word later));
              ready = ready_up signals n m words grows y down.ready.1.1;
              stand = stand_with width m arms arm (stand_up width n m arms grows down.stand) (
                subst (IsLiteral m) (sym condition_is)
                    (literal_up mid.variables m literal more.grows literal_in),
                (word_is, wide),
              );
              is = word_up n m word grows down.is;
              wide = down.wide;
              begins = begins_trans old now later down.begins (begins_trans now mid later up more);
            }
