-- The way down a chain of branches, and one statement after the other, in words of all followed
-- signals.
use Rattle.std.proofs.Common.{◌≡◌, ℕ, ◌+◌, ◌<◌, ◌++◌, ℤ, List, [], ◌∷◌, length, map, filter, refl, inr}
use Rattle.std.proofs.Common.{sym, ap, subst, ◌∙◌, arith}
use Rattle.std.specs.Prelude.{Contains, IsTrue, IsFalse}
use Rattle.sv_num.specs.declared.faults.Place.{Place}
use Rattle.sv_system.proofs.Lists.{Contains-from_map}
use Rattle.sv_flat.specs.Design.{SignalForm, TypedTree, FlatStatement, after, branch}
use Rattle.sv_flat.specs.Assigned.{assigns}
use Rattle.sv_flat.specs.Soundness.{well_formed}
use Rattle.sv_flat.specs.Values.{signal_width}
use Rattle.sv_flat.proofs.LeastSets.{Contains-from_filter}
use Rattle.sv_graph.specs.Marks.{is_marked}
use Rattle.sv_obl.specs.Wanted.{with_copies, copy_of}
use Rattle.sv_gates.specs.Formulas.{Formula, IsLiteral}
use Rattle.sv_gates.specs.Extending.{Begins}
use Rattle.sv_gates.proofs.ExtendingLaws.{begins_none, begins_trans}
use Rattle.sv_circuits.specs.Words.{Word}
use Rattle.sv_circuits.specs.Circuits.{IsWord}
use Rattle.sv_circuits.proofs.WordKeeps.{literal_up}
use Rattle.sv_encoding.specs.Expressions.{Words, is_true_bit}
use Rattle.sv_encoding.specs.Bodies.{assigns_some, words_after}
use Rattle.sv_blast.specs.declared.followed.Followed.{Followed}
use Rattle.sv_blast.specs.declared.followed_arms.WordsArm.{WordsArm}
use Rattle.sv_blast.specs.WordTables.{StandFor}
use Rattle.sv_blast.specs.FollowedWords.{AllStand, PairsStand, ArmsStand, IsFit, AreFit}
use Rattle.sv_blast.specs.FollowedWords.{pairs}
use Rattle.sv_blast.specs.FollowedWords.{words_at, choices, choices_back, forms_in, follows_in, IsAtHand}
use Rattle.sv_blast.proofs.CopyChoices.{BackAt, arms_up, arms_with, back_grows, choices_grow}
use Rattle.sv_blast.proofs.CopyChoices.{chosen_last, stand_up}
use Rattle.sv_blast.proofs.FollowedSteps.{Apart, branch_is, passed, those_apart}
use Rattle.sv_blast.proofs.WordTurns.{words_after_grow}

-- what is to be made comes from the arms that are open and from what is left of the statement; the
-- words are still those of before
pub record DownAt (signals : List SignalForm) (followed : List ℕ) (Hand : ℕ → Type 0)
    (whole : Formula × Words) (old now : Formula) (arms : List WordsArm) (rest : FlatStatement)
    (ws : Words) : Type 0 where
  pub made : whole ≡ choices_back arms (words_after signals followed rest ws now)
  pub fit : AreFit signals followed Hand rest
  pub arms_stand : ArmsStand signals Hand now.variables arms
  pub stand : AllStand signals Hand now.variables ws
  pub begins : Begins old now

module _ (signals : List SignalForm) (followed : List ℕ) (Hand : ℕ → Type 0)
    (copies : (s : ℕ) → Contains followed s → Hand (copy_of signals s))
  where
    -- what takes too many variables in the first of two statements
    pub first_full : (x y : FlatStatement) (ws : Words) (f : Formula) (most : ℕ) →
        most < (words_after signals followed x ws f).0.variables →
        most < (words_after signals followed (after x y) ws f).0.variables
    first_full x y ws f most high =
        let one = words_after signals followed x ws f in
        let grows = words_after_grow signals followed y one.1 one.0 in
        omega (arith, high, grows)

    -- an expression is ready over the signals with their copies, by whatever list
    pub expression_ready : (sigs : List SignalForm) → sigs ≡ with_copies signals → (e : TypedTree) →
        IsFit signals Hand e → (n : ℕ) (ws : Words) → AllStand signals Hand n ws →
        IsTrue (well_formed sigs e) × StandFor sigs n ws e
    expression_ready sigs are e fit n ws stand =
        subst (λ (ss : List SignalForm). IsTrue (well_formed ss e) × StandFor ss n ws e) (sym are)
        (fit.0, λ t named. stand t (fit.1 t named))

    -- ---- a chain of branches

    pub down_start : (b : FlatStatement) (old : Formula) (ws : Words) →
        AreFit signals followed Hand b → AllStand signals Hand old.variables ws →
        DownAt signals followed Hand (words_after signals followed b ws old) old old [] b ws
    down_start b old ws fit stand = record {
      made = refl;
      fit = fit;
      arms_stand = tt;
      stand = stand;
      begins = begins_none old;
    }

    module _ (whole : Formula × Words) (old now : Formula) (arms : List WordsArm) (ws : Words) where
      abbrev Down : FlatStatement → Type 0
      Down rest = DownAt signals followed Hand whole old now arms rest ws

      -- what takes too many variables
      pub rest_full : (rest : FlatStatement) → Down rest → (most : ℕ) →
          most < (words_after signals followed rest ws now).0.variables → most < whole.0.variables
      rest_full rest down most high =
          let grows = back_grows arms (words_after signals followed rest ws now) in
          subst (λ (z : Formula × Words). most < z.0.variables) (sym down.made)
          (omega (arith, high, grows))

      -- where the rest is made
      pub rest_made : (rest : FlatStatement) → Down rest → (later : Formula) (next : Words) →
          words_after signals followed rest ws now ≡ (later, next) → Begins now later →
          AllStand signals Hand later.variables next →
          BackAt signals Hand whole old later arms next
      rest_made rest down later next made begins stand = record {
        made = down.made ∙ ap (choices_back arms) made;
        arms_stand = arms_up signals Hand now.variables later.variables arms begins.grows
            down.arms_stand;
        stand = stand;
        begins = begins_trans old now later down.begins begins;
      }

      -- where it assigns no followed signal
      pub rest_passed : (rest : FlatStatement) → Down rest → IsFalse (assigns_some followed rest) →
          BackAt signals Hand whole old now arms ws
      rest_passed rest down none =
          rest_made rest down now ws (passed signals followed rest none ws now) (begins_none now)
          down.stand

      module _ (apart : Apart followed) (place : Place) (condition : TypedTree) (x y : FlatStatement)
          (some : IsTrue (assigns_some followed (branch place condition x y)))
          (down : DownAt signals followed Hand whole old now arms (branch place condition x y) ws)
        where
          abbrev assigned : List ℕ
          assigned = filter (assigns (branch place condition x y)) followed

          abbrev bit : Formula × ℤ
          bit = is_true_bit (with_copies signals) ws condition now

          abbrev one : Formula × Words
          one = words_after signals followed x ws bit.0

          abbrev two : Formula × Words
          two = words_after signals followed y ws one.0

          abbrev chosen : Formula × Words
          chosen = choices bit.1 (words_at one.1 (map (copy_of signals) assigned)) two.1 two.0

          from_arms : whole ≡ choices_back arms chosen
          from_arms =
              down.made
              ∙ ap (choices_back arms) (branch_is signals followed apart place condition x y ws now some)

          one_full : (most : ℕ) → most < one.0.variables → most < whole.0.variables
          one_full most high =
              let second = words_after_grow signals followed y ws one.0 in
              let here = choices_grow bit.1 (words_at one.1 (map (copy_of signals) assigned)) two.1
              two.0 in
              let back = back_grows arms chosen in
              subst (λ (z : Formula × Words). most < z.0.variables) (sym from_arms)
              (omega (arith, high, second, here, back))

          pub condition_full : (most : ℕ) → most < bit.0.variables → most < whole.0.variables
          condition_full most high =
              let first = words_after_grow signals followed x ws bit.0 in
              one_full most (omega (arith, high, first))

          module _ (mid : Formula) (literal : ℤ)
              (bit_is : is_true_bit (with_copies signals) ws condition now ≡ (mid, literal)) where
            pub arm_full : (most : ℕ) → most < (words_after signals followed x ws mid).0.variables →
                most < whole.0.variables
            arm_full most high =
                one_full most
                (subst (λ (z : Formula × ℤ).
                most < (words_after signals followed x ws z.0).0.variables) (sym bit_is) high)

            -- one more open arm
            pub branch_opened : (later : Formula) (arm : WordsArm) (names : List ℕ) →
                names ≡ map (copy_of signals) assigned → arm.condition ≡ literal →
                later ≡ (words_after signals followed x ws mid).0 →
                pairs arm.words.items ≡ words_at (words_after signals followed x ws mid).1 names →
                AllStand signals Hand later.variables (words_after signals followed x ws mid).1 →
                IsLiteral mid.variables literal → Begins now mid → Begins mid later →
                DownAt signals followed Hand whole old later (arms ++ arm ∷ []) y ws
            branch_opened later arm names named condition_is later_is words_are stand literal_in up more =
                let n = later.variables in
                let grows = (begins_trans now mid later up more).grows in
                let after_x = words_after signals followed x ws mid in
                let second = words_after signals followed y ws later in
                record {
                  made = from_arms
                      ∙ ap (choices_back arms)
                      (ap (λ (z : Formula × ℤ).
                      let first = words_after signals followed x ws z.0 in
                      let last = words_after signals followed y ws first.0 in
                      choices z.1 (words_at first.1 (map (copy_of signals) assigned)) last.1 last.0)
                      bit_is
                      ∙ ap (λ (g : Formula).
                      let last = words_after signals followed y ws g in
                      choices literal (words_at after_x.1 (map (copy_of signals) assigned)) last.1 last.0)
                      (sym later_is)
                      ∙ ap (λ xs. choices literal xs second.1 second.0)
                      (ap (words_at after_x.1) (sym named) ∙ sym words_are)
                      ∙ ap (λ l. choices l (pairs arm.words.items) second.1 second.0) (sym condition_is))
                      ∙ sym (chosen_last arms arm second);
                  fit = down.fit.1.1;
                  arms_stand = arms_with signals Hand n arms arm
                      (arms_up signals Hand now.variables n arms grows down.arms_stand) (
                        subst (IsLiteral n) (sym condition_is)
                            (literal_up mid.variables n literal more.grows literal_in),
                        subst (PairsStand signals Hand n)
                            (ap (words_at after_x.1) (sym named) ∙ sym words_are)
                            (set_aside n after_x.1 stand),
                      );
                  stand = stand_up signals Hand now.variables n ws grows down.stand;
                  begins = begins_trans old now later down.begins (begins_trans now mid later up more);
                }
              where
                set_aside : (n : ℕ) (vs : Words) → AllStand signals Hand n vs →
                    PairsStand signals Hand n (words_at vs (map (copy_of signals) assigned))
                set_aside n vs stands pair at =
                    let found = Contains-from_map (λ t. (t, vs t)) (map (copy_of signals) assigned) pair
                    at in
                    let named = Contains-from_map (copy_of signals) assigned found.0 found.1 in
                    let s = named.0 in
                    let inside = (Contains-from_filter (assigns (branch place condition x y)) followed s
                    named.1).1 in
                    subst (λ (z : ℕ × Word). Hand z.0
                    × (IsWord n z.1 × (length z.1 ≡ signal_width (with_copies signals) z.0)))
                    found.2
                    (subst (λ t. Hand t
                    × (IsWord n (vs t) × (length (vs t) ≡ signal_width (with_copies signals) t)))
                    named.2
                    (copies s inside, stands (copy_of signals s) (copies s inside)))

-- ---- as the calls hold them

-- no signal is followed twice
pub self_apart : (self : Followed) → Apart (follows_in self)
self_apart self = those_apart (length self.follows.now) (is_marked self.follows.now)

-- the copies of what is followed are at hand
pub self_copies : (self : Followed) (s : ℕ) → Contains (follows_in self) s →
    IsAtHand self (copy_of (forms_in self) s)
self_copies self s at = inr (s, at, refl)
