-- Statements that the walk over words of followed signals has come to, as its calls hold them: the
-- targets of a branch stand in a set, and the expressions are over a list with the copies.
use Rattle.std.proofs.Common.{◌≡◌, ℕ, ◌<◌, ◌≤◌, Bool, true, false, ℤ, List, [], ◌∷◌, ◌++◌, map}
use Rattle.std.proofs.Common.{filter, nat_cmp, Box, sym, ap, subst, ◌∙◌}
use Rattle.std.specs.Prelude.{Contains, IsTrue}
use Rattle.std.specs.BTreeSet.{BTreeSet, IsOrdered}
use Rattle.std.specs.declared.alloc.Global.{Global}
use Rattle.std.specs.List.{list_any, list_all}
use Rattle.std.proofs.lemmas.Bool.{or_left}
use Rattle.sv_num.specs.declared.faults.Place.{Place}
use Rattle.sv_system.proofs.Lists.{Contains-filter, Contains-map}
use Rattle.sv_flat.specs.declared.expressions.FExpr.{FExpr}
use Rattle.sv_flat.specs.Assigned.{assigns}
use Rattle.sv_flat.specs.Design.{SignalForm, TypedTree, PieceForm, FlatStatement, assign, branch}
use Rattle.sv_flat.specs.Soundness.{piece_fits, well_formed}
use Rattle.sv_flat.specs.Views.{typed_tree}
use Rattle.sv_graph.specs.Marks.{is_marked}
use Rattle.sv_obl.specs.declared.marked.Marked.{Marked}
use Rattle.sv_obl.specs.declared.marked.Marked as marked
use Rattle.sv_obl.specs.MarkedBodies.{AreTargets, TellsTargets, marked_statement}
use Rattle.sv_obl.specs.Wanted.{with_copies, copy_of}
use Rattle.sv_obl.proofs.PathLists.{cond_true}
use Rattle.sv_gates.specs.Extending.{Begins}
use Rattle.sv_gates.specs.Formulas.{Formula, IsLiteral}
use Rattle.sv_encoding.specs.Bodies.{assigns_some, assigned_words, words_after}
use Rattle.sv_encoding.specs.Expressions.{Words, is_true_bit}
use Rattle.sv_blast.specs.FollowedWords.{forms_in, follows_in, IsAtHand, IsFit, AreFit, AllStand}
use Rattle.sv_blast.specs.FollowedWords.{pairs, words_at}
use Rattle.sv_blast.specs.WordTables.{StandFor}
use Rattle.sv_blast.specs.declared.followed.Followed.{Followed}
use Rattle.sv_blast.specs.declared.followed_arms.WordsArm.{WordsArm}
use Rattle.sv_blast.proofs.CopyChoices.{BackAt, stand_up}
use Rattle.sv_blast.proofs.FollowedArms.{DownAt, rest_full, rest_made, rest_passed, condition_full}
use Rattle.sv_blast.proofs.FollowedArms.{arm_full, branch_opened, expression_ready, self_apart}
use Rattle.sv_blast.proofs.FollowedArms.{self_copies}
use Rattle.sv_blast.proofs.FollowedLists.{assigned_is, some_assigned, some_piece}
use Rattle.sv_blast.proofs.FollowedSteps.{passed}

module _ (self : Followed) where
  abbrev forms : List SignalForm
  forms = forms_in self

  abbrev follows : List ℕ
  follows = follows_in self

  -- ---- assignments

  module _ (stmt : FlatStatement) (pieces : List PieceForm) (place : Place) (blocking : Bool)
      (right : TypedTree) (is : stmt ≡ assign pieces place blocking right) (found : Bool)
      (counted : found
      ≡ list_any (λ (piece : PieceForm). is_marked self.follows.now piece.signal) pieces) where
    some_pieces : (some : Bool) → found ≡ some →
        assigns_some follows (assign pieces place blocking right) ≡ some
    some_pieces some test =
        sym (some_piece self.follows.now pieces place blocking right) ∙ sym counted ∙ test

    -- to no followed signal
    pub assignment_passed : found ≡ false → (ws : Words) (f : Formula) →
        words_after forms follows stmt ws f ≡ (f, ws)
    assignment_passed none =
        passed forms follows stmt (ap (assigns_some follows) is ∙ some_pieces false none)

    module _ (some : found ≡ true) where
      pub assignment_made : (ws : Words) (f : Formula) →
          words_after forms follows stmt ws f ≡ assigned_words forms follows pieces right ws f
      assignment_made ws f =
          ap (λ b. words_after forms follows b ws f) is
          ∙ cond_true (assigns_some follows (assign pieces place blocking right))
          (assigned_words forms follows pieces right ws f) (f, ws) (some_pieces true some)

      pub assignment_fit : AreFit forms follows (IsAtHand self) stmt →
          IsFit forms (IsAtHand self) right × IsTrue (list_all (piece_fits forms right) pieces)
      assignment_fit fit =
          subst (AreFit forms follows (IsAtHand self)) is fit (some_pieces true some)

  -- ---- what has a set of targets

  module _ (stmt : FlatStatement) (targets : BTreeSet ℕ) (tells : AreTargets targets stmt)
      (found : Bool) (counted : found ≡ list_any (is_marked self.follows.now) targets.keys) where
    some_targets : (some : Bool) → found ≡ some → assigns_some follows stmt ≡ some
    some_targets some test =
        sym (some_assigned self.follows.now targets stmt tells) ∙ sym counted ∙ test

    pub targets_passed : found ≡ false → (ws : Words) (f : Formula) →
        words_after forms follows stmt ws f ≡ (f, ws)
    targets_passed none = passed forms follows stmt (some_targets false none)

  -- ---- on the way down a chain of branches

  module _ {whole : Formula × Words} {old now : Formula} {arms : List WordsArm} {ws : Words}
      (rest : Marked)
      (down : DownAt forms follows (IsAtHand self) whole old now arms (marked_statement rest) ws)
    where
      -- what takes too many variables behind the last branch
      pub last_many : (most : ℕ) →
          most < (words_after forms follows (marked_statement rest) ws now).0.variables →
          most < whole.0.variables
      last_many most high =
          rest_full forms follows (IsAtHand self) (self_copies self) whole old now arms ws
          (marked_statement rest) down most high

      -- where what stands there is made
      pub last_made : {later : Formula} {next : Words} →
          words_after forms follows (marked_statement rest) ws now ≡ (later, next) →
          Begins now later → AllStand forms (IsAtHand self) later.variables next →
          BackAt forms (IsAtHand self) whole old later arms next
      last_made made begins stand =
          rest_made forms follows (IsAtHand self) (self_copies self) whole old now arms ws
          (marked_statement rest) down _ _ made begins stand

      module _ (tells : TellsTargets rest) (targets : BTreeSet ℕ) (place : Place) (cond : FExpr)
          (yes no : Box Marked Global) (is : rest ≡ marked.Branch targets place cond yes no) where
        abbrev parts : FlatStatement
        parts =
            branch place (typed_tree cond) (marked_statement yes.value) (marked_statement no.value)

        tells_all : AreTargets targets parts × TellsTargets yes.value × TellsTargets no.value
        tells_all = subst TellsTargets is tells

        branch_here : DownAt forms follows (IsAtHand self) whole old now arms parts ws
        branch_here =
            subst (λ (z : Marked).
            DownAt forms follows (IsAtHand self) whole old now arms (marked_statement z) ws) is down

        -- the second arm, as it is seen, tells what it assigns
        pub second_tells : (seen : Marked) → seen ≡ no.value → TellsTargets seen
        second_tells seen same = subst TellsTargets (sym same) tells_all.2

        -- the copies of what it assigns
        module _ (ordered : IsOrdered nat_cmp targets) (named : List ℕ)
            (are : named ≡ map (copy_of forms) (filter (is_marked self.follows.now) targets.keys))
            (names : List ℕ) (listed : names ≡ named) where
          names_are : names ≡ map (copy_of forms) (filter (assigns parts) follows)
          names_are =
              listed ∙ are
              ∙ ap (map (copy_of forms))
              (assigned_is self.follows.now targets parts tells_all.0 ordered)

          -- what the first arm, as it is seen, asks for in a formula that may have grown
          pub first_ready : (seen : Marked) → seen ≡ yes.value → (n : ℕ) → now.variables ≤ n →
              TellsTargets seen
              × (AreFit forms follows (IsAtHand self) (marked_statement seen)
              × (AllStand forms (IsAtHand self) n ws
              × ((s : ℕ) → Contains follows s → IsTrue (assigns (marked_statement seen) s) →
              Contains names (copy_of forms s))))
          first_ready seen same n up = (
            subst TellsTargets (sym same) tells_all.1,
            (
              subst (λ z. AreFit forms follows (IsAtHand self) (marked_statement z)) (sym same)
                  branch_here.fit.1.0,
              (
                stand_up forms (IsAtHand self) now.variables n ws up down.stand,
                λ s at own. subst (λ ts. Contains ts (copy_of forms s)) (sym names_are)
                    (Contains-map (copy_of forms) (filter (assigns parts) follows) s
                    (Contains-filter (assigns parts) follows s at
                    (or_left (assigns (marked_statement yes.value) s)
                    (assigns (marked_statement no.value) s)
                    (subst (λ z. IsTrue (assigns (marked_statement z) s)) same own)))),
              ),
            ),
          )

        module _ (found : Bool)
            (counted : found ≡ list_any (is_marked self.follows.now) targets.keys) where
          -- where it assigns no followed signal
          pub branch_passed : found ≡ false → BackAt forms (IsAtHand self) whole old now arms ws
          branch_passed none =
              rest_passed forms follows (IsAtHand self) (self_copies self) whole old now arms ws parts
              branch_here (some_targets parts targets tells_all.0 found counted false none)

          module _ (test : found ≡ true) (sigs : List SignalForm) (twice : sigs ≡ with_copies forms)
            where
              pub branch_some : IsTrue (assigns_some follows parts)
              branch_some = some_targets parts targets tells_all.0 found counted true test

              pub condition_stands : IsTrue (well_formed sigs (typed_tree cond))
                  × StandFor sigs now.variables ws (typed_tree cond)
              condition_stands =
                  expression_ready forms follows (IsAtHand self) (self_copies self) sigs twice
                  (typed_tree cond) (branch_here.fit.0 branch_some) now.variables ws branch_here.stand

              pub condition_many : (most : ℕ) →
                  most < (is_true_bit sigs ws (typed_tree cond) now).0.variables →
                  most < whole.0.variables
              condition_many most high =
                  condition_full forms follows (IsAtHand self) (self_copies self) whole old now arms ws
                  (self_apart self) place (typed_tree cond) (marked_statement yes.value)
                  (marked_statement no.value) branch_some branch_here most
                  (subst (λ (ss : List SignalForm).
                  most < (is_true_bit ss ws (typed_tree cond) now).0.variables) twice high)

              module _ (mid : Formula) (literal : ℤ)
                  (made : is_true_bit sigs ws (typed_tree cond) now ≡ (mid, literal)) where
                bit_is : is_true_bit (with_copies forms) ws (typed_tree cond) now ≡ (mid, literal)
                bit_is =
                    ap (λ (ss : List SignalForm). is_true_bit ss ws (typed_tree cond) now) (sym twice)
                    ∙ made

                -- the first arm and the second, as they are seen
                module _ (seen : Marked) (same : seen ≡ yes.value) where
                  pub first_many : (most : ℕ) →
                      most < (words_after forms follows (marked_statement seen) ws mid).0.variables →
                      most < whole.0.variables
                  first_many most high =
                      arm_full forms follows (IsAtHand self) (self_copies self) whole old now arms ws
                      (self_apart self) place (typed_tree cond) (marked_statement yes.value)
                      (marked_statement no.value) branch_some branch_here mid literal bit_is most
                      (subst (λ z. most
                      < (words_after forms follows (marked_statement z) ws mid).0.variables) same high)

                  -- one more open arm
                  pub arm_opened : (ordered : IsOrdered nat_cmp targets) (named : List ℕ)
                      (are : named
                      ≡ map (copy_of forms) (filter (is_marked self.follows.now) targets.keys))
                      (names : List ℕ) (listed : names ≡ named) (later : Formula) (arm : WordsArm) →
                      arm.condition ≡ literal →
                      later ≡ (words_after forms follows (marked_statement seen) ws mid).0 →
                      pairs arm.words.items
                      ≡ words_at (words_after forms follows (marked_statement seen) ws mid).1 names →
                      AllStand forms (IsAtHand self) later.variables
                      (words_after forms follows (marked_statement seen) ws mid).1 →
                      IsLiteral mid.variables literal → Begins now mid → Begins mid later →
                      (all : List WordsArm) → all ≡ arms ++ arm ∷ [] → (last : Marked) →
                      last ≡ no.value → (back : Words) → back ≡ ws →
                      DownAt forms follows (IsAtHand self) whole old later all (marked_statement last)
                      back
                  arm_opened ordered named are names listed later arm condition_is later_is words_are
                      stand literal_in up more all all_are last last_is back back_is =
                      let after_first = λ (z : Marked).
                      words_after forms follows (marked_statement z) ws mid in
                      let opened = branch_opened forms follows (IsAtHand self) (self_copies self) whole
                      old now arms ws (self_apart self) place (typed_tree cond)
                      (marked_statement yes.value) (marked_statement no.value) branch_some branch_here
                      mid literal bit_is later arm names
                      (names_are ordered named are names listed) condition_is
                      (later_is ∙ ap (λ z. (after_first z).0) same)
                      (words_are ∙ ap (λ z. words_at (after_first z).1 names) same)
                      (subst (λ z. AllStand forms (IsAtHand self) later.variables (after_first z).1)
                      same
                      stand) literal_in up more in
                      subst (λ xs. DownAt forms follows (IsAtHand self) whole old later xs
                      (marked_statement last) back) (sym all_are)
                      (subst (λ (z : Marked). DownAt forms follows (IsAtHand self) whole old later
                      (arms ++ arm ∷ []) (marked_statement z) back) (sym last_is)
                      (subst (λ (vs : Words). DownAt forms follows (IsAtHand self) whole old later
                      (arms ++ arm ∷ []) (marked_statement no.value) vs) (sym back_is) opened))
