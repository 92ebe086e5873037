use Rattle.std.proofs.Common.{◌≡◌, ◌<◌, map, refl, sym, ap, subst, ◌∙◌, rules}
use Rattle.std.specs.Prelude.{Contains, OnOk}
use Rattle.std.specs.Result.{IsErrOf}
use Rattle.sv_flat.specs.ByNumber.{signal_forms}
use Rattle.sv_flat.specs.Design.{after}
use Rattle.sv_flat.specs.Views.{piece_form, typed_tree}
use Rattle.sv_obl.specs.MarkedBodies.{marked_statement, AreTargets, TellsTargets}
use Rattle.sv_design.specs.Numbers.{numbers}
use Rattle.sv_obl.specs.declared.marked.Marked.{the_lemmas}
use Rattle.sv_gates.specs.declared.gates.GateFault.TheVariants.{Full}
use Rattle.sv_gates.specs.Formulas.{Formula, most_variables}
use Rattle.sv_gates.proofs.ExtendingLaws.{begins_trans}
use Rattle.sv_encoding.specs.Bodies.{words_after}
use Rattle.sv_encoding.specs.Expressions.{Words}
use Rattle.sv_blast.specs.FollowedWords.{forms_in, follows_in, IsAtHand, AreFit, with_words}
use Rattle.sv_blast.specs.WordTables.{words_of}
use Rattle.sv_blast.proofs.CopyChoices.{put_back}
use Rattle.sv_blast.proofs.FollowedArms.{first_full, self_copies}
use Rattle.sv_blast.proofs.FollowedBranches.{assignment_passed, assignment_made, assignment_fit}
use Rattle.sv_blast.proofs.FollowedBranches.{targets_passed, last_many, last_made, second_tells}
use Rattle.sv_blast.proofs.FollowedBranches.{first_ready, branch_passed, condition_stands}
use Rattle.sv_blast.proofs.FollowedBranches.{condition_many, first_many, arm_opened}
use Rattle.sv_blast.proofs.FollowedSteps.{after_leaves}
use Rattle.sv_blast.proofs.followed.Followed.+followed_statements.Goals as goal

-- ---- the first arm of a branch

pub first_arm-returns-clause-back : goal.first_arm-returns-clause-back
first_arm-returns-clause-back t c =
    let self = c.args.self.now in
    let forms = forms_in self in
    let follows = follows_in self in
    let yes = marked_statement c.args.yes.now in
    let ws = words_of c.args.words.now in
    let names = numbers c.args.copies.now in
    let after = words_after forms follows yes ws c.args.gates.now in
    c.in_ok-put_words.ensures
    ∙ ap (λ xs. with_words xs (words_of c.after.new.words)) c.in_ok-before.ensures
    ∙ put_back names ws (words_of c.after.new.words) (λ s none.
    ap (λ (z : Formula × Words). z.1 s) (sym c.in_ok-after.ensures.made)
    ∙ after_leaves forms follows yes s (λ u u_at own e. none
    (subst (Contains names) e (c.requires.copies u u_at own))) ws c.args.gates.now)

-- ---- statements that are no branch

pub after_plain-returns-then-not-has_piece-clause-made :
    goal.after_plain-returns-then-not-has_piece-clause-made
after_plain-returns-then-not-has_piece-clause-made t c =
    assignment_passed c.args.self.now (marked_statement c.args.stmt.now)
    (map piece_form c.in-Assign.pieces.now) c.in-Assign.place c.in-Assign.blocking
    (typed_tree c.in-Assign.right) (ap marked_statement c.in-Assign.is) c.has_piece.result
    c.has_piece.ensures c.if-not-has_piece.true (words_of c.args.words.now) c.args.gates.now

pub after_plain-returns-then-not-follows_some-clause-made :
    goal.after_plain-returns-then-not-follows_some-clause-made
after_plain-returns-then-not-follows_some-clause-made t c =
    let x = marked_statement c.in-Chain.first.value in
    let y = marked_statement c.in-Chain.second.value in
    let tells = subst TellsTargets c.in-Chain.is c.requires.tells in
    let whole : marked_statement c.args.stmt.now ≡ after x y = ap marked_statement c.in-Chain.is in
    targets_passed c.args.self.now (marked_statement c.args.stmt.now) c.in-Chain.targets
    (subst (AreTargets c.in-Chain.targets) (sym whole) tells.0) c.follows_some.result
    c.follows_some.ensures c.if-not-follows_some.true (words_of c.args.words.now) c.args.gates.now

pub after_plain-after_assignment-requires : goal.after_plain-after_assignment-requires
after_plain-after_assignment-requires t c =
    let fit = assignment_fit c.args.self.now (marked_statement c.args.stmt.now)
    (map piece_form c.in-Assign.pieces.now) c.in-Assign.place c.in-Assign.blocking
    (typed_tree c.in-Assign.right) (ap marked_statement c.in-Assign.is) c.has_piece.result
    c.has_piece.ensures c.if-not-has_piece.false c.requires.fit in
    record {
      held = c.requires.held;
      right = fit.0;
      inside = fit.1;
      stand = c.requires.stand;
    }

pub after_plain-returns-else-not-has_piece-clause-made :
    goal.after_plain-returns-else-not-has_piece-clause-made
after_plain-returns-else-not-has_piece-clause-made t c =
    let new = c.after_assignment.new in
    subst (λ (z : Formula × Words).
    OnOk c.after_assignment.result (z ≡ (new.gates, words_of new.words)))
    (sym (assignment_made c.args.self.now (marked_statement c.args.stmt.now)
    (map piece_form c.in-Assign.pieces.now) c.in-Assign.place c.in-Assign.blocking
    (typed_tree c.in-Assign.right) (ap marked_statement c.in-Assign.is) c.has_piece.result
    c.has_piece.ensures c.if-not-has_piece.false (words_of c.args.words.now)
    c.args.gates.now)) c.after_assignment.ensures.made

pub after_plain-returns-else-not-has_piece-clause-full :
    goal.after_plain-returns-else-not-has_piece-clause-full
after_plain-returns-else-not-has_piece-clause-full t c =
    λ e. subst (λ (z : Formula × Words). most_variables < z.0.variables)
    (sym (assignment_made c.args.self.now (marked_statement c.args.stmt.now)
    (map piece_form c.in-Assign.pieces.now) c.in-Assign.place c.in-Assign.blocking
    (typed_tree c.in-Assign.right) (ap marked_statement c.in-Assign.is) c.has_piece.result
    c.has_piece.ensures c.if-not-has_piece.false (words_of c.args.words.now)
    c.args.gates.now)) (c.after_assignment.ensures.full e)

pub after_plain-after-requires-in-Chain : goal.after_plain-after-requires-in-Chain
after_plain-after-requires-in-Chain t c =
    let self = c.args.self.now in
    let whole = ap marked_statement c.in-Chain.is in
    let fit = subst (AreFit (forms_in self) (follows_in self) (IsAtHand self)) whole
    c.requires.fit in
    let tells = subst TellsTargets c.in-Chain.is c.requires.tells in
    let there = c.deref-in-Chain.ensures in (
      search (rules, the_lemmas),
      (
        c.requires.held,
        (
          subst TellsTargets (sym there) tells.2,
          (
            subst (λ z. AreFit (forms_in self) (follows_in self) (IsAtHand self)
                (marked_statement z))
                (sym there) fit.1,
            c.in_ok-after-in-Chain.ensures.stand,
          ),
        ),
      ),
    )

pub after_plain-returns-in_err-after-in-Chain-clause-full :
    goal.after_plain-returns-in_err-after-in-Chain-clause-full
after_plain-returns-in_err-after-in-Chain-clause-full t c =
    let self = c.args.self.now in
    let ws = words_of c.args.words.now in
    let x = marked_statement c.deref.result.now in
    let y = marked_statement c.in-Chain.second.value in
    let whole : marked_statement c.args.stmt.now ≡ after x y =
    ap marked_statement c.in-Chain.is
    ∙ ap (λ z. after (marked_statement z) y) (sym c.deref.ensures) in
    let same : IsErrOf c.from_residual.result Full → IsErrOf c.after.result Full = search rules in
    λ e. subst (λ z. most_variables
    < (words_after (forms_in self) (follows_in self) z ws c.args.gates.now).0.variables) (sym whole)
    (first_full (forms_in self) (follows_in self) (IsAtHand self) (self_copies self) x y ws
    c.args.gates.now most_variables (c.after.ensures.full (same e)))

-- ---- the way down a chain of branches

pub after-choose_back-requires : goal.after-choose_back-requires
after-choose_back-requires t c =
    let back = branch_passed c.args.self.now c.loop-rest.rest.now c.loop-rest.invariant.0
    c.loop-rest.invariant.1.0 c.in-Branch.targets c.in-Branch.place c.in-Branch.cond
    c.in-Branch.yes c.in-Branch.no c.in-Branch.is c.follows_some.result
    c.follows_some.ensures c.if-not-follows_some.true in
    record { arms = back.arms_stand; stand = back.stand }

pub after-returns-then-not-follows_some-clause-made :
    goal.after-returns-then-not-follows_some-clause-made
after-returns-then-not-follows_some-clause-made t c =
    let back = branch_passed c.args.self.now c.loop-rest.rest.now c.loop-rest.invariant.0
    c.loop-rest.invariant.1.0 c.in-Branch.targets c.in-Branch.place c.in-Branch.cond
    c.in-Branch.yes c.in-Branch.no c.in-Branch.is c.follows_some.result
    c.follows_some.ensures c.if-not-follows_some.true in
    let new = c.choose_back.new in
    subst (λ (z : Formula × Words). OnOk c.choose_back.result (z ≡ (new.gates, words_of new.words)))
    (sym back.made) c.choose_back.ensures.made

pub after-returns-then-not-follows_some-clause-full :
    goal.after-returns-then-not-follows_some-clause-full
after-returns-then-not-follows_some-clause-full t c =
    let back = branch_passed c.args.self.now c.loop-rest.rest.now c.loop-rest.invariant.0
    c.loop-rest.invariant.1.0 c.in-Branch.targets c.in-Branch.place c.in-Branch.cond
    c.in-Branch.yes c.in-Branch.no c.in-Branch.is c.follows_some.result
    c.follows_some.ensures c.if-not-follows_some.true in
    λ e. subst (λ (z : Formula × Words). most_variables < z.0.variables) (sym back.made)
    (c.choose_back.ensures.full e)

pub after-is_true-requires : goal.after-is_true-requires
after-is_true-requires t c =
    let ready = condition_stands c.args.self.now c.loop-rest.rest.now c.loop-rest.invariant.0
    c.loop-rest.invariant.1.0 c.in-Branch.targets c.in-Branch.place c.in-Branch.cond
    c.in-Branch.yes c.in-Branch.no c.in-Branch.is c.follows_some.result
    c.follows_some.ensures c.if-not-follows_some.false
    (signal_forms c.args.self.now.twice.now) c.requires.held.twice in
    record { formed = ready.0; words = ready.1 }

pub after-returns-in_err-condition-clause-full : goal.after-returns-in_err-condition-clause-full
after-returns-in_err-condition-clause-full t c =
    let same : IsErrOf c.from_residual-in_err-condition.result Full →
    IsErrOf c.is_true.result Full =
    search rules in
    λ e. condition_many c.args.self.now c.loop-rest.rest.now c.loop-rest.invariant.0
    c.loop-rest.invariant.1.0 c.in-Branch.targets c.in-Branch.place c.in-Branch.cond
    c.in-Branch.yes c.in-Branch.no c.in-Branch.is c.follows_some.result
    c.follows_some.ensures c.if-not-follows_some.false
    (signal_forms c.args.self.now.twice.now) c.requires.held.twice
    most_variables (c.is_true.ensures.full (same e))

pub after-first_arm-requires : goal.after-first_arm-requires
after-first_arm-requires t c = (
  search (rules, the_lemmas),
  (
    c.requires.held,
    first_ready c.args.self.now c.loop-rest.rest.now c.loop-rest.invariant.0
        c.loop-rest.invariant.1.0 c.in-Branch.targets c.in-Branch.place c.in-Branch.cond
        c.in-Branch.yes c.in-Branch.no c.in-Branch.is c.in_ok-copies.ensures.ordered
        (numbers c.in_ok-copies.copies.items) c.in_ok-copies.ensures.copies
        (numbers c.deref-in-Branch.result.now) (ap numbers c.deref-in-Branch.ensures.value)
        c.deref.result.now c.deref.ensures c.is_true.new.gates.variables
        c.in_ok-condition.ensures.begins.grows,
  ),
)

pub after-returns-in_err-first-clause-full : goal.after-returns-in_err-first-clause-full
after-returns-in_err-first-clause-full t c =
    let same : IsErrOf c.from_residual-in_err-first.result Full → IsErrOf c.first_arm.result Full =
    search rules in
    λ e. first_many c.args.self.now c.loop-rest.rest.now c.loop-rest.invariant.0
    c.loop-rest.invariant.1.0 c.in-Branch.targets c.in-Branch.place c.in-Branch.cond
    c.in-Branch.yes c.in-Branch.no c.in-Branch.is c.follows_some.result
    c.follows_some.ensures c.if-not-follows_some.false
    (signal_forms c.args.self.now.twice.now) c.requires.held.twice
    c.is_true.new.gates c.in_ok-condition.condition c.in_ok-condition.ensures.made
    c.deref.result.now c.deref.ensures most_variables (c.first_arm.ensures.full (same e))

pub after-loop-rest-preserved : goal.after-loop-rest-preserved
after-loop-rest-preserved t c = (
  arm_opened c.args.self.now c.loop-rest.rest.now c.loop-rest.invariant.0
      c.loop-rest.invariant.1.0 c.in-Branch.targets c.in-Branch.place c.in-Branch.cond
      c.in-Branch.yes c.in-Branch.no c.in-Branch.is c.follows_some.result
      c.follows_some.ensures c.if-not-follows_some.false
      (signal_forms c.args.self.now.twice.now) c.requires.held.twice
      c.is_true.new.gates c.in_ok-condition.condition c.in_ok-condition.ensures.made
      c.deref.result.now c.deref.ensures c.in_ok-copies.ensures.ordered
      (numbers c.in_ok-copies.copies.items) c.in_ok-copies.ensures.copies
      (numbers c.deref-in-Branch.result.now) (ap numbers c.deref-in-Branch.ensures.value)
      c.first_arm.new.gates
      (record { condition = c.in_ok-condition.condition; words = c.in_ok-first.first }) refl
      c.in_ok-first.ensures.gates c.in_ok-first.ensures.words c.in_ok-first.ensures.stand
      c.in_ok-condition.ensures.within c.in_ok-condition.ensures.begins
      c.in_ok-first.ensures.begins _ c.in_ok-push_arm.ensures _ c.deref-rest.ensures _
      c.in_ok-first.ensures.back,
  (
    second_tells c.args.self.now c.loop-rest.rest.now c.loop-rest.invariant.0
        c.loop-rest.invariant.1.0 c.in-Branch.targets c.in-Branch.place c.in-Branch.cond
        c.in-Branch.yes c.in-Branch.no c.in-Branch.is _ c.deref-rest.ensures,
    search (rules, the_lemmas),
  ),
)

-- ---- behind the last branch

pub after-returns-in_err-after_plain : goal.after-returns-in_err-after_plain
after-returns-in_err-after_plain t c =
    let same : IsErrOf c.from_residual-in_err-after_plain.result Full →
    IsErrOf c.after_plain.result Full = search rules in
    record {
      made = search rules;
      stand = search rules;
      begins = begins_trans c.args.gates.now c.loop-rest.gates c.after_plain.new.gates
          c.loop-rest.invariant.0.begins c.after_plain.ensures.begins;
      full = λ e. last_many c.args.self.now c.loop-rest.rest.now c.loop-rest.invariant.0
          most_variables (c.after_plain.ensures.full (same e));
    }

pub after-choose_back-requires-2 : goal.after-choose_back-requires-2
after-choose_back-requires-2 t c =
    let back = last_made c.args.self.now c.loop-rest.rest.now c.loop-rest.invariant.0
    c.in_ok-after_plain.ensures.made c.in_ok-after_plain.ensures.begins
    c.in_ok-after_plain.ensures.stand in
    record { arms = back.arms_stand; stand = back.stand }

pub after-returns : goal.after-returns
after-returns t c =
    let back = last_made c.args.self.now c.loop-rest.rest.now c.loop-rest.invariant.0
    c.in_ok-after_plain.ensures.made c.in_ok-after_plain.ensures.begins
    c.in_ok-after_plain.ensures.stand in
    let new = c.choose_back-2.new in
    record {
      made = subst (λ (z : Formula × Words).
          OnOk c.choose_back-2.result (z ≡ (new.gates, words_of new.words))) (sym back.made)
          c.choose_back-2.ensures.made;
      stand = c.choose_back-2.ensures.stand;
      begins = begins_trans c.args.gates.now c.after_plain.new.gates new.gates back.begins
          c.choose_back-2.ensures.begins;
      full = λ e. subst (λ (z : Formula × Words). most_variables < z.0.variables) (sym back.made)
          (c.choose_back-2.ensures.full e);
    }
