use Rattle.std.proofs.Common.{◌+◌, cond, map, min, sym, ap, subst, ◌∙◌, rules}
use Rattle.std.specs.Prelude.{IsTrue}
use Rattle.sv_flat.specs.Design.{after, assign, branch}
use Rattle.sv_flat.specs.Views.{piece_form, typed_tree}
use Rattle.sv_obl.specs.MarkedBodies.{marked_statement, TellsTargets}
use Rattle.sv_obl.specs.Wanted.{with_copies}
use Rattle.sv_obl.specs.declared.marked.Marked.{the_lemmas}
use Rattle.sv_encoding.specs.Bodies.{assigns_some}
use Rattle.sv_encoding.specs.Sizes.{expression_size, statement_size, truth_size, widths_of}
use Rattle.sv_blast.specs.FollowedWords.{forms_in, follows_in}
use Rattle.sv_blast.proofs.FollowedLists.{assigned_is, some_assigned, some_piece}
use Rattle.sv_blast.proofs.FollowedSizes.{SizeAt, size_last, size_ends}
use Rattle.sv_blast.proofs.FollowedSizes.{size_of_branch}
use Rattle.sv_blast.proofs.followed.Followed.+followed_size.Goals as goal

pub returns-in-Assign : goal.returns-in-Assign
returns-in-Assign t c =
    let self = c.args.self.now in
    let forms = forms_in self in
    let follows = follows_in self in
    let whole = statement_size forms follows (marked_statement c.args.stmt.now) in
    let pieces = map piece_form c.in-Assign.pieces.now in
    let right = typed_tree c.in-Assign.right in
    let here = assign pieces c.in-Assign.place c.in-Assign.blocking right in
    size_last forms follows whole c.parts.total c.assignment_size.result c.sum.result here
    (subst (SizeAt forms follows whole c.parts.total) (ap marked_statement c.in-Assign.is)
    c.parts.invariant.0)
    (c.assignment_size.ensures
    ∙ ap (λ b. min (cond b (expression_size (with_copies forms) right) 0) 4194305)
    (some_piece self.follows.now pieces c.in-Assign.place c.in-Assign.blocking right))
    c.sum.ensures

pub returns-then-not-follows_some : goal.returns-then-not-follows_some
returns-then-not-follows_some t c =
    let self = c.args.self.now in
    let forms = forms_in self in
    let follows = follows_in self in
    let whole = statement_size forms follows (marked_statement c.args.stmt.now) in
    let here = after (marked_statement c.in-Chain.first.value)
    (marked_statement c.in-Chain.second.value) in
    let tells = subst TellsTargets c.in-Chain.is c.parts.invariant.1.0 in
    let at = subst (SizeAt forms follows whole c.parts.total) (ap marked_statement c.in-Chain.is)
    c.parts.invariant.0 in
    size_ends forms follows whole c.parts.total here at
    (sym (some_assigned self.follows.now c.in-Chain.targets here tells.0)
    ∙ sym c.follows_some.ensures ∙ c.if-not-follows_some.true)

pub returns-then-not-follows_some-2 : goal.returns-then-not-follows_some-2
returns-then-not-follows_some-2 t c =
    let self = c.args.self.now in
    let forms = forms_in self in
    let follows = follows_in self in
    let whole = statement_size forms follows (marked_statement c.args.stmt.now) in
    let here = branch c.in-Branch.place (typed_tree c.in-Branch.cond)
    (marked_statement c.in-Branch.yes.value) (marked_statement c.in-Branch.no.value) in
    let tells = subst TellsTargets c.in-Branch.is c.parts.invariant.1.0 in
    let at = subst (SizeAt forms follows whole c.parts.total) (ap marked_statement c.in-Branch.is)
    c.parts.invariant.0 in
    size_ends forms follows whole c.parts.total here at
    (sym (some_assigned self.follows.now c.in-Branch.targets here tells.0)
    ∙ sym c.follows_some-in-Branch.ensures ∙ c.if-not-follows_some-2.true)

pub parts-preserved : goal.parts-preserved
parts-preserved t c =
    let self = c.args.self.now in
    let forms = forms_in self in
    let follows = follows_in self in
    let whole = statement_size forms follows (marked_statement c.args.stmt.now) in
    let x = marked_statement c.in-Branch.yes.value in
    let y = marked_statement c.in-Branch.no.value in
    let cond = typed_tree c.in-Branch.cond in
    let here = branch c.in-Branch.place cond x y in
    let tells = subst TellsTargets c.in-Branch.is c.parts.invariant.1.0 in
    let at = subst (SizeAt forms follows whole c.parts.total) (ap marked_statement c.in-Branch.is)
    c.parts.invariant.0 in
    let some : IsTrue (assigns_some follows here) =
    sym (some_assigned self.follows.now c.in-Branch.targets here tells.0)
    ∙ sym c.follows_some-in-Branch.ensures ∙ c.if-not-follows_some-2.false in
    let arm = c.size-arm.ensures
    ∙ ap (λ z. min (statement_size forms follows (marked_statement z)) 4194305)
    c.deref-in-Branch.ensures in
    let left = size_of_branch forms follows whole c.parts.total c.sum-total-in-Branch.result
    c.branch_size.result c.size-arm.result c.in-Branch.place cond x y at some arm
    (c.branch_size.ensures.size
    ∙ ap (λ ts. min (truth_size (with_copies forms) cond + c.size-arm.result
    + widths_of forms ts) 4194305)
    (assigned_is self.follows.now c.in-Branch.targets here tells.0 c.branch_size.ensures.ordered))
    c.sum-total-in-Branch.ensures in (
      subst (λ z. SizeAt forms follows whole c.sum-total-in-Branch.result (marked_statement z))
          (sym c.deref-rest-in-Branch.ensures) left,
      (
        subst TellsTargets (sym c.deref-rest-in-Branch.ensures) tells.2,
        search (rules, the_lemmas),
      ),
    )
