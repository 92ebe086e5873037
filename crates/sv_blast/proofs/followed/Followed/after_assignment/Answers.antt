use Rattle.std.proofs.Common.{◌≡◌, ◌<◌, ◌≤◌, List, map, fold, sym, ap, subst, ◌∙◌, rules, arith}
use Rattle.std.specs.Result.{IsErrOf}
use Rattle.sv_flat.specs.ByNumber.{signal_forms}
use Rattle.sv_flat.specs.Design.{SignalForm}
use Rattle.sv_flat.specs.Views.{piece_form, typed_tree}
use Rattle.sv_obl.specs.Wanted.{with_copies}
use Rattle.sv_gates.specs.declared.gates.GateFault.TheVariants.{Full}
use Rattle.sv_gates.specs.Formulas.{Formula, most_variables}
use Rattle.sv_circuits.specs.Words.{Word}
use Rattle.sv_encoding.specs.Bodies.{with_piece_word}
use Rattle.sv_encoding.specs.Expressions.{Words, expression_word}
use Rattle.sv_blast.specs.FollowedWords.{forms_in, follows_in, IsAtHand, AllStand}
use Rattle.sv_blast.specs.WordTables.{words_of}
use Rattle.sv_blast.proofs.CopyChoices.{stand_up}
use Rattle.sv_blast.proofs.FollowedArms.{expression_ready, self_copies}
use Rattle.sv_blast.proofs.FollowedSteps.{pieces_stand}
use Rattle.sv_blast.proofs.TargetSteps.{pieces_ordered}
use Rattle.sv_blast.proofs.followed.Followed.after_assignment.Goals as goal

pub expression-requires : goal.expression-requires
expression-requires c =
    let self = c.args.self.now in
    let ready = expression_ready (forms_in self) (follows_in self) (IsAtHand self) (self_copies self)
    (signal_forms self.twice.now) c.requires.held.twice (typed_tree c.args.right.now)
    c.requires.right c.args.gates.now.variables (words_of c.args.words.now) c.requires.stand in
    record { formed = ready.0; words = ready.1 }

pub put_pieces-requires-clause-pieces : goal.put_pieces-requires-clause-pieces
put_pieces-requires-clause-pieces c =
    pieces_ordered (forms_in c.args.self.now) (typed_tree c.args.right.now) c.args.pieces.now
    c.requires.inside

pub returns-clause-made : goal.returns-clause-made
returns-clause-made c =
    let forms = forms_in c.args.self.now in
    let follows = follows_in c.args.self.now in
    let ws = words_of c.args.words.now in
    let f = c.args.gates.now in
    let right = typed_tree c.args.right.now in
    let pieces = map piece_form c.args.pieces.now in
    let later = c.expression.new.gates in
    let is : expression_word (with_copies forms) ws right f ≡ (later, c.in_ok-value.value.items) =
    ap (λ (ss : List SignalForm). expression_word ss ws right f) (sym c.requires.held.twice)
    ∙ c.in_ok-value.ensures.made in
    ap (λ (z : Formula × Word). (z.0, fold (with_piece_word forms follows z.1) ws pieces)) is
    ∙ ap (λ (w : Word). (later, fold (with_piece_word forms follows w) ws pieces))
    (sym c.deref.ensures.value)
    ∙ ap (λ (vs : Words). (later, vs)) c.in_ok-put_pieces.ensures

pub returns-clause-stand : goal.returns-clause-stand
returns-clause-stand c =
    let self = c.args.self.now in
    let forms = forms_in self in
    let follows = follows_in self in
    let hand = IsAtHand self in
    let ws = words_of c.args.words.now in
    let m = c.args.gates.now.variables in
    let n = c.expression.new.gates.variables in
    let pieces = map piece_form c.args.pieces.now in
    let grows = c.in_ok-value.ensures.begins.grows in
    let some : 1 ≤ n = omega (
      arith,
      c.variables-some.ensures.some,
      c.variables-some.ensures.value,
      grows,
    ) in
    subst (AllStand forms hand n)
    (ap (λ (w : Word). fold (with_piece_word forms follows w) ws pieces) (sym c.deref.ensures.value)
    ∙ c.in_ok-put_pieces.ensures)
    (pieces_stand forms follows hand (self_copies self) (typed_tree c.args.right.now) n some
    c.in_ok-value.value.items c.in_ok-value.ensures.within pieces c.requires.inside ws
    (stand_up forms hand m n ws grows c.requires.stand))

pub returns-in_err-value-clause-full : goal.returns-in_err-value-clause-full
returns-in_err-value-clause-full c =
    let ws = words_of c.args.words.now in
    let right = typed_tree c.args.right.now in
    let f = c.args.gates.now in
    let same : IsErrOf c.from_residual.result Full → IsErrOf c.expression.result Full =
    search rules in
    λ e. subst (λ (ss : List SignalForm). most_variables < (expression_word ss ws right f).0.variables)
    c.requires.held.twice (c.expression.ensures.full (same e))
