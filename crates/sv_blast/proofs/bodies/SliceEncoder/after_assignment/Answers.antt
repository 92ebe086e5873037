use Rattle.std.proofs.Common.{◌≡◌, ◌≤◌, map, fold, length, sym, subst, ap, ◌∙◌, arith}
use Rattle.sv_flat.specs.ByNumber.{signal_forms}
use Rattle.sv_flat.specs.Values.{signal_width}
use Rattle.sv_flat.specs.Views.{piece_form, typed_tree}
use Rattle.sv_circuits.specs.Circuits.{IsWord}
use Rattle.sv_circuits.specs.Words.{Word}
use Rattle.sv_circuits.proofs.WordKeeps.{word_up}
use Rattle.sv_blast.specs.TargetWords.{with_piece_of}
use Rattle.sv_blast.proofs.TargetSteps.{pieces_ordered, pieces_kept}
use Rattle.sv_blast.proofs.bodies.SliceEncoder.after_assignment.Goals as goal
use Rattle.sv_blast.proofs.bodies.SliceEncoder.after_assignment.Goals.{In_ok-right}

pub with_pieces-requires : goal.with_pieces-requires
with_pieces-requires c =
    pieces_ordered (signal_forms c.args.self.now.signals.now) (typed_tree c.args.value.now)
    c.args.pieces.now c.requires.inside

-- the word with the pieces of the assignment in it
abbrev made : In_ok-right → Word
made c =
    fold (with_piece_of c.args.self.now.target.0 c.in_ok-right.right.items) c.args.word.items
    (map piece_form c.args.pieces.now)

-- it is a word of the target at its width
kept : (c : In_ok-right) → IsWord c.expression.new.gates.variables (made c)
    × (length (made c) ≡ signal_width (signal_forms c.args.self.now.signals.now)
    c.args.self.now.target.0)
kept c =
    let n = c.expression.new.gates.variables in
    let m = c.args.gates.now.variables in
    let grows = c.in_ok-right.ensures.begins.grows in
    let first = c.variables-some.ensures in
    let some : 1 ≤ n = omega (arith, first.some, first.value, grows) in
    pieces_kept (signal_forms c.args.self.now.signals.now) (typed_tree c.args.value.now)
    c.args.self.now.target.0 n some c.in_ok-right.right.items c.in_ok-right.ensures.within
    (map piece_form c.args.pieces.now) c.requires.inside c.args.word.items
    (word_up m n c.args.word.items grows c.requires.word, c.requires.width)

pub returns-clause-within : goal.returns-clause-within
returns-clause-within c =
    subst (IsWord c.expression.new.gates.variables) (sym (c.in_ok-with_pieces.ensures
    ∙ ap (λ right. fold (with_piece_of c.args.self.now.target.0 right) c.args.word.items
    (map piece_form c.args.pieces.now)) c.deref.ensures.value))
    (kept (goal.at.returns-clause-within c).In_ok-right).0

pub returns-clause-width : goal.returns-clause-width
returns-clause-width c =
    ap length (c.in_ok-with_pieces.ensures
    ∙ ap (λ right. fold (with_piece_of c.args.self.now.target.0 right) c.args.word.items
    (map piece_form c.args.pieces.now)) c.deref.ensures.value)
    ∙ (kept (goal.at.returns-clause-width c).In_ok-right).1
