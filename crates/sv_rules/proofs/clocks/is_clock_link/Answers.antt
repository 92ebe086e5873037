use Rattle.std.proofs.Common.{◌≡◌, true, false, get_or, refl, ap, ◌∙◌, rules}
use Rattle.std.specs.List.{list_any}
use Rattle.sv_flat.specs.Design.{PieceForm, assign}
use Rattle.sv_flat.specs.Views.{design_of, process_form, typed_tree, flat_statement}
use Rattle.sv_rules.specs.Pieces.{piece_forms}
use Rattle.sv_rules.proofs.ClockLinks.{not_block, is_link}
use Rattle.sv_rules.proofs.Sound.{block_is}
use Rattle.sv_rules.proofs.clocks.is_clock_link.Goals as goal

pub returns-in-Assign : goal.returns-in-Assign
returns-in-Assign c =
    let design = design_of c.args.flat.now in
    let p = process_form c.args.process.now in
    let is : p.body ≡ assign (piece_forms c.in-Assign.pieces.items) c.in-Assign.place
    c.in-Assign.blocking (typed_tree c.in-Assign.value) =
    ap flat_statement c.in-Assign.is in
    let port : c.links_input.result ≡ true = search rules in
    c.is_any.ensures
    ∙ ap (λ ps. list_any (λ (q : PieceForm).
    get_or c.args.clocks.now q.signal false) (piece_forms ps)) c.deref.ensures.value
    ∙ is_link design p c.requires.sound c.args.clocks.now c.requires.clocks c.links_input.result
    c.links_input.ensures port
    (piece_forms c.in-Assign.pieces.items) (typed_tree c.in-Assign.value) is

pub returns-in-Block : goal.returns-in-Block
returns-in-Block c =
    let port : c.links_input.result ≡ true = search rules in
    not_block (design_of c.args.flat.now) (process_form c.args.process.now) c.requires.sound
    c.links_input.result c.links_input.ensures port
    c.in-Block.field-0.items
    (block_is c.args.process.now.body c.in-Block.field-0 c.in-Block.field-0.items
    c.in-Block.is refl)
