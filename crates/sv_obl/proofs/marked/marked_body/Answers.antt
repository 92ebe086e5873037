use Rattle.std.proofs.Common.{sym, ◌∙◌}
use Rattle.std.proofs.lemmas.List.{length-map}
use Rattle.sv_flat.specs.ByNumber.{signal_forms}
use Rattle.sv_flat.specs.Views.{signal_form, process_form}
use Rattle.sv_obl.proofs.MarkedBodies.{not_marked, is_marked, none_found}
use Rattle.sv_obl.proofs.marked.marked_body.Goals as goal

pub returns-then-not-is_block : goal.returns-then-not-is_block
returns-then-not-is_block c =
    not_marked (signal_forms c.args.signals.now) (process_form c.args.process.now)
    (sym c.is_block.ensures ∙ c.if-not-is_block.true)

pub returns-then-found : goal.returns-then-found
returns-then-found c =
    is_marked (signal_forms c.args.signals.now) (process_form c.args.process.now)
    c.in_ok-body.body (sym c.is_block.ensures ∙ c.if-not-is_block.false)
    c.in_ok-body.ensures.is_marked _
    (sym (length-map c.args.signals.now signal_form)) c.in_ok-found.found c.in_ok-found.ensures

pub returns : goal.returns
returns c =
    none_found (signal_forms c.args.signals.now) (process_form c.args.process.now)
    c.in_ok-body.body (sym c.is_block.ensures ∙ c.if-not-is_block.false)
    c.in_ok-body.ensures.is_marked _
    (sym (length-map c.args.signals.now signal_form)) c.in_ok-found.found c.in_ok-found.ensures
    c.if-found.false
