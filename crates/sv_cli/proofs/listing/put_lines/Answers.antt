use Rattle.std.proofs.Common.{List, ℕ, length, subst}
use Rattle.sv_io.specs.Sink.{WritesFront}
use Rattle.sv_flat.specs.Views.{design_of}
use Rattle.sv_paths.specs.ListLines.{list_text}
use Rattle.sv_paths.specs.ListParts.{lines_left}
use Rattle.sv_cli.proofs.Lines.{on_failure, front_after}
use Rattle.sv_cli.proofs.listing.put_lines.Goals as goal

pub returns-in_ok-put_targets-in-Ok-clause-refused :
    goal.returns-in_ok-put_targets-in-Ok-clause-refused
returns-in_ok-put_targets-in-Ok-clause-refused g c =
    let old = g.K.Sink.accepted c.args.out.now in
    let mid = g.K.Sink.accepted c.put_targets.new.out in
    let new = g.K.Sink.accepted c.put_selectors.new.out in
    let left = lines_left (design_of c.args.design.now) in
    let n = length c.args.design.now.signals.items in
    on_failure c.put_selectors.result (WritesFront mid (left n) new)
    (WritesFront old (list_text (design_of c.args.design.now)) new)
    (λ w. subst (λ (text : List ℕ). WritesFront old text new) c.new-listing.ensures.all
    (front_after old (left 0) (left n) mid new c.in_ok-put_targets-in-Ok.ensures.whole w))
    c.put_selectors.ensures.refused
