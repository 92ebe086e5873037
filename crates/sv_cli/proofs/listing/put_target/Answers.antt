use Rattle.std.proofs.Common.{◌≡◌, ◌+◌, ◌++◌, List, ℕ, sym, ap, ◌∙◌}
use Rattle.sv_io.specs.Sink.{WritesFront}
use Rattle.sv_flat.specs.Views.{design_of}
use Rattle.sv_paths.specs.ListParts.{lines_left}
use Rattle.sv_cli.specs.Prepared.{LeavesOf}
use Rattle.sv_cli.proofs.Lines.{on_success, on_failure, part_put, front_of}
use Rattle.sv_cli.proofs.listing.put_target.Goals as goal

pub returns-in-Ok-clause-whole : goal.returns-in-Ok-clause-whole
returns-in-Ok-clause-whole g c =
    let old = g.K.Sink.accepted c.args.out.now in
    let new = g.K.Sink.accepted c.put_all.new.out in
    let left = lines_left (design_of c.args.design.now) in
    let i = c.args.target.0 in
    on_success c.put_all.result (new ≡ old ++ c.deref.result.now)
    (LeavesOf old (left i) (left (i + 1)) new)
    (λ put. part_put old (left i) c.in-Ok.part.items (left (i + 1)) new c.in-Ok.ensures.part
    (put ∙ ap (λ (x : List ℕ). old ++ x) c.deref.ensures.value))
    c.put_all.ensures.whole

pub returns-in-Ok-clause-refused : goal.returns-in-Ok-clause-refused
returns-in-Ok-clause-refused g c =
    let old = g.K.Sink.accepted c.args.out.now in
    let new = g.K.Sink.accepted c.put_all.new.out in
    let here = lines_left (design_of c.args.design.now) c.args.target.0 in
    let later = lines_left (design_of c.args.design.now) (c.args.target.0 + 1) in
    on_failure c.put_all.result (WritesFront old c.deref.result.now new)
    (WritesFront old here new)
    (λ w. front_of old here c.deref.result.now later new
    (c.in-Ok.ensures.part
    ∙ ap (λ (x : List ℕ). x ++ later) (sym c.deref.ensures.value)) w)
    c.put_all.ensures.refused
