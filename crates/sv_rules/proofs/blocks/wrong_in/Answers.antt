use Rattle.std.proofs.Common.{map}
use Rattle.std.proofs.lemmas.List.{at_drop_all}
use Rattle.sv_flat.specs.Readings.{reading_of, readings_of}
use Rattle.sv_flat.specs.Views.{design_of, typed_tree}
use Rattle.sv_rules.specs.ReadForms.{read_forms}
use Rattle.sv_rules.specs.Surroundings.{in_surrounding}
use Rattle.sv_rules.proofs.PhaseFacts.{no_read, name_inside, name_more, reads_end}
use Rattle.sv_rules.proofs.blocks.wrong_in.Goals as goal

pub is_wrong-wrong-requires-clause-known : goal.is_wrong-wrong-requires-clause-known
is_wrong-wrong-requires-clause-known c =
    name_inside c.args.flat.now (typed_tree c.args.expr.now) _ c.deref-read-items.result.now _
    c.loop-read.read-index c.requires.formed c.deref-read-items.ensures.value c.in_ok-names.ensures
    c.as_slice.ensures.value c.loop-read-test.true

pub loop-read-preserved : goal.loop-read-preserved
loop-read-preserved c = λ serves.
    let signals = (design_of c.args.flat.now).signals in
    name_more signals c.args.targets.now (in_surrounding c.args.assigned.now) serves
    (readings_of signals (typed_tree c.args.expr.now) serves)
    c.deref-read-items.result.now c.loop-read.read-index no_read c.loop-read-test.true
    c.loop-read.found c.found_if.result c.first_of-found.result
    c.is_wrong-wrong.result c.is_wrong-wrong.ensures c.found_if.ensures c.first_of-found.ensures
    (c.loop-read.invariant serves)

pub returns : goal.returns
returns c = λ serves.
    let signals = (design_of c.args.flat.now).signals in
    let items = c.deref-read-items.result.now in
    reads_end signals c.args.targets.now (in_surrounding c.args.assigned.now)
    (readings_of signals (typed_tree c.args.expr.now) serves)
    _ c.loop-read.found
    (λ a f. at_drop_all (λ rs.
    map (reading_of serves a f) (read_forms rs)) items c.loop-read.read-index
    c.loop-read-test.false)
    (c.loop-read.invariant serves)
