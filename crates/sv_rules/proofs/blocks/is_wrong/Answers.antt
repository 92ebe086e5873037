use Rattle.std.proofs.Common.{◌≡◌, get_or}
use Rattle.std.proofs.Common.{rules}
use Rattle.sv_flat.specs.Views.{design_of}
use Rattle.sv_rules.specs.ReadForms.{read_form}
use Rattle.sv_rules.specs.Surroundings.{in_surrounding}
use Rattle.sv_rules.proofs.DriverFacts.{few_at, bits_at}
use Rattle.sv_rules.proofs.PhaseFacts.{read_lacks, unassigned_is}
use Rattle.sv_rules.proofs.blocks.is_wrong.Goals as goal

pub bits_read-bits-requires : goal.bits_read-bits-requires
bits_read-bits-requires c =
    few_at c.args.flat.now c.args.read.now.signal.0 c.index.result.now c.requires.known
    (search rules) c.requires.sound

pub returns : goal.returns
returns c = λ body reading targets name same.
    let flat = c.args.flat.now in
    let items = flat.signals.items in
    let signals = (design_of flat).signals in
    let r = read_form c.args.read.now in
    let at_place : c.index.result.now ≡ get_or items r.signal c.index.result.now = search rules in
    let is_bits = bits_at flat r.signal c.index.result.now c.requires.known at_place r.low r.high
    c.bits_read-bits.result c.bits_read-bits.ensures in
    unassigned_is signals c.args.targets.now body reading r (in_surrounding c.args.assigned.now) targets
    name same c.of.result c.of.ensures c.has.result c.lacks.result c.has.ensures
    (λ test is. read_lacks signals r c.bits_read-bits.result is_bits c.of.result test is
    c.lacks.result c.lacks.ensures)
