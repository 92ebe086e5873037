use Rattle.sv_rules.specs.ReadForms.{read_form}
use Rattle.sv_rules.specs.Surroundings.{in_surrounding}
use Rattle.sv_obl.proofs.MarkingFacts.{few_at, named_copy, named_itself}
use Rattle.sv_obl.proofs.marking.named.Goals as goal

pub bits_read-bits-requires : goal.bits_read-bits-requires
bits_read-bits-requires c =
    few_at c.args.signals.now c.index-signals-signal.result (read_form c.args.read)
    c.requires.known c.requires.words

pub returns-then-share : goal.returns-then-share
returns-then-share c =
    named_copy c.args.signals.now c.index-signals-signal.result (read_form c.args.read)
    c.requires.known (in_surrounding c.args.later.now) c.bits_read-bits.result
    c.of.result c.bits_read-bits.ensures c.of.ensures c.share.result c.share.ensures
    c.if-share.true

pub returns-else-share : goal.returns-else-share
returns-else-share c =
    named_itself c.args.signals.now c.index-signals-signal.result (read_form c.args.read)
    c.requires.known (in_surrounding c.args.later.now) c.bits_read-bits.result
    c.of.result c.bits_read-bits.ensures c.of.ensures c.share.result c.share.ensures
    c.if-share.false
