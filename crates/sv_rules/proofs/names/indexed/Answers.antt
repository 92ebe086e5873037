use Rattle.std.proofs.Common.{Bool, cond, ap, ◌∙◌}
use Rattle.sv_num.specs.Vectors.{as_number}
use Rattle.sv_flat.specs.ByNumber.{signal_forms}
use Rattle.sv_flat.specs.Readings.{whole_read, bit_read}
use Rattle.sv_flat.specs.Values.{number_of}
use Rattle.sv_flat.specs.Views.{typed_tree}
use Rattle.sv_rules.proofs.names.indexed.Goals as goal

pub constant_value-requires : goal.constant_value-requires
constant_value-requires c = (signal_forms c.args.signals.now, c.requires.formed)

pub returns-in-Some-clause-read : goal.returns-in-Some-clause-read
returns-in-Some-clause-read c =
    let signals = signal_forms c.args.signals.now in
    let index = c.args.index.now in
    let s = c.args.signal.0 in
    c.one_bit.ensures.read
    ∙ ap (λ v. bit_read s c.args.place (as_number index.width index.signed v))
    (c.in-Some.ensures.value signals (λ t. 0))
    ∙ ap (λ (b : Bool). cond b
    (bit_read s c.args.place (number_of signals (λ t. 0) (typed_tree index)))
    (whole_read signals s c.args.place)) c.in-Some.ensures.constant
