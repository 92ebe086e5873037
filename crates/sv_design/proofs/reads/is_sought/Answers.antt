use Rattle.std.proofs.Common.{◌≡◌, ℕ, ◌<◌, Bool, true, false, cond, not, ◌&&◌, nat_le, nat_lt}
use Rattle.std.proofs.Common.{length, get_or, sym, ap, ◌∙◌, rules}
use Rattle.std.specs.Prelude.{IsTrue, ◌↔◌}
use Rattle.sv_flat.specs.declared.designs.Flat.{Flat}
use Rattle.sv_flat.specs.declared.signals.Signal.{Signal}
use Rattle.sv_flat.specs.Readings.{some_bit_read}
use Rattle.sv_flat.specs.Views.{design_of}
use Rattle.sv_graph.specs.BitSets.{is_set, SharesBit}
use Rattle.sv_rules.specs.declared.names.Read.{Read}
use Rattle.sv_rules.specs.declared.surroundings.Surrounding.{Surrounding}
use Rattle.sv_rules.specs.ReadForms.{read_form}
use Rattle.sv_rules.specs.Surroundings.{in_surrounding}
use Rattle.sv_rules.proofs.DriverFacts.{few_at, bits_at}
use Rattle.sv_rules.proofs.PhaseFacts.{read_shares}
use Rattle.sv_design.specs.declared.reads.Sought.{Sought}
use Rattle.sv_design.specs.Feeds.{is_sought}
use Rattle.sv_design.proofs.reads.is_sought.Goals as goal

pub bits_read-bits-requires : goal.bits_read-bits-requires
bits_read-bits-requires c =
    few_at c.args.flat.now c.args.read.now.signal.0 c.index.result.now c.requires.known
    (search rules) c.requires.sound

-- whether a bit that is read is assigned later says whether the read is sought
sought_is : (flat : Flat) (sought : Sought) (read : Read) (later : Surrounding) (signal : Signal)
    → read.signal.0 < length flat.signals.items
    → signal ≡ get_or flat.signals.items read.signal.0 signal → (bits : ℕ)
    → ((b : ℕ) → is_set bits b ≡ (nat_le read.low b && nat_le b read.high && nat_lt b signal.width))
    → (around : ℕ) → ((b : ℕ) → is_set around b ≡ in_surrounding later read.signal.0 b)
    → (shared : Bool) → IsTrue shared ↔ SharesBit bits around
    → (earlier : Bool) → sought.earlier ≡ earlier
    → cond earlier (sought.in_block && shared) (not (sought.in_block && shared)) ≡
    is_sought (design_of flat).signals sought (in_surrounding later) (read_form read)
sought_is flat sought read later signal known here bits are around same shared is earlier told =
    let signals = (design_of flat).signals in
    let r = read_form read in
    let block = sought.in_block in
    let test = in_surrounding later r.signal in
    let followed = some_bit_read signals r test in
    ap (λ t. cond earlier (block && t) (not (block && t)))
    (read_shares signals r bits (bits_at flat r.signal signal known here r.low r.high bits are)
    around test same shared is)
    ∙ sym (ap (λ b. cond b (block && followed) (not (block && followed))) told)

pub returns-then-sought : goal.returns-then-sought
returns-then-sought c =
    sought_is c.args.flat.now c.args.sought c.args.read.now c.args.later.now c.index.result.now
    c.requires.known (search rules) c.bits_read-bits.result c.bits_read-bits.ensures c.of.result
    c.of.ensures c.share.result c.share.ensures true c.if-sought.true

pub returns-else-sought : goal.returns-else-sought
returns-else-sought c =
    sought_is c.args.flat.now c.args.sought c.args.read.now c.args.later.now c.index.result.now
    c.requires.known (search rules) c.bits_read-bits.result c.bits_read-bits.ensures c.of.result
    c.of.ensures c.share.result c.share.ensures false c.if-sought.false
