use Rattle.std.proofs.Common.{◌≡◌, ◌+◌, ◌-◌, ◌&&◌, not, ap, ap₂, ◌∙◌, arith}
use Rattle.std.specs.List.{list_any, range_with_len}
use Rattle.sv_flat.specs.Assigned.{always_assigns}
use Rattle.sv_flat.specs.Values.{signal_width}
use Rattle.sv_flat.specs.Views.{design_of}
use Rattle.sv_graph.specs.BitSets.{is_set}
use Rattle.sv_rules.proofs.BlockPasses.{latch_is}
use Rattle.sv_rules.proofs.DriverFacts.{width_at, some_bits_at, few_bits_at}
use Rattle.sv_rules.proofs.blocks.is_latched.Goals as goal

pub overflow_sub-declared : goal.overflow_sub-declared
overflow_sub-declared c =
    some_bits_at c.args.flat.now c.deref.result.now c.args.signal.0 c.in-Some.declared.now
    c.deref.ensures.value c.in-Some.ensures.lookup.3.0 c.in-Some.ensures.lookup.1 c.requires.sound

pub mask-bits-requires-clause-few : goal.mask-bits-requires-clause-few
mask-bits-requires-clause-few c =
    let few = few_bits_at c.args.flat.now c.deref.result.now c.args.signal.0
    c.in-Some.declared.now c.deref.ensures.value c.in-Some.ensures.lookup.3.0
    c.in-Some.ensures.lookup.1 c.requires.sound in
    omega (arith, few)

pub returns-in-Some : goal.returns-in-Some
returns-in-Some c = λ body targets always.
    let flat = c.args.flat.now in
    let items = c.deref.result.now in
    let s = c.args.signal.0 in
    let declared = c.in-Some.declared.now in
    let some = some_bits_at flat items s declared c.deref.ensures.value
    c.in-Some.ensures.lookup.3.0 c.in-Some.ensures.lookup.1 c.requires.sound in
    let is = width_at flat items s declared c.deref.ensures.value c.in-Some.ensures.lookup.3.0
    c.in-Some.ensures.lookup.1 in
    let size : declared.width - 1 + 1 ≡ signal_width (design_of flat).signals s =
    omega (arith, some, is) in
    ap₂ ◌&&◌ (c.has.ensures ∙ targets s)
    (latch_is (declared.width - 1) c.mask-bits.result c.of.result (always_assigns body s)
    c.lacks.result c.mask-bits.ensures
    (λ b. ap (λ n. is_set n b) c.of.ensures ∙ always s b) c.lacks.ensures
    ∙ ap (λ k. list_any (λ b. not (always_assigns body s b)) (range_with_len 0 k)) size)
