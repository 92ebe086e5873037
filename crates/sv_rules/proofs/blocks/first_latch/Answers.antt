use Rattle.std.proofs.Common.{◌≡◌, sym, subst, ◌∙◌, rules}
use Rattle.std.specs.Prelude.{IsTrue, ◌==◌}
use Rattle.std.specs.List.{list_any}
use Rattle.std.specs.Map.{keys_of}
use Rattle.std.specs.Map.Iter.{deref}
use Rattle.std.proofs.lemmas.Map.Iter.{rest_more, rest_all}
use Rattle.sv_flat.specs.Views.{design_of}
use Rattle.sv_graph.proofs.EntryFacts.{key_found}
use Rattle.sv_rules.proofs.BlockPasses.{latches_begin, latches_more, latches_end}
use Rattle.sv_rules.proofs.blocks.first_latch.Goals as goal

pub loop-signal-init : goal.loop-signal-init
loop-signal-init c = λ body sound targets always.
    let entries = c.args.assigned.now.masks.entries in
    let same : c.into_iter-signal-iterator.result ≡ keys_of entries = search rules in
    latches_begin (design_of c.args.flat.now) c.args.place body sound
    c.into_iter-signal-iterator.result
    (λ s h. subst (λ ks.
    IsTrue (list_any (λ k. k == s) ks)) (sym same) (key_found entries s (targets s ∙ h)))

pub loop-signal-preserved : goal.loop-signal-preserved
loop-signal-preserved c = λ body sound targets always.
    latches_more (design_of c.args.flat.now) c.args.place body sound c.in-Some.signal.now
    c.loop-signal.signal-iterator c.next.new.self c.loop-signal.found
    c.found_if.result c.first_of-found.result c.is_latched-latched.result
    (rest_more deref c.loop-signal.signal-iterator c.next.new.self c.next.result c.in-Some.signal
    c.in-Some.is c.next.ensures.steps)
    (c.is_latched-latched.ensures body targets always) (c.found_if.ensures 605)
    c.first_of-found.ensures
    (c.loop-signal.invariant body sound targets always)

pub returns : goal.returns
returns c = λ body sound targets always.
    latches_end (design_of c.args.flat.now) c.args.place body sound c.loop-signal.signal-iterator
    c.loop-signal.found
    (rest_all deref c.loop-signal.signal-iterator c.next.new.self c.next.result c.in-None.is
    c.next.ensures.steps)
    (c.loop-signal.invariant body sound targets always)
