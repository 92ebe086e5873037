use Rattle.std.proofs.Common.{◌≡◌, ◌+◌, ◌-◌, ◌<◌, ◌||◌, ◌&&◌, length, drop, sym, ap}
use Rattle.std.proofs.Common.{refl, subst, arith, rules}
use Rattle.std.proofs.lemmas.Bool.{and_parts}
use Rattle.std.proofs.lemmas.List.{drop_all}
use Rattle.std.specs.Prelude.{IsTrue, IfOk, OnOk}
use Rattle.std.proofs.Math.ListN.{length-map}
use Rattle.sv_flat.specs.Assigned.{assigns, can_assign}
use Rattle.sv_flat.specs.Design.{nothing, after, assign, branch}
use Rattle.sv_flat.specs.Readings.{either}
use Rattle.sv_flat.specs.Soundness.{statement_sound}
use Rattle.sv_flat.specs.Views.{design_of, signal_form, typed_tree, flat_statement, flat_statements}
use Rattle.sv_flat.specs.Views.{chain_of}
use Rattle.sv_flat.specs.declared.statements.FStmt.{the_lemmas}
use Rattle.sv_graph.specs.declared.bit_sets.BitSet.{BitSet}
use Rattle.sv_graph.specs.BitSets.{in_bits}
use Rattle.sv_rules.specs.Pieces.{piece_forms}
use Rattle.sv_design.specs.Feeds.{names_sought, feeds}
use Rattle.sv_graph.specs.BitGraphs.{GainsEdges}
use Rattle.sv_rules.specs.Phases.{SameBits}
use Rattle.sv_rules.specs.Surroundings.{in_surrounding}
use Rattle.sv_rules.proofs.BlockPasses.{targets_are}
use Rattle.sv_rules.proofs.Passes.{sound_at, only_pieces}
use Rattle.sv_design.proofs.ReadFacts.{both_edges, targets_below, gains_inside, bits_begin}
use Rattle.sv_design.proofs.ReadFacts.{feeds_begin, bits_before, feeds_before}
use Rattle.sv_rules.proofs.Sound.{branch_is, sound_as, block_is, next_last}
use Rattle.sv_design.proofs.reads.+follow.Goals as goal

pub follow-add_reads-requires-clause-targets : goal.follow-add_reads-requires-clause-targets
follow-add_reads-requires-clause-targets t c =
    let signals = (design_of c.args.flat.now).signals in
    let pieces = piece_forms c.in-Assign.pieces.items in
    let whole = assign pieces c.in-Assign.place c.in-Assign.blocking
    (typed_tree c.in-Assign.value) in
    targets_below signals whole c.add_pieces.new.set _
    (length-map c.args.flat.now.signals.items signal_form)
    (sound_as signals c.in-Assign.is c.requires.body)
    (only_pieces c.new-bits.result c.add_pieces.new.set _ _ c.deref.ensures.value
    c.new-bits.ensures c.in_ok-add_pieces-in-Assign.ensures)

pub follow-add_reads-requires-clause-formed : goal.follow-add_reads-requires-clause-formed
follow-add_reads-requires-clause-formed t c =
    (and_parts _ _
    (sound_as (design_of c.args.flat.now).signals c.in-Assign.is c.requires.body)).0

pub follow-follow-requires-in-If : goal.follow-follow-requires-in-If
follow-follow-requires-in-If t c =
    let signals = (design_of c.args.flat.now).signals in (
      search (rules, the_lemmas),
      (
        c.requires.sound,
        (
          sound_as signals (sym c.deref-in-If-2.ensures)
              (and_parts _ _ (sound_as signals c.in-If.is c.requires.body)).1,
          c.in_ok-by_yes-in-If.ensures.over,
        ),
      ),
    )

pub follow-add_reads-requires-in-If-clause-formed :
    goal.follow-add_reads-requires-in-If-clause-formed
follow-add_reads-requires-in-If-clause-formed t c =
    (and_parts _ _ (and_parts _ _
    (sound_as (design_of c.args.flat.now).signals c.in-If.is c.requires.body)).0).0

pub follow-returns-in_ok-add_reads-in-Assign-clause-gains :
    goal.follow-returns-in_ok-add_reads-in-Assign-clause-gains
follow-returns-in_ok-add_reads-in-Assign-clause-gains t c =
    let signals = (design_of c.args.flat.now).signals in
    let pieces = piece_forms c.in-Assign.pieces.items in
    let whole = assign pieces c.in-Assign.place c.in-Assign.blocking
    (typed_tree c.in-Assign.value) in
    let is : flat_statement c.args.stmt.now ≡ whole = ap flat_statement c.in-Assign.is in
    let bits = only_pieces c.new-bits.result c.add_pieces.new.set _ _ c.deref.ensures.value
    c.new-bits.ensures c.in_ok-add_pieces-in-Assign.ensures in
    subst (λ b. GainsEdges c.args.graph.now c.add_reads.new.graph
    (feeds signals c.args.sought b (in_surrounding c.args.later.now))) (sym is)
    (gains_inside signals c.args.sought (typed_tree c.in-Assign.value) whole c.add_pieces.new.set
    c.args.graph.now c.add_reads.new.graph _ _ bits
    (targets_are signals whole c.add_pieces.new.set
    (sound_as signals c.in-Assign.is c.requires.body) bits)
    c.in_ok-add_reads-in-Assign.ensures.gains)

pub follow-follow_all-requires : goal.follow-follow_all-requires
follow-follow_all-requires t c =
    let signals = (design_of c.args.flat.now).signals in (
      search (rules, the_lemmas),
      (
        c.requires.sound,
        (
          subst (λ b. IsTrue (statement_sound signals b))
              (block_is _ c.in-Block.stmts _ c.in-Block.is c.deref-in-Block.ensures.value)
              c.requires.body,
          c.requires.over,
        ),
      ),
    )

pub follow-returns-in-Block-clause-bits : goal.follow-returns-in-Block-clause-bits
follow-returns-in-Block-clause-bits t c =
    subst (λ b. IfOk c.follow_all.result (λ (bits : BitSet). SameBits (in_bits bits) (can_assign b)))
    (sym (block_is _ c.in-Block.stmts _ c.in-Block.is c.deref-in-Block.ensures.value))
    c.follow_all.ensures.bits

pub follow-returns-in-Block-clause-gains : goal.follow-returns-in-Block-clause-gains
follow-returns-in-Block-clause-gains t c =
    subst (λ b. OnOk c.follow_all.result
    (GainsEdges c.args.graph.now c.follow_all.new.graph
    (feeds (design_of c.args.flat.now).signals c.args.sought b (in_surrounding c.args.later.now))))
    (sym (block_is _ c.in-Block.stmts _ c.in-Block.is c.deref-in-Block.ensures.value))
    c.follow_all.ensures.gains

pub follow-add_reads-requires-in-If-clause-targets :
    goal.follow-add_reads-requires-in-If-clause-targets
follow-add_reads-requires-in-If-clause-targets t c =
    let signals = (design_of c.args.flat.now).signals in
    let first = flat_statement c.deref-in-If.result.now in
    let second = flat_statement c.deref-in-If-2.result.now in
    let whole = branch c.in-If.place (typed_tree c.in-If.cond) first second in
    let is : flat_statement c.args.stmt.now ≡ whole = branch_is c.args.stmt.now _ _
    (ap flat_statement c.in-If.is) c.deref-in-If.ensures c.deref-in-If-2.ensures in
    let sound = subst (λ b. IsTrue (statement_sound signals b)) is c.requires.body in
    targets_below signals whole c.add_all.new.self _
    (length-map c.args.flat.now.signals.items signal_form) sound
    (bits_before (after first second) first second refl c.in_ok-bits-in-If.bits
    c.in_ok-by_yes-in-If.by_yes c.add_all.new.self c.in_ok-bits-in-If.ensures.bits
    c.in_ok-by_yes-in-If.ensures.bits c.in_ok-add_all-in-If.ensures)

pub follow-returns-in_ok-add_reads-in-If-clause-gains :
    goal.follow-returns-in_ok-add_reads-in-If-clause-gains
follow-returns-in_ok-add_reads-in-If-clause-gains t c =
    let signals = (design_of c.args.flat.now).signals in
    let cond = typed_tree c.in-If.cond in
    let first = flat_statement c.deref-in-If.result.now in
    let second = flat_statement c.deref-in-If-2.result.now in
    let whole = branch c.in-If.place cond first second in
    let is : flat_statement c.args.stmt.now ≡ whole = branch_is c.args.stmt.now _ _
    (ap flat_statement c.in-If.is) c.deref-in-If.ensures c.deref-in-If-2.ensures in
    let bits = bits_before (after first second) first second refl c.in_ok-bits-in-If.bits
    c.in_ok-by_yes-in-If.by_yes c.add_all.new.self c.in_ok-bits-in-If.ensures.bits
    c.in_ok-by_yes-in-If.ensures.bits c.in_ok-add_all-in-If.ensures in
    let sound = subst (λ b. IsTrue (statement_sound signals b)) is c.requires.body in
    let sought = c.args.sought in
    let later = in_surrounding c.args.later.now in
    let old = c.args.graph.now in
    let new = c.add_reads-in-If.new.graph in
    subst (λ b. GainsEdges old new (feeds signals sought b later)) (sym is)
    (both_edges old c.follow-in-If.new.graph new (λ a b.
    feeds signals sought first later a b || feeds signals sought second later a b)
    (λ a b. names_sought signals sought (either (can_assign whole) later) cond a && assigns whole b)
    (both_edges old c.follow.new.graph c.follow-in-If.new.graph (feeds signals sought first later)
    (feeds signals sought second later)
    c.in_ok-by_yes-in-If.ensures.gains c.in_ok-bits-in-If.ensures.gains)
    (gains_inside signals sought cond whole c.add_all.new.self c.follow-in-If.new.graph new _ _ bits
    (targets_are signals whole c.add_all.new.self sound bits)
    c.in_ok-add_reads-in-If.ensures.gains))

pub follow_all-loop-i-init : goal.follow_all-loop-i-init
follow_all-loop-i-init t c =
    let signals = (design_of c.args.flat.now).signals in
    let stmts = c.args.stmts.now in
    let last = chain_of (flat_statements (drop (length stmts - 0) stmts)) in
    let none : last ≡ nothing = ap (λ ss. chain_of (flat_statements ss))
    (drop_all (length stmts - 0) stmts (omega arith)) in (
      c.requires.over,
      bits_begin c.new-here.result last none c.new-here.ensures,
      feeds_begin signals c.args.sought c.args.graph.now last (in_surrounding c.args.later.now) none,
    )

pub follow_all-follow-requires : goal.follow_all-follow-requires
follow_all-follow-requires t c =
    let stmts = c.args.stmts.now in
    let inside : length stmts - 1 - c.loop-i.i < length stmts =
    omega (arith, c.loop-i-test.true) in (
      search (rules, the_lemmas),
      (
        c.requires.sound,
        (
          sound_at (design_of c.args.flat.now).signals stmts _ c.index-stmts-stmts.result inside
              c.index-stmts-stmts.is c.requires.body,
          c.loop-i.invariant.0,
        ),
      ),
    )

pub follow_all-loop-i-preserved : goal.follow_all-loop-i-preserved
follow_all-loop-i-preserved t c =
    let stmts = c.args.stmts.now in
    let signals = (design_of c.args.flat.now).signals in
    let sought = c.args.sought in
    let later = in_surrounding c.args.later.now in
    let i = c.loop-i.i in
    let j = length stmts - (i + 1) in
    let stmt = c.index-stmts-stmts.result in
    let next : length stmts - i ≡ j + 1 = omega (arith, c.loop-i-test.true) in
    let left = chain_of (flat_statements (drop j stmts)) in
    let this = flat_statement stmt in
    let rest = chain_of (flat_statements (drop (j + 1) stmts)) in
    let splits = next_last stmts i stmt (omega (arith, c.loop-i-test.true))
    c.index-stmts-stmts.is in
    let before = subst (λ k. SameBits (in_bits c.loop-i.here)
    (can_assign (chain_of (flat_statements (drop k stmts))))) next c.loop-i.invariant.1 in
    let gained = subst (λ k. GainsEdges c.args.graph.now c.loop-i.graph
    (feeds signals sought (chain_of (flat_statements (drop k stmts))) later)) next
    c.loop-i.invariant.2 in (
      c.in_ok-bits.ensures.over,
      bits_before left this rest splits c.loop-i.here c.in_ok-bits.bits c.add_all.new.self before
          c.in_ok-bits.ensures.bits c.in_ok-add_all.ensures,
      feeds_before signals sought left this rest splits _ _ c.args.graph.now c.loop-i.graph
          c.follow.new.graph before gained c.in_ok-bits.ensures.gains,
    )

pub follow_all-returns-clause-bits : goal.follow_all-returns-clause-bits
follow_all-returns-clause-bits t c =
    let stmts = c.args.stmts.now in
    let none : length stmts - c.loop-i.i ≡ 0 = omega (arith, c.loop-i-test.false) in
    subst (λ k. SameBits (in_bits c.loop-i.here)
    (can_assign (chain_of (flat_statements (drop k stmts))))) none c.loop-i.invariant.1

pub follow_all-returns-clause-gains : goal.follow_all-returns-clause-gains
follow_all-returns-clause-gains t c =
    let stmts = c.args.stmts.now in
    let none : length stmts - c.loop-i.i ≡ 0 = omega (arith, c.loop-i-test.false) in
    subst (λ k. GainsEdges c.args.graph.now c.loop-i.graph
    (feeds (design_of c.args.flat.now).signals c.args.sought
    (chain_of (flat_statements (drop k stmts))) (in_surrounding c.args.later.now))) none
    c.loop-i.invariant.2
