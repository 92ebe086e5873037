-- The pieces of a sound body have bits of a word, and so have those of a body in which earlier
-- reads are wanted.
use Rattle.std.proofs.Common.{◌+◌, ◌-◌, ◌<◌, ◌≤◌, Bool, ◌&&◌, nat_le, nat_lt, List, length}
use Rattle.std.proofs.Common.{arith, leb-true, ltb-true}
use Rattle.std.specs.Prelude.{IsTrue}
use Rattle.std.specs.List.{list_all}
use Rattle.sv_flat.specs.Assigned.{can_assign}
use Rattle.sv_flat.specs.ByNumber.{AreWords}
use Rattle.sv_flat.specs.Design.{SignalForm, TypedTree, typed, PieceForm, FlatStatement, nothing}
use Rattle.sv_flat.specs.Design.{after, assign, branch}
use Rattle.sv_flat.specs.Readings.{BitSet, either, no_bits}
use Rattle.sv_flat.specs.Soundness.{is_one_to, is_signal, is_part_of, piece_fits, well_formed}
use Rattle.sv_flat.specs.Soundness.{node_well_formed, statement_sound}
use Rattle.sv_flat.specs.Values.{signal_width}
use Rattle.sv_flat.proofs.Depths.{first_of, second_of, from_all}
use Rattle.sv_flat.proofs.Members.{contained_all}
use Rattle.sv_obl.specs.declared.marked.Marked.{Marked}
use Rattle.sv_obl.specs.MarkedBodies.{marked_statement, IsMarkedOf}
use Rattle.sv_paths.specs.PutIn.{HasWords}
use Rattle.sv_obl.specs.Wanted.{marked}
use Rattle.sv_paths.proofs.SameWalks.{same_words}

module _ (signals : List SignalForm) where
  -- marking leaves the pieces
  marked_words : (in_block : Bool) (a : FlatStatement) (later : BitSet) → HasWords a
      → HasWords (marked signals in_block a later)
  marked_words in_block nothing later has = has
  marked_words in_block (after a b) later has = (
    marked_words in_block a (either (can_assign b) later) has.0,
    marked_words in_block b later has.1,
  )
  marked_words in_block (assign pieces place blocking right) later has = has
  marked_words in_block (branch place condition a b) later has =
      (marked_words in_block a later has.0, marked_words in_block b later has.1)

  module _ (words : AreWords signals) where
    abbrev IsInWord : PieceForm → Type 0
    IsInWord p = (p.low ≤ p.high) × (p.high < 64) × (p.from < 64)

    piece_in_word : (e : TypedTree) (p : PieceForm) → IsTrue (well_formed signals e)
        → IsTrue (piece_fits signals e p) → IsInWord p
    piece_in_word (typed width signed node) p formed fits =
        let most = signal_width signals p.signal in
        let part = second_of (is_signal signals p.signal)
        (is_part_of most (width - p.from) p.high p.low) fits in
        let inside = ltb-true p.signal (length signals) (first_of (is_signal signals p.signal)
        (is_part_of most (width - p.from) p.high p.low) fits) in
        let few = words p.signal inside in
        let ends = first_of (nat_le p.low p.high && nat_lt p.high most)
        (nat_le (p.high + 1 - p.low) (width - p.from)) part in
        let ordered = leb-true p.low p.high
        (first_of (nat_le p.low p.high) (nat_lt p.high most) ends) in
        let below = ltb-true p.high most
        (second_of (nat_le p.low p.high) (nat_lt p.high most) ends) in
        let room = leb-true (p.high + 1 - p.low) (width - p.from)
        (second_of (nat_le p.low p.high && nat_lt p.high most)
        (nat_le (p.high + 1 - p.low) (width - p.from)) part) in
        let short = leb-true width 64 (second_of (nat_le 1 width) (nat_le width 64)
        (first_of (is_one_to 64 width) (node_well_formed signals width signed node) formed)) in
        (ordered, omega arith, omega arith)

    sound_words : (a : FlatStatement) → IsTrue (statement_sound signals a) → HasWords a
    sound_words nothing sound = tt
    sound_words (after a b) sound = (
      sound_words a (first_of (statement_sound signals a) (statement_sound signals b) sound),
      sound_words b (second_of (statement_sound signals a) (statement_sound signals b) sound),
    )
    sound_words (assign pieces place blocking right) sound =
        let all = list_all (piece_fits signals right) pieces in
        let formed = first_of (well_formed signals right) all sound in
        let fit = second_of (well_formed signals right) all sound in
        contained_all IsInWord pieces (λ p at.
        piece_in_word right p formed (from_all (piece_fits signals right) pieces p fit at))
    sound_words (branch place condition a b) sound =
        let front = first_of (well_formed signals condition && statement_sound signals a)
        (statement_sound signals b) sound in (
          sound_words a
              (second_of (well_formed signals condition) (statement_sound signals a) front),
          sound_words b (second_of (well_formed signals condition && statement_sound signals a)
              (statement_sound signals b) sound),
        )

    -- so a body of the same parts can be walked along
    pub walked_words : (in_block : Bool) (a : FlatStatement) (x : Marked)
        → IsMarkedOf (marked signals in_block a no_bits) x → IsTrue (statement_sound signals a)
        → HasWords (marked_statement x)
    walked_words in_block a x is sound =
        same_words (marked_statement x) (marked signals in_block a no_bits) is.parts
        (marked_words in_block a no_bits (sound_words a sound))
