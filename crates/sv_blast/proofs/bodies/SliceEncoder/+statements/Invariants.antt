use Rattle.std.proofs.Common.{◌+◌, ◌*◌, ◌≤◌}
use Rattle.sv_flat.specs.ByNumber.{signal_forms}
use Rattle.sv_flat.specs.Values.{signal_width}
use Rattle.sv_obl.specs.declared.body_slices.BodySlice.{size-BodySlice}
use Rattle.sv_obl.specs.BodySlices.{slice_statement}
use Rattle.sv_blast.specs.TargetWords.{target_word}
use Rattle.sv_blast.specs.WordTables.{words_of}
use Rattle.sv_blast.proofs.TargetSteps.{DownAt}
use Rattle.sv_blast.proofs.bodies.SliceEncoder.+statements.Given as goal

abbrev pub decreases-after_slice : goal.decreases-after_slice
decreases-after_slice l = 2 * size-BodySlice l.slice.now + 1

abbrev pub decreases-after_plain : goal.decreases-after_plain
decreases-after_plain l = 2 * size-BodySlice l.slice.now

-- what is left of the slice, which is no deeper, and the arms that are open come to the whole
abbrev pub invariant-after_slice-loop-rest : goal.invariant-after_slice-loop-rest
invariant-after_slice-loop-rest l =
    let forms = signal_forms l.self.signals.now in
    let words = words_of l.self.words.now in
    let s = l.self.target.0 in
    DownAt forms words s
    (target_word forms words s (slice_statement l.fn.slice) l.fn.word.items l.fn.gates)
    (signal_width forms s) l.fn.gates l.gates l.arms.items (slice_statement l.rest) l.word.items
    × (size-BodySlice l.rest ≤ size-BodySlice l.fn.slice)
