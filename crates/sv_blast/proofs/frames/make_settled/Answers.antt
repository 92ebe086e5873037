use Rattle.std.proofs.Common.{rules, ◌≡◌, ◌∙◌, ◌<◌, ◌+◌, length, drop, get_or, ap, sym, subst}
use Rattle.std.specs.Result.{IsErrOf}
use Rattle.sv_flat.specs.Views.{design_of}
use Rattle.sv_design.specs.Numbers.{numbers}
use Rattle.sv_gates.specs.declared.gates.GateFault.TheVariants.{Full}
use Rattle.sv_encoding.specs.Bodies.{settled_word}
use Rattle.sv_blast.specs.WordTables.{words_of, StandsOf}
use Rattle.sv_blast.proofs.SignalTurns.{none, numbers_turn, numbers_end}
use Rattle.sv_blast.proofs.ReadyWords.{ready_driven, ready_reads, ready_next}
use Rattle.sv_blast.proofs.WordTurns.{words_start, words_more, words_full, words_end, settled_grows}
use Rattle.sv_blast.proofs.frames.make_settled.Goals as goal

pub loop-signal-init : goal.loop-signal-init
loop-signal-init c =
    let design = design_of c.args.design.now in (
      words_start (λ s words. settled_word design words s) (numbers c.args.signals.now)
          c.args.gates.now (words_of c.args.words.now),
      c.requires.ready,
    )

pub settled-requires-clause-driven : goal.settled-requires-clause-driven
settled-requires-clause-driven c =
    let design = design_of c.args.design.now in
    let signals = c.args.signals.now in
    let i = c.loop-signal.signal-index in
    ready_driven design _ _ (numbers (drop (i + 1) signals)) (get_or signals i none).0
    c.loop-signal.invariant.1 (numbers_turn signals i c.loop-signal-test.true)

pub settled-requires-clause-words : goal.settled-requires-clause-words
settled-requires-clause-words c =
    let design = design_of c.args.design.now in
    let signals = c.args.signals.now in
    let i = c.loop-signal.signal-index in
    ready_reads design c.loop-signal.gates.variables (words_of c.loop-signal.words) _
    (numbers (drop (i + 1) signals)) (get_or signals i none).0 c.loop-signal.invariant.1
    (numbers_turn signals i c.loop-signal-test.true)

pub returns-in_err-word-clause-full : goal.returns-in_err-word-clause-full
returns-in_err-word-clause-full c =
    let same : IsErrOf c.from_residual.result Full → IsErrOf c.settled.result Full = search rules in
    let design = design_of c.args.design.now in
    let signals = c.args.signals.now in
    let i = c.loop-signal.signal-index in
    λ e. words_full (λ s words. settled_word design words s)
    (λ s words old. settled_grows design words s old) _ _ (numbers (drop (i + 1) signals)) _
    c.loop-signal.gates (words_of c.loop-signal.words) (get_or signals i none).0 _
    c.loop-signal.invariant.0 (numbers_turn signals i c.loop-signal-test.true)
    (c.settled.ensures.full (same e))

pub loop-signal-preserved : goal.loop-signal-preserved
loop-signal-preserved c =
    let design = design_of c.args.design.now in
    let signals = c.args.signals.now in
    let i = c.loop-signal.signal-index in
    let s = get_or signals i none in
    let turn = numbers_turn signals i c.loop-signal-test.true in (
      words_more (λ s words. settled_word design words s) _ _ (numbers (drop (i + 1) signals)) _
          c.loop-signal.gates _ (words_of c.loop-signal.words) _ s.0 c.in_ok-word.word.items
          c.loop-signal.invariant.0 turn c.in_ok-word.ensures.made c.in_ok-word.ensures.begins
          c.in_ok-put.ensures,
      ready_next design c.loop-signal.gates.variables _ (words_of c.loop-signal.words) _ _
          (numbers (drop (i + 1) signals)) s.0 c.in_ok-word.word.items c.loop-signal.invariant.1
          turn c.in_ok-word.ensures.begins.grows c.in_ok-word.ensures.within c.in_ok-put.ensures,
    )
