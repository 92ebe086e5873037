use Rattle.std.proofs.Common.{rules, ◌∙◌, ◌<◌, ◌+◌, length, drop, get_or, ap, sym, subst}
use Rattle.std.specs.Result.{IsErrOf}
use Rattle.sv_flat.specs.Values.{signal_width}
use Rattle.sv_flat.specs.Views.{design_of}
use Rattle.sv_design.specs.Numbers.{numbers}
use Rattle.sv_gates.specs.Formulas.{most_variables}
use Rattle.sv_gates.specs.declared.gates.GateFault.TheVariants.{Full}
use Rattle.sv_circuits.specs.Words.{fresh_word}
use Rattle.sv_circuits.proofs.FreshSteps.{fresh_grows}
use Rattle.sv_blast.specs.WordTables.{words_of}
use Rattle.sv_blast.proofs.SignalTurns.{none, number_at, numbers_turn, numbers_end, width_at}
use Rattle.sv_blast.proofs.WordTurns.{words_more, words_full, words_end}
use Rattle.sv_blast.proofs.frames.make_fresh.Goals as goal

pub bounds-signals-signal : goal.bounds-signals-signal
bounds-signals-signal c =
    let signals = c.args.signals.now in
    let i = c.loop-signal.signal-index in
    subst (λ z. (get_or signals i none).0 < length z) (sym c.signals.ensures.signals)
    (number_at signals i c.loop-signal-test.true (λ s. s < length c.args.design.now.signals.items)
    c.requires.known)

pub bounds-signals-signal-in-loop-signal : goal.bounds-signals-signal-in-loop-signal
bounds-signals-signal-in-loop-signal c =
    let signals = c.args.signals.now in
    let i = c.loop-signal.signal-index in
    subst (λ z. (get_or signals i none).0 < length z) (sym c.signals.ensures.signals)
    (number_at signals i c.loop-signal-test.true (λ s. s < length c.args.design.now.signals.items)
    c.requires.known)

pub returns-in_err-word-clause-full : goal.returns-in_err-word-clause-full
returns-in_err-word-clause-full c =
    let same : IsErrOf c.from_residual.result Full → IsErrOf c.fresh.result Full = search rules in
    let forms = (design_of c.args.design.now).signals in
    let signals = c.args.signals.now in
    let i = c.loop-signal.signal-index in
    let s = get_or signals i none in
    λ e. words_full (λ s words. fresh_word (signal_width forms s))
    (λ s words old. fresh_grows (signal_width forms s) old) _ _
    (numbers (drop (i + 1) signals)) _ c.loop-signal.gates (words_of c.loop-signal.words) s.0 _
    c.loop-signal.invariant (numbers_turn signals i c.loop-signal-test.true)
    (subst (λ w. most_variables < ((fresh_word w c.loop-signal.gates).0).variables) (sym
    (width_at c.args.design.now.signals.items c.signals.result.now signals i
    c.index-signals-signal.result c.loop-signal-test.true c.requires.known
    c.signals.ensures.signals))
    (c.fresh.ensures.full (same e)))

pub loop-signal-preserved : goal.loop-signal-preserved
loop-signal-preserved c =
    let forms = (design_of c.args.design.now).signals in
    let signals = c.args.signals.now in
    let i = c.loop-signal.signal-index in
    let s = get_or signals i none in
    words_more (λ s words. fresh_word (signal_width forms s)) _ _
    (numbers (drop (i + 1) signals)) _ c.loop-signal.gates _ (words_of c.loop-signal.words) _ s.0
    c.in_ok-word.word.items c.loop-signal.invariant (numbers_turn signals i c.loop-signal-test.true)
    (ap (λ w. fresh_word w c.loop-signal.gates)
    (width_at c.args.design.now.signals.items c.signals.result.now signals i
    c.index-signals-signal.result c.loop-signal-test.true c.requires.known
    c.signals.ensures.signals)
    ∙ c.in_ok-word.ensures.made)
    c.in_ok-word.ensures.begins c.in_ok-put.ensures
