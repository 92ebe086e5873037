use Rattle.std.proofs.Common.{rules, ◌≡◌, ◌∙◌, ◌<◌, ◌+◌, length, drop, get_or, ap, sym, subst}
use Rattle.std.specs.Prelude.{IsTrue}
use Rattle.std.specs.Result.{IsErrOf}
use Rattle.std.proofs.lemmas.Bool.{or_left}
use Rattle.sv_flat.specs.Processes.{is_register}
use Rattle.sv_flat.specs.Reads.{is_combinational}
use Rattle.sv_flat.specs.Views.{design_of}
use Rattle.sv_design.specs.Numbers.{numbers}
use Rattle.sv_gates.specs.declared.gates.GateFault.TheVariants.{Full}
use Rattle.sv_encoding.specs.Bodies.{settled_word}
use Rattle.sv_blast.specs.WordTables.{words_of, StandsOf}
use Rattle.sv_blast.proofs.ReadyWords.{stands_up}
use Rattle.sv_blast.proofs.SignalTurns.{none, number_at, number_in, numbers_turn, numbers_end}
use Rattle.sv_blast.proofs.WordTurns.{words_more, words_full, words_end, settled_grows}
use Rattle.sv_blast.proofs.frames.make_next.Goals as goal

pub settled-requires-clause-driven : goal.settled-requires-clause-driven
settled-requires-clause-driven c =
    let design = design_of c.args.fan_in.now.design.now in
    let registers = c.args.registers.now in
    let i = c.loop-register.register-index in
    let s = get_or registers i none in
    or_left (is_register design s.0) (is_combinational design s.0)
    (number_at registers i c.loop-register-test.true (λ s. IsTrue (is_register design s))
    c.requires.registers)

pub settled-requires-clause-words : goal.settled-requires-clause-words
settled-requires-clause-words c =
    let design = design_of c.args.fan_in.now.design.now in
    let registers = c.args.registers.now in
    let i = c.loop-register.register-index in
    λ t reads. stands_up design.signals c.args.gates.now.variables c.loop-register.gates.variables
    (words_of c.args.fan_in.now.words.now) t c.loop-register.invariant.begins.grows
    (c.requires.read (get_or registers i none).0 t
    (number_in registers i c.loop-register-test.true) reads)

pub returns-in_err-word-clause-full : goal.returns-in_err-word-clause-full
returns-in_err-word-clause-full c =
    let same : IsErrOf c.from_residual.result Full → IsErrOf c.settled.result Full = search rules in
    let design = design_of c.args.fan_in.now.design.now in
    let registers = c.args.registers.now in
    let i = c.loop-register.register-index in
    λ e. words_full (λ s words. settled_word design (words_of c.args.fan_in.now.words.now) s)
    (λ s words old. settled_grows design (words_of c.args.fan_in.now.words.now) s old) _ _
    (numbers (drop (i + 1) registers)) _ c.loop-register.gates (words_of c.loop-register.words)
    (get_or registers i none).0 _ c.loop-register.invariant
    (numbers_turn registers i c.loop-register-test.true) (c.settled.ensures.full (same e))

pub loop-register-preserved : goal.loop-register-preserved
loop-register-preserved c =
    let design = design_of c.args.fan_in.now.design.now in
    let registers = c.args.registers.now in
    let i = c.loop-register.register-index in
    words_more (λ s words. settled_word design (words_of c.args.fan_in.now.words.now) s) _ _
    (numbers (drop (i + 1) registers)) _ c.loop-register.gates _ (words_of c.loop-register.words) _
    (get_or registers i none).0 c.in_ok-word.word.items c.loop-register.invariant
    (numbers_turn registers i c.loop-register-test.true) c.in_ok-word.ensures.made
    c.in_ok-word.ensures.begins c.in_ok-put.ensures
