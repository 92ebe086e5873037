use Rattle.std.proofs.Common.{rules, suc, drop, length, refl, sym, ap, subst}
use Rattle.std.specs.Prelude.{IsTrue}
use Rattle.std.specs.Result.{IsErrOf}
use Rattle.sv_flat.specs.ByNumber.{signal_forms}
use Rattle.sv_flat.specs.Soundness.{well_formed}
use Rattle.sv_flat.specs.Views.{typed_tree}
use Rattle.sv_gates.specs.declared.gates.GateFault.TheVariants.{Full}
use Rattle.sv_encoding.specs.Cones.{conditions_of}
use Rattle.sv_encoding.specs.Expressions.{Words}
use Rattle.sv_blast.specs.Encoders.{design_in, obligation_in}
use Rattle.sv_blast.specs.WordTables.{words_of, StandFor}
use Rattle.sv_blast.proofs.FramedSteps.{now_path, add_one}
use Rattle.sv_blast.proofs.RestSteps.{next_formed, next_stands, next_passes}
use Rattle.sv_blast.proofs.encoding.Encoder.add_truth.Goals as goal

pub is_true-requires-clause-formed : goal.is_true-requires-clause-formed
is_true-requires-clause-formed c =
    let made = c.args.made.now in
    let e = typed_tree c.args.expr.now in
    let behind = drop (suc (length made.truths.items)) (conditions_of (obligation_in c.args.self.now))
    in
    subst (λ z. IsTrue (well_formed (signal_forms z) e)) (sym c.signals-signals.ensures.signals)
    (next_formed c.args.self.now made c.requires.begun c.know_design.ensures.checked
    c.requires.encoder.query e behind c.requires.next)

pub is_true-requires-clause-words : goal.is_true-requires-clause-words
is_true-requires-clause-words c =
    let made = c.args.made.now in
    let e = typed_tree c.args.expr.now in
    let behind = drop (suc (length made.truths.items)) (conditions_of (obligation_in c.args.self.now))
    in
    subst (λ z. StandFor (signal_forms z) made.gates.variables (words_of made.now_words) e)
    (sym c.signals-signals.ensures.signals)
    (subst (λ (w : Words). StandFor (design_in c.args.self.now).signals made.gates.variables w e)
    (sym (now_path c.args.self.now made c.requires.begun.frames))
    (next_stands c.args.self.now made c.requires.begun c.know_design.ensures.checked
    c.requires.encoder.query e behind c.requires.next))

pub returns-in_err-literal-clause-full : goal.returns-in_err-literal-clause-full
returns-in_err-literal-clause-full c =
    let same : IsErrOf c.from_residual.result Full → IsErrOf c.is_true.result Full = search rules in
    let made = c.args.made.now in
    let behind = drop (suc (length made.truths.items)) (conditions_of (obligation_in c.args.self.now))
    in
    λ e. next_passes c.args.self.now made c.requires.begun c.know_design.ensures.checked
    c.requires.encoder.query (typed_tree c.args.expr.now) behind c.requires.next
    (signal_forms c.signals-signals.result.now) (words_of made.now_words)
    (ap signal_forms c.signals-signals.ensures.signals)
    (now_path c.args.self.now made c.requires.begun.frames) (c.is_true.ensures.full (same e))

pub returns-clause-begun : goal.returns-clause-begun
returns-clause-begun c =
    let made = c.args.made.now in
    add_one c.args.self.now made c.requires.begun (signal_forms c.signals-signals.result.now)
    (words_of made.now_words) (typed_tree c.args.expr.now) c.is_true.new.gates
    c.in_ok-literal.literal (record {
      expr = c.in_ok-expr.expr;
      literal = c.in_ok-literal.literal;
      mark = c.mark-mark.result;
    }) c.add.new.truths (ap signal_forms c.signals-signals.ensures.signals)
    (now_path c.args.self.now made c.requires.begun.frames) c.in_ok-literal.ensures.made
    c.in_ok-expr.ensures refl c.in_ok-literal.ensures.within c.in_ok-literal.ensures.begins
    c.mark-mark.ensures.variables c.mark-mark.ensures.clauses c.mark-mark.ensures.proper
    c.in_ok-add.ensures c.requires.next
