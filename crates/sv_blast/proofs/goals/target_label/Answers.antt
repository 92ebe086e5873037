use Rattle.std.proofs.Common.{rules, ◌≡◌, subst}
use Rattle.sv_flat.specs.Views.{design_of}
use Rattle.sv_obl.specs.declared.frames.Frame.TheVariants.{Now, Next}
use Rattle.sv_obl.specs.Obligations.{flow}
use Rattle.sv_obl.specs.Views.{goal_form}
use Rattle.sv_blast.specs.Goals.{IsTargetReady}
use Rattle.sv_blast.specs.WordTables.{words_of}
use Rattle.sv_blast.proofs.goals.target_label.Goals as goal

pub signal_label-requires-clause-words : goal.signal_label-requires-clause-words
signal_label-requires-clause-words c =
    let is : goal_form c.args.goal.now ≡ flow c.in-Flow-default-Now.target.0 Now = search rules in
    (subst (IsTargetReady (design_of c.args.unrolled.now.design.now) c.args.gates.now.variables
    (words_of c.args.unrolled.now.now_words.now) (words_of c.args.unrolled.now.next_words.now)) is
    c.requires).1

pub signal_label-requires-in-Flow-default-Next-clause-words : goal.signal_label-requires-in-Flow-default-Next-clause-words
signal_label-requires-in-Flow-default-Next-clause-words c =
    let is : goal_form c.args.goal.now ≡ flow c.in-Flow-default-Next.target.0 Next = search rules in
    (subst (IsTargetReady (design_of c.args.unrolled.now.design.now) c.args.gates.now.variables
    (words_of c.args.unrolled.now.now_words.now) (words_of c.args.unrolled.now.next_words.now)) is
    c.requires).1
