use Rattle.std.proofs.Common.{◌<◌, List, sym, ap, subst, ◌∙◌, rules, arith}
use Rattle.std.specs.Result.{IsErrOf}
use Rattle.sv_flat.specs.Views.{design_of}
use Rattle.sv_gates.specs.declared.gates.GateFault.TheVariants.{Full}
use Rattle.sv_gates.specs.Formulas.{Formula, most_variables}
use Rattle.sv_flat.specs.Design.{SignalForm}
use Rattle.sv_flat.specs.Values.{signal_width}
use Rattle.sv_obl.specs.Wanted.{copy_of}
use Rattle.sv_obl.proofs.PutFacts.{width_copy}
use Rattle.sv_circuits.specs.Words.{Word}
use Rattle.sv_encoding.specs.BothWays.{IsWordOf}
use Rattle.sv_encoding.specs.Expressions.{Words}
use Rattle.sv_blast.specs.FollowedWords.{forms_in}
use Rattle.sv_blast.specs.WordTables.{words_of}
use Rattle.sv_blast.proofs.FollowedArms.{self_copies}
use Rattle.sv_blast.proofs.FollowedCalls.{driven_known, call_target, call_stand, call_made}
use Rattle.sv_blast.proofs.FollowedTargets.{target_followed, target_fit, target_inside}
use Rattle.sv_blast.proofs.followed.followed_word.Goals as goal

pub follows-requires : goal.follows-requires
follows-requires c =
    driven_known c.args.fan_in.now.design.now c.args.target.0 c.know_design.ensures.checked c.requires.driven

pub new-followed-requires-clause-known : goal.new-followed-requires-clause-known
new-followed-requires-clause-known c =
    driven_known c.args.fan_in.now.design.now c.args.target.0 c.know_design.ensures.checked c.requires.driven

pub after-requires : goal.after-requires
after-requires c =
    let self = c.new-followed.result in
    let design = design_of c.args.fan_in.now.design.now in
    let s = c.args.target.0 in
    let target = call_target c.args.fan_in.now.design.now c.args.target.0 c.know_design.ensures.checked
    c.args.body
    c.requires.body c.new-followed.result c.new-followed.ensures.signals
    c.new-followed.ensures.reads _ (c.new-followed.ensures.follows ∙ c.deref.ensures.value)
    c.in_ok-follows.ensures.follows c.requires.driven in
    let stand = call_stand c.args.fan_in.now.design.now c.args.target.0 c.know_design.ensures.checked
    c.args.body
    c.requires.body c.new-followed.result c.new-followed.ensures.signals
    c.new-followed.ensures.reads _ (c.new-followed.ensures.follows ∙ c.deref.ensures.value)
    c.in_ok-follows.ensures.follows c.requires.driven (words_of c.args.fan_in.now.words.now)
    (words_of c.in_ok-own.own) (words_of c.clear_copies.new.words) c.in_ok-own.ensures
    c.in_ok-clear_copies.ensures.others c.in_ok-clear_copies.ensures.copies in
    record {
      held = c.new-followed.ensures.held;
      tells = (target.body).tells;
      fit = target_fit design s c.args.body.now self target;
      stand = stand c.args.gates.now.variables
          (omega (arith, c.variables-some.ensures.some, c.variables-some.ensures.value))
          c.requires.words;
    }

pub copy_of-requires-clause-follows : goal.copy_of-requires-clause-follows
copy_of-requires-clause-follows c =
    target_followed (design_of c.args.fan_in.now.design.now) c.args.target.0 c.args.body.now
    c.new-followed.result
    (call_target c.args.fan_in.now.design.now c.args.target.0 c.know_design.ensures.checked c.args.body
    c.requires.body c.new-followed.result c.new-followed.ensures.signals
    c.new-followed.ensures.reads _ (c.new-followed.ensures.follows ∙ c.deref.ensures.value)
    c.in_ok-follows.ensures.follows c.requires.driven)

pub returns-in_err-after-clause-full : goal.returns-in_err-after-clause-full
returns-in_err-after-clause-full c =
    let made = call_made c.args.fan_in.now.design.now c.args.target.0 c.know_design.ensures.checked c.args.body
    c.requires.body c.new-followed.result c.new-followed.ensures.signals
    c.new-followed.ensures.reads _ (c.new-followed.ensures.follows ∙ c.deref.ensures.value)
    c.in_ok-follows.ensures.follows c.requires.driven (words_of c.args.fan_in.now.words.now)
    (words_of c.in_ok-own.own) (words_of c.clear_copies.new.words) c.in_ok-own.ensures
    c.in_ok-clear_copies.ensures.others c.in_ok-clear_copies.ensures.copies c.args.gates.now in
    let same : IsErrOf c.from_residual-in_err-after.result Full → IsErrOf c.after.result Full =
    search rules in
    λ e. subst (λ (z : Formula × Word). most_variables < z.0.variables) (sym made)
    (c.after.ensures.full (same e))

pub returns-clause-made : goal.returns-clause-made
returns-clause-made c =
    call_made c.args.fan_in.now.design.now c.args.target.0 c.know_design.ensures.checked c.args.body
    c.requires.body c.new-followed.result c.new-followed.ensures.signals
    c.new-followed.ensures.reads _ (c.new-followed.ensures.follows ∙ c.deref.ensures.value)
    c.in_ok-follows.ensures.follows c.requires.driven (words_of c.args.fan_in.now.words.now)
    (words_of c.in_ok-own.own) (words_of c.clear_copies.new.words) c.in_ok-own.ensures
    c.in_ok-clear_copies.ensures.others c.in_ok-clear_copies.ensures.copies c.args.gates.now
    ∙ ap (λ (z : Formula × Words).
    (z.0, z.1 (copy_of (forms_in c.new-followed.result) c.args.target.0)))
    c.in_ok-after.ensures.made
    ∙ ap (λ w. (c.after.new.gates, w)) (sym (c.in_ok-copied.ensures ∙ c.word.ensures
    ∙ ap (words_of c.after.new.words) c.copy_of.ensures))

pub returns-clause-within : goal.returns-clause-within
returns-clause-within c =
    let design = design_of c.args.fan_in.now.design.now in
    let s = c.args.target.0 in
    let self = c.new-followed.result in
    let target = call_target c.args.fan_in.now.design.now c.args.target.0 c.know_design.ensures.checked
    c.args.body
    c.requires.body c.new-followed.result c.new-followed.ensures.signals
    c.new-followed.ensures.reads _ (c.new-followed.ensures.follows ∙ c.deref.ensures.value)
    c.in_ok-follows.ensures.follows c.requires.driven in
    let stand = c.in_ok-after.ensures.stand (copy_of (forms_in self) s)
    (self_copies self s (target_inside design s c.args.body.now self target)) in
    subst (IsWordOf design s c.after.new.gates.variables)
    (sym (c.in_ok-copied.ensures ∙ c.word.ensures
    ∙ ap (words_of c.after.new.words) c.copy_of.ensures)) (
      stand.0,
      stand.1 ∙ width_copy (forms_in self) s
          ∙ ap (λ (ss : List SignalForm). signal_width ss s) target.forms,
    )
