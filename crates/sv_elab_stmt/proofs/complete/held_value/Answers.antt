use Rattle.std.proofs.Common.{◌%◌, ap, ◌∙◌}
use Rattle.sv_num.specs.Vectors.{as_number, reduced, value_of}
use Rattle.sv_num.specs.Parts.{extended}
use Rattle.sv_elab_stmt.proofs.CompleteFacts.{no_value, small_power}
use Rattle.sv_elab_stmt.proofs.complete.held_value.Goals as goal

pub returns-else-value : goal.returns-else-value
returns-else-value c = λ v low.
    let own = c.args.own in
    let n = c.args.to.width in
    let s = c.args.to.signed in
    let is = c.value.ensures.value ∙ c.extend-extended.ensures.value
    ∙ ap (λ w. reduced n (as_number w s (value_of c.of_type.result))) c.of_type.ensures.width
    ∙ ap (λ x. extended s own n x) c.of_type.ensures.value
    ∙ ap (λ m. extended s own n (c.args.value % m)) (small_power own c.requires.few) in
    no_value s own n c.args.value c.requires.fits (λ e. c.if-value.false (is ∙ e)) v low
