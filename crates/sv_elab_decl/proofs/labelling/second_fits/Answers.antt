use Rattle.std.proofs.Common.{◌≡◌, Some, None, ap, ◌∙◌}
use Rattle.std.specs.Prelude.{◌==◌}
use Rattle.std.proofs.Common.{eq-eqb}
use Rattle.std.proofs.lemmas.Result.{on_ok_weaker}
use Rattle.sv_elab_rules.specs.Walks.{ask}
use Rattle.sv_elab_rules.specs.Rules.{bad_label}
use Rattle.sv_elab_rules.specs.LabelSteps.{second_fits}
use Rattle.sv_width.specs.Scopes.{Known, names_of}
use Rattle.sv_elab_decl.specs.Selectors.{IsSecond}
use Rattle.sv_elab_decl.proofs.Faults.{breach_on, err_each}
use Rattle.sv_elab_decl.proofs.LabelEnds.{second_absent, second_rangeless, second_end}
use Rattle.sv_elab_decl.proofs.labelling.second_fits.Goals as goal
use Rattle.sv_elab_decl.proofs.labelling.second_fits.Goals.{In-Some-width}

pub returns-in_default-clause-asked : goal.returns-in_default-clause-asked
returns-in_default-clause-asked c = λ known is.
    let none : c.args.name.now ≡ None = cc in
    second_absent (names_of known) c.args.place c.args.name.now c.args.width none

pub returns-in_default-width-clause-asked : goal.returns-in_default-width-clause-asked
returns-in_default-width-clause-asked c = λ known is.
    let none : c.args.width ≡ None = cc in
    second_rangeless (names_of known) c.args.place c.args.name.now c.args.width none

-- a second selector and a second range come to one test
ended : (c : In-Some-width) (known : Known) → IsSecond known c.args.name.now c.args.signal
    → (second_fits (names_of known) c.args.place c.args.name.now c.args.width).end
    ≡ (ask (c.in-Some-signal.signal.width == c.in-Some-width.width)
    (bad_label c.args.place c.in-Some.name)).end
ended c known is =
    let n = c.in-Some.name in
    let s = c.in-Some-signal.signal in
    let w = c.in-Some-width.width in
    let a : c.args.name.now ≡ Some n = cc in
    let b : c.args.signal ≡ Some s = cc in
    let d : c.args.width ≡ Some w = cc in
    second_end known c.args.place c.args.name.now c.args.signal c.args.width n s w a b d is

pub returns-clause-asked : goal.returns-clause-asked
returns-clause-asked c =
    let s = c.in-Some-signal.signal in
    on_ok_weaker c.fits.result
    (λ same known is. ended (goal.at.returns-clause-asked c).In-Some-width known is
    ∙ ap (λ t. (ask t (bad_label c.args.place c.in-Some.name)).end)
    (eq-eqb s.width c.in-Some-width.width same))
    c.fits.ensures.asked

pub returns-clause-broken : goal.returns-clause-broken
returns-clause-broken c =
    let s = c.in-Some-signal.signal in
    err_each c.fits.result _ _
    (λ f h known is. breach_on f
    (ask (s.width == c.in-Some-width.width) (bad_label c.args.place c.in-Some.name)).end
    (second_fits (names_of known) c.args.place c.args.name.now c.args.width).end
    (λ t e. ended (goal.at.returns-clause-broken c).In-Some-width known is ∙ e) h)
    c.fits.ensures.broken
