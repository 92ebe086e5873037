use Rattle.std.proofs.Common.{◌≡◌, ◌∙◌, subst}
use Rattle.std.specs.Prelude.{IfOk, IfErr, Ok}
use Rattle.sv_ast.specs.Views.{text_tree}
use Rattle.sv_flat.specs.Views.{design_of}
use Rattle.sv_elab_rules.specs.Texts.{walk_of}
use Rattle.sv_width.specs.Answers.{IsBreach}
use Rattle.sv_elab.specs.Modules.{asked_name}
use Rattle.sv_elab.proofs.TextSound.{found_sound}
use Rattle.sv_elab.proofs.texts.elaborate.Goals as goal

pub returns-clause-found : goal.returns-clause-found
returns-clause-found c =
    let same : asked_name c.as_ref.result ≡ asked_name c.args.top =
    c.as_ref.ensures.value ∙ c.in_ok-name.ensures in
    subst (λ n. IfOk c.elaborate_under.result (λ f.
    (walk_of (text_tree c.args.text.now) n).end ≡ Ok (design_of f))) same
    c.elaborate_under.ensures.found

pub returns-clause-sound : goal.returns-clause-sound
returns-clause-sound c =
    let same : asked_name c.as_ref.result ≡ asked_name c.args.top =
    c.as_ref.ensures.value ∙ c.in_ok-name.ensures in
    found_sound c.args.text.now (asked_name c.args.top) c.elaborate_under.result c.requires.shaped
    (subst (λ n. IfOk c.elaborate_under.result (λ f.
    (walk_of (text_tree c.args.text.now) n).end ≡ Ok (design_of f))) same
    c.elaborate_under.ensures.found)

pub returns-clause-broken : goal.returns-clause-broken
returns-clause-broken c =
    let same : asked_name c.as_ref.result ≡ asked_name c.args.top =
    c.as_ref.ensures.value ∙ c.in_ok-name.ensures in
    subst (λ n. IfErr c.elaborate_under.result
    (IsBreach (walk_of (text_tree c.args.text.now) n).end)) same
    c.elaborate_under.ensures.broken
