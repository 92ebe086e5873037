use Rattle.std.proofs.Common.{◌∙◌, ap, true}
use Rattle.clap.specs.Simple.{App, app_of_fields}
use Rattle.clap.specs.Words.{new_app}
use Rattle.sv_words.proofs.lines.named.Goals as goal

pub returns : goal.returns
returns c = ap app_of_fields c.about.ensures
    ∙ (ap app_of_fields c.in_ok-line.ensures.0
    ∙ (ap app_of_fields c.disable_help_flag.ensures
    ∙ ap (λ (a : App). record a { top = record a.top { disable_help_flag = true } })
    (c.new.ensures.app ∙ ap new_app c.word_of.ensures)))
