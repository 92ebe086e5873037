-- What one more argument makes of a line.
use Rattle.std.proofs.Common.{◌≡◌, ◌∙◌, ap₂, false}
use Rattle.std.proofs.lemmas.Result.{IfOk-weaker}
use Rattle.std.specs.Prelude.{Result, IfOk}
use Rattle.clap.specs.Words.{AddsArg, App, Rule, app_of, rule_of, with_rule}
use Rattle.clap.specs.declared.builder.arg.Arg.{Arg}
use Rattle.clap.specs.declared.builder.command.Command.{Command}

pub added : {old new : Command} {a : Arg} {line : App} {rule : Rule} → AddsArg old a new
    → a.global ≡ false → rule_of a ≡ rule → app_of old ≡ line → app_of new ≡ with_rule line rule
added adds local is before = adds.shape local ∙ ap₂ with_rule before is

-- what a second argument makes of a line that has just been given a first one
pub added_two : {E : Type 0} {old mid : Command} {a : Arg} {line : App} {one two : Rule}
    (b : Arg) (r : Result Command E) → app_of old ≡ line
    → AddsArg old a mid → a.global ≡ false → rule_of a ≡ one
    → b.global ≡ false → rule_of b ≡ two → IfOk r (AddsArg mid b)
    → IfOk r (λ new. app_of new ≡ with_rule (with_rule line one) two)
added_two b r before adds a_local a_is b_local b_is second =
    IfOk-weaker r _ _ (λ new more. added more b_local b_is (added adds a_local a_is before))
    second
