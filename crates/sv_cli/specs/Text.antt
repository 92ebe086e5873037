-- What is written of words that are no command.
use Rattle.std.specs.Prelude.{ℕ, List, ◌++◌, codes}
use Rattle.sv_words.specs.declared.command.UsageKind.{UsageKind}
use Rattle.sv_words.specs.declared.command.UsageKind.TheVariants.{NoCommand, UnknownCommand, Words}

abbrev pub usage_name : UsageKind → List ℕ
usage_name NoCommand = codes "no-command"
usage_name UnknownCommand = codes "unknown-command"
usage_name Words = codes "words"

abbrev pub usage_text : UsageKind → List ℕ
usage_text kind = codes "usage " ++ usage_name kind ++ codes "\n"
