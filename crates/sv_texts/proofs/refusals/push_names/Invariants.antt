use Rattle.std.proofs.Common.{◌≡◌, ◌++◌, drop}
use Rattle.sv_texts.specs.Texts.{names_text}
use Rattle.sv_texts.proofs.refusals.push_names.Given as goal

-- what was written and the text of the names that are left are the whole
abbrev pub invariant-loop-name : goal.invariant-loop-name
invariant-loop-name l =
    l.text.items ++ names_text (drop l.name-index l.names) ≡ l.fn.text.items ++ names_text l.names
