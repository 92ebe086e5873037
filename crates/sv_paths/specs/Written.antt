-- Private: how the code goes. Lines as they are written; what `secv list` prints stands in
-- `ListLines`.
use Rattle.std.specs.Prelude.{◌≡◌, ℕ, ◌+◌, if◌then◌else◌, List, ◌++◌, length, codes}
use Rattle.sv_flat.specs.Design.{SignalForm}
use Rattle.sv_paths.specs.declared.list_texts.NumberedLines.{NumberedLines}
use Rattle.sv_paths.specs.declared.list_lines.StepMark.{StepMark}
use Rattle.sv_paths.specs.ListLines.{lines_from}
use Rattle.sv_texts.specs.Texts.{place_text}
use Rattle.sv_obl.specs.Obligations.{Obligation}

-- a condition as its line shows it
abbrev pub mark_word : StepMark → List ℕ
mark_word mark = (if mark.truth then codes "+" else codes "-") ++ place_text mark.place

-- the lines of some obligations were added, numbered after those before
pub record Writes (signals : List SignalForm) (os : List Obligation) (old new : NumberedLines) :
    Type 0 where
  pub text : new.text.items ≡ old.text.items ++ lines_from signals (old.count + 1) os
  pub count : new.count ≡ old.count + length os
