use Rattle.std.proofs.Common.{◌≡◌, take}
use Rattle.std.specs.List.{flat_map}
use Rattle.sv_encoding.specs.CnfText.{clause_line}
use Rattle.sv_blast.proofs.cnf_text.clause_lines.Given as goal

abbrev pub invariant-clauses : goal.invariant-clauses
invariant-clauses l = l.text.items ≡ flat_map clause_line (take l.clause-index l.clauses)
