use Rattle.std.proofs.Common.{◌≡◌, ◌∷◌, ◌++◌, take, map}
use Rattle.std.specs.Prelude.{codes}
use Rattle.sv_flat.specs.ByNumber.{signal_forms}
use Rattle.sv_paths.specs.ListLines.{blanked}
use Rattle.sv_obl.specs.SignalNames.{name_of}
use Rattle.sv_obl.specs.Views.{number_of}
use Rattle.sv_paths.proofs.list_lines.push_reads.Given as goal

abbrev pub invariant-reads : goal.invariant-reads
invariant-reads l = l.line.items ≡ l.fn.line.items
    ++ blanked (codes "reads" ∷ map (name_of (signal_forms l.signals))
    (map number_of (take l.read-index l.reads)))
