use Rattle.std.proofs.Common.{take, map}
use Rattle.sv_flat.specs.ByNumber.{signal_forms}
use Rattle.sv_obl.specs.Views.{obligation_of}
use Rattle.sv_paths.specs.Written.{Writes}
use Rattle.sv_paths.proofs.list_texts.push_queries.Given as goal

-- those so far were added
abbrev pub invariant-loop-query : goal.invariant-loop-query
invariant-loop-query l =
    Writes (signal_forms l.signals) (map obligation_of (take l.query-index l.queries))
    l.initial.lines l.lines
