use Rattle.std.proofs.Common.{◌≡◌, ◌++◌, drop}
use Rattle.sv_flat.specs.ByNumber.{signal_forms}
use Rattle.sv_flat.specs.Readings.{parts_reads}
use Rattle.sv_flat.proofs.Parts.{trees}
use Rattle.sv_rules.specs.ReadForms.{read_forms}
use Rattle.sv_rules.proofs.names.+add_names.Given as goal

-- the names so far, and those that are left
abbrev pub invariant-add_all_names-loop-expr : goal.invariant-add_all_names-loop-expr
invariant-add_all_names-loop-expr l =
    let signals = signal_forms l.signals in
    read_forms l.names.items ++ parts_reads signals (trees (drop l.expr-index l.exprs))
    ≡ read_forms l.initial.names.items ++ parts_reads signals (trees l.exprs)
