use Rattle.std.proofs.Common.{◌≡◌, drop, nat_le}
use Rattle.std.specs.List.{list_any}
use Rattle.sv_obl.proofs.marked.names_copy.Given as goal

-- what is left tells as all do
abbrev pub invariant-loop-name : goal.invariant-loop-name
invariant-loop-name l =
    list_any (nat_le l.count) (drop l.name-index l.name-items)
    ≡ list_any (nat_le l.count) l.name-items
