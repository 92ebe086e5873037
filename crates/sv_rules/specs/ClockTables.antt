-- Private: how the code goes. What rule 602 asks of each signal, as tables.
use Rattle.std.specs.Prelude.{ℕ, Bool, ◌==◌, not, length}
use Rattle.std.specs.List.{list_any}
use Rattle.sv_flat.specs.Clocks.{links_in, agrees_with_earlier, is_clock_alone}
use Rattle.sv_flat.specs.Design.{FlatDesign}
use Rattle.sv_rules.specs.declared.clock_rule.ClockTables.{ClockTables}
use Rattle.sv_graph.specs.Marks.{IsTable}

-- an input port is linked by a whole name
abbrev pub is_whole_port : FlatDesign → ℕ → Bool
is_whole_port design s = list_any (λ pair. pair.0 == s) (links_in design)

-- it is read, driven or used as a selector elsewhere than after `posedge` and in links by a whole
-- name to input ports
abbrev pub is_used : FlatDesign → ℕ → Bool
is_used design s = not (is_clock_alone design s)

-- the tables are those of the design
pub record AreClockTables (design : FlatDesign) (tables : ClockTables) : Type 0 where
  pub linked_are : IsTable (length design.signals) tables.linked.items (is_whole_port design)
  pub used_are : IsTable (length design.signals) tables.used.items (is_used design)
  pub agree : IsTable (length design.signals) tables.agrees.items (agrees_with_earlier design)
