use Rattle.std.proofs.Common.{◌≡◌, ℕ, ◌^◌, ◌<◌, ◌≤◌, false, length, get_or, drop}
use Rattle.std.specs.Prelude.{◌||◌}
use Rattle.sv_elab_rules.specs.Names.{Names}
use Rattle.sv_elab_stmt.specs.Cases.{item_trees, AreItems, ArePassed, greatest, values_of, is_held}
use Rattle.sv_elab_stmt.proofs.complete.held_values.Given as goal

-- the values marked so far and those of the items that are left are all
abbrev pub invariant-loop-item : goal.invariant-loop-item
invariant-loop-item l = record {
  size : length l.held.items ≡ 2 ^ l.own;
  wide : greatest (drop l.item-index l.items) ≤ l.to.width;
  held : (names : Names) → AreItems names l.items
      → ArePassed names l.to.width l.to.signed (item_trees l.items)
      → AreItems names (drop l.item-index l.items)
      × ArePassed names l.to.width l.to.signed (item_trees (drop l.item-index l.items))
      × ((v : ℕ) → v < 2 ^ l.own
      → (get_or l.held.items v false
      || is_held l.own l.to.width l.to.signed
      (values_of names l.to.width l.to.signed (item_trees (drop l.item-index l.items))) v)
      ≡ is_held l.own l.to.width l.to.signed
      (values_of names l.to.width l.to.signed (item_trees l.items)) v);
}
