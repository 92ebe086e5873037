use Rattle.std.proofs.Common.{◌≡◌, ◌≤◌, max, drop}
use Rattle.std.specs.Prelude.{◌&&◌}
use Rattle.sv_width.specs.Operands.{own_width, own_signed}
use Rattle.sv_elab_stmt.specs.Cases.{greatest, all_signed}
use Rattle.sv_elab_stmt.proofs.cases.common_type.Given as goal

-- the type so far with the items that are left gives that of all
abbrev pub invariant-loop-item : goal.invariant-loop-item
invariant-loop-item l = record {
  width : max l.width (greatest (drop l.item-index l.items)) ≡
      max (own_width l.selector) (greatest l.items);
  signed : (l.signed && all_signed (drop l.item-index l.items)) ≡
      (own_signed l.selector && all_signed l.items);
  some : 1 ≤ l.width;
  few : l.width ≤ 64;
}
