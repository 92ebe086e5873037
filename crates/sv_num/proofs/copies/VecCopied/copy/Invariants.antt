use Rattle.std.proofs.Common.{◌≡◌, ◌++◌, map, drop}
use Rattle.sv_num.proofs.copies.VecCopied.copy.Given as goal

-- the copies so far and the items that are left have the plain forms of all
abbrev pub invariant-loop-item : goal.invariant-loop-item
invariant-loop-item g l =
    let plain = g.T.Copied.plain in
    map plain l.copies.items ++ map plain (drop l.item-index l.self.items) ≡ map plain l.self.items
