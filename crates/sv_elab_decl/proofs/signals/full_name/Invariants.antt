use Rattle.std.proofs.Common.{◌≡◌, ◌∷◌, [], ◌++◌, drop}
use Rattle.std.specs.List.{join_with_byte}
use Rattle.sv_elab_decl.proofs.signals.full_name.Given as goal

-- what is written and what is left to write are the whole name
abbrev pub invariant-loop-outer : goal.invariant-loop-outer
invariant-loop-outer l =
    l.bytes.items ++ join_with_byte 46 (drop l.outer-index l.path ++ l.name ∷ [])
    ≡ join_with_byte 46 (l.path ++ l.name ∷ [])
