use Rattle.std.proofs.Common.{inl, inr}
use Rattle.sv_parse.proofs.DeclarationRuns.{memory_behind, where_some}
use Rattle.sv_parse.proofs.registers.is_memory.Goals as goal

pub returns-in-None-clause-words : goal.returns-in-None-clause-words
returns-in-None-clause-words c =
    λ bytes yes. where_some _ _ _ _ c.is_some.ensures yes (c.behind.ensures.is bytes) (λ rest opens.
    elim c.in-None.is [
      | inl e ↦ rw e (memory_behind _ _ opens)
      | inr e ↦ rw e.2 (memory_behind _ _ opens)
    ])
