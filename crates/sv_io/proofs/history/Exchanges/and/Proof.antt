-- `and` is the value of no bytes at which the call was made too. Assumes `Logic`.
use Rattle.std.proofs.Common.{[], ◌∷◌, ◌++◌}
use Rattle.sv_io.proofs.Histories.{exchanges}
use Rattle.sv_io.proofs.Walks.{grows}
use Rattle.sv_io.specs.Called.{exchange_of}
use Rattle.sv_io.specs.contracts.history.Call as Call
use Rattle.sv_io.specs.contracts.history.Exchanges.and.Key.{name as #self}
use Rattle.sv_io.proofs.history.Exchanges.and.Statement.{statement}
use Rattle.sv_io.proofs.history.Exchanges.and.Code as code

pub and_spec : {M : Type 1} → statement M
and_spec 𝓤 𝓛 𝓜 𝓡 wired =
    grows 𝓤 𝓛 𝓜 𝓡 exchanges #self Call.the_row
    (λ a old call. old.calls ++ exchange_of call ∷ []) (code.unfolded 𝓤 𝓛.H 𝓜 𝓡 wired)
