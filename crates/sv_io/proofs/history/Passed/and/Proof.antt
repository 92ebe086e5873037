-- `and` is the value of no bytes at which the run of bytes passed too. Assumes `Logic`.
use Rattle.std.proofs.Common.{◌++◌}
use Rattle.sv_io.proofs.Histories.{passed}
use Rattle.sv_io.proofs.Walks.{grows}
use Rattle.sv_io.specs.contracts.history.ByteRun as ByteRun
use Rattle.sv_io.specs.contracts.history.Passed.and.Key.{name as #self}
use Rattle.sv_io.proofs.history.Passed.and.Statement.{statement}
use Rattle.sv_io.proofs.history.Passed.and.Code as code

pub and_spec : {M : Type 1} → statement M
and_spec 𝓤 𝓛 𝓜 𝓡 wired =
    grows 𝓤 𝓛 𝓜 𝓡 passed #self ByteRun.the_row
    (λ a old run. old.bytes ++ run.bytes.now) (code.unfolded 𝓤 𝓛.H 𝓜 𝓡 wired)
