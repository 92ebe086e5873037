-- `new` is the value of no bytes at which there was no call. Assumes `Logic`.
use Rattle.std.proofs.Common.{[]}
use Rattle.sv_io.proofs.Histories.{exchanges}
use Rattle.sv_io.proofs.Walks.{starts}
use Rattle.sv_io.specs.contracts.history.Exchanges.new.Key.{name as #self}
use Rattle.sv_io.proofs.history.Exchanges.new.Statement.{statement}
use Rattle.sv_io.proofs.history.Exchanges.new.Code as code

pub new_spec : {M : Type 1} → statement M
new_spec 𝓤 𝓛 𝓜 𝓡 wired = starts 𝓤 𝓛 𝓜 𝓡 exchanges #self [] (code.unfolded 𝓤 𝓛.H 𝓜 𝓡 wired)
