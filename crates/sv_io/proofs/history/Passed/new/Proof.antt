-- `new` is the value of no bytes at which nothing passed. Assumes `Logic`.
use Rattle.std.proofs.Common.{[]}
use Rattle.sv_io.proofs.Histories.{passed}
use Rattle.sv_io.proofs.Walks.{starts}
use Rattle.sv_io.specs.contracts.history.Passed.new.Key.{name as #self}
use Rattle.sv_io.proofs.history.Passed.new.Statement.{statement}
use Rattle.sv_io.proofs.history.Passed.new.Code as code

pub new_spec : {M : Type 1} → statement M
new_spec 𝓤 𝓛 𝓜 𝓡 wired = starts 𝓤 𝓛 𝓜 𝓡 passed #self [] (code.unfolded 𝓤 𝓛.H 𝓜 𝓡 wired)
