-- What the objects in memory that never fail hold.
use Rattle.std.specs.Prelude.{ℕ, Bool, List, Option, take, drop}
use Rattle.sv_io.specs.declared.sure.SureCabinet.{SureCabinet}
use Rattle.sv_io.specs.declared.sure.SureSource.{SureSource}
use Rattle.sv_io.specs.declared.sure.SureSink.{SureSink}
use Rattle.sv_io.specs.Exchange.{Exchange}
use Rattle.sv_io.specs.Files.{files_held}

-- the bytes under each name
abbrev pub sure_held : SureCabinet → List ℕ → Option (List ℕ)
sure_held cabinet name = files_held cabinet.files name

-- all calls so far
abbrev pub sure_exchanges : SureCabinet → List Exchange
sure_exchanges cabinet = cabinet.exchanges.calls

-- the bytes that were given
abbrev pub sure_given : SureSource → List ℕ
sure_given source = take source.at source.all.items

-- the bytes that are left
abbrev pub sure_left : SureSource → List ℕ
sure_left source = drop source.at source.all.items

-- whether the end was shown
abbrev pub sure_ended : SureSource → Bool
sure_ended source = source.ended

-- the bytes that were accepted
abbrev pub sure_accepted : SureSink → List ℕ
sure_accepted sink = sink.all.items
