-- What the objects in memory that fail on demand hold, and which of their calls fail.
use Rattle.std.specs.Prelude.{ℕ, Bool, List, Option, take, drop}
use Rattle.sv_io.specs.declared.mem.MemCabinet.{MemCabinet}
use Rattle.sv_io.specs.declared.mem.MemSource.{MemSource}
use Rattle.sv_io.specs.declared.mem.MemSink.{MemSink}
use Rattle.sv_io.specs.Exchange.{Exchange}
use Rattle.sv_io.specs.Files.{files_held, count_of}

-- the bytes under each name
abbrev pub mem_held : MemCabinet → List ℕ → Option (List ℕ)
mem_held cabinet name = files_held cabinet.files name

-- all calls so far
abbrev pub mem_exchanges : MemCabinet → List Exchange
mem_exchanges cabinet = cabinet.exchanges.calls

-- how often fetches of each name have failed
abbrev pub fetch_faults_of : MemCabinet → List ℕ → ℕ
fetch_faults_of cabinet name = count_of cabinet.fetches name

-- how often stores under each name have failed
abbrev pub store_faults_of : MemCabinet → List ℕ → ℕ
store_faults_of cabinet name = count_of cabinet.stores name

-- how many fetches and stores there were, and the numbers of those that fail
abbrev pub cabinet_calls : MemCabinet → ℕ
cabinet_calls cabinet = cabinet.calls.made

abbrev pub cabinet_failing : MemCabinet → List ℕ
cabinet_failing cabinet = cabinet.calls.failing.items

-- the bytes that are left
abbrev pub mem_left : MemSource → List ℕ
mem_left source = drop source.at source.all.items

-- the bytes that were given
abbrev pub mem_given : MemSource → List ℕ
mem_given source = take source.at source.all.items

-- whether the end was shown
abbrev pub source_ended : MemSource → Bool
source_ended source = source.ended

-- how many takes there were, how many of them failed, and the numbers of those that fail
abbrev pub source_calls : MemSource → ℕ
source_calls source = source.calls.made

abbrev pub source_faults : MemSource → ℕ
source_faults source = source.failed

abbrev pub source_failing : MemSource → List ℕ
source_failing source = source.calls.failing.items

-- the most bytes that a take moves
abbrev pub source_most : MemSource → ℕ
source_most source = source.most

-- the bytes that were accepted
abbrev pub mem_accepted : MemSink → List ℕ
mem_accepted sink = sink.all.items

-- how many puts there were, how many of them failed, and the numbers of those that fail
abbrev pub sink_calls : MemSink → ℕ
sink_calls sink = sink.calls.made

abbrev pub sink_faults : MemSink → ℕ
sink_faults sink = sink.failed

abbrev pub sink_failing : MemSink → List ℕ
sink_failing sink = sink.calls.failing.items

-- the most bytes that a put moves
abbrev pub sink_most : MemSink → ℕ
sink_most sink = sink.most
