-- What the objects over the real system remember: what passed, how many files were read, how often
-- the system failed, and its last error.
use Rattle.std.specs.Prelude.{ℕ, Bool, List}
use Rattle.std.specs.Option.{is_some}
use Rattle.sv_io.specs.declared.system.FileCabinet.{FileCabinet}
use Rattle.sv_io.specs.declared.system.StdSource.{StdSource}
use Rattle.sv_io.specs.declared.system.StdSink.{StdSink}
use Rattle.sv_io.specs.Exchange.{Exchange}

-- all calls of the files so far
abbrev pub file_exchanges : {R F O : Type 0} → FileCabinet R F O → List Exchange
file_exchanges cabinet = cabinet.exchanges.calls

-- how many files were read so far
abbrev pub file_reads : {R F O : Type 0} → FileCabinet R F O → ℕ
file_reads cabinet = cabinet.files_read

-- how often the system failed to hand out a file
abbrev pub file_fetch_faults : {R F O : Type 0} → FileCabinet R F O → ℕ
file_fetch_faults cabinet = cabinet.fetch_faults

-- how often the system failed to store a file
abbrev pub file_store_faults : {R F O : Type 0} → FileCabinet R F O → ℕ
file_store_faults cabinet = cabinet.store_faults

-- whether it failed so far
abbrev pub file_failed : {R F O : Type 0} → FileCabinet R F O → Bool
file_failed cabinet = is_some cabinet.last_error

-- the reader, the bytes that were given, whether the end was shown, how often the system failed,
-- and whether it failed so far
abbrev pub source_reader : {R : Type 0} → StdSource R → R
source_reader source = source.reader

abbrev pub source_given : {R : Type 0} → StdSource R → List ℕ
source_given source = source.given.bytes

abbrev pub source_ended : {R : Type 0} → StdSource R → Bool
source_ended source = source.ended

abbrev pub source_faults : {R : Type 0} → StdSource R → ℕ
source_faults source = source.faults

abbrev pub source_failed : {R : Type 0} → StdSource R → Bool
source_failed source = is_some source.last_error

-- the writer, the bytes that were accepted, how often the system failed,
-- and whether it failed so far
abbrev pub sink_writer : {W : Type 0} → StdSink W → W
sink_writer sink = sink.writer

abbrev pub sink_accepted : {W : Type 0} → StdSink W → List ℕ
sink_accepted sink = sink.accepted.bytes

abbrev pub sink_faults : {W : Type 0} → StdSink W → ℕ
sink_faults sink = sink.faults

abbrev pub sink_failed : {W : Type 0} → StdSink W → Bool
sink_failed sink = is_some sink.last_error
