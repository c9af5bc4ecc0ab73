-- What a clause reads of the adapters over std's readers and writers.
use Rattle.std.specs.Prelude.{ℕ}
use Rattle.affine_io.specs.declared.adapter.StdSource.{StdSource}
use Rattle.affine_io.specs.declared.adapter.StdSink.{StdSink}

-- the reader that a source reads
abbrev pub source_reader : {R : Type 0} → StdSource R → R
source_reader source = source.reader

-- how often a source over a reader failed
abbrev pub source_faults : {R : Type 0} → StdSource R → ℕ
source_faults source = source.faults

-- the writer that a sink writes
abbrev pub sink_writer : {W : Type 0} → StdSink W → W
sink_writer sink = sink.writer

-- how often a sink over a writer failed
abbrev pub sink_faults : {W : Type 0} → StdSink W → ℕ
sink_faults sink = sink.faults
