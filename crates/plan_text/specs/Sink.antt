-- What an output over a writer holds.
use Rattle.std.specs.Prelude.{Bool}
use Rattle.plan_text.specs.declared.out.Sink.{Sink}

-- the writer, with all that was written to it
abbrev pub sink_writer : {W : Type 0} → Sink W → W
sink_writer s = s.writer

-- a write has failed
abbrev pub sink_failed : {W : Type 0} → Sink W → Bool
sink_failed s = s.failed
