-- What is known of a sink that writes lines as text.
use Rattle.proof_lines.specs.declared.sink.TextSink.{TextSink}

-- where the text goes
abbrev pub sink_behind : {S : Type 0} → TextSink S → S
sink_behind t = t.sink
