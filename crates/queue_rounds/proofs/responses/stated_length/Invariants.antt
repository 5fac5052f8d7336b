use Rattle.std.proofs.Common.{drop, map, ℕ}
use Rattle.std.specs.Prelude.{Option}
use Rattle.httparse.specs.Spans.{header_bytes}
use Rattle.queue_rounds.specs.Responses.{StatesLength}
use Rattle.queue_rounds.proofs.responses.stated_length.Given as goal

abbrev pub invariant-loop-field : goal.invariant-loop-field
invariant-loop-field l =
    (it : Option ℕ) → StatesLength (map (header_bytes l.bytes) (drop l.field-index l.fields)) it → StatesLength (map (header_bytes l.bytes) l.fields) it
