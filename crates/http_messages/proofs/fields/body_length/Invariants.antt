use Rattle.std.proofs.Common.{◌≡◌, map, take}
use Rattle.httparse.specs.Spans.{header_bytes}
use Rattle.http_messages.specs.Fields.{body_length}
use Rattle.http_messages.proofs.fields.body_length.Given as goal

abbrev pub invariant-loop-field : goal.invariant-loop-field
invariant-loop-field l = l.length ≡ body_length (map (header_bytes l.bytes) (take l.field-index l.fields))
