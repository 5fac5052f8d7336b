use Rattle.std.proofs.Common.{◌≡◌, ◌≤◌, length, map, take}
use Rattle.httparse.specs.Spans.{header_bytes}
use Rattle.http_messages.specs.Fields.{values_of}
use Rattle.http_messages.proofs.fields.count_named.Given as goal

abbrev pub invariant-loop-field : goal.invariant-loop-field
invariant-loop-field l =
    (l.count ≤ l.field-index)
    × (l.count ≡ length (values_of l.name (map (header_bytes l.bytes) (take l.field-index l.fields))))
