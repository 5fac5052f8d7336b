use Rattle.std.proofs.Common.{◌≡◌}
use denote.Text.{Utf8}
use denote.Shadow.{shadow}
use Rattle.http_messages.specs.Parts.{part}
use Rattle.http_messages.proofs.parts.part.Given as goal

abbrev pub invariant-loop-left : goal.invariant-loop-left
invariant-loop-left l = shadow (Utf8 l.rest) × (part l.left l.rest ≡ part l.place l.text)

abbrev pub decreases-loop-left : goal.decreases-loop-left
decreases-loop-left l = l.left
