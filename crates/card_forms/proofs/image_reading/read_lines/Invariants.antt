use Rattle.std.proofs.Common.{◌≡◌, ◌++◌, length}
use Rattle.std.specs.List.{All}
use Rattle.card_forms.specs.ImageFiles.{IsImageIn, lines_of}
use Rattle.card_forms.proofs.image_reading.read_lines.Given as goal

abbrev pub invariant-loop-rest : goal.invariant-loop-rest
invariant-loop-rest l = record {
  each : All (IsImageIn l.form) l.images.items;
  before : l.bytes ≡ lines_of l.form l.images.items ++ l.rest;
}

abbrev pub decreases-loop-rest : goal.decreases-loop-rest
decreases-loop-rest l = length l.rest
