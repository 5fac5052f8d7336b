use Rattle.std.proofs.Common.{◌≡◌, take}
use Rattle.std.specs.List.{flat_map}
use Rattle.card_forms.specs.ImageFiles.{simh_line_of}
use Rattle.card_forms.proofs.image_writing.simh_lines.Given as goal

abbrev pub invariant-loop-image : goal.invariant-loop-image
invariant-loop-image l = l.text.items ≡ flat_map simh_line_of (take l.image-index l.images)
