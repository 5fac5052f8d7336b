use Rattle.std.proofs.Common.{◌≡◌, take}
use Rattle.card_forms.specs.ImageFiles.{lines_of}
use Rattle.card_forms.proofs.image_writing.lines.Given as goal

abbrev pub invariant-loop-image : goal.invariant-loop-image
invariant-loop-image l = l.file.items ≡ lines_of l.form (take l.image-index l.images)
