use Rattle.std.proofs.Common.{◌≡◌, take}
use Rattle.card_forms.specs.Images.{images_of}
use Rattle.card_forms.proofs.images.images_of.Given as goal

abbrev pub invariant-loop-card : goal.invariant-loop-card
invariant-loop-card l = l.images.items ≡ images_of (take l.card-index l.cards)
