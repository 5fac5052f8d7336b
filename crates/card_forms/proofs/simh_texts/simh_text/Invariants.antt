use Rattle.std.proofs.Common.{◌≡◌, take}
use Rattle.card_forms.specs.SimhTexts.{simh_text_of}
use Rattle.card_forms.proofs.simh_texts.simh_text.Given as goal

abbrev pub invariant-loop-card : goal.invariant-loop-card
invariant-loop-card l = l.text.items ≡ simh_text_of (take l.card-index l.cards)
