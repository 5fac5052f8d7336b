use Rattle.std.proofs.Common.{◌≡◌, drop}
use Rattle.std.specs.List.{list_any}
use Rattle.queue_rounds.specs.StandingTexts.{is_with_address}
use Rattle.queue_rounds.proofs.standing_texts.is_any_with_address.Given as goal

abbrev pub invariant-loop-words : goal.invariant-loop-words
invariant-loop-words l =
    list_any (λ words. is_with_address l.text words.now) (drop l.words-index l.before) ≡ list_any (λ words. is_with_address l.text words.now) l.before
