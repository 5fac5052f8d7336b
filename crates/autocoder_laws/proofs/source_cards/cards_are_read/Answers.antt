use Rattle.autocoder_laws.proofs.CardTexts.{card_read, card_spelled, card_one, card_faulty}
use Rattle.autocoder_laws.proofs.source_cards.cards_are_read.Goals as goal

pub returns-clause-read : goal.returns-clause-read
returns-clause-read c = card_read

pub returns-clause-spelled : goal.returns-clause-spelled
returns-clause-spelled c = card_spelled

pub returns-clause-one : goal.returns-clause-one
returns-clause-one c = card_one

pub returns-clause-faulty : goal.returns-clause-faulty
returns-clause-faulty c = card_faulty
