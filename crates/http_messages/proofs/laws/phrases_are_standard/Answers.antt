use Rattle.http_messages.proofs.Phrases.{has_phrase, is_code}
use Rattle.http_messages.proofs.laws.phrases_are_standard.Goals as goal

pub returns : goal.returns
returns c status has = (is_code status has, has_phrase status has)
