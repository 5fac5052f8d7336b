use Rattle.scripts.proofs.WordLemmas.{word_found, words_alone}
use Rattle.scripts.proofs.words.first_word.Goals as goal

pub returns-in-Some-clause-more : goal.returns-in-Some-clause-more
returns-in-Some-clause-more c = word_found _ _ _ c.in-Some.ensures.found.0 c.in-Some.ensures.found.1

pub returns-in-None-clause-alone : goal.returns-in-None-clause-alone
returns-in-None-clause-alone c = words_alone _ c.in-None.ensures.missing
