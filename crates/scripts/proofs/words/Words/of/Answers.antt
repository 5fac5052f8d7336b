use Rattle.std.proofs.Common.{◌≡◌, ◌<◌, [], length, rules, ◌∙◌, length-set}
use Rattle.std.proofs.lemmas.List.{nil_from_length}
use Rattle.scripts.specs.Words.{words_of}
use Rattle.scripts.proofs.WordLemmas.{empty_word, few_words, too_many, words_all, words_each}
use Rattle.scripts.proofs.words.Words.of.Goals as goal

pub returns-then-count-eq-MOST_WORDS-clause-none : goal.returns-then-count-eq-MOST_WORDS-clause-none
returns-then-count-eq-MOST_WORDS-clause-none c =
    let all : c.loop-count.count ≡ 7 = search rules in
    too_many c.loop-count.words c.args.line.now c.loop-count.rest.now c.loop-count.invariant.width (rw all at c.loop-count.invariant.words)

pub returns-then-is_empty-clause-none : goal.returns-then-is_empty-clause-none
returns-then-is_empty-clause-none c =
    let short : length c.first_word.result.0.now ≡ 0 = search rules in
    let none : c.first_word.result.0.now ≡ [] = nil_from_length c.first_word.result.0.now short in
    empty_word _ c.args.line.now c.loop-count.rest.now c.first_word.result.0.now c.first_word.result.1 c.loop-count.invariant.words none c.first_word.ensures.alone c.first_word.ensures.more

pub loop-count-preserved : goal.loop-count-preserved
loop-count-preserved c =
    let inside : c.loop-count.count < length c.loop-count.words = search rules in
    record {
      within = search rules;
      width = length-set _ _ _ ∙ c.loop-count.invariant.width;
      each = words_each c.loop-count.words c.loop-count.count c.first_word.result.0 inside c.loop-count.invariant.each (search rules);
      words = words_all c.loop-count.words c.loop-count.count c.first_word.result.0 c.args.line.now c.loop-count.rest.now (words_of c.in-Some.after.now) inside c.loop-count.invariant.words (search rules);
    }

pub returns-in-None-clause-some : goal.returns-in-None-clause-some
returns-in-None-clause-some c =
    few_words c.loop-count.words c.loop-count.count c.first_word.result.0 c.args.line.now c.loop-count.rest.now (search rules) c.loop-count.invariant.width c.loop-count.invariant.each (search rules) c.loop-count.invariant.words (search rules)
