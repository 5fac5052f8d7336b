use Rattle.std.proofs.Common.{◌≡◌, ◌≤◌, ◌++◌, length, map, take}
use Rattle.scripts.specs.Words.{AreWords, words_of}
use Rattle.scripts.proofs.words.Words.of.Given as goal

abbrev pub invariant-loop-count : goal.invariant-loop-count
invariant-loop-count l = record {
  within : l.count ≤ 7;
  width : length l.words ≡ 7;
  each : AreWords (map (λ word. word.now) (take l.count l.words));
  words : words_of l.line ≡ map (λ word. word.now) (take l.count l.words) ++ words_of l.rest;
}

abbrev pub decreases-loop-count : goal.decreases-loop-count
decreases-loop-count l = length l.rest
