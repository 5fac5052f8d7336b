use Rattle.std.proofs.Common.{◌≡◌, ◌++◌, ◌==◌, map}
use Rattle.films.specs.Changes.{differences, number_is}
use Rattle.films.specs.Texts.{items_text}
use Rattle.films.proofs.items.push_numbers.Given as goal

abbrev pub invariant-loop-place : goal.invariant-loop-place
invariant-loop-place l =
    l.out.items ≡ l.fn.out.items ++ items_text (map (λ d. number_is d.0 d.1) (differences ◌==◌ 0 l.old l.new l.place))
