use Rattle.std.proofs.Common.{◌==◌, ◌∙◌}
use Rattle.films.specs.Changes.{number_is}
use Rattle.films.proofs.ItemLemmas.{none_differ, number_on}
use Rattle.films.proofs.items.push_numbers.Goals as goal

pub loop-place-init : goal.loop-place-init
loop-place-init c = none_differ number_is ◌==◌ 0 c.args.old.now c.args.new.now c.args.out.now.items

pub loop-place-preserved : goal.loop-place-preserved
loop-place-preserved c =
    c.in_ok-push_number.ensures
    ∙ number_on c.args.old.now c.args.new.now c.loop-place.place c.args.out.now.items c.loop-place.out.items c.loop-place.invariant
