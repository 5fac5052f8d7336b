use Rattle.std.proofs.Common.{◌<◌, ◌∙◌, ap, arith}
use Rattle.core_store.specs.Storage.{largest_size}
use Rattle.run_traces.specs.declared.counting.Begun.{Begun}
use Rattle.run_traces.proofs.CountLemmas.{began_fits, places_begin, places_on}
use Rattle.run_traces.proofs.profiling.push_places.Goals as goal

pub loop-address-init : goal.loop-address-init
loop-address-init c = λ m counted. places_begin m c.args.attempts c.args.text.now.items

pub push_shown-requires : goal.push_shown-requires
push_shown-requires c =
    let address = c.loop-address.address in
    let place = c.index-places-address.result in
    let m = c.requires.0 in
    let below : address < largest_size = omega arith in
    omega (arith, ap (λ (begun : Begun). begun.count) c.index-places-address.is, c.requires.1.counts address place below, began_fits m c.args.attempts address)

pub loop-address-preserved : goal.loop-address-preserved
loop-address-preserved c = λ m counted.
    let address = c.loop-address.address in
    let place = c.index-places-address.result in
    let below : address < largest_size = omega arith in
    c.in_ok-push_shown.ensures m
    (ap (λ (begun : Begun). begun.count) c.index-places-address.is ∙ counted.counts address place below)
    (ap (λ (begun : Begun). begun.characters.items) c.index-places-address.is ∙ counted.firsts address place below)
    ∙ places_on m c.args.attempts address c.args.text.now.items c.loop-address.text.items (c.loop-address.invariant m counted)
