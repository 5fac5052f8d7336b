use Rattle.std.proofs.Common.{◌≡◌, ◌∙◌, ◌+◌, ◌<◌, length, drop, get_or, ap, sym, refl, arith}
use Rattle.std.proofs.lemmas.List.{get_or_default}
use Rattle.core_store.specs.Storage.{positions_of}
use Rattle.autocoder_layout.specs.Source.{silent}
use Rattle.autocoder_layout.specs.Slots.{origin}
use Rattle.autocoder_layout.specs.Literals.{literals_of}
use Rattle.autocoder_layout.specs.Layout.{Layout, layout_in}
use Rattle.autocoder_layout.specs.declared.slots.Slot.{Slot}
use Rattle.autocoder_layout.proofs.LayoutLemmas.{length-layout_of}
use Rattle.autocoder_listings.specs.Listing.{lines_in}
use Rattle.autocoder_listings.proofs.CardLemmas.{slot_at, built_at}
use Rattle.autocoder_listings.proofs.LineLemmas.{cards_step, cards_past}
use Rattle.autocoder_listings.proofs.cards_shown.push_cards.Goals as goal

pub loop-i-preserved : goal.loop-i-preserved
loop-i-preserved c =
    let layout = c.args.layout.now in
    let size = positions_of layout.source.size in
    let lines = layout.source.lines in
    let slots = layout.slots in
    let literals = layout.literals in
    let laid = c.slots-slots.ensures.laid_out in
    let i = c.loop-i.i in
    let card = c.index-source-i.result in
    let slot = get_or slots i origin in
    let line = get_or lines i silent in
    let cells = c.in_ok-cells.cells.items in
    let k : i < length lines = omega (arith, c.loop-i-test.true, c.requires.one_each) in
    let h : i < length c.slots-slots.result.now = omega (arith, k, laid.one_each, ap length c.slots-slots.ensures.slots) in
    let l : i < length (layout_in layout.source) = omega (arith, k, length-layout_of size lines) in
    let slots_are = ap (λ (l : Layout). l.slots) laid.same in
    let literals_are = ap (λ (l : Layout). l.literals) laid.same ∙ ap (literals_of lines) (sym slots_are) in
    let slot_is : c.index-slots-i.result ≡ slot = c.index-slots-i.is ∙ get_or_default c.slots-slots.result.now i _ origin h ∙ ap (λ s. get_or s i origin) c.slots-slots.ensures.slots in
    let at = slot_at size lines slots slots_are literals literals_are i line slot (drop (i + 1) slots) cells k refl refl refl c.in_ok-cells.ensures c.requires.faultless in
    let filled = built_at size lines slots slots_are literals literals_are i line slot (drop (i + 1) slots) cells k refl refl refl c.in_ok-cells.ensures c.requires.faultless in
    let more_is = ap (λ (s : Slot). lines_in c.args.width (i + 1) s card c.deref.result.now) slot_is ∙ ap (lines_in c.args.width (i + 1) slot card) c.deref.ensures.value in
    cards_step c.args.width c.loop-i.text.items c.push.new.text.items (lines_in c.args.width (i + 1) c.index-slots-i.result card c.deref.result.now) c.args.source.now (layout_in layout.source) i card _ slot cells c.loop-i-test.true l
    c.index-source-i.is at filled more_is c.in_ok-push.ensures
    ∙ c.loop-i.invariant

pub returns : goal.returns
returns c = cards_past c.args.width c.loop-i.text.items c.args.source.now _ c.loop-i.i (c.loop-i.i + 1) c.loop-i-test.false ∙ c.loop-i.invariant
