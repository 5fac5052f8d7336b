use Rattle.std.proofs.Common.{List, ◌≡◌, ◌∙◌, ◌+◌, ◌*◌, ◌<◌, ◌∷◌, [], length, get_or, sym, ap, subst, arith, length-append}
use Rattle.std.proofs.lemmas.List.{get_or_default}
use Rattle.core_store.specs.Storage.{positions_of}
use Rattle.autocoder_layout.specs.Source.{Line, IsInRange, silent}
use Rattle.autocoder_layout.specs.Slots.{slot_of}
use Rattle.autocoder_layout.proofs.SlotBounds.{laid_within, place_within}
use Rattle.autocoder_layout.proofs.SlotLemmas.{laid, slots_from-past}
use Rattle.autocoder_layout.proofs.slots.lay_out.Goals as goal

pub slot_of-slot-requires-clause-range : goal.slot_of-slot-requires-clause-range
slot_of-slot-requires-clause-range c =
    let lines = c.lines-line-items.result.now in
    let i = c.loop-line.line-index in
    subst (λ (l : Line). IsInRange l) (sym (c.line-item.is ∙ get_or_default lines i _ silent c.loop-line-test.true)) (c.lines-line-items.ensures.range i c.loop-line-test.true)

pub loop-line-preserved : goal.loop-line-preserved
loop-line-preserved c =
    let lines = c.args.source.now.lines in
    let i = c.loop-line.line-index in
    let h : i < length lines = omega (arith, c.loop-line-test.true, ap length c.lines-line-items.ensures.lines) in
    let line_is : c.line-item.result ≡ get_or lines i silent = c.line-item.is ∙ get_or_default c.lines-line-items.result.now i _ silent c.loop-line-test.true ∙ ap (λ (l : List Line). get_or l i silent) c.lines-line-items.ensures.lines in
    let range : IsInRange c.line-item.result =
    subst (λ (l : Line). IsInRange l) (sym (c.line-item.is ∙ get_or_default c.lines-line-items.result.now i _ silent c.loop-line-test.true)) (c.lines-line-items.ensures.range i c.loop-line-test.true) in
    let new_is = c.slot_of-slot.ensures ∙ ap (λ n. slot_of n c.deref.result.now c.line-item.result) (c.positions-size.ensures.positions ∙ ap positions_of c.size.ensures) in
    record {
      slots =
          laid (positions_of c.args.source.now.size) lines i c.line-item.result silent c.loop-line.slots.items c.deref.result.now c.push.new.self.items c.slot_of-slot.result h line_is c.deref.ensures.value new_is c.in_ok-push.ensures.items
          ∙ c.loop-line.invariant.slots;
      within = laid_within c.positions-size.result i c.loop-line.slots.items c.deref.result.now c.push.new.self.items c.line-item.result c.slot_of-slot.result c.positions-size.ensures.limit range
          c.deref.ensures.value c.slot_of-slot.ensures c.in_ok-push.ensures.items c.loop-line.invariant.within;
      count = omega (arith, ap length c.in_ok-push.ensures.items, length-append c.loop-line.slots.items (c.slot_of-slot.result ∷ []), c.loop-line.invariant.count);
    }

pub returns-clause-slots : goal.returns-clause-slots
returns-clause-slots c =
    sym (slots_from-past (positions_of c.args.source.now.size) c.loop-line.slots.items c.args.source.now.lines c.loop-line.line-index (omega (arith, c.loop-line-test.false, ap length c.lines-line-items.ensures.lines)))
    ∙ c.loop-line.invariant.slots

pub returns-clause-place : goal.returns-clause-place
returns-clause-place c =
    let limit = 16000 + 100100 * c.loop-line.line-index in
    omega (arith, place_within limit c.loop-line.slots.items c.loop-line.invariant.within (omega arith), c.lines-line-items.ensures.limit, c.loop-line.invariant.count, c.loop-line.auto.line-index-end)
