use Rattle.std.proofs.Common.{◌≡◌, ◌∙◌, length, ap, sym, subst, arith}
use Rattle.std.proofs.lemmas.List.{with_items_is}
use Rattle.core_store.specs.Storage.{positions_of}
use Rattle.autocoder_layout.specs.Source.{Source}
use Rattle.autocoder_layout.specs.CardFaults.{faults_to_end}
use Rattle.autocoder_layout.specs.Layout.{fills_of, layout_in}
use Rattle.autocoder_layout.specs.Tables.{IsTableOf}
use Rattle.autocoder_layout.proofs.PassLemmas.{faults_are, image_is}
use Rattle.autocoder_layout.proofs.layout.Layout.judge.Goals as goal

pub returns-clause-image : goal.returns-clause-image
returns-clause-image c =
    let source = c.args.self.now.source in
    let size = positions_of source.size in
    let table = c.deref.result.now in
    let kept : length c.judge_cards.new.table ≡ c.in_ok-table.table.len = omega (arith, c.judge_cards.auto.table, ap length c.deref_mut.ensures.value, c.in_ok-table.table.ok.0) in
    let e : table ≡ c.judge_cards.new.table = c.deref.ensures.value ∙ with_items_is c.in_ok-table.table c.judge_cards.new.table kept in
    let long : length table ≡ size = omega (arith, ap length e, c.judge_cards.auto.table, ap length c.deref_mut.ensures.value, c.in_ok-table.ensures.size, c.size.ensures.size) in
    let held : IsTableOf size table (fills_of (layout_in source)) = subst (λ t. IsTableOf size t (fills_of (layout_in source))) (sym e) c.in_ok-last.ensures.table in
    image_is size (layout_in source) table c.in_ok-image.image.items long held c.in_ok-image.ensures

pub returns-clause-faults : goal.returns-clause-faults
returns-clause-faults c =
    let source = c.args.self.now.source in
    let long : length c.slots.result.now ≡ length source.lines = ap length c.slots.ensures.slots ∙ c.slots.ensures.laid_out.one_each in
    let new_is =
    c.in_ok-push_no_end.ensures
    ∙ ap (faults_to_end c.is_ended.result c.judge_cards.new.faults.items c.in_ok-last.last) long
    ∙ ap (λ b. faults_to_end b c.judge_cards.new.faults.items c.in_ok-last.last (length source.lines)) (c.is_ended.ensures ∙ ap (λ (s : Source). s.is_ended) c.source.ensures) in
    faults_are (positions_of source.size) source.lines source.is_ended c.judge_cards.new.faults.items c.push_no_end.new.faults.items c.in_ok-last.last c.in_ok-last.ensures.faults c.in_ok-last.ensures.last new_is

pub overflow_cast-count : goal.overflow_cast-count
overflow_cast-count c = omega (arith, ap length c.slots.ensures.slots, c.slots.ensures.laid_out.few)
