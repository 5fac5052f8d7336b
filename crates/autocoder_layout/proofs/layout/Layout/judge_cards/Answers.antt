use Rattle.std.proofs.Common.{◌≡◌, ◌≤◌, ◌+◌, ◌<◌, ◌∙◌, ◌++◌, length, sym, ap, refl, drop, get_or, None, arith}
use Rattle.std.proofs.lemmas.List.{take_all, append-nil}
use Rattle.core_store.specs.Storage.{positions_of}
use Rattle.autocoder_layout.specs.Source.{silent}
use Rattle.autocoder_layout.specs.Slots.{origin}
use Rattle.autocoder_layout.specs.Judging.{fault_by}
use Rattle.autocoder_layout.specs.Literals.{literals_of}
use Rattle.autocoder_layout.specs.Layout.{Layout, fills_of, layout_in}
use Rattle.autocoder_layout.specs.Image.{cell_at}
use Rattle.autocoder_layout.specs.Tables.{is_taken, filled_table}
use Rattle.autocoder_layout.specs.CardFaults.{faults_from, last_fault}
use Rattle.autocoder_layout.proofs.LayoutLemmas.{length-layout_of}
use Rattle.autocoder_layout.proofs.TableLemmas.{length-filled_table}
use Rattle.autocoder_layout.proofs.PassLemmas.{table_step, faults_step, faults_from-past, last_step}
use Rattle.autocoder_layout.proofs.layout.Layout.judge_cards.Goals as goal

pub loop-index-init : goal.loop-index-init
unfolding last_fault
loop-index-init c = record {
  faults = ap (λ t. t ++ faults_from 1 (layout_in c.args.self.now.source)) c.requires.faults;
  table = c.requires.table;
  size = c.requires.size;
  last = refl;
}

pub loop-index-preserved : goal.loop-index-preserved
loop-index-preserved c =
    let source = c.args.self.now.source in
    let size = positions_of source.size in
    let lines = source.lines in
    let slots = c.args.self.now.slots in
    let literals = c.args.self.now.literals in
    let laid = c.slots-index-end.ensures.laid_out in
    let table = c.loop-index.table in
    let i = c.loop-index.index in
    let line = get_or lines i silent in
    let slot = get_or slots i origin in
    let later = drop (i + 1) slots in
    let cells = c.in_ok-cells.cells.items in
    let fault = c.fault-fault.result in
    let k : i < length lines = omega (arith, c.loop-index-test.true, ap length c.slots-index-end.ensures.slots, c.slots-index-end.ensures.laid_out.one_each) in
    let slots_are = ap (λ (l : Layout). l.slots) laid.same in
    let literals_are = ap (λ (l : Layout). l.literals) laid.same ∙ ap (λ s. literals_of lines s) (sym slots_are) in
    let fault_is =
    c.fault-fault.ensures
    ∙ ap (λ b. fault_by size slots b slot c.deref-in-loop-index.result.now line) (c.is_taken.ensures ∙ ap (is_taken table) c.deref.ensures.value)
    ∙ ap (λ x. fault_by size slots (is_taken table cells) slot x line) c.deref-in-loop-index.ensures.value in
    let filled : c.fill.new.table ≡ filled_table table cells = c.fill.ensures ∙ ap (filled_table table) c.deref-in-loop-index-2.ensures.value in
    record {
      faults =
          faults_step size lines slots slots_are literals literals_are table i line slot later cells fault k refl refl refl c.in_ok-cells.ensures fault_is c.loop-index.invariant.table
          c.loop-index.faults.items c.push_fault.new.faults.items c.in_ok-push_fault.ensures
          ∙ c.loop-index.invariant.faults;
      table = λ p below.
          ap (λ t. get_or t p None) filled
          ∙ table_step size lines slots slots_are literals literals_are table i line slot later cells fault k refl refl refl c.in_ok-cells.ensures fault_is c.loop-index.invariant.table
          c.loop-index.invariant.size p below;
      size = ap length filled ∙ length-filled_table table cells ∙ c.loop-index.invariant.size;
      last = last_step size lines slots slots_are literals literals_are table i line slot later cells fault k refl refl refl c.in_ok-cells.ensures fault_is c.loop-index.invariant.table;
    }

pub returns-clause-faults : goal.returns-clause-faults
returns-clause-faults c =
    let source = c.args.self.now.source in
    let whole = layout_in source in
    let past : length whole ≤ c.loop-index.index = omega (arith, length-layout_of (positions_of source.size) source.lines, ap length c.slots-index-end.ensures.slots, c.slots-index-end.ensures.laid_out.one_each, c.loop-index-test.false) in
    sym (append-nil c.loop-index.faults.items)
    ∙ ap (λ f. c.loop-index.faults.items ++ f) (sym (faults_from-past whole c.loop-index.index past))
    ∙ c.loop-index.invariant.faults

pub returns-clause-table : goal.returns-clause-table
returns-clause-table c = λ p below.
    let source = c.args.self.now.source in
    let whole = layout_in source in
    let past : length whole ≤ c.loop-index.index = omega (arith, length-layout_of (positions_of source.size) source.lines, ap length c.slots-index-end.ensures.slots, c.slots-index-end.ensures.laid_out.one_each, c.loop-index-test.false) in
    c.loop-index.invariant.table p below ∙ ap (λ l. cell_at (fills_of l) p) (take_all c.loop-index.index whole past)

pub returns-clause-last : goal.returns-clause-last
returns-clause-last c =
    let source = c.args.self.now.source in
    let whole = layout_in source in
    let past : length whole ≤ c.loop-index.index = omega (arith, length-layout_of (positions_of source.size) source.lines, ap length c.slots-index-end.ensures.slots, c.slots-index-end.ensures.laid_out.one_each, c.loop-index-test.false) in
    c.loop-index.invariant.last ∙ ap last_fault (take_all c.loop-index.index whole past)

pub overflow_add-index : goal.overflow_add-index
overflow_add-index c = omega (arith, c.loop-index-test.true, ap length c.slots-index-end.ensures.slots, c.slots-index-end.ensures.laid_out.few)

pub overflow_cast-index : goal.overflow_cast-index
overflow_cast-index c = omega (arith, c.loop-index-test.true, ap length c.slots-index-end.ensures.slots, c.slots-index-end.ensures.laid_out.few)
