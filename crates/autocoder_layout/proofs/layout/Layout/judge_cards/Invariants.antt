use Rattle.std.proofs.Common.{◌≡◌, ◌+◌, ◌++◌, drop, take, length}
use Rattle.core_store.specs.Storage.{positions_of}
use Rattle.autocoder_layout.specs.Layout.{fills_of, layout_in}
use Rattle.autocoder_layout.specs.Tables.{IsTableOf}
use Rattle.autocoder_layout.specs.CardFaults.{faults_from, last_fault}
use Rattle.autocoder_layout.proofs.layout.Layout.judge_cards.Given as goal

abbrev pub invariant-loop-index : goal.invariant-loop-index
invariant-loop-index l = record {
  faults : l.faults.items ++ faults_from (l.index + 1) (drop l.index (layout_in l.self.source)) ≡ faults_from 1 (layout_in l.self.source);
  table : IsTableOf (positions_of l.self.source.size) l.table (fills_of (take l.index (layout_in l.self.source)));
  size : length l.table ≡ positions_of l.self.source.size;
  last : l.last ≡ last_fault (take l.index (layout_in l.self.source));
}
