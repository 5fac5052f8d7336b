use Rattle.std.proofs.Common.{◌≡◌, drop}
use Rattle.card_texts.specs.Columns.{behind_tab}
use Rattle.card_texts.proofs.rules.Rules.behind_tab.Given as goal

abbrev pub invariant-loop-stop : goal.invariant-loop-stop
invariant-loop-stop l =
    behind_tab l.self.tabs.items l.filled ≡ behind_tab (drop l.stop-index l.stop-items) l.filled
