use Rattle.std.proofs.Common.{◌≡◌, ◌<◌, ◌^◌, None, take, unwrap_or}
use Rattle.std.specs.List.{fold}
use Rattle.card_tools.specs.Checking.{number_on}
use Rattle.card_tools.proofs.checking.number_of.Given as goal

abbrev pub invariant-loop-code : goal.invariant-loop-code
invariant-loop-code l = record {
  number : l.number ≡ fold number_on None (take l.code-index l.columns);
  within : unwrap_or l.number 0 < 10 ^ l.code-index;
}
