use Rattle.std.proofs.Common.{◌≡◌, ◌++◌, flat_map, take}
use Rattle.job_checks.specs.Texts.{orphan_line}
use Rattle.job_checks.proofs.report_lines.push_orphans.Given as goal

abbrev pub invariant-loop-orphan : goal.invariant-loop-orphan
invariant-loop-orphan l = l.out.items ≡ l.fn.out.items ++ flat_map orphan_line (take l.orphan-index l.orphans)
