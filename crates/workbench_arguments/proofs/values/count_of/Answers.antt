use Rattle.std.proofs.Common.{◌∙◌, arith, sym}
use Rattle.std.proofs.lemmas.Fmt.{decimal_digit}
use Rattle.std.proofs.lemmas.Slice.Eq.{bytes_eq-Decides}
use Rattle.workbench_arguments.proofs.values.count_of.Goals as goal

pub returns-then-eq : goal.returns-then-eq
returns-then-eq c = (omega arith, (bytes_eq-Decides _ _).0 (sym c.eq.ensures ∙ c.if-eq.true) ∙ sym (decimal_digit 0 (omega arith)))
