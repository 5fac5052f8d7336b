use Rattle.std.proofs.Common.{◌≡◌, ◌≤◌, ◌+◌, ◌++◌, length}
use Rattle.pictures.specs.Forms.{parts, sections_from}
use Rattle.pictures.proofs.forms.push_parts.Given as goal

abbrev pub invariant-loop-form : goal.invariant-loop-form
invariant-loop-form l = record {
  sections : l.out.items ++ sections_from l.number l.count (parts l.rest)
      ≡ l.fn.out.items ++ sections_from 1 l.count (parts l.text);
  within : l.number + length l.rest ≤ length l.text + 1;
}

abbrev pub decreases-loop-form : goal.decreases-loop-form
decreases-loop-form l = length l.rest
