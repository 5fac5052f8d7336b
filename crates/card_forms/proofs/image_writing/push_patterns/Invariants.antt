use Rattle.std.proofs.Common.{◌≡◌, ◌++◌, take}
use Rattle.std.specs.List.{flat_map}
use Rattle.card_forms.specs.ImageFiles.{column_of}
use Rattle.card_forms.proofs.image_writing.push_patterns.Given as goal

abbrev pub invariant-loop-pattern : goal.invariant-loop-pattern
invariant-loop-pattern l =
    l.file.items ≡ l.fn.file.items ++ flat_map (column_of l.form) (take l.pattern-index l.patterns)
