use Rattle.std.proofs.Common.{◌≡◌, ◌++◌, take}
use Rattle.pictures.specs.Heads.{titled}
use Rattle.pictures.proofs.heads.push_title.Given as goal

abbrev pub invariant-loop-byte : goal.invariant-loop-byte
invariant-loop-byte l = l.out.items ≡ l.fn.out.items ++ titled (take l.byte-index l.title)
