use Rattle.std.proofs.Common.{ℕ, length}
use Rattle.std.proofs.lemmas.List.{drop-replicate}
use Rattle.autocoder_statements.specs.Characters.{with_blanks}
use Rattle.autocoder_statements.proofs.characters.with_blanks.Goals as goal

pub returns : goal.returns
unfolding with_blanks
returns g c = rw (c.copy_from_slice.ensures.after, c.blank-codes.ensures, drop-replicate {X = ℕ} (length c.args.word.now) g.row.SIZE 0)
