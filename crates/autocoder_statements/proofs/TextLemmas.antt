-- for `Text::of`: a text with blanks after it
use Rattle.std.proofs.Common.{◌≡◌, ℕ, ◌-◌, ◌≤◌, ◌++◌, List, length, take, replicate, arith, sym, ap, length-append}
use Rattle.std.proofs.Math.Seq.{take-append_seam}
use Rattle.std.proofs.lemmas.List.{length-replicate}
use Rattle.autocoder_statements.specs.Characters.{with_blanks}

pub length-with_blanks : (size : ℕ) (word : List ℕ) → length word ≤ size → length (with_blanks size word) ≡ size
unfolding with_blanks
length-with_blanks size word h = simp (length-append, length-replicate) (omega arith)

pub take-with_blanks : (size : ℕ) (word : List ℕ) → take (length word) (with_blanks size word) ≡ word
unfolding with_blanks
take-with_blanks size word = take-append_seam word (replicate (size - length word) 0)

pub with_blanks_is : (size : ℕ) (word : List ℕ) → with_blanks size word ≡ take (length word) (with_blanks size word) ++ replicate (size - length word) 0
unfolding with_blanks
with_blanks_is size word = ap (λ w. w ++ replicate (size - length word) 0) (sym (take-append_seam word (replicate (size - length word) 0)))
