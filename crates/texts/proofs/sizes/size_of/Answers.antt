use Rattle.std.proofs.Common.{◌≡◌, ◌∙◌, ◌<◌, ◌^◌, ℕ, List, IfNone, None, Some, decimal, sym, arith}
use Rattle.std.specs.Prelude.{Option}
use Rattle.std.proofs.lemmas.Fmt.{decimal_injective}
use Rattle.core_store.specs.Storage.{positions_of}
use Rattle.core_store.specs.declared.sizes.Size.{Size}
use Rattle.core_store.proofs.SizeLemmas.{within}
use Rattle.texts.proofs.sizes.size_of.Goals as goal

-- a number that is spelt as a size's count of positions is that count
same_number : (text : List ℕ) (number : ℕ) (size : Size) → number < 10 ^ 9 → text ≡ decimal number → text ≡ decimal (positions_of size) → number ≡ positions_of size
same_number text number size small e f =
    let limit = (within size).1 in decimal_injective number (positions_of size) (omega arith) (omega arith) (sym e ∙ f)

weaker : {X P Q : Type 0} (o : Option X) → (P → Q) → IfNone o P → IfNone o Q
weaker None f p = f p
weaker (Some x) f p = p

pub returns-clause-none : goal.returns-clause-none
returns-clause-none c =
    let count = c.in-Some.ensures.some in
    weaker c.of_positions.result
    (λ missing size e. missing size (sym (same_number c.args.text.now c.in-Some.number size count.1 count.2 e)))
    c.of_positions.ensures.missing
