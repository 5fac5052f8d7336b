use Rattle.std.proofs.Common.{◌≡◌, take, List, [], ◌++◌, ℕ, IfSome, Some, None, subst, option_map}
use Rattle.std.specs.Prelude.{Option}
use Rattle.std.specs.Io.Take.{take_inner, take_limit, take_remaining}
use Rattle.std.specs.declared.io.Take.{Take}
use Rattle.texts.proofs.reading.read_up_to.Goals as goal

-- what a limited reader gave is a front of what the reader within had
front : (o : Option (List ℕ)) (n : ℕ) (old new : List ℕ) → IfSome (option_map (take n) o) (λ xs. new ≡ old ++ xs) → IfSome o (λ input. new ≡ old ++ take n input)
front None n old new h = tt
front (Some input) n old new h = h

taken : {R : Type 0} (remaining : R → Option (List ℕ)) (t : Take R) (r : R) (n : ℕ) (old new : List ℕ) → take_limit t ≡ n → take_inner t ≡ r → old ≡ []
    → IfSome (take_remaining remaining t) (λ xs. new ≡ old ++ xs) → IfSome (remaining r) (λ input. new ≡ take n input)
taken remaining t r n old new limit inner none h =
    let a = front (remaining (take_inner t)) (take_limit t) old new h in
    let b = subst (λ m. IfSome (remaining (take_inner t)) (λ input. new ≡ old ++ take m input)) limit a in
    let d = subst (λ s. IfSome (remaining s) (λ input. new ≡ old ++ take n input)) inner b in
    subst (λ (l : List ℕ). IfSome (remaining r) (λ input. new ≡ l ++ take n input)) none d

pub returns : goal.returns
returns g c = taken g.R.Read.remaining c.take.result c.args.reader c.args.most c.new-bytes.result.items c.read_to_end.new.buf.items c.take.ensures.limit c.take.ensures.inner c.new-bytes.ensures.items c.in_ok-read_to_end.ensures.bytes
