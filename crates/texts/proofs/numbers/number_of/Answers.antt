use Rattle.std.proofs.Common.{◌≡◌, ◌<◌, ◌∙◌, ℕ, List, [], ◌∷◌, true, false, decimal, Result, Ok, refl, sym, ap, arith}
use Rattle.std.specs.Str.{bytes_eq}
use Rattle.std.specs.Str.Parse.{ParsesUnsigned}
use Rattle.std.specs.Prelude.{nat_eq}
use Rattle.std.proofs.lemmas.Fmt.{parse-decimal}
use Rattle.texts.proofs.numbers.number_of.Goals as goal

-- a printed number is read as itself
read : {E : Type 0} (n : ℕ) (bs : List ℕ) (r : Result ℕ E) → n < 1000000000 → bs ≡ decimal n → ParsesUnsigned 32 10 bs r → r ≡ Ok n
read n bs r small e h = parse-decimal 32 n bs r (omega arith) (omega arith) e h

same : (n : ℕ) → nat_eq n n ≡ true
same n = grind arith

same_bytes : (bs : List ℕ) → bytes_eq bs bs ≡ true
same_bytes [] = refl
same_bytes (x ∷ xs) = rw (same x) (same_bytes xs)

pub returns-in_default-clause-none : goal.returns-in_default-clause-none
returns-in_default-clause-none c n pos small e = c.in_default.not-Ok n (read n c.args.text.now c.parse.result small e c.parse.ensures.value.0)

pub returns-then-number-eq0-clause-none : goal.returns-then-number-eq0-clause-none
returns-then-number-eq0-clause-none c n pos small e =
    let is : Ok c.in-Ok.number ≡ c.parse.result = sym c.in-Ok.is in
    let reads = read n c.args.text.now c.parse.result small e c.parse.ensures.value.0 in
    let number_is : c.in-Ok.number ≡ n = cc in omega arith

pub returns-else-eq-clause-none : goal.returns-else-eq-clause-none
returns-else-eq-clause-none c n pos small e =
    let reads = read n c.args.text.now c.parse.result small e c.parse.ensures.value.0 in
    let is = c.in-Ok.is in
    let number_is : c.in-Ok.number ≡ n = cc in
    let text : c.format-printed.result.now ≡ c.args.text.now = c.format-printed.ensures.text ∙ (ap decimal number_is ∙ sym e) in
    let differs : false ≡ bytes_eq c.args.text.now c.args.text.now = c.if-eq.ensures ∙ ap (λ (t : List ℕ). bytes_eq t c.args.text.now) text in
    let agrees = same_bytes c.args.text.now in cc
