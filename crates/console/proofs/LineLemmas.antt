-- a line that is read part by part
use Rattle.std.proofs.Common.{◌≡◌, ◌≢◌, ◌∙◌, ℕ, ◌+◌, ◌<◌, ◌≤◌, Bool, true, false, All, List, [], ◌++◌, Some, None, append-nil, arith, ap, length, length-append, refl, subst, sym}
use Rattle.std.specs.Prelude.{IfNone, IfSome, MatchOption, Option}
use Rattle.std.specs.Io.KnownBytes.{Consumes, Keeps}
use Rattle.std.specs.Io.BufRead.{drop_through}
use Rattle.std.proofs.BufReadLemmas.{Consumes_through, take_through-nil}
use Rattle.std.proofs.KnownBytes.{Consumes-kept, Consumes-nil, Consumes-trans}
use Rattle.std.proofs.Transfers.{StopsAt-append, StopsAt-of_All}
use Rattle.std.proofs.lemmas.List.Elements.{All-append, All-nil}
use Rattle.console.specs.Talks.{HasEnded, HasGiven, IsPart, IsRead}

-- a reader had this left and has this: it gave these bytes, and there is no line feed among them
pub record Reading (left rest : Option (List ℕ)) (line : List ℕ) : Type 0 where
  pub none : All (λ byte. byte ≢ 10) line
  pub given : Consumes left rest line

pub reading_none : (left : Option (List ℕ)) → Reading left left []
reading_none left = record { none = All-nil (λ (byte : ℕ). byte ≢ 10); given = Consumes-nil left }

-- the reader was interrupted, and gave nothing
pub part_none : (left rest : Option (List ℕ)) (line : List ℕ) (room : ℕ) → Keeps left rest → IsPart left rest line line room false
part_none left rest line room kept =
    let none : All (λ (byte : ℕ). byte ≢ 10) [] = All-nil (λ (byte : ℕ). byte ≢ 10) in
    record {
      part = [];
      added = sym (append-nil line);
      within = omega arith;
      given = Consumes-kept left left rest [] (Consumes-nil left) kept;
      stops = StopsAt-of_All [] 10 none;
      ends = none;
      over = λ other. absurd (let clash : false ≡ true = other in cc);
    }

module _ (left mid rest : Option (List ℕ)) (line new : List ℕ) (room : ℕ) (so : Reading left mid line) where
  pub part_on : IsPart mid rest line new room false → Reading left rest new
  part_on p = record {
    none = subst (All (λ (byte : ℕ). byte ≢ 10)) (sym p.added) (All-append (λ (byte : ℕ). byte ≢ 10) line p.part so.none p.ends);
    given = subst (Consumes left rest) (sym p.added) (Consumes-trans left mid rest line p.part so.given p.given);
  }

  pub part_given : (last : Bool) → IsPart mid rest line new room last → HasGiven left rest
  part_given last p = (line ++ p.part, StopsAt-append line p.part 10 so.none p.stops, Consumes-trans left mid rest line p.part so.given p.given)

-- the last part of a line that is not empty
line_read : (left mid rest : Option (List ℕ)) (line new : List ℕ) (room : ℕ) → Reading left mid line → IsPart mid rest line new room true
    → length line + room ≤ 4096 → 0 < length new → IsRead left new rest
line_read None mid rest line new room so p short some = (omega (arith, short, p.within, ap length p.added, length-append line p.part), tt)
line_read (Some xs) mid rest line new room so p short some =
    let through = Consumes_through 10 (Some xs) mid rest line p.part so.given so.none p.given p.stops p.ends (p.over refl) in
    (omega (arith, short, p.within, ap length p.added, length-append line p.part), (some, p.added ∙ through.0, through.1))

-- the last part of one that is
line_over : (left mid rest : Option (List ℕ)) (line new : List ℕ) (room : ℕ) → Reading left mid line → IsPart mid rest line new room true
    → length new ≡ 0 → HasEnded left rest
line_over None mid rest line new room so p none = (tt, tt)
line_over (Some xs) mid rest line new room so p none =
    let through = Consumes_through 10 (Some xs) mid rest line p.part so.given so.none p.given p.stops p.ends (p.over refl) in
    let nothing = take_through-nil 10 xs (ap length (sym (p.added ∙ through.0)) ∙ none) in
    (nothing, subst (Keeps (Some xs)) (sym (through.1 ∙ ap (λ (l : List ℕ). Some (drop_through 10 l)) nothing)) (sym nothing))

module _ {V : Type 0} (items : V → List ℕ) (left mid rest : Option (List ℕ)) (line new : List ℕ) (room : ℕ) (so : Reading left mid line) (p : IsPart mid rest line new room true) where
  pub last_found : (found : Option V) → length line + room ≤ 4096 → MatchOption found (length new ≡ 0) (λ v. (0 < length new) × (items v ≡ new)) → IfSome found (λ v. IsRead left (items v) rest)
  last_found None short is = tt
  last_found (Some v) short is = subst (λ (l : List ℕ). IsRead left l rest) (sym is.1) (line_read left mid rest line new room so p short is.0)

  pub none_found : (found : Option V) → MatchOption found (length new ≡ 0) (λ v. (0 < length new) × (items v ≡ new)) → IfNone found (HasEnded left rest)
  none_found None is = line_over left mid rest line new room so p is
  none_found (Some v) is = tt
