-- The record of a job that can be archived can be read.
use Rattle.std.proofs.Common.{◌≡◌, ℕ, suc, ◌+◌, ◌<◌, ◌^◌, ◌==◌, Bool, true, false, not, All, List, [], ◌∷◌, length, refl, subst, arith}
use Rattle.std.specs.List.{AllByRecursion, list_all}
use Rattle.std.proofs.lemmas.Bool.{eqb-true}
use Rattle.std.proofs.lemmas.List.Sums.{sum_by-cons}
use Rattle.machine.specs.Ranges.{IsInRange}
use Rattle.machine.specs.Run.{State}
use Rattle.machine.specs.Standings.{standing_at, standing_of}
use Rattle.machine.specs.declared.standings.Standing.{Standing}
use Rattle.machine.specs.declared.standings.Standing.TheVariants.{Running, Halted, Checked}
use Rattle.office.specs.Jobs.{granted, picture, AreStretches, HasSwitches}
use Rattle.texts.specs.Names.{is_customer, is_letter_or_digit, is_name_length, is_number}
use Rattle.office.specs.Office.{Entry}
use Rattle.office.specs.declared.stretches.Stretch.{Stretch}
use Rattle.job_archives.proofs.RecordLaw.{standing_ends, IsAt, IsReadable}
use Rattle.job_archives.proofs.RecordLines.{IsShort}
use Rattle.job_archives.proofs.WordsRead.{first_of_both, has_none, second_of_both}

-- a letter or digit ends no line
no_feed : (byte : ℕ) → is_letter_or_digit byte ≡ true → not (byte == 10) ≡ true
no_feed byte is = go (byte == 10) refl
  where
    go : (b : Bool) → (byte == 10) ≡ b → not b ≡ true
    go true same =
        let ten : is_letter_or_digit 10 ≡ true = subst (λ n. is_letter_or_digit n ≡ true) (eqb-true byte 10 same) is in
        absurd (let clash : false ≡ true = ten in cc)
    go false other = refl

name_ends : (name : List ℕ) → list_all is_letter_or_digit name ≡ true → has_none 10 name ≡ true
name_ends [] all = refl
name_ends (x ∷ name) all =
    let here = no_feed x (first_of_both (is_letter_or_digit x) (list_all is_letter_or_digit name) all) in
    let rest = name_ends name (second_of_both (is_letter_or_digit x) (list_all is_letter_or_digit name) all) in
    rw (here, rest) refl

customer_ends : (name : List ℕ) → is_customer name ≡ true → has_none 10 name ≡ true
customer_ends name is = name_ends name (second_of_both (is_name_length (length name)) (list_all is_letter_or_digit name) is)

number_small : (n : ℕ) → is_number n ≡ true → n < 2 ^ 64
number_small n is = grind arith

-- stretches that grant at most so many instructions together, with switches that exist, are short
are_short : (stretches : List Stretch) → All HasSwitches stretches → granted stretches < 2 ^ 64 → AllByRecursion IsShort stretches
are_short [] switches most = tt
are_short (s ∷ stretches) switches most =
    let all : granted (s ∷ stretches) ≡ s.granted + granted stretches = sum_by-cons (λ (t : Stretch). t.granted) s stretches in (
      record { switches = switches 0 s (omega arith); granted = omega (arith, all, most) },
      are_short stretches (λ k d less. switches (suc k) d (omega (arith, less))) (omega (arith, all, most)),
    )

at_its : (standing : Standing) (i : ℕ) → IsAt (standing_at standing i) i
at_its Running i = tt
at_its Halted i = refl
at_its (Checked check) i = refl

pub readable : (e : Entry) → is_customer e.customer ≡ true → is_number e.number ≡ true → AreStretches e.job.stretches → IsInRange (picture e.job) → IsReadable e
readable e customer number stretches range =
    let m : State = picture e.job in
    record {
      customer = customer_ends e.customer customer;
      number = number_small e.number number;
      stretches = are_short e.job.stretches stretches.switches (omega (arith, stretches.most));
      standing = standing_ends (standing_of m) m.works.registers.i (omega (arith, range.registers.i)) (at_its m.standing m.works.registers.i);
      cards = omega (arith, range.units.punch);
      lines = omega (arith, range.units.printer.most);
    }
