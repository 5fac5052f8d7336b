-- one operation of the units
use Rattle.std.proofs.Common.{ℕ, ◌≡◌, ◌<◌, ◌≤◌, Bool, true, false, List, [], ◌∷◌, ◌++◌, take, length, Result, Ok, Err, Option, Some, None, IsOk, is_ok, refl, sym, ap, subst, ◌∙◌, ◌⊎◌, inl, inr, if◌then◌else◌}
use Rattle.std.specs.Prelude.{slice_get}
use Rattle.std.proofs.Math.Seq.{take-append_seam, take-length}
use Rattle.std.proofs.lemmas.Option.{slice_get_past, slice_get_within, slice_get-get_or}
use Rattle.cards.specs.declared.decks.Card.{Card}
use Rattle.core_store.specs.Storage.{Storage}
use Rattle.core_store.specs.Checked.{require, find_or}
use Rattle.core_store.specs.declared.checks.Check.{Check}
use Rattle.core_store.specs.declared.checks.Check.TheVariants.{ReaderEmpty, PunchFull}
use Rattle.units.specs.declared.devices.Devices.{Devices}
use Rattle.units.specs.declared.fault.Fault.{Fault}
use Rattle.units.specs.declared.fault.Fault.TheVariants.{Stopped, NoMemory}
use Rattle.units.specs.declared.pockets.Pocket.TheVariants.{Normal}
use Rattle.units.specs.declared.punch.Punched.{Punched}
use Rattle.units.specs.declared.reader.Hopper.{Hopper}
use Rattle.units.specs.declared.units.Units.{Units}
use Rattle.units.specs.Printed.{Printed}
use Rattle.units.specs.Stacked.{Stacked}
use Rattle.units.specs.Units.{area_card, card_read, card_punched, reader_works, punch_works, printer_works, together, operated, reads, PunchFails, PrintFails, OperationFails}

abbrev IsNot : Bool → Type 0
IsNot true = ⊥
IsNot false = Unit {0}

contra : false ≡ true → ⊥
contra e = subst IsNot e tt

-- ---- the reader

left_if : (h : Hopper) (found : Option Card) (rest : Card → Result (Storage × Hopper) Check) → slice_get h.deck h.taken ≡ found →
    IsOk (find_or found ReaderEmpty rest) → h.taken < length h.deck
left_if h (Some card) rest e ok = slice_get_within h.deck h.taken card e
left_if h None rest e ok = absurd (contra ok)

pub card_left : (s : Storage) (h : Hopper) → IsOk (card_read s h) → h.taken < length h.deck
unfolding card_read
card_left s h ok = left_if h (slice_get h.deck h.taken) _ refl ok

pub card_there : (s : Storage) (h : Hopper) → h.taken < length h.deck → IsOk (card_read s h)
unfolding card_read
card_there s h lt = let none : Card = record { 0 = [] } in rw (slice_get-get_or h.deck h.taken none lt) refl

pub no_card : (s : Storage) (h : Hopper) → length h.deck ≤ h.taken → card_read s h ≡ Err ReaderEmpty
unfolding card_read
no_card s h le = rw (slice_get_past h.deck h.taken le) refl

pub reader_has : (devices : Devices) (s : Storage) (h : Hopper) → reads devices ≡ true → IsOk (reader_works devices s h) → h.taken < length h.deck
unfolding reader_works
reader_has devices s h e ok = card_left s h (rw e at ok)

-- ---- the three by what each comes to

all_ok : (u : Units) (reader : Result (Storage × Hopper) Check) (punch : Result Stacked Check) (printer : Result Printed Check) →
    IsOk reader → IsOk punch → IsOk printer → IsOk (together u reader punch printer)
all_ok u (Ok read) (Ok cards) (Ok printed) r p l = refl
all_ok u (Ok read) (Ok cards) (Err check) r p l = absurd (contra l)
all_ok u (Ok read) (Err check) printer r p l = absurd (contra p)
all_ok u (Err check) punch printer r p l = absurd (contra r)

second_check : (u : Units) (reader : Result (Storage × Hopper) Check) (printer : Result Printed Check) (check : Check) → IsOk reader →
    together u reader (Err check) printer ≡ Err check
second_check u (Ok read) printer check r = refl
second_check u (Err other) printer check r = absurd (contra r)

third_check : (u : Units) (reader : Result (Storage × Hopper) Check) (punch : Result Stacked Check) (check : Check) → IsOk reader → IsOk punch →
    together u reader punch (Err check) ≡ Err check
third_check u (Ok read) (Ok cards) check r p = refl
third_check u (Ok read) (Err other) check r p = absurd (contra p)
third_check u (Err other) punch check r p = absurd (contra r)

ok_reader : (u : Units) (reader : Result (Storage × Hopper) Check) (punch : Result Stacked Check) (printer : Result Printed Check) →
    IsOk (together u reader punch printer) → IsOk reader
ok_reader u (Ok read) punch printer ok = refl
ok_reader u (Err check) punch printer ok = absurd (contra ok)

no_memory_punch : (u : Units) (reader : Result (Storage × Hopper) Check) (punch : Result Stacked Check) (printer : Result Printed Check) (fault : Fault) →
    IsOk (together u reader punch printer) → PunchFails fault u.punch punch → OperationFails fault u (together u reader punch printer)
no_memory_punch u (Ok read) (Ok cards) (Ok printed) NoMemory ok longer = inl longer
no_memory_punch u (Ok read) (Ok cards) (Ok printed) (Stopped check) ok stops = absurd (contra (ap is_ok (sym stops)))
no_memory_punch u (Ok read) (Ok cards) (Err check) fault ok fails = absurd (contra ok)
no_memory_punch u (Ok read) (Err check) printer fault ok fails = absurd (contra ok)
no_memory_punch u (Err check) punch printer fault ok fails = absurd (contra ok)

no_memory_printer : (u : Units) (reader : Result (Storage × Hopper) Check) (punch : Result Stacked Check) (printer : Result Printed Check) (fault : Fault) →
    IsOk (together u reader punch printer) → PrintFails fault u.printer printer → OperationFails fault u (together u reader punch printer)
no_memory_printer u (Ok read) (Ok cards) (Ok printed) NoMemory ok longer = inr longer
no_memory_printer u (Ok read) (Ok cards) (Ok printed) (Stopped check) ok stops = absurd (contra (ap is_ok (sym stops)))
no_memory_printer u (Ok read) (Ok cards) (Err check) fault ok fails = absurd (contra ok)
no_memory_printer u (Ok read) (Err check) printer fault ok fails = absurd (contra ok)
no_memory_printer u (Err check) punch printer fault ok fails = absurd (contra ok)

-- ---- one operation

module _ (devices : Devices) (s : Storage) (u : Units) where
  abbrev the_reader : Result (Storage × Hopper) Check
  the_reader = reader_works devices s u.hopper

  abbrev the_punch : Result Stacked Check
  the_punch = punch_works devices u.before.cards s u.punch

  abbrev the_printer : Result Printed Check
  the_printer = printer_works devices u.before.lines s u.printer

  pub operation_ready : IsOk the_reader → IsOk the_punch → IsOk the_printer → IsOk (operated devices s u)
  unfolding operated
  operation_ready r p l = all_ok u the_reader the_punch the_printer r p l

  pub reader_check : (check : Check) → the_reader ≡ Err check → operated devices s u ≡ Err check
  unfolding operated
  reader_check check e = ap (λ r. together u r the_punch the_printer) e

  pub punch_check : (check : Check) → IsOk the_reader → the_punch ≡ Err check → operated devices s u ≡ Err check
  unfolding operated
  punch_check check r e = ap (λ p. together u the_reader p the_printer) e ∙ second_check u the_reader the_printer check r

  pub printer_check : (check : Check) → IsOk the_reader → IsOk the_punch → the_printer ≡ Err check → operated devices s u ≡ Err check
  unfolding operated
  printer_check check r p e = ap (together u the_reader the_punch) e ∙ third_check u the_reader the_punch check r p

  pub reader_goes : IsOk (operated devices s u) → IsOk the_reader
  unfolding operated
  reader_goes ok = ok_reader u the_reader the_punch the_printer ok

  punch_fails : (fault : Fault) → IsOk (operated devices s u) → PunchFails fault u.punch the_punch → OperationFails fault u (operated devices s u)
  unfolding operated
  punch_fails fault ok fails = no_memory_punch u the_reader the_punch the_printer fault ok fails

  printer_fails : (fault : Fault) → IsOk (operated devices s u) → PrintFails fault u.printer the_printer → OperationFails fault u (operated devices s u)
  unfolding operated
  printer_fails fault ok fails = no_memory_printer u the_reader the_punch the_printer fault ok fails

  pub operation_fails : (fault : Fault) → IsOk (operated devices s u) → PunchFails fault u.punch the_punch ⊎ PrintFails fault u.printer the_printer → OperationFails fault u (operated devices s u)
  operation_fails fault ok fails = elim fails [
    | inl punch ↦ punch_fails fault ok punch
    | inr printer ↦ printer_fails fault ok printer
  ]

  pub operation_is : (t : Storage) (h : Hopper) (stacked : Stacked) (p : Printed) → the_reader ≡ Ok (t, h) → the_punch ≡ Ok stacked → the_printer ≡ Ok p →
      operated devices s u ≡ Ok (t, record u { hopper = h; punch = stacked; printer = p })
  unfolding operated
  operation_is t h stacked p read punched printed =
      ap (λ r. together u r the_punch the_printer) read ∙ ap (λ c. together u (Ok (t, h)) c the_printer) punched ∙ ap (together u (Ok (t, h)) (Ok stacked)) printed

-- ---- a card taken back

same_value : {T : Type 0} {a b : T} → ◌≡◌ {A = Result T Check} (Ok a) (Ok b) → a ≡ b
same_value e = cc

-- a punch with the cards and the choice that it had
abbrev back : Stacked → Stacked → Stacked
back p after_it = record after_it { cards = take (length p.cards) after_it.cards; chosen = p.chosen }

back_is : (p : Stacked) (cards : List Punched) → take (length p.cards) cards ≡ p.cards → record p { cards = take (length p.cards) cards } ≡ p
back_is p cards e = ap (λ xs. record p { cards = xs }) e

begins : (p after_it : Stacked) (more : List Punched) → record p { cards = p.cards ++ more; chosen = Normal } ≡ after_it → back p after_it ≡ p
begins p after_it more e = ap (back p) (sym e) ∙ back_is p (p.cards ++ more) (take-append_seam p.cards more)

card_if : (test : Bool) (p after_it : Stacked) (more : List Punched) → require test PunchFull (Ok (record p { cards = p.cards ++ more; chosen = Normal })) ≡ Ok after_it → back p after_it ≡ p
card_if true p after_it more e = begins p after_it more (same_value e)
card_if false p after_it more e = absurd (contra (ap is_ok e))

work_if : (test : Bool) (p after_it : Stacked) (worked : Result Stacked Check) → (worked ≡ Ok after_it → back p after_it ≡ p) →
    (if test then worked else Ok p) ≡ Ok after_it → back p after_it ≡ p
work_if true p after_it worked h e = h e
work_if false p after_it worked h e = ap (back p) (sym (same_value e)) ∙ back_is p p.cards (take-length p.cards)

pub taken_back : (devices : Devices) (before : ℕ) (s : Storage) (p after_it : Stacked) → punch_works devices before s p ≡ Ok after_it → back p after_it ≡ p
unfolding punch_works card_punched
taken_back devices before s p after_it e =
    work_if _ p after_it _ (card_if _ p after_it ((record { card = area_card s; pocket = p.chosen }) ∷ [])) e
