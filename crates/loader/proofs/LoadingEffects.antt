-- what the instructions of loading cards do
use Rattle.std.proofs.Common.{◌≡◌, ℕ, ◌+◌, ◌-◌, ◌<◌, true, false, Some, Ok, refl, arith, length, replicate, slice_get, lt-ltb, le-ltb, le-leb}
use Rattle.cards.specs.declared.decks.Card.{Card}
use Rattle.core_store.specs.Storage.{field_length, cells_ending, put_cells, put_codes, with_mark, blank_cell}
use Rattle.core_store.specs.Operands.{lowered}
use Rattle.core_store.specs.declared.registers.Registers.{Registers}
use Rattle.moves.specs.Marks.{marks_put, storage_cleared}
use Rattle.moves.specs.Loaded.{field_loaded}
use Rattle.units.specs.Units.{operated, reader_works, punch_works, printer_works, card_read}
use Rattle.machine.specs.declared.named.Operation.TheVariants.{OnFields, ClearStorage, Operate, NoOperation}
use Rattle.machine.specs.declared.operations.FieldOperation.TheVariants.{Load, SetMark, ClearMark}
use Rattle.machine.specs.declared.operations.Course.TheVariants.{GoesOn}
use Rattle.machine.specs.Operations.{devices}
use Rattle.machine.specs.Effect.{Works, effect, worked}
use Rattle.loader.proofs.LoadingInstructions.{plain}

-- the registers behind an instruction
abbrev pub behind : Registers → ℕ → ℕ → ℕ → Registers
behind r next a b = record r { i = next; a = a; b = b }

module _ (w : Works) (count x y next : ℕ) (x_in : x < length w.storage) (y_in : y < length w.storage) where
  pub sets : effect (OnFields SetMark) (plain (OnFields SetMark) count x y) next w
      ≡ Ok (record w { storage = with_mark (with_mark w.storage x true) y true; registers = behind w.registers next (lowered x 1) (lowered y 1) }, GoesOn)
  unfolding effect worked marks_put
  sets = rw (lt-ltb x (length w.storage) x_in, lt-ltb y (length w.storage) y_in) refl

  pub clears : effect (OnFields ClearMark) (plain (OnFields ClearMark) count x y) next w
      ≡ Ok (record w { storage = with_mark (with_mark w.storage x false) y false; registers = behind w.registers next (lowered x 1) (lowered y 1) }, GoesOn)
  unfolding effect worked marks_put
  clears = rw (lt-ltb x (length w.storage) x_in, lt-ltb y (length w.storage) y_in) refl

  pub moves : field_length w.storage x ≡ Some x → x < y → effect (OnFields Load) (plain (OnFields Load) count x y) next w
      ≡ Ok (record w { storage = put_cells w.storage (y + 1 - x) (cells_ending w.storage x x); registers = behind w.registers next (lowered x x) (lowered y x) }, GoesOn)
  unfolding effect worked field_loaded
  moves long above =
      rw (lt-ltb x (length w.storage) x_in, lt-ltb y (length w.storage) y_in, long, le-leb x (y + 1) (omega arith), le-ltb y x (omega arith)) refl

  pub starts : y ≡ 80 → count ≡ 7 → effect ClearStorage (plain ClearStorage count x y) next w
      ≡ Ok (record w { storage = put_cells w.storage 0 (replicate 81 blank_cell); registers = behind w.registers x x next }, GoesOn)
  unfolding effect storage_cleared
  starts eighty seven = rw (seven, lt-ltb y (length w.storage) y_in, eighty) refl

pub reads_card : (w : Works) (next : ℕ) (card : Card) → slice_get w.units.hopper.deck w.units.hopper.taken ≡ Some card →
    effect (Operate (devices 1)) (plain (Operate (devices 1)) 4 40 40) next w
    ≡ Ok (
      record {
        storage = put_codes w.storage 1 card.0;
        registers = behind w.registers 40 40 next;
        units = record w.units { hopper = record w.units.hopper { taken = w.units.hopper.taken + 1 } };
      },
      GoesOn,
    )
unfolding effect operated reader_works punch_works printer_works card_read
reads_card w next card there = rw there refl

pub does_nothing : (w : Works) (next : ℕ) → effect NoOperation (plain NoOperation 7 w.registers.a w.registers.b) next w
    ≡ Ok (record w { registers = record w.registers { i = next } }, GoesOn)
unfolding effect
does_nothing w next = refl
