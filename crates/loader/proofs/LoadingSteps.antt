-- a machine while loading cards are run, and its steps
use Rattle.std.proofs.Common.{◌≡◌, ℕ, ◌+◌, ◌-◌, ◌<◌, ◌≤◌, ◌%◌, true, false, List, [], ◌++◌, Some, None, Ok, refl, sym, ◌∙◌, ap, subst, arith, length, take, drop, replicate, slice_get, codes, mod-eq_of_lt}
use Rattle.cards.specs.declared.decks.Card.{Card}
use Rattle.core_store.specs.Storage.{Storage, least_mark, field_length, cells_ending, put_cells, with_mark, blank_cell, codes_from}
use Rattle.core_store.specs.declared.registers.Compared.TheVariants.{Equal}
use Rattle.addresses.specs.Addresses.{encoded}
use Rattle.units.specs.declared.pockets.Pocket.TheVariants.{Normal}
use Rattle.units.specs.declared.profiles.Profile.{Profile}
use Rattle.units.specs.declared.switches.Switches.{Switches}
use Rattle.units.specs.Switches.{seven}
use Rattle.units.specs.Units.{nothing_made}
use Rattle.units.specs.declared.units.Units.{Units}
use Rattle.machine.specs.declared.named.Decoded.{Decoded}
use Rattle.machine.specs.declared.named.Operation.TheVariants.{OnFields, ClearStorage, Operate, NoOperation}
use Rattle.machine.specs.declared.operations.FieldOperation.TheVariants.{Load, SetMark, ClearMark}
use Rattle.machine.specs.declared.operations.Course.TheVariants.{GoesOn}
use Rattle.machine.specs.declared.standings.Standing.TheVariants.{Running}
use Rattle.machine.specs.Operations.{devices}
use Rattle.machine.specs.Word.{word_length, decoded_of}
use Rattle.machine.specs.Effect.{Works, attempt, effect, next_of}
use Rattle.machine.specs.Run.{State, step}
use Rattle.machine.proofs.Steps.{attempt_is}
use Rattle.loader.specs.Cards.{text, instruction, unused, reading}
use Rattle.loader.proofs.LoadingFronts.{Holds, is_stop, least_stop, least_is_stop, codes_are, holds_card}
use Rattle.loader.proofs.LoadingInstructions.{plain, word_is, set_is_read, clear_is_read, load_is_read, start_is_read, set_one_is_read, card_is_read, unused_is_read, reading_is}
use Rattle.loader.proofs.LoadingEffects.{sets, clears, moves, starts, reads_card, does_nothing}

-- units that have read so many cards and made nothing
abbrev pub units_with : List Card → ℕ → Switches → Profile → Units
units_with deck taken switches profile = record {
  hopper = record { deck = deck; taken = taken };
  before = nothing_made;
  punch = record { cards = []; chosen = Normal; profile = profile };
  printer = record { lines = []; carriage = record { form = 1; line = 1; waiting = None; channel_12 = false } };
  switches = seven switches;
}

-- a running machine at an instruction, its storage as it is known
pub record At (deck : List Card) (switches : Switches) (profile : Profile) (size : ℕ) (m : State) (i taken : ℕ) (stops card : List ℕ) (rest : Storage) : Type 0 where
  pub running : m.standing ≡ Running
  pub at : m.works.registers.i ≡ i
  pub equal : m.works.registers.compare ≡ Equal
  pub clear : m.works.registers.overflow ≡ false
  pub units : m.works.units ≡ units_with deck taken switches profile
  pub storage : Holds m.works.storage size stops card rest

pub went_on : (m : State) (w : Works) → m.standing ≡ Running → attempt m.works ≡ Ok (w, GoesOn) → step m ≡ record { works = w; standing = Running }
unfolding step
went_on m w running done = rw (running, done) refl

-- an instruction ends at the next stop
pub ends_at : (s : Storage) (size : ℕ) (stops card : List ℕ) (rest : Storage) → Holds s size stops card rest → (i count : ℕ) → 1 ≤ i → i ≤ 72 → count ≤ 7 →
    is_stop stops i ≡ true → least_stop stops (i + 1) 8 ≡ Some (i + count) → Some count ≡ word_length s i
ends_at s size stops card rest holds i count low high short stopped next =
    let least : least_mark s (i + 1) 8 ≡ Some (i + count) = least_is_stop s size stops card rest holds (i + 1) 8 (omega arith) (omega arith) ∙ next in
    word_is s i count (holds.mark_is i low (omega arith) ∙ stopped) least short (omega (arith, holds.size_is, holds.large))

-- an instruction
module _ (deck : List Card) (switches : Switches) (profile : Profile) (size : ℕ) (small : size ≤ 16000) (m : State) (i taken : ℕ) (stops card : List ℕ) (rest : Storage)
    (here : At deck switches profile size m i taken stops card rest) (low : 1 ≤ i) (high : i ≤ 72)
    (count : ℕ) (short : count ≤ 7) (ends : Some count ≡ word_length m.works.storage i) where
  -- what stands there is attempted
  pub attempted_as : (d : Decoded) (characters : List ℕ) → take count (drop (i - 1) card) ≡ characters → Ok d ≡ decoded_of m.works.storage count m.works.registers characters →
      attempt m.works ≡ effect d.operation d (i + count) m.works
  attempted_as d characters says read =
      let s : Storage = m.works.storage in
      let holds : Holds s size stops card rest = here.storage in
      let inside : i + count ≤ length s = omega (arith, holds.size_is, holds.large) in
      let written : codes_from s i count ≡ characters = codes_are s size stops card rest holds i count low (omega arith) ∙ says in
      let small_end : i + count < 16000 = omega arith in
      let follows : (i + count) % 16000 ≡ i + count = mod-eq_of_lt small_end in
      attempt_is m.works count d
      (subst (λ n. n < length s) (sym here.at) (omega (arith, holds.size_is, holds.large)))
      (subst (λ n. Some count ≡ word_length s n) (sym here.at) ends)
      (subst (λ n. n + count ≤ length s) (sym here.at) inside)
      (read ∙ ap (decoded_of s count m.works.registers) (sym (ap (λ n. codes_from s n count) here.at ∙ written)))
      ∙ ap (λ n. effect d.operation d (next_of n count) m.works) here.at
      ∙ ap (λ n. effect d.operation d n m.works) follows

  -- where an attempt leads that goes on
  pub arrives : (w : Works) (to read : ℕ) (stops' card' : List ℕ) (rest' : Storage) → attempt m.works ≡ Ok (w, GoesOn) → w.registers.i ≡ to →
      w.registers.compare ≡ Equal → w.registers.overflow ≡ false → w.units ≡ units_with deck read switches profile → Holds w.storage size stops' card' rest' →
      At deck switches profile size (step m) to read stops' card' rest'
  arrives w to read stops' card' rest' done at equal clear units storage =
      subst (λ n. At deck switches profile size n to read stops' card' rest') (sym (went_on m w here.running done))
      (record { running = refl; at = at; equal = equal; clear = clear; units = units; storage = storage })

  module _ (x y : ℕ) (x_in : x < size) (y_in : y < size) (seven : count ≡ 7) where
    x_inside : x < length m.works.storage
    x_inside = omega (arith, here.storage.size_is)

    y_inside : y < length m.works.storage
    y_inside = omega (arith, here.storage.size_is)

    pub by_set : take count (drop (i - 1) card) ≡ instruction (codes ",") x y → (stops' : List ℕ) (rest' : Storage) →
        Holds (with_mark (with_mark m.works.storage x true) y true) size stops' card rest' → At deck switches profile size (step m) (i + count) taken stops' card rest'
    by_set says stops' rest' after =
        arrives _ (i + count) taken stops' card rest'
        (attempted_as (plain (OnFields SetMark) count x y) (instruction (codes ",") x y) says
        (rw seven (set_is_read m.works.storage m.works.registers x y x_inside y_inside (omega arith) (omega arith)))
        ∙ sets m.works count x y (i + count) x_inside y_inside)
        refl here.equal here.clear here.units after

    pub by_clear : take count (drop (i - 1) card) ≡ instruction (codes ")") x y → (stops' : List ℕ) (rest' : Storage) →
        Holds (with_mark (with_mark m.works.storage x false) y false) size stops' card rest' → At deck switches profile size (step m) (i + count) taken stops' card rest'
    by_clear says stops' rest' after =
        arrives _ (i + count) taken stops' card rest'
        (attempted_as (plain (OnFields ClearMark) count x y) (instruction (codes ")") x y) says
        (rw seven (clear_is_read m.works.storage m.works.registers x y x_inside y_inside (omega arith) (omega arith)))
        ∙ clears m.works count x y (i + count) x_inside y_inside)
        refl here.equal here.clear here.units after

    pub by_load : take count (drop (i - 1) card) ≡ instruction (codes "L") x y → field_length m.works.storage x ≡ Some x → x < y → (stops' : List ℕ) (rest' : Storage) →
        Holds (put_cells m.works.storage (y + 1 - x) (cells_ending m.works.storage x x)) size stops' card rest' → At deck switches profile size (step m) (i + count) taken stops' card rest'
    by_load says long above stops' rest' after =
        arrives _ (i + count) taken stops' card rest'
        (attempted_as (plain (OnFields Load) count x y) (instruction (codes "L") x y) says
        (rw seven (load_is_read m.works.storage m.works.registers x y x_inside y_inside (omega arith) (omega arith)))
        ∙ moves m.works count x y (i + count) x_inside y_inside long above)
        refl here.equal here.clear here.units after

    -- the last instruction of all
    pub by_start : take count (drop (i - 1) card) ≡ instruction (codes "/") x y → y ≡ 80 →
        step m ≡ record {
          works = record {
            storage = put_cells m.works.storage 0 (replicate 81 blank_cell);
            registers = record { i = x; a = x; b = i + count; compare = Equal; overflow = false };
            units = units_with deck taken switches profile;
          };
          standing = Running;
        }
    by_start says eighty =
        let done = attempted_as (plain ClearStorage count x y) (instruction (codes "/") x y) says
        (rw seven (start_is_read m.works.storage m.works.registers x y x_inside y_inside (omega arith) (omega arith)))
        ∙ starts m.works count x y (i + count) x_inside y_inside eighty seven in
        went_on m _ here.running done ∙ rw (here.equal, here.clear, here.units) refl

  pub by_set_one : (x : ℕ) → x < size → count ≡ 4 → take count (drop (i - 1) card) ≡ text (codes ",") ++ encoded x → (stops' : List ℕ) (rest' : Storage) →
      Holds (with_mark (with_mark m.works.storage x true) x true) size stops' card rest' → At deck switches profile size (step m) (i + count) taken stops' card rest'
  by_set_one x x_in four says stops' rest' after =
      let inside : x < length m.works.storage = omega (arith, here.storage.size_is) in
      arrives _ (i + count) taken stops' card rest'
      (attempted_as (plain (OnFields SetMark) count x x) (text (codes ",") ++ encoded x) says
      (rw four (set_one_is_read m.works.storage m.works.registers x inside (omega arith)))
      ∙ sets m.works count x x (i + count) inside inside)
      refl here.equal here.clear here.units after

  pub by_nothing : count ≡ 7 → take count (drop (i - 1) card) ≡ unused → At deck switches profile size (step m) (i + count) taken stops card rest
  by_nothing seven says =
      arrives _ (i + count) taken stops card rest
      (attempted_as (plain NoOperation 7 m.works.registers.a m.works.registers.b) unused says
      (rw seven (unused_is_read m.works.storage m.works.registers))
      ∙ does_nothing m.works (i + count))
      refl here.equal here.clear here.units here.storage

  pub by_reading : count ≡ 4 → take count (drop (i - 1) card) ≡ reading → (next_card : Card) → slice_get deck taken ≡ Some next_card → length next_card.0 ≡ 80 →
      At deck switches profile size (step m) 40 (taken + 1) stops next_card.0 rest
  by_reading four says next_card there long =
      let inside : 40 < length m.works.storage = omega (arith, here.storage.size_is, here.storage.large) in
      let found : slice_get m.works.units.hopper.deck m.works.units.hopper.taken ≡ Some next_card = rw here.units there in
      arrives _ 40 (taken + 1) stops next_card.0 rest
      (attempted_as (plain (Operate (devices 1)) 4 40 40) reading says
      (rw (four, reading_is) (card_is_read m.works.storage m.works.registers 40 inside (omega arith)))
      ∙ reads_card m.works (i + count) next_card found)
      refl here.equal here.clear (ap (λ (u : Units). record u { hopper = record u.hopper { taken = u.hopper.taken + 1 } }) here.units)
      (holds_card m.works.storage size stops card rest here.storage next_card.0 long)
