-- what a cause says is so
use Rattle.std.proofs.Common.{◌≡◌, ◌≢◌, inl, inr, ℕ, ◌+◌, ◌-◌, ◌<◌, ◌≤◌, ◌==◌, ◌&&◌, not, max, min, Bool, true, false, List, Option, Some, None, Result, Ok, refl, sym, subst, ap, ◌∙◌, arith, length, ltb, leb, is_some, get_or, unwrap_or, if◌then◌else◌}
use Rattle.std.specs.Option.{option_map}
use Rattle.std.specs.Prelude.{codes}
use Rattle.std.proofs.lemmas.Bool.{ltb-true, leb-true, eq-eqb}
use Rattle.std.proofs.Math.Decide.{dec_lt}
use Rattle.bcd.specs.Table.{glyph_of, digit_of}
use Rattle.core_store.specs.Storage.{Storage, code_at, is_marked, codes_ending, codes_from, field_length, least_mark, LeastMark}
use Rattle.core_store.specs.Operands.{cut_length, is_overlapping}
use Rattle.core_store.specs.Checked.{and_then}
use Rattle.core_store.specs.declared.checks.Check.{Check}
use Rattle.core_store.proofs.Marks.{least_is_least, past_end}
use Rattle.addresses.specs.Addresses.{Tagged, base, tagged}
use Rattle.addresses.specs.Effective.{units_position, base_ending}
use Rattle.addresses.specs.declared.tagged.IndexLocation.{IndexLocation}
use Rattle.addresses.specs.declared.tagged.IndexLocation.TheVariants.{First, Second, Third}
use Rattle.arith.specs.declared.operands.Counts.{Counts}
use Rattle.moves.specs.Moved.{move_length}
use Rattle.core_store.specs.Operands.{least_of}
use Rattle.moves.specs.Edited.{is_sharing, places}
use Rattle.units.specs.declared.carriage.Carriage.{Carriage}
use Rattle.units.specs.declared.carriage.CarriageOrder.{CarriageOrder}
use Rattle.units.specs.declared.carriage.CarriageOrder.TheVariants.{Now, AfterLine}
use Rattle.units.specs.declared.carriage.Motion.{Motion}
use Rattle.units.specs.declared.carriage.Motion.TheVariants.{Space, DoubleSpace, TripleSpace, SkipToChannel1}
use Rattle.units.specs.declared.devices.Devices.{Devices}
use Rattle.units.specs.declared.profiles.Profile.{Profile}
use Rattle.units.specs.declared.profiles.Profile.TheVariants as profile
use Rattle.units.specs.Carriages.{last_form, lines_of_form, on_next_form, sensed, spaced, moved_by, after_line, ordered}
use Rattle.units.specs.Stacked.{is_selecting}
use Rattle.units.specs.Units.{most_lines, most_cards, reads, prints, punches}
use Rattle.machine.specs.declared.named.Decoded.{Decoded}
use Rattle.machine.specs.declared.named.Modifier.{Modifier}
use Rattle.machine.specs.declared.named.Modifier.TheVariants.{Plain, OnCondition, OnCharacter, OnTest, ByOrder, ToPocket}
use Rattle.machine.specs.declared.named.Operation.{Operation}
use Rattle.machine.specs.declared.named.Operation.TheVariants.{OnFields, ClearStorage, Branch, BranchOnMarkOrZone, Operate, MoveCarriage, ChoosePocket, StoreA, StoreB, Halt, NoOperation}
use Rattle.machine.specs.declared.operations.FieldOperation.{FieldOperation}
use Rattle.machine.specs.declared.operations.FieldOperation.TheVariants.{Add, Subtract, ZeroAdd, ZeroSubtract, Compare, ModifyAddress, Move, Load, MoveDigit, MoveZone, Suppress, Edit, SetMark, ClearMark}
use Rattle.machine.specs.Effect.{Works}
use Rattle.machine.specs.Glyphs.{is_glyph}
use Rattle.machine.specs.Instructions.{is_form, is_last, addresses_by, operation_by, modifier_by}
use Rattle.machine.proofs.DecodeLemmas.{decoded_is}
use Rattle.machine.specs.Operations.{modifier_at}
use Rattle.machine.specs.Word.{word, word_length, ending_in}
use Rattle.check_causes.specs.Reading.{word_told, with_index_told, position_told, operand_told, operand_told_at, operands_told, decoded_told}
use Rattle.check_causes.proofs.AgreeLemmas.{checked}
use Rattle.check_causes.proofs.TableLemmas.{no_form}
use Rattle.check_causes.proofs.CheckLaw.{index_same, operands_same, form_taken}
use Rattle.check_causes.specs.declared.causes.Cause.{Cause}
use Rattle.check_causes.specs.declared.causes.Cause.TheVariants.{RegisterPast, NoMark, NoEnd, NoInstruction, NoSelection, NoAddress, AddressPast, NoIndex, FieldPast, NoFieldMark, TooFew, MarkWrittenOver, NoDigit, NoCard, PunchFull, PrinterFull}
use Rattle.check_causes.specs.Tested.{passed, needs, finds, after}
use Rattle.check_causes.specs.Fields.{place_told, places_told, room_told, three_told, length_told, cut_told, counts_told, counts_apart_told, apart_told, digits_told, sum_told, copy_told, comparison_told, number_told, modification_told, move_length_told, move_told, mark_told, load_told, suppression_told, places_wanted, edit_told, work_told}
use Rattle.check_causes.specs.Devices.{card_told, punch_told, line_told, devices_told, order_told, carriage_told, pocket_told}
use Rattle.check_causes.specs.Causes.{operation_told, instruction_told, attempt_told, cause}
use Rattle.check_causes.specs.Sentences.{StandsNext, LacksOneOfTwo, LacksMark, HasAddressAt, HasAddress, Names, IsNext, HasNoMark, IsField, IsInField, IsCutTo, EndsAtMark, Wants, ReadsDigit, Shares, IsSo}
use Rattle.check_causes.proofs.FieldFacts.{IsCut, IsCounted, counted, whole, no_mark, is_cut, place_in, places_in, needs_ok, after_ok, given_ok, found_ok}
use Rattle.check_causes.proofs.SoLemmas.{So, so_needs, so_finds, so_given, so_after, so_if, so_told, not_below, not_most, not_false, place_so, places_so, three_so, length_so, cut_so, counts_so, room_so, apart_so, digits_so, no_base, no_number, number_so}

-- ---- positions of fields

-- the last positions of a field are in it
in_field : (s : Storage) (p count q : ℕ) → q ≤ p → p < q + count → ((k : ℕ) → p + 1 < k + count → k ≤ p → is_marked s k ≡ false) → IsInField s p q
in_field s p count q upto among unmarked = (upto, λ k after le. unmarked k (omega arith) le)

-- a position that is read of a field that was cut to another's length
cut_to : (s : Storage) (a b : ℕ) (counts : Counts) → IsCounted s a b counts → (q : ℕ) → q ≤ a → a < q + counts.a → IsCutTo s a b q
cut_to s a b counts known q upto among =
    let most : counts.a ≤ counts.b = known.cut.most in
    let room : counts.b ≤ b + 1 = known.field.room in
    let k : ℕ = b - (a - q) in (
      in_field s a counts.a q upto among known.cut.up_to.unmarked,
      (upto, (k, in_field s b counts.b k (omega arith) (omega arith) known.field.unmarked, omega arith)),
    )

overlap_parts : (a b count : ℕ) → is_overlapping a b count ≡ true → (b < a) × (a - b < count)
overlap_parts a b count h = let both = and_parts (ltb b a) (ltb (a - b) count) h in (ltb-true b a both.0, ltb-true (a - b) count both.1)
  where
    and_parts : (x y : Bool) → (x && y) ≡ true → (x ≡ true) × (y ≡ true)
    and_parts true true h = (refl, refl)
    and_parts true false h = absurd (cc)
    and_parts false y h = absurd (cc)

sharing_parts : (a a_count b b_count : ℕ) → is_sharing a a_count b b_count ≡ true → (a < b + a_count) × (b < a + b_count)
sharing_parts a a_count b b_count h = let both = and_parts (ltb a (b + a_count)) (ltb b (a + b_count)) h in (ltb-true a (b + a_count) both.0, ltb-true b (a + b_count) both.1)
  where
    and_parts : (x y : Bool) → (x && y) ≡ true → (x ≡ true) × (y ≡ true)
    and_parts true true h = (refl, refl)
    and_parts true false h = absurd (cc)
    and_parts false y h = absurd (cc)

-- ---- moves

least_none : (x y : Option ℕ) → least_of x y ≡ None → x ≡ None
least_none (Some m) (Some n) h = absurd (cc)
least_none (Some m) None h = absurd (cc)
least_none None y h = refl

most_none : (x y : Option ℕ) → least_of x y ≡ None → y ≡ None
most_none (Some m) (Some n) h = absurd (cc)
most_none (Some m) None h = refl
most_none None y h = h

-- a move without a length has no mark
unmoved : (s : Storage) (a b : ℕ) → move_length s a b ≡ None → HasNoMark s a
unfolding move_length
unmoved s a b h = no_mark s a (least_none (field_length s a) (field_length s b) h)

-- and none in the other field either
unmoved_either : (s : Storage) (a b : ℕ) → move_length s a b ≡ None → HasNoMark s b
unfolding move_length
unmoved_either s a b h = no_mark s b (most_none (field_length s a) (field_length s b) h)

moved_by_both : (s : Storage) (a b m k count : ℕ) → IsField s a m → IsField s b k → min m k ≡ count → EndsAtMark s a b count
moved_by_both s a b m k count one other e = elim (dec_lt k m) [
  | yes less ↦
      let same : k ≡ count = omega arith in
      (inr (subst (IsField s b) same other), λ q after le. one.unmarked q (omega arith) le, λ q after le. other.unmarked q (omega arith) le)
  | no most ↦
      let same : m ≡ count = omega arith in
      (inl (subst (IsField s a) same one), λ q after le. one.unmarked q (omega arith) le, λ q after le. other.unmarked q (omega arith) le)
]

move_ends : (s : Storage) (a b count : ℕ) (x y : Option ℕ) → field_length s a ≡ x → field_length s b ≡ y → least_of x y ≡ Some count → EndsAtMark s a b count
move_ends s a b count (Some m) (Some k) ex ey h = let same : min m k ≡ count = cc in moved_by_both s a b m k count (whole s a m ex) (whole s b k ey) same
move_ends s a b count (Some m) None ex ey h =
    let same : m ≡ count = cc in
    let one = subst (IsField s a) same (whole s a m ex) in
    (inl one, one.unmarked, λ q after le. no_mark s b ey q le)
move_ends s a b count None (Some k) ex ey h =
    let same : k ≡ count = cc in
    let other = subst (IsField s b) same (whole s b k ey) in
    (inr other, λ q after le. no_mark s a ex q le, other.unmarked)
move_ends s a b count None None ex ey h = absurd (cc)

-- a move ends at a mark
moved_to : (s : Storage) (a b count : ℕ) → move_length s a b ≡ Some count → EndsAtMark s a b count
unfolding move_length
moved_to s a b count h = move_ends s a b count (field_length s a) (field_length s b) refl refl h

-- ---- edits

one_wanted : (s : Storage) (b count : ℕ) → 1 ≤ places_wanted s b count
unfolding places_wanted
one_wanted s b count = omega arith

edit_shares : (s : Storage) (a b b_count a_count : ℕ) → IsField s b b_count → IsCut s a (places_wanted s b b_count) a_count → (a < b + a_count) × (b < a + b_count) → (p : ℕ) × Shares (OnFields Edit) s a b p
unfolding places_wanted
edit_shares s a b b_count a_count field cut over =
    let most : a_count ≤ max 1 (places (codes_ending s b b_count)) = cut.most in
    elim (dec_lt a b) [
      | yes left ↦ (a, ((b_count, field, (omega arith, λ k after le. absurd (omega arith)), omega arith), in_field s b b_count a (omega arith) over.1 field.unmarked))
      | no right ↦ (b, ((b_count, field, in_field s a a_count b (omega arith) over.0 cut.up_to.unmarked, omega (arith, over.0)), (omega arith, λ k after le. absurd (omega arith))))
    ]

-- ---- operations on fields

module _ (w : Works) (m : Modifier) (n a b : ℕ) where
  abbrev s : Storage
  s = w.storage

  abbrev P : Cause → Type 0
  P c = IsSo c w

  abbrev meant_as : Operation → Decoded
  meant_as o = record { operation = o; length = n; a = a; b = b; modifier = m }

  module _ (f : FieldOperation) (next : IsNext w (meant_as (OnFields f))) where
    a_past : length s ≤ a → P (FieldPast a)
    a_past le = (meant_as (OnFields f), next, (inl refl, le))

    b_past : length s ≤ b → P (FieldPast b)
    b_past le = (meant_as (OnFields f), next, (inr refl, le))

    a_none : LacksMark (OnFields f) s a b a → a < length s → HasNoMark s a → P (NoFieldMark a)
    a_none lacks inside none = (meant_as (OnFields f), next, (lacks, inside, none))

    b_none : LacksMark (OnFields f) s a b b → b < length s → HasNoMark s b → P (NoFieldMark b)
    b_none lacks inside none = (meant_as (OnFields f), next, (lacks, inside, none))

    fields_so : ((p : ℕ) → LacksOneOfTwo s a b p → LacksMark (OnFields f) s a b p) → So P (counts_told s a b)
    fields_so lacks =
        counts_so P s a b a_past b_past (λ count inside field few none. a_none (lacks a (inr (refl, (count, field, few)))) inside none) (λ inside none. b_none (lacks b (inl refl)) inside none)

    apart_told_so : ((p : ℕ) → LacksOneOfTwo s a b p → LacksMark (OnFields f) s a b p) → ((p : ℕ) → IsCutTo s a b p → IsInField s b p → Shares (OnFields f) s a b p) → So P (counts_apart_told s a b)
    unfolding counts_apart_told
    apart_told_so lacks share =
        so_given P (counts_told s a b) _ (fields_so lacks) (λ counts e.
        so_after P (apart_told (is_overlapping a b counts.a)) (Ok counts) (apart_so P (is_overlapping a b counts.a) (λ over.
        let known = counted s a b counts e in
        let parts = overlap_parts a b counts.a over in
        (meant_as (OnFields f), next, (b, share b (cut_to s a b counts known b (omega (arith, parts.0)) (omega (arith, parts.0, parts.1))) (omega arith, λ k after le. absurd (omega arith))))))
        (λ apart. tt))

    apart_counted : (counts : Counts) → counts_apart_told s a b ≡ Ok counts → IsCounted s a b counts
    unfolding counts_apart_told
    apart_counted counts e =
        let found = given_ok (counts_told s a b) (λ counts. after (apart_told (is_overlapping a b counts.a)) (Ok counts)) counts e in
        counted s a b counts (found.is ∙ (after_ok (apart_told (is_overlapping a b found.it.a)) (Ok found.it) counts found.then_is).1)

    digit_so : (p : ℕ) → ReadsDigit (OnFields f) s a b p → digit_of (code_at s p) ≡ None → P (NoDigit (glyph_of (code_at s p)) p)
    digit_so p reads none = (meant_as (OnFields f), next, (reads, refl, none))

    sum_so : ((p : ℕ) → LacksOneOfTwo s a b p → LacksMark (OnFields f) s a b p) → ((p : ℕ) → IsCutTo s a b p → IsInField s b p → Shares (OnFields f) s a b p) → ((p : ℕ) → IsCutTo s a b p → ReadsDigit (OnFields f) s a b p) → ((p : ℕ) → IsInField s b p → ReadsDigit (OnFields f) s a b p) →
        So P (sum_told s a b)
    unfolding sum_told
    sum_so lacks share of_a of_b =
        so_given P (counts_apart_told s a b) _ (apart_told_so lacks share) (λ counts e.
        let known = apart_counted counts e in
        so_after P (digits_told s a counts.a) (digits_told s b counts.b)
        (digits_so P s a counts.a known.cut.up_to.room (λ q found. digit_so q (of_a q (cut_to s a b counts known q found.upto found.among)) found.none))
        (λ numbers.
        digits_so P s b counts.b known.field.room (λ q found. digit_so q (of_b q (in_field s b counts.b q found.upto found.among known.field.unmarked)) found.none)))

    copy_so : ((p : ℕ) → LacksOneOfTwo s a b p → LacksMark (OnFields f) s a b p) → ((p : ℕ) → IsCutTo s a b p → IsInField s b p → Shares (OnFields f) s a b p) → ((p : ℕ) → IsCutTo s a b p → ReadsDigit (OnFields f) s a b p) → So P (copy_told s a b)
    unfolding copy_told
    copy_so lacks share of_a =
        so_given P (counts_apart_told s a b) _ (apart_told_so lacks share) (λ counts e.
        let known = apart_counted counts e in
        digits_so P s a counts.a known.cut.up_to.room (λ q found. digit_so q (of_a q (cut_to s a b counts known q found.upto found.among)) found.none))

    comparison_so : ((p : ℕ) → LacksOneOfTwo s a b p → LacksMark (OnFields f) s a b p) → So P (comparison_told s a b)
    unfolding comparison_told
    comparison_so lacks = so_given P (counts_told s a b) _ (fields_so lacks) (λ counts e. tt)

    both_so : So P (places_told s a b)
    both_so = places_so P s a b a_past b_past

  few_of_a : (f : FieldOperation) → IsNext w (meant_as (OnFields f)) → (count : ℕ) → Wants (OnFields f) s a b count → a < length s → a + 1 < count → P (TooFew a)
  few_of_a f next count wants inside few = (meant_as (OnFields f), next, (inl refl, inside, (count, wants, few)))

  few_of_b : (f : FieldOperation) → IsNext w (meant_as (OnFields f)) → (count : ℕ) → Wants (OnFields f) s a b count → b < length s → b + 1 < count → P (TooFew b)
  few_of_b f next count wants inside few = (meant_as (OnFields f), next, (inr refl, inside, (count, wants, few)))

  three_two : (p : ℕ) → three_told s p ≡ passed → (p < length s) × (2 ≤ p)
  unfolding three_told room_told
  three_two p h =
      let both = after_ok (place_told s p) (needs (leb 3 (p + 1)) (TooFew p) passed) tt h in
      let room : 3 ≤ p + 1 = leb-true 3 (p + 1) (needs_ok (leb 3 (p + 1)) (TooFew p) passed tt both.1).0 in
      (place_in s p both.0, omega arith)

  modification_so : IsNext w (meant_as (OnFields ModifyAddress)) → So P (modification_told s a b)
  unfolding modification_told
  modification_so next =
      so_after P (three_told s a) _ (three_so P s a (a_past ModifyAddress next) (few_of_a ModifyAddress next 3 refl)) (λ at_a.
      so_after P (three_told s b) _ (three_so P s b (b_past ModifyAddress next) (few_of_b ModifyAddress next 3 refl)) (λ at_b.
      let a_three = three_two a at_a in
      let b_three = three_two b at_b in
      so_after P (number_told s a) (number_told s b)
      (number_so P s a (λ none. (meant_as (OnFields ModifyAddress), next, (refl, inl refl, (a_three.1, a_three.0, none)))))
      (λ number. number_so P s b (λ none. (meant_as (OnFields ModifyAddress), next, (refl, inr refl, (b_three.1, b_three.0, none)))))))

  move_so : IsNext w (meant_as (OnFields Move)) → So P (move_told s a b)
  unfolding move_told move_length_told
  move_so next =
      so_after P (places_told s a b) _ (both_so Move next) (λ inside.
      let both = places_in s a b inside in
      so_given P (move_length_told s a b) _
      (so_finds P (move_length s a b) (NoFieldMark a) (λ count. Ok count) (λ e. a_none Move next (refl, unmoved_either s a b e) both.0 (unmoved s a b e)) (λ count e. tt)) (λ count e.
      let wants = moved_to s a b count (found_ok (move_length s a b) (NoFieldMark a) count e) in
      so_after P (room_told count a) (room_told count b) (room_so P count a (few_of_a Move next count wants both.0)) (λ room.
      room_so P count b (few_of_b Move next count wants both.1))))

  load_so : IsNext w (meant_as (OnFields Load)) → So P (load_told s a b)
  unfolding load_told length_told mark_told
  load_so next =
      so_after P (places_told s a b) _ (both_so Load next) (λ inside.
      let both = places_in s a b inside in
      so_given P (length_told s a) _ (length_so P s a (a_none Load next refl both.0)) (λ count e.
      let field = whole s a count (found_ok (field_length s a) (NoFieldMark a) count e) in
      so_after P (room_told count b) _ (room_so P count b (few_of_b Load next count field both.1)) (λ room.
      so_needs P (not (is_overlapping a b count)) (MarkWrittenOver (a + 1 - count)) passed
      (λ over.
      let parts = overlap_parts a b count (not_false (is_overlapping a b count) over) in
      let fits : count ≤ a + 1 = field.room in
      (meant_as (OnFields Load), next, (refl, record { count = count; field = field; mark = omega arith; to = omega (arith, parts.1); before = parts.0 })))
      (λ apart. tt))))

  suppression_so : IsNext w (meant_as (OnFields Suppress)) → So P (suppression_told s a b)
  unfolding suppression_told length_told
  suppression_so next =
      so_after P (places_told s a b) _ (both_so Suppress next) (λ inside.
      let both = places_in s a b inside in
      so_given P (length_told s a) _ (length_so P s a (a_none Suppress next refl both.0)) (λ count e.
      let field = whole s a count (found_ok (field_length s a) (NoFieldMark a) count e) in
      so_after P (room_told count b) _ (room_so P count b (few_of_b Suppress next count field both.1)) (λ room.
      apart_so P (is_overlapping a b count) (λ over.
      let parts = overlap_parts a b count over in
      let even : a + b ≡ b + a = omega arith in
      (meant_as (OnFields Suppress), next, (b, (in_field s a count b (omega (arith, parts.0)) (omega (arith, parts.0, parts.1)) field.unmarked, (omega arith, (a, (omega arith, λ k after le. absurd (omega arith)), even)))))))))

  edit_so : IsNext w (meant_as (OnFields Edit)) → So P (edit_told s a b)
  unfolding edit_told length_told cut_told places_wanted
  edit_so next =
      so_after P (places_told s a b) _ (both_so Edit next) (λ inside.
      let both = places_in s a b inside in
      so_given P (length_told s b) _ (length_so P s b (b_none Edit next (inl refl) both.1)) (λ b_count e.
      let field = whole s b b_count (found_ok (field_length s b) (NoFieldMark b) b_count e) in
      so_given P (cut_told s a (places_wanted s b b_count)) _ (cut_so P s a (places_wanted s b b_count) (λ few none. a_none Edit next (inr (refl, (b_count, field, few))) both.0 none)) (λ a_count f.
      let cut = is_cut s a (places_wanted s b b_count) a_count (one_wanted s b b_count) (found_ok (cut_length s a (places_wanted s b b_count)) (NoFieldMark a) a_count f) in
      apart_so P (is_sharing a a_count b b_count) (λ over.
      (meant_as (OnFields Edit), next, edit_shares s a b b_count a_count field cut (sharing_parts a a_count b b_count over))))))

  work_so : (f : FieldOperation) → IsNext w (meant_as (OnFields f)) → So P (work_told f s a b)
  unfolding work_told
  work_so Add next = sum_so Add next (λ p x. x) (λ p x y. (x, y)) (λ p x. inl x) (λ p x. inr x)
  work_so Subtract next = sum_so Subtract next (λ p x. x) (λ p x y. (x, y)) (λ p x. inl x) (λ p x. inr x)
  work_so ZeroAdd next = copy_so ZeroAdd next (λ p x. x) (λ p x y. (x, y)) (λ p x. x)
  work_so ZeroSubtract next = copy_so ZeroSubtract next (λ p x. x) (λ p x y. (x, y)) (λ p x. x)
  work_so Compare next = comparison_so Compare next (λ p x. x)
  work_so ModifyAddress next = modification_so next
  work_so Move next = move_so next
  work_so Load next = load_so next
  work_so MoveDigit next = both_so MoveDigit next
  work_so MoveZone next = both_so MoveZone next
  work_so Suppress next = suppression_so next
  work_so Edit next = edit_so next
  work_so SetMark next = both_so SetMark next
  work_so ClearMark next = both_so ClearMark next

-- ---- operations of the units

no_form_left : (c : Carriage) (line : ℕ) → is_some (on_next_form c line) ≡ false → last_form ≤ c.form
no_form_left c line h = go (ltb c.form last_form) refl h
  where
    go : (b : Bool) → ltb c.form last_form ≡ b → is_some (if b then Some (record c { form = c.form + 1; line = line }) else None) ≡ false → last_form ≤ c.form
    go true e h = absurd (cc)
    go false e h = not_below c.form last_form e

rest_none : (b : Bool) (x : Carriage) (rest : Option Carriage) → is_some (if b then Some x else rest) ≡ false → is_some rest ≡ false
rest_none true x rest h = absurd (cc)
rest_none false x rest h = h

no_line_left : (c : Carriage) (count : ℕ) → is_some (spaced c count) ≡ false → last_form ≤ c.form
no_line_left c count h = no_form_left (record c { channel_12 = sensed c count }) (c.line + count - lines_of_form) (rest_none (leb (c.line + count) lines_of_form) _ _ h)

no_motion_left : (motion : Motion) (c : Carriage) → is_some (moved_by motion c) ≡ false → last_form ≤ c.form
unfolding moved_by
no_motion_left Space c h = no_line_left c 1 h
no_motion_left DoubleSpace c h = no_line_left c 2 h
no_motion_left TripleSpace c h = no_line_left c 3 h
no_motion_left SkipToChannel1 c h = no_form_left (record c { channel_12 = false }) 1 h

no_order_left : (order : CarriageOrder) (c : Carriage) → is_some (ordered order c) ≡ false → last_form ≤ c.form
unfolding ordered
no_order_left (Now motion) c h = no_motion_left motion c h
no_order_left (AfterLine motion) c h = absurd (cc)

no_line_after : (c : Carriage) → is_some (after_line c) ≡ false → last_form ≤ c.form
unfolding after_line
no_line_after c h = no_motion_left (unwrap_or c.waiting Space) (record c { waiting = None }) h

not_selecting : (p : Profile) → is_selecting p ≡ false → p ≡ profile.Plain
not_selecting profile.Plain h = refl
not_selecting profile.Selecting h = absurd (cc)

module _ (w : Works) (m : Modifier) (n a b : ℕ) where
  abbrev Q : Cause → Type 0
  Q c = IsSo c w

  abbrev meant_by : Operation → Decoded
  meant_by o = record { operation = o; length = n; a = a; b = b; modifier = m }

  line_so : (devices : Devices) → IsNext w (meant_by (Operate devices)) → prints devices ≡ true → So Q (line_told w.units.before.lines w.units.printer)
  unfolding line_told
  line_so devices next taking =
      so_after Q (needs (ltb (w.units.before.lines + length w.units.printer.lines) most_lines) PrinterFull passed) _
      (so_needs Q (ltb (w.units.before.lines + length w.units.printer.lines) most_lines) PrinterFull passed
      (λ f. inl (meant_by (Operate devices), next, (devices, refl, (taking, inl (not_below (w.units.before.lines + length w.units.printer.lines) most_lines f))))) (λ t. tt))
      (λ room. so_needs Q (is_some (after_line w.units.printer.carriage)) PrinterFull passed
      (λ f. inl (meant_by (Operate devices), next, (devices, refl, (taking, inr (no_line_after w.units.printer.carriage f))))) (λ t. tt))

  devices_so : (devices : Devices) → IsNext w (meant_by (Operate devices)) → So Q (devices_told devices w.units)
  unfolding devices_told card_told punch_told
  devices_so devices next =
      so_after Q (if reads devices then card_told w.units.hopper else passed) _
      (so_if Q (reads devices) (card_told w.units.hopper) passed (λ taking. so_needs Q (ltb w.units.hopper.taken (length w.units.hopper.deck)) (NoCard w.units.hopper.taken) passed
      (λ f. (meant_by (Operate devices), next, (devices, refl, (taking, refl, not_below w.units.hopper.taken (length w.units.hopper.deck) f)))) (λ t. tt)) (λ out. tt))
      (λ card.
      so_after Q (if punches devices then punch_told w.units.before.cards w.units.punch else passed) _
      (so_if Q (punches devices) (punch_told w.units.before.cards w.units.punch) passed (λ taking. so_needs Q (ltb (w.units.before.cards + length w.units.punch.cards) most_cards) PunchFull passed
      (λ f. (meant_by (Operate devices), next, (devices, refl, (taking, not_below (w.units.before.cards + length w.units.punch.cards) most_cards f)))) (λ t. tt)) (λ out. tt))
      (λ stacked. so_if Q (prints devices) (line_told w.units.before.lines w.units.printer) passed (line_so devices next) (λ out. tt)))

  order_so : (order : CarriageOrder) → IsNext w (meant_by MoveCarriage) → So Q (order_told order w.units.printer)
  unfolding order_told
  order_so order next =
      so_needs Q (is_some (ordered order w.units.printer.carriage)) PrinterFull passed (λ f. inr (meant_by MoveCarriage, next, (refl, no_order_left order w.units.printer.carriage f))) (λ t. tt)

  carriage_so : (modifier : Modifier) → IsNext w (meant_by MoveCarriage) → So Q (carriage_told modifier w.units.printer)
  unfolding carriage_told
  carriage_so Plain next = tt
  carriage_so (OnCondition condition) next = tt
  carriage_so (OnCharacter code) next = tt
  carriage_so (OnTest test) next = tt
  carriage_so (ByOrder order) next = order_so order next
  carriage_so (ToPocket pocket) next = tt

  pocket_so : IsNext w (meant_by ChoosePocket) → So Q (pocket_told w.units.punch)
  unfolding pocket_told
  pocket_so next =
      so_needs Q (is_selecting w.units.punch.profile) NoSelection passed (λ f. (meant_by ChoosePocket, next, (refl, not_selecting w.units.punch.profile f))) (λ t. tt)

  -- ---- instructions

  operation_so : (o : Operation) → IsNext w (meant_by o) → So Q (operation_told o m w.storage w.units a b)
  unfolding operation_told
  operation_so (OnFields operation) next = work_so w m n a b operation next
  operation_so ClearStorage next = place_so Q w.storage b (λ past. (meant_by ClearStorage, next, (refl, past)))
  operation_so Branch next = tt
  operation_so BranchOnMarkOrZone next = tt
  operation_so (Operate devices) next = devices_so devices next
  operation_so MoveCarriage next = carriage_so m next
  operation_so ChoosePocket next = pocket_so next
  operation_so StoreA next =
      three_so Q w.storage a (λ past. (meant_by StoreA, next, (refl, past))) (λ inside few. (meant_by StoreA, next, (refl, inside, (3, refl, few))))
  operation_so StoreB next =
      three_so Q w.storage a (λ past. (meant_by StoreB, next, (refl, past))) (λ inside few. (meant_by StoreB, next, (refl, inside, (3, refl, few))))
  operation_so Halt next = tt
  operation_so NoOperation next = tt

-- ---- words

unmapped_word : {T : Type 0} (f : ℕ → T) (found : Option ℕ) → option_map f found ≡ None → found ≡ None
unmapped_word f (Some x) h = absurd (cc)
unmapped_word f None h = refl

marked_in : (s : Storage) (p : ℕ) → is_marked s p ≡ true → p < length s
marked_in s p m = elim (dec_lt p (length s)) [
  | yes within ↦ within
  | no beyond ↦ absurd (let none : is_marked s p ≡ false = past_end s p (omega arith) in let e : true ≡ false = sym m ∙ none in cc)
]

not_ending : (s : Storage) (i count : ℕ) → ending_in s i count ≡ None → length s < i + count
not_ending s i count h = go (leb (i + count) (length s)) refl h
  where
    go : (b : Bool) → leb (i + count) (length s) ≡ b → (if b then Some count else None) ≡ None → length s < i + count
    go true e h = absurd (cc)
    go false e h = not_most (i + count) (length s) e

unended : (s : Storage) (i : ℕ) (comma : Bool) (found : Option ℕ) → LeastMark s (i + 1) 8 found
    → (if comma then ending_in s i (min (unwrap_or found (i + 8) - i) 7) else option_map (λ end. end - i) found) ≡ None
    → (q : ℕ) → i < q → q ≤ i + 8 → is_marked s q ≡ false
unended s i comma None g h q after upto = g q (omega arith) (omega arith)
unended s i true (Some m) g h q after upto =
    let past : length s < i + min (m - i) 7 = not_ending s i (min (m - i) 7) h in
    let inside : m < length s = marked_in s m g.marked in
    let below : i + 1 ≤ m = g.not_below in
    absurd (omega arith)
unended s i false (Some m) g h q after upto = absurd (cc)

unworded : (s : Storage) (i : ℕ) → is_marked s i ≡ true → word_length s i ≡ None → (q : ℕ) → i < q → q ≤ i + 8 → is_marked s q ≡ false
unfolding word_length
unworded s i marked h = unended s i (is_glyph (code_at s i) (codes ",")) (least_mark s (i + 1) 8) (least_is_least s (i + 1) 8) (rw marked at h)

some_found : {S T : Type 0} (found : Option S) (c : Cause) (rest : Result T Cause) (x : T) → finds found c (λ y. rest) ≡ Ok x → (is_some found ≡ true) × (rest ≡ Ok x)
some_found (Some y) c rest x h = (refl, h)
some_found None c rest x h = absurd (cc)

module _ (w : Works) where
  abbrev R : Cause → Type 0
  R c = IsSo c w

  word_none : (marked : Bool) → is_marked w.storage w.registers.i ≡ marked → w.registers.i < length w.storage → word w.storage w.registers.i ≡ None → R (if marked then NoEnd else NoMark)
  unfolding word
  word_none true e inside none = (e, unworded w.storage w.registers.i e (unmapped_word (codes_from w.storage w.registers.i) (word_length w.storage w.registers.i) none))
  word_none false e inside none = (inside, e)

  word_so : w.registers.i < length w.storage → So R (word_told w.storage w.registers.i)
  unfolding word_told
  word_so inside =
      so_finds R (word w.storage w.registers.i) (if is_marked w.storage w.registers.i then NoEnd else NoMark) (λ codes. Ok codes)
      (word_none (is_marked w.storage w.registers.i) refl inside) (λ codes e. tt)

  -- ---- addresses

  two_below : (location : IndexLocation) → 2 ≤ units_position location
  two_below First = omega arith
  two_below Second = omega arith
  two_below Third = omega arith

  index_so : (address : Tagged) (index : Option IndexLocation) → address.index ≡ index → Names w address → So R (with_index_told w.storage address.base index)
  unfolding with_index_told
  index_so address None e names = tt
  index_so address (Some location) e names =
      so_needs R (ltb (units_position location) (length w.storage)) (AddressPast (units_position location)) _
      (λ f. (address, names, inr (location, e, refl), not_below (units_position location) (length w.storage) f)) (λ t.
      so_finds R (base_ending w.storage (units_position location)) (NoIndex (units_position location)) _
      (λ none. (address, names, (location, e, refl), (two_below location, ltb-true (units_position location) (length w.storage) t, no_number w.storage (units_position location) none))) (λ index e. tt))

  position_so : (address : Tagged) → Names w address → So R (position_told w.storage address)
  unfolding position_told
  position_so address names =
      so_given R (with_index_told w.storage address.base address.index) _ (index_so address address.index refl names) (λ position e.
      so_needs R (ltb position (length w.storage)) (AddressPast position) (Ok position)
      (λ f. (address, names, inl (index_same w.storage address.base address.index ∙ ap checked e), not_below position (length w.storage) f)) (λ t. tt))

  untagged : (first second third : ℕ) → tagged first second third ≡ None → base first second third ≡ None
  unfolding tagged
  untagged first second third h = unmapped_word _ (base first second third) h

  operand_so : (first second third : ℕ) → HasAddress w first second third → So R (operand_told w.storage first second third)
  unfolding operand_told
  operand_so first second third has =
      so_finds R (tagged first second third) (NoAddress (glyph_of first) (glyph_of second) (glyph_of third)) _
      (λ none. (first, second, third, has, refl, refl, refl, no_base first second third (untagged first second third none))) (λ address e.
      position_so address (first, second, third, has, e))

  not_same : (n k : ℕ) → (n == k) ≡ false → n ≢ k
  not_same n k f e = absurd (let t : (n == k) ≡ true = eq-eqb n k e in let both : true ≡ false = sym t ∙ f in cc)

  module _ (codes : List ℕ) (stands : StandsNext w codes) where
    abbrev count : ℕ
    count = length codes

    abbrev first : ℕ
    first = get_or codes 0 0

    abbrev last : ℕ
    last = get_or codes (length codes - 1) 0

    has_at : (place : ℕ) → HasAddressAt codes place → HasAddress w (get_or codes place 0) (get_or codes (place + 1) 0) (get_or codes (place + 2) 0)
    has_at place at = record { codes = codes; stands = stands; place = place; at = at; first_is = refl; second_is = refl; third_is = refl }

    operands_so : So R (operands_told w.storage (addresses_by first count) w.registers codes)
    unfolding operands_told operand_told_at
    operands_so =
        so_if R (addresses_by first count == 0) _ _ (λ z. tt) (λ nz.
        let some : addresses_by first count ≢ 0 = not_same (addresses_by first count) 0 nz in
        so_given R (operand_told w.storage (get_or codes 1 0) (get_or codes 2 0) (get_or codes 3 0)) _ (operand_so _ _ _ (has_at 1 (inl (refl, omega arith)))) (λ position e.
        so_if R (addresses_by first count == 1) _ _ (λ one. tt) (λ more.
        let two : addresses_by first count ≢ 1 = not_same (addresses_by first count) 1 more in
        so_given R (operand_told w.storage (get_or codes 4 0) (get_or codes 5 0) (get_or codes 6 0)) _ (operand_so _ _ _ (has_at 4 (inr (refl, omega arith)))) (λ position e. tt))))

    -- what was decoded
    decoded_as : (operands : ℕ × ℕ) → decoded_told w.storage count w.registers codes ≡ Ok operands →
        IsNext w (record { operation = operation_by first; length = count; a = operands.0; b = operands.1; modifier = modifier_by first count last })
    unfolding decoded_told is_last
    decoded_as operands e =
        let parts = some_found (modifier_at first count last) (NoInstruction (glyph_of first)) (operands_told w.storage (addresses_by first count) w.registers codes) operands e in
        let form = form_taken first count last (is_form first count) refl parts.0 in
        record {
          codes = codes;
          stands = stands;
          means = decoded_is w.storage count w.registers codes form parts.0 ∙ ap carried (operands_same w.storage (addresses_by first count) w.registers codes ∙ ap checked parts.1);
        }
      where
        carried : Result (ℕ × ℕ) Check → Result Decoded Check
        carried found = and_then found (λ operands. Ok (record { operation = operation_by first; length = count; a = operands.0; b = operands.1; modifier = modifier_by first count last }))

    instruction_so : So R (instruction_told w count codes)
    unfolding instruction_told decoded_told
    instruction_so =
        so_given R (decoded_told w.storage count w.registers codes) _
        (so_finds R (modifier_at first count last) (NoInstruction (glyph_of first)) _ (λ none. (codes, stands, refl, no_form codes none)) (λ modifier e. operands_so))
        (λ operands e. operation_so w (modifier_by first count last) count operands.0 operands.1 (operation_by first) (decoded_as operands e))

  stands_next : (codes : List ℕ) → word_told w.storage w.registers.i ≡ Ok codes → StandsNext w codes
  unfolding word_told
  stands_next codes e = found_ok (word w.storage w.registers.i) (if is_marked w.storage w.registers.i then NoEnd else NoMark) codes e

  attempt_so : So R (attempt_told w)
  unfolding attempt_told
  attempt_so =
      so_needs R (ltb w.registers.i (length w.storage)) RegisterPast _ (λ f. not_below w.registers.i (length w.storage) f) (λ t.
      so_given R (word_told w.storage w.registers.i) _ (word_so (ltb-true w.registers.i (length w.storage) t)) (λ codes e. instruction_so codes (stands_next codes e)))

  pub is_so : (c : Cause) → cause w ≡ Some c → IsSo c w
  unfolding cause
  is_so c e = so_told R (attempt_told w) c attempt_so e
