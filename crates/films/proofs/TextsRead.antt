-- the lines of a film's text are read as its changes
use Rattle.std.proofs.Common.{◌≡◌, ℕ, zero, suc, ◌+◌, ◌-◌, ◌<◌, ◌/◌, ◌%◌, ◌==◌, ◌&&◌, not, Bool, true, false, List, [], ◌∷◌, ◌++◌, length, map, drop, decimal, refl, ap, ◌∙◌, arith, append-nil, append_assoc, if◌then◌else◌, cond}
use Rattle.std.specs.Prelude.{Option, Some, None, filter, slice_get, codes}
use Rattle.std.specs.Fmt.{digits, digits_onto, digit_glyph}
use Rattle.std.specs.List.{flat_map}
use Rattle.std.proofs.lemmas.List.Concat.{flat_map-append}
use Rattle.bcd.proofs.Tables.{at_each}
use Rattle.cards.specs.declared.decks.Card.{Card}
use Rattle.autocoder.specs.Listing.{fills}
use Rattle.autocoder_layout.specs.declared.slots.Slot.{Slot}
use Rattle.machine.specs.Run.{State, is_checked, step}
use Rattle.machine.specs.Word.{word_length}
use Rattle.run_traces.specs.Names.{Named}
use Rattle.pictures.specs.Reading.{pieces}
use Rattle.pictures.proofs.PiecesRead.{has_none, none_in_both, one_piece, pieces_both}
use Rattle.films.specs.Changes.{Item}
use Rattle.films.specs.Films.{deck_line, deck_lines, named_lines, place_word, reader_lines, size_lines, source_line, source_lines, text_before}
use Rattle.films.specs.Reading.{changes_read, is_change, items_read, word_read, word_read_by}
use Rattle.films.specs.Signs.{signs_on}
use Rattle.films.specs.Texts.{change_line, item_texts, words_text}
use Rattle.films.specs.Worked.{area_spans, behind, fields_spans, instruction_span, other_spans, span, work_of, work_spans, worked}
use Rattle.films.specs.declared.signs.Surface.TheVariants.{OnCard}
use Rattle.films.specs.declared.working.Work.{Work}
use Rattle.films.specs.declared.working.Work.TheVariants.{Nowhere, AtFields, InAreas, Clears, Writes, Tests}
use Rattle.machine.specs.Operations.{devices}
use Rattle.units.specs.Units.{prints, punches, reads}
use Rattle.films.proofs.ItemsRead.{IsClean, IsItem, item_again, word_clean}
use Rattle.films.proofs.SignsRead.{signs_clean}

-- ---- words

abbrev pub AreItems : List Item → Type 0
AreItems [] = Unit {0}
AreItems (item ∷ items) = IsItem item × AreItems items

abbrev pub AreClean : List (List ℕ) → Type 0
AreClean [] = Unit {0}
AreClean (word ∷ words) = IsClean word × AreClean words

pub both_items : (xs ys : List Item) → AreItems xs → AreItems ys → AreItems (xs ++ ys)
both_items [] ys front back = back
both_items (x ∷ xs) ys front back = (front.0, both_items xs ys front.1 back)

pub both_words : (xs ys : List (List ℕ)) → AreClean xs → AreClean ys → AreClean (xs ++ ys)
both_words [] ys front back = back
both_words (x ∷ xs) ys front back = (front.0, both_words xs ys front.1 back)

texts_clean : (items : List Item) → AreItems items → AreClean (item_texts items)
texts_clean [] all = tt
texts_clean (item ∷ items) all = (word_clean item all.0, texts_clean items all.1)

words_pieces : (x : List ℕ) (words : List (List ℕ)) → has_none 32 x ≡ true → AreClean words → pieces 32 (x ++ words_text words) ≡ x ∷ words
words_pieces x [] none all = ap (pieces 32) (append-nil x) ∙ one_piece 32 x none
words_pieces x (word ∷ words) none all =
    pieces_both 32 x (word ++ words_text words)
    ∙ ap (λ parts. parts ++ pieces 32 (word ++ words_text words)) (one_piece 32 x none)
    ∙ ap (λ parts. x ∷ parts) (words_pieces word words all.0.0 all.1)

words_on_line : (words : List (List ℕ)) → AreClean words → has_none 10 (words_text words) ≡ true
words_on_line [] all = refl
words_on_line (word ∷ words) all =
    none_in_both 10 (32 ∷ word) (words_text words) (none_in_both 10 (32 ∷ []) word refl all.0.1) (words_on_line words all.1)

texts_again : (items : List Item) → AreItems items → flat_map word_read (item_texts items) ≡ items
texts_again [] all = refl
texts_again (item ∷ items) all =
    ap (λ read. read ++ flat_map word_read (item_texts items)) (item_again item all.0)
    ∙ ap (λ read. item ∷ read) (texts_again items all.1)

line_again : (lead : List (List ℕ)) (items : List Item) → AreClean lead → flat_map word_read lead ≡ [] → AreItems items
    → items_read (67 ∷ words_text (lead ++ item_texts items)) ≡ items
line_again lead items clean none all =
    ap (λ parts. flat_map word_read (drop 1 parts)) (words_pieces (67 ∷ []) (lead ++ item_texts items) refl (both_words lead (item_texts items) clean (texts_clean items all)))
    ∙ flat_map-append word_read lead (item_texts items)
    ∙ ap (λ read. read ++ flat_map word_read (item_texts items)) none
    ∙ texts_again items all

-- ---- lines

-- the line of a change, and what follows it
pub change_again : (lead : List (List ℕ)) (items : List Item) (rest : List ℕ) → AreClean lead → flat_map word_read lead ≡ [] → AreItems items
    → changes_read (change_line (lead ++ item_texts items) ++ rest) ≡ items ∷ changes_read rest
unfolding changes_read change_line
change_again lead items rest clean none all =
    let words = lead ++ item_texts items in
    let line = 67 ∷ words_text words in
    let on_line : has_none 10 line ≡ true = none_in_both 10 (67 ∷ []) (words_text words) refl (words_on_line words (both_words lead (item_texts items) clean (texts_clean items all))) in
    let read = λ (parts : List (List ℕ)). map items_read (filter is_change parts) in
    ap (λ text. read (pieces 10 text)) (append_assoc line (10 ∷ []) rest)
    ∙ ap read (pieces_both 10 line rest)
    ∙ ap (λ parts. read (parts ++ pieces 10 rest)) (one_piece 10 line on_line)
    ∙ ap (λ found. found ∷ read (pieces 10 rest)) (line_again lead items clean none all)

-- another line, and what follows it
other_line : (first : ℕ) (line rest : List ℕ) → (first == 67) ≡ false → has_none 10 (first ∷ line) ≡ true → changes_read ((first ∷ line) ++ 10 ∷ rest) ≡ changes_read rest
unfolding changes_read
other_line first line rest other on_line =
    let read = λ (parts : List (List ℕ)). map items_read (filter is_change parts) in
    ap read (pieces_both 10 (first ∷ line) rest)
    ∙ ap (λ parts. read (parts ++ pieces 10 rest)) (one_piece 10 (first ∷ line) on_line)
    ∙ rw other refl

pub none_read : changes_read [] ≡ []
unfolding changes_read
none_read = refl

-- ---- the lines before the changes

and_is : (a b : Bool) → a ≡ true → b ≡ true → (a && b) ≡ true
and_is true b x y = y
and_is false b x y = cc

either_passes : (mark : ℕ) (b : Bool) (xs ys : List ℕ) → has_none mark xs ≡ true → has_none mark ys ≡ true → has_none mark (cond b xs ys) ≡ true
either_passes mark true xs ys x y = x
either_passes mark false xs ys x y = y

digits_without : (mark : ℕ) → ((d : ℕ) → d < 10 → not (digit_glyph false d == mark) ≡ true) → (k n : ℕ) (acc : List ℕ) → has_none mark acc ≡ true
    → has_none mark (digits_onto k 10 false n acc) ≡ true
digits_without mark each zero n acc pass = pass
digits_without mark each (suc k) n acc pass =
    let d : ℕ = digit_glyph false (n % 10) in
    let more : has_none mark (d ∷ acc) ≡ true = and_is (not (d == mark)) (has_none mark acc) (each (n % 10) (omega arith)) pass in
    either_passes mark (n / 10 == 0) (d ∷ acc) _ more (digits_without mark each k (n / 10) (d ∷ acc) more)

any_decimal : (n : ℕ) → has_none 10 (decimal n) ≡ true
unfolding digits
any_decimal n = digits_without 10 (at_each (λ k. not (digit_glyph false k == 10)) 10 refl) 64 n [] refl

pub decimal_clean : (n : ℕ) → IsClean (decimal n)
unfolding digits
decimal_clean n = (digits_without 32 (at_each (λ k. not (digit_glyph false k == 32)) 10 refl) 64 n [] refl, any_decimal n)

size_read : (size made : ℕ) (rest : List ℕ) → changes_read (size_lines size made ++ rest) ≡ changes_read rest
size_read size made rest =
    let z = decimal size in
    let n = decimal made in
    let first : has_none 10 (90 ∷ 32 ∷ z) ≡ true = none_in_both 10 (90 ∷ 32 ∷ []) z refl (any_decimal size) in
    let second : has_none 10 (78 ∷ 32 ∷ n) ≡ true = none_in_both 10 (78 ∷ 32 ∷ []) n refl (any_decimal made) in
    ap (λ text. changes_read text)
    (append_assoc (((90 ∷ 32 ∷ z) ++ 10 ∷ 78 ∷ 32 ∷ []) ++ n) (10 ∷ []) rest
    ∙ append_assoc ((90 ∷ 32 ∷ z) ++ 10 ∷ 78 ∷ 32 ∷ []) n (10 ∷ rest)
    ∙ append_assoc (90 ∷ 32 ∷ z) (10 ∷ 78 ∷ 32 ∷ []) (n ++ 10 ∷ rest))
    ∙ other_line 90 (32 ∷ z) ((78 ∷ 32 ∷ n) ++ 10 ∷ rest) refl first
    ∙ other_line 78 (32 ∷ n) rest refl second

by_place : (b : Bool) (n : ℕ) → has_none 10 (if b then decimal n else codes "-") ≡ true
by_place true n = any_decimal n
by_place false n = refl

source_line_read : (slot : Slot) (card : Card) (rest : List ℕ) → changes_read (source_line slot card ++ rest) ≡ changes_read rest
unfolding source_line
source_line_read slot card rest =
    let p = place_word slot in
    let s = signs_on OnCard card.0 in
    let front : has_none 10 (83 ∷ 32 ∷ p) ≡ true = none_in_both 10 (83 ∷ 32 ∷ []) p refl (by_place (fills slot.role) slot.before) in
    let middle : has_none 10 ((83 ∷ 32 ∷ p) ++ 32 ∷ []) ≡ true = none_in_both 10 (83 ∷ 32 ∷ p) (32 ∷ []) front refl in
    ap changes_read (append_assoc (((83 ∷ 32 ∷ p) ++ 32 ∷ []) ++ s) (10 ∷ []) rest)
    ∙ other_line 83 (((32 ∷ p) ++ 32 ∷ []) ++ s) rest refl (none_in_both 10 ((83 ∷ 32 ∷ p) ++ 32 ∷ []) s middle (signs_clean OnCard card.0).1)

source_read : (cards : List Card) (slots : List Slot) (rest : List ℕ) → changes_read (source_lines cards slots ++ rest) ≡ changes_read rest
unfolding source_lines
source_read [] slots rest = refl
source_read (card ∷ cards) [] rest = refl
source_read (card ∷ cards) (slot ∷ slots) rest =
    ap changes_read (append_assoc (source_line slot card) (source_lines cards slots) rest)
    ∙ source_line_read slot card (source_lines cards slots ++ rest)
    ∙ source_read cards slots rest

named_read : (names : Option Named) (rest : List ℕ) → changes_read (named_lines names ++ rest) ≡ changes_read rest
named_read None rest = refl
named_read (Some names) rest = source_read names.cards names.slots rest

deck_line_read : (number : ℕ) (card : Option Card) (rest : List ℕ) → changes_read (deck_line number card ++ rest) ≡ changes_read rest
deck_line_read number None rest = refl
deck_line_read number (Some card) rest =
    let n = decimal number in
    let s = signs_on OnCard card.0 in
    let front : has_none 10 (82 ∷ 32 ∷ n) ≡ true = none_in_both 10 (82 ∷ 32 ∷ []) n refl (any_decimal number) in
    let middle : has_none 10 ((82 ∷ 32 ∷ n) ++ 32 ∷ []) ≡ true = none_in_both 10 (82 ∷ 32 ∷ n) (32 ∷ []) front refl in
    ap changes_read (append_assoc (((82 ∷ 32 ∷ n) ++ 32 ∷ []) ++ s) (10 ∷ []) rest)
    ∙ other_line 82 (((32 ∷ n) ++ 32 ∷ []) ++ s) rest refl (none_in_both 10 ((82 ∷ 32 ∷ n) ++ 32 ∷ []) s middle (signs_clean OnCard card.0).1)

deck_read : (deck : List Card) (first count : ℕ) (rest : List ℕ) → changes_read (deck_lines deck first count ++ rest) ≡ changes_read rest
unfolding deck_lines
deck_read deck first zero rest = refl
deck_read deck first (suc count) rest =
    let line = deck_line (first + count) (slice_get deck (first + count - 1)) in
    ap changes_read (append_assoc (deck_lines deck first count) line rest)
    ∙ deck_read deck first count (line ++ rest)
    ∙ deck_line_read (first + count) (slice_get deck (first + count - 1)) rest

pub before_read : (names : Option Named) (made taken : ℕ) (end : State) (rest : List ℕ) → changes_read (text_before names made taken end ++ rest) ≡ changes_read rest
before_read names made taken end rest =
    let z = size_lines (length end.works.storage) made in
    let s = named_lines names in
    let r = reader_lines taken end in
    ap changes_read (append_assoc (z ++ s) r rest ∙ append_assoc z s (r ++ rest))
    ∙ size_read (length end.works.storage) made (s ++ (r ++ rest))
    ∙ named_read names (r ++ rest)
    ∙ deck_read end.works.units.hopper.deck taken (end.works.units.hopper.taken + 2 - taken) rest

-- ---- the words before the items of a step

span_clean : (letter : ℕ) (first last : ℕ) → IsClean (letter ∷ []) → IsClean (span (letter ∷ []) first last)
span_clean letter first last front =
    let a = both_texts (letter ∷ []) (decimal first) front (decimal_clean first) in
    let b = both_texts (letter ∷ decimal first) (46 ∷ []) a (refl, refl) in
    both_texts ((letter ∷ decimal first) ++ 46 ∷ []) (decimal last) b (decimal_clean last)
  where
    both_texts : (a b : List ℕ) → IsClean a → IsClean b → IsClean (a ++ b)
    both_texts a b x y = (none_in_both 32 a b x.0 y.0, none_in_both 10 a b x.1 y.1)

-- words that are clean and no items
abbrev pub AreOther : List (List ℕ) → Type 0
AreOther words = AreClean words × (flat_map word_read words ≡ [])

i_span : (first last : ℕ) → AreOther (span (codes "I") first last ∷ [])
unfolding word_read_by
i_span first last = ((span_clean 73 first last (refl, refl), tt), refl)

a_and_b : (a b c d : ℕ) → AreOther (span (codes "A") a b ∷ span (codes "B") c d ∷ [])
unfolding word_read_by
a_and_b a b c d = ((span_clean 65 a b (refl, refl), (span_clean 66 c d (refl, refl), tt)), refl)

by_count : (i : ℕ) (count : Option ℕ) → AreOther (instruction_span i count)
by_count i None = (tt, refl)
by_count i (Some count) = i_span i (i + count - 1)

by_check : (b : Bool) (a1 a2 a3 a4 c1 c2 c3 c4 : ℕ) →
    AreOther (if b then span (codes "A") a1 a2 ∷ span (codes "B") a3 a4 ∷ [] else span (codes "A") c1 c2 ∷ span (codes "B") c3 c4 ∷ [])
by_check true a1 a2 a3 a4 c1 c2 c3 c4 = a_and_b a1 a2 a3 a4
by_check false a1 a2 a3 a4 c1 c2 c3 c4 = a_and_b c1 c2 c3 c4

by_fields : (a b : ℕ) (m : State) → AreOther (fields_spans (a, b) m)
by_fields a b m =
    by_check (is_checked m.standing) a a b b (behind m.works.registers.a) a (behind m.works.registers.b) b

both_other : (xs ys : List (List ℕ)) → AreOther xs → AreOther ys → AreOther (xs ++ ys)
both_other xs ys front back = (
  both_words xs ys front.0 back.0,
  flat_map-append word_read xs ys ∙ ap (λ read. read ++ flat_map word_read ys) front.1 ∙ back.1,
)

a_span : (first last : ℕ) → AreOther (span (codes "A") first last ∷ [])
unfolding word_read_by
a_span first last = ((span_clean 65 first last (refl, refl), tt), refl)

b_span : (first last : ℕ) → AreOther (span (codes "B") first last ∷ [])
unfolding word_read_by
b_span first last = ((span_clean 66 first last (refl, refl), tt), refl)

if_so : (b : Bool) (words : List (List ℕ)) → AreOther words → AreOther (if b then words else [])
if_so true words other = other
if_so false words other = (tt, refl)

if_not : (b : Bool) (words : List (List ℕ)) → AreOther words → AreOther (if b then [] else words)
if_not true words other = (tt, refl)
if_not false words other = other

areas_other : (sum : ℕ) → AreOther (area_spans sum)
areas_other sum =
    let line = if prints (devices sum) then span (codes "A") 201 332 ∷ [] else [] in
    let card = if punches (devices sum) then span (codes "A") 101 180 ∷ [] else [] in
    let taken = if reads (devices sum) then span (codes "B") 1 80 ∷ [] else [] in
    both_other (line ++ card) taken
    (both_other line card (if_so (prints (devices sum)) (span (codes "A") 201 332 ∷ []) (a_span 201 332)) (if_so (punches (devices sum)) (span (codes "A") 101 180 ∷ []) (a_span 101 180)))
    (if_so (reads (devices sum)) (span (codes "B") 1 80 ∷ []) (b_span 1 80))

by_other : (work : Work) → AreOther (other_spans work)
by_other Nowhere = (tt, refl)
by_other (AtFields a b) = (tt, refl)
by_other (InAreas sum) = areas_other sum
by_other (Clears position) = b_span (position - position % 100) position
by_other (Writes position) = a_span (position - 2) position
by_other (Tests position) = b_span position position

by_work : (work : Work) (m : State) → AreOther (work_spans work m)
by_work Nowhere m = (tt, refl)
by_work (AtFields a b) m = by_fields a b m
by_work (InAreas sum) m = if_not (is_checked m.standing) (other_spans (InAreas sum)) (by_other (InAreas sum))
by_work (Clears position) m = if_not (is_checked m.standing) (other_spans (Clears position)) (by_other (Clears position))
by_work (Writes position) m = if_not (is_checked m.standing) (other_spans (Writes position)) (by_other (Writes position))
by_work (Tests position) m = if_not (is_checked m.standing) (other_spans (Tests position)) (by_other (Tests position))

pub worked_other : (m : State) → AreOther (worked m)
unfolding worked
worked_other m =
    both_other (instruction_span m.works.registers.i (word_length m.works.storage m.works.registers.i)) (work_spans (work_of m.works) (step m))
    (by_count m.works.registers.i (word_length m.works.storage m.works.registers.i)) (by_work (work_of m.works) (step m))
