-- where the instructions stand on a load card
use Rattle.std.proofs.Common.{◌≡◌, ℕ, ◌+◌, ◌-◌, ◌<◌, ◌≤◌, true, false, List, [], ◌++◌, Some, None, refl, sym, ◌∙◌, ap, arith, length, get_or, map, take, drop, replicate, slice_index, length-append, append-nil, append_assoc, drop-drop}
use Rattle.std.proofs.lemmas.List.{length-replicate, length-map, get_or_append_left}
use Rattle.std.proofs.Math.Seq.{drop-append_seam, take-append_seam}
use Rattle.core_store.specs.Storage.{blank_cell}
use Rattle.addresses.specs.Addresses.{written}
use Rattle.autocoder_layout.specs.declared.cells.Cell.{Cell}
use Rattle.loader.specs.Cards.{padded, reading, moving, three, filled_places, load_card}
use Rattle.loader.proofs.PlaceOrders.{Order, words_of, orders_of, order_words, Three}

-- a word that stands at a column
pub word_there : (xs w ys : List ℕ) (column count : ℕ) → drop column xs ≡ w ++ ys → length w ≡ count → take count (drop column xs) ≡ w
word_there xs w ys column count at long = ap (take count) at ∙ ap (λ n. take n (w ++ ys)) (sym long) ∙ take-append_seam w ys

-- what stands behind it
pub behind_word : (xs w ys : List ℕ) (column count next : ℕ) → drop column xs ≡ w ++ ys → length w ≡ count → column + count ≡ next → drop next xs ≡ ys
behind_word xs w ys column count next at long sum =
    ap (λ n. drop n xs) (sym sum) ∙ sym (drop-drop count column xs) ∙ ap (drop count) at ∙ ap (λ n. drop n (w ++ ys)) (sym long) ∙ drop-append_seam w ys

moving_size : (stretch : List Cell) → length (moving stretch) ≡ 7
unfolding written
moving_size stretch = refl

pub order_size : (o : Order) → length (words_of o) ≡ 7
unfolding written
order_size None = refl
order_size (Some (true, (x, y))) = refl
order_size (Some (false, (x, y))) = refl

pub padded_size : (width : ℕ) (characters : List ℕ) → length characters ≤ width → length (padded width characters) ≡ width
padded_size width characters few =
    length-append characters (replicate (width - length characters) blank_cell.0)
    ∙ ap (λ n. length characters + n) (length-replicate (width - length characters) blank_cell.0)
    ∙ omega arith

module _ (a b c d e f z : List ℕ) where
  joined : (a ++ (b ++ ((c ++ (d ++ (e ++ []))) ++ f))) ++ z ≡ a ++ (b ++ (c ++ (d ++ (e ++ (f ++ z)))))
  joined =
      append_assoc a (b ++ ((c ++ (d ++ (e ++ []))) ++ f)) z
      ∙ ap (λ t. a ++ t) (append_assoc b ((c ++ (d ++ (e ++ []))) ++ f) z)
      ∙ ap (λ t. a ++ (b ++ t)) (append_assoc (c ++ (d ++ (e ++ []))) f z)
      ∙ ap (λ t. a ++ (b ++ t)) (append_assoc c (d ++ (e ++ [])) (f ++ z))
      ∙ ap (λ t. a ++ (b ++ (c ++ t))) (append_assoc d (e ++ []) (f ++ z))
      ∙ ap (λ t. a ++ (b ++ (c ++ (d ++ (t ++ (f ++ z)))))) (append-nil e)

module _ (size : ℕ) (stretch : List Cell) (few : length stretch ≤ 39) (t : Three size (orders_of stretch)) where
  abbrev front : List ℕ
  front = padded 39 (map (λ c. c.code) stretch)

  abbrev behind_all : List ℕ
  behind_all = replicate (80 - length (front ++ (moving stretch ++ (three (filled_places stretch) ++ reading)))) blank_cell.0

  parts : (load_card stretch).0 ≡ front ++ (moving stretch ++ (words_of t.first ++ (words_of t.second ++ (words_of t.third ++ (reading ++ behind_all)))))
  unfolding load_card
  parts =
      let places : three (filled_places stretch) ≡ words_of t.first ++ (words_of t.second ++ (words_of t.third ++ [])) =
      ap three (sym (order_words stretch)) ∙ t.words in
      ap (λ p. (front ++ (moving stretch ++ (p ++ reading))) ++ behind_all) places
      ∙ joined front (moving stretch) (words_of t.first) (words_of t.second) (words_of t.third) reading behind_all

  front_size : length front ≡ 39
  front_size = padded_size 39 (map (λ c. c.code) stretch) (omega (arith, few, length-map stretch (λ c. c.code)))

  at_move : drop 39 (load_card stretch).0 ≡ moving stretch ++ (words_of t.first ++ (words_of t.second ++ (words_of t.third ++ (reading ++ behind_all))))
  at_move = ap (drop 39) parts ∙ behind_word _ front _ 0 39 39 refl front_size refl

  at_first : drop 46 (load_card stretch).0 ≡ words_of t.first ++ (words_of t.second ++ (words_of t.third ++ (reading ++ behind_all)))
  at_first = behind_word (load_card stretch).0 (moving stretch) _ 39 7 46 at_move (moving_size stretch) refl

  at_second : drop 53 (load_card stretch).0 ≡ words_of t.second ++ (words_of t.third ++ (reading ++ behind_all))
  at_second = behind_word (load_card stretch).0 (words_of t.first) _ 46 7 53 at_first (order_size t.first) refl

  at_third : drop 60 (load_card stretch).0 ≡ words_of t.third ++ (reading ++ behind_all)
  at_third = behind_word (load_card stretch).0 (words_of t.second) _ 53 7 60 at_second (order_size t.second) refl

  at_reading : drop 67 (load_card stretch).0 ≡ reading ++ behind_all
  at_reading = behind_word (load_card stretch).0 (words_of t.third) _ 60 7 67 at_third (order_size t.third) refl

  pub says_move : take 7 (drop 39 (load_card stretch).0) ≡ moving stretch
  says_move = word_there (load_card stretch).0 (moving stretch) _ 39 7 at_move (moving_size stretch)

  pub says_first : take 7 (drop 46 (load_card stretch).0) ≡ words_of t.first
  says_first = word_there (load_card stretch).0 (words_of t.first) _ 46 7 at_first (order_size t.first)

  pub says_second : take 7 (drop 53 (load_card stretch).0) ≡ words_of t.second
  says_second = word_there (load_card stretch).0 (words_of t.second) _ 53 7 at_second (order_size t.second)

  pub says_third : take 7 (drop 60 (load_card stretch).0) ≡ words_of t.third
  says_third = word_there (load_card stretch).0 (words_of t.third) _ 60 7 at_third (order_size t.third)

  pub says_reading : take 4 (drop 67 (load_card stretch).0) ≡ reading
  says_reading = word_there (load_card stretch).0 reading _ 67 4 at_reading refl

  -- the characters in front
  pub says_code : (k : ℕ) → k < length stretch → slice_index (load_card stretch).0 k ≡ get_or (map (λ c. c.code) stretch) k 0
  says_code k inside =
      let among : k < length (map (λ (c : Cell). c.code) stretch) = omega (arith, length-map stretch (λ c. c.code)) in
      let early : k < length front = omega (arith, front_size, few) in
      ap (λ xs. get_or xs k 0) parts
      ∙ get_or_append_left front _ 0 k early
      ∙ get_or_append_left (map (λ c. c.code) stretch) _ 0 k among

  pub card_size : length (load_card stretch).0 ≡ 80
  unfolding load_card
  card_size =
      let places : three (filled_places stretch) ≡ words_of t.first ++ (words_of t.second ++ (words_of t.third ++ [])) =
      ap three (sym (order_words stretch)) ∙ t.words in
      let c : length (words_of t.first ++ (words_of t.second ++ (words_of t.third ++ []))) ≡ 21 =
      length-append (words_of t.first) _ ∙ omega (
        arith,
        order_size t.first,
        order_size t.second,
        order_size t.third,
        length-append (words_of t.second) (words_of t.third ++ []),
        length-append (words_of t.third) [],
      ) in
      let whole : length (front ++ (moving stretch ++ (three (filled_places stretch) ++ reading))) ≡ 71 =
      length-append front _ ∙ omega (
        arith,
        front_size,
        length-append (moving stretch) (three (filled_places stretch) ++ reading),
        moving_size stretch,
        length-append (three (filled_places stretch)) reading,
        ap length places,
        c,
      ) in
      padded_size 80 (front ++ (moving stretch ++ (three (filled_places stretch) ++ reading))) (omega (arith, whole))
