-- The lines of stretches and of pockets are read back.
use Rattle.std.proofs.Common.{◌≡◌, ◌≢◌, ◌∙◌, ◌⊎◌, ℕ, ◌+◌, ◌<◌, ◌^◌, ◌==◌, Bool, true, List, [], ◌∷◌, ◌++◌, decimal, drop, flat_map, get_or, length, map, refl, ap, sym, arith, append_assoc, inl, inr}
use Rattle.std.specs.List.{AllByRecursion}
use Rattle.std.specs.Option.{option_map_or}
use Rattle.std.proofs.lemmas.Bool.{eqb-true}
use Rattle.std.proofs.lemmas.Fmt.{decimal_injective}
use Rattle.bcd.proofs.Tables.{at_each}
use Rattle.units.specs.declared.pockets.Pocket.{Pocket}
use Rattle.units.specs.declared.pockets.Pocket.TheVariants.{Normal, Four, Eight}
use Rattle.units.specs.declared.punch.Punched.{Punched}
use Rattle.office.specs.declared.stretches.Stretch.{Stretch}
use Rattle.texts.specs.Switches.{letters_of, risen, text_of_bits}
use Rattle.job_archives.specs.Records.{apart_line, pocket_line, pocket_lines, stretch_line}
use Rattle.job_archives.proofs.WordsRead.{has_none, no_blank, no_end, same_pair}

-- ---- switches

-- the bits of the letters of a text
abbrev bits_in : List ℕ → ℕ
bits_in text = option_map_or (λ (m : ℕ). m) (risen 0 text) 0

abbrev is_read : ℕ → Bool
is_read bits = bits_in (text_of_bits bits) == bits

is_read_at : (bits : ℕ) → bits < 128 → is_read bits ≡ true
unfolding risen letters_of
is_read_at bits small = at_each is_read 128 refl bits small

no_blank_at : (bits : ℕ) → bits < 128 → has_none 32 (text_of_bits bits) ≡ true
unfolding letters_of
no_blank_at bits small = at_each (λ n. has_none 32 (text_of_bits n)) 128 refl bits small

same_bits : (n m : ℕ) → n < 128 → m < 128 → text_of_bits n ≡ text_of_bits m → n ≡ m
same_bits n m a b e = sym (eqb-true _ _ (is_read_at n a)) ∙ (ap bits_in e ∙ eqb-true _ _ (is_read_at m b))

-- ---- stretches

-- a stretch whose line can be read
pub record IsShort (s : Stretch) : Type 0 where
  pub switches : s.switches.0 < 128
  pub granted : s.granted < 2 ^ 64

-- no line of a stretch begins here
abbrev pub HasNoStretch : List ℕ → Type 0
HasNoStretch text = get_or text 2 0 ≡ 97

same_stretch : (s t : Stretch) (rest more : List ℕ) → IsShort s → IsShort t
    → stretch_line s ++ rest ≡ stretch_line t ++ more → (s ≡ t) × (rest ≡ more)
same_stretch s t rest more a b e =
    let it = same_pair (text_of_bits s.switches.0) (text_of_bits t.switches.0) (decimal s.granted) (decimal t.granted) rest more
    (no_blank_at s.switches.0 a.switches) (no_blank_at t.switches.0 b.switches) (no_end s.granted a.granted) (no_end t.granted b.granted)
    (ap (drop 8) e) in
    let bits : s.switches.0 ≡ t.switches.0 = same_bits s.switches.0 t.switches.0 a.switches b.switches it.0 in
    let granted : s.granted ≡ t.granted = decimal_injective s.granted t.granted a.granted b.granted it.1.0 in
    (λ i. record { switches = record { 0 = bits i }; granted = granted i }, it.1.1)

pub same_stretches : (one other : List Stretch) (rest more : List ℕ) → AllByRecursion IsShort one → AllByRecursion IsShort other
    → HasNoStretch rest → HasNoStretch more → flat_map stretch_line one ++ rest ≡ flat_map stretch_line other ++ more
    → (one ≡ other) × (rest ≡ more)
same_stretches [] [] rest more a b none others e = (refl, e)
same_stretches [] (t ∷ other) rest more a b none others e =
    absurd (let clash : 97 ≡ 114 = sym none ∙ ap (λ (l : List ℕ). get_or l 2 0) e in omega (arith, clash))
same_stretches (s ∷ one) [] rest more a b none others e =
    absurd (let clash : 114 ≡ 97 = ap (λ (l : List ℕ). get_or l 2 0) e ∙ others in omega (arith, clash))
same_stretches (s ∷ one) (t ∷ other) rest more a b none others e =
    let here = same_stretch s t (flat_map stretch_line one ++ rest) (flat_map stretch_line other ++ more) a.0 b.0
    (sym (append_assoc (stretch_line s) (flat_map stretch_line one) rest) ∙ (e ∙ append_assoc (stretch_line t) (flat_map stretch_line other) more)) in
    let behind = same_stretches one other rest more a.1 b.1 none others here.1 in
    (ap (λ x. x ∷ one) here.0 ∙ ap (λ xs. t ∷ xs) behind.0, behind.1)

-- ---- pockets

-- no line of a pocket begins here
abbrev pub HasNoPocket : List ℕ → Type 0
HasNoPocket text = get_or text 0 0 ≡ 83

-- a line of a pocket begins here, with a place
record HasPlace (text : List ℕ) (place : ℕ) : Type 0 where
  pub small : place < 2 ^ 64
  pub pocket : ℕ
  pub few : pocket < 10
  pub rest : List ℕ
  pub is : text ≡ apart_line place pocket ++ rest

-- the first line of a pocket here, if there is one, is that of a later place
abbrev IsBehind : ℕ → List ℕ → Type 0
IsBehind place text = HasNoPocket text ⊎ ((later : ℕ) × (place < later) × HasPlace text later)

behind : (place first : ℕ) (cards : List Punched) (rest : List ℕ) → place < first → first + length cards < 2 ^ 64 → HasNoPocket rest
    → IsBehind place (pocket_lines first cards ++ rest)
behind place first [] rest less small none = inl none
behind place first (c ∷ cards) rest less small none = go c.pocket (behind place (first + 1) cards rest (omega (arith, less)) (omega (arith, small)) none)
  where
    go : (pocket : Pocket) → IsBehind place (pocket_lines (first + 1) cards ++ rest) → IsBehind place ((pocket_line first pocket ++ pocket_lines (first + 1) cards) ++ rest)
    go Normal next = next
    go Four next = inr (
      first,
      less,
      record {
        small = omega (arith, small);
        pocket = 4;
        few = omega arith;
        rest = pocket_lines (first + 1) cards ++ rest;
        is = append_assoc (apart_line first 4) (pocket_lines (first + 1) cards) rest;
      },
    )
    go Eight next = inr (
      first,
      less,
      record {
        small = omega (arith, small);
        pocket = 8;
        few = omega arith;
        rest = pocket_lines (first + 1) cards ++ rest;
        is = append_assoc (apart_line first 8) (pocket_lines (first + 1) cards) rest;
      },
    )

-- two lines of pockets
same_apart : (place later pocket other : ℕ) (rest more : List ℕ) → place < 2 ^ 64 → later < 2 ^ 64 → pocket < 10 → other < 10
    → apart_line place pocket ++ rest ≡ apart_line later other ++ more → (place ≡ later) × ((pocket ≡ other) × (rest ≡ more))
same_apart place later pocket other rest more a b c d e =
    let it = same_pair (decimal place) (decimal later) (decimal pocket) (decimal other) rest more (no_blank place a) (no_blank later b)
    (no_end pocket (omega (arith, c))) (no_end other (omega (arith, d))) (ap (drop 7) e) in
    (decimal_injective place later a b it.0, (decimal_injective pocket other (omega (arith, c)) (omega (arith, d)) it.1.0, it.1.1))

-- a line of a place is no line of a later one
not_behind : (place pocket : ℕ) (rest text : List ℕ) → place < 2 ^ 64 → pocket < 10 → IsBehind place text → apart_line place pocket ++ rest ≢ text
not_behind place pocket rest text small few (inl none) e =
    absurd (let clash : 112 ≡ 83 = ap (λ (l : List ℕ). get_or l 0 0) e ∙ none in omega (arith, clash))
not_behind place pocket rest text small few (inr it) e =
    let same = same_apart place it.0 pocket it.2.pocket rest it.2.rest small it.2.small few it.2.few (e ∙ it.2.is) in
    omega (arith, same.0, it.1)

-- the pockets of cards
abbrev pub pockets_of : List Punched → List Pocket
pockets_of = map (λ (c : Punched). c.pocket)

-- the lines of two cards with the same place, and what is behind them
same_pocket : (place : ℕ) (p q : Pocket) (rest more : List ℕ) → place < 2 ^ 64 → IsBehind place rest → IsBehind place more
    → pocket_line place p ++ rest ≡ pocket_line place q ++ more → (p ≡ q) × (rest ≡ more)
same_pocket place Normal Normal rest more small a b e = (refl, e)
same_pocket place Normal Four rest more small a b e = absurd (not_behind place 4 more rest small (omega arith) a (sym e))
same_pocket place Normal Eight rest more small a b e = absurd (not_behind place 8 more rest small (omega arith) a (sym e))
same_pocket place Four Normal rest more small a b e = absurd (not_behind place 4 rest more small (omega arith) b e)
same_pocket place Four Four rest more small a b e = (refl, (same_apart place place 4 4 rest more small small (omega arith) (omega arith) e).1.1)
same_pocket place Four Eight rest more small a b e =
    absurd (omega (arith, (same_apart place place 4 8 rest more small small (omega arith) (omega arith) e).1.0))
same_pocket place Eight Normal rest more small a b e = absurd (not_behind place 8 rest more small (omega arith) b e)
same_pocket place Eight Four rest more small a b e =
    absurd (omega (arith, (same_apart place place 8 4 rest more small small (omega arith) (omega arith) e).1.0))
same_pocket place Eight Eight rest more small a b e = (refl, (same_apart place place 8 8 rest more small small (omega arith) (omega arith) e).1.1)

pub same_pockets : (first : ℕ) (one other : List Punched) (rest more : List ℕ) → length one ≡ length other → first + length one < 2 ^ 64
    → HasNoPocket rest → HasNoPocket more → pocket_lines first one ++ rest ≡ pocket_lines first other ++ more
    → (pockets_of one ≡ pockets_of other) × (rest ≡ more)
same_pockets first [] [] rest more long small none others e = (refl, e)
same_pockets first [] (d ∷ other) rest more long small none others e = absurd (omega (arith, long))
same_pockets first (c ∷ one) [] rest more long small none others e = absurd (omega (arith, long))
same_pockets first (c ∷ one) (d ∷ other) rest more long small none others e =
    let all : pocket_line first c.pocket ++ (pocket_lines (first + 1) one ++ rest) ≡ pocket_line first d.pocket ++ (pocket_lines (first + 1) other ++ more) =
    sym (append_assoc (pocket_line first c.pocket) (pocket_lines (first + 1) one) rest)
    ∙ (e ∙ append_assoc (pocket_line first d.pocket) (pocket_lines (first + 1) other) more) in
    let here = same_pocket first c.pocket d.pocket (pocket_lines (first + 1) one ++ rest) (pocket_lines (first + 1) other ++ more) (omega (arith, small))
    (behind first (first + 1) one rest (omega arith) (omega (arith, small)) none)
    (behind first (first + 1) other more (omega arith) (omega (arith, small, long)) others) all in
    let next = same_pockets (first + 1) one other rest more (omega (arith, long)) (omega (arith, small)) none others here.1 in
    (ap (λ p. p ∷ pockets_of one) here.0 ∙ ap (λ ps. d.pocket ∷ ps) next.0, next.1)
