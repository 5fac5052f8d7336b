-- marks among the last sixteen positions
use Rattle.std.proofs.Common.{◌≡◌, ℕ, ◌+◌, ◌-◌, ◌<◌, ◌≤◌, nat_le, if◌then◌else◌, true, false, min, Option, Some, None, refl, sym, ◌∙◌, ap, arith}
use Rattle.std.proofs.Math.Decide.{dec_lt}
use Rattle.std.proofs.lemmas.Bool.{le-leb, lt-leb}
use Rattle.std.specs.Option.{option_map}
use Rattle.core_store.specs.Storage.{Storage, is_marked, greatest_mark, GreatestMark, field_length}
use Rattle.core_store.specs.Operands.{near_length, sought_near, cut_length, is_within}
use Rattle.core_store.proofs.Marks.{greatest_is, greatest_is_greatest}

-- none of the lowest count positions is marked
abbrev pub Bare : Storage → ℕ → ℕ → Type 0
Bare s p count = (k : ℕ) → k < count → is_marked s (p - k) ≡ false

pub bare_none : (s : Storage) (p : ℕ) → Bare s p 0
bare_none s p k lt = absurd (omega arith)

pub bare_more : (s : Storage) (p count : ℕ) → Bare s p count → is_marked s (p - count) ≡ false → Bare s p (count + 1)
bare_more s p count none here k lt =
    elim (dec_lt k count) [
      | yes before ↦ none k before
      | no last ↦ let same : k ≡ count = omega arith in ap (λ n. is_marked s (p - n)) same ∙ here
    ]

pub field_here : (s : Storage) (p count : ℕ) → count ≤ p → is_marked s (p - count) ≡ true → Bare s p count → field_length s p ≡ Some (count + 1)
unfolding field_length
field_here s p count le marked none =
    let many : p + 1 - (p - count) ≡ count + 1 = omega arith in
    let found : greatest_mark s p ≡ Some (p - count) =
    greatest_is s p (p - count) marked (omega arith)
    (λ k after upto. let back : k ≡ p - (p - k) = omega arith in ap (is_marked s) back ∙ none (p - k) (omega arith)) in
    ap (option_map (λ q. p + 1 - q)) found ∙ ap Some many

pub near_marked : (s : Storage) (p count : ℕ) → count < 16 → 15 ≤ p → is_marked s (p - count) ≡ true → Bare s p count → count + 1 ≡ near_length s p
unfolding near_length
near_marked s p count lt room marked none =
    let least : min 17 (count + 1) ≡ count + 1 = omega arith in
    sym (ap sought_near (field_here s p count (omega arith) marked none) ∙ least)

far : (s : Storage) (p : ℕ) (found : Option ℕ) → 15 ≤ p → GreatestMark s p found → Bare s p 16 → sought_near (option_map (λ q. p + 1 - q) found) ≡ 17
far s p None room h none = refl
far s p (Some q) room h none =
    let not_above : q ≤ p = h.not_above in
    elim (dec_lt (p - q) 16) [
      | yes near ↦
          let back : q ≡ p - (p - q) = omega arith in
          let clash : true ≡ false = sym h.marked ∙ ap (is_marked s) back ∙ none (p - q) near in
          absurd (cc)
      | no off ↦ omega arith
    ]

pub near_unmarked : (s : Storage) (p : ℕ) → 15 ≤ p → Bare s p 16 → 17 ≡ near_length s p
unfolding near_length field_length
near_unmarked s p room none = sym (far s p (greatest_mark s p) room (greatest_is_greatest s p) none)

sought : (found : Option ℕ) (near : ℕ) → near ≡ sought_near found → near ≤ 16 → Some near ≡ found
sought None near is le = absurd (omega arith)
sought (Some n) near is le = let same : near ≡ n = omega arith in ap Some same

pub near_is_field : (s : Storage) (p near : ℕ) → near ≡ near_length s p → near ≤ 16 → Some near ≡ field_length s p
unfolding near_length
near_is_field s p near is le = sought (field_length s p) near is le

cut_of : (found : Option ℕ) (p limit near : ℕ) → near ≡ sought_near found → limit ≤ 16 → 15 ≤ p → Some (min near limit) ≡ (if is_within found limit then found else (if nat_le limit (p + 1) then Some limit else None))
cut_of None p limit near is few room =
    let least : min near limit ≡ limit = omega arith in
    ap Some least ∙ sym (ap (λ b. if b then Some limit else None) (le-leb limit (p + 1) (omega arith)))
cut_of (Some n) p limit near is few room =
    elim (dec_lt limit n) [
      | yes longer ↦
          let least : min near limit ≡ limit = omega arith in
          ap Some least ∙ sym (ap (λ b. if b then Some limit else None) (le-leb limit (p + 1) (omega arith)))
          ∙ sym (ap (λ b. if b then Some n else (if nat_le limit (p + 1) then Some limit else None)) (lt-leb n limit longer))
      | no within ↦
          let least : min near limit ≡ n = omega arith in
          ap Some least ∙ sym (ap (λ b. if b then Some n else (if nat_le limit (p + 1) then Some limit else None)) (le-leb n limit (omega arith)))
    ]

pub cut_is_near : (s : Storage) (p limit near : ℕ) → near ≡ near_length s p → limit ≤ 16 → 15 ≤ p → (least : ℕ) → least ≡ min near limit → Some least ≡ cut_length s p limit
unfolding near_length cut_length
cut_is_near s p limit near is few room least least_is = ap Some least_is ∙ cut_of (field_length s p) p limit near is few room
