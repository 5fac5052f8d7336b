-- sums by signs
use Rattle.std.proofs.Common.{◌≡◌, ℕ, zero, suc, ◌+◌, ◌-◌, ◌^◌, ◌<◌, ◌≤◌, Bool, true, false, List, refl, sym, ◌∙◌, ap, arith, length, get_or, if◌then◌else◌, leb, not}
use mathlib.Core.Bool.{beq}
use Rattle.std.proofs.Math.Nat.{mod-eq_of_lt, pow-le-pow_right}
use Rattle.std.proofs.lemmas.Bool.{le-leb, lt-leb, leb-true, leb-false}
use Rattle.bcd.specs.Table.{zone_of}
use Rattle.bcd.specs.declared.Zone.{Zone}
use Rattle.core_store.specs.Storage.{Storage, code_at, codes_ending, put_codes}
use Rattle.core_store.proofs.Fields.{length-codes_ending, last-codes_ending, codes_ending-put_codes, put_codes-put_codes, length-put_codes}
use Rattle.arith.specs.Decimal.{value, spelled, units, is_minus, sign_zone}
use Rattle.core_store.specs.Operands.{is_minus_zone}
use Rattle.arith.specs.Operands.{AreCounts}
use Rattle.arith.specs.Sums.{is_same, sum_codes, sum_overflows}
use Rattle.arith.specs.Joining.{joined_total}
use Rattle.arith.specs.declared.joining.Joined.TheVariants.{Sum, Difference, Complement}
use Rattle.arith.proofs.SumDigits.{ten_pos, value_below, value-spelled, spelled-over, length-spelled}

pub is_same_equal : (a b : Bool) → a ≡ b → is_same a b ≡ true
is_same_equal true b h = sym h
is_same_equal false b h = ap not (sym h)

pub is_same_other : (a b : Bool) → (a ≡ b → ⊥) → is_same a b ≡ false
is_same_other true true h = absurd (h refl)
is_same_other true false h = refl
is_same_other false true h = refl
is_same_other false false h = absurd (h refl)

pub beq_equal : (a b : Bool) → beq a b ≡ true → a ≡ b
beq_equal true true h = refl
beq_equal true false h = absurd (cc)
beq_equal false true h = absurd (cc)
beq_equal false false h = refl

pub beq_other : (a b : Bool) → beq a b ≡ false → a ≡ b → ⊥
beq_other true true h e = cc
beq_other true false h e = cc
beq_other false true h e = cc
beq_other false false h e = cc

-- a sign, turned round where that is asked for
pub turned : (minus reversed : Bool) → not (beq minus reversed) ≡ (if reversed then not minus else minus)
turned true true = refl
turned true false = refl
turned false true = refl
turned false false = refl

pub units-codes_ending : (s : Storage) (p count : ℕ) → p < length s → 1 ≤ count → count ≤ p + 1 → units (codes_ending s p count) ≡ code_at s p
units-codes_ending s p zero h some le = absurd (omega arith)
units-codes_ending s p (suc count) h some le =
    let long : length (codes_ending s p (suc count)) ≡ suc count = length-codes_ending s p (suc count) h le in
    let last : length (codes_ending s p (suc count)) - 1 ≡ count = omega arith in
    ap (λ n. get_or (codes_ending s p (suc count)) n 0) last ∙ last-codes_ending s p count h (omega arith)

module _ (s : Storage) (a a_count b b_count : ℕ) (known : AreCounts s a b a_count b_count) (minus : Bool) where
  abbrev pub A : List ℕ
  A = codes_ending s a a_count

  abbrev pub B : List ℕ
  B = codes_ending s b b_count

  abbrev pub minus_b : Bool
  minus_b = is_minus_zone (zone_of (code_at s b))

  b_units : units B ≡ code_at s b
  b_units = units-codes_ending s b b_count known.b_in known.b_some known.b_from

  b_minus : is_minus B ≡ minus_b
  b_minus = ap (λ c. is_minus_zone (zone_of c)) b_units

  b_long : length B ≡ b_count
  b_long = length-codes_ending s b b_count known.b_in known.b_from

  pub a_minus : is_minus A ≡ is_minus_zone (zone_of (code_at s a))
  a_minus = ap (λ c. is_minus_zone (zone_of c)) (units-codes_ending s a a_count known.a_in known.a_some known.a_from)

  -- equal signs
  module _ (same : minus ≡ minus_b) where
    same_sign : is_same minus (is_minus B) ≡ true
    same_sign = is_same_equal minus (is_minus B) (same ∙ sym b_minus)

    pub equal_codes : spelled (joined_total Sum s a a_count b b_count) b_count (zone_of (code_at s b)) ≡ sum_codes minus A B
    unfolding sum_codes joined_total
    equal_codes = rw (same_sign, b_units, b_long) refl

    pub equal_overflows : leb (10 ^ b_count) (joined_total Sum s a a_count b b_count) ≡ sum_overflows minus A B
    unfolding sum_overflows joined_total
    equal_overflows = rw (same_sign, b_long) refl

  -- unequal signs
  module _ (differ : minus ≡ minus_b → ⊥) where
    other_sign : is_same minus (is_minus B) ≡ false
    other_sign = is_same_other minus (is_minus B) (λ e. differ (e ∙ b_minus))

    pub unequal_overflows : false ≡ sum_overflows minus A B
    unfolding sum_overflows
    unequal_overflows = rw other_sign refl

    greater_b : value A ≤ value B → spelled (value B - value A) b_count (sign_zone minus_b) ≡ sum_codes minus A B
    unfolding sum_codes
    greater_b le = rw (other_sign, le-leb (value A) (value B) le, b_units, b_long) refl

    greater_a : value B < value A → spelled (value A - value B) b_count (sign_zone minus) ≡ sum_codes minus A B
    unfolding sum_codes
    greater_a lt = rw (other_sign, lt-leb (value A) (value B) lt, b_long) refl

    pub carried_codes : leb (10 ^ b_count) (joined_total Difference s a a_count b b_count) ≡ true →
        spelled (joined_total Difference s a a_count b b_count) b_count (sign_zone minus_b) ≡ sum_codes minus A B
    unfolding joined_total
    carried_codes carried =
        let over : 10 ^ b_count ≤ 10 ^ b_count + value B - value A = leb-true (10 ^ b_count) (10 ^ b_count + value B - value A) carried in
        let positive : 0 < 10 ^ b_count = ten_pos b_count in
        let le : value A ≤ value B = omega arith in
        let total : 10 ^ b_count + value B - value A ≡ 10 ^ b_count + (value B - value A) = omega arith in
        ap (λ n. spelled n b_count (sign_zone minus_b)) total ∙ spelled-over (value B - value A) b_count (sign_zone minus_b) ∙ greater_b le

    module _ (zone : Zone) (none : leb (10 ^ b_count) (joined_total Difference s a a_count b b_count) ≡ false) (first : ℕ) (from : first ≡ b + 1 - b_count) where
      abbrev pub X : List ℕ
      X = spelled (joined_total Difference s a a_count b b_count) b_count zone

      abbrev pub between : Storage
      between = put_codes s first X

      below : joined_total Difference s a a_count b b_count < 10 ^ b_count
      below = leb-false (10 ^ b_count) (joined_total Difference s a a_count b b_count) none

      x_long : length X ≡ b_count
      x_long = length-spelled (joined_total Difference s a a_count b b_count) b_count zone

      x_read : codes_ending between b b_count ≡ X
      x_read =
          let b_from : b_count ≤ b + 1 = known.b_from in
          ap (codes_ending between b) (sym x_long) ∙ codes_ending-put_codes s b X first known.b_in (omega (arith, x_long))

      x_value : value (codes_ending between b b_count) ≡ joined_total Difference s a a_count b b_count
      x_value = ap value x_read ∙ value-spelled (joined_total Difference s a a_count b b_count) b_count zone ∙ mod-eq_of_lt below

      a_bound : value A ≤ 10 ^ b_count
      a_bound =
          let within : value A < 10 ^ length A = value_below A in
          let long : 10 ^ length A ≡ 10 ^ a_count = ap (λ n. 10 ^ n) (length-codes_ending s a a_count known.a_in known.a_from) in
          let grows : 10 ^ a_count ≤ 10 ^ b_count = pow-le-pow_right (omega arith) known.cut in
          omega arith

      total_of_rest : joined_total Complement between a 0 b b_count ≡ value A - value B
      unfolding joined_total
      total_of_rest =
          let bound : value A ≤ 10 ^ b_count = a_bound in
          let small : 10 ^ b_count + value B - value A < 10 ^ b_count = below in
          let rest : 10 ^ b_count - (10 ^ b_count + value B - value A) ≡ value A - value B = omega arith in
          ap (λ n. 10 ^ b_count - n) x_value ∙ rest

      greater : value B < value A
      unfolding joined_total
      greater = let small : 10 ^ b_count + value B - value A < 10 ^ b_count = below in omega arith

      pub recomplemented_codes : put_codes between first (spelled (joined_total Complement between a 0 b b_count) b_count (sign_zone minus)) ≡ put_codes s first (sum_codes minus A B)
      recomplemented_codes =
          let rest = spelled (joined_total Complement between a 0 b b_count) b_count (sign_zone minus) in
          put_codes-put_codes s first X rest (x_long ∙ sym (length-spelled (joined_total Complement between a 0 b b_count) b_count (sign_zone minus)))
          ∙ ap (λ n. put_codes s first (spelled n b_count (sign_zone minus))) total_of_rest
          ∙ ap (put_codes s first) (greater_a greater)

-- ---- what the code does for each pair of signs

module _ (s : Storage) (a a_count b b_count : ℕ) (known : AreCounts s a b a_count b_count) (minus minus_b : Bool) (sign_b : minus_b ≡ is_minus_zone (zone_of (code_at s b))) where
  abbrev A_codes : List ℕ
  A_codes = codes_ending s a a_count

  abbrev B_codes : List ℕ
  B_codes = codes_ending s b b_count

  abbrev first : ℕ
  first = b + 1 - b_count

  module _ (same : beq minus minus_b ≡ true) where
    agree : minus ≡ is_minus_zone (zone_of (code_at s b))
    agree = beq_equal minus minus_b same ∙ sign_b

    pub sum_put : (zone : Zone) (code : ℕ) (new : Storage) → zone ≡ zone_of code → code ≡ code_at s b → new ≡ put_codes s first (spelled (joined_total Sum s a a_count b b_count) b_count zone) →
        new ≡ put_codes s first (sum_codes minus A_codes B_codes)
    sum_put zone code new zone_is read written =
        written ∙ ap (λ z. put_codes s first (spelled (joined_total Sum s a a_count b b_count) b_count z)) (zone_is ∙ ap zone_of read)
        ∙ ap (put_codes s first) (equal_codes s a a_count b b_count known minus agree)

    pub sum_carried : (carry : Bool) → carry ≡ leb (10 ^ b_count) (joined_total Sum s a a_count b b_count) → carry ≡ sum_overflows minus A_codes B_codes
    sum_carried carry is = is ∙ equal_overflows s a a_count b b_count known minus agree

  module _ (other : beq minus minus_b ≡ false) where
    differ : minus ≡ is_minus_zone (zone_of (code_at s b)) → ⊥
    differ e = beq_other minus minus_b other (e ∙ sym sign_b)

    pub no_overflow : false ≡ sum_overflows minus A_codes B_codes
    no_overflow = unequal_overflows s a a_count b b_count known minus differ

    pub not_less_b : value A_codes ≤ value B_codes → spelled (value B_codes - value A_codes) b_count (sign_zone minus_b) ≡ sum_codes minus A_codes B_codes
    not_less_b le = ap (λ m. spelled (value B_codes - value A_codes) b_count (sign_zone m)) sign_b ∙ greater_b s a a_count b b_count known minus differ le

    pub less_b : value B_codes < value A_codes → spelled (value A_codes - value B_codes) b_count (sign_zone minus) ≡ sum_codes minus A_codes B_codes
    less_b lt = greater_a s a a_count b b_count known minus differ lt

    module _ (carry : Bool) (zone : Zone) (between : Storage) (carry_is : carry ≡ leb (10 ^ b_count) (joined_total Difference s a a_count b b_count))
        (written : between ≡ put_codes s first (spelled (joined_total Difference s a a_count b b_count) b_count zone)) where
      pub same_size : length between ≡ length s
      same_size = ap length written ∙ length-put_codes s first (spelled (joined_total Difference s a a_count b b_count) b_count zone)

      pub difference_put : carry ≡ true → zone ≡ sign_zone minus_b → between ≡ put_codes s first (sum_codes minus A_codes B_codes)
      difference_put carried zone_is =
          written ∙ ap (λ z. put_codes s first (spelled (joined_total Difference s a a_count b b_count) b_count z)) (zone_is ∙ ap sign_zone sign_b)
          ∙ ap (put_codes s first) (carried_codes s a a_count b b_count known minus differ (sym carry_is ∙ carried))

      pub recomplement_put : carry ≡ false → (sign : Zone) (new : Storage) → sign ≡ sign_zone minus → new ≡ put_codes between first (spelled (joined_total Complement between a 0 b b_count) b_count sign) →
          new ≡ put_codes s first (sum_codes minus A_codes B_codes)
      recomplement_put none sign new sign_is rewritten =
          rewritten
          ∙ ap (λ t. put_codes t first (spelled (joined_total Complement t a 0 b b_count) b_count sign)) written
          ∙ ap (λ z. put_codes (put_codes s first (spelled (joined_total Difference s a a_count b b_count) b_count zone)) first (spelled (joined_total Complement (put_codes s first (spelled (joined_total Difference s a a_count b b_count) b_count zone)) a 0 b b_count) b_count z)) sign_is
          ∙ recomplemented_codes s a a_count b b_count known minus differ zone (sym carry_is ∙ none) first refl
