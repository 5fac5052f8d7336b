-- the counts are those of whole fields
use Rattle.std.proofs.Common.{◌≡◌, ◌≤◌, ℕ, Bool, true, false, Option, Some, None, Ok, min, refl, sym, ◌∙◌, ap, length, ltb, ◌&&◌}
use Rattle.std.specs.Option.{option_map}
use Rattle.core_store.specs.Storage.{Storage, field_length, field, codes_ending}
use Rattle.core_store.specs.Operands.{are_inside, cut_length, cut, near_length}
use Rattle.core_store.proofs.NearMarks.{near_is_field, cut_is_near}
use Rattle.core_store.specs.Checked.{require, find_or}
use Rattle.core_store.specs.declared.checks.Check.TheVariants.{Address}
use Rattle.arith.specs.Operands.{counts_at, AreOfFields}
use Rattle.arith.specs.declared.operands.Counts.{Counts}

cut_found : (b_count : ℕ) (found : Option ℕ) (counts : Counts) → find_or found Address (λ a_count. Ok (record { a = a_count; b = b_count })) ≡ Ok counts → (b_count ≡ counts.b) × (found ≡ Some counts.a)
cut_found b_count (Some a_count) counts h = (cc, cc)
cut_found b_count None counts h = absurd (cc)

both_found : (inside : Bool) (found : Option ℕ) (cut_to : ℕ → Option ℕ) (counts : Counts) →
    require inside Address (find_or found Address (λ b_count. find_or (cut_to b_count) Address (λ a_count. Ok (record { a = a_count; b = b_count })))) ≡ Ok counts →
    (found ≡ Some counts.b) × (cut_to counts.b ≡ Some counts.a)
both_found true (Some b_count) cut_to counts h =
    let known = cut_found b_count (cut_to b_count) counts h in
    (ap Some known.0, ap cut_to (sym known.0) ∙ known.1)
both_found true None cut_to counts h = absurd (cc)
both_found false found cut_to counts h = absurd (cc)

pub are_of_fields : (s : Storage) (a b : ℕ) (counts : Counts) → counts_at s a b ≡ Ok counts → AreOfFields s a b counts
unfolding counts_at field cut
are_of_fields s a b counts h =
    let known = both_found (ltb a (length s) && ltb b (length s)) (field_length s b) (cut_length s a) counts h in
    record { field = ap (option_map (codes_ending s b)) known.0; cut = ap (option_map (codes_ending s a)) known.1 }

-- counts that were found among sixteen characters
pub counts_near : (s : Storage) (a b a_near b_near least : ℕ) → true ≡ are_inside s a b → 15 ≤ a → a_near ≡ near_length s a → b_near ≡ near_length s b → b_near ≤ 16 → least ≡ min a_near b_near →
    counts_at s a b ≡ Ok (record { a = least; b = b_near })
unfolding counts_at
counts_near s a b a_near b_near least inside room is_a is_b few least_is =
    rw (← inside, ← near_is_field s b b_near is_b few, ← cut_is_near s a b_near a_near is_a few room least least_is) refl
