-- the next part of a text
use Rattle.std.proofs.Common.{◌≡◌, ◌-◌, ◌<◌, ◌≤◌, ℕ, zero, suc, List, arith}
use Rattle.std.specs.List.{after_first, before_first}
use Rattle.http_messages.specs.Parts.{is_slash, part}

pub part_next : (place : ℕ) (text whole : List ℕ) (first : ℕ) → 0 < place → part place text ≡ part first whole → part (place - 1) (after_first is_slash text) ≡ part first whole
unfolding part
part_next zero text whole first some same = absurd (omega arith)
part_next (suc place) text whole first some same = let e : suc place - 1 ≡ place = omega arith in rw e same

pub part_last : (place : ℕ) (text whole : List ℕ) (first : ℕ) → place ≤ 0 → part place text ≡ part first whole → before_first is_slash text ≡ part first whole
unfolding part
part_last zero text whole first none same = same
part_last (suc place) text whole first none same = absurd (omega arith)
