use Rattle.std.proofs.Common.{◌≡◌, ◌∙◌, get_or, sym, arith, map}
use Rattle.std.specs.Simd.Lanes.{mask_l, chunk}
use Rattle.std.proofs.lemmas.Simd.{none_from_empty_mask}
use Rattle.std.proofs.lemmas.Bool.{eqb-true}
use Rattle.core_store.proofs.PlaneLemmas.{is_some, bitmask_marks, not_other, not_zero, some_is, some_of_chunk}
use Rattle.core_store.proofs.planes.has_mark.Goals as goal

pub returns-clause-unmarked : goal.returns-clause-unmarked
returns-clause-unmarked c empty k le lt =
    let marks = c.args.marks.now in
    let mask = bitmask_marks marks c.args.at 32 (omega arith) (omega arith) c.requires.bits in
    let none : mask_l (map is_some (chunk c.args.at 32 marks)) ≡ 0 = sym mask ∙ eqb-true _ 0 (not_other _ empty) in
    not_zero (get_or marks k 0) (none_from_empty_mask is_some marks c.args.at 32 0 (omega arith) none k le lt)

pub returns-clause-marked : goal.returns-clause-marked
returns-clause-marked c filled =
    let marks = c.args.marks.now in
    let mask = bitmask_marks marks c.args.at 32 (omega arith) (omega arith) c.requires.bits in
    some_of_chunk marks c.args.at 32 (omega arith) (λ none. some_is _ filled (mask ∙ none))
