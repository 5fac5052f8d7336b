use Rattle.std.proofs.Common.{◌+◌, ◌<◌, ◌≤◌, ◌∙◌, sym, ap, arith, length, map}
use Rattle.std.specs.Simd.Lanes.{zip2}
use Rattle.std.proofs.lemmas.List.Elements.{All-same}
use Rattle.arith.specs.Columns.{number, digit_of_part}
use Rattle.arith.proofs.LaneSums.{digits_small, sum_is, sum_long, sums_most}
use Rattle.arith.proofs.lanes.sum.Goals.{then-is_over, else-is_over}
use Rattle.arith.proofs.lanes.sum.Goals as goal

pub totals-sums-requires-clause-a : goal.totals-sums-requires-clause-a
totals-sums-requires-clause-a c = All-same (λ d. d < 128) _ _ c.digits.ensures (digits_small c.args.a c.requires.a_digits)

pub totals-sums-requires-clause-b : goal.totals-sums-requires-clause-b
totals-sums-requires-clause-b c = All-same (λ d. d < 128) _ _ c.digits-2.ensures (digits_small c.args.b c.requires.b_digits)

pub is_over-requires : goal.is_over-requires
is_over-requires c =
    let sums = c.totals-sums.ensures ∙ ap (λ xs. zip2 (λ x y. x + y) xs c.digits-2.result) c.digits.ensures ∙ ap (zip2 (λ x y. x + y) (map digit_of_part c.args.a)) c.digits-2.ensures in
    ap length sums ∙ sum_long c.args.a c.args.b c.requires.a c.requires.b

pub carry-requires-clause-most : goal.carry-requires-clause-most
carry-requires-clause-most c =
    let sums = c.totals-sums.ensures ∙ ap (λ xs. zip2 (λ x y. x + y) xs c.digits-2.result) c.digits.ensures ∙ ap (zip2 (λ x y. x + y) (map digit_of_part c.args.a)) c.digits-2.ensures in
    All-same (λ z. z ≤ 18) _ _ sums (sums_most c.args.a c.args.b c.requires.a_digits c.requires.b_digits)

pub carry-requires-clause-sixteen : goal.carry-requires-clause-sixteen
carry-requires-clause-sixteen c =
    let sums = c.totals-sums.ensures ∙ ap (λ xs. zip2 (λ x y. x + y) xs c.digits-2.result) c.digits.ensures ∙ ap (zip2 (λ x y. x + y) (map digit_of_part c.args.a)) c.digits-2.ensures in
    ap length sums ∙ sum_long c.args.a c.args.b c.requires.a c.requires.b

pub carry-requires-clause-room : goal.carry-requires-clause-room
carry-requires-clause-room c =
    let sums = c.totals-sums.ensures ∙ ap (λ xs. zip2 (λ x y. x + y) xs c.digits-2.result) c.digits.ensures ∙ ap (zip2 (λ x y. x + y) (map digit_of_part c.args.a)) c.digits-2.ensures in
    let number_is = ap number sums ∙ sum_is c.args.a c.args.b (c.requires.a ∙ sym c.requires.b) in
    omega (arith, number_is, c.requires.room)

pub returns-clause-number : goal.returns-clause-number
returns-clause-number c =
    let sums = c.totals-sums.ensures ∙ ap (λ xs. zip2 (λ x y. x + y) xs c.digits-2.result) c.digits.ensures ∙ ap (zip2 (λ x y. x + y) (map digit_of_part c.args.a)) c.digits-2.ensures in
    let number_is = ap number sums ∙ sum_is c.args.a c.args.b (c.requires.a ∙ sym c.requires.b) in
    elim c.if-is_over.branch [ then-is_over w ↦ ap number w.result-is ∙ w.carry.ensures.number ∙ number_is | else-is_over w ↦ ap number w.result-is ∙ number_is ]
