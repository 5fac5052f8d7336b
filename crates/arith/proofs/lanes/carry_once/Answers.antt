use Rattle.std.proofs.Common.{◌++◌, [], ◌∷◌, ◌+◌, ◌<◌, ◌≤◌, ◌∙◌, ap, arith, drop, map, length}
use Rattle.std.specs.Simd.Lanes.{sum_l, zip2}
use Rattle.std.proofs.lemmas.List.Elements.{All-same}
use Rattle.arith.specs.Columns.{number}
use Rattle.arith.proofs.LaneCarries.{unit, units_small, left_small, step_number, step_long, step_most, step_fewer}
use Rattle.arith.proofs.lanes.carry_once.Goals as goal

pub totals-requires-clause-a : goal.totals-requires-clause-a
totals-requires-clause-a c = All-same (λ x. x < 128) _ _ c.units.ensures (units_small c.args.sums c.requires.most)

pub totals-requires-clause-b : goal.totals-requires-clause-b
totals-requires-clause-b c =
    All-same (λ x. x < 128) _ _ (c.one_left.ensures ∙ ap (λ xs. drop 1 xs ++ 0 ∷ []) c.carries.ensures) (left_small c.args.sums c.requires.sixteen)

pub returns-clause-number : goal.returns-clause-number
returns-clause-number c =
    let step = c.totals.ensures ∙ ap (λ xs. zip2 (λ x y. x + y) xs c.one_left.result) c.units.ensures
    ∙ ap (zip2 (λ x y. x + y) (map unit c.args.sums)) (c.one_left.ensures ∙ ap (λ xs. drop 1 xs ++ 0 ∷ []) c.carries.ensures) in
    ap number step ∙ step_number c.args.sums c.requires.sixteen c.requires.most c.requires.room

pub returns-clause-sixteen : goal.returns-clause-sixteen
returns-clause-sixteen c =
    let step = c.totals.ensures ∙ ap (λ xs. zip2 (λ x y. x + y) xs c.one_left.result) c.units.ensures
    ∙ ap (zip2 (λ x y. x + y) (map unit c.args.sums)) (c.one_left.ensures ∙ ap (λ xs. drop 1 xs ++ 0 ∷ []) c.carries.ensures) in
    ap length step ∙ step_long c.args.sums c.requires.sixteen c.requires.most c.requires.room

pub returns-clause-most : goal.returns-clause-most
returns-clause-most c =
    let step = c.totals.ensures ∙ ap (λ xs. zip2 (λ x y. x + y) xs c.one_left.result) c.units.ensures
    ∙ ap (zip2 (λ x y. x + y) (map unit c.args.sums)) (c.one_left.ensures ∙ ap (λ xs. drop 1 xs ++ 0 ∷ []) c.carries.ensures) in
    All-same (λ sum. sum ≤ 18) _ _ step (step_most c.args.sums c.requires.sixteen c.requires.most c.requires.room)

pub returns-clause-fewer : goal.returns-clause-fewer
returns-clause-fewer c over =
    let step = c.totals.ensures ∙ ap (λ xs. zip2 (λ x y. x + y) xs c.one_left.result) c.units.ensures
    ∙ ap (zip2 (λ x y. x + y) (map unit c.args.sums)) (c.one_left.ensures ∙ ap (λ xs. drop 1 xs ++ 0 ∷ []) c.carries.ensures) in
    let less = step_fewer c.args.sums c.requires.sixteen c.requires.most c.requires.room over in
    omega (arith, ap sum_l step, less)
