use Rattle.std.proofs.Common.{◌++◌, ◌-◌, ◌+◌, ◌<◌, ◌∙◌, ap, arith, take, drop, map, replicate, get_or}
use Rattle.std.specs.Simd.Lanes.{zip2}
use Rattle.std.proofs.lemmas.List.Elements.{All-same, All-append, All-take, All-drop}
use Rattle.bcd.specs.Table.{zone_of}
use Rattle.arith.specs.Columns.{characters}
use Rattle.arith.proofs.LaneLemmas.{part, parts_small, zone_small, written_is, characters_below}
use Rattle.arith.proofs.lanes.write_digits.Goals as goal

pub totals-requires-clause-a : goal.totals-requires-clause-a
totals-requires-clause-a c = rw c.replace_lanes.ensures (parts_small c.args.digits c.requires.digits)

pub totals-requires-clause-b : goal.totals-requires-clause-b
totals-requires-clause-b c = All-same (λ n. n < 128) _ _ (c.last_of-zone.ensures ∙ ap (λ l. take 15 (replicate 16 0) ++ drop 15 l) c.mask.ensures) (zone_small c.args.old)

pub returns-clause-codes : goal.returns-clause-codes
returns-clause-codes c =
    let k = 16 - c.args.count in
    c.last_of.ensures
    ∙ ap (λ l. take k c.args.old ++ drop k l)
    (c.totals.ensures
    ∙ ap (λ l. zip2 (λ x y. x + y) l c.last_of-zone.result) c.replace_lanes.ensures
    ∙ ap (zip2 (λ x y. x + y) (map part c.args.digits)) (c.last_of-zone.ensures ∙ ap (λ l. take 15 (replicate 16 0) ++ drop 15 l) c.mask.ensures))
    ∙ ap (λ l. take k c.args.old ++ l) (written_is k c.args.digits c.args.old (omega (arith, c.requires.some)) c.requires.sixteen c.requires.sixteen_old c.requires.digits c.requires.codes)

pub returns-clause-below : goal.returns-clause-below
returns-clause-below c =
    let k = 16 - c.args.count in
    All-same (λ code. code < 64) _ (take k c.args.old ++ characters (zone_of (get_or c.args.old 15 0)) (drop k c.args.digits))
    (c.last_of.ensures
    ∙ ap (λ l. take k c.args.old ++ drop k l)
    (c.totals.ensures
    ∙ ap (λ l. zip2 (λ x y. x + y) l c.last_of-zone.result) c.replace_lanes.ensures
    ∙ ap (zip2 (λ x y. x + y) (map part c.args.digits)) (c.last_of-zone.ensures ∙ ap (λ l. take 15 (replicate 16 0) ++ drop 15 l) c.mask.ensures))
    ∙ ap (λ l. take k c.args.old ++ l) (written_is k c.args.digits c.args.old (omega (arith, c.requires.some)) c.requires.sixteen c.requires.sixteen_old c.requires.digits c.requires.codes))
    (All-append (λ code. code < 64) (take k c.args.old) _ (All-take (λ code. code < 64) k c.args.old c.requires.codes)
    (characters_below (zone_of (get_or c.args.old 15 0)) (drop k c.args.digits) (All-drop (λ d. d < 10) k c.args.digits c.requires.digits)))
