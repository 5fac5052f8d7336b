use Rattle.std.proofs.Common.{◌-◌, ◌++◌, ◌∙◌, ap, arith, take, drop}
use Rattle.std.proofs.lemmas.List.{length-drop}
use Rattle.moves.specs.Blanked.{ends, blanked}
use Rattle.moves.proofs.LaneBlanks.{blanks_are, last_blanked, all_below, all_sixteen}
use Rattle.moves.proofs.lanes.blank_codes.Goals as goal

pub returns-clause-last : goal.returns-clause-last
returns-clause-last c =
    let k = 16 - c.args.count in
    let n = c.min-blanks.result in
    let m = 16 - (c.args.count - n) in
    let long = length-drop k c.args.codes in
    let blanks = blanks_are c.args.codes k c.args.limit (ends c.args.stop) (omega (arith, long)) (omega (arith, long)) c.stops.result n c.stops.ensures c.min-blanks.ensures in
    last_blanked c.args.codes c.last_of.result k n m c.requires.sixteen (omega arith) (omega arith) (c.last_of.ensures ∙ ap (λ l. take m l ++ drop m c.args.codes) c.fade_codes.ensures)
    ∙ ap (λ j. blanked j (drop k c.args.codes)) blanks

pub returns-clause-sixteen : goal.returns-clause-sixteen
returns-clause-sixteen c =
    let k = 16 - c.args.count in
    let n = c.min-blanks.result in
    let m = 16 - (c.args.count - n) in
    all_sixteen c.args.codes c.last_of.result k n m c.requires.sixteen (omega arith) (omega arith) (c.last_of.ensures ∙ ap (λ l. take m l ++ drop m c.args.codes) c.fade_codes.ensures)

pub returns-clause-below : goal.returns-clause-below
returns-clause-below c =
    let k = 16 - c.args.count in
    let n = c.min-blanks.result in
    let m = 16 - (c.args.count - n) in
    all_below c.args.codes c.last_of.result k n m c.requires.sixteen (omega arith) (omega arith) (c.last_of.ensures ∙ ap (λ l. take m l ++ drop m c.args.codes) c.fade_codes.ensures) c.requires.below
