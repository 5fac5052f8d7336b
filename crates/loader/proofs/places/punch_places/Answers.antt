use Rattle.std.proofs.Common.{◌++◌, length, ap, ◌∙◌, arith}
use Rattle.loader.specs.Stretches.{marks_of}
use Rattle.loader.specs.Cards.{clearing, marking, three}
use Rattle.loader.proofs.PieceBounds.{lawful_places, places_filled}
use Rattle.loader.proofs.places.punch_places.Goals as goal

pub punch_marking-marked-requires-clause-room : goal.punch_marking-marked-requires-clause-room
punch_marking-marked-requires-clause-room c =
    let most = lawful_places c.args.stretch.now c.requires.lawful in
    let same = ap (λ s. length (marking (marks_of s))) c.behind_first.ensures in
    omega (arith, most, same, c.punch_clearing-cleared.ensures.length, c.requires.room)

pub overflow_add-cleared : goal.overflow_add-cleared
overflow_add-cleared c =
    let most = lawful_places c.args.stretch.now c.requires.lawful in
    let same = ap (λ s. length (marking (marks_of s))) c.behind_first.ensures in
    omega (arith, most, same, c.punch_clearing-cleared.ensures.count, c.punch_marking-marked.ensures.count)

pub punch_unused-requires-clause-used : goal.punch_unused-requires-clause-used
punch_unused-requires-clause-used c =
    let most = lawful_places c.args.stretch.now c.requires.lawful in
    let same = ap (λ s. length (marking (marks_of s))) c.behind_first.ensures in
    omega (arith, most, same, c.punch_clearing-cleared.ensures.count, c.punch_marking-marked.ensures.count)

pub punch_unused-requires-clause-room : goal.punch_unused-requires-clause-room
punch_unused-requires-clause-room c =
    let most = lawful_places c.args.stretch.now c.requires.lawful in
    let same = ap (λ s. length (marking (marks_of s))) c.behind_first.ensures in
    omega (arith, most, same, c.requires.room, c.punch_clearing-cleared.ensures.count, c.punch_marking-marked.ensures.count, c.punch_clearing-cleared.ensures.length, c.punch_marking-marked.ensures.length)

pub returns-clause-punched : goal.returns-clause-punched
returns-clause-punched c =
    places_filled c.args.columns.now c.punch_clearing-cleared.new.columns c.punch_marking-marked.new.columns c.punch_unused.new.columns
    (clearing c.args.stretch.now) (marking (marks_of c.behind_first.result.now)) c.punch_clearing-cleared.result c.punch_marking-marked.result
    c.punch_clearing-cleared.ensures.punched c.punch_marking-marked.ensures.punched c.punch_unused.ensures.punched
    c.punch_clearing-cleared.ensures.count c.punch_marking-marked.ensures.count
    ∙ ap (λ s. c.args.columns.now ++ three (clearing c.args.stretch.now ++ marking (marks_of s))) c.behind_first.ensures

pub returns-clause-length : goal.returns-clause-length
returns-clause-length c =
    let most = lawful_places c.args.stretch.now c.requires.lawful in
    let same = ap (λ s. length (marking (marks_of s))) c.behind_first.ensures in
    omega (arith, most, same, c.punch_clearing-cleared.ensures.count, c.punch_marking-marked.ensures.count, c.punch_clearing-cleared.ensures.length, c.punch_marking-marked.ensures.length, c.punch_unused.ensures.length)
