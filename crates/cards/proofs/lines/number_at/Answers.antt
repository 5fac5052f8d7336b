use Rattle.std.proofs.Common.{◌≡◌, ◌*◌, ◌∙◌, sym, length, arith}
use Rattle.cards.proofs.LineColumns.{glyph_found, glyph_each, three_at}
use Rattle.cards.proofs.lines.number_at.Goals as goal

pub returns-in-Text-clause-found : goal.returns-in-Text-clause-found
returns-in-Text-clause-found c =
    let long : length c.args.line.now ≡ 81 = rw c.in-Text.is at c.requires.line in
    rw c.in-Text.is (glyph_found c.args.line.now c.args.column (omega arith) (c.type_inv.line c.args.column).fits)

pub returns-in-Text-clause-each : goal.returns-in-Text-clause-each
returns-in-Text-clause-each c code below =
    let long : length c.args.line.now ≡ 81 = rw c.in-Text.is at c.requires.line in
    rw c.in-Text.is (glyph_each c.args.line.now c.args.column code (omega arith) below)

pub returns-in-Punched-clause-found : goal.returns-in-Punched-clause-found
returns-in-Punched-clause-found c below =
    let long : length c.args.line.now ≡ 241 = rw c.in-Punched.is at c.requires.line in
    rw c.in-Punched.is (three_at c.args.line.now (3 * c.args.column) (omega arith) ∙ c.number_of_digits.ensures.found below)

pub returns-in-Punched-clause-each : goal.returns-in-Punched-clause-each
returns-in-Punched-clause-each c code below =
    let long : length c.args.line.now ≡ 241 = rw c.in-Punched.is at c.requires.line in
    rw c.in-Punched.is (λ stands. c.number_of_digits.ensures.each code below (sym (three_at c.args.line.now (3 * c.args.column) (omega arith)) ∙ stands))
