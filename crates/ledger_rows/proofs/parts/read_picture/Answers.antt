use Rattle.ledger_rows.proofs.PartPictures.{carriage_line, has_units}
use Rattle.ledger_rows.proofs.parts.read_picture.Goals as goal

pub returns-in_default-read_units-clause-all : goal.returns-in_default-read_units-clause-all
returns-in_default-read_units-clause-all g c = λ m range characters pictured.
    absurd (c.in_default-read_units.not-Some _ (c.read_units.ensures.all m.works.units range.units.reader (carriage_line m range) (has_units c.args.row c.args.media m pictured.state)))
