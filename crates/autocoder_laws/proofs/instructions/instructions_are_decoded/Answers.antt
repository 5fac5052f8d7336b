use Rattle.autocoder_laws.proofs.InstructionLaw.{forms_law, cards_law}
use Rattle.autocoder_laws.proofs.instructions.instructions_are_decoded.Goals as goal

pub returns-clause-forms : goal.returns-clause-forms
returns-clause-forms c = forms_law

pub returns-clause-cards : goal.returns-clause-cards
returns-clause-cards c = cards_law
