use Rattle.autocoder_layout.proofs.LiteralLaw.{literals_once, literals_used, literals_more}
use Rattle.autocoder_layout.proofs.laws.literals_are_placed_once.Goals as goal

pub returns-clause-once : goal.returns-clause-once
returns-clause-once c = λ lines slots. literals_once lines slots

pub returns-clause-used : goal.returns-clause-used
returns-clause-used c = λ lines slots literal. literals_used lines slots literal

pub returns-clause-order : goal.returns-clause-order
returns-clause-order c = λ uses literal. literals_more uses literal
