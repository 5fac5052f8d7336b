use Rattle.std.proofs.Common.{refl}
use Rattle.autocoder_layout.specs.CardFaults.{faults_from, last_fault, faults_of}
use Rattle.autocoder_laws.proofs.SourceFaults.{are_lowest}
use Rattle.autocoder_laws.proofs.faults.lowest_faults_are_told.Goals as goal

pub returns-clause-cards : goal.returns-clause-cards
returns-clause-cards c = λ size cards layout some is. are_lowest size cards layout is some

pub returns-clause-none : goal.returns-clause-none
unfolding faults_of faults_from last_fault
returns-clause-none c = refl
