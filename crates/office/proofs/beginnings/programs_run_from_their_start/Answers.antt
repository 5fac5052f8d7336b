use Rattle.std.proofs.Common.{◌++◌, refl}
use Rattle.machine.specs.Run.{loaded}
use Rattle.loader.specs.Cards.{loading_cards}
use Rattle.loader.specs.Loading.{at_the_start, instructions_to_load}
use Rattle.office.proofs.BeginningLaw.{whole_alike}
use Rattle.office.proofs.beginnings.programs_run_from_their_start.Goals as goal

pub returns : goal.returns
returns c size image start data_cards profile starts cards lines loadable =
    whole_alike c.runs_add.ensures.machine c.stopped_machines_stay.ensures.passes
    (λ switches. loaded (loading_cards image start ++ data_cards) size switches profile)
    (λ switches. at_the_start image start data_cards size switches profile) (instructions_to_load image)
    (λ switches. c.cards_load_the_program.ensures.loads size image start data_cards switches profile loadable) (λ switches. refl) starts cards lines
