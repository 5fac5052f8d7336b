use Rattle.std.proofs.Common.{◌<◌, length, List, sym, ap, subst, arith}
use Rattle.std.proofs.lemmas.Result.{IfOk-weaker}
use Rattle.std.proofs.lemmas.Bool.Decides.{nat_tests}
use Rattle.cards.specs.declared.decks.Card.{Card}
use Rattle.office.specs.declared.commands.Kind.TheVariants.{Autocoder}
use Rattle.office.proofs.KeepingLaw.{some_loaded}
use Rattle.office.proofs.making.deck_to_load.Goals as goal

pub returns-in-Autocoder-clause-some : goal.returns-in-Autocoder-clause-some
returns-in-Autocoder-clause-some c =
    IfOk-weaker c.assemble_source.result _ _ (λ loaded is. subst (λ (d : List Card). 0 < length d) (sym is) (some_loaded Autocoder c.args.deck.now (grind (arith, nat_tests, ap length c.cards.ensures.cards)))) c.assemble_source.ensures.deck
