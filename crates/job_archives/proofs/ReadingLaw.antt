-- What the files of an archive hold is read back.
use Rattle.std.proofs.Common.{◌≡◌, List, [], ◌∷◌, map, refl, ap}
use Rattle.std.specs.List.{All as AllOf}
use Rattle.std.proofs.lemmas.List.Elements.{All-map}
use Rattle.cards.specs.Decks.{IsCard}
use Rattle.cards.proofs.ReadingLaw.{deck_once}
use Rattle.office.specs.Jobs.{cards_by, Job, IsJob}
use Rattle.office.specs.Kept.{kept_of, IsJobInRange}
use Rattle.office.specs.Office.{Entry}
use Rattle.office.specs.Stackers.{cards_from}
use Rattle.office.specs.declared.stackers.Stacker.TheVariants.{All}
use Rattle.units.specs.declared.punch.Punched.{Punched}
use Rattle.office_tables.specs.Standing.{CanBeKept}
use Rattle.job_archives.specs.Archives.{Files, archive_of, cards_of, IsReadBack}
use Rattle.job_archives.specs.Facts.{facts_of, IsFiled}
use Rattle.job_archives.proofs.Readable.{readable}
use Rattle.job_archives.proofs.RecordLaw.{same_records, AreSame, IsReadable}

-- all cards are those of all stackers
pub all_cards : (cards : List Punched) → cards_from All cards ≡ map (λ (c : Punched). c.card) cards
unfolding cards_from
all_cards [] = refl
all_cards (c ∷ cards) = ap (λ xs. c.card ∷ xs) (all_cards cards)

are_cards : (e : Entry) → CanBeKept e.job → AllOf IsCard (cards_of e)
are_cards e can = All-map IsCard (λ (c : Punched). c.card) (cards_by e.job) can.cards

pub is_read_back : (e : Entry) → CanBeKept e.job → IsReadBack e
is_read_back e can = record {
  deck = λ read are same. deck_once _ read e.job.deck are can.job.deck.1 same;
  loaded = λ read are same. deck_once _ read _ are can.job.loaded.1 same;
  punched = λ read are same. deck_once _ read _ are (are_cards e can) same;
  cards = λ read are same. deck_once _ read _ are (are_cards e can) same;
}

-- ---- the whole job

abbrev pub StayInRange : Type 0
StayInRange = (job : Job) → IsJob job → IsJobInRange (kept_of job)

can_be_read : StayInRange → (e : Entry) → IsFiled e → IsReadable e
can_be_read stay e it =
    let range = stay e.job it.can.job in
    readable e it.named.customer it.named.number range.stretches range.machine

alike : StayInRange → (e other : Entry) → IsFiled e → IsFiled other → (archive_of e).facts ≡ (archive_of other).facts → AreSame e other
alike stay e other one two is = same_records e other _ _ _ _ _ _ _ _ _ _ (can_be_read stay e one) (can_be_read stay other two) is

pub same_facts : StayInRange → (e other : Entry) → IsFiled e → IsFiled other → (archive_of e).facts ≡ (archive_of other).facts → facts_of e ≡ facts_of other
same_facts stay e other one two is =
    let it = alike stay e other one two is in
    λ i. record {
      customer = it.customer i;
      number = it.number i;
      kind = it.kind i;
      size = it.size i;
      profile = it.profile i;
      stretches = it.stretches i;
      held = it.held i;
      collected = it.collected i;
      pockets = it.pockets i;
    }

pub same_entry : StayInRange → (e other : Entry) → IsFiled e → IsFiled other → archive_of e ≡ archive_of other → e ≡ other
same_entry stay e other one two is =
    let it = alike stay e other one two (ap (λ (files : Files). files.facts) is) in
    let deck = (is_read_back other two.can).deck e.job.deck one.can.job.deck.1 (ap (λ (files : Files). files.deck) is) in
    λ i. record {
      customer = it.customer i;
      number = it.number i;
      job = record {
        kind = it.kind i;
        size = it.size i;
        deck = deck i;
        profile = it.profile i;
        stretches = it.stretches i;
        held = it.held i;
        collected = it.collected i;
      };
    }
