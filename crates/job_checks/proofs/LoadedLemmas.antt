-- The deck that a job's machine loads.
use Rattle.std.proofs.Common.{◌≡◌, ◌≤◌, List, [], ◌∷◌, length, nat_lt, false, cond, Option, Some, None, Ok, Err, refl, sym, ap, subst, ◌∙◌, arith}
use Rattle.std.proofs.lemmas.Bool.Decides.{nat_tests}
use Rattle.cards.specs.declared.decks.Card.{Card}
use Rattle.cards.specs.Decks.{IsDeck}
use Rattle.core_store.specs.declared.sizes.Size.{Size}
use Rattle.core_store.proofs.SizeLemmas.{numbered_by_its_own}
use Rattle.core_store.specs.Storage.{positions_of, size_numbered}
use Rattle.office.specs.Jobs.{Job, loaded_deck, loaded_of, picture, resumed}
use Rattle.machine.specs.Run.{after}
use Rattle.office.specs.Kept.{Kept}
use Rattle.office.specs.New.{deck_refusal, faults_in, job_of_size, job_or_refusal, job_unless_refused, new_job, refusal_for, IsJobOf}
use Rattle.office.specs.declared.commands.Contents.{Contents}
use Rattle.office.specs.declared.commands.Kind.{Kind}
use Rattle.office.specs.declared.commands.Kind.TheVariants.{Object, Autocoder}
use Rattle.office.specs.declared.refusals.Refusal.{Refusal}
use Rattle.office.specs.declared.refusals.Refusal.TheVariants as refusal
use Rattle.office_tables.proofs.ReadingLemmas.{NewAreJobs}
use Rattle.job_checks.specs.Again.{IsLoading, LoadsAs}

as_new : (size : Size) (contents : Contents) (job : Job) (o : Option Refusal) → job_unless_refused size contents o ≡ Ok job → job ≡ new_job size contents
as_new size contents job (Some reason) is = absurd (let e = is in cc)
as_new size contents job None is = let same : new_job size contents ≡ job = cc in sym same

new_of : (contents : Contents) (job : Job) → job_or_refusal contents ≡ Ok job → (size : Size) × (job ≡ new_job size contents)
new_of contents job is = go (size_numbered contents.size) is
  where
    go : (o : Option Size) → job_of_size contents o ≡ Ok job → (size : Size) × (job ≡ new_job size contents)
    go None is = absurd (let e = is in cc)
    go (Some size) is = (size, as_new size contents job (deck_refusal contents.kind contents.deck) is)

new_deck : (size : Size) (contents : Contents) → (picture (new_job size contents)).works.units.hopper.deck ≡ loaded_of contents.kind contents.deck
unfolding resumed after
new_deck size contents = refl

pub loads_as : (contents : Contents) (kept : Kept) (copy : List Card) → NewAreJobs → IsJobOf contents kept → copy ≡ kept.machine.works.units.hopper.deck → LoadsAs contents copy
loads_as contents kept copy new_are it is =
    let new = new_of contents it.job it.taken in
    let machine : kept.machine ≡ picture it.job = ap (λ (k : Kept). k.machine) it.kept_is in
    let same : copy ≡ loaded_of contents.kind contents.deck =
    is ∙ ap (λ m. m.works.units.hopper.deck) machine ∙ ap (λ (j : Job). (picture j).works.units.hopper.deck) new.1 ∙ new_deck new.0 contents in
    record {
      loaded_is = same;
      is_loading = λ deck loaded.
          let loads : copy ≡ loaded_deck (new_job new.0 contents) = same in
          let job = new_are contents (new_job new.0 contents) (it.taken ∙ ap Ok new.1) deck (subst IsDeck loads loaded) in
          record { is_deck = deck; card = job.card; faultless = job.faultless; loaded_is = same; is_loaded = loaded };
    }

-- ---- why a deck is refused

faults_none : (kind : Kind) (deck loaded : List Card) → IsLoading kind deck loaded → faults_in kind deck ≡ []
faults_none Object deck loaded it = refl
faults_none Autocoder deck loaded it = it.faultless refl

-- a deck that a job may have is not refused
not_refused : (kind : Kind) (deck loaded : List Card) → IsLoading kind deck loaded → deck_refusal kind deck ≡ None
not_refused kind [] loaded it = absurd (omega (arith, it.card))
not_refused kind (card ∷ cards) loaded it =
    let deck : List Card = card ∷ cards in
    let most : length (loaded_of kind deck) ≤ 2000 = subst (λ d. length d ≤ 2000) it.loaded_is it.is_loaded.0 in
    let few : nat_lt 2000 (length (loaded_of kind deck)) ≡ false = grind (arith, nat_tests, most) in
    ap (λ faults. refusal_for faults (cond (nat_lt 2000 (length (loaded_of kind deck))) (Some refusal.Deck) None)) (faults_none kind deck loaded it)
    ∙ ap (λ b. cond b (Some refusal.Deck) None) few

pub refused_for : (contents : Contents) (reason : Refusal) (size : Size) (loaded : List Card) → job_or_refusal contents ≡ Err reason → contents.size ≡ positions_of size → ¬ IsLoading contents.kind contents.deck loaded
refused_for contents reason size loaded refused is = λ loading.
    let sized : size_numbered contents.size ≡ Some size = ap size_numbered is ∙ numbered_by_its_own size in
    let taken : job_or_refusal contents ≡ Ok (new_job size contents) = ap (job_of_size contents) sized ∙ ap (job_unless_refused size contents) (not_refused contents.kind contents.deck loaded loading) in
    absurd (let both : Ok (new_job size contents) ≡ Err reason = sym taken ∙ refused in cc)
