-- A job that was run again is as its rows say.
use Rattle.std.proofs.Common.{◌≡◌, ℕ, pos, List, All, take, sym, ap, subst, ◌∙◌}
use Rattle.cards.specs.declared.decks.Card.{Card}
use Rattle.cards.specs.Decks.{deck_bytes, IsDeck}
use Rattle.machine.specs.Run.{State, lines_of}
use Rattle.machine.specs.Run as run
use Rattle.machine.specs.declared.standings.Standing.TheVariants.{Halted}
use Rattle.units.specs.declared.profiles.Profile.{Profile}
use Rattle.office.specs.Jobs.{all_off, loaded_of, picture, resumed, IsJob}
use Rattle.office.specs.Office.{Entry}
use Rattle.office.specs.declared.stretches.Stretch.{Stretch}
use Rattle.ledger_rows.specs.Columns.{HoldsCharacters, IsLine}
use Rattle.ledger_rows.specs.Pockets.{IsPunched}
use Rattle.sqlite.specs.Order.{Row, column}
use Rattle.sqlite.specs.declared.types.Value.TheVariants.{Int, Text}
use Rattle.ledger_tables.specs.Tables.{job_row}
use Rattle.office_tables.specs.Standing.{named, CanBeKept}
use Rattle.job_checks.specs.Again.{HasResumed, IsLoading}
use Rattle.job_checks.specs.Jobs.{HasComeTo, HasRunAs, IsNameOf, entry_of, numbers_of, row_of}
use Rattle.job_checks.specs.Kept.{HasMachine, IsNamed, rows_of_stretches}
use Rattle.job_checks.specs.Tables.{TableRows, rows_of}
use Rattle.job_checks.specs.declared.submitted.Numbers.{Numbers}

module _ (customer : List ℕ) (number : ℕ) (numbers : Numbers) (deck loaded : List Card) (profile : Profile) (stretches : List Stretch) (m : State)
    (loading : IsLoading numbers.kind deck loaded) (went : HasResumed (run.loaded loaded numbers.size all_off profile) stretches m)
    (cards : All IsPunched m.works.units.punch.cards) (lines : All IsLine (lines_of m)) (storage : HoldsCharacters m.works.storage) where
  abbrev pub e : Entry
  e = entry_of customer number numbers deck profile stretches

  begun_is : run.loaded loaded numbers.size all_off profile ≡ run.loaded (loaded_of numbers.kind deck) numbers.size all_off profile
  begun_is = ap (λ d. run.loaded d numbers.size all_off profile) loading.loaded_is

  pub picture_is : m ≡ picture e.job
  picture_is = went.machine ∙ ap (λ b. resumed b stretches) begun_is

  is_job : IsJob e.job
  is_job = record {
    deck = loading.is_deck;
    card = loading.card;
    faultless = loading.faultless;
    loaded = subst IsDeck loading.loaded_is loading.is_loaded;
    stretches = went.allowed;
    halts = λ n some within. subst (λ (b : State). (resumed b (take n stretches)).standing ≡ Halted) begun_is (went.halts n some within);
  }

  pub can : CanBeKept e.job
  can = record {
    job = is_job;
    storage = subst (λ (s : State). HoldsCharacters s.works.storage) picture_is storage;
    cards = subst (λ (s : State). All IsPunched s.works.units.punch.cards) picture_is cards;
    lines = subst (λ (s : State). All IsLine (lines_of s)) picture_is lines;
  }

  pub come_to : IsNamed e → HasComeTo e m
  come_to named = record { named = named; can = can; machine = picture_is }

  -- the same, where the job has its rows
  pub run_as : (all : TableRows) (it : Row) (deck_b loaded_b : List ℕ) → deck_b ≡ deck_bytes deck → loaded_b ≡ deck_bytes loaded → it ≡ row_of customer number numbers deck_b loaded_b
      → rows_of customer number all.stretches ≡ rows_of_stretches customer number stretches → HasMachine customer number all m → HasRunAs all it e
  run_as all it deck_b loaded_b deck_is loaded_is row has_stretches machine = record {
    row = row ∙ ap (λ b. row_of customer number numbers b loaded_b) deck_is
        ∙ ap (λ b. row_of customer number numbers (deck_bytes deck) b) (loaded_is ∙ ap deck_bytes loading.loaded_is);
    kept = record { can = can; stretches = has_stretches; machine = subst (HasMachine customer number all) picture_is machine };
  }

-- a machine that went through a job's stretches is as in the job's picture
pub came_to : (customer : List ℕ) (number : ℕ) (numbers : Numbers) (deck loaded : List Card) (profile : Profile) (stretches : List Stretch) (m : State) → IsLoading numbers.kind deck loaded → HasResumed (run.loaded loaded numbers.size all_off profile) stretches m
    → m ≡ picture (entry_of customer number numbers deck profile stretches).job
came_to customer number numbers deck loaded profile stretches m loading went = went.machine ∙ ap (λ d. resumed (run.loaded d numbers.size all_off profile) stretches) loading.loaded_is

-- ---- the entry whose job was run again

pub same_entry : (e : Entry) (customer : List ℕ) (number : ℕ) (numbers : Numbers) (deck : List Card) (profile : Profile) (stretches : List Stretch) → customer ≡ e.customer → number ≡ e.number → numbers ≡ numbers_of e.job → deck ≡ e.job.deck
    → profile ≡ e.job.profile → stretches ≡ e.job.stretches → entry_of customer number numbers deck profile stretches ≡ e
same_entry e customer number numbers deck profile stretches one two three four five six =
    ap (λ (x : List ℕ). entry_of x number numbers deck profile stretches) one ∙ ap (λ (x : ℕ). entry_of e.customer x numbers deck profile stretches) two
    ∙ ap (λ (x : Numbers). entry_of e.customer e.number x deck profile stretches) three ∙ ap (λ (x : List Card). entry_of e.customer e.number (numbers_of e.job) x profile stretches) four
    ∙ ap (λ (x : Profile). entry_of e.customer e.number (numbers_of e.job) e.job.deck x stretches) five ∙ ap (λ (x : List Stretch). entry_of e.customer e.number (numbers_of e.job) e.job.deck e.job.profile x) six

-- a row begins with one name
pub named_by : (it : Row) (e : Entry) (customer : List ℕ) (number : ℕ) → IsNameOf it customer number → it ≡ job_row (named e) → (customer ≡ e.customer) × (number ≡ e.number)
named_by it e customer number is row =
    let text : Text customer ≡ Text e.customer = sym is.text ∙ ap (λ (r : Row). column r 0) row in
    let int : Int (pos number) ≡ Int (pos e.number) = sym is.int ∙ ap (λ (r : Row). column r 1) row in
    (cc, cc)
