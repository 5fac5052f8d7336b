-- the page of an archived job
use Rattle.std.specs.Prelude.{ℕ, List, codes, Option, Some, None}
use Rattle.cards.specs.declared.Card.{Card}
use Rattle.job_checks.specs.Texts.{summary_words}
use Rattle.job_pages.specs.Pages.{page_showing}
use Rattle.job_pages.specs.Shown.{Shown}
use Rattle.office.specs.Jobs.{cards_by, lines_by, loaded_deck, switches_of}
use Rattle.office.specs.Kept.{kept_of, summary_of}
use Rattle.office.specs.Office.{Entry}
use Rattle.office.specs.declared.commands.Kind.{Kind}
use Rattle.office.specs.declared.commands.Kind.TheVariants.{Object, Autocoder}
use Rattle.job_archives.specs.Bags.{job_name}

-- a deck of this kind, if it is a source
abbrev pub source_in : Kind → List Card → Option (List Card)
source_in Object deck = None
source_in Autocoder deck = Some deck

-- what the page of an entry's job shows that this program makes: the job as it stands
abbrev pub shown_of : List ℕ → Entry → Shown
shown_of agent e = record {
  name = job_name e;
  source = source_in e.job.kind e.job.deck;
  deck = loaded_deck e.job;
  size = e.job.size;
  switches = switches_of e.job;
  row = codes "standing";
  words = summary_words (summary_of (kept_of e.job));
  lines = lines_by e.job;
  cards = cards_by e.job;
  version = agent;
}

-- the page of an entry's job, made by this program
abbrev pub page_of_entry : List ℕ → Entry → List ℕ
page_of_entry agent e = page_showing (shown_of agent e)
