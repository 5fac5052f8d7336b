-- The page of a job, part by part.
use Rattle.std.proofs.Common.{◌≡◌, ◌∙◌, ℕ, List, Option, ap, codes}
use Rattle.cards.specs.declared.Card.{Card}
use Rattle.core_store.specs.declared.sizes.Size.{Size}
use Rattle.units.specs.declared.printer.Line.{Line}
use Rattle.units.specs.declared.punch.Punched.{Punched}
use Rattle.units.specs.declared.switches.Switches.{Switches}
use Rattle.job_checks.specs.Texts.{summary_words}
use Rattle.job_pages.specs.Pages.{page_showing}
use Rattle.job_pages.specs.Shown.{Shown}
use Rattle.office.specs.Jobs.{cards_by, lines_by, loaded_deck, switches_of}
use Rattle.office.specs.Kept.{kept_of, summary_of}
use Rattle.office.specs.Office.{Entry}
use Rattle.job_archives.specs.Bags.{job_name}
use Rattle.job_archives.specs.Pages.{page_of_entry, source_in}

-- what is shown with these parts
abbrev shown_with : List ℕ → Option (List Card) → List Card → Size → List Switches → List ℕ → List Line → List Punched → List ℕ → Shown
shown_with name source deck size switches words lines cards version = record {
  name = name;
  source = source;
  deck = deck;
  size = size;
  switches = switches;
  row = codes "standing";
  words = words;
  lines = lines;
  cards = cards;
  version = version;
}

-- what a job is called, and what was handed in and loaded
handed_in : (e : Entry) (name : List ℕ) (source : Option (List Card)) (deck : List Card) (size : Size) (switches : List Switches) (words : List ℕ) (lines : List Line) (cards : List Punched) (version : List ℕ)
    → name ≡ job_name e → source ≡ source_in e.job.kind e.job.deck → deck ≡ loaded_deck e.job → size ≡ e.job.size
    → page_showing (shown_with name source deck size switches words lines cards version) ≡ page_showing (shown_with (job_name e) (source_in e.job.kind e.job.deck) (loaded_deck e.job) e.job.size switches words lines cards version)
handed_in e name source deck size switches words lines cards version n s d z =
    ap (λ name. page_showing (shown_with name source deck size switches words lines cards version)) n
    ∙ ap (λ source. page_showing (shown_with (job_name e) source deck size switches words lines cards version)) s
    ∙ ap (λ deck. page_showing (shown_with (job_name e) (source_in e.job.kind e.job.deck) deck size switches words lines cards version)) d
    ∙ ap (λ size. page_showing (shown_with (job_name e) (source_in e.job.kind e.job.deck) (loaded_deck e.job) size switches words lines cards version)) z

-- the page with the parts of a job is the job's
pub same_page : (agent : List ℕ) (e : Entry) (name : List ℕ) (source : Option (List Card)) (deck : List Card) (size : Size) (switches : List Switches) (words : List ℕ) (lines : List Line) (cards : List Punched) (version : List ℕ)
    → name ≡ job_name e → source ≡ source_in e.job.kind e.job.deck → deck ≡ loaded_deck e.job → size ≡ e.job.size
    → switches ≡ switches_of e.job → words ≡ summary_words (summary_of (kept_of e.job)) → lines ≡ lines_by e.job → cards ≡ cards_by e.job → version ≡ agent
    → page_showing (shown_with name source deck size switches words lines cards version) ≡ page_of_entry agent e
same_page agent e name source deck size switches words lines cards version n s d z on w l c v =
    handed_in e name source deck size switches words lines cards version n s d z
    ∙ ap (λ switches. page_showing (shown_with (job_name e) (source_in e.job.kind e.job.deck) (loaded_deck e.job) e.job.size switches words lines cards version)) on
    ∙ ap (λ words. page_showing (shown_with (job_name e) (source_in e.job.kind e.job.deck) (loaded_deck e.job) e.job.size (switches_of e.job) words lines cards version)) w
    ∙ ap (λ lines. page_showing (shown_with (job_name e) (source_in e.job.kind e.job.deck) (loaded_deck e.job) e.job.size (switches_of e.job) (summary_words (summary_of (kept_of e.job))) lines cards version)) l
    ∙ ap (λ cards. page_showing (shown_with (job_name e) (source_in e.job.kind e.job.deck) (loaded_deck e.job) e.job.size (switches_of e.job) (summary_words (summary_of (kept_of e.job))) (lines_by e.job) cards version)) c
    ∙ ap (λ version. page_showing (shown_with (job_name e) (source_in e.job.kind e.job.deck) (loaded_deck e.job) e.job.size (switches_of e.job) (summary_words (summary_of (kept_of e.job))) (lines_by e.job) (cards_by e.job) version)) v
