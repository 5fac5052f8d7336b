-- a job that was run again from its archive alone
use Rattle.std.specs.Prelude.{ℕ, ◌≡◌, ◌&&◌, ⊤, Bool, List, bytes_eq}
use Rattle.office.specs.Office.{Entry}
use Rattle.job_archives.specs.Archives.{Files, archive_of}
use Rattle.job_archives.specs.declared.rerun.Unrun.{Unrun}
use Rattle.job_archives.specs.declared.rerun.Unrun.TheVariants.{NoMemory, Deck, Record, Job, Other}

-- the archive of the entry has this deck text and this record
pub record IsRunOf (deck_text record_text : List ℕ) (e : Entry) : Type 0 where
  pub deck : (archive_of e).deck ≡ deck_text
  pub facts : (archive_of e).facts ≡ record_text

-- whether the files of an archive have this deck text and this record
abbrev pub has_files : Files → List ℕ → List ℕ → Bool
has_files it deck_text record_text = bytes_eq it.deck deck_text && bytes_eq it.facts record_text

-- of a job that has run otherwise than its archive says: its own archive has another deck text or
-- another record
abbrev pub HasRunOtherwise : List ℕ → List ℕ → Unrun → Type 0
HasRunOtherwise deck_text record_text NoMemory = ⊤
HasRunOtherwise deck_text record_text (Deck fault) = ⊤
HasRunOtherwise deck_text record_text (Record part) = ⊤
HasRunOtherwise deck_text record_text (Job report) = ⊤
HasRunOtherwise deck_text record_text (Other e) = ¬ IsRunOf deck_text record_text e
