-- Whether the archive of a job has two files.
use Rattle.std.proofs.Common.{◌≡◌, ◌&&◌, ℕ, Bool, true, false, List, bytes_eq, refl, sym, ◌∙◌, ap, true≢false}
use Rattle.std.proofs.lemmas.Slice.Eq.{bytes_eq-Decides}
use Rattle.office.specs.Office.{Entry}
use Rattle.job_archives.specs.Archives.{Files, archive_of}
use Rattle.job_archives.specs.Reruns.{IsRunOf, has_files}

both_hold : (a b : Bool) → (a && b) ≡ true → (a ≡ true) × (b ≡ true)
both_hold true b is = (refl, is)
both_hold false b is = absurd (true≢false (sym is))

pub is_run : (e : Entry) (files : Files) (deck_text record_text : List ℕ) → files ≡ archive_of e → has_files files deck_text record_text ≡ true → IsRunOf deck_text record_text e
is_run e files deck_text record_text are is =
    let two = both_hold (bytes_eq files.deck deck_text) (bytes_eq files.facts record_text) is in
    record {
      deck = ap (λ (it : Files). it.deck) (sym are) ∙ (bytes_eq-Decides files.deck deck_text).0 two.0;
      facts = ap (λ (it : Files). it.facts) (sym are) ∙ (bytes_eq-Decides files.facts record_text).0 two.1;
    }

pub is_no_run : (e : Entry) (files : Files) (deck_text record_text : List ℕ) → files ≡ archive_of e → has_files files deck_text record_text ≡ false → ¬ IsRunOf deck_text record_text e
is_no_run e files deck_text record_text are not run =
    let one : bytes_eq files.deck deck_text ≡ true = (bytes_eq-Decides files.deck deck_text).1 (ap (λ (it : Files). it.deck) are ∙ run.deck) in
    let two : bytes_eq files.facts record_text ≡ true = (bytes_eq-Decides files.facts record_text).1 (ap (λ (it : Files). it.facts) are ∙ run.facts) in
    true≢false (sym (ap (λ (b : Bool). b && bytes_eq files.facts record_text) one ∙ two) ∙ not)
