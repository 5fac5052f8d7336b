-- The lines of a list, one job after another.
use Rattle.std.proofs.Common.{◌≡◌, ℕ, ◌+◌, List, [], ◌∷◌, ◌++◌, length, flat_map, true, false, Option, Some, take, sym, ap, ◌∙◌, append_assoc, length-append}
use Rattle.std.proofs.lemmas.List.{append-nil}
use Rattle.std.proofs.lemmas.List.Concat.{flat_map-append}
use Rattle.std.proofs.lemmas.List.Elements.{filter-append}
use Rattle.office.specs.Jobs.{Job}
use Rattle.office.specs.Kept.{kept_of, summary_of}
use Rattle.office.specs.Office.{Entry, Office, job_of}
use Rattle.office.specs.declared.summaries.Summary.{Summary}
use Rattle.ledger.specs.Listed.{IsIts}
use Rattle.job_archives.specs.Lists.{AddsLines, asked_for, count_line, entry_line, is_of, list_text, listed_line}
use Rattle.job_archives.specs.Names.{HasName}

-- the line that is made of what is told of a job is the job's own
pub named_line : (customer : List ℕ) (number : ℕ) (e : Entry) (office : Office) (summary : Summary) → HasName customer number e → IsIts office e
    → ((job : Job) → job_of customer number office ≡ Some job → summary ≡ summary_of (kept_of job)) → listed_line customer number summary ≡ entry_line e
unfolding entry_line
named_line customer number e office summary name its told =
    let here : job_of customer number office ≡ Some e.job = ap (λ c. job_of c number office) name.0 ∙ ap (λ n. job_of e.customer n office) name.1 ∙ its in
    ap (λ c. listed_line c number summary) name.0 ∙ ap (λ n. listed_line e.customer n summary) name.1 ∙ ap (listed_line e.customer e.number) (told e.job here)

module _ (asked : Option (List ℕ)) where
  -- a job that is not asked for has no line
  pub no_line : (e : Entry) (text : List ℕ) → is_of asked e.customer ≡ false → AddsLines asked (e ∷ []) text text 0
  no_line e text other = record { text = rw other (sym (append-nil text)); count = rw other }

  -- .. and one that is has its own
  pub one_line : (e : Entry) (text more : List ℕ) → is_of asked e.customer ≡ true → more ≡ text ++ entry_line e → AddsLines asked (e ∷ []) text more 1
  one_line e text more this is = record { text = rw this (is ∙ ap (λ line. text ++ line) (sym (append-nil (entry_line e)))); count = rw this }

  -- the jobs that are asked for among these and one more
  asked_more : (jobs more : Office) (e : Entry) → more ≡ jobs ++ e ∷ [] → asked_for asked more ≡ asked_for asked jobs ++ asked_for asked (e ∷ [])
  asked_more jobs more e is = ap (asked_for asked) is ∙ filter-append (λ (x : Entry). is_of asked x.customer) jobs (e ∷ [])

  -- the lines of some jobs, and those of one more
  pub next_line : (jobs more : Office) (e : Entry) (start text longer : List ℕ) (count added : ℕ) → more ≡ jobs ++ e ∷ [] → AddsLines asked jobs start text count → AddsLines asked (e ∷ []) text longer added
      → AddsLines asked more start longer (count + added)
  next_line jobs more e start text longer count added is before here =
      let both = asked_more jobs more e is in
      record {
        text = here.text ∙ ap (λ t. t ++ flat_map entry_line (asked_for asked (e ∷ []))) before.text ∙ append_assoc start (flat_map entry_line (asked_for asked jobs)) (flat_map entry_line (asked_for asked (e ∷ []))) ∙ ap (λ lines. start ++ lines) (sym (ap (flat_map entry_line) both ∙ flat_map-append entry_line (asked_for asked jobs) (asked_for asked (e ∷ []))));
        count = ap (λ n. n + added) before.count ∙ ap (λ n. length (asked_for asked jobs) + n) here.count ∙ sym (ap length both ∙ length-append (asked_for asked jobs) (asked_for asked (e ∷ [])));
      }

  -- the lines of all jobs, and the last line
  pub whole_list : (office : Office) (some : ℕ) (text list : List ℕ) (count : ℕ) → take some office ≡ office → AddsLines asked (take some office) [] text count → list ≡ text ++ count_line count → list ≡ list_text asked office
  whole_list office some text list count all lines is =
      is ∙ ap (λ t. t ++ count_line count) (lines.text ∙ ap (λ jobs. flat_map entry_line (asked_for asked jobs)) all)
      ∙ ap (λ n. flat_map entry_line (asked_for asked office) ++ count_line n) (lines.count ∙ ap (λ jobs. length (asked_for asked jobs)) all)
