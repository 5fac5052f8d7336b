-- the text of a body is read as the data that was written
use Rattle.std.proofs.Common.{◌≡◌, ◌∙◌, ℕ, ◌<◌, ◌≤◌, ◌^◌, ◌&&◌, Bool, true, false, List, [], ◌∷◌, ◌++◌, Option, Some, All, codes, map, refl, sym, ap, subst, arith, append-nil, length, ◌==◌, ◌||◌}
use Rattle.std.specs.Prelude.{option_and_then, nat_le, nat_lt}
use Rattle.std.specs.List.{list_all, list_any}
use Rattle.std.specs.Str.{IsUtf8}
use Rattle.std.proofs.lemmas.Bool.{eqb-true, leb-true}
use Rattle.std.proofs.lemmas.List.Elements.{All-head, All-tail}
use Rattle.std.proofs.lemmas.Str.{IsUtf8-append}
use Rattle.core_store.specs.Checks.{check_name}
use Rattle.core_store.specs.declared.checks.Check.{Check}
use Rattle.core_store.specs.declared.checks.Check.TheVariants as check
use Rattle.machine.specs.Standings.{standing_words}
use Rattle.machine.specs.declared.standings.StandingAt.{StandingAt}
use Rattle.machine.specs.declared.standings.StandingAt.TheVariants as standing
use Rattle.texts.specs.Names.{is_letter_or_digit, is_name_length}
use Rattle.office.specs.Queued.{QueuedJob}
use Rattle.office.specs.declared.lists.JobLine.{JobLine}
use Rattle.office.specs.declared.summaries.Summary.{Summary}
use Rattle.json.specs.Json as json
use Rattle.json.specs.Lex.{tokens}
use Rattle.json.specs.Print.{quoted}
use Rattle.json.specs.Token.{Token}
use Rattle.json.specs.Tree as tree
use Rattle.json.proofs.Printed.Decimals.{IsNumber-decimal}
use Rattle.json.proofs.Printed.Tokens.{tokens-print}
use Rattle.json.proofs.Printed.Trees.{ArePrintable-json_tokens, value-json_tokens}
use Rattle.json.proofs.Printed.Utf8.{are_ascii, IsUtf8-are_ascii, IsUtf8-boolean, IsUtf8-quoted}
use Rattle.serde_json.specs.Data.{unsigned, negative, float, Data, null, boolean, number, string, array, object, Items, no_items, item, Members, no_members, member}
use Rattle.serde_json.specs.Read.{of_items, of_json, read}
use Rattle.serde_json.specs.View.{items_of}
use Rattle.serde_json.specs.Written.{comma_if, compact_text, items_outline, items_text, members_outline, members_text, outline}
use Rattle.serde_json.proofs.Numbers.{number_of-decimal}
use Rattle.serde_json.proofs.Texts.{print-outline}
use Rattle.http_messages.specs.Values.{count, job_data, jobs_data, queue_data, queued_data, ran_data, refusal_data, summary_data}
use Rattle.bureau_laws.specs.Replies.{HasCounts, HasNumber, IsJob}
use Rattle.bureau_laws.proofs.ReplyDigits.{and_is, decimal_is_text}

-- each number has 64 bits, and each string is a text
abbrev mutual
  pub IsPlain : Data → Type 0
  IsPlain null = Unit {0}
  IsPlain (boolean b) = Unit {0}
  IsPlain (number (unsigned n)) = n < 2 ^ 64
  IsPlain (number (negative z)) = ⊥
  IsPlain (number (float x)) = ⊥
  IsPlain (string s) = IsUtf8 s
  IsPlain (array ds) = AreItemsPlain ds
  IsPlain (object ms) = AreMembersPlain ms

  pub AreItemsPlain : Items → Type 0
  AreItemsPlain no_items = Unit {0}
  AreItemsPlain (item d ds) = IsPlain d × AreItemsPlain ds

  pub AreMembersPlain : Members → Type 0
  AreMembersPlain no_members = Unit {0}
  AreMembersPlain (member k d ms) = IsUtf8 k × IsPlain d × AreMembersPlain ms

mutual
  has_numbers : (d : Data) → IsPlain d → tree.HasNumbers (outline d)
  has_numbers null h = tt
  has_numbers (boolean b) h = tt
  has_numbers (number (unsigned n)) h = IsNumber-decimal n h
  has_numbers (number (negative z)) h = absurd h
  has_numbers (number (float x)) h = absurd h
  has_numbers (string s) h = tt
  has_numbers (array ds) h = items_have_numbers ds h
  has_numbers (object ms) h = members_have_numbers ms h

  items_have_numbers : (ds : Items) → AreItemsPlain ds → tree.ItemsHaveNumbers (items_outline ds)
  items_have_numbers no_items h = tt
  items_have_numbers (item d ds) h = (has_numbers d h.0, items_have_numbers ds h.1)

  members_have_numbers : (ms : Members) → AreMembersPlain ms → tree.MembersHaveNumbers (members_outline ms)
  members_have_numbers no_members h = tt
  members_have_numbers (member k d ms) h = (has_numbers d h.1, members_have_numbers ms h.2)

comma_is_text : (later : Bool) → IsUtf8 (comma_if later)
comma_is_text true = IsUtf8-are_ascii (44 ∷ []) refl
comma_is_text false = IsUtf8-are_ascii [] refl

one_byte : (x : ℕ) (rest : List ℕ) → IsUtf8 (x ∷ []) → IsUtf8 rest → IsUtf8 (x ∷ rest)
one_byte x rest one more = IsUtf8-append (x ∷ []) rest one more

mutual
  pub is_text : (d : Data) → IsPlain d → IsUtf8 (compact_text d)
  is_text null h = IsUtf8-are_ascii _ refl
  is_text (boolean b) h = IsUtf8-boolean b
  is_text (number (unsigned n)) h = decimal_is_text n
  is_text (number (negative z)) h = absurd h
  is_text (number (float x)) h = absurd h
  is_text (string s) h = IsUtf8-quoted s h
  is_text (array ds) h = one_byte 91 (items_text false ds) (IsUtf8-are_ascii (91 ∷ []) refl) (items_are_text false ds h)
  is_text (object ms) h = one_byte 123 (members_text false ms) (IsUtf8-are_ascii (123 ∷ []) refl) (members_are_text false ms h)

  items_are_text : (later : Bool) (ds : Items) → AreItemsPlain ds → IsUtf8 (items_text later ds)
  items_are_text later no_items h = IsUtf8-are_ascii (93 ∷ []) refl
  items_are_text later (item d ds) h =
      IsUtf8-append (comma_if later) _ (comma_is_text later) (IsUtf8-append (compact_text d) _ (is_text d h.0) (items_are_text true ds h.1))

  members_are_text : (later : Bool) (ms : Members) → AreMembersPlain ms → IsUtf8 (members_text later ms)
  members_are_text later no_members h = IsUtf8-are_ascii (125 ∷ []) refl
  members_are_text later (member k d ms) h =
      IsUtf8-append (comma_if later) _ (comma_is_text later)
      (IsUtf8-append (quoted k) _ (IsUtf8-quoted k h.0)
      (one_byte 58 (compact_text d ++ members_text true ms) (IsUtf8-are_ascii (58 ∷ []) refl)
      (IsUtf8-append (compact_text d) _ (is_text d h.1) (members_are_text true ms h.2))))

-- what a text is, by what its tokens are
abbrev whole : Option (json.Json × List Token) → Option Data
whole found = option_and_then of_json (option_and_then (λ p. json.if_last p.0 p.1) found)

-- the text of data is read as its outline is
pub read_is : (d : Data) → IsPlain d → tree.depth (outline d) ≤ 127 → read (compact_text d) ≡ of_json (outline d)
read_is d plain shallow =
    let ts = tree.json_tokens (outline d) in
    let same : tokens (compact_text d) ≡ ts = ap tokens (sym (print-outline d)) ∙ tokens-print ts (ArePrintable-json_tokens (outline d) (has_numbers d plain)) in
    ap (λ (t : List Token). whole (json.value 127 t)) (same ∙ sym (append-nil ts)) ∙ ap whole (value-json_tokens (outline d) 127 [] shallow)

-- ---- the words of a standing

check_is_text : (kind : Check) → IsUtf8 (check_name kind)
check_is_text check.Address = IsUtf8-are_ascii _ refl
check_is_text check.Instruction = IsUtf8-are_ascii _ refl
check_is_text check.Data = IsUtf8-are_ascii _ refl
check_is_text check.Overlap = IsUtf8-are_ascii _ refl
check_is_text check.ReaderEmpty = IsUtf8-are_ascii _ refl
check_is_text check.PunchFull = IsUtf8-are_ascii _ refl
check_is_text check.PrinterFull = IsUtf8-are_ascii _ refl

pub words_are_text : (s : StandingAt) → IsUtf8 (standing_words s)
words_are_text standing.Running = IsUtf8-are_ascii _ refl
words_are_text (standing.Halted next) = IsUtf8-append (codes "halted next ") _ (IsUtf8-are_ascii _ refl) (decimal_is_text next)
words_are_text (standing.Checked kind at) =
    IsUtf8-append (codes "check " ++ check_name kind ++ codes " at ") _
    (IsUtf8-append (codes "check " ++ check_name kind) _ (IsUtf8-append (codes "check ") _ (IsUtf8-are_ascii _ refl) (check_is_text kind)) (IsUtf8-are_ascii _ refl))
    (decimal_is_text at)

-- a text of ASCII
ascii : (xs : List ℕ) → are_ascii xs ≡ true → IsUtf8 xs
ascii xs is = IsUtf8-are_ascii xs is

-- ---- the data of each reply

pub ran_is_plain : (executed : ℕ) (s : StandingAt) → executed < 2 ^ 64 → IsPlain (ran_data executed s)
ran_is_plain executed s fits = (ascii _ refl, fits, (ascii _ refl, ascii _ refl, (ascii _ refl, words_are_text s, tt)))

pub ran_read : (executed : ℕ) (s : StandingAt) → executed < 2 ^ 64 → read (compact_text (ran_data executed s)) ≡ Some (ran_data executed s)
ran_read executed s fits = read_is (ran_data executed s) (ran_is_plain executed s fits) (omega arith) ∙ rw (number_of-decimal executed fits) refl

pub count_is_plain : (name : List ℕ) (n : ℕ) → are_ascii name ≡ true → n < 2 ^ 64 → IsPlain (object (count name n no_members))
count_is_plain name n is fits = (ascii name is, fits, tt)

pub status_read : (n : ℕ) → n < 2 ^ 64 → read (compact_text (object (count (codes "status") n no_members))) ≡ Some (object (count (codes "status") n no_members))
status_read n fits = read_is (object (count (codes "status") n no_members)) (count_is_plain (codes "status") n refl fits) (omega arith) ∙ rw (number_of-decimal n fits) refl

pub refusal_is_plain : (n : ℕ) → n < 2 ^ 64 → IsPlain (refusal_data n)
refusal_is_plain n fits = (ascii _ refl, fits, tt)

pub refusal_read : (n : ℕ) → n < 2 ^ 64 → read (compact_text (refusal_data n)) ≡ Some (refusal_data n)
refusal_read n fits = read_is (refusal_data n) (refusal_is_plain n fits) (omega arith) ∙ rw (number_of-decimal n fits) refl

pub summary_is_plain : (job : Summary) → HasCounts job → IsPlain (summary_data job)
summary_is_plain job has = (
  ascii _ refl,
  omega (arith, has.cards),
  (ascii _ refl, tt, (ascii _ refl, omega (arith, has.granted), (ascii _ refl, tt, (ascii _ refl, omega (arith, has.lines), (ascii _ refl, ascii _ refl, (ascii _ refl, words_are_text job.standing, tt)))))),
)

pub summary_read : (job : Summary) → HasCounts job → read (compact_text (summary_data job)) ≡ Some (summary_data job)
summary_read job has =
    read_is (summary_data job) (summary_is_plain job has) (omega arith)
    ∙ rw (number_of-decimal job.cards (omega (arith, has.cards)), number_of-decimal job.granted (omega (arith, has.granted)), number_of-decimal job.lines (omega (arith, has.lines))) refl

-- ---- the queue

both_of : (b r : Bool) → (b && r) ≡ true → (b ≡ true) × (r ≡ true)
both_of true r h = (refl, h)
both_of false r h = cc

-- bytes of which each is one of some of ASCII are a text
one_of_ascii : (cs : List ℕ) (x : ℕ) → list_all (λ c. nat_lt c 128) cs ≡ true → list_any (λ c. c == x) cs ≡ true → nat_lt x 128 ≡ true
one_of_ascii [] x all any = cc
one_of_ascii (c ∷ cs) x all any =
    let two = both_of (nat_lt c 128) (list_all (λ c. nat_lt c 128) cs) all in
    by_test (c == x) (list_any (λ c. c == x) cs) refl two.0 (one_of_ascii cs x two.1) any
  where
    by_test : (t r : Bool) → t ≡ (c == x) → nat_lt c 128 ≡ true → (r ≡ true → nat_lt x 128 ≡ true) → (t || r) ≡ true → nat_lt x 128 ≡ true
    by_test true r same low later any = subst (λ (y : ℕ). nat_lt y 128 ≡ true) (eqb-true c x (sym same)) low
    by_test false r same low later any = later any

name_is_ascii : (name : List ℕ) → list_all is_letter_or_digit name ≡ true → are_ascii name ≡ true
name_is_ascii [] all = refl
name_is_ascii (x ∷ xs) all =
    let two = both_of (is_letter_or_digit x) (list_all is_letter_or_digit xs) all in
    and_is (nat_lt x 128) (are_ascii xs) (one_of_ascii (codes "ABCDEFGHIJKLMNOPQRSTUVWXYZ0123456789") x refl two.0) (name_is_ascii xs two.1)

customer_is_text : (job : QueuedJob) → IsJob job → IsUtf8 job.customer
customer_is_text job is = IsUtf8-are_ascii job.customer (name_is_ascii job.customer (both_of (is_name_length (length job.customer)) _ is.0).1)

pub number_is_small : (job : QueuedJob) → IsJob job → job.number ≤ 999999
number_is_small job is = leb-true job.number 999999 (both_of (nat_le 1 job.number) (nat_le job.number 999999) is.1).1

queued_is_plain : (job : QueuedJob) → IsJob job → IsPlain (queued_data job)
queued_is_plain job is = (ascii _ refl, customer_is_text job is, (ascii _ refl, omega (arith, number_is_small job is), tt))

queued_read : (job : QueuedJob) → IsJob job → of_json (outline (queued_data job)) ≡ Some (queued_data job)
queued_read job is = rw (number_of-decimal job.number (omega (arith, number_is_small job is))) refl

rows_are_plain : (jobs : List QueuedJob) → All IsJob jobs → AreItemsPlain (items_of (map queued_data jobs))
rows_are_plain [] all = tt
rows_are_plain (job ∷ jobs) all = (queued_is_plain job (All-head IsJob job jobs all), rows_are_plain jobs (All-tail IsJob job jobs all))

rows_read : (jobs : List QueuedJob) → All IsJob jobs → of_items (items_outline (items_of (map queued_data jobs))) ≡ Some (items_of (map queued_data jobs))
rows_read [] all = refl
rows_read (job ∷ jobs) all = rw (queued_read job (All-head IsJob job jobs all), rows_read jobs (All-tail IsJob job jobs all)) refl

rows_are_shallow : (jobs : List QueuedJob) → tree.items_depth (items_outline (items_of (map queued_data jobs))) ≤ 1
rows_are_shallow [] = omega arith
rows_are_shallow (job ∷ jobs) = omega (arith, rows_are_shallow jobs)

pub queue_is_plain : (jobs : List QueuedJob) → All IsJob jobs → IsPlain (queue_data (map queued_data jobs))
queue_is_plain jobs all = (ascii _ refl, rows_are_plain jobs all, (ascii _ refl, ascii _ refl, tt))

pub queue_read : (jobs : List QueuedJob) → All IsJob jobs → read (compact_text (queue_data (map queued_data jobs))) ≡ Some (queue_data (map queued_data jobs))
queue_read jobs all =
    read_is (queue_data (map queued_data jobs)) (queue_is_plain jobs all) (omega (arith, rows_are_shallow jobs)) ∙ rw (rows_read jobs all) refl

-- ---- a customer's jobs

pub line_is_small : (job : JobLine) → HasNumber job → job.number ≤ 999999
line_is_small job is = leb-true job.number 999999 (both_of (nat_le 1 job.number) (nat_le job.number 999999) is).1

line_is_plain : (job : JobLine) → HasNumber job → IsPlain (job_data job)
line_is_plain job is =
    (ascii _ refl, tt, (ascii _ refl, tt, (ascii _ refl, omega (arith, line_is_small job is), (ascii _ refl, words_are_text job.standing, tt))))

line_read : (job : JobLine) → HasNumber job → of_json (outline (job_data job)) ≡ Some (job_data job)
line_read job is = rw (number_of-decimal job.number (omega (arith, line_is_small job is))) refl

lines_are_plain : (jobs : List JobLine) → All HasNumber jobs → AreItemsPlain (items_of (map job_data jobs))
lines_are_plain [] all = tt
lines_are_plain (job ∷ jobs) all = (line_is_plain job (All-head HasNumber job jobs all), lines_are_plain jobs (All-tail HasNumber job jobs all))

lines_read : (jobs : List JobLine) → All HasNumber jobs → of_items (items_outline (items_of (map job_data jobs))) ≡ Some (items_of (map job_data jobs))
lines_read [] all = refl
lines_read (job ∷ jobs) all = rw (line_read job (All-head HasNumber job jobs all), lines_read jobs (All-tail HasNumber job jobs all)) refl

lines_are_shallow : (jobs : List JobLine) → tree.items_depth (items_outline (items_of (map job_data jobs))) ≤ 1
lines_are_shallow [] = omega arith
lines_are_shallow (job ∷ jobs) = omega (arith, lines_are_shallow jobs)

pub jobs_are_plain : (jobs : List JobLine) → All HasNumber jobs → IsPlain (jobs_data (map job_data jobs))
jobs_are_plain jobs all = (ascii _ refl, lines_are_plain jobs all, (ascii _ refl, ascii _ refl, tt))

pub jobs_read : (jobs : List JobLine) → All HasNumber jobs → read (compact_text (jobs_data (map job_data jobs))) ≡ Some (jobs_data (map job_data jobs))
jobs_read jobs all =
    read_is (jobs_data (map job_data jobs)) (jobs_are_plain jobs all) (omega (arith, lines_are_shallow jobs)) ∙ rw (lines_read jobs all) refl
