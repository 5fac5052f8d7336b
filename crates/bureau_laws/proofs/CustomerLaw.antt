-- One customer's part of the office.
use Rattle.std.proofs.Common.{◌≡◌, ℕ, ◌==◌, bytes_eq, List, [], ◌∷◌, ◌++◌, map, Bool, true, false, Option, None, Some, Result, Ok, Err, refl, sym, ap, subst, ◌∙◌, inl, inr, true≢false}
use Rattle.std.specs.Prelude.{string_bytes}
use Rattle.std.specs.List.{AllByRecursion}
use Rattle.std.proofs.lemmas.Bool.{and_parts, cases_Bool}
use Rattle.std.proofs.lemmas.Slice.Eq.{bytes_eq-Decides}
use Rattle.office.specs.declared.commands.Command.{Command}
use Rattle.office.specs.declared.commands.Command.TheVariants.{Submit, Job as OnJob, Jobs, Queue}
use Rattle.office.specs.declared.commands.Contents.{Contents}
use Rattle.office.specs.declared.commands.JobCommand.{JobCommand}
use Rattle.office.specs.declared.refusals.Refusal.{Refusal}
use Rattle.office.specs.declared.replies.Reply.{Reply}
use Rattle.office.specs.declared.replies.Reply.TheVariants as reply
use Rattle.office.specs.Jobs.{Job}
use Rattle.office.specs.Kept.{job_after}
use Rattle.office.specs.New.{job_or_refusal}
use Rattle.office.specs.Office.{Entry, Office, own, is_entry, job_of, job_line, by_number, with_job, and_job, has_most_jobs, added, submitted_as, submitted, commanded, early_refusal, served, taken, take, fold}
use Rattle.bcd.specs.Orders.{in_order}
use Rattle.office.specs.Limits.{most_jobs}
use Rattle.std.specs.Prelude.{nat_le, length}
use Rattle.bureau_laws.specs.Customers.{names, commands_of, replies_to}

-- ---- lists of entries

own_own : (c : List ℕ) (o : Office) → own c (own c o) ≡ own c o
own_own c [] = refl
own_own c (e ∷ o) = elim (cases_Bool (bytes_eq e.customer c)) [
  | inl is ↦ simp is (ap (λ (es : Office). let all : Office = e ∷ es in all) (own_own c o))
  | inr not ↦ simp not (own_own c o)
]

own_both : (c : List ℕ) (first second : Office) → own c (first ++ second) ≡ own c first ++ own c second
own_both c [] second = refl
own_both c (e ∷ first) second = elim (cases_Bool (bytes_eq e.customer c)) [
  | inl is ↦ simp is (ap (λ (es : Office). let all : Office = e ∷ es in all) (own_both c first second))
  | inr not ↦ simp not (own_both c first second)
]

job_of_own : (c : List ℕ) (n : ℕ) (o : Office) → job_of c n (own c o) ≡ job_of c n o
job_of_own c n [] = refl
job_of_own c n (e ∷ o) = elim (cases_Bool (bytes_eq e.customer c)) [
  | inl is ↦ elim (cases_Bool (e.number == n)) [ inl this ↦ simp (is, this) | inr other ↦ simp (is, other) (job_of_own c n o) ]
  | inr not ↦ simp not (job_of_own c n o)
]

own_with : (c d : List ℕ) (n : ℕ) (job : Job) (o : Office) → own c (with_job d n job o) ≡ with_job d n job (own c o)
own_with c d n job [] = refl
own_with c d n job (e ∷ o) = go (is_entry d n e) refl (bytes_eq e.customer c) refl (own_with c d n job o)
  where
    go : (b : Bool) → is_entry d n e ≡ b → (a : Bool) → bytes_eq e.customer c ≡ a → own c (with_job d n job o) ≡ with_job d n job (own c o)
        → own c (with_job d n job (e ∷ o)) ≡ with_job d n job (own c (e ∷ o))
    go true this true is rest = simp (this, is) (ap (λ (es : Office). let all : Office = record e { job = job } ∷ es in all) rest)
    go true this false not rest = simp (this, not) rest
    go false other true is rest = simp (other, is) (ap (λ (es : Office). let all : Office = e ∷ es in all) rest)
    go false other false not rest = simp (other, not) rest

-- two names of one entry are one
one_customer : (c d : List ℕ) (n : ℕ) (e : Entry) → bytes_eq e.customer c ≡ true → is_entry d n e ≡ true → bytes_eq d c ≡ true
one_customer c d n e his is =
    let both = and_parts (bytes_eq e.customer d) (e.number == n) is in
    let first : e.customer ≡ c = (bytes_eq-Decides e.customer c).0 his in
    let second : e.customer ≡ d = (bytes_eq-Decides e.customer d).0 both.0 in
    (bytes_eq-Decides d c).1 (sym second ∙ first)

others_stay : (c d : List ℕ) (n : ℕ) (job : Job) → bytes_eq d c ≡ false → (o : Office) → with_job d n job (own c o) ≡ own c o
others_stay c d n job apart [] = refl
others_stay c d n job apart (e ∷ o) = elim (cases_Bool (bytes_eq e.customer c)) [
  | inr not ↦ simp not (others_stay c d n job apart o)
  | inl his ↦ elim (cases_Bool (is_entry d n e)) [
    | inl is ↦ absurd (true≢false (sym (one_customer c d n e his is) ∙ apart))
    | inr other ↦ simp (his, other) (ap (λ (es : Office). let all : Office = e ∷ es in all) (others_stay c d n job apart o))
  ]
]

-- ---- a command of the customer's

-- the first is of all, the second of the customer's own part
pub record AreAlike (c : List ℕ) (all part : Office × Reply) : Type 0 where
  pub own_is : own c all.0 ≡ part.0
  pub reply_is : all.1 ≡ part.1

module _ (c : List ℕ) (o : Office) where
  and_own : (n : ℕ) (job : Job) → own c (and_job c n job o) ≡ and_job c n job (own c o)
  and_own n job =
      let this : bytes_eq c c ≡ true = (bytes_eq-Decides c c).1 refl in
      let last : own c ((record { customer = c; number = n; job = job }) ∷ []) ≡ (record { customer = c; number = n; job = job }) ∷ [] = simp this in
      own_both c o ((record { customer = c; number = n; job = job }) ∷ []) ∙ ap (λ (es : Office). own c o ++ es) last

  added_alike : (n : ℕ) (job : Job) → AreAlike c (added c n o job) (added c n (own c o) job)
  added_alike n job = go (has_most_jobs c o) refl (ap (λ (es : Office). nat_le most_jobs (length es)) (own_own c o))
    where
      go : (b : Bool) → has_most_jobs c o ≡ b → has_most_jobs c (own c o) ≡ has_most_jobs c o → AreAlike c (added c n o job) (added c n (own c o) job)
      go true full same = let his : has_most_jobs c (own c o) ≡ true = same ∙ full in rw (his, full) (record { own_is = refl; reply_is = refl })
      go false room same = let his : has_most_jobs c (own c o) ≡ false = same ∙ room in rw (his, room) (record { own_is = and_own n job; reply_is = refl })

  new_alike : (n : ℕ) (r : Result Job Refusal) → AreAlike c (submitted_as c n o r) (submitted_as c n (own c o) r)
  new_alike n (Ok job) = added_alike n job
  new_alike n (Err reason) = record { own_is = refl; reply_is = refl }

  submitted_alike : (n : ℕ) (contents : Contents) (j : Option Job) → AreAlike c (submitted c n contents o j) (submitted c n contents (own c o) j)
  submitted_alike n contents None = new_alike n (job_or_refusal contents)
  submitted_alike n contents (Some job) = record { own_is = refl; reply_is = refl }

  commanded_alike : (n : ℕ) (k : JobCommand) (j : Option Job) → AreAlike c (commanded c n k o j) (commanded c n k (own c o) j)
  commanded_alike n k None = record { own_is = refl; reply_is = refl }
  commanded_alike n k (Some job) = record { own_is = own_with c c n (job_after k job) o; reply_is = refl }

served_alike : (c : List ℕ) (o : Office) (command : Command) → names c command ≡ true → AreAlike c (served command o) (served command (own c o))
served_alike c o (Submit customer n contents) is =
    let d = string_bytes customer in
    subst (λ x. AreAlike x (submitted d n contents o (job_of d n o)) (submitted d n contents (own x o) (job_of d n (own x o)))) ((bytes_eq-Decides d c).0 is)
    (subst (λ j. AreAlike d (submitted d n contents o (job_of d n o)) (submitted d n contents (own d o) j)) (sym (job_of_own d n o)) (submitted_alike d o n contents (job_of d n o)))
served_alike c o (OnJob customer n k) is =
    let d = string_bytes customer in
    subst (λ x. AreAlike x (commanded d n k o (job_of d n o)) (commanded d n k (own x o) (job_of d n (own x o)))) ((bytes_eq-Decides d c).0 is)
    (subst (λ j. AreAlike d (commanded d n k o (job_of d n o)) (commanded d n k (own d o) j)) (sym (job_of_own d n o)) (commanded_alike d o n k (job_of d n o)))
served_alike c o (Jobs customer) is =
    let d = string_bytes customer in
    subst (λ x. AreAlike x (served (Jobs customer) o) (served (Jobs customer) (own x o))) ((bytes_eq-Decides d c).0 is)
    (record { own_is = refl; reply_is = ap (λ (es : Office). reply.Jobs (map job_line (in_order by_number es))) (sym (own_own d o)) })
served_alike c o Queue is = absurd (let e = is in cc)

pub take_alike : (c : List ℕ) (o : Office) (command : Command) → names c command ≡ true → AreAlike c (take command o) (take command (own c o))
take_alike c o command is = go (early_refusal command)
  where
    go : (r : Option Refusal) → AreAlike c (taken command o r) (taken command (own c o) r)
    go (Some reason) = record { own_is = refl; reply_is = refl }
    go None = served_alike c o command is

-- ---- a command of another's

module _ (c d : List ℕ) (apart : bytes_eq d c ≡ false) (o : Office) where
  and_others : (n : ℕ) (job : Job) → own c (and_job d n job o) ≡ own c o
  and_others n job =
      let e : Entry = record { customer = d; number = n; job = job } in
      let none : own c ((record { customer = d; number = n; job = job }) ∷ []) ≡ [] = simp apart in
      own_both c o ((record { customer = d; number = n; job = job }) ∷ []) ∙ ap (λ (es : Office). own c o ++ es) none ∙ nothing (own c o)
    where
      nothing : (es : Office) → es ++ [] ≡ es
      nothing [] = refl
      nothing (e ∷ es) = ap (λ (xs : Office). let all : Office = e ∷ xs in all) (nothing es)

  added_others : (n : ℕ) (job : Job) (b : Bool) → has_most_jobs d o ≡ b → own c (added d n o job).0 ≡ own c o
  added_others n job true full = rw full refl
  added_others n job false room = rw room (and_others n job)

  new_others : (n : ℕ) (r : Result Job Refusal) → own c (submitted_as d n o r).0 ≡ own c o
  new_others n (Ok job) = added_others n job (has_most_jobs d o) refl
  new_others n (Err reason) = refl

  submitted_others : (n : ℕ) (contents : Contents) (j : Option Job) → own c (submitted d n contents o j).0 ≡ own c o
  submitted_others n contents None = new_others n (job_or_refusal contents)
  submitted_others n contents (Some job) = refl

  commanded_others : (n : ℕ) (k : JobCommand) (j : Option Job) → own c (commanded d n k o j).0 ≡ own c o
  commanded_others n k None = refl
  commanded_others n k (Some job) = own_with c d n (job_after k job) o ∙ others_stay c d n (job_after k job) apart o

served_others : (c : List ℕ) (o : Office) (command : Command) → names c command ≡ false → own c (served command o).0 ≡ own c o
served_others c o (Submit customer n contents) not = submitted_others c (string_bytes customer) not o n contents (job_of (string_bytes customer) n o)
served_others c o (OnJob customer n k) not = commanded_others c (string_bytes customer) not o n k (job_of (string_bytes customer) n o)
served_others c o (Jobs customer) not = refl
served_others c o Queue not = refl

pub take_others : (c : List ℕ) (o : Office) (command : Command) → names c command ≡ false → own c (take command o).0 ≡ own c o
take_others c o command not = go (early_refusal command)
  where
    go : (r : Option Refusal) → own c (taken command o r).0 ≡ own c o
    go (Some reason) = refl
    go None = served_others c o command not

-- ---- many commands

pub record AreApart (c : List ℕ) (commands : List Command) (o : Office) : Type 0 where
  pub own_is : own c (fold commands o).0 ≡ (fold (commands_of c commands) (own c o)).0
  pub replies_are : replies_to c commands (fold commands o).1 ≡ (fold (commands_of c commands) (own c o)).1

pub are_apart : (c : List ℕ) (commands : List Command) (o : Office) → AreApart c commands o
unfolding fold
are_apart c [] o = record { own_is = refl; replies_are = refl }
are_apart c (command ∷ commands) o =
    let rest = are_apart c commands (take command o).0 in
    elim (cases_Bool (names c command)) [
      | inl is ↦
          let alike = take_alike c o command is in
          let first : own c (fold commands (take command o).0).0 ≡ (fold (commands_of c commands) (take command (own c o)).0).0 = rest.own_is ∙ ap (λ (x : Office). (fold (commands_of c commands) x).0) alike.own_is in
          let second : (take command o).1 ∷ replies_to c commands (fold commands (take command o).0).1 ≡ (take command (own c o)).1 ∷ (fold (commands_of c commands) (take command (own c o)).0).1 =
          ap (λ (r : Reply). let rs : List Reply = r ∷ replies_to c commands (fold commands (take command o).0).1 in rs) alike.reply_is
          ∙ ap (λ (rs : List Reply). (take command (own c o)).1 ∷ rs) (rest.replies_are ∙ ap (λ (x : Office). (fold (commands_of c commands) x).1) alike.own_is) in
          record { own_is = simp is first; replies_are = simp is second }
      | inr not ↦
          let still = take_others c o command not in
          let first : own c (fold commands (take command o).0).0 ≡ (fold (commands_of c commands) (own c o)).0 = rest.own_is ∙ ap (λ (x : Office). (fold (commands_of c commands) x).0) still in
          let second : replies_to c commands (fold commands (take command o).0).1 ≡ (fold (commands_of c commands) (own c o)).1 = rest.replies_are ∙ ap (λ (x : Office). (fold (commands_of c commands) x).1) still in
          record { own_is = simp not first; replies_are = simp not second }
    ]

pub others_change_nothing : (c : List ℕ) (commands : List Command) (o : Office) → AllByRecursion (λ command. names c command ≡ false) commands → own c (fold commands o).0 ≡ own c o
unfolding fold
others_change_nothing c [] o all = refl
others_change_nothing c (command ∷ commands) o all = others_change_nothing c commands (take command o).0 all.1 ∙ take_others c o command all.0

pub replies_alone : (c : List ℕ) (command : Command) (others : List Command) (o : Office) → names c command ≡ true → AllByRecursion (λ other. names c other ≡ false) others → (take command (fold others o).0).1 ≡ (take command o).1
replies_alone c command others o is all =
    let later = take_alike c (fold others o).0 command is in
    let now = take_alike c o command is in
    later.reply_is ∙ ap (λ (x : Office). (take command x).1) (others_change_nothing c others o all) ∙ sym now.reply_is
