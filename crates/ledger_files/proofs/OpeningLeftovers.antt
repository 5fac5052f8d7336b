-- What an open that failed hands back still holds the database.
use Rattle.std.proofs.Common.{◌≡◌, ℕ, ◌≤◌, ◌%◌, true, false, List, refl, sym, ap, subst, ◌∙◌, inl, inr, arith, IsTrue, eq-eqb, ne_eqb, Bool, if◌then◌else◌, Option, Some, None}
use Rattle.std.specs.Prelude.{IfSome}
use Rattle.std.proofs.lemmas.Bool.{cases_Bool, cases_eq}
use Rattle.std.proofs.Math.Logic.{∥∥₁_map}
use Rattle.sqlite_disk.specs.declared.Disk.{Ghosts}
use Rattle.sqlite_disk.specs.declared.Files.{Files}
use Rattle.sqlite_wal.specs.Recovery.{Image, IsIgnored}
use Rattle.sqlite_wal.specs.Recovery as raw
use Rattle.sqlite_wal.specs.Files.{outcomes}
use Rattle.sqlite_pool.specs.Stored.{reserved, is_summed, stored_size, Adopts, StandsAs}
use Rattle.sqlite_pool.proofs.ProbeLemmas.{size_by_log, size_by_file, reserved_word}
use Rattle.sqlite_store.specs.Unopened.{state_of}
use Rattle.sqlite_store.specs.declared.store.open.Unopened.{Unopened}
use Rattle.sqlite_store.specs.declared.store.FileStore.{FileStore}
use Rattle.sqlite_store.specs.FileStore.{recovers}
use Rattle.sqlite_trees.specs.Tree.{Trees}
use Rattle.sqlite.specs.Opening.{HoldsIn}
use Rattle.sqlite.specs.Files.{HoldsDatabase, IsCleanLeft, LeavesFiles, NamesSize, SaysSums, image_of}
use Rattle.sqlite.specs.declared.error.Error.{Error}
use Rattle.sqlite.specs.declared.file.Leftover.{Leftover}
use Rattle.sqlite.specs.declared.file.Leftover.TheVariants as left
use Rattle.sqlite.proofs.FileLemmas.{is_something}
use Rattle.ledger.specs.Older.{LeftOf}
use Rattle.office_tables.specs.Standing.{LeftAs}
use Rattle.ledger_tables.proofs.OpeningAnswers.{known_answer}
use Rattle.ledger_tables.specs.Versions.{IsKnown}
use Rattle.database_files.proofs.ConnectingLemmas.{both}
use Rattle.database_files.specs.Connecting.{IsOutOfReach, IsUnconnected}
use Rattle.ledger_files.specs.Migrating.{AreNotMigrated}
use Rattle.ledger_files.specs.Opening.{AreRefused, AreStoredWith, IsCleanKept, LeftHolds, kept_of, store_fault}

reserved_is : (size : ℕ) → reserved size ≡ if is_summed size then 8 else 0
reserved_is size = elim (cases_eq (size % 16) 8) [
  | inl on ↦ let eight : reserved size ≡ 8 = rw (eq-eqb _ 8 on) in rw eight
  | inr off ↦ let zero : reserved size ≡ 0 = rw (ne_eqb _ 8 off) in rw zero
]

-- two sizes that are stored as one are one, if both have sums or neither has
one_used : (a b : ℕ) → is_summed a ≡ is_summed b → stored_size a ≡ stored_size b → a ≡ b
one_used a b sums stored = let same : reserved a ≡ reserved b = reserved_is a ∙ ap (λ s. if s then 8 else 0) sums ∙ sym (reserved_is b) in omega (arith, same, stored)

module _ (image : Image) (db : Trees) (held : HoldsDatabase image db) where
  large : 504 ≤ held.0
  large = let few : reserved held.0 ≤ 8 = grind arith in omega (arith, held.1.0)

  -- files that hold a database name one page size
  one_size : (size : ℕ) → NamesSize image size → stored_size held.0 ≡ size
  one_size size names = elim (cases_eq (stored_size held.0) size) [
    | inl same ↦ same
    | inr other ↦ absurd (
        let read = λ (seen : ¬ IsIgnored image.log). other (sym (names.0 seen ∙ size_by_log held.0 image held.2.pages held.2.found seen)) in
        read (λ ignored. other (sym (names.1 ignored ∙ size_by_file held.0 image held.2.pages held.2.found large held.2.ours.file.sound ignored))))
  ]

  -- and say of themselves whether they have sums
  no_sums : (size : ℕ) → is_summed held.0 ≡ false → stored_size held.0 ≡ stored_size size → (IsTrue (is_summed size) → SaysSums (stored_size size) image) → is_summed size ≡ false
  no_sums size plain same says = elim (cases_Bool (is_summed size)) [
    | inr none ↦ none
    | inl summed ↦ absurd (
        let found = held.2.found in
        let page = reserved_word held.0 image held.2.pages found large held.2.ours.file.sound in
        let word = says summed found.stored page.0 (subst (λ n. raw.Recovers n image found.stored) same found.found) page.1 (page.2 ∙ same) in
        let eight : reserved held.0 ≡ 8 = omega (arith, word, page.3) in
        let e = rw eight at plain in cc)
  ]

  -- what such an image stands for in place of the files holds it too
  holds_still : (size : ℕ) → held.0 ≡ size → (now : Image) → StandsAs size image now → HoldsIn held.0 now db
  holds_still size same now stands = record {
    pages = held.2.pages;
    wanted = held.2.wanted;
    schema = held.2.schema;
    found = subst (λ n. Adopts n now held.2.pages) (sym same) (stands.1 held.2.pages (subst (λ n. Adopts n image held.2.pages) same held.2.found));
    ours = held.2.ours;
    reads = held.2.reads;
    sound = held.2.sound;
  }

  -- the size that unopened files have is the size that holds the database
  used_size_is : (size : ℕ) (has_sums : Bool) → is_summed held.0 ≡ has_sums → (IsTrue has_sums → IsTrue (is_summed size)) → NamesSize image (stored_size size) → (IsTrue (is_summed size) → SaysSums (stored_size size) image) → held.0 ≡ size
  used_size_is size true is taken names says = one_used held.0 size (is ∙ sym (taken refl)) (one_size (stored_size size) names)
  used_size_is size false is taken names says = let stored = one_size (stored_size size) names in one_used held.0 size (is ∙ sym (no_sums size is stored says)) stored

module _ {D : Type 0} (g : Ghosts D) (files : Files D) (alone : (image : Image) → outcomes g files.log files.db image → image ≡ image_of g files) (has_sums : Bool) (Here : Trees → Type 0) (are : AreStoredWith has_sums (image_of g files) Here) where
  abbrev IsFileOf : Image → Type 0
  IsFileOf image = (db : Trees) × (held : HoldsDatabase image db) × (is_summed held.0 ≡ has_sums) × Here db

  files_stand : (now : Files D) → ((image : Image) → outcomes g now.log now.db image → outcomes g files.log files.db image) → (image : Image) → outcomes g now.log now.db image → AreStoredWith has_sums image Here
  files_stand now leaves image may = subst (λ i. AreStoredWith has_sums i Here) (sym (alone image (leaves image may))) are

  unopened_stand : (now : Unopened D g) → LeavesFiles files (left.Unopened now) → (IsTrue has_sums → IsTrue (is_summed (state_of now).page_size)) → (image : Image) → (state_of now).may_leave image → AreStoredWith has_sums image Here
  unopened_stand now leaves taken image may = ∥∥₁_map are (λ it. elim leaves [
    | inl nothing ↦ absurd (is_something (image_of g files) it.0 it.1 nothing.0)
    | inr kept ↦ elim (kept.4 image may).same [
      | inl old ↦ subst IsFileOf (sym (alone image old)) it
      | inr stands ↦
          let size = (state_of now).page_size in
          let same = used_size_is (image_of g files) it.0 it.1 size has_sums it.2 taken kept.1 kept.3 in
          let r : IsFileOf image = (it.0, (it.1.0, it.1.1, holds_still (image_of g files) it.0 it.1 size same image stands), it.2, it.3) in r
    ]
  ])

  store_stands : (now : FileStore D g) → LeavesFiles files (left.Store now) → ∥ ((db : Trees) → recovers now db → Here db) ∥₁
  store_stands now leaves = ∥∥₁_map are (λ it. let r : (db : Trees) → recovers now db → Here db = λ db may. subst Here (sym ((leaves db may).1 it.0 it.1)) it.3 in r)

  -- each of the three
  pub left_stands : (rest : Leftover D g) → LeavesFiles files rest → LeftHolds has_sums rest Here
  left_stands (left.Files now) leaves = files_stand now leaves
  left_stands (left.Unopened now) leaves = unopened_stand now leaves
  left_stands (left.Store now) leaves = store_stands now leaves

-- what is left of an open of files that were as `start` says
pub fresh_stands : {D : Type 0} {g : Ghosts D} (files : Files D) (rest : Leftover D g) → LeavesFiles files rest → (start : Image) → g.seen files.log ≡ start.log → g.seen files.db ≡ start.db
    → ((c : List ℕ) → g.may_leave files.log c → c ≡ start.log) → ((c : List ℕ) → g.may_leave files.db c → c ≡ start.db) → (has_sums : Bool) (Here : Trees → Type 0) → AreStoredWith has_sums start Here → LeftHolds has_sums rest Here
fresh_stands {D} {g} files rest leaves start log_seen db_seen log_left db_left has_sums Here are =
    left_stands g files (λ image out. both _ _ (log_left image.log out.0 ∙ sym log_seen) (db_left image.db out.1 ∙ sym db_seen)) has_sums Here
    (subst (λ i. AreStoredWith has_sums i Here) (sym (both _ _ log_seen db_seen)) are) rest leaves

stored_is : (image : Image) (db : Trees) (held : HoldsDatabase image db) → AreStoredWith (is_summed held.0) image (λ d. d ≡ db)
stored_is image db held = ∣ (let f : (d : Trees) × (h : HoldsDatabase image d) × (is_summed h.0 ≡ is_summed held.0) × (d ≡ db) = (db, held, refl, refl) in f) ∣₁

module _ {D : Type 0} {g : Ghosts D} (start : Image) (error : Error) (known : IsKnown (store_fault error)) where
  pub not_opened : (left : Option (Leftover D g)) → (left ≡ None → IsOutOfReach error) → IfSome left (IsUnconnected start error) → IsCleanKept (kept_of left) → AreRefused start (store_fault error) (kept_of left)
  not_opened (Some left) far cause clean =
      let files = cause.0 in
      let found = cause.1 in
      let all = cause.2 clean in
      record {
        known = λ office are. known;
        stands = λ has_sums office are. fresh_stands files left all.1 start (ap (λ (i : Image). i.log) found.seen) (ap (λ (i : Image). i.db) found.seen) found.log found.db has_sums (λ db. LeftAs db office) are;
        answer = λ db held sound. known_answer (Unit {0}) db _ known;
        told = (error, files, found.seen, all.0, refl);
        untouched = λ db held. known;
        same = λ db held. fresh_stands files left all.1 start (ap (λ (i : Image). i.log) found.seen) (ap (λ (i : Image). i.db) found.seen) found.log found.db (is_summed held.0) (λ d. d ≡ db) (stored_is start db held);
      }
  not_opened None far cause clean = record {
    known = λ office are. known;
    stands = λ has_sums office are. tt;
    answer = λ db held sound. known_answer (Unit {0}) db _ known;
    told = (error, far refl, refl);
    untouched = λ db held. known;
    same = λ db held. tt;
  }

  -- .. nor migrated
  pub not_migrated : (left : Option (Leftover D g)) → (left ≡ None → IsOutOfReach error) → IfSome left (IsUnconnected start error) → IsCleanKept (kept_of left) → AreNotMigrated start (store_fault error) (kept_of left)
  not_migrated (Some left) far cause clean =
      let files = cause.0 in
      let found = cause.1 in
      let all = cause.2 clean in
      record {
        not_old = known.1;
        known = λ version office are. known.0;
        keeps = λ has_sums version office are. fresh_stands files left all.1 start (ap (λ (i : Image). i.log) found.seen) (ap (λ (i : Image). i.db) found.seen) found.log found.db has_sums (λ db. LeftOf version db office) are;
        told = (error, files, found.seen, all.0, refl);
        answer = λ db held sound. known_answer (Unit {0}) db _ known;
        untouched = λ is db held. tt;
      }
  not_migrated None far cause clean = record {
    not_old = known.1;
    known = λ version office are. known.0;
    keeps = λ has_sums version office are. tt;
    told = (error, far refl, refl);
    answer = λ db held sound. known_answer (Unit {0}) db _ known;
    untouched = λ is db held. tt;
  }
