-- The tables represent one office at most.
use Rattle.std.proofs.Common.{◌≡◌, ◌+◌, ℕ, List, [], ◌∷◌, map, Bool, true, false, Option, Some, None, refl, sym, ap, ◌∙◌, arith}
use Rattle.std.specs.List.{AllByRecursion}
use Rattle.std.specs.Option.{option_to_list}
use Rattle.cards.specs.Decks.{deck_bytes}
use Rattle.core_store.specs.Storage.{positions_of}
use Rattle.core_store.proofs.SizeLemmas.{same_size}
use Rattle.office.specs.Jobs.{HasSwitches, picture}
use Rattle.office.specs.Office.{Entry, Office, job_of}
use Rattle.office.specs.declared.commands.Kind.{Kind}
use Rattle.office.specs.declared.commands.Kind.TheVariants.{Object, Autocoder}
use Rattle.ledger_rows.proofs.DeckBytes.{same_deck}
use Rattle.ledger_rows.proofs.FromCellsRows.{same_things}
use Rattle.ledger_rows.specs.Columns.{profile_number, profile_row, truth}
use Rattle.sqlite.specs.Effect.{Database}
use Rattle.ledger_tables.specs.Tables.{job_row, placed}
use Rattle.ledger_tables.specs.Tables as tables
use Rattle.ledger_tables.specs.declared.rows.ProfileRow.{ProfileRow}
use Rattle.ledger_tables.specs.declared.rows.StretchRow.{StretchRow}
use Rattle.units.specs.declared.profiles.Profile.{Profile}
use Rattle.units.specs.declared.profiles.Profile.TheVariants.{Plain, Selecting}
use Rattle.ledger.specs.Listed.{IsIts}
use Rattle.office_tables.specs.Standing.{named, stretch_row, stretches_of, profile_of, CanBeKept, Rows}
use Rattle.office.specs.Numbers.{kind_number}
use Rattle.ledger.proofs.ListLemmas.{all_its}
use Rattle.office_tables.proofs.ReadingLemmas.{picture_profile, some_is, stretches_told}

-- ---- columns that tell one thing from another

same_kind : (a b : Kind) → kind_number a ≡ kind_number b → a ≡ b
same_kind Object Object is = refl
same_kind Object Autocoder is = absurd (omega (arith, is))
same_kind Autocoder Object is = absurd (omega (arith, is))
same_kind Autocoder Autocoder is = refl

same_truth : (a b : Bool) → truth a ≡ truth b → a ≡ b
same_truth true true is = refl
same_truth true false is = absurd (omega (arith, is))
same_truth false true is = absurd (omega (arith, is))
same_truth false false is = refl

same_profile : (a b : Profile) → profile_number a ≡ profile_number b → a ≡ b
same_profile Plain Plain is = refl
same_profile Plain Selecting is = absurd (omega (arith, is))
same_profile Selecting Plain is = absurd (omega (arith, is))
same_profile Selecting Selecting is = refl

-- ---- rows of profiles

profile_of_row : (profile chosen : ℕ) (p : ProfileRow) → profile ≡ p.profile → chosen ≡ p.chosen → ◌≡◌ {A = ProfileRow} (record { profile = profile; chosen = chosen }) p
profile_of_row profile chosen p one two = rw (one, two) refl

same_told : (customer : List ℕ) (number : ℕ) (x y : Option ProfileRow) → map (tables.profile_row customer number) (option_to_list x) ≡ map (tables.profile_row customer number) (option_to_list y) → x ≡ y
same_told customer number None None is = refl
same_told customer number None (Some y) is = absurd (let e = is in cc)
same_told customer number (Some x) None is = absurd (let e = is in cc)
same_told customer number (Some x) (Some y) is =
    let profile : x.profile ≡ y.profile = cc in
    let chosen : x.chosen ≡ y.chosen = cc in
    ap (λ (p : ProfileRow). Some p) (profile_of_row x.profile x.chosen y profile chosen)

-- ---- rows of stretches

row_of : (switches granted : ℕ) (s : StretchRow) → switches ≡ s.switches → granted ≡ s.granted → ◌≡◌ {A = StretchRow} (record { switches = switches; granted = granted }) s
row_of switches granted s one two = rw (one, two) refl

same_placed : (customer : List ℕ) (number first : ℕ) (xs ys : List StretchRow) → placed (tables.stretch_row customer number) first xs ≡ placed (tables.stretch_row customer number) first ys → xs ≡ ys
same_placed customer number first [] [] is = refl
same_placed customer number first [] (y ∷ ys) is = absurd (let e = is in cc)
same_placed customer number first (x ∷ xs) [] is = absurd (let e = is in cc)
same_placed customer number first (x ∷ xs) (y ∷ ys) is =
    let switches : x.switches ≡ y.switches = cc in
    let granted : x.granted ≡ y.granted = cc in
    let rest : placed (tables.stretch_row customer number) (first + 1) xs ≡ placed (tables.stretch_row customer number) (first + 1) ys = cc in
    ap (λ (s : StretchRow). let all : List StretchRow = s ∷ xs in all) (row_of x.switches x.granted y switches granted) ∙ ap (λ (all : List StretchRow). y ∷ all) (same_placed customer number (first + 1) xs ys rest)

-- ---- entries

one_entry : (e f : Entry) → e.customer ≡ f.customer → e.number ≡ f.number → e.job.kind ≡ f.job.kind → e.job.size ≡ f.job.size → e.job.deck ≡ f.job.deck → e.job.profile ≡ f.job.profile → e.job.stretches ≡ f.job.stretches → e.job.held ≡ f.job.held → e.job.collected ≡ f.job.collected → e ≡ f
one_entry e f customer number kind size deck profile stretches held collected =
    let all : ◌≡◌ {A = Entry} (record { customer = e.customer; number = e.number; job = record { kind = e.job.kind; size = e.job.size; deck = e.job.deck; profile = e.job.profile; stretches = e.job.stretches; held = e.job.held; collected = e.job.collected } }) f = rw (customer, number, kind, size, deck, profile, stretches, held, collected) refl in
    all

same_entry : (a b : Office) (e f : Entry) → ((c : List ℕ) (n : ℕ) → stretches_of (job_of c n a) ≡ stretches_of (job_of c n b)) → ((c : List ℕ) (n : ℕ) → profile_of (job_of c n a) ≡ profile_of (job_of c n b)) → IsIts a e → IsIts b f → CanBeKept e.job → CanBeKept f.job → job_row (named e) ≡ job_row (named f) → e ≡ f
same_entry a b e f agree alike mine yours it other is =
    let customer : e.customer ≡ f.customer = cc in
    let number : e.number ≡ f.number = cc in
    let kind : kind_number e.job.kind ≡ kind_number f.job.kind = cc in
    let size : positions_of e.job.size ≡ positions_of f.job.size = cc in
    let deck : deck_bytes e.job.deck ≡ deck_bytes f.job.deck = cc in
    let held : truth e.job.held ≡ truth f.job.held = cc in
    let collected : truth e.job.collected ≡ truth f.job.collected = cc in
    let here : job_of e.customer e.number b ≡ Some f.job = ap (λ c. job_of c e.number b) customer ∙ ap (λ n. job_of f.customer n b) number ∙ yours in
    let rows : map stretch_row e.job.stretches ≡ map stretch_row f.job.stretches = sym (ap stretches_of mine) ∙ agree e.customer e.number ∙ ap stretches_of here in
    let told : profile_row (picture e.job).works.units.punch ≡ profile_row (picture f.job).works.units.punch = some_is (sym (ap profile_of mine) ∙ alike e.customer e.number ∙ ap profile_of here) in
    let profile : e.job.profile ≡ f.job.profile =
    sym (picture_profile e.job) ∙ same_profile (picture e.job).works.units.punch.profile (picture f.job).works.units.punch.profile (ap (λ (r : ProfileRow). r.profile) told) ∙ picture_profile f.job in
    one_entry e f customer number (same_kind e.job.kind f.job.kind kind) (same_size e.job.size f.job.size size) (same_deck e.job.deck f.job.deck it.job.deck.1 other.job.deck.1 deck) profile
    (same_things stretch_row HasSwitches stretches_told e.job.stretches f.job.stretches it.job.stretches.switches other.job.stretches.switches rows)
    (same_truth e.job.held f.job.held held) (same_truth e.job.collected f.job.collected collected)

same_entries : (a b xs ys : Office) → ((c : List ℕ) (n : ℕ) → stretches_of (job_of c n a) ≡ stretches_of (job_of c n b)) → ((c : List ℕ) (n : ℕ) → profile_of (job_of c n a) ≡ profile_of (job_of c n b)) → AllByRecursion (IsIts a) xs → AllByRecursion (IsIts b) ys
    → AllByRecursion (λ (e : Entry). CanBeKept e.job) xs → AllByRecursion (λ (e : Entry). CanBeKept e.job) ys → map job_row (map named xs) ≡ map job_row (map named ys) → xs ≡ ys
same_entries a b [] [] agree alike mine yours its others is = refl
same_entries a b [] (f ∷ ys) agree alike mine yours its others is = absurd (let e = is in cc)
same_entries a b (e ∷ xs) [] agree alike mine yours its others is = absurd (let e = is in cc)
same_entries a b (e ∷ xs) (f ∷ ys) agree alike mine yours its others is =
    let first : job_row (named e) ≡ job_row (named f) = cc in
    let rest : map job_row (map named xs) ≡ map job_row (map named ys) = cc in
    ap (λ (x : Entry). let all : Office = x ∷ xs in all) (same_entry a b e f agree alike mine.0 yours.0 its.0 others.0 first)
    ∙ ap (λ (all : Office). let more : Office = f ∷ all in more) (same_entries a b xs ys agree alike mine.1 yours.1 its.1 others.1 rest)

pub one_office : (db : Database) (a b : Office) → Rows db a → Rows db b → a ≡ b
one_office db a b one two =
    same_entries a b a b (λ c n. same_placed c n 0 _ _ (sym (one.tables.shared.stretches.each c n) ∙ two.tables.shared.stretches.each c n))
    (λ c n. same_told c n _ _ (sym (one.tables.beside.profiles_are.each c n) ∙ two.tables.beside.profiles_are.each c n))
    (all_its a one.tables.shared.distinct) (all_its b two.tables.shared.distinct) one.jobs two.jobs (sym one.tables.shared.jobs ∙ two.tables.shared.jobs)
