-- What is saved of a job, against what the tables held before
use Rattle.std.proofs.Common.{◌≡◌, ℕ, List, [], ◌∷◌, ◌++◌, length, take, map, get_or, slice_index_or, ◌<◌, ◌≤◌, ◌+◌, ◌-◌, zero, suc, Result, Ok, Err, OnOk, Bool, true, false, ◌&&◌, ◌==◌, bytes_eq, if◌then◌else◌, Option, refl, sym, ap, subst, ◌∙◌, arith, length-append, append_assoc}
use Rattle.std.proofs.Math.Path.{fun_ext}
use Rattle.std.proofs.lemmas.List.{map-append, take_more, length-map, length-take-le}
use Rattle.std.specs.List.{All}
use Rattle.std.proofs.lemmas.List.Elements.{All-more}
use Rattle.sqlite.specs.Effect.{Database}
use Rattle.ledger_tables.specs.Cells.{LineCells, Pages, Pockets}
use Rattle.ledger_tables.specs.Named.{granted_last}
use Rattle.ledger_tables.specs.Tables.{NamedJob, ByJob, Tables, Holds, at_job, with_cards, with_lines, with_stretches}
use Rattle.ledger_tables.specs.declared.rows.ProfileRow.{ProfileRow}
use Rattle.ledger_tables.specs.declared.rows.StateRow.{StateRow}
use Rattle.ledger_tables.specs.declared.rows.StretchRow.{StretchRow}
use Rattle.office.specs.Jobs.{Job, granted_more}
use Rattle.office.specs.Office.{Entry, Office, job_of, is_entry}
use Rattle.office.specs.declared.stretches.Stretch.{Stretch}
use Rattle.office_tables.specs.Standing.{stretch_row}
use Rattle.ledger_tables.proofs.InsertLast.{name_is, name_yes}

-- ---- what holds where nothing failed

pub on_ok_both : {X E : Type 0} (r : Result X E) (P Q : Type 0) → OnOk r P → OnOk r Q → OnOk r (P × Q)
on_ok_both (Ok x) P Q p q = (p, q)
on_ok_both (Err e) P Q p q = tt

-- ---- what is noted for one job

module _ {X : Type 0} (customer : List ℕ) (number : ℕ) where
  pub at_job_here : (x : X) (all : ByJob X) → at_job customer number x all customer number ≡ x
  at_job_here x all = rw (name_yes customer customer number number refl refl)

  -- what is noted again is noted once
  pub at_job_again : (x y : X) (all : ByJob X) → at_job customer number x (at_job customer number y all) ≡ at_job customer number x all
  at_job_again x y all = fun_ext (λ c. fun_ext (λ n. go c n (bytes_eq customer c && (number == n))))
    where
      go : (c : List ℕ) (n : ℕ) (b : Bool) → (if b then x else (if b then y else all c n)) ≡ (if b then x else all c n)
      go c n true = refl
      go c n false = refl

  -- what stands there already
  pub at_job_same : (x : X) (all : ByJob X) → all customer number ≡ x → at_job customer number x all ≡ all
  at_job_same x all is = fun_ext (λ c. fun_ext (λ n. go c n (bytes_eq customer c && (number == n)) refl))
    where
      go : (c : List ℕ) (n : ℕ) (b : Bool) → bytes_eq customer c && (number == n) ≡ b → (if b then x else all c n) ≡ all c n
      go c n false other = refl
      go c n true here = let name = name_is customer c number n here in sym is ∙ ap (λ c. all c number) name.0 ∙ ap (λ n. all c n) name.1

-- one more behind those that are noted
at_job_pushed : {X : Type 0} (customer : List ℕ) (number : ℕ) (xs ys : List X) (x : X) (all : ByJob (List X)) → ys ≡ xs ++ x ∷ []
    → at_job customer number (at_job customer number xs all customer number ++ x ∷ []) (at_job customer number xs all) ≡ at_job customer number ys all
at_job_pushed customer number xs ys x all is =
    at_job_again customer number _ xs all ∙ ap (λ zs. at_job customer number (zs ++ x ∷ []) all) (at_job_here customer number xs all) ∙ ap (λ zs. at_job customer number zs all) (sym is)

-- ---- cards and lines

-- the rows of the things before one, and its own
one_more_row : {X Y : Type 0} (row : X → Y) (xs : List X) (i : ℕ) (x : X) (y : Y) → i < length xs → x ≡ slice_index_or xs i x → y ≡ row x → map row (take (i + 1) xs) ≡ map row (take i xs) ++ y ∷ []
one_more_row row xs i x y within is row_is =
    ap (map row) (take_more xs i x within) ∙ map-append row (take i xs) (get_or xs i x ∷ []) ∙ ap (λ z. map row (take i xs) ++ row z ∷ []) (sym is) ∙ ap (λ z. map row (take i xs) ++ z ∷ []) (sym row_is)

pub all_more : {X : Type 0} (P : X → Type 0) (xs : List X) (i : ℕ) (x : X) → i < length xs → x ≡ slice_index_or xs i x → All P (take i xs) → P x → All P (take (i + 1) xs)
all_more P xs i x within is all here = All-more P xs i x within all (subst P is here)

-- the rows of earlier things and of the things before one, and its own
pub one_more_behind : {X Y : Type 0} (row : X → Y) (earlier xs : List X) (i : ℕ) (x : X) (y : Y) → i < length xs → x ≡ slice_index_or xs i x → y ≡ row x → map row (earlier ++ take (i + 1) xs) ≡ map row (earlier ++ take i xs) ++ y ∷ []
one_more_behind row earlier xs i x y within is row_is =
    map-append row earlier (take (i + 1) xs)
    ∙ ap (λ ys. map row earlier ++ ys) (one_more_row row xs i x y within is row_is)
    ∙ sym (append_assoc (map row earlier) (map row (take i xs)) (y ∷ []))
    ∙ ap (λ ys. ys ++ y ∷ []) (sym (map-append row earlier (take i xs)))

pub rows_behind : {X Y : Type 0} (row : X → Y) (earlier xs : List X) (before i : ℕ) → before ≡ length earlier → i ≤ length xs → length (map row (earlier ++ take i xs)) ≡ before + i
rows_behind row earlier xs before i count within =
    let all : length (map row (earlier ++ take i xs)) ≡ length earlier + length (take i xs) = length-map (earlier ++ take i xs) row ∙ length-append earlier (take i xs) in
    omega (arith, all, count, length-take-le i xs within)

pub cards_still : (db : Database) (t : Tables) (customer : List ℕ) (number : ℕ) (cards : List (List ℕ)) → Holds db t → t.cards customer number ≡ cards → Holds db (with_cards customer number cards t)
cards_still db t customer number cards holds is = subst (λ all. Holds db (record t { cards = all })) (sym (at_job_same customer number cards t.cards is)) holds

pub cards_place : (t : Tables) (customer : List ℕ) (number : ℕ) (cards : List (List ℕ)) (i : ℕ) → length cards ≡ i → i + 1 ≡ length ((with_cards customer number cards t).cards customer number) + 1
cards_place t customer number cards i is = sym (ap (λ xs. length xs + 1) (at_job_here customer number cards t.cards) ∙ ap (λ n. n + 1) is)

pub card_pushed : (db : Database) (t : Tables) (customer : List ℕ) (number : ℕ) (cards more : List (List ℕ)) (card : List ℕ) → more ≡ cards ++ card ∷ []
    → Holds db (with_cards customer number ((with_cards customer number cards t).cards customer number ++ card ∷ []) (with_cards customer number cards t)) → Holds db (with_cards customer number more t)
card_pushed db t customer number cards more card is = subst (λ all. Holds db (record t { cards = all })) (at_job_pushed customer number cards more card t.cards is)

pub lines_still : (db : Database) (t : Tables) (customer : List ℕ) (number : ℕ) (lines : List LineCells) → Holds db t → t.lines customer number ≡ lines → Holds db (with_lines customer number lines t)
lines_still db t customer number lines holds is = subst (λ all. Holds db (record t { lines = all })) (sym (at_job_same customer number lines t.lines is)) holds

pub lines_place : (t : Tables) (customer : List ℕ) (number : ℕ) (lines : List LineCells) (i : ℕ) → length lines ≡ i → i + 1 ≡ length ((with_lines customer number lines t).lines customer number) + 1
lines_place t customer number lines i is = sym (ap (λ xs. length xs + 1) (at_job_here customer number lines t.lines) ∙ ap (λ n. n + 1) is)

pub line_pushed : (db : Database) (t : Tables) (customer : List ℕ) (number : ℕ) (lines more : List LineCells) (line : LineCells) → more ≡ lines ++ line ∷ []
    → Holds db (with_lines customer number ((with_lines customer number lines t).lines customer number ++ line ∷ []) (with_lines customer number lines t)) → Holds db (with_lines customer number more t)
line_pushed db t customer number lines more line is = subst (λ all. Holds db (record t { lines = all })) (at_job_pushed customer number lines more line t.lines is)

-- ---- stretches

-- the last of a list
last_of : (before : List Stretch) (last found : Stretch) (n : ℕ) → n ≡ length before → get_or (before ++ last ∷ []) n found ≡ last
last_of [] last found zero is = refl
last_of [] last found (suc n) is = absurd (omega (arith, is))
last_of (s ∷ before) last found zero is = absurd (omega (arith, is))
last_of (s ∷ before) last found (suc n) is = last_of before last found n (omega (arith, is))

pub last_stretched : (db : Database) (t : Tables) (customer : List ℕ) (number place : ℕ) (before now : List Stretch) (last found : Stretch) (row : StretchRow) → now ≡ before ++ last ∷ [] → t.stretches customer number ≡ map stretch_row before
    → place ≡ length now - 1 → found ≡ get_or now (length now - 1) found → row ≡ stretch_row found
    → (place ≡ length (t.stretches customer number) → Holds db (with_stretches customer number (t.stretches customer number ++ row ∷ []) t)) → Holds db (with_stretches customer number (map stretch_row now) t)
last_stretched db t customer number place before now last found row more is at is_found row_is did =
    let many : length now ≡ length before + 1 = ap length more ∙ length-append before (last ∷ []) in
    let here : length now - 1 ≡ length before = omega (arith, many) in
    let rows : length (t.stretches customer number) ≡ length before = ap length is ∙ length-map before stretch_row in
    let same : found ≡ last = is_found ∙ ap (λ n. get_or now n found) here ∙ ap (λ xs. get_or xs (length before) found) more ∙ last_of before last found (length before) refl in
    let one : t.stretches customer number ++ row ∷ [] ≡ map stretch_row before ++ row ∷ [] = ap (λ (xs : List StretchRow). xs ++ row ∷ []) is in
    let two : map stretch_row before ++ row ∷ [] ≡ map stretch_row before ++ stretch_row last ∷ [] = ap (λ (r : StretchRow). map stretch_row before ++ r ∷ []) (row_is ∙ ap stretch_row same) in
    let three : map stretch_row before ++ stretch_row last ∷ [] ≡ map stretch_row now = sym (ap (map stretch_row) more ∙ map-append stretch_row before (last ∷ [])) in
    subst (λ all. Holds db (with_stretches customer number all t)) (one ∙ two ∙ three) (did (omega (arith, at, here, rows)))

pub length-granted_more : (limit : ℕ) (stretches : List Stretch) → length (granted_more limit stretches) ≡ length stretches
length-granted_more limit [] = refl
length-granted_more limit (s ∷ []) = refl
length-granted_more limit (s ∷ t ∷ stretches) = ap (λ n. suc n) (length-granted_more limit (t ∷ stretches))

-- the last row of a job's stretches, with what is granted in the last of them now
granted_again : (limit : ℕ) (before : List Stretch) (n : ℕ) (last : Stretch) → suc n ≡ length (granted_more limit before) → last ≡ get_or (granted_more limit before) n last
    → granted_last last.granted (map stretch_row before) ≡ map stretch_row (granted_more limit before)
granted_again limit [] n last some is = absurd (omega (arith, some))
granted_again limit (s ∷ []) zero last some is = ap (λ (x : Stretch). let y : List StretchRow = (record { switches = s.switches.0; granted = x.granted }) ∷ [] in y) is
granted_again limit (s ∷ []) (suc n) last some is = absurd (omega (arith, some))
granted_again limit (s ∷ t ∷ rest) zero last some is = absurd (omega (arith, some, length-granted_more limit (t ∷ rest)))
granted_again limit (s ∷ t ∷ rest) (suc n) last some is = ap (λ xs. stretch_row s ∷ xs) (granted_again limit (t ∷ rest) n last (omega (arith, some)) is)

pub last_granted : (db : Database) (t : Tables) (customer : List ℕ) (number limit place : ℕ) (before now : List Stretch) (last : Stretch) → now ≡ granted_more limit before → t.stretches customer number ≡ map stretch_row before
    → 0 < length now → place ≡ length now - 1 → last ≡ get_or now (length now - 1) last
    → (length (t.stretches customer number) ≡ place + 1 → Holds db (with_stretches customer number (granted_last last.granted (t.stretches customer number)) t)) → Holds db (with_stretches customer number (map stretch_row now) t)
last_granted db t customer number limit place before now last more is some at is_last did =
    let here : suc place ≡ length now = omega (arith, some, at) in
    let again = granted_again limit before place last (here ∙ ap length more) (is_last ∙ ap (λ n. get_or now n last) (sym at) ∙ ap (λ xs. get_or xs place last) more) in
    let rows : length (t.stretches customer number) ≡ length before = ap length is ∙ length-map before stretch_row in
    let many : length now ≡ length before = ap length more ∙ length-granted_more limit before in
    subst (λ all. Holds db (with_stretches customer number all t)) (ap (granted_last last.granted) is ∙ again ∙ ap (map stretch_row) (sym more)) (did (omega (arith, rows, many, here)))

-- ---- the office and its tables

-- a job has one name
pub is_other : (customer c : List ℕ) (number n : ℕ) (e : Entry) → is_entry customer number e ≡ true → is_entry c n e ≡ true → (customer ≡ c) × (number ≡ n)
is_other customer c number n e this that =
    let one = name_is e.customer customer e.number number this in
    let two = name_is e.customer c e.number n that in
    (sym one.0 ∙ two.0, sym one.1 ∙ two.1)

-- something that is told of each job
abbrev pub told_of : {X : Type 0} → (Option Job → X) → Office → ByJob X
told_of tell office c n = tell (job_of c n office)

-- tables are what they hold
pub same_tables : (t u : Tables) → t.jobs ≡ u.jobs → t.stretches ≡ u.stretches → t.states ≡ u.states → t.pages ≡ u.pages → t.cards ≡ u.cards → t.lines ≡ u.lines → t.profiles ≡ u.profiles → t.pockets ≡ u.pockets → t ≡ u
same_tables t u jobs stretches states pages cards lines profiles pockets =
    ap (λ (x : List NamedJob). let y : Tables = record t { jobs = x } in y) jobs
    ∙ ap (λ (x : ByJob (List StretchRow)). let y : Tables = record t { jobs = u.jobs; stretches = x } in y) stretches
    ∙ ap (λ (x : ByJob (Option StateRow)). let y : Tables = record t { jobs = u.jobs; stretches = u.stretches; states = x } in y) states
    ∙ ap (λ (x : ByJob Pages). let y : Tables = record u { pages = x; cards = t.cards; lines = t.lines; profiles = t.profiles; pockets = t.pockets } in y) pages
    ∙ ap (λ (x : ByJob (List (List ℕ))). let y : Tables = record u { cards = x; lines = t.lines; profiles = t.profiles; pockets = t.pockets } in y) cards
    ∙ ap (λ (x : ByJob (List LineCells)). let y : Tables = record u { lines = x; profiles = t.profiles; pockets = t.pockets } in y) lines
    ∙ ap (λ (x : ByJob (Option ProfileRow)). let y : Tables = record u { profiles = x; pockets = t.pockets } in y) profiles
    ∙ ap (λ (x : ByJob Pockets). let y : Tables = record u { pockets = x } in y) pockets
