-- the page rows of a job while some of its pages have been written
use Rattle.std.proofs.Common.{◌≡◌, ◌<◌, ◌≤◌, ◌+◌, ◌-◌, ◌*◌, ◌/◌, ◌∙◌, ℕ, zero, suc, Bool, true, false, ◌||◌, ◌==◌, nat_lt, bytes_eq, if◌then◌else◌, List, [], ◌∷◌, ◌++◌, length, map, take, drop, replicate, get_or, Some, None, ap, sym, subst, refl, arith, true≢false}
use Rattle.std.specs.List.{list_any}
use Rattle.std.proofs.Math.Path.{fun_ext}
use Rattle.std.proofs.lemmas.Bool.Decides.{nat_tests}
use Rattle.std.proofs.lemmas.List.{length-replicate, take-replicate, drop-replicate}
use Rattle.std.proofs.lemmas.Slice.Eq.{bytes_eq-Decides}
use Rattle.sqlite.specs.Effect.{Database}
use Rattle.core_store.specs.Pages.{cells_of, page_at, page_count, AreChanged}
use Rattle.core_store.specs.Planes.{joined_planes}
use Rattle.core_store.specs.Storage.{Storage, blank_storage, largest_size}
use Rattle.core_store.specs.declared.planes.PlaneCore.{PlaneCore}
use Rattle.ledger_tables.specs.Cells.{Pages, blank_bytes, no_pages, unless_blank}
use Rattle.ledger_tables.specs.Tables.{Beside, ByJob, Tables, HoldsAs, at_job, at_page, with_page, with_pages}
use Rattle.ledger_rows.specs.Columns.{byte_of}
use Rattle.ledger_rows.specs.Pages.{page_bytes, rows_of}
use Rattle.ledger.proofs.SavingLemmas.{at_job_here, at_job_again, at_job_same}

-- whether a page is among these
abbrev pub is_among : ℕ → List ℕ → Bool
is_among k = list_any (λ j. j == k)

-- the rows of the second storage for these pages, and of the first for the others
abbrev pub mixed : Storage → Storage → List ℕ → Pages
mixed s t ks k = if is_among k ks then rows_of t k else rows_of s k

-- ---- before the first page

pub pages_still : (there : Beside) (version : ℕ) (db : Database) (t : Tables) (customer : List ℕ) (number : ℕ) (pages : Pages) → HoldsAs there version db t → t.pages customer number ≡ pages → HoldsAs there version db (with_pages customer number pages t)
pages_still there version db t customer number pages holds is =
    subst (λ (all : ByJob Pages). HoldsAs there version db (record t { pages = all })) (sym (at_job_same customer number pages t.pages is)) holds

-- ---- one page more

among_push : (k page : ℕ) (ks : List ℕ) → is_among k (ks ++ page ∷ []) ≡ (is_among k ks || (page == k))
among_push k page [] = last (page == k)
  where
    last : (b : Bool) → (b || false) ≡ b
    last true = refl
    last false = refl
among_push k page (j ∷ ks) = first (j == k) (among_push k page ks)
  where
    first : (b : Bool) → is_among k (ks ++ page ∷ []) ≡ (is_among k ks || (page == k)) → (b || is_among k (ks ++ page ∷ [])) ≡ ((b || is_among k ks) || (page == k))
    first true rest = refl
    first false rest = rest

page_row_is : (t : Storage) (page : ℕ) → page < page_count t → rows_of t page ≡ unless_blank (Some (page_bytes t page))
page_row_is t page less = go (nat_lt page (page_count t)) refl
  where
    go : (b : Bool) → nat_lt page (page_count t) ≡ b → unless_blank (if b then Some (page_bytes t page) else None) ≡ unless_blank (Some (page_bytes t page))
    go true is = refl
    go false is = absurd (grind (arith, nat_tests))

mixed_more : (s t : Storage) (ks : List ℕ) (page : ℕ) → page < page_count t → at_page page (unless_blank (Some (page_bytes t page))) (mixed s t ks) ≡ mixed s t (ks ++ page ∷ [])
mixed_more s t ks page less = fun_ext (λ k. go k (page == k) refl (is_among k ks))
  where
    go : (k : ℕ) (b : Bool) → page == k ≡ b → (a : Bool) → at_page page (unless_blank (Some (page_bytes t page))) (mixed s t ks) k ≡ mixed s t (ks ++ page ∷ []) k
    go k true is a =
        let same : page ≡ k = grind (arith, nat_tests) in
        let here : rows_of t k ≡ unless_blank (Some (page_bytes t page)) = subst (λ n. rows_of t n ≡ unless_blank (Some (page_bytes t page))) same (page_row_is t page less) in
        rw (is, among_push k page ks, is) (either (is_among k ks) here)
      where
        either : (a : Bool) → rows_of t k ≡ unless_blank (Some (page_bytes t page)) → unless_blank (Some (page_bytes t page)) ≡ (if a || true then rows_of t k else rows_of s k)
        either true row = sym row
        either false row = sym row
    go k false is a = rw (is, among_push k page ks, is) (stays (is_among k ks))
      where
        stays : (a : Bool) → (if a then rows_of t k else rows_of s k) ≡ (if a || false then rows_of t k else rows_of s k)
        stays true = refl
        stays false = refl

-- of pages that rise, none before a place is the one that is there
pub not_among : (page place : ℕ) (ks : List ℕ) → ((i : ℕ) → i < place → i < length ks → get_or ks i page < page) → is_among page (take place ks) ≡ false
not_among page zero ks below = refl
not_among page (suc place) [] below = refl
not_among page (suc place) (k ∷ ks) below =
    let less : k < page = below 0 (omega arith) (omega arith) in
    let other : k == page ≡ false = grind (arith, nat_tests) in
    rw other (not_among page place ks (λ i before within. below (suc i) (omega (arith, before)) (omega (arith, within))))

-- a page that is not among those written has the row that it had
pub page_before : (u : Tables) (customer : List ℕ) (number : ℕ) (s t : Storage) (ks : List ℕ) (page : ℕ) (bytes : List ℕ) → is_among page ks ≡ false → page < page_count s → bytes ≡ page_bytes s page
    → (with_pages customer number (mixed s t ks) u).pages customer number page ≡ unless_blank (Some bytes)
page_before u customer number s t ks page bytes out less is =
    ap (λ (p : Pages). p page) (at_job_here customer number (mixed s t ks) u.pages)
    ∙ ap (λ b. if b then rows_of t page else rows_of s page) out
    ∙ page_row_is s page less
    ∙ ap (λ b. unless_blank (Some b)) (sym is)

pub page_put : (there : Beside) (version : ℕ) (db : Database) (u : Tables) (customer : List ℕ) (number : ℕ) (s t : Storage) (ks more : List ℕ) (page : ℕ) (bytes : List ℕ) → more ≡ ks ++ page ∷ [] → page < page_count t → bytes ≡ page_bytes t page
    → HoldsAs there version db (with_page customer number page (unless_blank (Some bytes)) (with_pages customer number (mixed s t ks) u)) → HoldsAs there version db (with_pages customer number (mixed s t more) u)
page_put there version db u customer number s t ks more page bytes is less row =
    subst (λ (all : ByJob Pages). HoldsAs there version db (record u { pages = all }))
    (at_job_again customer number _ (mixed s t ks) u.pages
    ∙ ap (λ p. at_job customer number (at_page page (unless_blank (Some bytes)) p) u.pages) (at_job_here customer number (mixed s t ks) u.pages)
    ∙ ap (λ b. at_job customer number (at_page page (unless_blank (Some b)) (mixed s t ks)) u.pages) row
    ∙ ap (λ p. at_job customer number p u.pages) (mixed_more s t ks page less ∙ ap (mixed s t) (sym is)))

-- ---- all pages

among_at : (ks : List ℕ) (i k : ℕ) → i < length ks → get_or ks i k ≡ k → is_among k ks ≡ true
among_at [] i k less is = absurd (omega (arith, less))
among_at (j ∷ ks) zero k less is =
    let same : j == k ≡ true = grind (arith, nat_tests) in
    rw same
among_at (j ∷ ks) (suc i) k less is = first (j == k) (among_at ks i k (omega (arith, less)) is)
  where
    first : (b : Bool) → is_among k ks ≡ true → (b || is_among k ks) ≡ true
    first true rest = refl
    first false rest = rest

-- where all pages that changed were written, the rows are those of the second storage
pub all_put : (s t : Storage) (ks : List ℕ) → length s ≡ length t → AreChanged s t ks → mixed s t ks ≡ rows_of t
all_put s t ks long changed = fun_ext (λ k. go k (is_among k ks) refl)
  where
    counts : page_count s ≡ page_count t
    counts = ap (λ n. n / 100) long

    same_row : (k : ℕ) → is_among k ks ≡ false → (b : Bool) → nat_lt k (page_count t) ≡ b → unless_blank (if b then Some (page_bytes s k) else None) ≡ unless_blank (if b then Some (page_bytes t k) else None)
    same_row k out true is =
        let less : k < page_count s = let here : k < page_count t = grind (arith, nat_tests) in omega (arith, here, counts) in
        ap (λ cells. unless_blank (Some (map byte_of cells))) (changed.others k less (λ c. true≢false (sym (among_at ks c.0 k c.1 c.2) ∙ out)))
    same_row k out false is = refl

    go : (k : ℕ) (a : Bool) → is_among k ks ≡ a → (if a then rows_of t k else rows_of s k) ≡ rows_of t k
    go k true is = refl
    go k false is = ap (λ n. unless_blank (if nat_lt k n then Some (page_bytes s k) else None)) counts ∙ same_row k is (nat_lt k (page_count t)) refl

-- ---- the row of one page

pub blank_row : (bytes : List ℕ) → bytes_eq bytes blank_bytes ≡ true → None ≡ unless_blank (Some bytes)
blank_row bytes is = go (bytes_eq bytes blank_bytes) is
  where
    go : (b : Bool) → b ≡ true → None ≡ (if b then None else Some bytes)
    go true is = refl
    go false is = absurd (true≢false (sym is))

pub full_row : (bytes : List ℕ) → bytes_eq bytes blank_bytes ≡ false → Some bytes ≡ unless_blank (Some bytes)
full_row bytes is = go (bytes_eq bytes blank_bytes) is
  where
    go : (b : Bool) → b ≡ false → Some bytes ≡ (if b then None else Some bytes)
    go true is = absurd (true≢false is)
    go false is = refl

-- ---- a blank storage

blank_cells : map byte_of (replicate 100 (0, false)) ≡ blank_bytes
blank_cells = refl

-- a blank storage has no page rows
pub blank_rows : (n : ℕ) → rows_of (blank_storage n) ≡ no_pages
blank_rows n = fun_ext (λ k. go k (nat_lt k (page_count (blank_storage n))) refl)
  where
    go : (k : ℕ) (b : Bool) → nat_lt k (page_count (blank_storage n)) ≡ b → unless_blank (if b then Some (page_bytes (blank_storage n) k) else None) ≡ None
    go k false out = refl
    go k true less =
        let within : k < length (blank_storage n) / 100 = grind (arith, nat_tests) in
        let fits : k * 100 + 100 ≤ n = omega (arith, within, length-replicate {A = ℕ × Bool} n (0, false)) in
        let most : k * 100 + 100 - k * 100 ≡ 100 = omega arith in
        let page : page_at (blank_storage n) k ≡ replicate 100 (0, false) =
        ap (λ m. take m (drop (k * 100) (blank_storage n))) most ∙ ap (take 100) (drop-replicate (k * 100) n (0, false)) ∙ take-replicate 100 (n - k * 100) (0, false) (omega (arith, fits)) in
        let bytes : page_bytes (blank_storage n) k ≡ blank_bytes = ap (map byte_of) page ∙ blank_cells in
        sym (blank_row (page_bytes (blank_storage n) k) ((bytes_eq-Decides (page_bytes (blank_storage n) k) blank_bytes).1 bytes))

-- ---- what planes hold

joined_length : (codes marks : List ℕ) → length codes ≡ length marks → length (joined_planes codes marks) ≡ length codes
joined_length [] marks even = refl
joined_length (code ∷ codes) [] even = absurd (omega (arith, even))
joined_length (code ∷ codes) (mark ∷ marks) even = ap (λ n. suc n) (joined_length codes marks (omega (arith, even)))

pub planes_fit : (core : PlaneCore) → length (cells_of core) ≤ largest_size
planes_fit core = omega (arith, joined_length core.codes.items core.marks.items core.even, core.limit)
