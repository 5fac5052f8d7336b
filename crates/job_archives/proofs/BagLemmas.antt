-- Files as they are held, and by their paths and bytes.
use Rattle.std.proofs.Common.{◌≡◌, ◌∙◌, ℕ, ◌+◌, ◌<◌, drop, List, [], ◌∷◌, ◌++◌, flat_map, length, refl, ap, arith, slice_index_or, sym}
use Rattle.std.specs.List.{sum_by}
use Rattle.std.proofs.Math.ListN.{drop_of_length-le}
use Rattle.std.proofs.lemmas.List.{length-map}
use Rattle.std.proofs.lemmas.List.Folds.{flat_map-map}
use Rattle.std.proofs.lemmas.List.Sums.{sum_by-cons}
use Rattle.job_archives.specs.Archives.{File, files_as}
use Rattle.job_archives.specs.Bags.{manifest_line, manifest_of, octets_in}
use Rattle.job_archives.specs.declared.archives.BagFile.{BagFile}

pub same_manifest : (files : List BagFile) → manifest_of (files_as files) ≡ flat_map (λ (file : BagFile). manifest_line file.path.now file.bytes.now) files
same_manifest files = flat_map-map (λ (file : File). manifest_line file.0 file.1) (λ (file : BagFile). (file.path.now, file.bytes.now)) files

pub same_octets : (files : List BagFile) → octets_in (files_as files) ≡ sum_by (λ (file : BagFile). length file.bytes.now) files
same_octets [] = refl
same_octets (x ∷ files) =
    sum_by-cons (λ (file : File). length file.1) (x.path.now, x.bytes.now) (files_as files)
    ∙ (ap (λ n. length x.bytes.now + n) (same_octets files) ∙ sym (sum_by-cons (λ (file : BagFile). length file.bytes.now) x files))

-- behind all of fewer bytes there is nothing
pub none_behind : (n : ℕ) (text : List ℕ) → length text < n → [] ≡ drop n text
none_behind n text short = sym (drop_of_length-le text (omega (arith, short)))

six : (xs : List BagFile) (d : BagFile) → length xs ≡ 6 → xs ≡ slice_index_or xs 0 d ∷ slice_index_or xs 1 d ∷ slice_index_or xs 2 d ∷ slice_index_or xs 3 d ∷ slice_index_or xs 4 d ∷ slice_index_or xs 5 d ∷ []
six [] d h = absurd (omega arith)
six (a ∷ []) d h = absurd (omega arith)
six (a ∷ b ∷ []) d h = absurd (omega arith)
six (a ∷ b ∷ e ∷ []) d h = absurd (omega arith)
six (a ∷ b ∷ e ∷ f ∷ []) d h = absurd (omega arith)
six (a ∷ b ∷ e ∷ f ∷ g ∷ []) d h = absurd (omega arith)
six (a ∷ b ∷ e ∷ f ∷ g ∷ i ∷ []) d h = refl
six (a ∷ b ∷ e ∷ f ∷ g ∷ i ∷ j ∷ rest) d h = absurd (omega arith)

-- six files one by one, before others
pub six_before : (xs : List BagFile) (d : BagFile) (files rest : List File) → files_as xs ≡ files → length files ≡ 6
    → files_as (slice_index_or xs 0 d ∷ slice_index_or xs 1 d ∷ slice_index_or xs 2 d ∷ slice_index_or xs 3 d ∷ slice_index_or xs 4 d ∷ slice_index_or xs 5 d ∷ []) ++ rest ≡ files ++ rest
six_before xs d files rest are count =
    let long : length xs ≡ 6 = sym (length-map xs (λ (file : BagFile). (file.path.now, file.bytes.now))) ∙ ap length are ∙ count in
    ap (λ (ys : List BagFile). files_as ys ++ rest) (sym (six xs d long)) ∙ ap (λ (ys : List File). ys ++ rest) are
