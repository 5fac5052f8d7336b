-- operations that are not in the table but have another name in Autocoder, are spelled out as a word,
-- or are left out, and what to write for them
use Rattle.std.specs.Prelude.{ℕ, Bool, if◌then◌else◌, List, [], ◌∷◌, Option, Some, None, codes}
use Rattle.std.specs.List.{list_any}
use Rattle.source_reports.specs.OperationNames.{has_glyphs}

-- whether an operation field has one of these names
abbrev pub is_among : List (List ℕ) → List ℕ → Bool
is_among table field = list_any (λ name. has_glyphs field name) table

-- multiply
abbrev pub multiply : List (List ℕ)
multiply = codes "M    " ∷ codes "MUL  " ∷ codes "MULT " ∷ []

-- divide
abbrev pub divide : List (List ℕ)
divide = codes "D    " ∷ codes "DIV  " ∷ []

-- the orders to tapes
abbrev pub tapes : List (List ℕ)
tapes = codes "RT   " ∷ codes "WT   " ∷ codes "RTW  " ∷ codes "WTW  " ∷ codes "RWD  " ∷
    codes "RWU  " ∷ codes "BSP  " ∷ codes "SKP  " ∷ codes "WTM  " ∷ codes "CU   " ∷ []

-- the orders to disks
abbrev pub disks : List (List ℕ)
disks = codes "SD   " ∷ codes "RD   " ∷ codes "WD   " ∷ codes "RDW  " ∷ codes "WDW  " ∷
    codes "RDT  " ∷ codes "WDT  " ∷ codes "WDC  " ∷ []

-- the cards of programs in parts
abbrev pub parts : List (List ℕ)
parts = codes "EX   " ∷ codes "XFR  " ∷ codes "LTORG" ∷ codes "SFX  " ∷ codes "ENT  " ∷ []

-- the orders to feed cards early
abbrev pub feeds : List (List ℕ)
feeds = codes "SRF  " ∷ codes "SPF  " ∷ []

-- what to write for an operation that is left out with others
abbrev pub kind_left_out : List ℕ → Option (List ℕ)
kind_left_out field =
    if is_among multiply field then Some (codes "; multiply is left out: add in a loop")
    else (if is_among divide field then Some (codes "; divide is left out: subtract in a loop")
    else (if is_among tapes field then Some (codes "; tapes are left out: read and punch cards")
    else (if is_among disks field then Some (codes "; disks are left out: read and punch cards")
    else (if is_among parts field then Some (codes "; a program has one part, which END ends")
    else (if is_among feeds field then Some (codes "; R and P alone move cards")
    else None)))))

-- what to write for an operation that is left out
abbrev pub left_out : List ℕ → Option (List ℕ)
left_out field =
    if has_glyphs field (codes "MCM  ")
    then Some (codes "; move record is left out: move its fields")
    else (if has_glyphs field (codes "DSA  ")
    then Some (codes "; address constants are left out: use SBR")
    else (if has_glyphs field (codes "DA   ")
    then Some (codes "; record areas are left out: use DS")
    else kind_left_out field))

-- what to write for an operation that is spelled out as a word, or is left out
abbrev pub spelled_out : List ℕ → Option (List ℕ)
spelled_out field =
    if has_glyphs field (codes "HALT ") then Some (codes "; here it is H")
    else (if has_glyphs field (codes "ADD  ") then Some (codes "; here it is A")
    else (if has_glyphs field (codes "SUB  ") then Some (codes "; here it is S")
    else (if has_glyphs field (codes "MOVE ") then Some (codes "; here it is MCW")
    else (if has_glyphs field (codes "READ ") then Some (codes "; here it is R")
    else (if has_glyphs field (codes "PRINT") then Some (codes "; here it is W")
    else (if has_glyphs field (codes "PUNCH") then Some (codes "; here it is P")
    else left_out field))))))

-- what to write for an operation that has another name here, is spelled out, or is left out
abbrev pub advice : List ℕ → Option (List ℕ)
advice field =
    if has_glyphs field (codes "MLC  ") then Some (codes "; here it is MCW")
    else (if has_glyphs field (codes "MLCWA") then Some (codes "; here it is LCA")
    else (if has_glyphs field (codes "MLNS ") then Some (codes "; here it is MN")
    else (if has_glyphs field (codes "MLZS ") then Some (codes "; here it is MZ")
    else spelled_out field)))
