-- the faults of a line, byte by byte
use Rattle.std.proofs.Common.{rules, arith, sym, ap, ◌∙◌, ◌≡◌, ◌<◌, ◌≤◌, ◌+◌, ℕ, nat_lt, max, if◌then◌else◌, Bool, true, false, List, ◌∷◌, ◌++◌, append_assoc}
use Rattle.card_texts.specs.declared.rules.Rules.{Rules}
use Rattle.card_texts.specs.declared.faults.TextFault.{TextFault}
use Rattle.card_texts.specs.declared.finding.Met.{Met}
use Rattle.card_texts.specs.Columns.{behind}
use Rattle.card_texts.specs.Faults.{error_within, faults_from, is_bare, is_inside, is_past, met_behind, told_of}

-- a number below another is
pub below_told : (m n : ℕ) → m < n → nat_lt m n ≡ true
below_told m n below = grind (arith, below)

-- a number from another on is not below it
pub beyond_told : (m n : ℕ) → n ≤ m → nat_lt m n ≡ false
beyond_told m n beyond = grind (arith, beyond)

-- the third of four values, by three tests
third : (a b c : Bool) (x y z w : List TextFault) → a ≡ false → b ≡ false → c ≡ true
    → (if a then x else (if b then y else (if c then z else w))) ≡ z
third a b c x y z w one two three =
    ap (λ t. if t then x else (if b then y else (if c then z else w))) one
    ∙ ap (λ t. if t then y else (if c then z else w)) two ∙ ap (λ t. if t then z else w) three

-- the fourth of five values, by four tests
fourth : (a b c d : Bool) (x y z w v : List TextFault) → a ≡ false → b ≡ false → c ≡ false
    → d ≡ true
    → (if a then x else (if b then y else (if c then z else (if d then w else v)))) ≡ w
fourth a b c d x y z w v one two three four =
    ap (λ t. if t then x else (if b then y else (if c then z else (if d then w else v)))) one
    ∙ ap (λ t. if t then y else (if c then z else (if d then w else v))) two
    ∙ ap (λ t. if t then z else (if d then w else v)) three ∙ ap (λ t. if t then w else v) four

-- the faults behind a byte within the card, where those of the byte are told
pub within_step : (rules : Rules) (number filled : ℕ) (met : Met) (byte : ℕ) (rest text : List ℕ)
    (told found : List TextFault)
    → is_past rules.keeps filled ≡ false → is_inside met byte ≡ false → filled < 80
    → text ≡ byte ∷ rest
    → told ++ faults_from rules number filled met text ≡ found
    → (told ++ told_of number filled met (error_within rules byte rest))
    ++ faults_from rules number (behind rules filled byte)
    (met_behind met (error_within rules byte rest) byte) rest ≡ found
unfolding faults_from
within_step rules number filled met byte rest text told found past inside below is before =
    let own : List TextFault = told_of number filled met (error_within rules byte rest) in
    let later : List TextFault = faults_from rules number (behind rules filled byte) (met_behind met (error_within rules byte rest) byte) rest in
    let step : faults_from rules number filled met (byte ∷ rest) ≡ own ++ later =
    third (is_past rules.keeps filled) (is_inside met byte) (nat_lt filled 80) _ _ _ _ past inside (below_told filled 80 below) in
    append_assoc told own later
    ∙ ap (λ faults. told ++ faults) (sym (ap (faults_from rules number filled met) is ∙ step))
    ∙ before

-- the faults behind a blank past the card
pub bare_step : (rules : Rules) (number filled : ℕ) (met : Met) (byte : ℕ) (rest text : List ℕ)
    (told found : List TextFault)
    → is_past rules.keeps filled ≡ false → is_inside met byte ≡ false → 80 ≤ filled
    → is_bare rules byte ≡ true → text ≡ byte ∷ rest
    → told ++ faults_from rules number filled met text ≡ found
    → told ++ faults_from rules number (behind rules filled byte) met rest ≡ found
unfolding faults_from
bare_step rules number filled met byte rest text told found past inside beyond bare is before =
    let step : faults_from rules number filled met (byte ∷ rest)
    ≡ faults_from rules number (behind rules filled byte) met rest =
    fourth (is_past rules.keeps filled) (is_inside met byte) (nat_lt filled 80) (is_bare rules byte) _ _ _ _ _ past inside (beyond_told filled 80 beyond) bare in
    ap (λ faults. told ++ faults) (sym (ap (faults_from rules number filled met) is ∙ step))
    ∙ before

-- one byte less is left, and the columns that are filled stay in range
pub bound_step : (filled behind_it line rest : ℕ) → filled + (rest + 1) ≤ line + 255
    → behind_it ≤ max (filled + 1) 255 → rest + 1 ≤ line → behind_it + rest ≤ line + 255
bound_step filled behind_it line rest before step less = omega (arith, before, step, less)
