-- zeros and commas that become blank at the left of a field
use Rattle.std.specs.Prelude.{ℕ, zero, suc, not, List, [], ◌∷◌, Bool, if◌then◌else◌, codes}
use Rattle.moves.specs.Characters.{is_any, blank}
use Rattle.moves.specs.declared.blanking.Stop.{Stop}
use Rattle.moves.specs.declared.blanking.Stop.TheVariants.{Other, Digit}

-- whether a character ends the blanking: for Other any but `0`, blank and comma, for Digit a digit
-- 1 to 9
unfoldable pub ends : Stop → ℕ → Bool
ends Other code = not (is_any (codes "0 ,") code)
ends Digit code = is_any (codes "123456789") code

-- how many characters are before the first that passes a test
unfoldable pub leading : (ℕ → Bool) → List ℕ → ℕ
leading test [] = 0
leading test (code ∷ codes) = if test code then 0 else suc (leading test codes)

-- a character after blanking: a blank in place of `0` or a comma, else itself
unfoldable pub faded : ℕ → ℕ
faded code = if is_any (codes "0,") code then blank else code

-- the characters with a blank in place of each `0` and comma among the first count
unfoldable pub blanked : ℕ → List ℕ → List ℕ
blanked zero codes = codes
blanked (suc count) [] = []
blanked (suc count) (code ∷ codes) = faded code ∷ blanked count codes
