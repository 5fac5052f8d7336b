-- texts to which pieces are added, one after the other
use Rattle.std.proofs.Common.{◌≡◌, ◌∙◌, ap, ℕ, List, ◌++◌, append_assoc}

-- a text behind which three pieces were put
pub three_pieces : (text a b c one two three : List ℕ) → one ≡ text ++ a → two ≡ one ++ b
    → three ≡ two ++ c → three ≡ text ++ ((a ++ b) ++ c)
three_pieces text a b c one two three first second third =
    third
    ∙ ap (λ before. before ++ c) (second ∙ ap (λ before. before ++ b) first ∙ append_assoc text a b)
    ∙ append_assoc text (a ++ b) c

-- a text behind which four pieces were put
pub four_pieces : (text a b c d one two three four : List ℕ) → one ≡ text ++ a → two ≡ one ++ b
    → three ≡ two ++ c → four ≡ three ++ d → four ≡ text ++ (((a ++ b) ++ c) ++ d)
four_pieces text a b c d one two three four first second third fourth =
    fourth ∙ ap (λ before. before ++ d) (three_pieces text a b c one two three first second third)
    ∙ append_assoc text ((a ++ b) ++ c) d
