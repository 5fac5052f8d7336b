-- Texts of which JSON escapes no byte.
use Rattle.std.proofs.Common.{◌≡◌, ◌∙◌, ℕ, zero, suc, ◌<◌, ◌/◌, ◌%◌, ◌==◌, List, [], ◌∷◌, ◌++◌, Bool, true, false, cond, codes, decimal, refl, ap, arith, sym, subst, append_assoc, true≢false, inl, inr, ◌||◌, ◌&&◌, ◌⊎◌, length}
use Rattle.std.specs.Str.{bytes_eq}
use Rattle.std.specs.List.{list_all, list_any}
use Rattle.std.proofs.lemmas.Bool.{eqb-true}
use Rattle.texts.specs.Names.{is_customer, is_letter_or_digit, is_name_length}
use Rattle.office.specs.Queued.{QueuedJob}
use Rattle.std.specs.Fmt.{digits, digits_onto, digit_glyph}
use Rattle.std.proofs.lemmas.Grind.{flat_map-append}
use Rattle.std.proofs.lemmas.Slice.Eq.{bytes_eq-Decides}
use Rattle.json.specs.Print.{escape, escape_byte}
use Rattle.bcd.proofs.Tables.{at_each}
use Rattle.core_store.specs.declared.checks.Check.{Check}
use Rattle.core_store.specs.declared.checks.Check.TheVariants as check
use Rattle.machine.specs.declared.standings.StandingAt.{StandingAt}
use Rattle.machine.specs.declared.standings.StandingAt.TheVariants as standing
use Rattle.core_store.specs.Checks.{check_name}
use Rattle.machine.specs.Standings.{standing_words}
use Rattle.http_messages.specs.ReplyBodies.{queued_text}

abbrev pub IsPlain : List ℕ → Type 0
IsPlain text = escape text ≡ text

joined_plain : (xs ys : List ℕ) → IsPlain xs → IsPlain ys → IsPlain (xs ++ ys)
joined_plain xs ys x y = flat_map-append escape_byte xs ys ∙ ap (λ t. t ++ escape ys) x ∙ ap (λ t. xs ++ t) y

-- a digit is not escaped
digit_plain : (d : ℕ) → d < 10 → escape_byte (digit_glyph false d) ≡ digit_glyph false d ∷ []
unfolding escape_byte
digit_plain d h = (bytes_eq-Decides _ _).0 (at_each (λ k. bytes_eq (escape_byte (digit_glyph false k)) (digit_glyph false k ∷ [])) 10 refl d h)

first_plain : (x : ℕ) (xs : List ℕ) → escape_byte x ≡ x ∷ [] → IsPlain xs → IsPlain (x ∷ xs)
first_plain x xs one rest = ap (λ t. t ++ escape xs) one ∙ ap (λ t. x ∷ t) rest

either_plain : (b : Bool) (xs ys : List ℕ) → IsPlain xs → IsPlain ys → IsPlain (cond b xs ys)
either_plain true xs ys x y = x
either_plain false xs ys x y = y

digits_plain : (k n : ℕ) (acc : List ℕ) → IsPlain acc → IsPlain (digits_onto k 10 false n acc)
digits_plain zero n acc plain = plain
digits_plain (suc k) n acc plain =
    let d : ℕ = digit_glyph false (n % 10) in
    let more : IsPlain (d ∷ acc) = first_plain d acc (digit_plain (n % 10) (omega arith)) plain in
    either_plain (n / 10 == 0) (d ∷ acc) _ more (digits_plain k (n / 10) (d ∷ acc) more)

decimal_plain : (n : ℕ) → IsPlain (decimal n)
unfolding digits
decimal_plain n = digits_plain 64 n [] refl

check_plain : (kind : Check) → IsPlain (check_name kind)
unfolding escape_byte
check_plain check.Address = refl
check_plain check.Instruction = refl
check_plain check.Data = refl
check_plain check.Overlap = refl
check_plain check.ReaderEmpty = refl
check_plain check.PunchFull = refl
check_plain check.PrinterFull = refl

halted_plain : IsPlain (codes "halted next ")
unfolding escape_byte
halted_plain = refl

running_plain : IsPlain (codes "running")
unfolding escape_byte
running_plain = refl

checked_plain : IsPlain (codes "check ")
unfolding escape_byte
checked_plain = refl

at_plain : IsPlain (codes " at ")
unfolding escape_byte
at_plain = refl

-- the words of a standing are not escaped
pub standing_plain : (s : StandingAt) → IsPlain (standing_words s)
standing_plain standing.Running = running_plain
standing_plain (standing.Halted next) = joined_plain _ (decimal next) halted_plain (decimal_plain next)
standing_plain (standing.Checked kind at) =
    joined_plain _ (decimal at)
    (joined_plain _ (codes " at ") (joined_plain (codes "check ") (check_name kind) checked_plain (check_plain kind)) at_plain)
    (decimal_plain at)

-- ---- a customer's name

either_of : (b r : Bool) → (b || r) ≡ true → (b ≡ true) ⊎ (r ≡ true)
either_of true r h = inl refl
either_of false r h = inr h

both_of : (b r : Bool) → (b && r) ≡ true → (b ≡ true) × (r ≡ true)
both_of true r h = (refl, h)
both_of false r h = absurd (true≢false (sym h))

abbrev plain_alone : ℕ → Bool
plain_alone c = bytes_eq (escape_byte c) (c ∷ [])

here_or_later : (c x : ℕ) (rest : Bool) → plain_alone c ≡ true → (rest ≡ true → escape_byte x ≡ x ∷ [])
    → ((c == x) ≡ true) ⊎ (rest ≡ true) → escape_byte x ≡ x ∷ []
here_or_later c x rest plain later (inl here) = subst (λ (y : ℕ). escape_byte y ≡ y ∷ []) (eqb-true c x here) ((bytes_eq-Decides _ _).0 plain)
here_or_later c x rest plain later (inr there) = later there

-- one of some bytes that are not escaped
one_plain : (cs : List ℕ) (x : ℕ) → list_all plain_alone cs ≡ true → list_any (λ c. c == x) cs ≡ true → escape_byte x ≡ x ∷ []
one_plain [] x all any = absurd (true≢false (sym any))
one_plain (c ∷ cs) x all any =
    let plain = both_of (plain_alone c) (list_all plain_alone cs) all in
    here_or_later c x (list_any (λ c. c == x) cs) plain.0 (one_plain cs x plain.1) (either_of (c == x) (list_any (λ c. c == x) cs) any)

character_plain : (x : ℕ) → is_letter_or_digit x ≡ true → escape_byte x ≡ x ∷ []
unfolding escape_byte
character_plain x h = one_plain (codes "ABCDEFGHIJKLMNOPQRSTUVWXYZ0123456789") x refl h

characters_plain : (name : List ℕ) → list_all is_letter_or_digit name ≡ true → IsPlain name
characters_plain [] all = refl
characters_plain (x ∷ xs) all =
    let each = both_of (is_letter_or_digit x) (list_all is_letter_or_digit xs) all in
    first_plain x xs (character_plain x each.0) (characters_plain xs each.1)

-- a customer's name stands in the queue as it is
pub name_shown : (job : QueuedJob) → is_customer job.customer ≡ true
    → queued_text job ≡ codes "{\"customer\":\"" ++ job.customer ++ codes "\",\"number\":" ++ decimal job.number ++ codes "}"
name_shown job h =
    let each = both_of (is_name_length (length job.customer)) (list_all is_letter_or_digit job.customer) h in
    ap (λ (t : List ℕ). codes "{\"customer\":" ++ (34 ∷ (t ++ 34 ∷ [])) ++ codes ",\"number\":" ++ decimal job.number ++ codes "}")
    (characters_plain job.customer each.1)
    ∙ simp append_assoc
