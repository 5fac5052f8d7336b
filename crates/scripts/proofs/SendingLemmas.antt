-- What writes of some bytes come to.
use Rattle.std.proofs.Common.{◌≡◌, ◌∙◌, ℕ, suc, ◌+◌, ◌<◌, List, [], ◌∷◌, ◌++◌, length, take, drop, sym, ap, subst, arith, append-nil, append_assoc, length-append, get_or, Result, Ok, Err, codes, decimal}
use Rattle.std.specs.List.{flat_map}
use Rattle.std.proofs.lemmas.List.{take-append-drop}
use Rattle.std.proofs.lemmas.List.Concat.{flat_map-append}
use Rattle.std.proofs.Math.Seq.{take-suc, take-append-add}
use Rattle.std.proofs.lemmas.List.{take-append-le}
use Rattle.std.proofs.KnownBytes.{Appends-trans}
use Rattle.std.specs.Io.KnownBytes.{Appends}
use Rattle.std.specs.Prelude.{Option}
use Rattle.autocoder_layout.specs.declared.card_faults.CardFault.{CardFault}
use Rattle.autocoder_layout.specs.Faults.{fault_number}
use Rattle.office.specs.Queued.{QueuedJob}
use Rattle.office.specs.declared.summaries.Summary.{Summary}
use Rattle.scripts.specs.Replies.{fault_words, line_of, made_words, queued_words, truth}
use Rattle.scripts.specs.Sending.{Writes, WritesPart, counted}
use Rattle.scripts.specs.declared.write_failed.WriteFailed.{WriteFailed}

count_more : (before n m first second : ℕ) → first ≡ counted (before + n) → second ≡ counted (first + m) → second ≡ counted (before + (n + m))
count_more before n m first second one two = omega (arith, one, two)

-- where the first bytes did not all go out
pub part_first : (front back : List ℕ) (old new : Option (List ℕ)) (before after : ℕ)
    → WritesPart front old new before after → WritesPart (front ++ back) old new before after
part_first front back old new before after part = (
  part.0,
  omega (arith, part.1, length-append front back),
  subst (Appends old new) (sym (take-append-le part.0 front back (omega (arith, part.1)))) part.2,
  part.3,
)

-- bytes that went out, and a part of others
pub part_after : (front back : List ℕ) (old mid new : Option (List ℕ)) (before between after : ℕ)
    → Appends old mid front → between ≡ counted (before + length front) → WritesPart back mid new between after → WritesPart (front ++ back) old new before after
part_after front back old mid new before between after out count more = (
  length front + more.0,
  omega (arith, more.1, length-append front back),
  subst (Appends old new) (sym (take-append-add front back more.0)) (Appends-trans old mid new front (take more.0 back) out more.2),
  count_more before (length front) more.0 between after count more.3,
)

-- bytes that went out, and then others
pub writes_after : {T : Type 0} (front back : List ℕ) (old mid new : Option (List ℕ)) (before between after : ℕ) (result : Result T WriteFailed)
    → Appends old mid front → between ≡ counted (before + length front) → Writes back mid new between after result → Writes (front ++ back) old new before after result
writes_after front back old mid new before between after (Ok done) out count more = (
  Appends-trans old mid new front back out more.0,
  subst (λ (n : ℕ). after ≡ counted (before + n)) (sym (length-append front back)) (count_more before (length front) (length back) between after count more.1),
)
writes_after front back old mid new before between after (Err failed) out count more = part_after front back old mid new before between after out count more

-- the bytes of one more thing
pub bytes_more : {X : Type 0} (f : X → List ℕ) (xs : List X) (i : ℕ) (d : X) → i < length xs → flat_map f (take (i + 1) xs) ≡ flat_map f (take i xs) ++ f (get_or xs i d)
bytes_more {X} f xs i d inside =
    let one : i + 1 ≡ suc i = omega arith in
    let more : take (i + 1) xs ≡ take i xs ++ get_or xs i d ∷ [] =
    subst (λ (n : ℕ). take n xs ≡ take i xs ++ get_or xs i d ∷ []) (sym one) (take-suc xs i d inside) in
    ap (flat_map f) more ∙ flat_map-append f (take i xs) (get_or xs i d ∷ []) ∙ ap (λ (l : List ℕ). flat_map f (take i xs) ++ l) (append-nil (f (get_or xs i d)))

-- all the bytes of some things begin with those of the first and of one more
list_split : {X : Type 0} (f : X → List ℕ) (xs : List X) (i : ℕ) (d : X) → i < length xs
    → flat_map f xs ≡ (flat_map f (take i xs) ++ f (get_or xs i d)) ++ flat_map f (drop (i + 1) xs)
list_split f xs i d inside =
    ap (flat_map f) (sym (take-append-drop (i + 1) xs)) ∙ flat_map-append f (take (i + 1) xs) (drop (i + 1) xs)
    ∙ ap (λ (l : List ℕ). l ++ flat_map f (drop (i + 1) xs)) (bytes_more f xs i d inside)

-- a part of one thing's bytes, after a head and the things before it
pub part_of_list : {X : Type 0} (f : X → List ℕ) (head tail : List ℕ) (xs : List X) (i : ℕ) (d : X) (item : List ℕ) (old mid new : Option (List ℕ)) (before between after : ℕ)
    → i < length xs → item ≡ f (get_or xs i d) → Appends old mid (head ++ flat_map f (take i xs)) → between ≡ counted (before + length (head ++ flat_map f (take i xs)))
    → WritesPart item mid new between after → WritesPart ((head ++ flat_map f xs) ++ tail) old new before after
part_of_list {X} f head tail xs i d item old mid new before between after inside same out count part =
    let rest : List ℕ = flat_map f (drop (i + 1) xs) in
    let whole = part_first ((head ++ flat_map f (take i xs)) ++ item) (rest ++ tail) old new before after
    (part_after (head ++ flat_map f (take i xs)) item old mid new before between after out count part) in
    let is : ((head ++ flat_map f (take i xs)) ++ item) ++ (rest ++ tail) ≡ (head ++ flat_map f xs) ++ tail =
    sym (append_assoc ((head ++ flat_map f (take i xs)) ++ item) rest tail)
    ∙ ap (λ (l : List ℕ). (l ++ rest) ++ tail) (append_assoc head (flat_map f (take i xs)) item)
    ∙ ap (λ (l : List ℕ). l ++ tail) (append_assoc head (flat_map f (take i xs) ++ item) rest)
    ∙ ap (λ (l : List ℕ). (head ++ ((flat_map f (take i xs) ++ l) ++ rest)) ++ tail) same
    ∙ ap (λ (l : List ℕ). (head ++ l) ++ tail) (sym (list_split f xs i d inside)) in
    subst (λ (l : List ℕ). WritesPart l old new before after) is whole

-- a head with more after it, as one line
pub joined : (head words found more tail : List ℕ) → found ≡ words → (head ++ found) ++ (more ++ tail) ≡ (head ++ words ++ more) ++ tail
joined head words found more tail same =
    ap (λ (l : List ℕ). (head ++ l) ++ (more ++ tail)) same ∙ sym (append_assoc (head ++ words) more tail)

-- the pieces of a line's items

pub fault_item : (a b : ℕ) (f : CardFault) → a ≡ f.card → b ≡ fault_number f.fault → 32 ∷ (decimal a ++ 58 ∷ (decimal b ++ [])) ≡ fault_words f
fault_item a b f one two =
    ap (λ (n : ℕ). 32 ∷ (decimal n ++ 58 ∷ (decimal b ++ []))) one ∙ ap (λ (n : ℕ). 32 ∷ (decimal f.card ++ 58 ∷ (decimal n ++ []))) two
    ∙ ap (λ (l : List ℕ). 32 ∷ (decimal f.card ++ 58 ∷ l)) (append-nil (decimal (fault_number f.fault)))
    ∙ ap (λ (l : List ℕ). 32 ∷ l) (sym (append_assoc (decimal f.card) (58 ∷ []) (decimal (fault_number f.fault))))

pub queued_item : (t : List ℕ) (n : ℕ) (q : QueuedJob) → t ≡ q.customer → n ≡ q.number → 32 ∷ (t ++ 47 ∷ (decimal n ++ [])) ≡ queued_words q
queued_item t n q one two =
    ap (λ (l : List ℕ). 32 ∷ (l ++ 47 ∷ (decimal n ++ []))) one ∙ ap (λ (m : ℕ). 32 ∷ (q.customer ++ 47 ∷ (decimal m ++ []))) two
    ∙ ap (λ (l : List ℕ). 32 ∷ (q.customer ++ 47 ∷ l)) (append-nil (decimal q.number))
    ∙ ap (λ (l : List ℕ). 32 ∷ l) (sym (append_assoc q.customer (47 ∷ []) (decimal q.number)))

pub made_pieces : (first second : List ℕ) (a b c : ℕ) (job : Summary) → first ≡ truth job.held → second ≡ truth job.collected
    → a ≡ job.granted → b ≡ job.cards → c ≡ job.lines
    → codes " held " ++ (first ++ (codes " collected " ++ (second ++ (codes " granted " ++ (decimal a ++ (codes " cards " ++ (decimal b ++ (codes " lines " ++ (decimal c ++ 10 ∷ []))))))))) ≡ line_of (made_words job)
made_pieces first second a b c job one two three four five = rw (one, two, three, four, five) (simp append_assoc)
