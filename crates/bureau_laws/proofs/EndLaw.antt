-- where requests end
use Rattle.std.proofs.Common.{◌≡◌, ◌≢◌, ◌∙◌, ◌↔◌, ◌⊎◌, ℕ, zero, suc, ◌+◌, ◌<◌, ◌≤◌, List, [], ◌∷◌, ◌++◌, length, take, sym, ap, subst, refl, arith, append_assoc, inl, inr}
use Rattle.std.proofs.lemmas.Bool.{cases_lt}
use Rattle.std.proofs.lemmas.List.{length-append, nil_from_length}
use Rattle.httparse.specs.Grammar.{HasNoRequest, ReadsRequest, RequestHead, print_request}
use Rattle.httparse.proofs.GrammarLemmas.{ReadsRequest-append, request_unique}
use Rattle.http_messages.specs.Asking.{IsAskedBy}
use Rattle.http_messages.specs.Judging.{AsksFor, BeginsWith, IsRefused, IsUnread, Refuses}
use Rattle.http_messages.specs.Requests.{IsRefusedFor, IsRequestOf}
use Rattle.http_messages.specs.declared.request.Request.{Request}
use Rattle.http_messages.specs.declared.request.Request.TheVariants as request
use Rattle.http_messages.specs.declared.targets.Target.{Target}
use Rattle.bureau_laws.specs.Ends.{EndsWithBody, HasWholeBody, IsTooLarge}
use Rattle.bureau_laws.proofs.AskingLaw.{same_asking}
use Rattle.bureau_laws.proofs.HeadLaw.{is_read, many_always, not_both, not_refused, one_refusal, same_head}

-- ---- bytes that are cut

-- the longer front of equal bytes begins with the shorter
front_of : (xs ys zs ws : List ℕ) → xs ++ ys ≡ zs ++ ws → length zs ≤ length xs → (more : List ℕ) × (xs ≡ zs ++ more) × (ws ≡ more ++ ys)
front_of xs ys [] ws same long = (xs, refl, sym same)
front_of [] ys (z ∷ zs) ws same long = absurd (omega (arith, long))
front_of (x ∷ xs) ys (z ∷ zs) ws same long =
    let e = same in
    let head : x ≡ z = cc in
    let tail : xs ++ ys ≡ zs ++ ws = cc in
    let rest = front_of xs ys zs ws tail (omega (arith, long)) in
    (rest.0, ap (λ (n : ℕ). let all : List ℕ = n ∷ xs in all) head ∙ ap (λ (ns : List ℕ). let all : List ℕ = z ∷ ns in all) rest.1, rest.2)

-- a head of the front is the head of the whole
whole_head : (front back : List ℕ) (h k : RequestHead) (rest behind : List ℕ) → ReadsRequest (front ++ back) h rest → ReadsRequest front k behind → h ≡ k
whole_head front back h k rest behind whole part =
    (request_unique (front ++ back) h k rest (behind ++ back) whole (ReadsRequest-append front k behind back part)).0

head_size : (input : List ℕ) (h : RequestHead) (rest : List ℕ) → ReadsRequest input h rest → length (print_request h) ≤ length input
head_size input h rest reads = omega (arith, ap length reads.1, length-append (print_request h) rest)

-- a front that is shorter than the head has none
no_head : (front back : List ℕ) (h : RequestHead) (rest : List ℕ) → ReadsRequest (front ++ back) h rest → length front < length (print_request h) → HasNoRequest front
no_head front back h rest whole short k behind part =
    let same = whole_head front back h k rest behind whole part in
    omega (arith, short, head_size front k behind part, ap (λ (x : RequestHead). length (print_request x)) same)

-- such a front is refused with 400
cut_status : (front back : List ℕ) (h : RequestHead) (status : ℕ) → BeginsWith (front ++ back) h → length front < length (print_request h) → Refuses front status → status ≡ 400
cut_status front back h status begins short (inl (inl unread)) = unread.1
cut_status front back h status begins short (inl (inr (inl (f, g, same, many), is))) =
    let whole : front ++ back ≡ f ++ (g ++ back) = ap (λ (b : List ℕ). b ++ back) same ∙ append_assoc f g back in
    let over = many_always 64 f many (g ++ back) h begins.rest (subst (λ (b : List ℕ). ReadsRequest b h begins.rest) whole begins.reads) in
    absurd (omega (arith, over, begins.few))
cut_status front back h status begins short (inl (inr (inr long, is))) = absurd (omega (arith, long.0, short, begins.short))
cut_status front back h status begins short (inr (k, here, refused)) =
    absurd (no_head front back h begins.rest begins.reads short k here.rest here.reads)

refused_status : {s t : ℕ} → s ≡ t → request.Refused s ≡ request.Refused t
refused_status same = ap (λ (n : ℕ). request.Refused n) same

is_400 : (input : List ℕ) → ((status : ℕ) → Refuses input status → status ≡ 400) → (r : Request) → IsRefusedFor input r → r ≡ request.Refused 400
is_400 input only (request.Refused status) refused = refused_status (only status refused)
is_400 input only r refused = absurd refused

pub cut_in_head : (front back : List ℕ) (h : RequestHead) (r : Request) → BeginsWith (front ++ back) h → length front < length (print_request h)
    → IsRequestOf front r ↔ (r ≡ request.Refused 400)
cut_in_head front back h r begins short = (to, from)
  where
    none : HasNoRequest front
    none = no_head front back h begins.rest begins.reads short

    to : IsRequestOf front r → r ≡ request.Refused 400
    to (inl refused) = is_400 front (λ status refuses. cut_status front back h status begins short refuses) r refused
    to (inr (asked, count, after, (k, here, passed, target, counted, left), with_body)) = absurd (none k here.rest here.reads)

    from : r ≡ request.Refused 400 → IsRequestOf front r
    from same =
        let early : IsRequestOf front (request.Refused 400) = inl (inl (inl (inr (none, omega (arith, short, begins.short)), refl))) in
        subst (λ (q : Request). IsRequestOf front q) (sym same) early

-- bytes whose body is too short are refused with 400
pub short_body : (input : List ℕ) (asked : Target) (count : ℕ) (after : List ℕ) (r : Request) → AsksFor input asked count after → length after < count
    → IsRequestOf input r ↔ (r ≡ request.Refused 400)
short_body input asked count after r asks short = (to, from)
  where
    refused : (q : Request) → ¬ IsRefusedFor input q
    refused (request.Refused status) refuses = not_both input status asked count after asks refuses
    refused q refuses = refuses

    to : IsRequestOf input r → r ≡ request.Refused 400
    to (inl refuses) = absurd (refused r refuses)
    to (inr (other, size, rest, also, inl whole)) =
        let same = same_asking input asked other count size after rest asks also in
        absurd (omega (arith, short, whole.0, same.1, ap length same.2))
    to (inr (other, size, rest, also, inr cut)) = cut.1

    from : r ≡ request.Refused 400 → IsRequestOf input r
    from same = inr (asked, count, after, asks, inr (short, same))

-- a front with the whole head asks for the same
front_asks : (front back : List ℕ) (asked : Target) (count : ℕ) (after : List ℕ) (asks : AsksFor (front ++ back) asked count after)
    → length (print_request asks.0) ≤ length front → (begun : List ℕ) × AsksFor front asked count begun × (after ≡ begun ++ back)
front_asks front back asked count after (h, begins, passed, target, counted, same) long =
    let cut = front_of front back (print_request h) begins.rest begins.reads.1 long in
    let here : BeginsWith front h = record { rest = cut.0; reads = (begins.reads.0, cut.1); short = begins.short; few = begins.few } in
    (cut.0, (h, here, passed, target, counted, refl), same ∙ cut.2)

pub cut_short : (front back : List ℕ) (r : Request) → EndsWithBody (front ++ back) → back ≢ [] → IsRequestOf front r ↔ (r ≡ request.Refused 400)
cut_short front back r (asked, body, asks) some = elim (cases_lt (length front) (length (print_request asks.0))) [
  | inl short ↦ cut_in_head front back asks.0 r asks.1 short
  | inr long ↦
      let begun = front_asks front back asked (length body) body asks long in
      let size : length body ≡ length begun.0 + length back = ap length begun.2 ∙ length-append begun.0 back in
      let more : 0 < length back = elim (cases_lt 0 (length back)) [ inl h ↦ h | inr h ↦ absurd (some (nil_from_length back (omega (arith, h)))) ] in
      short_body front asked (length body) begun.0 r begun.1 (omega (arith, size, more))
]

-- ---- heads that are too large

-- bytes do not begin with a head that is too large
not_large : (front back : List ℕ) (h k : RequestHead) (rest : List ℕ) → ReadsRequest (front ++ back) h rest → IsTooLarge h → ¬ BeginsWith front k
not_large front back h k rest whole large begins = go large
  where
    same : h ≡ k
    same = whole_head front back h k rest begins.rest whole begins.reads

    go : IsTooLarge h → ⊥
    go (inl long) = omega (arith, long, begins.short, ap (λ (x : RequestHead). length (print_request x)) same)
    go (inr many) = omega (arith, many, begins.few, ap (λ (x : RequestHead). length x.fields) same)

unread_status : (input : List ℕ) (status : ℕ) → IsUnread input status → (request.Refused status ≡ request.Refused 400) ⊎ (request.Refused status ≡ request.Refused 431)
unread_status input status (inl a) = inl (refused_status a.1)
unread_status input status (inr a) = inr (refused_status a.1)

refused_large : (front back : List ℕ) (h : RequestHead) (rest : List ℕ) (r : Request) → ReadsRequest (front ++ back) h rest → IsTooLarge h → IsRequestOf front r
    → (status : ℕ) × (r ≡ request.Refused status) × IsUnread front status
refused_large front back h rest (request.Refused status) whole large (inl (inl unread)) = (status, refl, unread)
refused_large front back h rest (request.Refused status) whole large (inl (inr (k, here, refused))) = absurd (not_large front back h k rest whole large here)
refused_large front back h rest r whole large (inl refused) = absurd refused
refused_large front back h rest r whole large (inr (asked, count, after, (k, here, passed, target, counted, left), with_body)) = absurd (not_large front back h k rest whole large here)

pub large_head : (front back : List ℕ) (h : RequestHead) (rest : List ℕ) (r : Request) → ReadsRequest (front ++ back) h rest → IsTooLarge h → IsRequestOf front r
    → (r ≡ request.Refused 400) ⊎ (r ≡ request.Refused 431)
large_head front back h rest r whole large is =
    let it = refused_large front back h rest r whole large is in
    subst (λ (q : Request). (q ≡ request.Refused 400) ⊎ (q ≡ request.Refused 431)) (sym it.1) (unread_status front it.0 it.2)

-- with the whole head, or as many bytes as a head may have, the status is 431
large_status : (front back : List ℕ) (h : RequestHead) (rest : List ℕ) (status : ℕ) → ReadsRequest (front ++ back) h rest
    → (length (print_request h) ≤ length front) ⊎ (8192 ≤ length front) → IsUnread front status → status ≡ 431
large_status front back h rest status whole there (inl (inl (f, g, same, short, never), is)) =
    absurd (never (g ++ back) h rest (subst (λ (b : List ℕ). ReadsRequest b h rest) (ap (λ (b : List ℕ). b ++ back) same ∙ append_assoc f g back) whole))
large_status front back h rest status whole (inl long) (inl (inr early, is)) =
    let cut = front_of front back (print_request h) rest whole.1 long in
    absurd (early.0 h cut.0 (whole.0, cut.1))
large_status front back h rest status whole (inr long) (inl (inr early, is)) = absurd (omega (arith, long, early.1))
large_status front back h rest status whole there (inr it) = it.1

pub large_431 : (front back : List ℕ) (h : RequestHead) (rest : List ℕ) (r : Request) → ReadsRequest (front ++ back) h rest → IsTooLarge h
    → (length (print_request h) ≤ length front) ⊎ (8192 ≤ length front) → IsRequestOf front r → r ≡ request.Refused 431
large_431 front back h rest r whole large there is =
    let it = refused_large front back h rest r whole large is in
    it.1 ∙ refused_status (large_status front back h rest it.0 whole there it.2)

-- ---- bytes after the body

more_begins : (input more : List ℕ) (h : RequestHead) → BeginsWith input h → BeginsWith (input ++ more) h
more_begins input more h begins = record {
  rest = begins.rest ++ more;
  reads = ReadsRequest-append input h begins.rest more begins.reads;
  short = begins.short;
  few = begins.few;
}

more_asks : (input more : List ℕ) (asked : Target) (count : ℕ) (after : List ℕ) → AsksFor input asked count after → AsksFor (input ++ more) asked count (after ++ more)
unfolding more_begins
more_asks input more asked count after (h, begins, passed, target, counted, same) =
    (h, more_begins input more h begins, passed, target, counted, ap (λ (b : List ℕ). b ++ more) same)

-- the first bytes of a list that has so many are those of the list with more
first_ones : (count : ℕ) (after more : List ℕ) → count ≤ length after → take count (after ++ more) ≡ take count after
first_ones count after more long = front_take count after more long
  where
    front_take : (n : ℕ) (xs ys : List ℕ) → n ≤ length xs → take n (xs ++ ys) ≡ take n xs
    front_take zero xs ys h = refl
    front_take (suc n) [] ys h = absurd (omega (arith, h))
    front_take (suc n) (x ∷ xs) ys h = ap (λ (zs : List ℕ). let all : List ℕ = x ∷ zs in all) (front_take n xs ys (omega (arith, h)))

not_refused_for : (input : List ℕ) (asked : Target) (count : ℕ) (after : List ℕ) (r : Request) → AsksFor input asked count after → ¬ IsRefusedFor input r
not_refused_for input asked count after (request.Refused status) asks refuses = not_both input status asked count after asks refuses
not_refused_for input asked count after r asks refuses = refuses

-- what the longer bytes ask for, the shorter do
fewer_ask : (input more : List ℕ) (h : RequestHead) → BeginsWith input h → (asked : Target) (count : ℕ) (after : List ℕ) → AsksFor (input ++ more) asked count after
    → (rest : List ℕ) × AsksFor input asked count rest × (after ≡ rest ++ more)
unfolding more_begins
fewer_ask input more h begins asked count after (k, also, passed, target, counted, same) =
    let heads = same_head (input ++ more) k h also (more_begins input more h begins) in
    let here : BeginsWith input k = subst (λ (x : RequestHead). BeginsWith input x) (sym heads.0) begins in
    let rests : here.rest ++ more ≡ also.rest = sym (same_head (input ++ more) k k also (more_begins input more k here)).1 in
    (here.rest, (k, here, passed, target, counted, refl), same ∙ sym rests)

pub more_bytes : (input more : List ℕ) (r : Request) → HasWholeBody input → IsRequestOf input r ↔ IsRequestOf (input ++ more) r
more_bytes input more r (asked, count, after, asks, long) = (to, from)
  where
    to : IsRequestOf input r → IsRequestOf (input ++ more) r
    to (inl refuses) = absurd (not_refused_for input asked count after r asks refuses)
    to (inr (other, size, rest, also, inl whole)) = inr (
      other,
      size,
      rest ++ more,
      more_asks input more other size rest also,
      inl (
        omega (arith, whole.0, length-append rest more),
        subst (λ (b : List ℕ). IsAskedBy other b r) (sym (first_ones size rest more whole.0)) whole.1,
      ),
    )
    to (inr (other, size, rest, also, inr cut)) =
        let same = same_asking input asked other count size after rest asks also in
        absurd (omega (arith, long, cut.0, same.1, ap length same.2))

    from : IsRequestOf (input ++ more) r → IsRequestOf input r
    from (inl refuses) = absurd (not_refused_for (input ++ more) asked count (after ++ more) r (more_asks input more asked count after asks) refuses)
    from (inr (other, size, rest, also, with_body)) =
        let fewer = fewer_ask input more asks.0 asks.1 other size rest also in
        let same = same_asking input asked other count size after fewer.0 asks fewer.1 in
        let enough : size ≤ length fewer.0 = omega (arith, long, same.1, ap length same.2) in
        inr (
          other,
          size,
          fewer.0,
          fewer.1,
          elim with_body [
            | inl whole ↦ inl (
              enough,
              subst (λ (b : List ℕ). IsAskedBy other b r) (ap (take size) fewer.2 ∙ first_ones size fewer.0 more enough) whole.1,
            )
            | inr cut ↦ absurd (omega (arith, enough, cut.0, ap length fewer.2, length-append fewer.0 more))
          ],
        )

-- ---- bytes after a head that is refused

pub after_refused : (input : List ℕ) (h : RequestHead) (status : ℕ) (r : Request) → BeginsWith input h → IsRefused h status
    → IsRequestOf input r ↔ (r ≡ request.Refused status)
after_refused input h status r begins refused = (to r, from)
  where
    to : (q : Request) → IsRequestOf input q → q ≡ request.Refused status
    to (request.Refused other) (inl (inl unread)) = absurd (is_read input h other begins unread)
    to (request.Refused other) (inl (inr (k, here, why))) =
        let same = (same_head input k h here begins).0 in
        refused_status (one_refusal h other status (subst (λ (x : RequestHead). IsRefused x other) same why) refused)
    to q (inl refuses) = absurd refuses
    to q (inr (asked, count, after, (k, here, passed, target, counted, left), with_body)) =
        let same = (same_head input k h here begins).0 in
        absurd (not_refused k status asked passed target (subst (λ (x : RequestHead). IsRefused x status) (sym same) refused))

    from : r ≡ request.Refused status → IsRequestOf input r
    from same =
        let is : IsRequestOf input (request.Refused status) = inl (inr (h, begins, refused)) in
        subst (λ (q : Request). IsRequestOf input q) (sym same) is
