-- bytes that begin with a head begin with no other, and lack none
use Rattle.std.proofs.Common.{◌≡◌, ◌∙◌, ℕ, ◌+◌, ◌-◌, ◌≤◌, List, [], ◌∷◌, ◌++◌, length, take, sym, ap, subst, refl, arith, append_assoc, append-nil, inl, inr}
use Rattle.std.proofs.lemmas.List.{append_cancel_right}
use Rattle.std.proofs.Math.Seq.{take-append-add}
use Rattle.httparse.specs.Grammar.{LineEnd, crlf, lf, print_blank, print_end, print_field, print_section, print_version, print_request, IsRequestHead, ReadsRequest, RequestHead}
use Rattle.httparse.specs.Pieces.{FieldLines, RequestStart, SectionOfAtMost}
use Rattle.httparse.specs.Spans.{RequestExceeds, RequestOverflows}
use Rattle.httparse.proofs.GrammarLemmas.{cons-append, print_request-append, request_tree, request_unique}
use Rattle.httparse.proofs.HeadLemmas.{request_overflows}
use Rattle.httparse.proofs.PieceLemmas.{Refutes_next, RequestStart_deterministic, Stops_token}
use Rattle.httparse.proofs.ReadLemmas.{SectionOfAtMost_overflow}
use Rattle.std.specs.List.{flat_map}
use Rattle.std.specs.Prelude.{Some, None}
use Rattle.http_messages.specs.Judging.{AsksFor, BeginsWith, IsRefused, IsUnread, Refuses}
use Rattle.http_messages.specs.Targets.{Asks}
use Rattle.http_messages.specs.HeadTests.{status_of}
use Rattle.http_messages.specs.declared.targets.Target.{Target}
use Rattle.bureau_laws.specs.Same.{IsHeadless, IsSameStatus}

pub same_head : (input : List ℕ) (h k : RequestHead) (one : BeginsWith input h) (other : BeginsWith input k)
    → (h ≡ k) × (one.rest ≡ other.rest)
same_head input h k one other = request_unique input h k one.rest other.rest one.reads other.reads

-- ---- a head with more fields than there may be

-- the start of a head, and then some bytes
abbrev pub started : RequestHead → List ℕ → List ℕ
started h more = print_blank h.blank ++ (h.method ++ 32 ∷ (h.target ++ 32 ∷ (print_version h.minor ++ (print_end h.line_end ++ more))))

pub started-append : (h : RequestHead) (more rest : List ℕ) → started h more ++ rest ≡ started h (more ++ rest)
started-append h more rest = simp (append_assoc, cons-append)

starts : (h : RequestHead) (input more : List ℕ) → IsRequestHead h → input ≡ started h more
    → RequestStart (request_tree h).0 input more
starts h input more is same = (
  _,
  (same, Stops_token h.method _ is.method.0 is.method.1),
  (
    _,
    (is.method.0, is.method.1, refl),
    (_, ((is.target.0, is.target.1, refl), is.target_text), (_, (is.minor, refl), refl)),
  ),
)

-- without its line feed a line end is its beginning
without_feed : (front bytes : List ℕ) (last : LineEnd) → front ++ 10 ∷ [] ≡ bytes ++ print_end last → (more : List ℕ) × (front ≡ bytes ++ more)
without_feed front bytes lf same = ([], append_cancel_right front bytes (10 ∷ []) same ∙ sym (append-nil bytes))
without_feed front bytes crlf same =
    (13 ∷ [], append_cancel_right front (bytes ++ 13 ∷ []) (10 ∷ []) (same ∙ sym (append_assoc bytes (13 ∷ []) (10 ∷ []))))

-- what has too many fields has too many, whatever follows
pub many_always : (room : ℕ) (bytes : List ℕ) → RequestExceeds room bytes → RequestOverflows room bytes
many_always room bytes (front, rest, same, k, reads, many) =
    let lines = flat_map print_field k.fields in
    let whole : front ++ 10 ∷ [] ≡ started k lines ++ print_end k.last =
    reads.1 ∙ print_request-append k [] ∙ ap (started k) (append-nil (print_section k.fields k.last)) ∙ sym (started-append k lines (print_end k.last)) in
    let cut = without_feed front (started k lines) k.last whole in
    let more = cut.0 ++ rest in
    let all : bytes ≡ started k (lines ++ more) =
    same ∙ ap (λ (b : List ℕ). b ++ rest) cut.1 ∙ append_assoc (started k lines) cut.0 rest ∙ started-append k lines more in
    let fields : FieldLines k.fields (lines ++ more) more = (reads.0.fields, refl) in
    request_overflows room
    (Refutes_next (SectionOfAtMost room) RequestStart_deterministic {a = (request_tree k).0} (starts k bytes (lines ++ more) reads.0 all)
    (SectionOfAtMost_overflow room k.fields (lines ++ more) more fields many))

-- ---- bytes with a head are not unread

front_reads : (input rest : List ℕ) (h : RequestHead) (size : ℕ) → ReadsRequest input h rest → length (print_request h) ≤ size
    → (after : List ℕ) × ReadsRequest (take size input) h after
front_reads input rest h size reads short =
    let head = print_request h in
    let more = size - length head in
    let parts : size ≡ length head + more = omega arith in
    (take more rest, (reads.0, ap (take size) reads.1 ∙ ap (λ (n : ℕ). take n (head ++ rest)) parts ∙ take-append-add head rest more))

pub is_read : (input : List ℕ) (h : RequestHead) (status : ℕ) → BeginsWith input h → IsUnread input status → ⊥
is_read input h status begins (inl (inl (front, rest, same, short, never), is)) =
    never rest h begins.rest (subst (λ (i : List ℕ). ReadsRequest i h begins.rest) same begins.reads)
is_read input h status begins (inl (inr early, is)) = early.0 h begins.rest begins.reads
is_read input h status begins (inr (inl (front, rest, same, many), is)) =
    let over = many_always 64 front many rest h begins.rest (subst (λ (i : List ℕ). ReadsRequest i h begins.rest) same begins.reads) in
    let few = begins.few in
    omega arith
is_read input h status begins (inr (inr long, is)) =
    let front = front_reads input begins.rest h 8192 begins.reads begins.short in
    long.1 h front.0 front.1

-- ---- one status

-- a head that asks for something has no status
pub not_refused : (h : RequestHead) (status : ℕ) (a : Target) → status_of h ≡ None → Asks h.target a → IsRefused h status → ⊥
not_refused h status a passed asks (inl failed) = let e = failed in cc
not_refused h status a passed asks (inr (none, is, unread)) = unread a asks

pub not_both : (input : List ℕ) (status : ℕ) (a : Target) (count : ℕ) (body : List ℕ) → AsksFor input a count body → Refuses input status → ⊥
not_both input status a count body (h, begins, passed, asks, counted, more) (inl unread) = is_read input h status begins unread
not_both input status a count body (h, begins, passed, asks, counted, more) (inr (k, also, refused)) =
    not_refused h status a passed asks (subst (λ (x : RequestHead). IsRefused x status) (same_head input k h also begins).0 refused)

some_is : {x y : ℕ} → Some x ≡ Some y → x ≡ y
some_is e = cc

-- a head is refused with one status
pub one_refusal : (h : RequestHead) (s t : ℕ) → IsRefused h s → IsRefused h t → s ≡ t
one_refusal h s t (inl a) (inl b) = some_is (sym a ∙ b)
one_refusal h s t (inl a) (inr b) = let none = b.0 in cc
one_refusal h s t (inr a) (inl b) = let none = a.0 in cc
one_refusal h s t (inr a) (inr b) = a.1 ∙ sym b.1

-- bytes with a head, which may be too large, are unread for its size alone
too_large : (input : List ℕ) (h : RequestHead) (rest : List ℕ) (status : ℕ) → ReadsRequest input h rest → IsUnread input status → status ≡ 431
too_large input h rest status reads (inl (inl (front, more, same, short, never), is)) =
    absurd (never more h rest (subst (λ (i : List ℕ). ReadsRequest i h rest) same reads))
too_large input h rest status reads (inl (inr early, is)) = absurd (early.0 h rest reads)
too_large input h rest status reads (inr (large, is)) = is

pub one_of_head : (input : List ℕ) (h : RequestHead) (rest : List ℕ) (s t : ℕ) → ReadsRequest input h rest
    → Refuses input s → Refuses input t → s ≡ t
one_of_head input h rest s t reads (inl a) (inl b) = too_large input h rest s reads a ∙ sym (too_large input h rest t reads b)
one_of_head input h rest s t reads (inl a) (inr (k, on, b)) = absurd (is_read input k s on a)
one_of_head input h rest s t reads (inr (k, on, a)) (inl b) = absurd (is_read input k t on b)
one_of_head input h rest s t reads (inr (k, on, a)) (inr (l, too, b)) =
    one_refusal k s t a (subst (λ (x : RequestHead). IsRefused x t) (same_head input l k too on).0 b)

unread_status : (input : List ℕ) (s : ℕ) → IsUnread input s → IsHeadless s
unread_status input s (inl a) = inl a.1
unread_status input s (inr a) = inr a.1

pub one_status : (input : List ℕ) (s t : ℕ) → Refuses input s → Refuses input t → IsSameStatus s t
one_status input s t (inl a) (inl b) = inr (unread_status input s a, unread_status input t b)
one_status input s t (inl a) (inr (k, on, b)) = inl (one_of_head input k on.rest s t on.reads (inl a) (inr (k, on, b)))
one_status input s t (inr (k, on, a)) b = inl (one_of_head input k on.rest s t on.reads (inr (k, on, a)) b)
