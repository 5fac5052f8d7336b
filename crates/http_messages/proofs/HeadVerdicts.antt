-- what a head that was read says of all bytes of its reader
use Rattle.std.proofs.Common.{◌≡◌, ◌∙◌, ℕ, ◌+◌, ◌≤◌, List, ◌++◌, length, take, drop, map, sym, ap, subst, refl, arith, append_assoc, inl, inr, ◌⊎◌, [], length-append}
use Rattle.std.proofs.lemmas.List.{length-take, length-map}
use Rattle.httparse.specs.Grammar.{HasNoRequest, MayBecomeRequest, RequestHead, print_request}
use Rattle.httparse.specs.Spans.{IsRequestAt, IsRequestOf, IsRequestWithin, RequestExceeds, header_bytes, name_and_value}
use Rattle.httparse.specs.declared.spans.HeaderSpan.{HeaderSpan}
use Rattle.httparse.specs.declared.spans.RequestSpans.{RequestSpans}
use Rattle.std.proofs.Math.Seq.{take-append_seam}
use Rattle.http_messages.specs.Reading.{ComesTo}
use Rattle.http_messages.specs.declared.reading.Outcome.{Outcome}
use Rattle.http_messages.specs.declared.reading.Outcome.TheVariants as outcome
use Rattle.http_messages.specs.Judging.{BeginsWith, IsVerdictOn, Judges, Refuses}
use Rattle.http_messages.specs.declared.verdicts.Verdict.{Verdict}
use Rattle.http_messages.specs.declared.verdicts.Verdict.TheVariants as verdict

-- bytes with a head begin all that go on from them
begins : (bytes rest : List ℕ) (fields : List HeaderSpan) (spans : RequestSpans) (h : RequestHead)
    → length fields ≡ 64 → length bytes ≤ 8192 → IsRequestAt bytes fields spans h → IsRequestWithin bytes fields spans
    → BeginsWith (bytes ++ rest) h
begins bytes rest fields spans h room short at within = record {
  rest = drop spans.len bytes ++ rest;
  reads = (at.reads.0, ap (λ (b : List ℕ). b ++ rest) at.reads.1 ∙ append_assoc (print_request h) (drop spans.len bytes) rest);
  short = omega (arith, at.len, within.section.len_fits);
  few =
      let same : length (map (header_bytes bytes) (take spans.headers fields)) ≡ length (map name_and_value h.fields) = ap length at.fields in
      omega (arith, simp length-map at same, length-take spans.headers fields);
}

judged_of : (v : Verdict) (bytes rest : List ℕ) (fields : List HeaderSpan) (spans : RequestSpans)
    → length fields ≡ 64 → length bytes ≤ 8192 → IsRequestOf bytes fields spans → IsRequestWithin bytes fields spans
    → ((h : RequestHead) → IsRequestAt bytes fields spans h → IsVerdictOn h (drop spans.len bytes) v)
    → Judges (bytes ++ rest) rest v
unfolding begins
judged_of (verdict.Refused status) bytes rest fields spans room short of within on =
    inr (of.0, begins bytes rest fields spans of.0 room short of.1 within, on of.0 of.1)
judged_of (verdict.Asks asked count begun) bytes rest fields spans room short of within on =
    let is = on of.0 of.1 in
    (of.0, begins bytes rest fields spans of.0 room short of.1 within, is.0, is.1, is.2, ap (λ (b : List ℕ). b ++ rest) is.3)

-- the verdict on a head that is whole
pub judged : (v : Verdict) (input bytes rest : List ℕ) (fields : List HeaderSpan) (spans : RequestSpans)
    → length fields ≡ 64 → length bytes ≤ 8192 → input ≡ bytes ++ rest → IsRequestOf bytes fields spans → IsRequestWithin bytes fields spans
    → ((h : RequestHead) → IsRequestAt bytes fields spans h → IsVerdictOn h (drop spans.len bytes) v)
    → Judges input rest v
judged v input bytes rest fields spans room short is of within on =
    subst (λ (i : List ℕ). Judges i rest v) (sym is) (judged_of v bytes rest fields spans room short of within on)

-- bytes with too many fields, or too many bytes, begin all that go on from them
pub too_large : (input bytes rest : List ℕ) (fields : List HeaderSpan) (o : Outcome)
    → (o ≡ outcome.TooManyFields) ⊎ (o ≡ outcome.TooLong) → input ≡ bytes ++ rest
    → ComesTo bytes fields 8192 (rest ≡ []) o → Refuses input 431
too_large input bytes rest fields o (inl e) is come =
    let more : RequestExceeds 64 bytes = subst (ComesTo bytes fields 8192 (rest ≡ [])) e come in
    inl (inr (inl (bytes, rest, is, more), refl))
too_large input bytes rest fields o (inr e) is come =
    let long : HasNoRequest bytes × MayBecomeRequest bytes × (length bytes ≡ 8192) = subst (ComesTo bytes fields 8192 (rest ≡ [])) e come in
    let front : take 8192 (bytes ++ rest) ≡ bytes = ap (λ (n : ℕ). take n (bytes ++ rest)) (sym long.2) ∙ take-append_seam bytes rest in
    let whole : take 8192 input ≡ bytes = ap (take 8192) is ∙ front in
    let size : length input ≡ length bytes + length rest = ap length is ∙ length-append bytes rest in
    inl (inr (inr (omega (arith, size, long.2), subst HasNoRequest (sym whole) long.0, subst MayBecomeRequest (sym whole) long.1), refl))
