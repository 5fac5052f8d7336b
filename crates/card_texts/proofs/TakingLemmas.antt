-- what is found of a file in several ways
use Rattle.std.proofs.Common.{refl, sym, ap, subst, ◌∙◌, ◌≡◌, ◌≢◌, ◌⊎◌, ℕ, Bool, true, false, ◌||◌, ◌&&◌, List, [], Option, Some, None, Result, Ok, Err, inl, inr, true≢false, IfOk, IfErr}
use Rattle.std.specs.Global.{Vec}
use Rattle.card_forms.specs.declared.Form.TheVariants as form
use Rattle.card_texts.specs.declared.rules.Rules.{Rules}
use Rattle.card_texts.specs.declared.rules.Signs.{Signs}
use Rattle.card_texts.specs.declared.rules.Signs.TheVariants.{Bureau, Simh}
use Rattle.card_texts.specs.declared.faults.TextFault.{TextFault}
use Rattle.card_texts.specs.declared.taking.Way.{Way}
use Rattle.card_texts.specs.declared.taking.Way.TheVariants.{Punch, Binary, Text}
use Rattle.card_texts.specs.declared.taking.Reading.{Reading}
use Rattle.card_texts.specs.declared.taking.Untaken.{Untaken}
use Rattle.card_texts.specs.declared.taking.Untaken.TheVariants.{NoMemory, Differ, Faults}
use Rattle.card_texts.specs.Punching.{deck_text_of, faults_of}
use Rattle.card_texts.specs.Taking.{IsAtFault, IsFileWith, IsFound, IsJoined, IsTextIf, IsUnread, IsUntaken, Reads, is_card_way, is_text_tried, is_text_way, is_tried, is_way, signed, told_signs}

no_way : {P : Type 0} → false ≡ true → P
no_way is = absurd (true≢false (sym is))

-- ---- what one way found

pub none_punched : (rules : Rules) (bytes : List ℕ) → IsTextIf form.Punch bytes None
    → IsFound rules bytes (is_way Punch) None
none_punched rules bytes none Punch is text reads = none text reads
none_punched rules bytes none Binary is text reads = no_way is
none_punched rules bytes none (Text signs) is text reads = no_way is

pub none_binary : (rules : Rules) (bytes : List ℕ) → IsTextIf form.Binary bytes None
    → IsFound rules bytes (is_way Binary) None
none_binary rules bytes none Punch is text reads = no_way is
none_binary rules bytes none Binary is text reads = none text reads
none_binary rules bytes none (Text signs) is text reads = no_way is

alone_punched : (rules : Rules) (bytes text : List ℕ)
    → ((other : List ℕ) → IsFileWith form.Punch bytes other → other ≡ text)
    → (way : Way) → is_way Punch way ≡ true → (other : List ℕ) → Reads rules bytes way other → other ≡ text
alone_punched rules bytes text alone Punch is other reads = alone other reads
alone_punched rules bytes text alone Binary is other reads = no_way is
alone_punched rules bytes text alone (Text signs) is other reads = no_way is

alone_binary : (rules : Rules) (bytes text : List ℕ)
    → ((other : List ℕ) → IsFileWith form.Binary bytes other → other ≡ text)
    → (way : Way) → is_way Binary way ≡ true → (other : List ℕ) → Reads rules bytes way other → other ≡ text
alone_binary rules bytes text alone Punch is other reads = no_way is
alone_binary rules bytes text alone Binary is other reads = alone other reads
alone_binary rules bytes text alone (Text signs) is other reads = no_way is

pub one_punched : (rules : Rules) (bytes : List ℕ) (text : Vec ℕ) → IsTextIf form.Punch bytes (Some text)
    → IsFound rules bytes (is_way Punch) (Some (record { way = Punch; text = text }))
one_punched rules bytes text found = (refl, found.0, alone_punched rules bytes text.items found.1)

pub one_binary : (rules : Rules) (bytes : List ℕ) (text : Vec ℕ) → IsTextIf form.Binary bytes (Some text)
    → IsFound rules bytes (is_way Binary) (Some (record { way = Binary; text = text }))
one_binary rules bytes text found = (refl, found.0, alone_binary rules bytes text.items found.1)

-- ---- what two findings are together

either : (a b : Bool) → (a || b) ≡ true → (a ≡ true) ⊎ (b ≡ true)
either true b is = inl refl
either false b is = inr is

by_first : (a b : Bool) → a ≡ true → (a || b) ≡ true
by_first a b is = ap (λ t. t || b) is

by_second : (a b : Bool) → b ≡ true → (a || b) ≡ true
by_second true b is = refl
by_second false b is = is

module _ (rules : Rules) (bytes : List ℕ) (p q : Way → Bool) where
  -- whether a way is one of both
  abbrev pub in_both : Way → Bool
  in_both way = p way || q way

  both_none : IsFound rules bytes p None → IsFound rules bytes q None → IsFound rules bytes in_both None
  both_none one other way is text reads = elim (either (p way) (q way) is) [
    | inl first ↦ one way first text reads
    | inr second ↦ other way second text reads
  ]

  first_alone : (it : Reading) → IsFound rules bytes p (Some it) → IsFound rules bytes q None
      → IsFound rules bytes in_both (Some it)
  first_alone it one other = (
    by_first (p it.way) (q it.way) one.0,
    one.1,
    λ way is text reads. elim (either (p way) (q way) is) [
      | inl first ↦ one.2 way first text reads
      | inr second ↦ absurd (other way second text reads)
    ],
  )

  second_alone : (it : Reading) → IsFound rules bytes p None → IsFound rules bytes q (Some it)
      → IsFound rules bytes in_both (Some it)
  second_alone it one other = (
    by_second (p it.way) (q it.way) other.0,
    other.1,
    λ way is text reads. elim (either (p way) (q way) is) [
      | inl first ↦ absurd (one way first text reads)
      | inr second ↦ other.2 way second text reads
    ],
  )

  both_same : (it second : Reading) → it.text.items ≡ second.text.items
      → IsFound rules bytes p (Some it) → IsFound rules bytes q (Some second)
      → IsFound rules bytes in_both (Some it)
  both_same it second same one other = (
    by_first (p it.way) (q it.way) one.0,
    one.1,
    λ way is text reads. elim (either (p way) (q way) is) [
      | inl first ↦ one.2 way first text reads
      | inr later ↦ other.2 way later text reads ∙ sym same
    ],
  )

  -- two findings joined are what was found in all of the ways
  pub joined_found : (one other : Option Reading) (result : Result (Option Reading) Untaken)
      → IsFound rules bytes p one → IsFound rules bytes q other → IsJoined one other result
      → IfOk result (IsFound rules bytes in_both)
  joined_found None None (Ok found) first second is =
      subst (IsFound rules bytes in_both) (sym is) (both_none first second)
  joined_found None (Some it) (Ok found) first second is =
      subst (IsFound rules bytes in_both) (sym is) (second_alone it first second)
  joined_found (Some it) None (Ok found) first second is =
      subst (IsFound rules bytes in_both) (sym is) (first_alone it first second)
  joined_found (Some it) (Some other) (Ok found) first second is =
      subst (IsFound rules bytes in_both) (sym is.0) (both_same it other is.1 first second)
  joined_found one other (Err untaken) first second is = tt

  -- two findings that differ are two decks
  pub joined_untaken : (named : Option Signs) (one other : Option Reading)
      (result : Result (Option Reading) Untaken)
      → ((way : Way) → p way ≡ true → is_tried named way ≡ true)
      → ((way : Way) → q way ≡ true → is_tried named way ≡ true)
      → IsFound rules bytes p one → IsFound rules bytes q other → IsJoined one other result
      → IfErr result (IsUntaken rules named bytes)
  joined_untaken named one other (Ok found) p_tried q_tried first second is = tt
  joined_untaken named None other (Err untaken) p_tried q_tried first second is = absurd is
  joined_untaken named (Some it) None (Err untaken) p_tried q_tried first second is = absurd is
  joined_untaken named (Some it) (Some other) (Err NoMemory) p_tried q_tried first second is = tt
  joined_untaken named (Some it) (Some other) (Err (Faults signs faults)) p_tried q_tried first second is =
      absurd is
  joined_untaken named (Some it) (Some other) (Err (Differ way later)) p_tried q_tried first second is =
      record {
        first = it.text.items;
        second = other.text.items;
        one_tried = subst (λ w. is_tried named w ≡ true) (sym is.0) (p_tried it.way first.0);
        other_tried = subst (λ w. is_tried named w ≡ true) (sym is.1) (q_tried other.way second.0);
        one_reads = subst (λ w. Reads rules bytes w it.text.items) (sym is.0) first.1;
        other_reads = subst (λ w. Reads rules bytes w other.text.items) (sym is.1) second.1;
        differ = is.2;
      }

  -- the same ways, told by another test
  pub found_by : ((way : Way) → p way ≡ true → q way ≡ true)
      → ((way : Way) → q way ≡ true → p way ≡ true) → (found : Option Reading)
      → IsFound rules bytes p found → IsFound rules bytes q found
  found_by there back None none = λ way is text reads. none way (back way is) text reads
  found_by there back (Some it) found = (
    there it.way found.0,
    found.1,
    λ way is text reads. found.2 way (back way is) text reads,
  )

-- ---- which ways are tried

pub card_tried : (named : Option Signs) (way : Way) → is_card_way way ≡ true → is_tried named way ≡ true
card_tried None way is = refl
card_tried (Some signs) Punch is = refl
card_tried (Some signs) Binary is = refl
card_tried (Some signs) (Text other) is = no_way is

pub punch_tried : (named : Option Signs) (way : Way) → is_way Punch way ≡ true → is_tried named way ≡ true
punch_tried named way is = card_tried named way (by_first (is_way Punch way) (is_way Binary way) is)

pub binary_tried : (named : Option Signs) (way : Way) → is_way Binary way ≡ true → is_tried named way ≡ true
binary_tried named way is = card_tried named way (by_second (is_way Punch way) (is_way Binary way) is)

second_of : (a b : Bool) → (a && b) ≡ true → b ≡ true
second_of true b is = is
second_of false b is = no_way is

pub one_text_tried : (named : Option Signs) (signs : Signs) (way : Way)
    → is_text_tried named signs way ≡ true → is_tried named way ≡ true
one_text_tried named signs way is = second_of (is_way (Text signs) way) (is_tried named way) is

pub text_tried : (named : Option Signs) (way : Way) → is_text_way named way ≡ true → is_tried named way ≡ true
text_tried named way is =
    elim (either (is_text_tried named Bureau way) (is_text_tried named Simh way) is) [
      | inl first ↦ one_text_tried named Bureau way first
      | inr second ↦ one_text_tried named Simh way second
    ]

pub all_tried : (named : Option Signs) (way : Way) → (is_card_way way || is_text_way named way) ≡ true
    → is_tried named way ≡ true
all_tried named way is = elim (either (is_card_way way) (is_text_way named way) is) [
  | inl first ↦ card_tried named way first
  | inr second ↦ text_tried named way second
]

pub tried_all : (named : Option Signs) (way : Way) → is_tried named way ≡ true
    → (is_card_way way || is_text_way named way) ≡ true
tried_all named Punch is = refl
tried_all named Binary is = refl
tried_all None (Text Bureau) is = refl
tried_all None (Text Simh) is = refl
tried_all (Some Bureau) (Text Bureau) is = refl
tried_all (Some Bureau) (Text Simh) is = no_way is
tried_all (Some Simh) (Text Bureau) is = no_way is
tried_all (Some Simh) (Text Simh) is = refl

-- ---- what is told of a file that is read in no way

told_tried : (named : Option Signs) → is_tried named (Text (told_signs named)) ≡ true
told_tried None = refl
told_tried (Some Bureau) = refl
told_tried (Some Simh) = refl

pub told_faults : (rules : Rules) (named : Option Signs) (bytes : List ℕ) (signs : Signs)
    (faults : List TextFault) → signs ≡ told_signs named → IsUnread rules named bytes
    → faults ≡ faults_of (signed rules signs) bytes
    → (faults ≡ faults_of (signed rules signs) bytes) × (faults ≢ []) × IsAtFault rules named bytes signs
told_faults rules named bytes signs faults told unread are = (
  are,
  λ none. unread (Text signs) (subst (λ s. is_tried named (Text s) ≡ true) (sym told) (told_tried named))
      (deck_text_of (signed rules signs) bytes) (sym are ∙ none, refl),
  inr (told, unread),
)
