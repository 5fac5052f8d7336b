-- A record is read back, group by group.
use Rattle.std.proofs.Common.{◌≡◌, ◌∙◌, ℕ, ◌+◌, ◌<◌, ◌^◌, Bool, true, false, List, ◌++◌, codes, decimal, flat_map, get_or, length, refl, ap, sym, arith, append_assoc}
use Rattle.std.specs.List.{AllByRecursion}
use Rattle.std.specs.Prelude.{⊤}
use Rattle.core_store.specs.Checks.{check_name}
use Rattle.core_store.specs.Storage.{positions_of}
use Rattle.core_store.specs.declared.checks.Check.{Check}
use Rattle.core_store.specs.declared.checks.Check.TheVariants.{Address, Instruction, Data, Overlap, ReaderEmpty, PunchFull, PrinterFull}
use Rattle.core_store.proofs.SizeLemmas.{same_size, within}
use Rattle.machine.specs.Standings.{standing_words}
use Rattle.machine.specs.declared.standings.StandingAt.{StandingAt}
use Rattle.machine.specs.declared.standings.StandingAt.TheVariants.{Running, Halted, Checked}
use Rattle.units.specs.declared.profiles.Profile.{Profile}
use Rattle.units.specs.declared.profiles.Profile.TheVariants.{Plain, Selecting}
use Rattle.units.specs.declared.units.Counts.{Counts}
use Rattle.office.specs.Jobs.{Job, cards_by, picture}
use Rattle.office.specs.Kept.{kept_of, summary_of}
use Rattle.office.specs.Office.{Entry}
use Rattle.office.specs.declared.commands.Kind.{Kind}
use Rattle.office.specs.declared.commands.Kind.TheVariants.{Object, Autocoder}
use Rattle.office.specs.declared.summaries.Summary.{Summary}
use Rattle.office_tables.proofs.ReadingLemmas.{picture_before}
use Rattle.job_archives.specs.Records.{deck_digests, digest_line, digest_lines, kind_word, line, made_lines, machine_lines, name_lines, pocket_lines, profile_word, record_of, standing_lines, stretch_line, yes_or_no}
use Rattle.job_archives.proofs.RecordLines.{IsShort, HasNoPocket, HasNoStretch, pockets_of, same_pockets, same_stretches}
use Rattle.job_archives.proofs.WordsRead.{after_three, after_two, has_none, no_end, none_in_both, same_line, same_number}

-- ---- words

kind_ends : (k : Kind) → has_none 10 (kind_word k) ≡ true
kind_ends Object = refl
kind_ends Autocoder = refl

same_kind : (k l : Kind) → kind_word k ≡ kind_word l → k ≡ l
same_kind Object Object e = refl
same_kind Object Autocoder e = absurd (let clash : 111 ≡ 97 = ap (λ (l : List ℕ). get_or l 0 0) e in omega (arith, clash))
same_kind Autocoder Object e = absurd (let clash : 97 ≡ 111 = ap (λ (l : List ℕ). get_or l 0 0) e in omega (arith, clash))
same_kind Autocoder Autocoder e = refl

profile_ends : (p : Profile) → has_none 10 (profile_word p) ≡ true
profile_ends Plain = refl
profile_ends Selecting = refl

same_profile : (p q : Profile) → profile_word p ≡ profile_word q → p ≡ q
same_profile Plain Plain e = refl
same_profile Plain Selecting e = absurd (let clash : 49 ≡ 50 = ap (λ (l : List ℕ). get_or l 0 0) e in omega (arith, clash))
same_profile Selecting Plain e = absurd (let clash : 50 ≡ 49 = ap (λ (l : List ℕ). get_or l 0 0) e in omega (arith, clash))
same_profile Selecting Selecting e = refl

flag_ends : (b : Bool) → has_none 10 (yes_or_no b) ≡ true
flag_ends true = refl
flag_ends false = refl

same_flag : (b c : Bool) → yes_or_no b ≡ yes_or_no c → b ≡ c
same_flag true true e = refl
same_flag true false e = absurd (let clash : 121 ≡ 110 = ap (λ (l : List ℕ). get_or l 0 0) e in omega (arith, clash))
same_flag false true e = absurd (let clash : 110 ≡ 121 = ap (λ (l : List ℕ). get_or l 0 0) e in omega (arith, clash))
same_flag false false e = refl

check_ends : (c : Check) → has_none 10 (check_name c) ≡ true
check_ends Address = refl
check_ends Instruction = refl
check_ends Data = refl
check_ends Overlap = refl
check_ends ReaderEmpty = refl
check_ends PunchFull = refl
check_ends PrinterFull = refl

-- the address in a standing, if it has one, is this
abbrev pub IsAt : StandingAt → ℕ → Type 0
IsAt Running n = ⊤
IsAt (Halted next) n = next ≡ n
IsAt (Checked check here) n = here ≡ n

-- the words of a standing with a short address end no line
pub standing_ends : (s : StandingAt) → (n : ℕ) → n < 2 ^ 64 → IsAt s n → has_none 10 (standing_words s) ≡ true
standing_ends Running n small at = refl
standing_ends (Halted next) n small at = none_in_both 10 (codes "halted next ") (decimal next) refl (no_end next (omega (arith, at, small)))
standing_ends (Checked check here) n small at =
    none_in_both 10 ((codes "check " ++ check_name check) ++ codes " at ") (decimal here)
    (none_in_both 10 (codes "check " ++ check_name check) (codes " at ") (none_in_both 10 (codes "check ") (check_name check) refl (check_ends check)) refl)
    (no_end here (omega (arith, at, small)))

-- ---- groups of lines

-- seven groups, one behind the other
flat : (a b c d e f g : List ℕ) → (((((a ++ b) ++ c) ++ d) ++ e) ++ f) ++ g ≡ a ++ (b ++ (c ++ (d ++ (e ++ (f ++ g)))))
flat a b c d e f g =
    append_assoc ((((a ++ b) ++ c) ++ d) ++ e) f g
    ∙ (append_assoc (((a ++ b) ++ c) ++ d) e (f ++ g)
    ∙ (append_assoc ((a ++ b) ++ c) d (e ++ (f ++ g))
    ∙ (append_assoc (a ++ b) c (d ++ (e ++ (f ++ g))) ∙ append_assoc a b (c ++ (d ++ (e ++ (f ++ g)))))))

-- an entry whose record can be read
pub record IsReadable (e : Entry) : Type 0 where
  pub customer : has_none 10 e.customer ≡ true
  pub number : e.number < 2 ^ 64
  pub stretches : AllByRecursion IsShort e.job.stretches
  pub standing : has_none 10 (standing_words (summary_of (kept_of e.job)).standing) ≡ true
  pub cards : 1 + length (cards_by e.job) < 2 ^ 64
  pub lines : (summary_of (kept_of e.job)).lines < 2 ^ 64

same_names : (e o : Entry) (rest more : List ℕ) → IsReadable e → IsReadable o → name_lines e ++ rest ≡ name_lines o ++ more
    → (e.customer ≡ o.customer) × ((e.number ≡ o.number) × (rest ≡ more))
unfolding name_lines
same_names e o rest more a b is =
    let one = same_line (codes "customer") e.customer o.customer _ _ a.customer b.customer
    (after_two (line (codes "customer") e.customer) (line (codes "number") (decimal e.number)) (line (codes "customer") o.customer) (line (codes "number") (decimal o.number)) rest more is) in
    let two = same_number (codes "number") rest more e.number o.number a.number b.number one.1 in
    (one.0, (two.0, two.1))

same_machines : (e o : Entry) (rest more : List ℕ) → machine_lines e ++ rest ≡ machine_lines o ++ more
    → (e.job.kind ≡ o.job.kind) × ((e.job.size ≡ o.job.size) × ((e.job.profile ≡ o.job.profile) × (rest ≡ more)))
unfolding machine_lines
same_machines e o rest more is =
    let size : ℕ = positions_of e.job.size in
    let other : ℕ = positions_of o.job.size in
    let one = same_line (codes "kind") (kind_word e.job.kind) (kind_word o.job.kind) _ _ (kind_ends e.job.kind) (kind_ends o.job.kind)
    (after_three (line (codes "kind") (kind_word e.job.kind)) (line (codes "size") (decimal size)) (line (codes "profile") (profile_word e.job.profile))
    (line (codes "kind") (kind_word o.job.kind)) (line (codes "size") (decimal other)) (line (codes "profile") (profile_word o.job.profile)) rest more is) in
    let two = same_number (codes "size") _ _ size other (omega (arith, within e.job.size)) (omega (arith, within o.job.size)) one.1 in
    let three = same_line (codes "profile") (profile_word e.job.profile) (profile_word o.job.profile) rest more (profile_ends e.job.profile) (profile_ends o.job.profile) two.1 in
    (same_kind e.job.kind o.job.kind one.0, (same_size e.job.size o.job.size two.0, (same_profile e.job.profile o.job.profile three.0, three.1)))

same_standings : (s t : Summary) (rest more : List ℕ) → has_none 10 (standing_words s.standing) ≡ true → has_none 10 (standing_words t.standing) ≡ true
    → standing_lines s ++ rest ≡ standing_lines t ++ more → (s.held ≡ t.held) × ((s.collected ≡ t.collected) × (rest ≡ more))
unfolding standing_lines
same_standings s t rest more a b is =
    let one = same_line (codes "standing") (standing_words s.standing) (standing_words t.standing) _ _ a b
    (after_three (line (codes "standing") (standing_words s.standing)) (line (codes "held") (yes_or_no s.held)) (line (codes "collected") (yes_or_no s.collected))
    (line (codes "standing") (standing_words t.standing)) (line (codes "held") (yes_or_no t.held)) (line (codes "collected") (yes_or_no t.collected)) rest more is) in
    let two = same_line (codes "held") (yes_or_no s.held) (yes_or_no t.held) _ _ (flag_ends s.held) (flag_ends t.held) one.1 in
    let three = same_line (codes "collected") (yes_or_no s.collected) (yes_or_no t.collected) rest more (flag_ends s.collected) (flag_ends t.collected) two.1 in
    (same_flag s.held t.held two.0, (same_flag s.collected t.collected three.0, three.1))

same_made : (s t : Summary) (rest more : List ℕ) → s.cards < 2 ^ 64 → t.cards < 2 ^ 64 → s.lines < 2 ^ 64 → t.lines < 2 ^ 64
    → made_lines s ++ rest ≡ made_lines t ++ more → (s.cards ≡ t.cards) × (rest ≡ more)
unfolding made_lines
same_made s t rest more a b c d is =
    let one = same_number (codes "cards") _ _ s.cards t.cards a b
    (after_two (line (codes "cards") (decimal s.cards)) (line (codes "lines") (decimal s.lines)) (line (codes "cards") (decimal t.cards)) (line (codes "lines") (decimal t.lines)) rest more is) in
    let two = same_number (codes "lines") rest more s.lines t.lines c d one.1 in
    (one.0, two.1)

no_stretch : (s : Summary) (rest : List ℕ) → HasNoStretch (standing_lines s ++ rest)
unfolding standing_lines
no_stretch s rest = refl

no_pocket : (a b c d e : List ℕ) → HasNoPocket (digest_lines a b c d e)
unfolding digest_lines deck_digests digest_line
no_pocket a b c d e = refl

-- what two entries have in common
pub record AreSame (e o : Entry) : Type 0 where
  pub customer : e.customer ≡ o.customer
  pub number : e.number ≡ o.number
  pub kind : e.job.kind ≡ o.job.kind
  pub size : e.job.size ≡ o.job.size
  pub profile : e.job.profile ≡ o.job.profile
  pub stretches : e.job.stretches ≡ o.job.stretches
  pub held : e.job.held ≡ o.job.held
  pub collected : e.job.collected ≡ o.job.collected
  pub pockets : pockets_of (cards_by e.job) ≡ pockets_of (cards_by o.job)

-- a job's machine has all of its cards itself
cards_told : (job : Job) → (summary_of (kept_of job)).cards ≡ length (cards_by job)
cards_told job = let none : (picture job).works.units.before.cards ≡ 0 = ap (λ (n : Counts). n.cards) (picture_before job) in omega (arith, none)

pub same_records : (e o : Entry) (a b c d f p q r s t : List ℕ) → IsReadable e → IsReadable o
    → record_of e a b c d f ≡ record_of o p q r s t → AreSame e o
unfolding record_of
same_records e o a b c d f p q r s t one other is =
    let x : Summary = summary_of (kept_of e.job) in
    let y : Summary = summary_of (kept_of o.job) in
    let ends : List ℕ = digest_lines a b c d f in
    let others : List ℕ = digest_lines p q r s t in
    let pockets : List ℕ = pocket_lines 1 (cards_by e.job) in
    let with : List ℕ = pocket_lines 1 (cards_by o.job) in
    let all = sym (flat (name_lines e) (machine_lines e) (flat_map stretch_line e.job.stretches) (standing_lines x) (made_lines x) pockets ends)
    ∙ (is ∙ flat (name_lines o) (machine_lines o) (flat_map stretch_line o.job.stretches) (standing_lines y) (made_lines y) with others) in
    let names = same_names e o _ _ one other all in
    let machines = same_machines e o _ _ names.1.1 in
    let stretches = same_stretches e.job.stretches o.job.stretches _ _ one.stretches other.stretches (no_stretch x _) (no_stretch y _) machines.1.1.1 in
    let standings = same_standings x y _ _ one.standing other.standing stretches.1 in
    let told = cards_told e.job in
    let told_too = cards_told o.job in
    let made = same_made x y _ _ (omega (arith, one.cards, told)) (omega (arith, other.cards, told_too)) one.lines other.lines standings.1.1 in
    let cards = same_pockets 1 (cards_by e.job) (cards_by o.job) ends others (sym told ∙ made.0 ∙ told_too) one.cards (no_pocket a b c d f) (no_pocket p q r s t) made.1 in
    record {
      customer = names.0;
      number = names.1.0;
      kind = machines.0;
      size = machines.1.0;
      profile = machines.1.1.0;
      stretches = stretches.0;
      held = standings.0;
      collected = standings.1.0;
      pockets = cards.0;
    }
