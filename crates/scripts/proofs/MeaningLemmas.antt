-- Words that say no command.
use Rattle.std.proofs.Common.{◌≡◌, ◌≢◌, ◌∙◌, ℕ, ◌<◌, ◌≤◌, List, [], ◌∷◌, length, sym, ap, subst, arith, codes, refl, inl, inr, get_or, map, ◌⊎◌}
use Rattle.std.specs.Borrow.{Bor}
use Rattle.std.proofs.lemmas.List.{length-map, nil_from_length}
use Rattle.std.proofs.lemmas.Bool.{cases_lt}
use Rattle.office.specs.declared.commands.Kind.{Kind}
use Rattle.units.specs.declared.Switches.{Switches}
use Rattle.texts.specs.Switches.{AreSwitchesOf}
use Rattle.scripts.specs.Texts.{IsCountOf, IsKindOf, text_of}
use Rattle.scripts.specs.Words.{AreFewWords, AreWords, words_of}
use Rattle.scripts.specs.declared.meanings.Meaning.{Meaning}
use Rattle.scripts.specs.declared.meanings.Meaning.TheVariants as said
use Rattle.office.specs.declared.commands.Command.{Command}
use Rattle.office.specs.declared.commands.Command.TheVariants as command
use Rattle.office.specs.declared.commands.JobCommand.{JobCommand}
use Rattle.office.specs.declared.commands.JobCommand.TheVariants as job
use Rattle.scripts.specs.declared.headings.Heading.{Heading}
use Rattle.scripts.specs.declared.meanings.Meaning.TheVariants.{Nothing}
use Rattle.scripts.specs.Commands.{AreJobWords, IsHeading, IsMeantBy, IsMeantIn, Says}

-- a command on a job has at most one word after the number
few_after : (verb : List ℕ) (after : List (List ℕ)) (c : JobCommand) → AreJobWords verb after c → length after ≤ 1
few_after verb after (job.Slice limit) h = omega (arith, ap length h.2)
few_after verb after (job.Start switches) h = omega (arith, ap length h.2)
few_after verb after job.Hold h = omega (arith, ap length h.1)
few_after verb after job.Release h = omega (arith, ap length h.1)
few_after verb after job.Collect h = omega (arith, ap length h.1)
few_after verb after job.Standing h = omega (arith, ap length h.1)
few_after verb after (job.Cards from) h = absurd h
few_after verb after job.Lines h = absurd h

-- how many words say a command
pub words_meant : (words : List (List ℕ)) (c : Command) → Says words c → (1 ≤ length words) × (length words ≤ 4)
words_meant words (command.Submit customer number contents) h = absurd h
words_meant words (command.Job customer number c) h =
    let few = few_after h.verb h.after c h.command_is in
    (omega (arith, ap length h.are, few), omega (arith, ap length h.are, few))
words_meant words (command.Jobs customer) h = (omega (arith, ap length h.1), omega (arith, ap length h.1))
words_meant words command.Queue h = (omega (arith, ap length h), omega (arith, ap length h))

pub words_headed : (words : List (List ℕ)) (h : Heading) → IsHeading words h → length words ≡ 7
words_headed words heading h = omega (arith, ap length h.are)

-- words that are too many or too few say nothing
pub no_length : (words : List (List ℕ)) → ((c : Command) → ¬ Says words c) → length words ≢ 7 → IsMeantBy words Nothing
no_length words none other = (none, λ heading h. other (words_headed words heading h))

pub too_long : (words : List (List ℕ)) → 4 < length words → length words ≢ 7 → IsMeantBy words Nothing
too_long words long other = no_length words (λ c h. omega (arith, (words_meant words c h).1, long)) other

pub no_word : IsMeantBy [] Nothing
no_word = no_length [] (λ c h. omega (arith, (words_meant [] c h).0)) (λ e. omega (arith, e))

-- one word that is not `queue`
no_lone : (verb : List ℕ) → verb ≢ codes "queue" → (c : Command) → ¬ Says (verb ∷ []) c
no_lone verb other (command.Submit customer number contents) h = h
no_lone verb other (command.Job customer number c) h = omega (arith, ap length h.are)
no_lone verb other (command.Jobs customer) h = omega (arith, ap length h.1)
no_lone verb other command.Queue h = other (cc)

pub lone_nothing : (verb : List ℕ) → verb ≢ codes "queue" → IsMeantBy (verb ∷ []) Nothing
lone_nothing verb other = no_length (verb ∷ []) (no_lone verb other) (λ e. omega (arith, e))

-- two words, of which the first is not `jobs`
no_pair : (verb name : List ℕ) → verb ≢ codes "jobs" → (c : Command) → ¬ Says (verb ∷ name ∷ []) c
no_pair verb name other (command.Submit customer number contents) h = h
no_pair verb name other (command.Job customer number c) h = omega (arith, ap length h.are)
no_pair verb name other (command.Jobs customer) h = let e = h.1 in other (cc)
no_pair verb name other command.Queue h = omega (arith, ap length h)

pub pair_nothing : (verb name : List ℕ) → verb ≢ codes "jobs" → IsMeantBy (verb ∷ name ∷ []) Nothing
pair_nothing verb name other = no_length (verb ∷ name ∷ []) (no_pair verb name other) (λ e. omega (arith, e))

-- words of which no command on a job is made
no_job : (verb name numeral : List ℕ) (after : List (List ℕ)) → ((c : JobCommand) → ¬ AreJobWords verb after c) → (c : Command) → ¬ Says (verb ∷ name ∷ numeral ∷ after) c
no_job verb name numeral after none (command.Submit customer number contents) h = h
no_job verb name numeral after none (command.Job customer number c) h =
    let e = h.are in
    let v : h.verb ≡ verb = cc in
    let a : h.after ≡ after = cc in
    none c (subst (λ (x : List ℕ). AreJobWords x after c) v (subst (λ (x : List (List ℕ)). AreJobWords h.verb x c) a h.command_is))
no_job verb name numeral after none (command.Jobs customer) h = omega (arith, ap length h.1)
no_job verb name numeral after none command.Queue h = omega (arith, ap length h)

pub job_nothing : (verb name numeral : List ℕ) (after : List (List ℕ)) → length after ≤ 1 → ((c : JobCommand) → ¬ AreJobWords verb after c)
    → IsMeantBy (verb ∷ name ∷ numeral ∷ after) Nothing
job_nothing verb name numeral after few none = no_length (verb ∷ name ∷ numeral ∷ after) (no_job verb name numeral after none) (λ e. omega (arith, e, few))

-- seven words that are no heading
pub heading_nothing : (words : List (List ℕ)) → length words ≡ 7 → ((heading : Heading) → ¬ IsHeading words heading) → IsMeantBy words Nothing
heading_nothing words seven none = (λ c h. omega (arith, (words_meant words c h).1, seven), none)

-- what the words of a heading are
pub heading_words : (verb name number kind size switches cards : List ℕ) (h : Heading)
    → IsHeading (verb ∷ name ∷ number ∷ kind ∷ size ∷ switches ∷ cards ∷ []) h
    → (verb ≡ codes "submit") × IsKindOf kind h.kind × AreSwitchesOf (text_of switches) h.switches × IsCountOf cards h.cards
heading_words verb name number kind size switches cards h is =
    let e = is.are in
    let k : is.kind ≡ kind = cc in
    let s : is.switches ≡ switches = cc in
    let c : is.count ≡ cards = cc in (
      cc,
      subst (λ (w : List ℕ). IsKindOf w h.kind) k is.kind_is,
      subst (λ (w : List ℕ). AreSwitchesOf (text_of w) h.switches) s is.switches_are,
      subst (λ (w : List ℕ). IsCountOf w h.cards) c is.count_is,
    )

pub not_submit : (verb name number kind size switches cards : List ℕ) → verb ≢ codes "submit"
    → IsMeantBy (verb ∷ name ∷ number ∷ kind ∷ size ∷ switches ∷ cards ∷ []) Nothing
not_submit verb name number kind size switches cards other =
    heading_nothing _ (omega arith) (λ h is. other (heading_words verb name number kind size switches cards h is).0)

pub no_kind : (verb name number kind size switches cards : List ℕ) → ((k : Kind) → ¬ IsKindOf kind k)
    → IsMeantBy (verb ∷ name ∷ number ∷ kind ∷ size ∷ switches ∷ cards ∷ []) Nothing
no_kind verb name number kind size switches cards none =
    heading_nothing _ (omega arith) (λ h is. none h.kind (heading_words verb name number kind size switches cards h is).1)

pub no_switches : (verb name number kind size switches cards : List ℕ) → ((s : Switches) → ¬ AreSwitchesOf (text_of switches) s)
    → IsMeantBy (verb ∷ name ∷ number ∷ kind ∷ size ∷ switches ∷ cards ∷ []) Nothing
no_switches verb name number kind size switches cards none =
    heading_nothing _ (omega arith) (λ h is. none h.switches (heading_words verb name number kind size switches cards h is).2)

pub no_cards : (verb name number kind size switches cards : List ℕ) → ((n : ℕ) → ¬ IsCountOf cards n)
    → IsMeantBy (verb ∷ name ∷ number ∷ kind ∷ size ∷ switches ∷ cards ∷ []) Nothing
no_cards verb name number kind size switches cards none =
    heading_nothing _ (omega arith) (λ h is. none h.cards (heading_words verb name number kind size switches cards h is).3)

-- what the words of a line say, the line says
pub meant_of : (line : List ℕ) (it : Meaning) → AreWords (words_of line) → IsMeantBy (words_of line) it → IsMeantIn line it
meant_of line (said.Command c) words says = (words, says)
meant_of line (said.Heading h) words says = (words, says)
meant_of line said.Nothing words says = λ _. says

-- a line without words, or with too many, says nothing
pub no_words : (line : List ℕ) → ¬ AreFewWords line → IsMeantIn line Nothing
no_words line many words =
    let long : 7 < length (words_of line) = elim (cases_lt 7 (length (words_of line))) [ inl h ↦ h | inr h ↦ absurd (many (words, h)) ] in
    too_long (words_of line) (omega (arith, long)) (λ e. omega (arith, e, long))

-- the words of a slice of them, by their places

pub three_words : (words : List (Bor (List ℕ))) (a b c : Bor (List ℕ)) → 3 ≤ length words → length words < 4
    → map (λ (w : Bor (List ℕ)). w.now) words ≡ (get_or words 0 a).now ∷ (get_or words 1 b).now ∷ (get_or words 2 c).now ∷ []
three_words [] a b c least below = absurd (omega (arith, least))
three_words (x ∷ []) a b c least below = absurd (omega (arith, least))
three_words (x ∷ y ∷ []) a b c least below = absurd (omega (arith, least))
three_words (x ∷ y ∷ z ∷ []) a b c least below = refl
three_words (x ∷ y ∷ z ∷ w ∷ words) a b c least below = absurd (omega (arith, below))

pub four_words : (words : List (Bor (List ℕ))) (a b c d : Bor (List ℕ)) → 4 ≤ length words → length words < 5
    → map (λ (w : Bor (List ℕ)). w.now) words ≡ (get_or words 0 a).now ∷ (get_or words 1 b).now ∷ (get_or words 2 c).now ∷ (get_or words 3 d).now ∷ []
four_words [] a b c d least below = absurd (omega (arith, least))
four_words (x ∷ words) a b c d least below = ap (λ (ws : List (List ℕ)). x.now ∷ ws) (three_words words b c d (omega (arith, least)) (omega (arith, below)))

pub seven_words : (words : List (Bor (List ℕ))) (a b c d e f g : Bor (List ℕ)) → 7 ≤ length words → length words < 8
    → map (λ (w : Bor (List ℕ)). w.now) words ≡ (get_or words 0 a).now ∷ (get_or words 1 b).now ∷ (get_or words 2 c).now ∷ (get_or words 3 d).now
    ∷ (get_or words 4 e).now ∷ (get_or words 5 f).now ∷ (get_or words 6 g).now ∷ []
seven_words [] a b c d e f g least below = absurd (omega (arith, least))
seven_words (x ∷ []) a b c d e f g least below = absurd (omega (arith, least))
seven_words (x ∷ y ∷ []) a b c d e f g least below = absurd (omega (arith, least))
seven_words (x ∷ y ∷ z ∷ words) a b c d e f g least below =
    ap (λ (ws : List (List ℕ)). x.now ∷ y.now ∷ z.now ∷ ws) (four_words words d e f g (omega (arith, least)) (omega (arith, below)))

-- .. that are too few or too many
pub other_words : (words : List (Bor (List ℕ))) → (length words ≡ 0) ⊎ ((4 < length words) × (length words ≢ 7)) → IsMeantBy (map (λ (w : Bor (List ℕ)). w.now) words) Nothing
other_words words (inl none) = subst (λ (ws : List (Bor (List ℕ))). IsMeantBy (map (λ (w : Bor (List ℕ)). w.now) ws) Nothing) (sym (nil_from_length words none)) no_word
other_words words (inr long) =
    let same = length-map words (λ (w : Bor (List ℕ)). w.now) in
    too_long (map (λ (w : Bor (List ℕ)). w.now) words) (omega (arith, long.0, same)) (λ e. long.1 (sym same ∙ e))
