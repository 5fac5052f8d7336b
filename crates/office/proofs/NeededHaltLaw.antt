-- a job whose first stretch does not end at a halt
use Rattle.std.proofs.Common.{true≢false, ◌≡◌, ℕ, true, false, [], ◌∷◌, codes, refl, sym, ap, subst, ◌∙◌}
use Rattle.cards.specs.declared.decks.Card.{Card}
use Rattle.core_store.specs.declared.sizes.Size.TheVariants.{Positions1400}
use Rattle.core_store.specs.Storage.{put_codes, least_mark, codes_from}
use Rattle.addresses.specs.Addresses.{weighed, base, tagged}
use Rattle.addresses.specs.Digits.{code_of, digit_under}
use Rattle.addresses.specs.Effective.{base_ending, with_index, operand}
use Rattle.moves.specs.Marks.{marks_put}
use Rattle.bcd.specs.Table.{glyph_of, zone_of, digit_of}
use Rattle.loader.specs.Cards.{card_of, text}
use Rattle.machine.specs.Operations.{operations, row_of}
use Rattle.machine.specs.Word.{word_length, word, operands_of, decoded_of}
use Rattle.machine.specs.Effect.{worked, effect, attempt}
use Rattle.machine.specs.Run.{State, loaded, step, after, started, is_running, is_halted}
use Rattle.machine.proofs.Steps.{after-after}
use Rattle.units.specs.declared.profiles.Profile.TheVariants.{Selecting}
use Rattle.units.specs.declared.switches.Switches.{Switches}
use Rattle.office.specs.declared.commands.Kind.TheVariants.{Object}
use Rattle.office.specs.Whole.{RunsToHalt, RunsThrough}
use Rattle.office.specs.Jobs.{Job, resumed, all_off, IsAtHalt, HasRunWhole, deck_begun}
use Rattle.office.proofs.HaltLemmas.{stands, one_end, halted_by_test}

-- where a machine halts and is in a check after its next start, no whole run has two starts
no_two : (m end : State) (switches : Switches) (count : ℕ) → is_halted (after m count).standing ≡ true → is_running (after m count).standing ≡ false →
    is_running (after (started (after m count) switches) 1).standing ≡ false → is_halted (after (started (after m count) switches) 1).standing ≡ false →
    RunsThrough m (switches ∷ []) end → ⊥
no_two m end switches count halts stops next_stops next_is run =
    let first : run.0 ≡ after m count = run.1.is ∙ one_end after-after m run.1.count count (stands m run.0 run.1) stops in
    let second : RunsToHalt (started (after m count) switches) end = subst (λ h. RunsToHalt (started h switches) end) first run.2 in
    let last : end ≡ after (started (after m count) switches) 1 =
    second.is ∙ one_end after-after (started (after m count) switches) second.count 1 (stands (started (after m count) switches) end second) next_stops in
    true≢false (sym (ap is_halted second.halted) ∙ ap (λ (t : State). is_halted t.standing) last ∙ next_is)

-- a card that sets two marks and halts between them
card : Card
card = card_of (text (codes ",008009."))

m0 : State
unfolding card
m0 = loaded (card ∷ []) Positions1400 all_off Selecting

halts : is_halted (after m0 2).standing ≡ true
unfolding m0 card code_of after step attempt word word_length least_mark codes_from put_codes row_of operations operands_of decoded_of weighed base tagged digit_under base_ending with_index operand marks_put worked effect glyph_of zone_of digit_of
halts = refl

stops : is_running (after m0 2).standing ≡ false
unfolding m0 card code_of after step attempt word word_length least_mark codes_from put_codes row_of operations operands_of decoded_of weighed base tagged digit_under base_ending with_index operand marks_put worked effect glyph_of zone_of digit_of
stops = refl

next_stops : is_running (after (started (after m0 2) all_off) 1).standing ≡ false
unfolding m0 card code_of after step attempt word word_length least_mark codes_from put_codes row_of operations operands_of decoded_of weighed base tagged digit_under base_ending with_index operand marks_put worked effect glyph_of zone_of digit_of
next_stops = refl

next_is : is_halted (after (started (after m0 2) all_off) 1).standing ≡ false
unfolding m0 card code_of after step attempt word word_length least_mark codes_from put_codes row_of operations operands_of decoded_of weighed base tagged digit_under base_ending with_index operand marks_put worked effect glyph_of zone_of digit_of
next_is = refl

-- nothing is granted in the first stretch, and what leads to the halt in the second
job : Job
job = record {
  kind = Object;
  size = Positions1400;
  deck = card ∷ [];
  profile = Selecting;
  stretches = (record { switches = all_off; granted = 0 }) ∷ (record { switches = all_off; granted = 2 }) ∷ [];
  held = false;
  collected = false;
}

at_halt : IsAtHalt job
unfolding job m0 resumed after
at_halt = halted_by_test _ halts

not_whole : HasRunWhole (deck_begun job) job → ⊥
unfolding job m0
not_whole run = no_two m0 run.holds.0 all_off 2 halts stops next_stops next_is run.holds.1

pub halts_are_needed : ((job : Job) → IsAtHalt job → HasRunWhole (deck_begun job) job) → ⊥
halts_are_needed law = not_whole (law job at_halt)
