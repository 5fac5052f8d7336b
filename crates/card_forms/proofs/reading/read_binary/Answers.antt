use Rattle.std.proofs.Common.{◌∙◌, sym, ap, refl}
use Rattle.card_forms.specs.ColumnBinary.{punch_file_for}
use Rattle.card_forms.proofs.BinaryColumns.{deck_from, deck_told}
use Rattle.card_forms.proofs.reading.read_binary.Goals as goal

pub returns-in-Ok-read_punched-clause-deck : goal.returns-in-Ok-read_punched-clause-deck
returns-in-Ok-read_punched-clause-deck c =
    let read = c.in-Ok-read_punched.ensures.deck in (
      read.0,
      deck_from c.in-Ok-read_punched.deck c.args.bytes.now read.0.1 (sym c.in-Ok.ensures ∙ sym c.deref.ensures.value ∙ read.1),
    )

pub returns-in-Ok-read_punched-clause-only : goal.returns-in-Ok-read_punched-clause-only
returns-in-Ok-read_punched-clause-only c deck is_deck same =
    c.in-Ok-read_punched.ensures.only deck is_deck (c.deref.ensures.value ∙ c.in-Ok.ensures ∙ ap punch_file_for same ∙ deck_told deck is_deck.1)

pub returns-clause-only : goal.returns-clause-only
returns-clause-only c deck is_deck same =
    let memory = c.in-Err.ensures.only deck is_deck (c.deref.ensures.value ∙ c.in-Ok.ensures ∙ ap punch_file_for same ∙ deck_told deck is_deck.1) in
    rw (c.binary_fault.ensures, memory) refl
