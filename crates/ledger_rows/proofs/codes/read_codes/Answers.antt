use Rattle.std.proofs.Common.{◌≡◌, ◌<◌, ◌∙◌, true, get_or, sym}
use Rattle.std.proofs.lemmas.List.{length-set}
use Rattle.ledger_rows.proofs.CodesRead.{all_read, one_character, one_read, read_value}
use Rattle.ledger_rows.proofs.codes.read_codes.Goals as goal

pub loop-place-preserved : goal.loop-place-preserved
loop-place-preserved c =
    let loop = c.loop-place.invariant in
    let codes = c.loop-place.codes in
    let numbers = c.args.numbers.now in
    let i = c.loop-place.place in
    let is = c.is_some-are.result in
    let found = c.from_number-code.result in
    let code = c.unwrap_or.result in
    let within = c.loop-place-test.true in
    let valid : get_or numbers i 0 < 64 → is ≡ true = λ less. c.is_some-are.ensures ∙ c.from_number-code.ensures.valid.1 less in
    let value : is ≡ true → (code ≡ get_or numbers i 0) × (get_or numbers i 0 < 64) =
    λ good. let read = read_value found c.blank.result (get_or numbers i 0) c.from_number-code.ensures.valid c.from_number-code.ensures.value (sym c.is_some-are.ensures ∙ good) in
    (c.unwrap_or.ensures ∙ read.0, read.1) in
    record {
      numbers = one_read codes numbers i c.loop-place.are is code within loop.size valid value loop.numbers loop.characters loop.all;
      characters = one_character codes numbers i c.loop-place.are is code within loop.size valid value loop.numbers loop.characters loop.all;
      all = all_read codes numbers i c.loop-place.are is code within loop.size valid value loop.numbers loop.characters loop.all;
      size = length-set codes i code ∙ loop.size;
    }
