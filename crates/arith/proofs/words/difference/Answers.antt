use Rattle.std.proofs.Common.{◌<◌, ◌∙◌, ap, map}
use Rattle.std.specs.Int.{abs_diff}
use Rattle.std.proofs.lemmas.List.{length-map}
use Rattle.std.proofs.lemmas.List.Elements.{All-same}
use Rattle.arith.specs.Columns.{digit_of_part}
use Rattle.arith.specs.Words.{bytes_of, digit_of_byte, word_of}
use Rattle.arith.proofs.WordDifferences.{parts_digits, settled_number, settled_small, words_ordered}
use Rattle.arith.proofs.words.difference.Goals as goal

pub word-word_a-requires-clause-digits : goal.word-word_a-requires-clause-digits
word-word_a-requires-clause-digits c = rw c.digits.ensures (parts_digits c.args.a c.requires.a_digits)

pub word-word_b-requires-clause-digits : goal.word-word_b-requires-clause-digits
word-word_b-requires-clause-digits c = rw c.digits-2.ensures (parts_digits c.args.b c.requires.b_digits)

pub returns-clause-number : goal.returns-clause-number
returns-clause-number c =
    rw (c.settle.ensures, c.bytes.ensures, c.abs_diff.ensures, c.word-word_a.ensures, c.word-word_b.ensures, c.digits.ensures, c.digits-2.ensures)
    (settled_number (map digit_of_part c.args.a) (map digit_of_part c.args.b) (length-map c.args.a digit_of_part ∙ c.requires.a) (length-map c.args.b digit_of_part ∙ c.requires.b)
    (parts_digits c.args.a c.requires.a_digits) (parts_digits c.args.b c.requires.b_digits))

pub returns-clause-digits : goal.returns-clause-digits
returns-clause-digits c =
    let u = map digit_of_part c.args.a in
    let v = map digit_of_part c.args.b in
    let apart = c.abs_diff.ensures
    ∙ ap (λ n. abs_diff n c.word-word_b.result) (c.word-word_a.ensures ∙ ap word_of c.digits.ensures)
    ∙ ap (abs_diff (word_of u)) (c.word-word_b.ensures ∙ ap word_of c.digits-2.ensures) in
    All-same (λ d. d < 10) c.settle.result (map digit_of_byte (bytes_of (abs_diff (word_of u) (word_of v))))
    (c.settle.ensures ∙ ap (map digit_of_byte) (c.bytes.ensures ∙ ap bytes_of apart))
    (settled_small u v (length-map c.args.a digit_of_part ∙ c.requires.a) (length-map c.args.b digit_of_part ∙ c.requires.b) (parts_digits c.args.a c.requires.a_digits) (parts_digits c.args.b c.requires.b_digits))

pub returns-clause-greater : goal.returns-clause-greater
returns-clause-greater c =
    rw (c.word-word_a.ensures, c.word-word_b.ensures, c.digits.ensures, c.digits-2.ensures)
    (words_ordered (map digit_of_part c.args.a) (map digit_of_part c.args.b) (length-map c.args.a digit_of_part ∙ c.requires.a) (length-map c.args.b digit_of_part ∙ c.requires.b)
    (parts_digits c.args.a c.requires.a_digits) (parts_digits c.args.b c.requires.b_digits))
