use Rattle.std.proofs.Common.{◌≡◌, drop}
use Rattle.std.specs.List.{list_all}
use Rattle.texts.specs.Names.{is_letter_or_digit}
use Rattle.texts.proofs.names.are_name_characters.Given as goal

abbrev pub invariant-loop-byte : goal.invariant-loop-byte
invariant-loop-byte l = list_all is_letter_or_digit (drop l.byte-index l.bytes) ≡ list_all is_letter_or_digit l.bytes
