use Rattle.std.proofs.Common.{◌≡◌, ◌++◌, ◌-◌, length}
use Rattle.std.specs.List.{flat_map, range_with_len}
use Rattle.autocoder.specs.Listing.{line_text}
use Rattle.autocoder_listings.specs.Rows.{rows_of}
use Rattle.autocoder_listings.specs.Names.{users_line}
use Rattle.autocoder_listings.proofs.names.push_users_lines.Given as goal

abbrev pub invariant-loop-number : goal.invariant-loop-number
invariant-loop-number l =
    l.text.items ++ flat_map (λ n. line_text (users_line l.many l.cards n)) (range_with_len l.number (rows_of l.many (length l.cards) - l.number))
    ≡ l.fn.text.items ++ flat_map (λ n. line_text (users_line l.many l.cards n)) (range_with_len 1 (rows_of l.many (length l.cards) - 1))
