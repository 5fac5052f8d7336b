use Rattle.std.proofs.Common.{◌≡◌, ◌++◌, ◌-◌, length}
use Rattle.std.specs.List.{flat_map, range_with_len}
use Rattle.autocoder.specs.Listing.{line_text}
use Rattle.autocoder_listings.specs.Rows.{rows_for}
use Rattle.autocoder_listings.specs.Coded.{further_line}
use Rattle.autocoder_listings.specs.Narrow.{without_card}
use Rattle.autocoder_listings.proofs.narrow.push_further_rows.Given as goal

abbrev pub invariant-loop-number : goal.invariant-loop-number
invariant-loop-number l =
    l.text.items ++ flat_map (λ n. line_text (without_card (further_line l.cells n))) (range_with_len l.number (rows_for (length l.cells) - l.number))
    ≡ l.fn.text.items ++ flat_map (λ n. line_text (without_card (further_line l.cells n))) (range_with_len 1 (rows_for (length l.cells) - 1))
