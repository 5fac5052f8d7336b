use Rattle.std.proofs.Common.{◌++◌}
use Rattle.std.specs.Prelude.{codes, decimal}
use Rattle.source_reports.specs.OutsideAddresses.{reached_text}
use Rattle.source_reports.proofs.PieceLemmas.{three_pieces}
use Rattle.source_reports.proofs.outside_addresses.push_number_and_size.Goals as goal

pub returns : goal.returns
returns c =
    three_pieces c.args.text.now.items (codes ": ") (reached_text c.args.adjustment c.args.number)
    (codes ", and the size is " ++ decimal c.args.size)
    c.push_text.new.text.items c.push_reached.new.text.items c.push_size.new.text.items
    c.in_ok-push_text.ensures c.in_ok-push_reached.ensures c.in_ok-push_size.ensures
