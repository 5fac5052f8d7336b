use Rattle.std.proofs.Common.{◌++◌, arith, append-nil}
use Rattle.units.specs.Listing.{added_after}
use Rattle.units.proofs.ListingLines.{shown_behind}
use Rattle.units.proofs.ListingPieces.{piece_grown}
use Rattle.units.proofs.listing_writer.put_lines.Goals as goal

pub loop-line-init : goal.loop-line-init
loop-line-init g c = record {
  listed = λ first before rising so_far. rw (append-nil before) so_far;
  room = omega arith;
}

pub loop-line-preserved : goal.loop-line-preserved
loop-line-preserved g c = record {
  listed = λ first before rising begun.
      let now = c.loop-line in
      let so_far = now.invariant.listed first before rising begun in
      let y = c.line-item.result in record {
        bytes = so_far.bytes ++ added_after now.come.form now.come.line y;
        written = piece_grown _ _ _ _ _ _ so_far.written c.in_ok-make_room.ensures.kept _ _ c.push_listed.ensures.items;
        listed = rw c.place-come.ensures (shown_behind before c.args.lines.now now.line-index y rising (omega arith) c.line-item.is so_far.bytes now.come.form now.come.line so_far.listed);
      };
  room = omega (arith, c.in_ok-make_room.ensures.room, c.push_listed.ensures.capacity);
}
