use Rattle.std.proofs.Common.{ℕ, List, ◌++◌, ◌-◌, drop, length, subst, sym}
use Rattle.http_messages.specs.RequestBodies.{IsFilledAfter}
use Rattle.http_messages.proofs.BodyFills.{filled_after}
use Rattle.http_messages.proofs.request_bodies.fill_after.Goals as goal
use borrow.Rule.Slice.PartMut.{put_mid}

pub returns-clause-filled : goal.returns-clause-filled
returns-clause-filled g c =
    let begun = c.args.begun.now in
    let rest = drop (length begun) c.args.buffer.now in
    subst (λ (b : List ℕ). IsFilledAfter begun (g.R.Read.remaining c.args.reader.now) (g.R.Read.remaining c.fill.new.reader) (put_mid (length begun) (length (b ++ rest) - length begun) (b ++ rest) c.fill.new.buffer) c.fill.result)
    (sym c.copy_from_slice.ensures.after)
    (filled_after begun rest c.fill.new.buffer (g.R.Read.remaining c.args.reader.now) (g.R.Read.remaining c.fill.new.reader) c.fill.result c.fill.ensures.filled)
