use Rattle.std.proofs.Common.{◌++◌, length, ap, ◌∙◌}
use Rattle.loader.proofs.ColumnFills.{filled_length, filled_view, filled_blank, room_left}
use Rattle.loader.proofs.columns.Columns.punch.Goals as goal

pub invariant_of-self : goal.invariant_of-self
invariant_of-self c =
    let xs = c.self.inside.codes in
    let zs = c.args.codes.now in
    let a = c.self.inside.count in
    let room = room_left xs c.args.self.now a (length zs) c.self.view_is c.self.invariant.0 c.self.invariant.1 c.requires in (
      room,
      filled_length xs c.copy_from_slice.new.self zs a c.copy_from_slice.ensures.after c.self.invariant.1 room c.self.invariant.2,
      filled_blank xs c.copy_from_slice.new.self zs a c.copy_from_slice.ensures.after c.self.invariant.1 room c.self.invariant.2,
    )

pub returns-clause-punched : goal.returns-clause-punched
returns-clause-punched c =
    let xs = c.self.inside.codes in
    let zs = c.args.codes.now in
    let a = c.self.inside.count in
    let room = room_left xs c.args.self.now a (length zs) c.self.view_is c.self.invariant.0 c.self.invariant.1 c.requires in
    filled_view xs c.copy_from_slice.new.self zs a c.copy_from_slice.ensures.after c.self.invariant.1 room c.self.invariant.2
    ∙ ap (λ t. t ++ zs) c.self.view_is
