use Rattle.std.proofs.Common.{◌-◌, ◌≤◌, ◌∙◌, sym, ap, arith, length}
use Rattle.std.proofs.lemmas.List.{length-map}
use Rattle.core_store.specs.Storage.{put_codes}
use Rattle.arith.specs.Columns.{number, digit_of_part}
use Rattle.arith.proofs.LaneSums.{none_over}
use Rattle.arith.proofs.SumLanes.{parts_long, field_number, field_value}
use Rattle.arith.proofs.SumDifferences.{replaced_is}
use Rattle.arith.proofs.WordDifferences.{parts_digits}
use Rattle.arith.proofs.zeros.replace_clear.Goals as goal

pub write_digits-requires-clause-digits : goal.write_digits-requires-clause-digits
write_digits-requires-clause-digits g c = rw c.digits.ensures (parts_digits c.parts-parts.result (none_over 10 c.parts-parts.result (sym c.is_over.ensures ∙ c.if-is_over.false)))

pub returns : goal.returns
returns g c = (
  λ _.
      let s = g.C.Core.cells c.args.core.now in
      let r = record c.args.registers.now { a = c.args.a; b = c.args.b } in
      let counts = c.in-Some.counts in
      let room = c.in-Some.ensures.room in
      let known = c.in-Some.ensures.known in
      let a_few : counts.a ≤ 16 = omega (arith, known.cut, room.2) in
      let small = none_over 10 c.parts-parts.result (sym c.is_over.ensures ∙ c.if-is_over.false) in
      let a_number = field_number s r.a counts.a c.near_codes.result c.parts-parts.result room.0 known.a_in a_few c.near_codes.ensures.codes c.parts-parts.ensures small in
      let a_value = field_value s r.a counts.a c.near_codes.result c.parts-parts.result room.0 known.a_in a_few c.near_codes.ensures.codes c.parts-parts.ensures small in
      let a_long = parts_long s r.a counts.a c.near_codes.result c.parts-parts.result room.0 known.a_in a_few c.near_codes.ensures.codes c.parts-parts.ensures in
      replaced_is c.args.reversed s r counts c.in-Some.ensures.counts known room.1 room.2 c.in-Some.ensures.apart a_number
      c.is_minus.result c.is_minus.ensures c.near_codes-2.result c.signed-signed.result c.digits.result c.near_codes-2.ensures.codes
      (ap length c.digits.ensures ∙ length-map c.parts-parts.result digit_of_part ∙ a_long) (rw c.digits.ensures (parts_digits c.parts-parts.result small))
      (g.C.Core.cells c.put_near_codes.new.self) c.pass.new.self c.pass.ensures
      (c.put_near_codes.ensures ∙ ap (put_codes s (r.b - 15)) c.write_digits.ensures.codes)
      c.signed-signed.ensures.codes (ap number c.digits.ensures ∙ a_value),
  λ no. absurd (cc),
)
