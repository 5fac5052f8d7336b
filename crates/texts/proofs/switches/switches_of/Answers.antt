use Rattle.std.proofs.Common.{◌≡◌, ◌∙◌, ◌<◌, Some, ap, sym, subst, arith}
use Rattle.texts.specs.Switches.{risen, text_of_bits}
use Rattle.texts.proofs.SwitchLetters.{read_text, text_read}
use Rattle.texts.proofs.switches.switches_of.Goals as goal

pub returns-in_default-clause-none : goal.returns-in_default-clause-none
returns-in_default-clause-none c switches are =
    let read = text_read c.args.text.now switches.0 (sym c.if-eq.ensures) are.0 are.1 in
    c.in_default.not-Some switches.0 (c.bits_of.ensures ∙ (ap (risen 0) c.as_bytes.ensures.value ∙ read.1))

pub returns-then-bits-eq0-clause-none : goal.returns-then-bits-eq0-clause-none
returns-then-bits-eq0-clause-none c switches are =
    let read = text_read c.args.text.now switches.0 (sym c.if-eq.ensures) are.0 are.1 in
    let some : Some c.in-Some.bits ≡ Some switches.0 = sym c.in-Some.is ∙ (c.bits_of.ensures ∙ (ap (risen 0) c.as_bytes.ensures.value ∙ read.1)) in
    let same : c.in-Some.bits ≡ switches.0 = cc in omega (arith, read.0, c.if-bits-eq0.true)

pub returns-clause-some : goal.returns-clause-some
returns-clause-some c =
    let read : risen 0 c.args.text.now ≡ Some c.in-Some.bits
    = ap (risen 0) (sym c.as_bytes.ensures.value) ∙ (sym c.bits_of.ensures ∙ c.in-Some.is) in
    subst (λ n. (n < 128) × (c.args.text.now ≡ text_of_bits n)) (sym (c.from_bits_retain.ensures tt)) (read_text c.args.text.now c.in-Some.bits read (omega arith))
