use Rattle.std.proofs.Common.{List, ℕ, false, subst, sym}
use Rattle.std.specs.Io.KnownBytes.{Appends}
use Rattle.console.specs.Talks.{IsRead, PutsSo}
use Rattle.console.proofs.TalkLemmas.{talk_asked, talk_unwritten, talking_none, talking_on}
use Rattle.console.proofs.talking.console.Goals as goal

pub loop-init : goal.loop-init
loop-init g c = talking_none _ _ _ c.requires

pub loop-preserved : goal.loop-preserved
loop-preserved g c =
    let left = g.R.Read.remaining c.loop.reader in
    let rest = g.R.Read.remaining c.next_line.new.reader in
    let found = rw c.in-Ok-Some.field-0-is at c.in-Ok-Some.ensures.line in
    let read = subst (λ (line : List ℕ). IsRead left line rest) (sym c.deref.ensures.value) found in
    let put = subst (Appends (g.W.Write.contents c.loop.writer) (g.W.Write.contents c.put.new.writer)) c.deref-in-loop.ensures.value c.if-not-put.ensures in
    talking_on c.loop.invariant c.deref.result.now c.answer_line.new.session rest _ c.in-Ok.given.text.items c.in-Ok.given.ends read c.in-Ok.ensures.answer c.if-given.false put c.in-Ok.ensures.come

pub returns-then-not-put : goal.returns-then-not-put
returns-then-not-put g c =
    let left = g.R.Read.remaining c.loop.reader in
    let rest = g.R.Read.remaining c.next_line.new.reader in
    let found = rw c.in-Ok-Some.field-0-is at c.in-Ok-Some.ensures.line in
    let read = subst (λ (line : List ℕ). IsRead left line rest) (sym c.deref.ensures.value) found in
    let put = subst (λ (bytes : List ℕ). PutsSo bytes (g.W.Write.contents c.loop.writer) (g.W.Write.contents c.put.new.writer) false) c.deref-in-loop.ensures.value c.if-not-put.ensures in
    talk_unwritten c.loop.invariant c.deref.result.now c.answer_line.new.session rest _ c.in-Ok.given.text.items c.in-Ok.given.ends read c.in-Ok.ensures.answer put

pub returns-then-given : goal.returns-then-given
returns-then-given g c =
    let left = g.R.Read.remaining c.loop.reader in
    let rest = g.R.Read.remaining c.next_line.new.reader in
    let found = rw c.in-Ok-Some.field-0-is at c.in-Ok-Some.ensures.line in
    let read = subst (λ (line : List ℕ). IsRead left line rest) (sym c.deref.ensures.value) found in
    let put = subst (Appends (g.W.Write.contents c.loop.writer) (g.W.Write.contents c.put.new.writer)) c.deref-in-loop.ensures.value c.if-not-put.ensures in
    talk_asked c.loop.invariant c.deref.result.now c.answer_line.new.session rest _ c.in-Ok.given.text.items c.in-Ok.given.ends read c.in-Ok.ensures.answer c.if-given.true put
