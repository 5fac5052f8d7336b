use Rattle.std.proofs.Common.{◌≡◌, ◌∙◌, List, ℕ, Bor, true, ap, subst, sym, arith}
use Rattle.http_messages.specs.Paths.{is_free, path_of, with_path}
use Rattle.http_messages.specs.declared.routes.Path.{Path}
use Rattle.http_messages.proofs.PathLemmas.{all_rows, next_free, next_rows, same_path}
use Rattle.http_messages.proofs.paths.router_of.Goals as goal

pub add-requires : goal.add-requires
add-requires c =
    subst (λ (entry : Bor (List ℕ) × Path). is_free c.loop-entry.router entry.0.now ≡ true) (sym c.entry-item.is)
    (next_free c.args.table.now c.requires c.loop-entry.entry-index c.loop-entry-test.true c.entry-item.result c.loop-entry.router c.loop-entry.invariant)

pub loop-entry-preserved : goal.loop-entry-preserved
loop-entry-preserved c =
    let copied = same_path _ _ c.in_ok-clone.ensures.cases.0 c.in_ok-clone.ensures.cases.1 in
    next_rows c.args.table.now c.requires c.loop-entry.entry-index c.loop-entry-test.true c.entry-item.result c.loop-entry.router c.add.new.router c.loop-entry.invariant
    (c.in_ok-add.ensures
    ∙ ap (λ (path : Path). with_path c.loop-entry.router (c.entry-item.result.0.now, path)) copied
    ∙ ap (λ (entry : Bor (List ℕ) × Path). with_path c.loop-entry.router (path_of entry)) c.entry-item.is)

pub returns : goal.returns
returns c = all_rows c.args.table.now c.requires c.loop-entry.entry-index (omega (arith, c.loop-entry-test.false)) c.loop-entry.router c.loop-entry.invariant
