use Rattle.std.proofs.Common.{◌≡◌, ◌∙◌, ◌++◌, Some, option_copied, take, ap, sym, subst}
use Rattle.std.specs.Str.{IsTrimAsciiEnd}
use Rattle.autocoder.specs.Listing.{glyphs_of}
use Rattle.autocoder_statements.specs.Statements.{operand_field}
use Rattle.job_pages.specs.Headings.{job_card}
use Rattle.job_pages.proofs.headings.heading_of.Goals as goal

pub returns : goal.returns
returns c =
    let card = c.in-Some.card.now in
    let line = c.push_glyphs.new.line.items in
    let trim = c.trim_ascii_end-length.ensures.value in
    let found : job_card c.args.source.now ≡ Some card = sym c.job_card.ensures ∙ ap option_copied c.in-Some.is in
    let text : line ≡ glyphs_of (operand_field card) =
    c.in_ok-push_glyphs.ensures ∙ ap (λ before. before ++ glyphs_of c.operand_field.result.now) c.new-text.ensures.items ∙ ap glyphs_of c.operand_field.ensures.field in
    let cut : c.truncate.new.self.items ≡ c.trim_ascii_end-length.result.now =
    c.truncate.ensures.items ∙ ap (λ count. take count line) trim.2 ∙ ap (take trim.0) (sym c.deref.ensures.value) ∙ sym trim.1 in
    (card, found, subst (λ whole. IsTrimAsciiEnd whole c.truncate.new.self.items) (c.deref.ensures.value ∙ text) (subst (IsTrimAsciiEnd c.deref.result.now) (sym cut) trim))
