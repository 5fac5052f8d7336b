use Rattle.std.proofs.Common.{◌∙◌, ◌++◌, ap}
use Rattle.pictures.proofs.CountedPieces.{onto}
use Rattle.films.specs.Pages.{film_part, film_head}
use Rattle.films.proofs.pages.film_page.Goals as goal

pub returns : goal.returns
returns c =
    onto _ _ _ _ (onto _ _ _ _ (onto _ _ _ _ (onto _ _ _ _ (c.in_ok-push_head.ensures ∙ ap (λ out. out ++ film_head c.args.subject.now.title.now) c.new-out.ensures.items) c.in_ok-push_header.ensures) c.in_ok-extend_from_slice.ensures.items) c.in_ok-push_stock_definition.ensures) (c.in_ok-push_film.ensures ∙ ap (λ text. c.push_stock_definition.new.out.items ++ film_part text) c.deref.ensures.value)
