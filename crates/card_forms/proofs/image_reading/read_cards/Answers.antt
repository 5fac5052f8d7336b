use Rattle.std.proofs.lemmas.Result.{IfOk-weaker}
use Rattle.card_forms.proofs.ImageColumns.{image_in}
use Rattle.card_forms.proofs.ImageLaw.{no_others}
use Rattle.card_forms.proofs.image_reading.read_cards.Goals as goal

pub returns-clause-patterns : goal.returns-clause-patterns
returns-clause-patterns c =
    IfOk-weaker c.read_lines.result _ _ (λ images are. λ k d below. image_in c.args.form _ (are.0 k d below)) c.read_lines.ensures.images

pub returns-clause-only : goal.returns-clause-only
returns-clause-only c =
    no_others c.args.form c.args.bytes.now (λ found. found.items) c.read_lines.result c.read_lines.ensures.images c.read_lines.ensures.fault
