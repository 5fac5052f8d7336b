use Rattle.std.proofs.lemmas.List.Elements.{All-push}
use Rattle.card_forms.proofs.ImageColumns.{card_shorter, cards_more}
use Rattle.card_forms.specs.ImageFiles.{IsImageIn}
use Rattle.card_forms.proofs.image_reading.read_lines.Goals as goal

pub loop-rest-smaller : goal.loop-rest-smaller
loop-rest-smaller c =
    card_shorter c.args.form c.loop-rest.rest.now c.in-Ok.found.1.now c.in-Ok.found.0 c.in-Ok.ensures.image.0 c.in-Ok.ensures.image.1

pub loop-rest-preserved : goal.loop-rest-preserved
loop-rest-preserved c =
    let loop = c.loop-rest.invariant in
    let image = c.in-Ok.ensures.image in
    record {
      each = rw c.in-Ok-push.ensures.items (All-push (IsImageIn c.args.form) c.loop-rest.images.items c.in-Ok.found.0 loop.each image.0);
      before = rw c.in-Ok-push.ensures.items (cards_more c.args.form c.args.bytes.now c.loop-rest.rest.now c.in-Ok.found.1.now c.loop-rest.images.items c.in-Ok.found.0 loop.before image.1);
    }
