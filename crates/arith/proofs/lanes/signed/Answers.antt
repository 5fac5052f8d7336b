use Rattle.std.proofs.Common.{◌++◌, ◌<◌, [], ◌∷◌, ◌∙◌, ap, take}
use Rattle.std.proofs.lemmas.List.Elements.{All-same, All-append, All-take, All-cons, All-nil}
use Rattle.arith.proofs.lanes.signed.Goals as goal

pub returns-clause-codes : goal.returns-clause-codes
returns-clause-codes c = c.last_of.ensures ∙ ap (λ bits. take 15 c.args.old ++ bits ∷ []) c.sign_bits.ensures.bits

pub returns-clause-below : goal.returns-clause-below
returns-clause-below c =
    All-same (λ code. code < 64) _ (take 15 c.args.old ++ c.sign_bits.result ∷ []) c.last_of.ensures
    (All-append (λ code. code < 64) (take 15 c.args.old) (c.sign_bits.result ∷ []) (All-take (λ code. code < 64) 15 c.args.old c.requires.codes)
    (All-cons (λ code. code < 64) c.sign_bits.result [] c.sign_bits.ensures.below (All-nil (λ code. code < 64))))
