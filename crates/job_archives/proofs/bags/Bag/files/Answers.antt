use Rattle.std.proofs.Common.{◌∙◌, List, [], ◌∷◌, ap, refl}
use Rattle.job_archives.specs.Archives.{File, payload_of}
use Rattle.job_archives.proofs.BagLemmas.{six_before}
use Rattle.job_archives.proofs.bags.Bag.files.Goals as goal

pub returns : goal.returns
returns c =
    ap (λ (files : List File). (c.file.result.path.now, c.file.result.bytes.now) ∷ (c.file-2.result.path.now, c.file-2.result.bytes.now) ∷ files)
    (six_before c.payload.result _ (payload_of c.self.inside.payload) ((c.file-3.result.path.now, c.file-3.result.bytes.now) ∷ (c.file-4.result.path.now, c.file-4.result.bytes.now) ∷ []) c.payload.ensures refl)
    ∙ rw (← c.self.view_is, c.file.ensures.path, c.file.ensures.bytes, c.file-2.ensures.path, c.file-2.ensures.bytes, c.file-3.ensures.path, c.file-3.ensures.bytes, c.file-4.ensures.path, c.file-4.ensures.bytes, c.deref.ensures.value, c.deref-2.ensures.value, c.deref-3.ensures.value, c.declaration.ensures) refl
