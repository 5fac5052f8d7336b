use Rattle.autocoder_layout.specs.Layout.{layout_of}
use Rattle.autocoder_layout.proofs.LayoutLemmas.{there_is_one, no_other}
use Rattle.autocoder_layout.proofs.laws.layout_is_unique.Goals as goal

pub returns-clause-one : goal.returns-clause-one
returns-clause-one c = λ size lines. there_is_one size lines

pub returns-clause-no_other : goal.returns-clause-no_other
returns-clause-no_other c = λ size lines layout is_layout. no_other size lines layout (layout_of size lines) is_layout (there_is_one size lines)
