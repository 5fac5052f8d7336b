use Rattle.std.proofs.Common.{sym, ap, subst, ◌∙◌, arith}
use Rattle.core_store.specs.Storage.{blank_storage}
use Rattle.autocoder_layout.specs.Source.{source_of}
use Rattle.autocoder.specs.Programs.{image_for}
use Rattle.loader.specs.Loading.{filled_with}
use Rattle.disassembly.specs.Sources.{HaveSameCode}
use Rattle.disassembly.proofs.laws.code_loads.Goals as goal

pub returns-clause-storage : goal.returns-clause-storage
returns-clause-storage c = λ s source data_cards size switches profile code e.
    let loads = c.faultless_sources_load.ensures.loads source data_cards size switches profile code.faultless (omega (arith, e)) in
    let same = ap (λ m. m.works.storage) loads ∙ ap (λ n. filled_with (blank_storage n) (image_for source)) (sym e) in
    subst (HaveSameCode s) (sym same) code.image.same

pub returns-clause-start : goal.returns-clause-start
returns-clause-start c = λ s start data_cards deck size switches profile whole e.
    ap (λ m. m.works.registers.i) (c.faultless_sources_load.ensures.loads (source_of deck) data_cards size switches profile whole.code.faultless (omega (arith, e))) ∙ whole.start_is
