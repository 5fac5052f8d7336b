-- for `listing_in` of `listings`: the whole listing of a source
use Rattle.std.proofs.Common.{◌≡◌, ℕ, List, [], ◌++◌, length, None, sym, ◌∙◌, ap, subst, false}
use Rattle.std.specs.List.{All}
use Rattle.cards.specs.declared.decks.Card.{Card}
use Rattle.core_store.specs.Storage.{positions_of}
use Rattle.autocoder_layout.specs.Source.{Line, source_of, lines_of, has_end}
use Rattle.autocoder_layout.specs.Layout.{Layout, layout_of, layout_in}
use Rattle.autocoder_layout.proofs.SourceLemmas.{length-lines_of}
use Rattle.autocoder.specs.Assembly.{Assembly}
use Rattle.autocoder.specs.Programs.{size_for, layout_for, IsProgramOf, IsFaultless}
use Rattle.autocoder_listings.specs.Names.{table_of_names, users_on_line}
use Rattle.autocoder_listings.specs.Listing.{cards_in, listing_in}
use Rattle.autocoder_listings.specs.declared.widths.Width.{Width}
use Rattle.autocoder_layout.proofs.FaultLemmas.{no_faults_of}

module _ (deck : List Card) (program : Assembly) (is_program : IsProgramOf (source_of deck) program)
    (layout : Layout) (size_is : layout.source.size ≡ program.size) (lines_are : layout.source.lines ≡ program.lines) where
  lines_is : layout.source.lines ≡ lines_of false (source_of deck)
  lines_is = lines_are ∙ is_program.lines

  layout_is : layout_in layout.source ≡ layout_for (source_of deck)
  layout_is = ap (λ s. layout_of (positions_of s) layout.source.lines) (size_is ∙ is_program.size) ∙ ap (layout_of (size_for (source_of deck))) lines_is

  pub one_each : (source : List Card) → source ≡ source_of deck → length source ≡ length layout.source.lines
  one_each source e = ap length e ∙ sym (length-lines_of false (source_of deck)) ∙ ap (λ (l : List Line). length l) (sym lines_is)

  pub no_faults : IsFaultless (source_of deck) → All (λ laid. laid.fault ≡ None) (layout_in layout.source)
  no_faults faultless = subst (λ l. All (λ laid. laid.fault ≡ None) l) (sym layout_is) (no_faults_of (has_end (source_of deck)) (layout_for (source_of deck)) faultless)

  pub listing_is : (width : Width) (source : List Card) (old cards whole : List ℕ) → source ≡ source_of deck → layout.slots ≡ program.slots → old ≡ [] → cards ≡ old ++ cards_in width 1 source (layout_in layout.source) →
      whole ≡ cards ++ table_of_names (users_on_line width) layout.source.lines layout.slots → whole ≡ listing_in width (source_of deck)
  unfolding listing_in
  listing_is width source old cards whole e slots_are o c w =
      w
      ∙ ap (λ x. x ++ table_of_names (users_on_line width) layout.source.lines layout.slots) (c ∙ ap (λ x. x ++ cards_in width 1 source (layout_in layout.source)) o ∙ ap (cards_in width 1 source) layout_is ∙ ap (λ x. cards_in width 1 x (layout_for (source_of deck))) e)
      ∙ ap (λ l. cards_in width 1 (source_of deck) (layout_for (source_of deck)) ++ table_of_names (users_on_line width) l layout.slots) lines_is
      ∙ ap (λ s. cards_in width 1 (source_of deck) (layout_for (source_of deck)) ++ table_of_names (users_on_line width) (lines_of false (source_of deck)) s) (slots_are ∙ is_program.slots)
