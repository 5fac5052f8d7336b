-- A store keeps each table in order.
use Rattle.std.proofs.Common.{◌≡◌, inl, inr, Bool, false, true, refl, subst, sym, ◌∙◌, true≢false}
use Rattle.sqlite.specs.View.{IsShaped}
use Rattle.sqlite_catalog.proofs.LayoutLemmas.{objects_rise, table_shape}
use Rattle.sqlite_catalog.specs.Listing.{IsSound}
use Rattle.sqlite_rules.specs.Lists.{Has}
use Rattle.sqlite_schema.specs.declared.schema.Table.{Table as Listed}
use Rattle.sqlite_trees.specs.Objects.{catalog_tree, IsListed}
use Rattle.sqlite_trees.specs.View.{View, IsOrdered}
use Rattle.sqlite_trees.specs.declared.store.Shape.TheVariants.{Table}
use Rattle.ledger_tables.specs.Schema.{bureau_schema}
use Rattle.job_checks.specs.Tables.{AreInOrder}

module _ (v : View) (listed : IsListed (v.trees catalog_tree) v.shape v.reals) (ordered : IsOrdered v.shape v.trees) (sound : IsSound bureau_schema v.trees) where
  in_order : (t : Listed) → Has bureau_schema.tables t → IsShaped Table (v.trees t.tree)
  in_order t has = subst (λ s. IsShaped s (v.trees t.tree)) (table_shape listed (objects_rise v listed ordered).0 sound.lists.listed t has).0 (ordered t.tree)

  pub are_in_order : AreInOrder v.trees
  are_in_order = record {
    jobs = in_order _ (inr (inl refl));
    stretches = in_order _ (inr (inr (inl refl)));
    cards = in_order _ (inr (inr (inr (inl refl))));
    lines = in_order _ (inr (inr (inr (inr (inl refl)))));
    states = in_order _ (inr (inr (inr (inr (inr (inl refl))))));
    pages = in_order _ (inr (inr (inr (inr (inr (inr (inl refl)))))));
    profiles = in_order _ (inr (inr (inr (inr (inr (inr (inr (inl refl))))))));
    pockets = in_order _ (inr (inr (inr (inr (inr (inr (inr (inr (inl refl)))))))));
  }

-- a store that is not broken is open
pub open_of : (open_now broken : Bool) → (open_now ≡ false → broken ≡ true) → broken ≡ false → open_now ≡ true
open_of true broken law whole = refl
open_of false broken law whole = absurd (true≢false (sym (law refl) ∙ whole))
