-- All rows of a database, in the order in which they are read.
use Rattle.std.proofs.Common.{◌≡◌, List, [], ◌∷◌, map, Bool, true, false, cond, Less, Equal, Greater, refl, sym, ap, ◌∙◌, true≢false}
use Rattle.std.specs.List.Sorted.{IsPermutation}
use Rattle.std.specs.Cmp.{IsTotalOrder}
use Rattle.std.specs.Ordering.{is_gt, ordering_reverse}
use Rattle.std.specs.declared.cmp.Ordering.{Ordering}
use Rattle.std.proofs.lemmas.Cmp.{on_total, upto}
use Rattle.sqlite.specs.Order.{Row, column, value_cmp}
use Rattle.sqlite.specs.Tree.{Trees, IsAscending}
use Rattle.sqlite_value.proofs.OrderLemmas.{value_cmp_total}
use Rattle.bcd.specs.Orders.{in_order, put_among}
use Rattle.bcd.proofs.Orders.{all_put, all_weaker, in_order_has}
use Rattle.ledger_tables.specs.Tables.{cells}
use Rattle.job_checks.specs.Tables.{version_columns, AreRowsOf, RiseByPlace, WholeTables}

-- two rows compared by their third columns
abbrev by_place : Row → Row → Ordering
by_place a b = value_cmp (column a 2) (column b 2)

place_total : IsTotalOrder by_place
place_total = on_total (λ (r : Row). column r 2) value_cmp_total

-- the first does not come after the second
abbrev AtMost : Row → Row → Type 0
AtMost a b = is_gt (by_place a b) ≡ false

turned : (o : Ordering) → is_gt o ≡ true → is_gt (ordering_reverse o) ≡ false
turned Less is = absurd (true≢false (sym is))
turned Equal is = absurd (true≢false (sym is))
turned Greater is = refl

put_rises : (new : Row) (xs : List Row) → IsAscending AtMost xs → IsAscending AtMost (put_among by_place new xs)
put_rises new [] up = (tt, tt)
put_rises new (x ∷ xs) up = go (is_gt (by_place new x)) refl (put_rises new xs up.1)
  where
    go : (b : Bool) → is_gt (by_place new x) ≡ b → IsAscending AtMost (put_among by_place new xs) → IsAscending AtMost (cond b (x ∷ put_among by_place new xs) (new ∷ x ∷ xs))
    go true past more = (all_put by_place (AtMost x) new xs (ap is_gt (place_total.antisymm x new) ∙ turned (by_place new x) past) up.0, more)
    go false low more = ((low, all_weaker (AtMost x) (AtMost new) (λ y least. upto place_total new x y low least) xs up.0), up)

order_rises : (xs : List Row) → IsAscending AtMost (in_order by_place xs)
order_rises [] = tt
order_rises (x ∷ xs) = put_rises x (in_order by_place xs) (order_rises xs)

rise_by_place : (xs : List Row) → IsAscending AtMost xs → RiseByPlace xs
rise_by_place [] up = tt
rise_by_place (x ∷ xs) up = (all_weaker (AtMost x) (λ y. ¬ (by_place x y ≡ Greater)) (λ y low is. absurd (true≢false (sym (ap is_gt is) ∙ low))) xs up.0, rise_by_place xs up.1)

-- all rows of a database, with these of `bureau`
abbrev pub whole : Trees → List Row → WholeTables
whole db version = record {
  version = version;
  jobs = cells (db 1);
  rows = record {
    stretches = cells (db 3);
    states = cells (db 11);
    pages = in_order by_place (cells (db 13));
    cards = cells (db 7);
    lines = cells (db 9);
    profiles = cells (db 15);
    pockets = in_order by_place (cells (db 17));
  };
}

pub whole_has : (db : Trees) (version : List Row) → IsPermutation (map version_columns (db 0)) version → AreRowsOf db (whole db version)
whole_has db version read = record {
  version = read;
  jobs = refl;
  stretches = refl;
  cards = refl;
  lines = refl;
  states = refl;
  pages = in_order_has by_place (cells (db 13));
  pages_rise = rise_by_place _ (order_rises (cells (db 13)));
  profiles = refl;
  pockets = in_order_has by_place (cells (db 17));
  pockets_rise = rise_by_place _ (order_rises (cells (db 17)));
}
