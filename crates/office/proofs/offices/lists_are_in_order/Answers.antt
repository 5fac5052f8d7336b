use Rattle.office.specs.Office.{own, free_jobs, by_number, by_name}
use Rattle.bcd.proofs.Orders.{in_order_has}
use Rattle.office.proofs.OfficeOrder.{own_rise, free_rise}
use Rattle.office.proofs.offices.lists_are_in_order.Goals as goal

pub returns : goal.returns
returns c = record {
  own = λ customer office. in_order_has by_number (own customer office);
  own_rise = own_rise;
  free = λ office. in_order_has by_name (free_jobs office);
  free_rise = free_rise;
}
