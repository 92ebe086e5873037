use Rattle.sv_event.proofs.CycleOrders.{tick_order_is_order}
use Rattle.sv_event.proofs.laws.cycle_orders_are_orders.Goals as goal

pub returns : goal.returns
returns c design cycle = tick_order_is_order design cycle
