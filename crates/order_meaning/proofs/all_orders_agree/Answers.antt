use Rattle.order_meaning.proofs.AllOrders.{all_orders}
use Rattle.order_meaning.proofs.all_orders_agree.Goals as goal

pub returns : goal.returns
returns c = all_orders
