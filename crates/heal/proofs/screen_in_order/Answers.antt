use Rattle.heal.proofs.Order.{in_order}
use Rattle.heal.proofs.screen_in_order.Goals as goal

pub returns : goal.returns
returns c = in_order
