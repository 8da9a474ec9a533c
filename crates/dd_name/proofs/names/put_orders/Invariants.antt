use Rattle.std.proofs.Common.{◌≡◌, ◌++◌, take}
use Rattle.dd_name.specs.Name.{orders_text}
use Rattle.dd_name.proofs.names.put_orders.Given as goal

abbrev pub invariant-loop-order : goal.invariant-loop-order
invariant-loop-order l = l.out.items ≡ l.initial.out.items ++ orders_text (take l.order-index l.orders)
