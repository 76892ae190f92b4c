use Rattle.std.proofs.Common.{List, subst}
use Rattle.header_slots.specs.Committed.{slots_of}
use Rattle.header_slots.specs.declared.deciding.SlotNumbers.{SlotNumbers}
use Rattle.ckpt_log.specs.sealed.Closing.{IsOrder}
use Rattle.ckpt_log.proofs.SealedReading.{order_read}
use Rattle.ckpt_log.proofs.sealed.closing.read_order.Goals as goal

pub returns-clause-order : goal.returns-clause-order
returns-clause-order g c =
    order_read (g.D.Device.disk c.args.device.now).seen c.in_ok-slots.slots c.order_of.result c.in_ok-slots.ensures.found
    (subst (λ (xs : List SlotNumbers). IsOrder (slots_of xs) c.order_of.result) c.numbers_of.ensures c.order_of.ensures)
