use Rattle.vezhnake.proofs.Names.{Some, subst, IsCapacity}
use Rattle.vezhnake.proofs.Opening.{opened_bounded, opened_plain}
use Rattle.vezhnake.proofs.host_kernel.HostKernel.open.Goals as goal

pub returns-in-Ok-open_kernel : goal.returns-in-Ok-open_kernel
returns-in-Ok-open_kernel c =
    let fits : IsCapacity c.args.cache (Some c.in-Some.capacity) = subst (IsCapacity c.args.cache) c.in-Some.is c.in-Ok.ensures.ok in
    opened_bounded c.args.image.now c.args.cache c.in-Ok-device_over.device c.in-Ok-device_over.ensures c.in-Ok-open_kernel.kernel
    c.in-Some.capacity
    fits.0 fits.1 fits.2 c.in-Ok-open_kernel.ensures.set c.in-Ok-open_kernel.ensures.opened

pub returns-in-Ok-open_kernel-2 : goal.returns-in-Ok-open_kernel-2
returns-in-Ok-open_kernel-2 c =
    opened_plain c.args.image.now c.args.cache c.in-Ok-device_over.device c.in-Ok-device_over.ensures c.in-Ok-open_kernel-2.kernel
    (subst (IsCapacity c.args.cache) c.in-None.is c.in-Ok.ensures.ok) c.in-Ok-open_kernel-2.ensures.opened
