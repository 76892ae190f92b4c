use Rattle.kernel.proofs.Machines.{opened_some}
use Rattle.kernel.proofs.kernel.Kernel.open.Goals as goal

pub invariant_of-result : goal.invariant_of-result
invariant_of-result g c = opened_some _ _ _ c.args.device c.in-Ok.live c.in-Ok.ensures.opened
