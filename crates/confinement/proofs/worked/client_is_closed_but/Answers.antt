use Rattle.confinement.proofs.TrustedWorld.{client_closed}
use Rattle.confinement.proofs.worked.client_is_closed_but.Goals as goal

pub returns : goal.returns
returns c = client_closed
