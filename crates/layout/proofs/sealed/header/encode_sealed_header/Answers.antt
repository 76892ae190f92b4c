use Rattle.layout.specs.sealed.Header.{sealed_header_bytes}
use Rattle.layout.proofs.sealed.header.encode_sealed_header.Goals as goal

pub returns : goal.returns
unfolding sealed_header_bytes
returns c = c.encode_sector.ensures
