use Rattle.layout.proofs.SealedSpelling.{clusters_show, sectors_show, superblocks_show}
use Rattle.layout.proofs.sealed.laws.damage_is_seen.Goals as goal

pub returns-clause-sector : goal.returns-clause-sector
returns-clause-sector c = sectors_show

pub returns-clause-cluster : goal.returns-clause-cluster
returns-clause-cluster c = clusters_show

pub returns-clause-superblock : goal.returns-clause-superblock
returns-clause-superblock c = superblocks_show
