use Rattle.layout.proofs.SealedSpelling.{one_directory_sector, one_header, one_page_header}
use Rattle.layout.proofs.SealedZeros.{zeros_free}
use Rattle.layout.proofs.sealed.laws.spell_one_sealed_value.Goals as goal

pub returns-clause-header : goal.returns-clause-header
returns-clause-header c = one_header

pub returns-clause-page : goal.returns-clause-page
returns-clause-page c = one_page_header

pub returns-clause-directory : goal.returns-clause-directory
returns-clause-directory c = one_directory_sector

pub returns-clause-zeros : goal.returns-clause-zeros
returns-clause-zeros c = zeros_free
