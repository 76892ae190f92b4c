use Rattle.layout.proofs.Headers.{one_header}
use Rattle.layout.proofs.Directories.{one_directory, directory_fits}
use Rattle.layout.proofs.Images.{one_frame}
use Rattle.layout.proofs.laws.spell_one_value.Goals as goal

pub returns-clause-header : goal.returns-clause-header
returns-clause-header c = one_header

pub returns-clause-directory : goal.returns-clause-directory
returns-clause-directory c = λ g ds es fd fe e. one_directory ds es (directory_fits g ds fd) (directory_fits g es fe) e

pub returns-clause-frame : goal.returns-clause-frame
returns-clause-frame c = one_frame
