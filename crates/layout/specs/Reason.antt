-- The numbers of the reasons to refuse an image.
use Rattle.layout.specs.Names.{ℕ}
use Rattle.layout.specs.declared.bad_image.BadImage.{BadImage}
use Rattle.layout.specs.declared.bad_image.BadImage.TheVariants as bad

-- the number of a reason; if several hold, the least is given
abbrev pub reason_number : BadImage → ℕ
reason_number bad.Small = 1
reason_number bad.NotASuperblock = 2
reason_number bad.BadGeometry = 3
reason_number bad.NoHeader = 4
reason_number bad.BadHeader = 5
reason_number bad.BadDirectory = 6
reason_number bad.BadFrame = 7
reason_number bad.BadCapability = 8
reason_number bad.BadProcess = 9
reason_number bad.BadBank = 10
