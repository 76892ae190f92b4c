-- Whether a kernel is up.
use Rattle.kernel.specs.Names.{Option, None, Some, Live}

-- a kernel is up with a store, or down with its device; inside a command it may have neither
pub data Power (D S : Type 0) : Type 0 where
  Up : Live S → Power D S
  Down : D → Power D S
  Between : Power D S

-- whether a kernel is up, from its two fields
abbrev pub power_of : {D S : Type 0} → Option (Live S) → Option D → Power D S
power_of (Some l) d = Up l
power_of None (Some d) = Down d
power_of None None = Between
