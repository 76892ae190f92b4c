-- What a handle owns.
use Rattle.std.specs.Prelude.{Option}
use Rattle.vezhnake.specs.declared.handle.Handle.{Handle}
use Rattle.vezhnake.specs.declared.session.Session.{Session}

-- the session of an open handle
abbrev pub session_of : Handle → Option Session
session_of h = h.pointer.session
