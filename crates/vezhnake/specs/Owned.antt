-- What a pointer to a session owns: what a `Box<Session>` owns, or nothing if it is null.
use Rattle.vezhnake.specs.Names.{Option, Some, None, Coded, coded_option, box_owns, Global, ghosts}
use base.Fml.{Fml, ftrue}
use denote.RawPtr.{Ptr}
use Rattle.vezhnake.specs.contracts.session.Session.{the_row}

abbrev pub pointer_owns : Global → Ptr → Option the_row.Denot → Fml
pointer_owns alloc ptr None = ftrue
pointer_owns alloc ptr (Some session) = box_owns (ghosts.dealloc_token alloc) the_row ptr session

abbrev pub session_coded : Coded (Option the_row.Denot)
session_coded = coded_option the_row.coded
