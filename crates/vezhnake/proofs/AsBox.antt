-- The parts of a session's pointer own what a box of the same types owns.
use mir.Syntax.{impl, tnil, dnil}
use mathlib.Core.List.{[]}
use denote.Signature.{Slot, plain}
use Rattle.vezhnake.proofs.Names.{Bx, ghosts, dict}
use Rattle.std_heap.specs.contracts.Global as Heap
use Rattle.std_heap.proofs.Global.TheLaws as heap
use Rattle.vezhnake.specs.contracts.session.Session as Session
use Rattle.vezhnake.proofs.session.Session.TheLaws as session
use Rattle.vezhnake.specs.contracts.pointer.box_parts.BoxParts as BoxParts
use Rattle.vezhnake.specs.contracts.pointer.SessionPointer as SessionPointer

abbrev pub E : Bx
E = record {
  row = Session.the_row;
  laws = session.the_row_laws;
  al = record
      { row = Heap.the_row; laws = heap.the_row_laws; g = ghosts; d = dict; drops = impl [] tnil dnil };
}

abbrev pub FromParts : Slot 0
FromParts = plain (λ _. BoxParts.the_row Session.the_row Heap.the_row ghosts)

abbrev pub FromPointer : Slot 0
FromPointer = plain (λ _. SessionPointer.the_row)
