use Rattle.std.proofs.Common.{arith, refl, rules, subst, Ok}
use Rattle.runs.specs.Reader.{read_from}
use Rattle.runs.specs.Taking.{ReadsPiece}
use Rattle.runs.specs.declared.script_pieces.Piece.{Piece}
use Rattle.shell.specs.Lines.{lines_ahead}
use Rattle.shell.proofs.ShellLines.{byte_read, end_read, kept_length, newline_read, one_byte}
use Rattle.shell.proofs.typed_lines.read_line.Goals as goal

pub returns-then-byte-eq10-clause-read : goal.returns-then-byte-eq10-clause-read
returns-then-byte-eq10-clause-read g c =
    let rest = g.R.RawReader.rest in
    newline_read (lines_ahead c.args.line.now.items (rest (read_from c.args.reader.now))) c.loop-line.line.items
    (rest (read_from c.loop-line.reader))
    (rest (read_from c.read_piece.new.self))
    (one_byte (rest (read_from c.loop-line.reader)) (rest (read_from c.read_piece.new.self)) c.read_piece.new.piece
    c.in_ok-read_piece.field-0 10 _
    c.in_ok-read_piece.ensures.bytes (search rules) c.in_ok-read_piece.ensures.size c.if-byte-eq10.true)
    c.loop-line.invariant.same

pub loop-line-preserved-in-1-1 : goal.loop-line-preserved-in-1-1
loop-line-preserved-in-1-1 g c =
    let rest = g.R.RawReader.rest in
    record {
      same = byte_read (lines_ahead c.args.line.now.items (rest (read_from c.args.reader.now))) c.loop-line.line.items
          (rest (read_from c.loop-line.reader))
          (rest (read_from c.read_piece.new.self)) _ c.keep.new.line.items c.if-byte-eq10.false c.keep.ensures
          (one_byte (rest (read_from c.loop-line.reader)) (rest (read_from c.read_piece.new.self)) c.read_piece.new.piece
          c.in_ok-read_piece.field-0 _ _
          c.in_ok-read_piece.ensures.bytes (search rules) c.in_ok-read_piece.ensures.size refl)
          c.loop-line.invariant.same;
      none_failed = search rules;
      fewer = omega (
        arith,
        c.loop-line.invariant.fewer,
        c.in_ok-read_piece.ensures.fewer,
        kept_length c.loop-line.line.items c.keep.new.line.items _ c.keep.ensures,
      );
    }

pub returns-in-End-clause-read : goal.returns-in-End-clause-read
returns-in-End-clause-read g c =
    let rest = g.R.RawReader.rest in
    end_read (lines_ahead c.args.line.now.items (rest (read_from c.args.reader.now))) c.loop-line.line.items
    (rest (read_from c.loop-line.reader))
    (rest (read_from c.read_piece.new.self))
    (subst (λ (p : Piece). ReadsPiece (rest (read_from c.loop-line.reader)) (rest (read_from c.read_piece.new.self)) c.read_piece.new.piece
    (Ok p))
    c.in-End.is c.in_ok-read_piece.ensures.bytes) c.loop-line.invariant.same
