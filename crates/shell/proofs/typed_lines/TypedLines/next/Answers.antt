use Rattle.std.proofs.Common.{◌≡◌, ◌∙◌, ◌∷◌, List, [], subst, sym, ℕ}
use Rattle.runs.specs.Reader.{read_from}
use Rattle.shell.specs.Lines.{NoneAhead, Takes, ahead_of, lines_ahead}
use Rattle.shell.specs.declared.typed_lines.LineEnd.TheVariants as end
use Rattle.shell.proofs.ShellLines.{is_read, line_taken, none_taken, not_last}
use Rattle.shell.proofs.typed_lines.TypedLines.next.Goals as goal

pub returns-then-is_last-clause-taken : goal.returns-then-is_last-clause-taken
returns-then-is_last-clause-taken g c =
    let rest = g.R.RawReader.rest (read_from c.read_line.new.reader) in
    let old = ahead_of g.R.RawReader.rest c.args.self.now in
    let last = is_read c.is_last.result (c.in_ok-end.end ≡ end.Input) (c.as_slice-line.result.now ≡ []) c.is_last.ensures c.if-is_last.true
    in
    subst (λ (l : List ℕ). Takes old (lines_ahead l rest) [] × NoneAhead (lines_ahead l rest))
    (sym (sym c.as_slice-line.ensures.value ∙ last.1))
    (none_taken old rest c.as_slice-line.result.now c.in_ok-end.end (rw c.as_slice-line.ensures.value c.in_ok-end.ensures.read) last.0
    last.1)

pub returns-clause-taken : goal.returns-clause-taken
returns-clause-taken g c =
    let rest = g.R.RawReader.rest (read_from c.read_line.new.reader) in
    let old = ahead_of g.R.RawReader.rest c.args.self.now in
    subst (λ (l : List ℕ). Takes old (lines_ahead l rest) (c.reading_of-text.result.items ∷ [])) (sym c.clear.ensures)
    (subst (λ (text : List ℕ). Takes old (lines_ahead [] rest) (text ∷ [])) (sym c.reading_of-text.ensures.read)
    (line_taken old rest c.as_slice-line.result.now c.in_ok-end.end (rw c.as_slice-line.ensures.value c.in_ok-end.ensures.read)
    (not_last c.is_last.result (c.in_ok-end.end ≡ end.Input) (c.as_slice-line.result.now ≡ []) c.is_last.ensures c.if-is_last.false)))
