use Rattle.std.proofs.Common.{◌≡◌, ◌∙◌, ◌∷◌, List, [], Err, Ok, Bor, ap, refl, rules, subst, sym, ℕ}
use Rattle.std.proofs.lemmas.Result.{err_from_is_err_and}
use Rattle.shell.specs.Lines.{Takes, ahead_of}
use Rattle.shell.specs.Sessions.{noting, session_at}
use Rattle.shell.specs.declared.help.Topic.{Topic}
use Rattle.shell.proofs.Sessions.{finished, more}
use Rattle.shell.proofs.session.Shell.serve_lines.Goals as goal

pub returns-in_err-line-clause-served : goal.returns-in_err-line-clause-served
returns-in_err-line-clause-served g c =
    let rest = g.R.RawReader.rest in
    let now = ahead_of rest c.loop-line.lines in
    let later = ahead_of rest c.next.new.self in
    let mid = session_at g.V.Output.written c.loop-line.self c.loop-line.kernel (g.W.Output.written c.loop-line.writer) in
    let p = err_from_is_err_and c.from_residual.result c.from_residual.ensures.1 in
    rw (p.1, p.2) (finished g.D.Device.disk g.S.ObjectStore.view g.S.Frames.parts (g.Q.Inspector.inspects c.args.inspector.now)
    c.args.self.now.topics.now c.args.self.now.is_prompting
    c.loop-line.self.topics.now c.loop-line.self.is_prompting
    (ap (λ (t : Bor (List Topic)). t.now) c.loop-line.invariant.topics) c.loop-line.invariant.prompts (ahead_of rest c.args.lines.now) now
    later
    (session_at g.V.Output.written c.args.self.now c.args.kernel.now (g.W.Output.written c.args.writer.now)) mid
    (noting mid (g.V.Output.written c.note.new.notes)) [] (Err c.in_err-line.field-0.0)
    c.loop-line.invariant.so_far c.in_err-line.ensures.part (c.in_err-line.ensures.fault, c.note.ensures, refl))

pub returns-in_err-goes_on-in-Some-clause-served : goal.returns-in_err-goes_on-in-Some-clause-served
returns-in_err-goes_on-in-Some-clause-served g c =
    let rest = g.R.RawReader.rest in
    let now = ahead_of rest c.loop-line.lines in
    let later = ahead_of rest c.next.new.self in
    let mid = session_at g.V.Output.written c.loop-line.self c.loop-line.kernel (g.W.Output.written c.loop-line.writer) in
    let p = err_from_is_err_and c.from_residual-in_err-goes_on-in-Some.result c.from_residual-in_err-goes_on-in-Some.ensures.1 in
    rw (p.1, p.2) (finished g.D.Device.disk g.S.ObjectStore.view g.S.Frames.parts (g.Q.Inspector.inspects c.args.inspector.now)
    c.args.self.now.topics.now c.args.self.now.is_prompting
    c.loop-line.self.topics.now c.loop-line.self.is_prompting
    (ap (λ (t : Bor (List Topic)). t.now) c.loop-line.invariant.topics) c.loop-line.invariant.prompts (ahead_of rest c.args.lines.now) now
    later
    (session_at g.V.Output.written c.args.self.now c.args.kernel.now (g.W.Output.written c.args.writer.now)) mid
    (session_at g.V.Output.written c.serve.new.self c.serve.new.kernel (g.W.Output.written c.serve.new.writer)) (c.as_slice.result.now ∷ [])
    (Err c.in_err-goes_on-in-Some.field-0.0)
    c.loop-line.invariant.so_far
    (subst (λ (l : List ℕ). Takes now later (l ∷ [])) (sym c.as_slice.ensures.value) (rw c.in-Some.is at c.in_ok-line.ensures.taken))
    (g.V.Output.written c.note.new.notes, c.note.ensures, c.in_err-goes_on-in-Some.ensures.served))

pub returns-then-not-goes_on-clause-served : goal.returns-then-not-goes_on-clause-served
returns-then-not-goes_on-clause-served g c =
    let rest = g.R.RawReader.rest in
    let now = ahead_of rest c.loop-line.lines in
    let later = ahead_of rest c.next.new.self in
    let mid = session_at g.V.Output.written c.loop-line.self c.loop-line.kernel (g.W.Output.written c.loop-line.writer) in
    finished g.D.Device.disk g.S.ObjectStore.view g.S.Frames.parts (g.Q.Inspector.inspects c.args.inspector.now)
    c.args.self.now.topics.now c.args.self.now.is_prompting
    c.loop-line.self.topics.now c.loop-line.self.is_prompting
    (ap (λ (t : Bor (List Topic)). t.now) c.loop-line.invariant.topics) c.loop-line.invariant.prompts (ahead_of rest c.args.lines.now) now
    later
    (session_at g.V.Output.written c.args.self.now c.args.kernel.now (g.W.Output.written c.args.writer.now)) mid
    (session_at g.V.Output.written c.serve.new.self c.serve.new.kernel (g.W.Output.written c.serve.new.writer)) (c.as_slice.result.now ∷ [])
    (Ok tt)
    c.loop-line.invariant.so_far
    (subst (λ (l : List ℕ). Takes now later (l ∷ [])) (sym c.as_slice.ensures.value) (rw c.in-Some.is at c.in_ok-line.ensures.taken))
    (g.V.Output.written c.note.new.notes, c.note.ensures, rw c.if-not-goes_on.true at c.in_ok-goes_on-in-Some.ensures.served)

pub loop-line-preserved : goal.loop-line-preserved
loop-line-preserved g c =
    let rest = g.R.RawReader.rest in
    let now = ahead_of rest c.loop-line.lines in
    let later = ahead_of rest c.next.new.self in
    let mid = session_at g.V.Output.written c.loop-line.self c.loop-line.kernel (g.W.Output.written c.loop-line.writer) in
    record {
      so_far = more g.D.Device.disk g.S.ObjectStore.view g.S.Frames.parts (g.Q.Inspector.inspects c.args.inspector.now)
          c.args.self.now.topics.now c.args.self.now.is_prompting
          c.loop-line.self.topics.now c.loop-line.self.is_prompting
          (ap (λ (t : Bor (List Topic)). t.now) c.loop-line.invariant.topics) c.loop-line.invariant.prompts (ahead_of rest c.args.lines.now)
          now later
          (session_at g.V.Output.written c.args.self.now c.args.kernel.now (g.W.Output.written c.args.writer.now)) mid
          (session_at g.V.Output.written c.serve.new.self c.serve.new.kernel (g.W.Output.written c.serve.new.writer)) c.as_slice.result.now
          c.loop-line.invariant.so_far
          (subst (λ (l : List ℕ). Takes now later (l ∷ [])) (sym c.as_slice.ensures.value) (rw c.in-Some.is at c.in_ok-line.ensures.taken))
          (g.V.Output.written c.note.new.notes, c.note.ensures, rw c.if-not-goes_on.false at c.in_ok-goes_on-in-Some.ensures.served);
      topics = c.in_ok-goes_on-in-Some.ensures.topics ∙ c.loop-line.invariant.topics;
      prompts = c.in_ok-goes_on-in-Some.ensures.prompts ∙ c.loop-line.invariant.prompts;
      none_waits = c.in_ok-goes_on-in-Some.ensures.none_waits;
      none_failed = search rules;
    }

pub returns-in-None-clause-served : goal.returns-in-None-clause-served
returns-in-None-clause-served g c =
    let rest = g.R.RawReader.rest in
    let now = ahead_of rest c.loop-line.lines in
    let later = ahead_of rest c.next.new.self in
    let mid = session_at g.V.Output.written c.loop-line.self c.loop-line.kernel (g.W.Output.written c.loop-line.writer) in
    let taken = rw c.in-None.is at c.in_ok-line.ensures.taken in
    finished g.D.Device.disk g.S.ObjectStore.view g.S.Frames.parts (g.Q.Inspector.inspects c.args.inspector.now)
    c.args.self.now.topics.now c.args.self.now.is_prompting
    c.loop-line.self.topics.now c.loop-line.self.is_prompting
    (ap (λ (t : Bor (List Topic)). t.now) c.loop-line.invariant.topics) c.loop-line.invariant.prompts (ahead_of rest c.args.lines.now) now
    later
    (session_at g.V.Output.written c.args.self.now c.args.kernel.now (g.W.Output.written c.args.writer.now)) mid
    (noting mid (g.V.Output.written c.note-in-None.new.notes)) [] (Ok tt)
    c.loop-line.invariant.so_far taken.0
    (taken.1, g.V.Output.written c.note.new.notes, c.note.ensures, c.note-in-None.ensures, refl)
