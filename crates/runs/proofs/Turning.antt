-- Turns of a kernel, one after another.
use Rattle.runs.proofs.Names.{nat_tests, ℕ, zero, suc, take, drop, length, Bool, true, false, List, [], Option, Ok, Err, refl, sym, ap, subst, ⊎_elim, inl, inr}
use Rattle.runs.proofs.Names.{append_assoc, append-nil, arith, slice_index_or, IsTrue, Contains, Result, Appends-trans, Consumes-trans, Consumes, IsAtEnd}
use Rattle.runs.proofs.Names.{Answer, ReadsPiece, Writes, Written, Wrote, WroteFront, wrote_trans, Command, Geometry, Line, ResultCode, Machine, Saved}
use Rattle.runs.proofs.Names.{candidates, Reply, Nothing, BadLine, Reported, Turn, Replies, lines_of, reply_text, output_of, second, Says, bad_line, Image}
use Rattle.runs.proofs.Names.{Disk, LeavesOnly, leaves_weaker, started, Parts, View, Power, Denotes, DenotesOne, IsCaused, Serves, Stands, disk_of, RunFault}
use Rattle.runs.proofs.Names.{LineBuffer, Holds, IsOneLine, AreFirst, AreLines, AreSeen, AreTurnsOf, BeginsWith, Does, IsCutShort, IsLeftIn, IsRunOf}
use Rattle.runs.proofs.Names.{IsReportedBy, IsTurnOf, EndsBy, RunsOver, RunsSeen, lines_in, reported_code, Ended, IsWritten, SoFar, Stopped}
use Rattle.runs.proofs.Names.{StopsBy, TakesLine, TakesTurn}
use Rattle.std.proofs.Common.{◌≡◌, ◌≢◌, ◌⊎◌, ◌<◌, ◌∷◌, ◌++◌, ◌∙◌}
use Rattle.std.specs.Prelude.{◌↔◌}
use Rattle.model.specs.declared.answer.Answer.TheVariants as answer
use Rattle.model.specs.declared.answer.Refusal.TheVariants as refusal
use Rattle.model.specs.declared.line.Line.TheVariants as line
use Rattle.script.specs.declared.fault.RunFault.TheVariants as fault
use Rattle.runs.proofs.ScriptLines.{begins_with, bytes_more, line_more, line_taken, lines_whole, lines_with_rest, no_lines}
use Rattle.runs.proofs.TurnLists.{lines_more, output_more, run_more, wrote_and_failed, wrote_kept, wrote_none}

-- ---- what a crash leaves

-- an image that denotes a state of two joined lists denotes one of the first or of the second
split_one : (g : Geometry) (size : ℕ) (c : Image) (ss ts : List Saved) → DenotesOne g size (ss ++ ts) c →
    DenotesOne g size ss c ⊎ DenotesOne g size ts c
split_one g size c [] ts one = inr one
split_one g size c (s ∷ ss) ts one = ⊎_elim (λ here. inl (inl here))
    (λ there. ⊎_elim (λ first. inl (inr first)) (λ last. inr last) (split_one g size c ss ts there)) one

-- an image that denotes one of some states denotes a state among them
pub denotes_this : (g : Geometry) (size : ℕ) (c : Image) (ss : List Saved) → DenotesOne g size ss c →
    (s : Saved) × Contains ss s × Denotes g size c s
denotes_this g size c [] one = absurd one
denotes_this g size c (s ∷ ss) one = ⊎_elim
    (λ here. (s, (zero, omega arith, refl), here))
    (λ there. let is = denotes_this g size c ss there in (is.0, (suc is.1.0, omega (arith, is.1.1), is.1.2), is.2))
    one

-- a candidate of the machine before a turn may be left in the turn
left_before : (g : Geometry) (size : ℕ) (t : Turn) (c : Image) → DenotesOne g size (candidates t.before) c → IsLeftIn g size t c
left_before g size t c one = let is = denotes_this g size c (candidates t.before) one in (is.0, inl is.1, is.2)

pub left_by : (g : Geometry) (size : ℕ) (t : Turn) (command : Command) → Says t.line (line.Command command) → (c : Image) →
    DenotesOne g size (candidates t.before ++ second t.before command) c → IsLeftIn g size t c
left_by g size t command says c one = ⊎_elim
    (left_before g size t c)
    (λ last. let is = denotes_this g size c (second t.before command) last in (is.0, inr (command, says, is.1), is.2))
    (split_one g size c (candidates t.before) (second t.before command) one)

-- ---- failures of the device

-- if an answer is `Fault` exactly if the device failed, so is the reply
pub answer_reported : (old new : Disk) (a : Answer) → IsCaused old new a → IsReportedBy old new (Reported a)
answer_reported old new a caused = record {
  never_falls = caused.later;
  cause = (λ is. caused.exact.0 (same_answer a is), λ rose. ap (λ (b : Answer). Reported b) (caused.exact.1 rose));
}
  where
    same_answer : (b : Answer) → Reported b ≡ Reported (answer.Refused refusal.Fault) → b ≡ answer.Refused refusal.Fault
    same_answer b is = cc

-- if no call is made, a reply other than `Fault` reports the failures correctly
none_reported : (disk : Disk) (reply : Reply) → reply ≢ Reported (answer.Refused refusal.Fault) → IsReportedBy disk disk reply
none_reported disk reply fine = record {
  never_falls = omega arith;
  cause = (λ is. absurd (fine is), λ rose. absurd (omega (arith, rose)));
}

-- ---- observers

-- if an observer saw some turns and let the run go on, it has seen them and one more
pub seen_more : {O : Type 0} (sees : Turn → O → O → Bool → Type 0) (old mid new : O) (ts : List Turn) (t : Turn) (on : Bool) →
    AreSeen sees old mid ts true → sees t mid new on → AreSeen sees old new (ts ++ t ∷ []) on
seen_more sees old mid new [] t true same seen = inl (new, subst (λ x. sees t x new true) same.0 seen, (refl, refl))
seen_more sees old mid new [] t false same seen = inr (refl, refl, subst (λ x. sees t x new false) same.0 seen)
seen_more sees old mid new (u ∷ us) t on are seen =
    ⊎_elim (λ goes. inl (goes.0, goes.1, seen_more sees goes.0 mid new us t on goes.2 seen))
    (λ ends. let never : true ≡ false = ends.1 in cc) are

-- a fault of the writer isn't one of the reader
pub not_read : (e : RunFault) → e ≡ fault.Write → e ≢ fault.Read
not_read e is read = let never : fault.Write ≡ fault.Read = sym is ∙ read in absurd cc

pub not_stopped : (e : RunFault) → e ≡ fault.Write → e ≢ fault.Stopped
not_stopped e is stopped = let never : fault.Write ≡ fault.Stopped = sym is ∙ stopped in absurd cc

-- with this result of a line the run ends, with fault e
abbrev pub Ending : Result Bool RunFault → RunFault → Type 0
Ending (Ok true) e = ⊥
Ending (Ok false) e = e ≡ fault.Stopped
Ending (Err f) e = e ≡ f

module _ {D S O : Type 0} (disk : D → Disk) (view : S → View D) (parts : S → Parts) (sees : Geometry → Turn → O → O → Bool → Type 0)
    (only_now : (d : D) (c : Image) → (disk d).left_since (disk d).moment c → (disk d).may_leave c) where
  -- ---- one turn

  -- if no call is made, a crash leaves a candidate of the machine
  here : (g : Geometry) (m : Machine) (p : Power D S) → Stands disk view parts g p m →
      LeavesOnly (disk_of disk view parts p) (disk_of disk view parts p) (DenotesOne g (disk_of disk view parts p).sectors (candidates m))
  here g m p stands = search (arith, nat_tests, started)

  -- a line without a command is taken without a device call
  no_command : (g : Geometry) (m : Machine) (text : List ℕ) (says : Line) (p : Power D S) (before seen : O) (written wrote : Written)
      (result : Result Bool RunFault) (reply : Reply) (on : Bool) →
      Stands disk view parts g p m → Replies g says m reply m → reply ≢ Reported (answer.Refused refusal.Fault) →
      sees g (record { line = text; before = m; reply = reply; after = m }) before seen on →
      IsWritten written wrote result on (reply_text reply) → TakesTurn disk view parts sees g m text says p p before seen written wrote
      result
  no_command g m text says p before seen written wrote result reply on stands replies fine is_seen writes =
      search (arith, nat_tests, leaves_weaker, here, left_before, none_reported)

  pub skipped : (g : Geometry) (m : Machine) (text : List ℕ) (says : Line) (p : Power D S) (before seen : O) (on : Bool) (written : Written)
      → says ≡ line.Skip → Stands disk view parts g p m →
      ((t : Turn) → t.reply ≡ Nothing → sees g t before seen on) → TakesTurn disk view parts sees g m text says p p before seen written
      written (Ok on)
  skipped g m text says p before seen on written is stands saw =
      no_command g m text says p before seen written written (Ok on) Nothing on stands
      (subst (λ (l : Line). Replies g l m Nothing m) (sym is) (refl, refl)) (λ same. cc)
      (saw (record { line = text; before = m; reply = Nothing; after = m }) refl) (refl, wrote_none written)

  pub is_bad : (g : Geometry) (m : Machine) (text : List ℕ) (says : Line) (p : Power D S) (before seen : O) (on : Bool)
      (written wrote : Written) (result : Result Bool RunFault) →
      says ≡ line.Bad → Stands disk view parts g p m → ((t : Turn) → t.line ≡ text → t.reply ≡ BadLine → sees g t before seen on) →
      IsWritten written wrote result on bad_line → TakesTurn disk view parts sees g m text says p p before seen written wrote result
  is_bad g m text says p before seen on written wrote result is stands saw writes =
      no_command g m text says p before seen written wrote result BadLine on stands
      (subst (λ (l : Line). Replies g l m BadLine m) (sym is) (refl, refl)) (λ same. cc)
      (saw (record { line = text; before = m; reply = BadLine; after = m }) refl refl) writes

  pub answered : (g : Geometry) (m : Machine) (text : List ℕ) (says : Line) (c : Command) (a : Answer) (code : Option ResultCode)
      (p q : Power D S) (before seen : O) (on : Bool)
      (written wrote : Written) (result : Result Bool RunFault) → says ≡ line.Command c → Says text says →
      Stands disk view parts g p m → Serves disk view parts p c a q → IsCaused (disk_of disk view parts p) (disk_of disk view parts q) a →
      code ≡ reported_code g m c a →
      ((t : Turn) → Says t.line (line.Command c) → t.reply ≡ Reported a → reported_code g t.before c a ≡ code → sees g t before seen on) →
      IsWritten written wrote result on (reply_text (Reported a)) → TakesTurn disk view parts sees g m text says p q before seen written
      wrote result
  answered g m text says c a code p q before seen on written wrote result is said stands serves caused coded saw writes =
      let s = serves g m stands in
      let old = disk_of disk view parts p in
      let new = disk_of disk view parts q in
      let turn : Turn = record { line = text; before = m; reply = Reported a; after = s.after } in
      subst (λ (x : Line). TakesTurn disk view parts sees g m text x p q before seen written wrote result) (sym is) (record {
        reply = Reported a;
        after = s.after;
        replies = (a, refl, s.step);
        stands = s.stands;
        size = s.leaves.size;
        any_moment = leaves_weaker {old = old} {new = new} {P = DenotesOne g old.sectors (candidates m ++ second m c)}
            (IsLeftIn g old.sectors turn) (left_by g old.sectors turn c (subst (Says text) is said)) s.leaves.any_moment;
        faults = answer_reported old new a caused;
        on = on;
        is_seen = saw turn (subst (Says text) is said) refl (sym coded);
        writes = writes;
      })

  -- ---- turn after turn

  pub begun : (g : Geometry) (m : Machine) (p : Power D S) (seen : O) (line : LineBuffer) (output : Written) → Holds line [] →
      Stands disk view parts g p m →
      SoFar disk view parts sees g m p p seen seen [] line output output
  begun g m p seen line output empty stands = search (arith, nat_tests, no_lines, wrote_none)

  -- some turns and one more are turns from kernel to kernel
  turns_more : (g : Geometry) (old mid new : Power D S) (ts : List Turn) (t : Turn) → AreTurnsOf disk view parts g old mid ts →
      IsTurnOf disk view parts g mid new t →
      AreTurnsOf disk view parts g old new (ts ++ t ∷ [])
  turns_more g old mid new [] t same turn = (new, subst (λ (p : Power D S). IsTurnOf disk view parts g p new t) same turn, refl)
  turns_more g old mid new (u ∷ us) t goes turn = (goes.0, goes.1, turns_more g goes.0 mid new us t goes.2 turn)

  -- reading bytes without a newline only extends the line so far
  pub longer : (g : Geometry) (m : Machine) (old new : Power D S) (first seen : O) (text : List ℕ) (line longer : LineBuffer)
      (output output_left : Written) (bytes : List ℕ) →
      SoFar disk view parts sees g m old new first seen text line output output_left → IsOneLine bytes →
      ((l : List ℕ) → Holds line l → Holds longer (l ++ bytes)) →
      SoFar disk view parts sees g m old new first seen (text ++ bytes) longer output output_left
  longer g m old new first seen text line buffer output output_left bytes so_far one extended = record {
    turns = so_far.turns;
    rest = so_far.rest ++ bytes;
    run = so_far.run;
    are_seen = so_far.are_seen;
    lines = bytes_more text (lines_in so_far.turns) so_far.rest bytes so_far.lines one;
    held = extended so_far.rest so_far.held;
    written = so_far.written;
  }

  -- the parameters: a run so far, and a line that has ended and was carried out
  module _ (g : Geometry) (m : Machine) (old mid new : Power D S) (first before seen : O) (begins : List ℕ) (held next : LineBuffer)
      (output written wrote : Written)
      (so_far : SoFar disk view parts sees g m old mid first before begins held output written) (text rest : List ℕ)
      (lines : AreLines text (lines_in so_far.turns) rest) (empty : Holds next [])
      (result : Result Bool RunFault) (taken : TakesLine disk view parts sees g so_far.run.after rest mid new before seen written wrote
      result) where
    abbrev turn : TakesTurn disk view parts sees g so_far.run.after rest taken.0 mid new before seen written wrote result
    turn = taken.2

    abbrev turn_of : Turn
    turn_of = record { line = rest; before = so_far.run.after; reply = turn.reply; after = turn.after }

    abbrev turns_on : List Turn
    turns_on = so_far.turns ++ turn_of ∷ []

    turn_taken : IsTurnOf disk view parts g mid new turn_of
    turn_taken = search (arith, nat_tests)

    more_run : IsRunOf disk view parts g m old new turns_on
    more_run = search (arith, nat_tests, run_more, turns_more, turn_taken)

    all_seen : AreSeen (sees g) first seen turns_on turn.on
    all_seen = seen_more (sees g) first before seen so_far.turns turn_of turn.on so_far.are_seen turn.is_seen

    seen_on : true ≡ turn.on → AreSeen (sees g) first seen turns_on true
    seen_on on = subst (AreSeen (sees g) first seen turns_on) (sym on) all_seen

    all_written : Wrote written wrote (reply_text turn.reply) → Wrote output wrote (output_of turns_on)
    all_written all = search (arith, nat_tests, output_more, wrote_trans)

    cut_short : WroteFront written wrote (reply_text turn.reply) → IsCutShort turns_on output wrote
    cut_short cut = search (arith, nat_tests, Appends-trans)

    stops_by : (r : Result Bool RunFault) (e : RunFault) → Ending r e → IsWritten written wrote r turn.on (reply_text turn.reply) →
        StopsBy disk view parts sees e turns_on turn.on output wrote
    stops_by r e ending writes = search (arith, nat_tests, all_written, cut_short)

    whole_lines : AreLines (text ++ 10 ∷ []) (lines_in turns_on) []
    whole_lines = search (arith, nat_tests, lines_more, line_more)

    -- if the line ended at a newline, and the run goes on, the run so far has one more turn
    pub goes_on : true ≡ turn.on → Wrote written wrote (reply_text turn.reply) →
        SoFar disk view parts sees g m old new first seen (text ++ 10 ∷ []) next output wrote
    goes_on on all = record {
      turns = turns_on;
      rest = [];
      run = more_run;
      are_seen = seen_on on;
      lines = whole_lines;
      held = empty;
      written = all_written all;
    }

    pub stopped : (more : List ℕ) (e : RunFault) → Ending result e → Stopped disk view parts sees (BeginsWith ((text ++ 10 ∷ []) ++ more)) e
        g m old new first seen output wrote
    stopped more e ending = search (arith, nat_tests, more_run, all_seen, begins_with, whole_lines, stops_by)

    -- if the input ended, the rest is the last line
    last_lines : (rest ≡ [] → ⊥) → lines_of text ≡ lines_in turns_on
    last_lines some = lines_with_rest text (lines_in so_far.turns) rest lines some ∙ sym (lines_more so_far.turns turn_of)

    pub ended_by_rest : (rest ≡ [] → ⊥) → true ≡ turn.on → Wrote written wrote (reply_text turn.reply) →
        Ended disk view parts sees g m old new first seen text output wrote
    ended_by_rest some on all = record {
      turns = turns_on;
      run = more_run;
      are_seen = seen_on on;
      lines = last_lines some;
      written = all_written all;
    }

    pub stopped_at_rest : (rest ≡ [] → ⊥) → (e : RunFault) → Ending result e →
        Stopped disk view parts sees (λ lines. lines_of text ≡ lines) e g m old new first seen output wrote
    stopped_at_rest some e ending = search (arith, nat_tests, more_run, all_seen, last_lines, stops_by)

  -- if the input ended and there is no rest, the run has all lines
  pub ended : (g : Geometry) (m : Machine) (old new : Power D S) (first seen : O) (text : List ℕ) (line : LineBuffer)
      (output written : Written) (so_far : SoFar disk view parts sees g m old new first seen text line output written) → so_far.rest ≡ [] →
      Ended disk view parts sees g m old new first seen text output written
  ended g m old new first seen text line output written so_far none = search (arith, nat_tests, lines_whole)

  -- ---- a piece of the input

  -- the parameters: the state before a piece; `Goes` says how far the run has come after some bytes of the piece
  module _ (first : Power D S) (saw : O) (begun_line : LineBuffer) (had : Written) where
    abbrev pub Goes : List ℕ → Power D S → O → LineBuffer → Written → Type 0
    Goes read k seen line written = (g : Geometry) (m : Machine) (start : Power D S) (begins : O) (text : List ℕ) (output : Written) →
        SoFar disk view parts sees g m start first begins saw text begun_line output had →
        SoFar disk view parts sees g m start k begins seen (text ++ read)
        line output written

    pub none_read : Goes [] first saw begun_line had
    none_read g m start begins text output so_far = search (arith, nat_tests, append-nil)

    pub goes_longer : (read : List ℕ) (k : Power D S) (seen : O) (line longer_line : LineBuffer) (written : Written) (bytes : List ℕ) →
        Goes read k seen line written → IsOneLine bytes →
        ((l : List ℕ) → Holds line l → Holds longer_line (l ++ bytes)) → Goes (read ++ bytes) k seen longer_line written
    goes_longer read k seen line longer_line written bytes goes one extended g m start begins text output so_far =
        subst (λ (t : List ℕ). SoFar disk view parts sees g m start k begins seen t longer_line output written)
        (append_assoc text read bytes)
        (longer g m start k begins seen (text ++ read) line longer_line output written bytes (goes g m start begins text output so_far) one
        extended)

    -- the first bytes of a piece were taken, and `rest` is left
    abbrev pub GoesTo : List ℕ → List ℕ → Power D S → O → LineBuffer → Written → Type 0
    GoesTo piece rest k seen line written = (read : List ℕ) × (piece ≡ read ++ rest) × Goes read k seen line written

    -- the parameters: the last bytes of a line that was carried out
    module _ (read : List ℕ) (k new : Power D S) (before seen : O) (line next : LineBuffer) (written wrote : Written)
        (goes : Goes read k before line written) (bytes : List ℕ) (one : IsOneLine bytes)
        (empty : (held : List ℕ) → Holds line held → Holds next []) (result : Result Bool RunFault)
        (turn : (g : Geometry) (m : Machine) (held : List ℕ) → Stands disk view parts g k m → Holds line held →
        TakesLine disk view parts sees g m (held ++ bytes) k new before seen written wrote result) where
      text_is : (text : List ℕ) → ((text ++ read) ++ bytes) ++ 10 ∷ [] ≡ text ++ ((read ++ bytes) ++ 10 ∷ [])
      text_is text = search (arith, nat_tests, append_assoc)

      -- the parameters: a run so far, which the line and its newline extend
      module _ (g : Geometry) (m : Machine) (start : Power D S) (begins : O) (text : List ℕ) (output : Written)
          (so_far : SoFar disk view parts sees g m start first begins saw text begun_line output had) where
        abbrev now : SoFar disk view parts sees g m start k begins before (text ++ read) line output written
        now = goes g m start begins text output so_far

        abbrev taken : TakesLine disk view parts sees g now.run.after (now.rest ++ bytes) k new before seen written wrote result
        taken = turn g now.run.after now.rest now.run.stands now.held

        on_by_newline : true ≡ taken.2.on → Wrote written wrote (reply_text taken.2.reply) →
            SoFar disk view parts sees g m start new begins seen (text ++ ((read ++ bytes) ++ 10 ∷ [])) next output wrote
        on_by_newline on all =
            subst (λ (t : List ℕ). SoFar disk view parts sees g m start new begins seen t next output wrote) (text_is text)
            (goes_on g m start k new begins before seen (text ++ read) line next output written wrote now ((text ++ read) ++ bytes)
            (now.rest ++ bytes)
            (bytes_more (text ++ read) (lines_in now.turns) now.rest bytes now.lines one) (empty now.rest now.held) result taken on all)

        stopped_by_newline : (e : RunFault) → Ending result e → (more whole : List ℕ) → whole ≡ ((read ++ bytes) ++ 10 ∷ []) ++ more →
            Stopped disk view parts sees (BeginsWith (text ++ whole)) e g m start new begins seen output wrote
        stopped_by_newline e ending more whole is =
            subst (λ (t : List ℕ). Stopped disk view parts sees (BeginsWith t) e g m start new begins seen output wrote)
            (ap (λ (t : List ℕ). t ++ more) (text_is text) ∙ append_assoc text ((read ++ bytes) ++ 10 ∷ []) more
            ∙ ap (λ (t : List ℕ). text ++ t) (sym is))
            (stopped g m start k new begins before seen (text ++ read) line next output written wrote now ((text ++ read) ++ bytes)
            (now.rest ++ bytes)
            (bytes_more (text ++ read) (lines_in now.turns) now.rest bytes now.lines one) (empty now.rest now.held) result taken more e
            ending)

    -- the parameters: a rest that begins with the end of a line, which was carried out
    module _ (piece rest : List ℕ) (k new : Power D S) (before seen : O) (line next : LineBuffer) (written wrote : Written)
        (goes : GoesTo piece rest k before line written)
        (end : ℕ) (within : end < length rest) (one : IsOneLine (take end rest)) (newline : slice_index_or rest end 0 ≡ 10)
        (empty : (held : List ℕ) → Holds line held → Holds next []) where
      pub goes_to_next : ((g : Geometry) (m : Machine) (held : List ℕ) → Stands disk view parts g k m → Holds line held →
          TakesLine disk view parts sees g m (held ++ take end rest) k new before seen written wrote (Ok true)) →
          GoesTo piece (drop (suc end) rest) new seen next wrote
      goes_to_next turn = (
        (goes.0 ++ take end rest) ++ 10 ∷ [],
        line_taken piece goes.0 rest end goes.1 within newline,
        λ g m start begins text output so_far.
            let writes = (taken goes.0 k new before seen line next written wrote goes.2 (take end rest) one empty (Ok true) turn g m start
            begins text output
            so_far).2.writes in
            on_by_newline goes.0 k new before seen line next written wrote goes.2 (take end rest) one empty (Ok true) turn g m start begins
            text output so_far
            writes.0 writes.1,
      )

      pub stops_in_piece : (result : Result Bool RunFault) (e : RunFault) → Ending result e →
          ((g : Geometry) (m : Machine) (held : List ℕ) → Stands disk view parts g k m → Holds line held →
          TakesLine disk view parts sees g m (held ++ take end rest) k new before seen written wrote result) →
          (g : Geometry) (m : Machine) (start : Power D S) (begins : O) (text : List ℕ) (output : Written) →
          SoFar disk view parts sees g m start first begins saw text begun_line output had →
          Stopped disk view parts sees (BeginsWith (text ++ piece)) e g m start new begins seen output wrote
      stops_in_piece result e ending turn g m start begins text output so_far =
          stopped_by_newline goes.0 k new before seen line next written wrote goes.2 (take end rest) one empty result turn g m start begins
          text output so_far e
          ending (drop (suc end) rest) piece
          (line_taken piece goes.0 rest end goes.1 within newline)

    -- if the rest has no newline, the whole piece is taken
    pub goes_to_end : (piece rest : List ℕ) (k : Power D S) (seen : O) (line longer_line : LineBuffer) (written : Written) →
        GoesTo piece rest k seen line written → IsOneLine rest →
        ((l : List ℕ) → Holds line l → Holds longer_line (l ++ rest)) → Goes piece k seen longer_line written
    goes_to_end piece rest k seen line longer_line written goes one extended =
        subst (λ (read : List ℕ). Goes read k seen longer_line written) (sym goes.1)
        (goes_longer goes.0 k seen line longer_line written rest goes.2 one extended)

  -- ---- the whole run

  -- for each machine that the first kernel stands for, the run so far is one of it
  abbrev pub RunsSoFar : Power D S → Power D S → O → O → List ℕ → LineBuffer → Written → Written → Type 0
  RunsSoFar old new first seen text line output output_left = (g : Geometry) (m : Machine) → Stands disk view parts g old m →
      SoFar disk view parts sees g m old new first seen text line output output_left

  pub no_text : (old : Option (List ℕ)) → Consumes old old []
  no_text old = search (arith, nat_tests)

  -- a text was read, and the run has taken its lines
  abbrev pub HasRead : Power D S → Power D S → O → O → LineBuffer → Option (List ℕ) → Option (List ℕ) → Written → Written → Type 0
  HasRead old new first seen line input input_left output output_left =
      (text : List ℕ) × Consumes input input_left text × RunsSoFar old new first seen text line output output_left

  -- passing answers on preserves `SoFar`
  kept_so_far : (g : Geometry) (m : Machine) (old new : Power D S) (first seen : O) (text : List ℕ) (line : LineBuffer)
      (output written kept : Written) → Wrote written kept [] →
      SoFar disk view parts sees g m old new first seen text line output written →
      SoFar disk view parts sees g m old new first seen text line output kept
  kept_so_far g m old new first seen text line output written kept keeps so_far = search (arith, nat_tests, wrote_kept)

  pub nothing_read : (k : Power D S) (seen : O) (line : LineBuffer) (input : Option (List ℕ)) (output : Written) → Holds line [] →
      HasRead k k seen seen line input input output output
  nothing_read k seen line input output empty = ([], no_text input, λ g m stands. begun g m k seen line output empty stands)

  module _ (old mid : Power D S) (first before : O) (line : LineBuffer) (input read left : Option (List ℕ)) (output written : Written)
      (so_far : HasRead old mid first before line input read output written) where
    -- the parameters: the writer passed on the answers
    module _ (passed : Written) (kept : Wrote written passed []) where
      pub passed_on : HasRead old mid first before line input read output passed
      passed_on = (
        so_far.0,
        so_far.1,
        λ g m stands. kept_so_far g m old mid first before so_far.0 line output written passed kept
            (so_far.2 g m stands),
      )

    pub not_passed_on : (passed : Written) (e : RunFault) → Writes written passed (Err e) [] →
        RunsSeen disk view parts sees old mid first before input read output passed (Err e)
    not_passed_on passed e failed = subst (λ (f : RunFault). RunsSeen disk view parts sees old mid first before input read output passed
        (Err f)) (sym failed.0)
        (λ g m stands.
        let s = so_far.2 g m stands in
        let wrote = wrote_and_failed output written passed (output_of s.turns) s.written failed.1 in
        (s.turns, s.run, (so_far.0, so_far.1, inr (inl (s.rest, s.lines), wrote.0, wrote.1)), true, s.are_seen, tt))

    -- if the reader failed, the run ended with all whole lines answered
    pub none_was_read : (piece : List ℕ) (e : RunFault) → ReadsPiece read left piece (Err e) →
        RunsSeen disk view parts sees old mid first before input left output written (Err e)
    none_was_read piece e failed = search (arith, nat_tests, append-nil, Consumes-trans)

    module _ (bytes : List ℕ) (new : Power D S) (seen : O) (wrote : Written) (more : Consumes read left bytes) where
      pub piece_on : (next : LineBuffer) → ((g : Geometry) (m : Machine) (start : Power D S) (begins : O) (text : List ℕ) (out : Written) →
          SoFar disk view parts sees g m start mid begins before text line out written →
          SoFar disk view parts sees g m start new begins seen (text ++ bytes)
          next out wrote) →
          HasRead old new first seen next input left output wrote
      piece_on next goes = (
        so_far.0 ++ bytes,
        Consumes-trans input read left so_far.0 bytes so_far.1 more,
        λ g m stands. goes g m old first so_far.0 output (so_far.2 g m stands),
      )

      -- a run that ends early did with its input and output what `Does` says
      does_stop : (AreTaken : List (List ℕ) → Type 0) (text : List ℕ) → Consumes input left text →
          ((lines : List (List ℕ)) → AreTaken lines → AreFirst text left lines) →
          (e : RunFault) (g : Geometry) (m : Machine) (s : Stopped disk view parts sees AreTaken e g m old new first seen output wrote) →
          Does s.turns input left output wrote (Err e) × EndsBy s.on (Err e)
      does_stop AreTaken text consumed are fault.Read g m s = absurd s.stops
      does_stop AreTaken text consumed are fault.Write g m s = ((text, consumed, inl (are (lines_in s.turns) s.lines, s.stops)), tt)
      does_stop AreTaken text consumed are fault.Stopped g m s = ((text, consumed, are (lines_in s.turns) s.lines, s.stops.1), s.stops.0)

      pub piece_stops : (e : RunFault) → ((g : Geometry) (m : Machine) (start : Power D S) (begins : O) (text : List ℕ) (out : Written) →
          SoFar disk view parts sees g m start mid begins before text line out written →
          Stopped disk view parts sees (BeginsWith (text ++ bytes)) e g m start
          new begins seen out wrote) →
          RunsSeen disk view parts sees old new first seen input left output wrote (Err e)
      piece_stops e stops g m stands =
          let s = stops g m old first so_far.0 output (so_far.2 g m stands) in
          let does = does_stop (BeginsWith (so_far.0 ++ bytes)) (so_far.0 ++ bytes)
          (Consumes-trans input read left so_far.0 bytes so_far.1 more)
          (λ lines begin. inl begin) e g m s in
          (s.turns, s.run, does.0, s.on, s.are_seen, does.1)

    -- the parameters: the input has ended
    module _ (new : Power D S) (seen : O) (wrote : Written) (none : Consumes read left []) (end : IsAtEnd left) where
      all_read : Consumes input left so_far.0
      all_read = subst (Consumes input left) (append-nil so_far.0) (Consumes-trans input read left so_far.0 [] so_far.1 none)

      pub rest_stops_run : (e : RunFault) → ((g : Geometry) (m : Machine) (start : Power D S) (begins : O) (text : List ℕ) (out : Written) →
          SoFar disk view parts sees g m start mid begins before text line out written →
          Stopped disk view parts sees (λ lines. lines_of text ≡ lines) e g m
          start new begins seen out wrote) →
          RunsSeen disk view parts sees old new first seen input left output wrote (Err e)
      rest_stops_run e stops g m stands =
          let s = stops g m old first so_far.0 output (so_far.2 g m stands) in
          let does = does_stop [] new seen wrote none (λ lines. lines_of so_far.0 ≡ lines) so_far.0 all_read
          (λ lines whole. inr (end, whole)) e g m s in
          (s.turns, s.run, does.0, s.on, s.are_seen, does.1)

      -- whether the last answers were passed on or not, the run did what `RunsSeen` says
      pub end_passed_on : (passed : Written) →
          ((g : Geometry) (m : Machine) (start : Power D S) (begins : O) (text : List ℕ) (out : Written) →
          SoFar disk view parts sees g m start mid begins before text line out written →
          Ended disk view parts sees g m start new begins seen text out wrote) → (result : Result (Unit {0}) RunFault) →
          Writes wrote passed result [] → RunsSeen disk view parts sees old new first seen input left output
          passed result
      end_passed_on passed ends (Ok a) kept g m stands = search (arith, nat_tests, all_read, wrote_kept)
      end_passed_on passed ends (Err d) failed g m stands =
          let e = ends g m old first so_far.0 output (so_far.2 g m stands) in
          let cut = wrote_and_failed output wrote passed (output_of e.turns) e.written failed.1 in (
            e.turns,
            e.run,
            subst (λ (d : RunFault). Does e.turns input left output passed (Err d)) (sym failed.0)
                (so_far.0, all_read, inr (inr (end, e.lines), cut.0, cut.1)),
            true,
            e.are_seen,
            subst (λ (d : RunFault). EndsBy true (Err d)) (sym failed.0) tt,
          )

  -- ---- the rest at the end of the input

  module _ (k new : Power D S) (before seen : O) (line : LineBuffer) (next : LineBuffer) (written wrote : Written) (empty : Holds next [])
      (is_empty : Bool) (tells : (l : List ℕ) → Holds line l → (IsTrue is_empty ↔ (l ≡ []))) (some : is_empty ≡ false)
      (result : Result Bool RunFault)
      (turn : (g : Geometry) (m : Machine) (held : List ℕ) → Stands disk view parts g k m → Holds line held →
      TakesLine disk view parts sees g m held k new before seen written wrote result) where
    not_none : (l : List ℕ) → Holds line l → l ≡ [] → ⊥
    not_none l held none = let reported : IsTrue is_empty = (tells l held).1 none in cc

    pub rest_ends : result ≡ Ok true → (g : Geometry) (m : Machine) (start : Power D S) (begins : O) (text : List ℕ) (output : Written) →
        SoFar disk view parts sees g m start k begins before text line output written →
        Ended disk view parts sees g m start new begins seen text output wrote
    rest_ends ok g m start begins text output so_far =
        let taken = turn g so_far.run.after so_far.rest so_far.run.stands so_far.held in
        let writes = subst (λ (r : Result Bool RunFault). IsWritten written wrote r taken.2.on (reply_text taken.2.reply)) ok taken.2.writes
        in
        ended_by_rest g m start k new begins before seen text line next output written wrote so_far text so_far.rest so_far.lines empty
        result taken
        (not_none so_far.rest so_far.held) writes.0 writes.1

    pub rest_stops : (e : RunFault) → Ending result e → (g : Geometry) (m : Machine) (start : Power D S) (begins : O) (text : List ℕ)
        (output : Written) →
        SoFar disk view parts sees g m start k begins before text line output written →
        Stopped disk view parts sees (λ lines. lines_of text ≡ lines) e g m
        start new begins seen output wrote
    rest_stops e ending g m start begins text output so_far =
        let taken = turn g so_far.run.after so_far.rest so_far.run.stands so_far.held in
        stopped_at_rest g m start k new begins before seen text line next output written wrote so_far text so_far.rest so_far.lines empty
        result taken
        (not_none so_far.rest so_far.held) e ending

  -- ---- a run without its observer

  pub run_of_seen : (old new : Power D S) (first seen : O) (input left : Option (List ℕ)) (output wrote : Written)
      (result : Result (Unit {0}) RunFault) → RunsSeen disk view parts sees old new first seen input left output wrote result →
      RunsOver disk view parts old new input left output wrote result
  run_of_seen old new first seen input left output wrote result runs g m stands = let r = runs g m stands in (r.0, r.1, r.2)
