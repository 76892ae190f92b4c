-- What a run over a kernel changes, if every line is by a process of a closed set.
use Rattle.runs.proofs.Names.{arith, nat_tests, ℕ, Bool, List, [], Option, Ok, Err, ap, sym, subst, ⊎_elim, append-nil, Result, Consumes, All-cons, All-head}
use Rattle.runs.proofs.Names.{All-nil, All-tail, Geometry, Line, Machine, Running, Up, IsRun, Turn, lines_of, IsSound, Says, Disk, AreBy, IsLineBy, with_free}
use Rattle.runs.proofs.Names.{run_confined, Written, Parts, View, Power, Stands, RunFault, AreAll, AreFirst, AreLines, AreLinesBy, BeginsWith, Does, IsConfined}
use Rattle.runs.proofs.Names.{RunsOver, lines_in}
use Rattle.std.proofs.Common.{◌≡◌, ◌∷◌, ◌++◌, ◌∙◌}
use Rattle.script.specs.declared.fault.RunFault.TheVariants as fault
use Rattle.runs.proofs.ScriptLines.{lines_before}

-- a text begins with these lines
abbrev pub AreOf : List ℕ → List (List ℕ) → Type 0
AreOf text lines = (more : List (List ℕ)) × (lines_of text ≡ lines ++ more)

all_of : (text : List ℕ) (lines : List (List ℕ)) → lines_of text ≡ lines → AreOf text lines
all_of text lines is = ([], is ∙ sym (append-nil lines))

begun_by : (text : List ℕ) (lines : List (List ℕ)) → BeginsWith text lines → AreOf text lines
begun_by text lines begins = (lines_of begins.0, ap lines_of begins.1 ∙ lines_before lines begins.0 begins.2)

with_rest : (text : List ℕ) (lines : List (List ℕ)) (rest : List ℕ) → AreLines text lines rest → AreOf text lines
with_rest text lines rest are = (lines_of rest, ap lines_of are.whole ∙ lines_before lines rest are.each)

first_of : (text : List ℕ) (left : Option (List ℕ)) (lines : List (List ℕ)) → AreFirst text left lines → AreOf text lines
first_of text left lines are = ⊎_elim (λ begins. begun_by text lines begins) (λ whole. all_of text lines whole.1) are

all_or_with_rest : (text : List ℕ) (left : Option (List ℕ)) (lines : List (List ℕ)) → AreAll text left lines → AreOf text lines
all_or_with_rest text left lines are = ⊎_elim (λ some. with_rest text lines some.0 some.1) (λ whole. all_of text lines whole.1) are

-- the text that was read begins with the lines of the turns
lines_read : (turns : List Turn) (input left : Option (List ℕ)) (output written : Written) (result : Result (Unit {0}) RunFault) →
    Does turns input left output written result →
    (text : List ℕ) × Consumes input left text × AreOf text (lines_in turns)
lines_read turns input left output written (Ok a) does = (does.0, does.1, all_of does.0 (lines_in turns) does.3)
lines_read turns input left output written (Err fault.Read) does = (does.0, does.2, with_rest does.0 (lines_in turns) does.1 does.3)
lines_read turns input left output written (Err fault.Write) does = (
  does.0,
  does.1,
  ⊎_elim (λ first. first_of does.0 left (lines_in turns) first.0)
      (λ whole. all_or_with_rest does.0 left (lines_in turns) whole.0) does.2,
)
lines_read turns input left output written (Err fault.Stopped) does = (does.0, does.1, first_of does.0 left (lines_in turns) does.2)

-- a turn whose line is by a process of the set, or has no command
abbrev IsTurnBy : (ℕ → Bool) → Turn → Type 0
IsTurnBy inside t = (l : Line) → Says t.line l → IsLineBy inside l

abbrev IsTextBy : (ℕ → Bool) → List ℕ → Type 0
IsTextBy inside line = (l : Line) → Says line l → IsLineBy inside l

turns_by : (inside : ℕ → Bool) (turns : List Turn) (more : List (List ℕ)) → AreLinesBy inside (lines_in turns ++ more) → AreBy inside turns
turns_by inside [] more by = All-nil (IsTurnBy inside)
turns_by inside (t ∷ ts) more by =
    All-cons (IsTurnBy inside) t ts (All-head (IsTextBy inside) t.line (lines_in ts ++ more) by)
    (turns_by inside ts more (All-tail (IsTextBy inside) t.line (lines_in ts ++ more) by))

module _ {D S : Type 0} (disk : D → Disk) (view : S → View D) (parts : S → Parts) where
  -- a kernel that is up stands for only one machine
  pub one_machine : (g : Geometry) (p : Power D S) (m : Machine) (t : Running) → Stands disk view parts g p m →
      Stands disk view parts g p (Up t) → m ≡ Up t
  one_machine g p m t first second = search (arith, nat_tests)

  -- a kernel that is up stands for a machine with a sound world
  pub sound_world : (g : Geometry) (p : Power D S) (s : Running) → Stands disk view parts g p (Up s) → IsSound g s.now
  sound_world g p s up = search (arith, nat_tests)

  pub run_is_confined : (old new : Power D S) (input left : Option (List ℕ)) (output written : Written)
      (result : Result (Unit {0}) RunFault) → RunsOver disk view parts old new input left output written result →
      IsConfined disk view parts old new input left
  run_is_confined old new input left output written result runs g s t first last =
      let made = runs g (Up s) first in
      let turns = made.0 in
      let read = lines_read turns input left output written result made.2 in (
        read.0,
        read.1,
        λ inside closed by. run_confined g inside s t turns (sound_world g old s first) closed
            (subst (λ (m : Machine). IsRun g (Up s) turns m) (one_machine g new made.1.after t made.1.stands last) made.1.run)
            (turns_by (with_free s.now.objects inside) turns read.2.0
            (subst (λ (ls : List (List ℕ)). AreLinesBy (with_free s.now.objects inside) ls) read.2.1 by)),
      )
