-- Carrying out one command is a run of one turn.
use Rattle.runs.proofs.Names.{Answer, Command, DenotesOne, Disk, Err, Geometry, IsCaused, IsLeftIn, IsRunOf, IsTurnOf, List, Machine, Ok, Parts, Power, Refusal}
use Rattle.runs.proofs.Names.{Reported, Result, Serves, Stands, Turn, View, candidates, disk_of, leaves_weaker, refl, second, subst, [], ℕ, Fits, spelling}
use Rattle.runs.proofs.Names.{CarriesOut, IsStage}
use Rattle.std.proofs.Common.{◌≡◌, ◌≢◌, ◌++◌, ◌∷◌}
use Rattle.model.specs.declared.answer.Answer.TheVariants as answer
use Rattle.model.specs.declared.line.Line.TheVariants as line
use Rattle.runs.proofs.Turning.{answer_reported, left_by}

module _ {D S : Type 0} (disk : D → Disk) (view : S → View D) (parts : S → Parts) where
  -- the answer as a result: a refusal is an error
  abbrev pub IsResult : Answer → Result Answer Refusal → Type 0
  IsResult a (Ok b) = (b ≡ a) × ((why : Refusal) → a ≢ answer.Refused why)
  IsResult a (Err why) = a ≡ answer.Refused why

  pub carried_out : (c : Command) (a : Answer) (old new : Power D S) (r : Result Answer Refusal) → Fits c →
      Serves disk view parts old c a new → IsCaused (disk_of disk view parts old) (disk_of disk view parts new) a → IsResult a r →
      CarriesOut disk view parts old c new r
  carried_out c a old new r fits serves caused is g m stands =
      let s = serves g m stands in
      let before = disk_of disk view parts old in
      let after = disk_of disk view parts new in
      let turn : Turn = record { line = spelling c; before = m; reply = Reported a; after = s.after } in
      let link : IsTurnOf disk view parts g old new turn = record {
        stands = s.stands;
        size = s.leaves.size;
        any_moment = leaves_weaker {old = before} {new = after} {P = DenotesOne g before.sectors (candidates m ++ second m c)}
            (IsLeftIn g before.sectors turn) (left_by g before.sectors turn c (fits, refl)) s.leaves.any_moment;
        faults = answer_reported before after a caused;
      } in (
        turn,
        record {
          after = s.after;
          run = (refl, (line.Command c, (fits, refl), (a, refl, s.step)), refl);
          stands = s.stands;
          each = (new, link, refl);
        },
        stage turn refl refl r is,
      )
    where
      stage : (t : Turn) → t.line ≡ spelling c → t.reply ≡ Reported a → (r : Result Answer Refusal) → IsResult a r → IsStage c t r
      stage t at replies (Ok b) is = (at, rw is.0 replies, rw is.0 is.1)
      stage t at replies (Err why) is = (at, subst (λ (x : Answer). t.reply ≡ Reported x) is replies)
