-- What `reach` writes.
use Rattle.queries.specs.Names.{Written, ℕ, Bool, not, Option, None, Some, List, Vec, Result, Ok, Err, IsTrue, is_some}
use Rattle.queries.specs.Names.{Wrote, WroteFront, All, find, Global, is_marked, Object, objects_of, is_process, Disk}
use Rattle.queries.specs.Names.{Step, IsShortestIfAny, chain_text, reach_text, BoundsRuns, IsReach, true, false}
use Rattle.queries.specs.Names.{is_free, content_at, Fault, changers_text, AreChangers, Contains, [], is_member, Format}
use Rattle.queries.specs.Names.{Purpose, links}
use Rattle.std.specs.Prelude.{◌≡◌, ◌⊎◌, ◌↔◌, ◌∷◌}
use Rattle.queries.specs.declared.reaching.ReachQuestion.{ReachQuestion}
use Rattle.queries.specs.declared.reaching.ReachQuestion.TheVariants as question
use Rattle.jobs.specs.declared.fault.Fault.TheVariants as fault
use Rattle.queries.specs.Images.{TellsImage}

abbrev pub AreProcesses : List Object → List ℕ → Type 0
AreProcesses os numbers = All (λ n. IsTrue (is_process os n)) numbers

-- the text of the least closed set that contains these numbers; the authority bound holds for the set
pub record IsSetText (f : Format) (os : List Object) (p : Purpose) (starts trusted : List ℕ) (text : List ℕ)
    : Type 0 where
  pub marks : List Bool
  pub reach : IsReach os (links p (is_member trusted)) starts (is_marked marks)
  pub bounds : BoundsRuns os (is_member trusted) (is_marked marks)
  pub spelled : text ≡ reach_text f os marks

-- the text of a shortest chain to an object; or, if the object is outside the least closed set, that there is none
pub record IsChainText (f : Format) (os : List Object) (p : Purpose) (starts trusted : List ℕ) (o : ℕ) (text : List ℕ)
    : Type 0 where
  pub there : is_free (content_at os o) ≡ false
  pub chain : Option (Vec Step Global)
  pub shortest : IsShortestIfAny os (links p (is_member trusted)) starts o chain
  pub reach : (inside : ℕ → Bool) → IsReach os (links p (is_member trusted)) starts inside →
      inside o ≡ is_some chain
  pub spelled : text ≡ chain_text f os p o chain

-- the text of those of some processes that can ever change or read an object
pub record IsChangersText (f : Format) (os : List Object) (p : Purpose) (starts trusted : List ℕ) (o : ℕ) (text : List ℕ)
    : Type 0 where
  pub there : is_free (content_at os o) ≡ false
  pub marks : List Bool
  pub changers : AreChangers os (links p (is_member trusted)) starts o (is_marked marks)
  pub spelled : text ≡ changers_text f os marks

-- the text that answers a question
abbrev pub IsReachText : Format → List Object → List ℕ → List ℕ → ReachQuestion → List ℕ → Type 0
IsReachText f os starts trusted (question.Set p) text = IsSetText f os p starts trusted text
IsReachText f os starts trusted (question.Chain p o) text = IsChainText f os p starts trusted o text
IsReachText f os starts trusted (question.Changers p o) text = IsChangersText f os p starts trusted o text

-- the object in a question, if there is one
abbrev pub object_of : ReachQuestion → Option ℕ
object_of (question.Set p) = None
object_of (question.Chain p o) = Some o
object_of (question.Changers p o) = Some o

-- the answer was written; or it couldn't be written whole; or the question's number has no object; or memory ran out
abbrev pub TellsOf : Format → List Object → List ℕ → List ℕ → ReachQuestion → Written → Written →
    Result (Unit {0}) Fault → Type 0
TellsOf f os starts trusted q output output_left (Ok a) =
    (text : List ℕ) × IsReachText f os starts trusted q text × Wrote output output_left text
TellsOf f os starts trusted q output output_left (Err fault.CannotWriteOutput) =
    (text : List ℕ) × IsReachText f os starts trusted q text × WroteFront output output_left text
TellsOf f os starts trusted q output output_left (Err (fault.NoObject o)) =
    (object_of q ≡ Some o) × (is_free (content_at os o) ≡ true) × (output_left ≡ output)
TellsOf f os starts trusted q output output_left (Err fault.NoMemory) = output_left ≡ output
TellsOf f os starts trusted q output output_left (Err _) = ⊥

-- the processes that a question is about: the named ones, or all if none is named
abbrev pub AreStarts : List Object → List ℕ → List ℕ → Type 0
AreStarts os [] starts = (n : ℕ) → Contains starts n ↔ IsTrue (is_process os n)
AreStarts os (p ∷ ps) starts = (starts ≡ p ∷ ps) × AreProcesses os (p ∷ ps)

-- the first named number that isn't a process's; if there is none, the first trusted one
abbrev pub IsFirstMissing : List Object → List ℕ → List ℕ → ℕ → Type 0
IsFirstMissing os named trusted p = (find (λ n. not (is_process os n)) named ≡ Some p)
    ⊎ (AreProcesses os named × (find (λ n. not (is_process os n)) trusted ≡ Some p))

-- the answer was written; or a named or trusted number isn't a process's; or memory ran out
abbrev pub TellsReach : Format → List Object → List ℕ → List ℕ → ReachQuestion → Written → Written →
    Result (Unit {0}) Fault → Type 0
TellsReach f os named trusted q output output_left (Err (fault.NoProcess p)) =
    IsFirstMissing os named trusted p × (output_left ≡ output)
TellsReach f os named trusted q output output_left (Err fault.NoMemory) = output_left ≡ output
TellsReach f os named trusted q output output_left outcome =
    (starts : List ℕ) × AreStarts os named starts × TellsOf f os starts trusted q output output_left outcome

-- the answer about a device's saved state was written; or there was a fault; or the device wasn't opened, or memory
-- ran out
abbrev pub ReachesImage : {D : Type 0} → Format → (D → Disk) → List ℕ → List ℕ → ReachQuestion → D → D → Written →
    Written → Result (Unit {0}) Fault → Type 0
ReachesImage f disk named trusted q device back output output_left outcome = TellsImage disk device back output
    output_left (λ s o. TellsReach f (objects_of s.frames) named trusted q output output_left o) outcome
