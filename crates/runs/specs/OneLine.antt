-- Running one line alone.
use Rattle.runs.specs.Names.{ℕ, Bool, List, [], Result, Disk, Geometry, Machine, Parts, Power, RunFault, Stands, Turn}
use Rattle.runs.specs.Names.{View, Written, reply_text}
use Rattle.std.specs.Prelude.{◌≡◌, ◌∷◌}
use Rattle.runs.specs.KernelRuns.{IsRunOf}
use Rattle.runs.specs.Taking.{IsWritten}

-- The parameters: the ghost members of a device, of an object store and of an observer.
module _ {D S O : Type 0} (disk : D → Disk) (view : S → View D) (parts : S → Parts)
    (sees : Geometry → Turn → O → O → Bool → Type 0) where
  -- for each machine that the kernel stands for, the line ran as one turn, which the observer saw; its answer was
  -- written, or the writer failed
  abbrev pub RunsLine : List ℕ → Power D S → Power D S → O → O → Written → Written → Result Bool RunFault → Type 0
  RunsLine line old new before after output output_left result =
      (g : Geometry) (m : Machine) → Stands disk view parts g old m →
      (t : Turn) × (t.line ≡ line) × IsRunOf disk view parts g m old new (t ∷ [])
      × (on : Bool) × sees g t before after on × IsWritten output output_left result on (reply_text t.reply)
