-- Serving commands one after another, each as the script line with the same meaning.
use Rattle.vezhnake.specs.Names.{ℕ, Bool, true, false, List, [], length, Option, Some, None, slice_index_or, Parts}
use Rattle.vezhnake.specs.Names.{View, Power, Stands, reported_code, Served, Machine, Reported, Turn, takes_memory}
use Rattle.vezhnake.specs.Names.{spelling, Command, Geometry, IsRunOf}
use Rattle.std.specs.Prelude.{◌≡◌, ◌⊎◌, ◌+◌, ◌-◌, ◌<◌, ◌≤◌, ◌∷◌}
use Rattle.model.specs.declared.answer.Answer.TheVariants as answer
use Rattle.model.specs.declared.answer.Refusal.TheVariants as refusal
use Rattle.vezhnake.specs.declared.raw_reply.RawReply.{RawReply}
use Rattle.vezhnake.specs.Hosting.{HostDevice, RunsSurvive, host_disk}
use Rattle.vezhnake.specs.RawReplies.{is_refused, reply_of}

-- the turn's line is the command's, and its reply this answer with this result code; `NoMemory` is answered only to
-- commands that take memory
pub record IsTurnFor (g : Geometry) (t : Turn) (c : Command) (served : Served) : Type 0 where
  pub line : t.line ≡ spelling c
  pub reply : t.reply ≡ Reported served.answer
  pub code : served.code ≡ reported_code g t.before c served.answer
  pub memory : served.answer ≡ answer.Refused refusal.NoMemory → takes_memory c ≡ true

-- what was served, as numbers
abbrev pub numbers_of : Served → RawReply
numbers_of served = reply_of served.answer served.code

-- the turn's line is the command's, and its answer has these numbers
abbrev pub IsNumbered : Geometry → Turn → Option Command → RawReply → Type 0
IsNumbered g t (Some c) r = (served : Served) × IsTurnFor g t c served × (r ≡ numbers_of served)
IsNumbered g t None r = ⊥

-- each turn, command and reply are as `IsNumbered` says
abbrev pub AreNumbered : Geometry → List Turn → List (Option Command) → List RawReply → Type 0
AreNumbered g [] [] [] = Unit {0}
AreNumbered g (t ∷ ts) (c ∷ cs) (r ∷ rs) = IsNumbered g t c r × AreNumbered g ts cs rs
AreNumbered g _ _ _ = ⊥

-- whether the reply at an index is a refusal
abbrev pub refuses_at : List RawReply → ℕ → Bool
refuses_at replies k = is_refused (slice_index_or replies k (reply_of answer.Done None))

-- a batch ends after n commands: after the last one; before the first that is invalid; or, if refusals end it, after
-- the first refusal
pub record EndsAt (stops : Bool) (commands : List (Option Command)) (replies : List RawReply) (n : ℕ) : Type 0 where
  pub most : n ≤ length commands
  pub goes_on : stops ≡ true → (k : ℕ) → k + 1 < n → refuses_at replies k ≡ false
  pub ends : (slice_index_or commands n None ≡ None) ⊎ ((stops ≡ true) × (0 < n) × (refuses_at replies (n - 1) ≡ true))

module _ {S : Type 0} (view : S → View HostDevice) (parts : S → Parts) where
  -- A command was served as the script line with the same meaning. A crash of the storage leaves a state that this
  -- may save.
  pub record ServesLine (old new : Power HostDevice S) (c : Command) (served : Served) : Type 0 where
    pub turn : (g : Geometry) (m : Machine) → Stands host_disk view parts g old m →
        (t : Turn) × IsRunOf host_disk view parts g m old new (t ∷ []) × IsTurnFor g t c served
    pub survives : RunsSurvive view parts old new

  -- Commands were served one after another, each as the script line with the same meaning. A crash of the storage
  -- leaves a state that these may save.
  pub record ServesEach (old new : Power HostDevice S) (commands : List (Option Command)) (replies : List RawReply) :
      Type 0 where
    pub turns : (g : Geometry) (m : Machine) → Stands host_disk view parts g old m →
        (turns : List Turn) × IsRunOf host_disk view parts g m old new turns × AreNumbered g turns commands replies
    pub survives : RunsSurvive view parts old new
