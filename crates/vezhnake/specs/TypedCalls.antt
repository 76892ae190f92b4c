-- What typed calls do to a session.
use Rattle.vezhnake.specs.Names.{ℕ, true, false, List, [], map, take, drop, length, Option, None, slice_index_or}
use Rattle.vezhnake.specs.Names.{Result, Ok, Err, Served, Command}
use Rattle.std.specs.Prelude.{◌≡◌, ◌<◌, ◌∷◌}
use Rattle.model.specs.declared.command.Command.TheVariants as command
use Rattle.object_cache.specs.StoreState as objects
use Rattle.vezhnake.specs.declared.host_kernel.HostKernel.{HostKernel}
use Rattle.vezhnake.specs.declared.host_kernel.HostKernel.TheVariants as store
use Rattle.vezhnake.specs.declared.raw_command.RawCommand.{RawCommand}
use Rattle.vezhnake.specs.declared.raw_object.RawObject.{RawObject}
use Rattle.vezhnake.specs.declared.raw_reply.RawReply.{RawReply}
use Rattle.vezhnake.specs.declared.session.CallsFault.{CallsFault}
use Rattle.vezhnake.specs.declared.session.CallsFault.TheVariants as lost
use Rattle.vezhnake.specs.declared.session.Session.{Session}
use Rattle.vezhnake.specs.declared.status.Status.{Status}
use Rattle.vezhnake.specs.declared.status.Status.TheVariants as status
use Rattle.vezhnake.specs.Hosting.{host_disk}
use Rattle.vezhnake.specs.RawCommands.{command_of, save_stages}
use Rattle.vezhnake.specs.RawObjects.{shown_object, shown_words}
use Rattle.vezhnake.specs.Serving.{EndsAt, ServesEach, ServesLine, numbers_of}
use Rattle.vezhnake.specs.Sessions.{CollectsCalls}
use Rattle.vezhnake.specs.Statuses.{kept_status}

-- commands were served, and the kernel has the same type of store
abbrev pub ServesEachOver : HostKernel → HostKernel → List (Option Command) → List RawReply → Type 0
ServesEachOver (store.Plain old) (store.Plain new) = ServesEach (objects.view_of host_disk)
    (objects.parts_of host_disk) old new
ServesEachOver (store.Bounded old) (store.Bounded new) =
    ServesEach (objects.view_of host_disk) (objects.parts_of host_disk) old new
ServesEachOver (store.Plain old) (store.Bounded new) = λ commands replies. ⊥
ServesEachOver (store.Bounded old) (store.Plain new) = λ commands replies. ⊥

-- one command was served, and the kernel has the same type of store
abbrev pub ServesLineOver : HostKernel → HostKernel → Command → Served → Type 0
ServesLineOver (store.Plain old) (store.Plain new) = ServesLine (objects.view_of host_disk)
    (objects.parts_of host_disk) old new
ServesLineOver (store.Bounded old) (store.Bounded new) =
    ServesLine (objects.view_of host_disk) (objects.parts_of host_disk) old new
ServesLineOver (store.Plain old) (store.Bounded new) = λ command served. ⊥
ServesLineOver (store.Bounded old) (store.Plain new) = λ command served. ⊥

-- The first n commands were served, and their answers are the first n replies. Their device calls wait for the host,
-- or `kept` says why not.
pub record ServesFront (old new : Session) (commands : List (Option Command)) (before after : List RawReply) (n : ℕ)
    (kept : Result (Unit {0}) CallsFault) : Type 0 where
  pub kernel : ServesEachOver old.kernel new.kernel (take n commands) (take n after)
  pub rest : drop n after ≡ drop n before
  pub answer : new.answer ≡ old.answer
  pub calls : CollectsCalls old new kept

-- all commands of a batch were served, or only those before the first invalid one; or there are fewer replies than
-- commands, and none was
abbrev pub ServesBatch : Session → Session → List RawCommand → List RawReply → List RawReply → ℕ → Status → Type 0
ServesBatch old new raws before after served status.Done =
    ServesFront old new (map command_of raws) before after served (Ok tt) × (served ≡ length raws)
ServesBatch old new raws before after served status.BadCommand =
    ServesFront old new (map command_of raws) before after served (Ok tt) × (served < length raws)
    × (slice_index_or (map command_of raws) served None ≡ None)
ServesBatch old new raws before after served status.NoMemory =
    ServesFront old new (map command_of raws) before after served (Err lost.NoMemory)
    × EndsAt false (map command_of raws) after served
ServesBatch old new raws before after served status.CallsLost =
    ServesFront old new (map command_of raws) before after served (Err lost.CallsLost)
    × EndsAt false (map command_of raws) after served
ServesBatch old new raws before after served status.SmallBuffer =
    (new ≡ old) × (after ≡ before) × (served ≡ 0) × (length before < length raws)
ServesBatch old new raws before after served _ = ⊥

-- one command was served as a batch of one
abbrev pub ServesOne : Session → Session → RawCommand → RawReply → RawReply → Status → Type 0
ServesOne old new raw before after result =
    (served : ℕ) × ServesBatch old new (raw ∷ []) (before ∷ []) (after ∷ []) served result

-- the stages of a save were served, up to the first that was refused; or there are too few replies
abbrev pub SavesSession : Session → Session → List RawReply → List RawReply → ℕ → Status → Type 0
SavesSession old new before after served status.Done =
    ServesFront old new save_stages before after served (Ok tt) × EndsAt true save_stages after served
SavesSession old new before after served status.NoMemory =
    ServesFront old new save_stages before after served (Err lost.NoMemory) × EndsAt true save_stages after served
SavesSession old new before after served status.CallsLost =
    ServesFront old new save_stages before after served (Err lost.CallsLost) × EndsAt true save_stages after served
SavesSession old new before after served status.SmallBuffer =
    (new ≡ old) × (after ≡ before) × (served ≡ 0) × (length before < 5)
SavesSession old new before after served _ = ⊥

-- an object was shown, and the reply has the answer's numbers. The device calls wait for the host, or the status says
-- why not
pub record ShowsSession (old new : Session) (number : ℕ) (served : Served) (reply : RawReply) (result : Status) :
    Type 0 where
  pub kernel : ServesLineOver old.kernel new.kernel (command.Show number) served
  pub numbers : reply ≡ numbers_of served
  pub answer : new.answer ≡ old.answer
  pub kept : Result (Unit {0}) CallsFault
  pub calls : CollectsCalls old new kept
  pub is : result ≡ kept_status kept

-- an object was shown; if it is a page, `after` has its words
abbrev pub ShowsPage : Session → Session → ℕ → List ℕ → List ℕ → RawReply → Status → Type 0
ShowsPage old new number before after reply result =
    (served : Served) × ShowsSession old new number served reply result × (after ≡ shown_words served.answer before)

-- an object was shown, and `after` has its numbers
abbrev pub ShowsObject : Session → Session → ℕ → RawObject → RawObject → RawReply → Status → Type 0
ShowsObject old new number before after reply result =
    (served : Served) × ShowsSession old new number served reply result × (after ≡ shown_object served.answer before)
