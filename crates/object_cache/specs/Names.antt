-- The names of other crates that the definitions here cite.
pub use Rattle.cache_entries.specs.Entries.{Entry, changing, entry_at, new_entry}
pub use Rattle.cache_entries.specs.Order.{AllDiffer, EntriesState, with_entry_of, without}
pub use Rattle.capability.specs.Parts.{HaveTheirRoles, Parts, frames_of}
pub use Rattle.checkpoint.specs.Journal.{is_page_role, is_same_page, next_journaled}
pub use Rattle.checkpoint.specs.Refused.{IsJournalAnswer, IsTurnedAway}
pub use Rattle.checkpoint.specs.Saved.{Holds, LeavesEither, LeavesOneOf, journaled_saved, most}
pub use Rattle.checkpoint.specs.Snapshots.{Snapshots, journaled}
pub use Rattle.checkpoint.specs.Store.{Continues, FrozenFrames, View, stabilized}
pub use Rattle.device.proofs.Moments.{ends, leaves_on, leaves_weaker, peeks_started}
pub use Rattle.device.specs.Calls.{Counts}
pub use Rattle.device.specs.Disk.{Disk, Image}
pub use Rattle.device.specs.Moments.{Peeks}
pub use Rattle.layout.specs.Frame.{content_of}
pub use Rattle.layout.specs.declared.body.Body.{Body}
pub use Rattle.layout.specs.declared.body.Scratch.{Scratch}
pub use Rattle.migrator.proofs.Moving.{goes_none, goes_trans}
pub use Rattle.migrator.specs.Durable.{DurableState, FrozenPuts, GoesOn, Stored, below_at, is_sound, left_of, newest}
pub use Rattle.migrator.specs.Durable.{on_snapshots, saved_state, seen_of, stored_of}
pub use Rattle.migrator.specs.Put.{Absent, Broken, HasFreeSlot, Kept, Put, put_at}
pub use Rattle.model.specs.Frame.{content_behind, frame_at, header_at, headers, held_at}
pub use Rattle.model.specs.Keepable.{AreKeepable, IsKeepable}
pub use Rattle.model.specs.Machine.{touched_count}
unfoldable pub use Rattle.model.specs.Machine.{untouched}
pub use Rattle.model.specs.Object.{words_in}
pub use Rattle.model.specs.Revoke.{is_member}
pub use Rattle.model.specs.Sound.{object_count}
pub use Rattle.model.specs.declared.answer.Refusal.{Refusal}
pub use Rattle.model.specs.declared.capability.Cap.{Cap}
pub use Rattle.model.specs.declared.frame.Frame.{Frame}
pub use Rattle.model.specs.declared.frame.ObjectHeader.{ObjectHeader}
pub use Rattle.model.specs.declared.object.Content.{Content}
pub use Rattle.model.specs.declared.object.ContentRef.{ContentRef}
pub use Rattle.model.specs.declared.object.Role.{Role}
pub use Rattle.std.proofs.Common.{ap, arith, refl}
pub use Rattle.std.specs.List.{range_with_len}
pub use Rattle.std.specs.Prelude.{Bool, IfOk, IsErrOf, IsSome, List, None, OnErr, OnOk, Option, Result, Some, count_by}
pub use Rattle.std.specs.Prelude.{false, is_some, length, map, nat_le, option_map, replicate, slice_index_or, slice_set}
pub use Rattle.std.specs.Prelude.{true, ℕ}
