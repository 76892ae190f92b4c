-- The names that the proofs here cite: of other crates, and of the definitions of this one.
pub use Rattle.collections.specs.SparseVec.{item_at}
pub use Rattle.device.proofs.Flat.{got_inside, put_elsewhere, put_written, rewritten, zeros_are}
pub use Rattle.device.specs.Calls.{Agrees, AreSectors, Elsewhere, Narrows, Only, Patches, Tears, image_of, sectors_of}
pub use Rattle.device.specs.Disk.{Disk, Image, IsWhole}
pub use Rattle.device.specs.Moments.{Elapses}
pub use Rattle.std.proofs.Common.{All, Bool, Bor, Err, Fits, IfErr, IfOk, IfSome, List, None, Ok, OnErr, OnOk, Option, Result, Some, [], ap, append-nil}
pub use Rattle.std.proofs.Common.{append_assoc, arith, drop, false, get_or, inl, inr, is_ok, is_some, length, length-append, length-drop, length-take}
pub use Rattle.std.proofs.Common.{length-take-le, min, nat_eq, nat_lt, option_map, refl, replicate, rules, subst, suc, sym, take, true, unwrap_or, vec_capacity}
pub use Rattle.std.proofs.Common.{zero, ℕ, ⊎_elim}
pub use Rattle.std.proofs.Math.Bool.{or-false, or_assoc}
pub use Rattle.std.proofs.Math.ListN.{set}
pub use Rattle.std.proofs.Math.Logic.{∥∥₁_map}
pub use Rattle.std.proofs.Math.Seq.{drop-append-add, take-add, take-append-add}
pub use Rattle.std.proofs.lemmas.Bool.{cases_Bool, cases_lt, cases_order, eq-eqb, eqb-false, eqb-true, lt-ltb, ne_eqb, or_cases, or_parts}
pub use Rattle.std.proofs.lemmas.Bool.Decides.{nat_tests}
pub use Rattle.std.proofs.lemmas.List.{drop-append-le, drop-drop, drop_all, get_or-replicate, get_or_default, length-replicate, replicate-append-replicate}
pub use Rattle.std.proofs.lemmas.List.{same_lists, take-append-drop, take-append-le, take-replicate, take-take, take_all, take_more, take_rest}
pub use Rattle.std.proofs.lemmas.List.Concat.{flat_map-append}
pub use Rattle.std.proofs.lemmas.List.Elements.{All-append, All-replicate}
pub use Rattle.std.proofs.lemmas.List.Folds.{concat-append}
pub use Rattle.std.proofs.lemmas.List.Sums.{sum_by-append}
pub use Rattle.std.proofs.lemmas.Nat.{le_or_l, le_or_r}
pub use Rattle.std.proofs.lemmas.Result.{err_from_is_err_and}
pub use Rattle.std.proofs.lemmas.Slice.{take-put_mid_below}
pub use Rattle.std.specs.Int.{w8}
pub use Rattle.std.specs.IoError.{error_kind}
pub use Rattle.std.specs.declared.io.ErrorKind.TheVariants.{Interrupted}
pub use Rattle.std.specs.List.{concat}
pub use Rattle.std.specs.Prelude.{IsTrue, bit_or}
pub use Rattle.devices.specs.CallErrors.{CallErrors, HasCause, HasFailed, NoneFailed, OneFailed, more_errors}
pub use Rattle.devices.specs.FileDevice.{file_disk}
pub use Rattle.devices.specs.Mirror.{disk_of_mirror, past_of, state_of}
pub use Rattle.devices.specs.MirrorSound.{IsSoundMirror, now_of, state_with}
pub use Rattle.devices.specs.MirrorSoundLaws.{durable_whole, present_whole, synced_same}
pub use Rattle.devices.specs.OpeningCalls.{Answers, Gets, GetsFrom, IsMade, IsOpened, KeepsLength, Loads, LoadsLocked, MakesZeros, Mirrors, OpeningCall}
pub use Rattle.devices.specs.OpeningCalls.{TakesLock, got, listed, locked, measured, opened, reads, resized, resizes}
pub use Rattle.devices.specs.Past.{EndsCut, Event, IsQuiet, MayLeave, State, after, at_first, cut, disk_of, left_by, replay, synced, writes_of, wrote}
pub use Rattle.devices.specs.PastLaws.{image_whole}
pub use Rattle.devices.specs.RawCalls.{Adds, Call, Deed, Takes, TakesFront, Tells, calls_of, events_by, fails_sync, fails_write, failures_by, syncs, taken}
pub use Rattle.devices.specs.RawCalls.{took, writes}
pub use Rattle.devices.specs.Record.{entries_of, entry_events, event_of, events_of, mark_after, mark_of, marked, names}
pub use Rattle.devices.specs.SectorCopy.{AreWhole, IsSector, bytes_of}
pub use Rattle.devices.specs.Sound.{IsCopy}
pub use Rattle.devices.specs.SoundLaws.{unwritten_same}
pub use Rattle.devices.specs.Steps.{fresh, stepped}
pub use Rattle.devices.specs.declared.fault.FileFault.{FileFault}
pub use Rattle.devices.specs.declared.history.History.{History}
pub use Rattle.devices.specs.declared.history.Step.TheVariants.{Failed, Held}
pub use Rattle.devices.specs.declared.mirror.Mirror.{Mirror}
pub use Rattle.devices.specs.declared.openable.Access.{Access}
pub use Rattle.devices.specs.declared.openable.Access.TheVariants.{Create, New}
pub use Rattle.devices.specs.declared.openable.Lock.{Lock}
pub use Rattle.devices.specs.declared.openable.Lock.TheVariants.{Exclusive}
pub use Rattle.devices.specs.declared.record.Action.{Action}
pub use Rattle.devices.specs.declared.record.Action.TheVariants.{Synced, Wrote}
pub use Rattle.devices.specs.declared.record.Outcome.{Outcome}
pub use Rattle.devices.specs.declared.record.Outcome.TheVariants.{Fill, Keep}
pub use Rattle.devices.specs.declared.record.RecordEntry.{RecordEntry}
