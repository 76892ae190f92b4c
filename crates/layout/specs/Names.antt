-- The names of other crates that the definitions here cite.
pub use Rattle.byteorder.specs.Endian.{little_bytes, little_number}
pub use Rattle.device.specs.Calls.{Agrees, Elsewhere, IsTorn, Narrows, Tears}
pub use Rattle.device.specs.Disk.{Disk, Image}
pub use Rattle.device.specs.Moments.{Elapses, LeavesOnly, Peeks}
pub use Rattle.model.specs.Capability.{access_bits, named, tag_of}
pub use Rattle.model.specs.Frame.{frame_at, void_held}
pub use Rattle.model.specs.Keepable.{AreKeptSlots, AreKeptWords, IsCount, IsKeepable, IsKeptCap}
pub use Rattle.model.specs.Object.{is_free, role_number, role_of, state_number}
unfoldable pub use Rattle.model.specs.Object.{zero_words}
pub use Rattle.model.specs.Sound.{IsSpace}
pub use Rattle.model.specs.declared.access.Access.{Access}
pub use Rattle.model.specs.declared.capability.Cap.{Cap}
pub use Rattle.model.specs.declared.capability.Capability.{Capability}
pub use Rattle.model.specs.declared.capability.Capability.TheVariants.{Bank, Discrim, Node, Number, Page, Process}
pub use Rattle.model.specs.declared.capability.Capability.TheVariants.{Resume, Space, Start, Void}
pub use Rattle.model.specs.declared.frame.Frame.{Frame}
pub use Rattle.model.specs.declared.frame.ObjectHeader.{ObjectHeader}
pub use Rattle.model.specs.declared.geometry.Geometry.{Geometry}
pub use Rattle.model.specs.declared.object.Content.{Content}
pub use Rattle.model.specs.declared.object.Role.{Role}
pub use Rattle.model.specs.declared.object.Root.{Root}
pub use Rattle.model.specs.declared.object.State.{State}
pub use Rattle.model.specs.declared.object.State.TheVariants.{Available, Running, Waiting}
pub use Rattle.seal.specs.Sums.{Fit}
unfoldable pub use Rattle.seal.specs.Sums.{sums_bytes, sums_of}
pub use Rattle.seal.specs.declared.sums.Sums.{Sums}
pub use Rattle.std.specs.List.{All, between, flat_map, range_with_len}
pub use Rattle.std.specs.Prelude.{Bool, IsTrue, List, None, Option, Some, [], codes, drop, length, map, nat_le, nat_lt}
pub use Rattle.std.specs.Prelude.{replicate, slice_index, slice_index_or, suc, take, unwrap_or, zero, ℕ, ⊤}
