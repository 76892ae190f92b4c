-- What the calls of a device in memory change: its image, and what a crash may leave.
use Rattle.devices.proofs.Names.{ℕ, List, [], subst, Outcome, Mirror, IsWhole, Agrees, Elsewhere, AreSectors, sectors_of, image_of, Narrows, Tears, Only}
use Rattle.devices.proofs.Names.{Elapses, synced, left_by, writes_of, EndsCut, past_of, state_of, disk_of_mirror, present_whole, durable_whole, synced_same}
use Rattle.std.proofs.Common.{◌≡◌, ◌∷◌, ◌++◌}
use Rattle.devices.proofs.Disks as Disks

module _ (old new : Mirror) (first_is : new.first ≡ old.first) (sectors_is : new.sectors ≡ old.sectors) (failures risen : ℕ) where
  -- facts after a write
  module _ (at : ℕ) (bytes : List ℕ) (past_is : past_of new ≡ past_of old ++ writes_of at (sectors_of bytes) bytes) where
    pub mirror_written : AreSectors (disk_of_mirror risen new).seen at bytes
    mirror_written = rw first_is (Disks.write_written old.sectors (image_of old.first.items) (past_of old) (past_of new) at bytes past_is)

    pub mirror_elsewhere : Elsewhere at (sectors_of bytes) (disk_of_mirror failures old).seen (disk_of_mirror risen new).seen
    mirror_elsewhere = rw first_is (Disks.write_elsewhere old.sectors (image_of old.first.items) (past_of old) (past_of new) at bytes
        past_is)

    pub mirror_tears : Tears at (sectors_of bytes) (disk_of_mirror failures old) (disk_of_mirror risen new)
    mirror_tears =
        rw (first_is, sectors_is)
        (Disks.write_crash old.sectors (image_of old.first.items) (past_of old) (past_of new) at bytes past_is
        (durable_whole _ _ _ _ _ _ old.sound) failures
        risen)

    pub mirror_write_time : Elapses (disk_of_mirror failures old) (disk_of_mirror risen new)
    mirror_write_time = rw (first_is, sectors_is)
        (Disks.write_time old.sectors (image_of old.first.items) (past_of old) (past_of new) at bytes past_is failures risen)

  -- facts after a sync
  module _ (past_is : past_of new ≡ past_of old ++ synced ∷ []) where
    pub mirror_sync_durable : Only (disk_of_mirror risen new).seen (disk_of_mirror risen new)
    mirror_sync_durable = rw (first_is, sectors_is) (Disks.sync_durable old.sectors (image_of old.first.items) (past_of old) (past_of new)
        past_is risen)

    pub mirror_sync_seen : Agrees (disk_of_mirror risen new).seen (disk_of_mirror failures old).seen
    mirror_sync_seen = rw first_is (Disks.sync_seen old.sectors (image_of old.first.items) (past_of old) (past_of new) past_is)

    pub mirror_sync_narrows : Narrows (disk_of_mirror failures old) (disk_of_mirror risen new)
    mirror_sync_narrows =
        rw (first_is, sectors_is)
        (Disks.sync_crash old.sectors (image_of old.first.items) (past_of old) (past_of new) past_is (synced_same _ _ _ _ _ _ old.sound)
        failures risen)

    pub mirror_sync_time : Elapses (disk_of_mirror failures old) (disk_of_mirror risen new)
    mirror_sync_time = rw (first_is, sectors_is) (Disks.sync_time old.sectors (image_of old.first.items) (past_of old) (past_of new) past_is
        failures risen)

  -- facts after a power cut
  module _ (outcome : Outcome) (past_is : EndsCut outcome (past_of old) (past_of new)) where
    pub mirror_cut_durable : Only (disk_of_mirror risen new).seen (disk_of_mirror risen new)
    mirror_cut_durable = Disks.cut_durable new.sectors (image_of new.first.items) (past_of old) (past_of new) outcome past_is
        (synced_same _ _ _ _ _ _ new.sound) risen

    pub mirror_cut_left : Agrees (disk_of_mirror risen new).seen (left_by outcome (state_of old)) →
        (disk_of_mirror failures old).may_leave (disk_of_mirror risen new).seen
    mirror_cut_left left =
        Disks.cut_may_leave old.sectors outcome (state_of old) (state_of new).present
        (subst (λ (n : ℕ). IsWhole n (state_of new).present) sectors_is (present_whole _ _ _ _ _ _ new.sound))
        (synced_same _ _ _ _ _ _ old.sound) left

    pub mirror_cut_time : Elapses (disk_of_mirror failures old) (disk_of_mirror risen new)
    mirror_cut_time = rw (first_is, sectors_is)
        (Disks.cut_time old.sectors (image_of old.first.items) (past_of old) (past_of new) outcome past_is failures risen)
