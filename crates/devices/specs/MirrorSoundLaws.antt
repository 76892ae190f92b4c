-- What `IsSoundMirror` implies for the sectors of a device in memory.
use Rattle.devices.specs.Names.{ℕ, false, List, sym, subst, fun_ext, IsWhole}
use Rattle.std.specs.Prelude.{◌≡◌}
use Rattle.std.proofs.Common.{◌∙◌}
use Rattle.devices.specs.declared.record.RecordEntry.{RecordEntry}
use Rattle.devices.specs.Past.{MayLeave}
use Rattle.devices.specs.PastLaws.{image_whole}
use Rattle.devices.specs.MirrorSound.{IsSoundMirror, now_of}

module _ (sectors : ℕ) (first present synced : List ℕ) (entries : List RecordEntry) (settled : ℕ)
    (sound : IsSoundMirror sectors first present synced entries settled) where
  pub present_whole : IsWhole sectors (now_of first entries).present
  present_whole = subst (IsWhole sectors) (fun_ext sound.present_is)
      (image_whole sectors present sound.present_size sound.present_fits)

  pub durable_whole : IsWhole sectors (now_of first entries).durable
  durable_whole = subst (IsWhole sectors) (fun_ext sound.durable_is)
      (image_whole sectors synced sound.synced_size sound.synced_fits)

  -- a sector that wasn't written since the last sync is durable
  pub synced_same : (i : ℕ) → (now_of first entries).unsynced i ≡ false →
      (now_of first entries).present i ≡ (now_of first entries).durable i
  synced_same i none = sym (sound.present_is i) ∙ sound.same_elsewhere i (sym (sound.unsynced_are i) ∙ none) ∙
      sound.durable_is i

  -- a crash may leave what a read gives
  pub sound_seen_left : MayLeave sectors (now_of first entries) (now_of first entries).present
  sound_seen_left = record { whole = present_whole; untouched = synced_same }
