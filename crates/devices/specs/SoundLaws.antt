-- What `IsCopy` implies for the sectors of a file.
use Rattle.devices.specs.Names.{ℕ, Bool, false, List, [], refl, ap, subst, fun_ext, Image, IsWhole, image_of, or_parts}
use Rattle.std.specs.Prelude.{◌≡◌, ◌==◌, if◌then◌else◌, ◌∷◌}
use Rattle.std.proofs.Common.{◌∙◌}
use Rattle.devices.specs.Past.{Event, wrote, synced, cut, State, at_first, after, replay, MayLeave}
use Rattle.devices.specs.PastLaws.{image_whole}
use Rattle.devices.specs.Sound.{IsCopy, now_of}

-- a sector that wasn't written since the last sync or power cut is durable
abbrev IsSame : State → Type 0
IsSame s = (i : ℕ) → s.unsynced i ≡ false → s.present i ≡ s.durable i

same_after : (s : State) (e : Event) → IsSame s → IsSame (after s e)
same_after s (wrote n bytes) same i none =
    let both = or_parts (s.unsynced i) (i == n) none in
    ap (λ (b : Bool). if b then bytes else s.present i) both.1 ∙ same i both.0
same_after s synced same i none = refl
same_after s (cut outcome) same i none = refl

same_replay : (events : List Event) (s : State) → IsSame s → IsSame (replay s events)
same_replay [] s same = same
same_replay (e ∷ events) s same = same_replay events (after s e) (same_after s e same)

pub unwritten_same : (first : Image) (events : List Event) → IsSame (replay (at_first first) events)
unwritten_same first events = same_replay events (at_first first) (λ i none. refl)

module _ (sectors : ℕ) (copy first : List ℕ) (events : List Event) (sound : IsCopy sectors copy first events) where
  pub present_whole : IsWhole sectors (now_of first events).present
  present_whole = subst (IsWhole sectors) (fun_ext sound.present_is) (image_whole sectors copy sound.size sound.fits)

  -- a crash may leave what a read gives
  pub copy_seen_left : MayLeave sectors (now_of first events) (now_of first events).present
  copy_seen_left = record { whole = present_whole; untouched = unwritten_same (image_of first) events }
