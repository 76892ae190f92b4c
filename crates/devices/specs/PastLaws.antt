-- Each device with a record satisfies the laws of `Device`.
use Rattle.devices.specs.Names.{ℕ, List, length, take, drop, All, arith, sym, subst, ap, length-drop, take_all}
use Rattle.devices.specs.Names.{drop_all, length-take-le, All-take, All-drop, Image, IsWhole, image_of}
use Rattle.std.specs.Prelude.{◌≡◌, ◌≤◌, ◌<◌, ◌*◌}
use Rattle.devices.specs.Past.{Event, at_first, replay, MayLeave}

module _ (sectors : ℕ) (first : Image) (past : List Event) where
  -- an image that a crash may leave now is also one that a crash since an earlier moment might have left
  pub past_counts_now : (t : ℕ) (c : Image) → t ≤ length past → MayLeave sectors (replay (at_first first) past) c
      → (k : ℕ) × (t ≤ k) × (k ≤ length past) × MayLeave sectors (replay (at_first first) (take k past)) c
  past_counts_now t c le left =
      let all : take (length past) past ≡ past = take_all (length past) past (omega arith) in (
        length past,
        le,
        omega arith,
        subst (λ (es : List Event). MayLeave sectors (replay (at_first first) es) c)
            (sym all) left,
      )

  -- an image that a crash since now may have left is one that a crash now may leave
  pub past_only_now : (c : Image) → (k : ℕ) × (length past ≤ k) × (k ≤ length past) × MayLeave sectors
      (replay (at_first first) (take k past)) c
      → MayLeave sectors (replay (at_first first) past) c
  past_only_now c left =
      let all : take left.0 past ≡ past = take_all left.0 past left.1 in
      subst (λ (es : List Event). MayLeave sectors (replay (at_first first) es) c) all left.3

-- a list of 512 bytes for each sector is a whole image
pub image_whole : (sectors : ℕ) (bytes : List ℕ) → length bytes ≡ 512 * sectors → All (λ b. b < 256) bytes →
    IsWhole sectors (image_of bytes)
image_whole sectors bytes size fits = record {
  size = λ i lt. length-take-le 512 (drop (512 * i) bytes) (omega (arith, size, length-drop (512 * i) bytes));
  bytes = λ i. All-take (λ b. b < 256) 512 (drop (512 * i) bytes) (All-drop (λ b. b < 256) (512 * i) bytes fits);
  nothing_beyond = λ i le. ap (λ (rest : List ℕ). take 512 rest) (drop_all (512 * i) bytes (omega (arith, size, le)));
}
