-- A device has the sectors of its file.
use Rattle.devices.proofs.Names.{nat_tests, ℕ, List, [], Option, None, Some, IfSome, length, take, drop, replicate, refl, sym, ap, subst, arith, length-append}
use Rattle.devices.proofs.Names.{take-add, drop-drop, length-replicate, take-replicate, concat, Disk, image_of, sectors_of, got_inside, zeros_are, Access, Lock}
use Rattle.devices.proofs.Names.{OpeningCall, reads, IsOpened, IsMade, Answers, Mirrors}
use Rattle.devices.specs.OpeningCalls.{sectors_in}
use Rattle.std.proofs.Common.{◌≡◌, ◌<◌, ◌≤◌, ◌+◌, ◌*◌, ◌/◌, ◌∷◌, ◌++◌, ◌∙◌}

-- if the file answered each read truly, the pieces that were read are its bytes, and it is unchanged
reads_true : (first now : List ℕ) (byte : ℕ) (pieces : List (List ℕ)) → Answers first (reads byte pieces) now
    → (now ≡ first) × (concat pieces ≡ take (length (concat pieces)) (drop byte first))
reads_true first now byte [] answers = (answers, refl)
reads_true first now byte (piece ∷ pieces) answers =
    let rest = reads_true first now (byte + length piece) pieces answers.1 in
    let size : length (concat (piece ∷ pieces)) ≡ length piece + length (concat pieces) = length-append piece (concat pieces) in (
      rest.0,
      ap (λ (l : List ℕ). l ++ concat pieces) answers.0
          ∙ ap (λ (l : List ℕ). take (length piece) (drop byte first) ++ l)
          (rest.1
          ∙ ap (λ (l : List ℕ). take (length (concat pieces)) l)
          (ap (λ (n : ℕ). drop n first) (omega arith) ∙ sym (drop-drop (length piece) byte first)))
          ∙ sym (take-add (length piece) (length (concat pieces)) (drop byte first))
          ∙ ap (λ (n : ℕ). take n (drop byte first)) (sym size),
    )

-- a device has no more sectors than its file, and at most 131072
sectors_within : (n : ℕ) → (sectors_in n ≤ n / 512) × (sectors_in n ≤ 131072)
sectors_within n = grind (arith, nat_tests)

-- if a file has at most 131072 sectors, the device has all its whole sectors
all_sectors : (n : ℕ) → n / 512 ≤ 131072 → sectors_in n ≡ n / 512
all_sectors n few = grind (arith, nat_tests)

module _ (disk : Disk) where
  opened_calls : (path : List ℕ) (access : Access) (lock : Lock) (calls : List OpeningCall) → IsOpened path access lock calls disk
      → Mirrors calls disk
  opened_calls path access lock calls is first now answers =
      let all = subst (λ (l : List OpeningCall). Answers first l now) is.made answers in
      let read = reads_true first now 0 is.pieces all.1.1.1.1 in
      let size = length (concat is.pieces) in
      let got : concat is.pieces ≡ take size (drop 0 now) = grind (arith, nat_tests) in
      let length_is : is.bytes ≡ length now = all.1.1.1.0 ∙ ap length (sym read.0) in
      let few = (sectors_within is.bytes).0 in
      let inside : 512 * (0 + sectors_of (concat is.pieces)) ≤ length now = omega (arith, is.whole, length_is, few) in (
        is.size ∙ ap sectors_in length_is,
        λ i lt. is.seen i
            ∙ got_inside now (concat is.pieces) 0 0 size got (omega arith) refl (omega (arith, is.whole)) inside i
            (omega (arith, is.whole, is.size, lt))
            ∙ ap (λ (n : ℕ). image_of now n) (omega arith),
      )

  abbrev AreZeros : ℕ → Type 0
  AreZeros sectors = (i : ℕ) → i < sectors → disk.seen i ≡ replicate 512 0

  made_calls : (path : List ℕ) (access : Access) (sectors : ℕ) (calls : List OpeningCall) → sectors ≤ 131072 → disk.sectors ≡ sectors →
      AreZeros sectors → IsMade path access sectors calls → Mirrors calls disk
  made_calls path access sectors calls few size zeros is first now answers =
      let all = subst (λ (l : List OpeningCall). Answers first l now) is.made answers in
      let now_is : now ≡ replicate (512 * sectors) 0 = all.1.1.1.1.1.1 ∙ take-replicate (512 * sectors) (512 * sectors) 0 (omega arith) in
      let count : length now ≡ 512 * sectors = ap length now_is ∙ length-replicate {A = ℕ} (512 * sectors) 0 in (
        size ∙ sym (all_sectors (length now) (omega (arith, count, few)) ∙ omega (arith, count)),
        λ i lt. zeros i (omega (arith, size, lt))
            ∙ sym (zeros_are now (512 * sectors) sectors i now_is refl (omega (arith, size, lt))),
      )

  pub opened_mirrors : (path : List ℕ) (access : Access) (lock : Lock) (calls : Option (List OpeningCall))
      → IfSome calls (λ calls. IsOpened path access lock calls disk) → IfSome calls (λ calls. Mirrors calls disk)
  opened_mirrors path access lock None is = tt
  opened_mirrors path access lock (Some calls) is = opened_calls path access lock calls is

  pub made_mirrors : (path : List ℕ) (access : Access) (sectors : ℕ) (calls : Option (List OpeningCall)) → sectors ≤ 131072 →
      disk.sectors ≡ sectors → AreZeros sectors → IfSome calls (λ calls. IsMade path access sectors calls) →
      IfSome calls (λ calls. Mirrors calls disk)
  made_mirrors path access sectors None few size zeros is = tt
  made_mirrors path access sectors (Some calls) few size zeros is = made_calls path access sectors calls few size zeros is
