-- Sectors stored in one list of bytes.
use Rattle.std.proofs.Common.{◌≡◌, ◌<◌, ◌≤◌, ℕ, ◌+◌, ◌*◌, ◌-◌, ◌%◌, List, [], ◌++◌, length, take, drop, replicate, sym, ◌∙◌, ap, subst, arith, length-drop}
use Rattle.std.proofs.Common.{take-append-drop}
use Rattle.std.proofs.lemmas.List.{drop-append-le, take-append-le, take_all, drop_all, length-take-le, drop-take, drop-drop, take-take, drop-replicate}
use Rattle.std.proofs.lemmas.List.{take-replicate}
use Rattle.std.proofs.lemmas.Slice.{drop-put_mid}
use Rattle.std.proofs.Math.Seq.{drop-append-add}
use borrow.Rule.Slice.PartMut.{put_mid}
use Rattle.device.specs.Calls.{image_of, sectors_of, AreSectors, Elsewhere}

-- a sector that lies within the list xs is the same in xs ++ ys
front : (xs ys : List ℕ) (i : ℕ) → 512 * i + 512 ≤ length xs → image_of (xs ++ ys) i ≡ image_of xs i
front xs ys i inside =
    ap (λ (rest : List ℕ). take 512 rest) (drop-append-le (512 * i) xs ys (omega (arith, inside)))
    ∙ take-append-le 512 (drop (512 * i) xs) ys (omega (arith, inside, length-drop (512 * i) xs))

-- if xs fills `at` sectors, sector at + i of xs ++ ys is sector i of ys
behind : (xs ys : List ℕ) (at i : ℕ) → length xs ≡ 512 * at → image_of (xs ++ ys) (at + i) ≡ image_of ys i
behind xs ys at i size =
    let place : 512 * (at + i) ≡ length xs + 512 * i = omega (arith, size) in
    ap (λ (n : ℕ). take 512 (drop n (xs ++ ys))) place ∙ ap (λ (rest : List ℕ). take 512 rest) (drop-append-add xs ys (512 * i))

-- facts after a write of whole sectors over a part of the list
module _ (bytes from : List ℕ) (at n : ℕ) (size : length from ≡ 512 * n) (inside : 512 * (at + n) ≤ length bytes) where
  put_before : (i : ℕ) → i < at → image_of (put_mid (512 * at) (512 * n) bytes from) i ≡ image_of bytes i
  put_before i lt =
      let length_front : length (take (512 * at) bytes) ≡ 512 * at = length-take-le (512 * at) bytes (omega (arith, inside)) in
      front (take (512 * at) bytes) _ i (omega (arith, length_front, lt))
      ∙ sym (front (take (512 * at) bytes) (drop (512 * at) bytes) i (omega (arith, length_front, lt)))
      ∙ ap (λ (all : List ℕ). image_of all i) (take-append-drop (512 * at) bytes)

  put_after : (i : ℕ) → at + n ≤ i → image_of (put_mid (512 * at) (512 * n) bytes from) i ≡ image_of bytes i
  put_after i le = ap (λ (rest : List ℕ). take 512 rest)
      (drop-put_mid (512 * at) (512 * n) bytes from (512 * i) (omega (arith, le)) (omega (arith, inside)) size)

  put_inside : (i : ℕ) → i < n → image_of from i ≡ image_of (put_mid (512 * at) (512 * n) bytes from) (at + i)
  put_inside i lt =
      let length_front : length (take (512 * at) bytes) ≡ 512 * at = length-take-le (512 * at) bytes (omega (arith, inside)) in
      sym (behind (take (512 * at) bytes) _ at i length_front ∙ front from _ i (omega (arith, size, lt)))

-- facts after a write, with lengths and positions as the code computes them
module _ (bytes from now : List ℕ) (at a k : ℕ) (same : now ≡ from) (a_is : a ≡ 512 * at) (k_is : k ≡ length from)
    (whole : length from % 512 ≡ 0)
    (inside : 512 * (at + sectors_of from) ≤ length bytes) where
  size : length from ≡ 512 * sectors_of from
  size = omega (arith, whole)

  put_is : put_mid a k bytes now ≡ put_mid (512 * at) (512 * sectors_of from) bytes from
  put_is =
      ap (λ (put : List ℕ). put_mid a k bytes put) same
      ∙ ap (λ (n : ℕ). put_mid n k bytes from) a_is
      ∙ ap (λ (n : ℕ). put_mid (512 * at) n bytes from) (k_is ∙ size)

  pub put_written : AreSectors (image_of (put_mid a k bytes now)) at from
  put_written = subst (λ (all : List ℕ). AreSectors (image_of all) at from) (sym put_is)
      (put_inside bytes from at (sectors_of from) size inside)

  pub put_elsewhere : Elsewhere at (sectors_of from) (image_of bytes) (image_of (put_mid a k bytes now))
  put_elsewhere = subst (λ (all : List ℕ). Elsewhere at (sectors_of from) (image_of bytes) (image_of all)) (sym put_is) (record {
    before = put_before bytes from at (sectors_of from) size inside;
    after = put_after bytes from at (sectors_of from) size inside;
  })

-- if a vector is overwritten through a slice of all of it, it holds the new bytes
pub rewritten : (n : ℕ) (new old : List ℕ) → n ≡ length old → length new ≡ length old → take n (new ++ drop (length new) old) ≡ new
rewritten n new old n_is same =
    ap (λ (l : List ℕ). take n (new ++ l)) (drop_all (length new) old (omega (arith, same)))
    ∙ take-append-le n new [] (omega (arith, same, n_is))
    ∙ take_all n new (omega (arith, same, n_is))

-- bytes that were read from part of the list are its sectors from `at` on, with lengths as the code computes them
pub got_inside : (bytes got : List ℕ) (at a k : ℕ) → got ≡ take k (drop a bytes) → a ≡ 512 * at → k ≡ length got → length got % 512 ≡ 0 →
    512 * (at + sectors_of got) ≤ length bytes
    → (i : ℕ) → i < sectors_of got → image_of got i ≡ image_of bytes (at + i)
got_inside bytes got at a k is a_is k_is whole inside i lt =
    let place : 512 * (at + i) ≡ a + 512 * i = omega (arith, a_is) in
    let room : 512 * i + 512 ≤ k = omega (arith, k_is, whole, lt) in
    let more : k ≡ 512 * i + (k - 512 * i) = omega (arith, room) in
    ap (λ (l : List ℕ). image_of l i) is
    ∙ ap (λ (n : ℕ). take 512 (drop (512 * i) (take n (drop a bytes)))) more
    ∙ ap (λ (l : List ℕ). take 512 l) (drop-take (512 * i) (k - 512 * i) (drop a bytes))
    ∙ take-take 512 (k - 512 * i) (drop (512 * i) (drop a bytes)) (omega (arith, room))
    ∙ ap (λ (l : List ℕ). take 512 l) (drop-drop (512 * i) a bytes)
    ∙ ap (λ (n : ℕ). take 512 (drop n bytes)) (omega (arith, place))

-- each sector of a list of zeros is 512 zeros
pub zeros_are : (bytes : List ℕ) (n sectors i : ℕ) → bytes ≡ replicate n 0 → n ≡ 512 * sectors → i < sectors →
    image_of bytes i ≡ replicate 512 0
zeros_are bytes n sectors i is n_is lt =
    ap (λ (l : List ℕ). image_of l i) is
    ∙ ap (λ (l : List ℕ). take 512 l) (drop-replicate (512 * i) n 0)
    ∙ take-replicate 512 (n - 512 * i) 0 (omega (arith, n_is, lt))
