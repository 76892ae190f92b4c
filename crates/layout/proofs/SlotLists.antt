-- Capabilities one after the other.
use Rattle.layout.proofs.Names.{nat_tests, [], ℕ, List, length, get_or, set, take, drop, refl, sym, ap, append_assoc, arith, replicate, All, between}
use Rattle.layout.proofs.Names.{same_lists, take_rest, length-replicate, get_or-replicate, drop_more, take_more, take_more_set, take_at, drop_at, append-nil}
use Rattle.layout.proofs.Names.{length-append, length-set, length-take, length-drop, take-append-drop, take-add, flat_map-append, All-push, All-replicate}
use Rattle.layout.proofs.Names.{All-nil, All-head, All-tail, All-same, take-put_mid, Cap, Geometry, void_held, IsKeptCap, AreKeptSlots, number, short_number}
use Rattle.layout.proofs.Names.{capability_bytes, head_bytes, slots_bytes}
use Rattle.std.proofs.Common.{◌≡◌, ◌+◌, ◌-◌, ◌*◌, ◌<◌, ◌≤◌, ◌∷◌, ◌++◌, ◌∙◌}
use borrow.Rule.Slice.PartMut.{put_mid}
use Rattle.layout.proofs.Capabilities.{one_capability}

pub length-capability : (c : Cap) → length (capability_bytes c) ≡ 24
unfolding capability_bytes head_bytes number short_number
length-capability c = refl

pub slots_bytes-nil : slots_bytes [] ≡ []
unfolding slots_bytes
slots_bytes-nil = refl

pub slots_bytes-cons : (c : Cap) (cs : List Cap) → slots_bytes (c ∷ cs) ≡ capability_bytes c ++ slots_bytes cs
unfolding slots_bytes
slots_bytes-cons c cs = refl

pub slots_bytes-append : (bs cs : List Cap) → slots_bytes (bs ++ cs) ≡ slots_bytes bs ++ slots_bytes cs
unfolding slots_bytes
slots_bytes-append bs cs = flat_map-append capability_bytes bs cs

pub slots_bytes-push : (cs : List Cap) (c : Cap) → slots_bytes (cs ++ c ∷ []) ≡ slots_bytes cs ++ capability_bytes c
slots_bytes-push cs c = grind (arith, nat_tests, slots_bytes-append, slots_bytes-cons, slots_bytes-nil, append-nil)

pub length-slots : (cs : List Cap) → length (slots_bytes cs) ≡ 24 * length cs
length-slots [] = ap length slots_bytes-nil
length-slots (c ∷ cs) = grind (arith, nat_tests, slots_bytes-cons, length-append, length-capability, length-slots cs)

-- if i capabilities were written, and then the next, i + 1 are written
pub slot_written : (caps : List Cap) (into buf : List ℕ) (i k : ℕ) (d : Cap) → i < length caps → length into ≡ 24 * length caps → k ≡ 24
    → take (24 * i) into ≡ slots_bytes (take i caps) → buf ≡ capability_bytes (get_or caps i d)
    → take (24 * (i + 1)) (put_mid (24 * i) k into buf) ≡ slots_bytes (take (i + 1) caps)
slot_written caps into buf i k d lt len _ before is =
    let size : length buf ≡ 24 = ap length is ∙ length-capability (get_or caps i d) in
    take-put_mid (24 * i) k into buf (24 * (i + 1)) (omega arith) (omega arith)
    ∙ ap (λ (r : List ℕ). r ++ buf) before ∙ ap (λ (r : List ℕ). slots_bytes (take i caps) ++ r) is
    ∙ sym (slots_bytes-push (take i caps) (get_or caps i d)) ∙ ap slots_bytes (sym (take_more caps i d lt))

-- the first i capabilities that were read may be kept, and are encoded by the first 24 i bytes
pub record AreRead (g : Geometry) (age : ℕ) (bytes : List ℕ) (into : List Cap) (i : ℕ) : Type 0 where
  pub bytes_are : take (24 * i) bytes ≡ slots_bytes (take i into)
  pub each : All (IsKeptCap g age) (take i into)
  pub count : length into ≡ 32

take_bytes : (bytes : List ℕ) (i : ℕ) → take (24 * (i + 1)) bytes ≡ take (24 * i) bytes ++ take 24 (drop (24 * i) bytes)
take_bytes bytes i = grind (arith, nat_tests, take-add (24 * i) 24 bytes)

pub slot_read : (g : Geometry) (age : ℕ) (bytes : List ℕ) (into : List Cap) (i : ℕ) (c : Cap) → i < 32
    → AreRead g age bytes into i → IsKeptCap g age c → take 24 (drop (24 * i) bytes) ≡ capability_bytes c →
    AreRead g age bytes (set into i c) (i + 1)
slot_read g age bytes into i c lt before fits is =
    let more : take (i + 1) (set into i c) ≡ take i into ++ c ∷ [] = take_more_set into i c (omega (arith, before.count)) in
    record {
      bytes_are = take_bytes bytes i ∙ ap (λ (r : List ℕ). r ++ take 24 (drop (24 * i) bytes)) before.bytes_are ∙
          ap (λ (r : List ℕ). slots_bytes (take i into) ++ r) is
          ∙ sym (slots_bytes-push (take i into) c) ∙ ap slots_bytes (sym more);
      each = All-same (IsKeptCap g age) (take (i + 1) (set into i c)) (take i into ++ c ∷ []) more
          (All-push (IsKeptCap g age) (take i into) c before.each fits);
      count = length-set into i c ∙ before.count;
    }

pub none_read : (g : Geometry) (age : ℕ) (bytes : List ℕ) (into : List Cap) → length into ≡ 32 → AreRead g age bytes into 0
none_read g age bytes into len = record { bytes_are = sym slots_bytes-nil; each = All-nil (IsKeptCap g age); count = len }

pub piece_is : (bytes : List ℕ) (at : ℕ) → between at (at + 24) bytes ≡ take 24 (drop at bytes)
piece_is bytes at = let size : at + 24 - at ≡ 24 = omega arith in ap (λ (n : ℕ). take n (drop at bytes)) size

-- bytes 24 i to 24 i + 23 of a list of capabilities encode its i-th
piece_of : (cs : List Cap) (i : ℕ) (d : Cap) → i < length cs → take 24 (drop (24 * i) (slots_bytes cs)) ≡ capability_bytes (get_or cs i d)
piece_of cs i d lt =
    let c : Cap = get_or cs i d in
    let parts : cs ≡ take i cs ++ c ∷ drop (i + 1) cs = sym (take-append-drop i cs)
    ∙ ap (λ (r : List Cap). take i cs ++ r) (drop_more cs i d lt) in
    let bytes_are : slots_bytes cs ≡ slots_bytes (take i cs) ++ (capability_bytes c ++ slots_bytes (drop (i + 1) cs)) =
    grind (arith, nat_tests, slots_bytes-append, slots_bytes-cons) in
    let size : length (slots_bytes (take i cs)) ≡ 24 * i = length-slots (take i cs)
    ∙ ap (λ (n : ℕ). 24 * n) (omega (arith, length-take i cs)) in
    ap (λ (bs : List ℕ). take 24 (drop (24 * i) bs)) bytes_are
    ∙ ap (take 24) (drop_at (slots_bytes (take i cs)) (capability_bytes c ++ slots_bytes (drop (i + 1) cs)) (24 * i) size)
    ∙ take_at (capability_bytes c) (slots_bytes (drop (i + 1) cs)) 24 (length-capability c)

pub none_spelt : (g : Geometry) (age : ℕ) (bytes : List ℕ) (i : ℕ) → i < 32
    → ((c : Cap) → IsKeptCap g age c → take 24 (drop (24 * i) bytes) ≡ capability_bytes c → ⊥)
    → (slots : List Cap) → AreKeptSlots g age slots → bytes ≡ slots_bytes slots → ⊥
none_spelt g age bytes i lt hold slots fits e =
    hold (get_or slots i void_held) (fits.each i void_held (omega (arith, fits.count)))
    (ap (λ (bs : List ℕ). take 24 (drop (24 * i) bs)) e ∙ piece_of slots i void_held (omega (arith, fits.count)))

-- given bytes encode at most one list of capabilities, whatever follows
pub slots_split : (g : Geometry) (age : ℕ) (bs cs : List Cap) (x y : List ℕ) → All (IsKeptCap g age) bs → All (IsKeptCap g age) cs →
    length bs ≡ length cs → slots_bytes bs ++ x ≡ slots_bytes cs ++ y → (bs ≡ cs) × (x ≡ y)
slots_split g age [] [] x y fb fc len e = (
  refl,
  ap (λ (r : List ℕ). r ++ x) (sym slots_bytes-nil) ∙ e
      ∙ ap (λ (r : List ℕ). r ++ y) slots_bytes-nil,
)
slots_split g age [] (c ∷ cs) x y fb fc len e = absurd (omega (arith, len))
slots_split g age (b ∷ bs) [] x y fb fc len e = absurd (omega (arith, len))
slots_split g age (b ∷ bs) (c ∷ cs) x y fb fc len e =
    let left : slots_bytes (b ∷ bs) ++ x ≡ capability_bytes b ++ (slots_bytes bs ++ x) =
    grind (arith, nat_tests, slots_bytes-cons, append_assoc) in
    let right : slots_bytes (c ∷ cs) ++ y ≡ capability_bytes c ++ (slots_bytes cs ++ y) =
    grind (arith, nat_tests, slots_bytes-cons, append_assoc) in
    let whole : capability_bytes b ++ (slots_bytes bs ++ x) ≡ capability_bytes c ++ (slots_bytes cs ++ y) = sym left ∙ e ∙ right in
    let first : b ≡ c = one_capability g age b c (All-head (IsKeptCap g age) b bs fb) (All-head (IsKeptCap g age) c cs fc)
    (sym (take_at (capability_bytes b) (slots_bytes bs ++ x) 24 (length-capability b)) ∙ ap (take 24) whole ∙
    take_at (capability_bytes c) (slots_bytes cs ++ y) 24 (length-capability c)) in
    let others = slots_split g age bs cs x y (All-tail (IsKeptCap g age) b bs fb) (All-tail (IsKeptCap g age) c cs fc) (omega (arith, len))
    (sym (drop_at (capability_bytes b) (slots_bytes bs ++ x) 24 (length-capability b)) ∙ ap (drop 24) whole ∙
    drop_at (capability_bytes c) (slots_bytes cs ++ y) 24 (length-capability c)) in
    (ap (λ (d : Cap). d ∷ bs) first ∙ ap (λ (ds : List Cap). c ∷ ds) others.0, others.1)

-- ---- slots that are void

voids_are : (xs : List Cap) (n : ℕ) → length xs ≡ n → All (λ c. c ≡ void_held) xs → xs ≡ replicate n void_held
voids_are xs n len all = grind (arith, nat_tests, same_lists, length-replicate, get_or-replicate)

are_voids : (xs : List Cap) (n : ℕ) → xs ≡ replicate n void_held → All (λ c. c ≡ void_held) xs
are_voids xs n e = All-same (λ (c : Cap). c ≡ void_held) xs (replicate n void_held) e
    (All-replicate (λ (c : Cap). c ≡ void_held) n void_held refl)

pub front_part : (slots : List Cap) (n : ℕ) → between 0 n slots ≡ take n slots
front_part slots n = let e : n - 0 ≡ n = omega arith in ap (λ (m : ℕ). take m slots) e

pub held_from : (slots caps : List Cap) → length slots ≡ 32 → length caps ≤ 32 → between 0 (length caps) slots ≡ caps
    → All (λ c. c ≡ void_held) (between (length caps) (length slots) slots) → slots ≡ caps ++ replicate (32 - length caps) void_held
held_from slots caps len few front rest = grind (
  arith,
  nat_tests,
  voids_are,
  length-drop,
  All-same,
  take_rest,
  take-append-drop,
  front_part,
)

pub held_rest : (slots caps : List Cap) → slots ≡ caps ++ replicate (32 - length caps) void_held →
    All (λ c. c ≡ void_held) (between (length caps) (length slots) slots)
held_rest slots caps e = grind (arith, nat_tests, are_voids, take_rest, drop_at)
