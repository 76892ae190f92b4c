-- Headers of checkpoints are read back from their bytes.
use Rattle.layout.proofs.Names.{nat_tests, [], ℕ, Bool, cond, List, drop, refl, sym, ap, append_assoc, arith, codes, CheckpointHeader, number, zeros}
use Rattle.layout.proofs.Names.{header_bytes, IsHeader}
use Rattle.std.proofs.Common.{◌≡◌, ◌^◌, ◌<◌, ◌≤◌, ◌∷◌, ◌++◌, ◌∙◌}
use Rattle.std.specs.Prelude.{◌==◌}
use Rattle.layout.proofs.Numbers.{stream, AllFit, stream_splits, IsWritten, written_all, drop_filled}

abbrev pub fields : CheckpointHeader → List ℕ
fields h = h.sequence ∷ h.generation ∷ h.entries ∷ h.age ∷ []

magic_is : codes "EROSHEAD" ≡ number 0x4441_4548_534f_5245
unfolding number
magic_is = refl

pub six : (m a b c d z : List ℕ) → m ++ a ++ b ++ c ++ d ++ z ≡ m ++ (a ++ (b ++ (c ++ (d ++ z))))
six m a b c d z = simp append_assoc

-- the bytes of a header are those of five numbers, then zeros
pub header_stream : (h : CheckpointHeader) → header_bytes h ≡ stream (0x4441_4548_534f_5245 ∷ fields h) (zeros 472)
unfolding header_bytes
header_stream h =
    ap (λ (m : List ℕ). m ++ number h.sequence ++ number h.generation ++ number h.entries ++ number h.age ++ zeros 472) magic_is
    ∙ six (number 0x4441_4548_534f_5245) (number h.sequence) (number h.generation) (number h.entries) (number h.age) (zeros 472)

-- if five numbers were read in turn, the bytes are theirs
pub five_read : (bytes : List ℕ) (m a b c d : ℕ) → bytes ≡ number m ++ drop 8 bytes → drop 8 bytes ≡ number a ++ drop 16 bytes →
    drop 16 bytes ≡ number b ++ drop 24 bytes
    → drop 24 bytes ≡ number c ++ drop 32 bytes → drop 32 bytes ≡ number d ++ drop 40 bytes →
    bytes ≡ stream (m ∷ a ∷ b ∷ c ∷ d ∷ []) (drop 40 bytes)
five_read bytes m a b c d em ea eb ec ed = grind (arith, nat_tests)

pub one_more : (b : Bool) → cond b 1 0 ≤ 1
one_more b = grind (arith, nat_tests)

sequence_fits : (room : ℕ) (h : CheckpointHeader) → IsHeader 0 room h → h.sequence < 2 ^ 64
sequence_fits room h is = let more = one_more (h.entries == 0) in omega (arith, is.sequence, is.age, more)

pub header_fits : (room : ℕ) (h : CheckpointHeader) → IsHeader 0 room h → AllFit (0x4441_4548_534f_5245 ∷ fields h)
header_fits room h is = (
  omega arith,
  (
    sequence_fits room h is,
    (
      omega (arith, is.generation, is.age),
      (is.entries_fit, (omega (arith, is.age), tt)),
    ),
  ),
)

-- the first number is the magic, the next four are the fields of h, and the rest is zeros
pub record HasFields (h : CheckpointHeader) (m : ℕ) (found : CheckpointHeader) (rest : List ℕ) : Type 0 where
  pub magic_is : m ≡ 0x4441_4548_534f_5245
  pub header_is : found ≡ h
  pub rest_is : rest ≡ zeros 472

-- if bytes are those of five numbers, and encode h, the numbers are the magic and the fields of h
pub spelt_fields : (bytes rest : List ℕ) (m : ℕ) (found h : CheckpointHeader) → AllFit (m ∷ fields found) →
    bytes ≡ stream (m ∷ fields found) rest → AllFit (0x4441_4548_534f_5245 ∷ fields h) → bytes ≡ header_bytes h → HasFields h m found rest
spelt_fields bytes rest m found h fits read all e =
    grind (
      arith,
      nat_tests,
      stream_splits (m ∷ fields found) (0x4441_4548_534f_5245 ∷ fields h) rest (zeros 472) fits all refl (sym read ∙ e ∙ header_stream h),
      all,
      header_stream h,
    )

pub spelt_header : (room : ℕ) (bytes rest : List ℕ) (m : ℕ) (found h : CheckpointHeader) → AllFit (m ∷ fields found)
    → bytes ≡ stream (m ∷ fields found) rest → IsHeader 0 room h → bytes ≡ header_bytes h → HasFields h m found rest
spelt_header room bytes rest m found h fits read is e = spelt_fields bytes rest m found h fits read (header_fits room h is) e

-- given bytes encode at most one header whose fields fit 8 bytes each
pub one_spelt : (g h : CheckpointHeader) → AllFit (0x4441_4548_534f_5245 ∷ fields g) → AllFit (0x4441_4548_534f_5245 ∷ fields h) →
    header_bytes g ≡ header_bytes h → g ≡ h
one_spelt g h fg fh e = (spelt_fields (header_bytes g) (zeros 472) 0x4441_4548_534f_5245 g h fg (header_stream g) fh e).header_is

pub one_header : (room : ℕ) (g h : CheckpointHeader) → IsHeader 0 room g → IsHeader 0 room h → header_bytes g ≡ header_bytes h → g ≡ h
one_header room g h ig ih e = one_spelt g h (header_fits room g ig) (header_fits room h ih) e

pub header_written : (filled now : List ℕ) (h : CheckpointHeader) → filled ≡ zeros 512
    → IsWritten filled (number 0x4441_4548_534f_5245 ++ number h.sequence ++ number h.generation ++ number h.entries ++ number h.age) now 40
    → now ≡ header_bytes h
header_written filled now h blank was =
    written_all filled (number 0x4441_4548_534f_5245 ++ number h.sequence ++ number h.generation ++ number h.entries ++ number h.age) now 40
    was
    ∙ ap (λ (z : List ℕ). number 0x4441_4548_534f_5245 ++ number h.sequence ++ number h.generation ++ number h.entries ++ number h.age ++ z)
    (drop_filled filled 512 40 blank)
    ∙ six (number 0x4441_4548_534f_5245) (number h.sequence) (number h.generation) (number h.entries) (number h.age) (zeros 472)
    ∙ sym (header_stream h)
