-- Capabilities are read back from their bytes.
use Rattle.layout.proofs.Names.{nat_tests, [], ℕ, List, length, get_or, take, drop, sym, ap, subst, append_assoc, arith, le_bytes_8, take_all, drop_all}
use Rattle.layout.proofs.Names.{append-nil, Access, Cap, Capability, Geometry, tag_of, access_bits, IsAccess, Follows, IsKeptCap, number, short_number, key_of}
use Rattle.layout.proofs.Names.{height_of, number_of, head_bytes, capability_bytes, head_number, HeadFits, assembled}
use Rattle.std.proofs.Common.{◌≡◌, ◌+◌, ◌*◌, ◌/◌, ◌%◌, ◌^◌, ◌<◌, ◌∷◌, ◌++◌, ◌∙◌}
use Rattle.layout.proofs.Numbers.{number_splits}

pub small_8 : (a b c d e f g h : ℕ) → a < 256 → b < 256 → c < 256 → d < 256 → e < 256 → f < 256 → g < 256 → h < 256
    → (i : ℕ) → get_or (a ∷ b ∷ c ∷ d ∷ e ∷ f ∷ g ∷ h ∷ []) i 0 < 256
small_8 a b c d e f g h pa pb pc pd pe pf pg ph i = grind (arith, nat_tests)

-- tag, access, key and height are the bytes of one number
fields_number : (t a k h : ℕ) → t < 256 → a < 256 → k < 65536 → h < 256
    → (t ∷ a ∷ []) ++ short_number k ++ h ∷ 0 ∷ 0 ∷ 0 ∷ [] ≡ number (t + 256 * a + 65536 * k + 4294967296 * h)
unfolding number short_number
fields_number t a k h ft fa fk fh = grind (arith, nat_tests, le_bytes_8, small_8)

tag_fits : (k : Capability) → tag_of k < 256
tag_fits k = grind (arith, nat_tests)

head_is : (k : Capability) → HeadFits k → head_bytes k ≡ number (head_number k)
unfolding head_bytes
head_is k fits = fields_number (tag_of k) (access_bits k) (key_of k) (height_of k) (tag_fits k) fits.access fits.key fits.height

-- the bytes of a capability are those of three numbers
pub as_numbers : (c : Cap) → HeadFits c.what → capability_bytes c ≡ number (head_number c.what) ++
    (number (number_of c.what) ++ number c.count)
unfolding capability_bytes
as_numbers c fits = grind (arith, nat_tests, head_is, append_assoc)

-- if three numbers were read in turn, the bytes are theirs
pub three_read : (bytes : List ℕ) (a b c : ℕ) → length bytes ≡ 24 → bytes ≡ number a ++ drop 8 bytes →
    drop 8 bytes ≡ number b ++ drop 16 bytes → drop 16 bytes ≡ number c ++ drop 24 bytes
    → bytes ≡ number a ++ (number b ++ number c)
three_read bytes a b c len ea eb ec = grind (arith, nat_tests, drop_all 24 bytes (omega arith), append-nil (number c))

access_fits : (a : Access) → IsAccess a → a.0 < 256
access_fits a h1 = grind (arith, nat_tests)

pub record CapFits (c : Cap) : Type 0 where
  pub head : HeadFits c.what
  pub object : number_of c.what < 2 ^ 64
  pub count : c.count < 2 ^ 64

-- a capability that may be kept fits its bytes
pub follows_fits : (g : Geometry) (age count : ℕ) (k : Capability) → Follows g age count k → CapFits (record { what = k; count = count })
follows_fits g age count k f = grind (arith, nat_tests, access_fits)

-- a capability is assembled again from its own fields
assembled_again : (k : Capability) (tag bits key height n : ℕ) → tag ≡ tag_of k → bits ≡ access_bits k → key ≡ key_of k →
    height ≡ height_of k → n ≡ number_of k → assembled tag (record { 0 = bits }) key height n ≡ k
assembled_again k tag bits key height n et eb ek eh en = grind (arith, nat_tests)

-- tag, access, key and height are computed from their number
head_parts : (t a k h : ℕ) → t < 256 → a < 256 → k < 65536 → h < 256 →
    let n = t + 256 * a + 65536 * k + 4294967296 * h in (n % 256 ≡ t) × (n / 256 % 256 ≡ a) × (n / 65536 % 65536 ≡ k)
    × (n / 4294967296 % 256 ≡ h)
head_parts t a k h ft fa fk fh = (omega arith, omega arith, omega arith, omega arith)

pub made_again : (k : Capability) (head bits n : ℕ) → HeadFits k → head ≡ head_number k → n ≡ number_of k → bits ≡ head / 256 % 256
    → assembled (head % 256) (record { 0 = bits }) (head / 65536 % 65536) (head / 4294967296 % 256) n ≡ k
made_again k head bits n fits eh en eb = grind (arith, nat_tests, head_parts, tag_fits, assembled_again)

-- these three numbers encode the capability
pub record HasNumbers (c : Cap) (head object count : ℕ) : Type 0 where
  pub head_is : head ≡ head_number c.what
  pub object_is : object ≡ number_of c.what
  pub count_is : count ≡ c.count

pub head_below : (k : Capability) → HeadFits k → head_number k < 2 ^ 64
head_below k fits = let t = tag_fits k in omega (arith, fits.access, fits.key, fits.height)

pub spelt_numbers : (c : Cap) (head object count : ℕ) → CapFits c → head < 2 ^ 64 → object < 2 ^ 64 → count < 2 ^ 64
    → number head ++ (number object ++ number count) ≡ capability_bytes c → HasNumbers c head object count
spelt_numbers c head object count fits fh fo fc e =
    let a = number_splits head (head_number c.what) (number object ++ number count) (number (number_of c.what) ++ number c.count) fh
    (head_below c.what fits.head) (e ∙ as_numbers c fits.head) in
    let b = number_splits object (number_of c.what) (number count) (number c.count) fo fits.object a.1 in
    let d = number_splits count c.count [] [] fc fits.count (ap (λ (r : List ℕ). r ++ []) b.1) in
    record { head_is = a.0; object_is = b.0; count_is = d.0 }

pub same_cap : (b c : Cap) → b.what ≡ c.what → b.count ≡ c.count → b ≡ c
same_cap b c w n = ap (λ (k : Capability). record { what = k; count = b.count }) w ∙ ap (λ (m : ℕ). record { what = c.what; count = m }) n

-- if three numbers were written in turn, the bytes are theirs
pub three_written : (new mid first old : List ℕ) (a b c : ℕ) → length new ≡ 24 → take 24 new ≡ take 16 mid ++ number c →
    take 16 mid ≡ take 8 first ++ number b → take 8 first ≡ take 0 old ++ number a
    → new ≡ number a ++ (number b ++ number c)
three_written new mid first old a b c len ec eb ea = cc (take_all 24 new (omega arith), append_assoc (number a) (number b) (number c))

-- bytes whose three numbers give no valid capability encode none
pub none_spelt : (g : Geometry) (age : ℕ) (bytes : List ℕ) (head object count bits : ℕ) (what : Capability) → head < 2 ^ 64 →
    object < 2 ^ 64 → count < 2 ^ 64 → bytes ≡ number head ++ (number object ++ number count)
    → bits ≡ head / 256 % 256 → what ≡ assembled (head % 256) (record { 0 = bits }) (head / 65536 % 65536) (head / 4294967296 % 256) object
    → (head_number what ≡ head → number_of what ≡ object → IsKeptCap g age (record { what = what; count = count }) → ⊥)
    → (c : Cap) → IsKeptCap g age c → bytes ≡ capability_bytes c → ⊥
none_spelt g age bytes head object count bits what fh fo fc is eb made hold c fits e =
    let all = follows_fits g age c.count c.what fits in
    let n = spelt_numbers c head object count all fh fo fc (sym is ∙ e) in
    let same : what ≡ c.what = made ∙ made_again c.what head bits object all.head n.head_is n.object_is eb in
    hold (ap head_number same ∙ sym n.head_is) (ap number_of same ∙ sym n.object_is)
    (subst (λ (k : Capability). IsKeptCap g age (record { what = k; count = count })) (sym same)
    (subst (λ (m : ℕ). IsKeptCap g age (record { what = c.what; count = m })) (sym n.count_is) fits))

-- given bytes encode at most one capability
pub one_capability : (g : Geometry) (age : ℕ) (b c : Cap) → IsKeptCap g age b → IsKeptCap g age c →
    capability_bytes b ≡ capability_bytes c → b ≡ c
one_capability g age b c fb fc e = grind (arith, nat_tests, follows_fits, spelt_numbers, head_below, as_numbers, made_again, same_cap)
