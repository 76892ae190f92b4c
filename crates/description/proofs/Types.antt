-- Which values are numbers, texts and capabilities.
use Rattle.description.proofs.Names.{nat_tests, inl, inr, ℕ, ℤ, true, false, Option, Some, None, is_some, List, IfSome, IfNone, sym, subst, arith, none-some}
use Rattle.description.proofs.Names.{same_Some, unsigned_abs, is_negative, IsWellFormed, named, capability_text, state_text, Capability, Number, State, Data}
use Rattle.description.proofs.Names.{string, integer, as_integer, as_str, IsCapability, IsNumber, IsState, IsWideNumber, Finds}
use Rattle.std.proofs.Common.{◌≡◌, ◌≢◌, ◌^◌, ◌<◌, ◌≤◌}
use Rattle.description.proofs.Once.{capability_once}

pub integer_is : (d : Data) (z : ℤ) → Some z ≡ as_integer d → d ≡ integer z
integer_is d z e = grind (arith, nat_tests, none-some, same_Some)

pub string_is : (d : Data) (text : List ℕ) → Some text ≡ as_str d → d ≡ string text
string_is d text e = grind (arith, nat_tests, same_Some, none-some)

pub negative : (d : Data) (z : ℤ) → Some z ≡ as_integer d → is_negative z ≡ true → (n : ℕ) → IsNumber d n → ⊥
negative d z is below n number = search (arith, same_Some, number.1)

pub natural : (d : Data) (z : ℤ) → Some z ≡ as_integer d → is_negative z ≡ false → unsigned_abs z < 2 ^ 63 → IsNumber d (unsigned_abs z)
natural d z is above small = (small, (search (arith, integer_is)))

-- a value that is a number but no integer is a text, and the number is 2^63 or above
no_integer : (d : Data) → as_integer d ≡ None → (n : ℕ) → IsWideNumber d n → (2 ^ 63 ≤ n) × IsCapability d (Some (Number n))
unfolding IsWideNumber
no_integer d none n (inl number) = absurd (search (arith, none-some, sym none))
no_integer d none n (inr text) = text

pub wide_text : (d : Data) (n : ℕ) → 2 ^ 63 ≤ n → IsCapability d (Some (Number n)) → IsWideNumber d n
unfolding IsWideNumber
wide_text d n large text = inr (large, text)

-- if a value is neither an integer nor the text of a number capability, it is no number
pub other_text : (d : Data) (r : Option Capability) → as_integer d ≡ None → IsCapability d r →
    ((n : ℕ) → 2 ^ 63 ≤ n → r ≢ Some (Number n)) → (n : ℕ) → IsWideNumber d n → ⊥
other_text d r none said other n number =
    let text = no_integer d none n number in other n text.0 (capability_once d r (Some (Number n)) said text.1)

-- the number that was found in a text is the only one that the value encodes
pub text_number : (d : Data) (r : Option Capability) (found : Option ℕ) → as_integer d ≡ None → IsCapability d r →
    IfSome found (λ n. (2 ^ 63 ≤ n) × (r ≡ Some (Number n))) → IfNone found ((n : ℕ) → 2 ^ 63 ≤ n → r ≢ Some (Number n)) →
    Finds (IsWideNumber d) found
text_number d r None none said is other = other_text d r none said other
text_number d r (Some n) none said is other = wide_text d n is.0 (subst (IsCapability d) is.1 said)

-- if an integer of TOML encodes a number of 64 bits, it is that number
is_text : (d : Data) (n : ℕ) → is_some (as_integer d) ≡ true → IsWideNumber d n → IsNumber d n
unfolding IsWideNumber
is_text d n some either = search arith

pub wide_read : (d : Data) (r : Option ℕ) → is_some (as_integer d) ≡ true → Finds (IsNumber d) r → Finds (IsWideNumber d) r
unfolding IsWideNumber
wide_read d r some reads = search (arith, is_text)

-- the capability that was read from a text is the one that the value encodes
pub capability_reported : (d : Data) (text : List ℕ) (r : Option Capability) → Some text ≡ as_str d →
    IfSome r (λ c. IsWellFormed c × IfSome (named c) (λ n. n < 2 ^ 64) × (capability_text c ≡ text)) →
    IfNone r ((c : Capability) → IsWellFormed c → IfSome (named c) (λ n. n < 2 ^ 64) → capability_text c ≢ text) → IsCapability d r
capability_reported d text r is some none = search (arith, string_is)

pub state_reported : (d : Data) (text : List ℕ) (r : Option State) → Some text ≡ as_str d → IfSome r (λ s. state_text s ≡ text) →
    IfNone r ((s : State) → state_text s ≢ text) → IsState d r
state_reported d text r is some none = search (arith, string_is)

-- a value that is a number but no integer is the text of a capability
pub text_said : (d : Data) → as_integer d ≡ None → (n : ℕ) → IsWideNumber d n → (r : Option Capability) × IsCapability d r
text_said d none n number = (Some (Number n), (no_integer d none n number).1)
