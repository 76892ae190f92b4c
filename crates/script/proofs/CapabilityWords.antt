-- A capability is read from its words, and from no others.
use Rattle.script.proofs.Names.{nat_tests, ℕ, List, [], Option, None, Some, decimal, inl, append-nil, refl, sym, ap, subst, arith, IfSome, bytes_eq-Decides}
use Rattle.script.proofs.Names.{lt-ltb, le-leb, Access, Capability, IsAccess, IsWellFormed, named, Kind, kind_name, access_words, capability_words, access_in}
use Rattle.script.proofs.Names.{access_at, height_at, key_at, object_of, capability_at, Words, number_at}
use Rattle.std.proofs.Common.{◌≡◌, ◌≢◌, ◌≤◌, ◌<◌, ◌^◌, ◌∷◌, ◌++◌, ◌∙◌}
use Rattle.model.specs.declared.capability.Capability.TheVariants as capability
use Rattle.script.specs.declared.named.Kind.TheVariants as kind
use Rattle.script.proofs.Commands.{bind_some, guard_some, both, some_is, number_again, number_takes, one_takes}
use Rattle.script.proofs.Tables.{every_kind, first_named}

-- ---- each capability's words are read as that capability

access_again : (a : Access) → IsAccess a → access_at (access_words a) ≡ Some (a, [])
unfolding access_at access_in
access_again a is = grind (arith, nat_tests)

height_again : (h : ℕ) (rest : Words) → 1 ≤ h → h ≤ 4 → height_at (decimal h ∷ rest) ≡ Some (h, rest)
unfolding height_at
height_again h rest low high = rw (number_again h rest (omega arith), le-leb 1 h low, le-leb h 4 high) refl

key_again : (key : ℕ) (rest : Words) → key < 2 ^ 16 → key_at (decimal key ∷ rest) ≡ Some (key, rest)
unfolding key_at
key_again key rest small = rw (number_again key rest (omega arith), lt-ltb key (2 ^ 16) small) refl

-- the kind of a capability
pub kind_for : Capability → Kind
kind_for capability.Void = kind.Void
kind_for (capability.Number n) = kind.Number
kind_for (capability.Page o a) = kind.Page
kind_for (capability.Node o a) = kind.Node
kind_for (capability.Space o h a) = kind.Space
kind_for (capability.Process p) = kind.Process
kind_for (capability.Start p key) = kind.Start
kind_for (capability.Resume p) = kind.Resume
kind_for (capability.Bank b) = kind.Bank
kind_for capability.Discrim = kind.Discrim

-- a capability has a text if it is well formed and its object's number has 64 bits
abbrev pub HasText : Capability → Type 0
HasText c = IsWellFormed c × IfSome (named c) (λ o. o < 2 ^ 64)

pub capability_again : (c : Capability) → HasText c
    → (words : Words) × (capability_words c ≡ kind_name (kind_for c) ∷ words) × (capability_at (kind_for c) words ≡ Some (c, []))
unfolding capability_words capability_at kind_for
capability_again (capability.Number n) has = (decimal n ∷ [], refl, rw (number_again n [] has.0) refl)
capability_again (capability.Page o a) has = (
  decimal o ∷ access_words a,
  refl,
  rw (number_again o (access_words a) has.1, access_again a has.0) refl,
)
capability_again (capability.Node o a) has = (
  decimal o ∷ access_words a,
  refl,
  rw (number_again o (access_words a) has.1, access_again a has.0) refl,
)
capability_again (capability.Space o h a) has = (
  decimal o ∷ decimal h ∷ access_words a,
  refl,
  rw (number_again o (decimal h ∷ access_words a) has.1, height_again h (access_words a) has.0.0 has.0.1, access_again a has.0.2) refl,
)
capability_again (capability.Process p) has = (decimal p ∷ [], refl, rw (number_again p [] has.1) refl)
capability_again (capability.Start p key) has =
    (decimal p ∷ decimal key ∷ [], refl, rw (number_again p (decimal key ∷ []) has.1, key_again key [] has.0) refl)
capability_again (capability.Resume p) has = (decimal p ∷ [], refl, rw (number_again p [] has.1) refl)
capability_again (capability.Bank b) has = (decimal b ∷ [], refl, rw (number_again b [] has.1) refl)
capability_again c has = ([], refl, refl)

-- ---- what was read has these words

access_in_some : (word : List ℕ) (a : Access) → access_in word ≡ Some a → IsAccess a × (word ∷ [] ≡ access_words a)
unfolding access_in
access_in_some word a is = grind (arith, nat_tests, bytes_eq-Decides, some_is)

access_takes : (words : Words) (p : Access × Words) → access_at words ≡ Some p → IsAccess p.0 × (words ≡ access_words p.0 ++ p.1)
unfolding access_at
access_takes [] p e = subst (λ (q : Access × Words). IsAccess q.0 × ([] ≡ access_words q.0 ++ q.1)) (some_is _ _ e) (inl refl, refl)
access_takes (word ∷ words) p e =
    let b = bind_some (access_in word) (λ (a : Access). Some (a, words)) p e in
    let f = access_in_some word b.0 b.1 in
    subst (λ (q : Access × Words). IsAccess q.0 × (word ∷ words ≡ access_words q.0 ++ q.1)) (some_is _ _ b.2)
    (f.0, ap (λ (w : Words). w ++ words) f.1)

height_takes : (words : Words) (p : ℕ × Words) → height_at words ≡ Some p → (1 ≤ p.0) × (p.0 ≤ 4) × (words ≡ decimal p.0 ∷ p.1)
unfolding height_at
height_takes words p e = grind (arith, nat_tests, bind_some, guard_some, both, number_takes)

key_takes : (words : Words) (p : ℕ × Words) → key_at words ≡ Some p → (p.0 < 2 ^ 16) × (words ≡ decimal p.0 ∷ p.1)
unfolding key_at
key_takes words p e = grind (arith, nat_tests, bind_some, guard_some, number_takes)

-- `p` is a capability of kind `k`, and the words left after reading it
abbrev IsReadFrom : Kind → Words → Capability × Words → Type 0
IsReadFrom k words p = HasText p.0 × (kind_name k ∷ words ≡ capability_words p.0 ++ p.1)

object_takes : (make : ℕ → Access → Capability) (words : Words) (p : Capability × Words) → object_of make words ≡ Some p
    → (o : ℕ) × (a : Access) × (o < 2 ^ 64) × IsAccess a × (p.0 ≡ make o a) × (words ≡ decimal o ∷ (access_words a ++ p.1))
object_takes make words p e =
    let one = bind_some (number_at words) _ p e in
    let two = bind_some (access_at one.0.1) _ p one.2 in
    let t = number_takes words one.0 one.1 in
    let u = access_takes one.0.1 two.0 two.1 in
    grind (arith, nat_tests, some_is)

one_read : (k : Kind) (words : Words) (p : Capability × Words) (c : Capability) → p.0 ≡ c → HasText c →
    kind_name k ∷ words ≡ capability_words c ++ p.1 → IsReadFrom k words p
one_read k words p c is has whole = rw is (has, whole)

capability_takes : (k : Kind) (words : Words) (p : Capability × Words) → capability_at k words ≡ Some p → IsReadFrom k words p
unfolding capability_at capability_words
capability_takes kind.Page words p e = grind (arith, nat_tests, object_takes, one_read)
capability_takes kind.Node words p e = grind (arith, nat_tests, object_takes, one_read)
capability_takes kind.Space words p e =
    let one = bind_some (number_at words) _ p e in
    let two = bind_some (height_at one.0.1) _ p one.2 in
    let three = bind_some (access_at two.0.1) _ p two.2 in
    let t = number_takes words one.0 one.1 in
    let u = height_takes one.0.1 two.0 two.1 in
    let v = access_takes two.0.1 three.0 three.1 in
    grind (arith, nat_tests, some_is)
capability_takes kind.Start words p e =
    let one = bind_some (number_at words) _ p e in
    let two = bind_some (key_at one.0.1) _ p one.2 in
    let t = number_takes words one.0 one.1 in
    let u = key_takes one.0.1 two.0 two.1 in
    grind (arith, nat_tests, some_is)
capability_takes k words p e = grind (arith, nat_tests, one_takes, one_read, some_is)

-- ---- the kind of a word

kind_at : List ℕ → Option Kind
kind_at word = first_named kind_name word every_kind

kind_at_name : (k : Kind) → kind_at (kind_name k) ≡ Some k
unfolding kind_at
kind_at_name k = grind (arith, nat_tests)

-- ---- the capabilities that a text may name

-- if the words are a capability's, reading them gives this capability and leaves no word
pub arguments_are : (words rest : Words) (word : List ℕ) (k : Kind) (c : Capability) → words ≡ word ∷ rest → word ≡ kind_name k →
    HasText c → words ≡ capability_words c
    → capability_at k rest ≡ Some (c, [])
arguments_are words rest word k c split is has whole = grind (arith, nat_tests, capability_again, kind_for, some_is, kind_at_name)

pub capability_found : (words rest left : Words) (word : List ℕ) (k : Kind) (c : Capability) → words ≡ word ∷ rest → word ≡ kind_name k
    → capability_at k rest ≡ Some (c, left) → left ≡ [] → HasText c × (words ≡ capability_words c)
capability_found words rest left word k c split is read none =
    let taken = capability_takes k rest (c, left) read in (
      taken.0,
      split ∙ ap (λ (w : List ℕ). w ∷ rest) is ∙ taken.1 ∙ ap (λ (w : Words). capability_words c ++ w) none
          ∙ append-nil (capability_words c),
    )

pub no_words : (c : Capability) → HasText c → [] ≢ capability_words c
no_words c has e = let again = capability_again c has in absurd (cc (again.1))

pub no_kind : (words rest : Words) (word : List ℕ) → words ≡ word ∷ rest → ((k : Kind) → word ≢ kind_name k) → (c : Capability) →
    HasText c → words ≢ capability_words c
no_kind words rest word split none c has whole = grind (arith, nat_tests, capability_again, kind_for)

pub no_arguments : (words rest : Words) (word : List ℕ) (k : Kind) → words ≡ word ∷ rest → word ≡ kind_name k → capability_at k rest ≡ None
    → (c : Capability) → HasText c → words ≢ capability_words c
no_arguments words rest word k split is none c has whole = let read = arguments_are words rest word k c split is has whole in absurd cc

pub words_left_over : (words rest left : Words) (word : List ℕ) (k : Kind) (d : Capability) → words ≡ word ∷ rest → word ≡ kind_name k →
    capability_at k rest ≡ Some (d, left)
    → left ≢ [] → (c : Capability) → HasText c → words ≢ capability_words c
words_left_over words rest left word k d split is read some c has whole =
    let other = arguments_are words rest word k c split is has whole in
    some (ap (λ (q : Capability × Words). q.1) (some_is _ _ (sym read ∙ other)))
