-- The tree of banks: chains and their members.
use Rattle.model_laws.proofs.Names.{nat_tests, inl, inr, ℕ, zero, suc, true, false, List, [], length, refl, sym, ap, subst, arith, IsTrue, Contains, cases_eq}
use Rattle.model_laws.proofs.Names.{eq-eqb, ne_eqb, get_or-set_same, get_or-set_other, length-set, Capability, Geometry, Content, Object, free, is_bank}
use Rattle.model_laws.proofs.Names.{is_free, object_at, content_at, owner_at, chain, chain_within, with_new, is_member}
use Rattle.std.proofs.Common.{◌≡◌, ◌≢◌, ◌<◌, ◌≤◌, ◌||◌, ◌∷◌, ◌∙◌}
use Rattle.model_laws.proofs.SoundParts.{IsFramed}

-- every object that isn't free is owned by a bank, and every bank's chain ends in the prime bank
pub record IsTree (os : List Object) : Type 0 where
  pub unowned : (n : ℕ) → IsTrue (is_free (content_at os n)) → owner_at os n ≡ 0
  pub owners : (n : ℕ) → is_free (content_at os n) ≢ true → IsTrue (is_bank (content_at os (owner_at os n)))
  pub prime : IsTrue (is_bank (content_at os 0)) × (owner_at os 0 ≡ 0)
  pub chains : (b : ℕ) → IsTrue (is_bank (content_at os b)) → Contains (chain os b) 0

-- if objects satisfy `IsFramed`, their banks form a tree
pub tree_of : (g : Geometry) (os : List Object) → IsFramed g os → IsTree os
tree_of g os h = record { unowned = h.unowned; owners = h.owners; prime = h.prime; chains = h.chains }

-- a bank isn't free
pub bank_used : (c : Content Capability) → IsTrue (is_bank c) → is_free c ≢ true
bank_used c is gone = grind (arith, nat_tests)

-- a member of a list is a member of the list with one more item

contains_more : (x y : ℕ) (xs : List ℕ) → Contains xs y → Contains (x ∷ xs) y
contains_more x y xs h = (suc h.0, omega (arith, h.1), h.2)

-- a member of a list other than its first is a member of the rest
pub member_tail : (x b : ℕ) (xs : List ℕ) → x ≢ b → is_member (b ∷ xs) x ≡ is_member xs x
member_tail x b xs differ = ap (λ t. t || is_member xs x) (ne_eqb x b differ)

-- the first number of a list is a member
pub member_head : (x b : ℕ) (xs : List ℕ) → x ≡ b → is_member (b ∷ xs) x ≡ true
member_head x b xs same = ap (λ t. t || is_member xs x) (eq-eqb x b same)

-- the chain of number 0 is that number alone, whatever the limit

within_end : (os : List Object) (k b : ℕ) → b ≡ 0 → chain_within (suc k) os b ≡ b ∷ []
within_end os k b end = rw (eq-eqb b 0 end) refl

within_on : (os : List Object) (k b : ℕ) → b ≢ 0 → chain_within (suc k) os b ≡ b ∷ chain_within k os (owner_at os b)
within_on os k b on = rw (ne_eqb b 0 on) refl

within_length : (os : List Object) (k b : ℕ) → length (chain_within k os b) ≤ k
within_length os zero b = omega arith
within_length os (suc k) b = search (arith, within_end, within_on, within_length os k (owner_at os b))

within_on_same : (os us : List Object) (k b : ℕ) → ((x : ℕ) → is_member (chain_within k os b) x ≡ true → owner_at us x ≡ owner_at os x)
    → chain_within k us b ≡ chain_within k os b
within_on_same os us zero b same = refl
within_on_same os us (suc k) b same = elim (cases_eq b 0) [
  | inl end ↦ within_end us k b end ∙ sym (within_end os k b end)
  | inr on ↦
      let here : owner_at us b ≡ owner_at os b = grind (arith, nat_tests) in
      let above : (x : ℕ) → is_member (chain_within k os (owner_at os b)) x ≡ true →
      owner_at us x ≡ owner_at os x = grind (arith, nat_tests) in
      within_on us k b on ∙ (ap (λ c. b ∷ chain_within k us c) here
      ∙ (ap (λ xs. b ∷ xs) (within_on_same os us k (owner_at os b) above) ∙ sym (within_on os k b on)))
]

-- if two lists of objects agree on the owners along the chain of a bank, the bank has the same chain in both
pub chain_on : (os us : List Object) (b : ℕ) → ((x : ℕ) → is_member (chain os b) x ≡ true → owner_at us x ≡ owner_at os x) →
    chain us b ≡ chain os b
unfolding chain
chain_on os us b same = within_on_same os us 16 b same

-- no chain is longer than 16
pub chain_length : (os : List Object) (b : ℕ) → length (chain os b) ≤ 16
unfolding chain
chain_length os b = within_length os 16 b

-- the chain of the prime bank is the prime bank alone
pub chain_prime : (os : List Object) → chain os 0 ≡ 0 ∷ []
unfolding chain
chain_prime os = within_end os 15 0 refl

-- the chain of number 0 is number 0 alone
pub chain_zero : (os : List Object) (b : ℕ) → b ≡ 0 → chain os b ≡ b ∷ []
unfolding chain
chain_zero os b end = within_end os 15 b end

-- if bank b owns n, and the chain of b has fewer than 16 banks, the chain of n is n and then the chain of b
chain_below : (os us : List Object) (n b : ℕ) → n ≢ 0 → owner_at us n ≡ b → chain us b ≡ chain os b → length (chain os b) < 16 →
    chain us n ≡ n ∷ chain os b
unfolding chain
chain_below os us n b on is same short = grind (arith, nat_tests)

module _ (os : List Object) (t : IsTree os) where
  -- the owner of a bank is a bank
  pub owner_bank : (b : ℕ) → IsTrue (is_bank (content_at os b)) → IsTrue (is_bank (content_at os (owner_at os b)))
  owner_bank b is = t.owners b (bank_used (content_at os b) is)

  -- the chain of a bank is the bank and the chain of its owner
  pub chain_unfolds : (b : ℕ) → IsTrue (is_bank (content_at os b)) → b ≢ 0 → chain os b ≡ b ∷ chain os (owner_at os b)
  unfolding chain
  chain_unfolds b is on = grind (arith, nat_tests)

  -- a property that passes from each bank to its owner passes all along the chain
  pub chain_climbs : (P : ℕ → Type 0) → ((c : ℕ) → IsTrue (is_bank (content_at os c)) → c ≢ 0 → P c → P (owner_at os c))
      → (b x : ℕ) → IsTrue (is_bank (content_at os b)) → P b → is_member (chain os b) x ≡ true → P x
  unfolding chain
  chain_climbs P climbs b x is here member = go 16 b is here member
    where
      go : (k c : ℕ) → IsTrue (is_bank (content_at os c)) → P c → is_member (chain_within k os c) x ≡ true → P x
      go zero c is here member = cc
      go (suc k) c is here member = elim (cases_eq x c) [
        | inl e ↦ subst P (sym e) here
        | inr differ ↦ elim (cases_eq c 0) [
          | inl end ↦ grind (arith, nat_tests, within_end, member_tail)
          | inr on ↦
              go k (owner_at os c) (owner_bank c is) (climbs c is on here)
              (sym (ap (λ xs. is_member xs x) (within_on os k c on) ∙ member_tail x c (chain_within k os (owner_at os c)) differ) ∙ member)
        ]
      ]

  -- the chain of a bank contains only banks
  pub chain_banks : (b x : ℕ) → IsTrue (is_bank (content_at os b)) → is_member (chain os b) x ≡ true → IsTrue (is_bank (content_at os x))
  chain_banks b x is member = chain_climbs (λ c. IsTrue (is_bank (content_at os c))) (λ c bank on here. owner_bank c bank) b x is is member

  -- the chain of an owner is one shorter
  pub chain_longer : (b : ℕ) → IsTrue (is_bank (content_at os b)) → b ≢ 0 → length (chain os b) ≡ suc (length (chain os (owner_at os b)))
  chain_longer b is on = ap (λ (xs : List ℕ). length xs) (chain_unfolds b is on)

  -- no chain is empty
  pub chain_nonempty : (b : ℕ) → IsTrue (is_bank (content_at os b)) → 1 ≤ length (chain os b)
  chain_nonempty b is = grind (arith, nat_tests)

  -- the chain of an owner is shorter than the longest
  pub chain_owner_length : (b : ℕ) → IsTrue (is_bank (content_at os b)) → b ≢ 0 → length (chain os (owner_at os b)) < 16
  chain_owner_length b is on = omega (arith, chain_longer b is on, chain_length os b)

  -- if a bank is in the chain of another, its own chain isn't longer than that chain
  pub chain_shorter : (b x : ℕ) → IsTrue (is_bank (content_at os b)) → is_member (chain os b) x ≡ true →
      length (chain os x) ≤ length (chain os b)
  chain_shorter b x is member =
      chain_climbs (λ c. length (chain os c) ≤ length (chain os b)) (λ c bank on here. omega (arith, here, chain_longer c bank on)) b x is
      (omega arith) member

  -- no bank occurs twice in a chain
  pub chain_once : (b : ℕ) → IsTrue (is_bank (content_at os b)) → b ≢ 0 → is_member (chain os (owner_at os b)) b ≡ false
  chain_once b is on = grind (arith, nat_tests, chain_longer, chain_shorter, owner_bank)

  -- a bank is in its own chain
  pub chain_itself : (b : ℕ) → IsTrue (is_bank (content_at os b)) → is_member (chain os b) b ≡ true
  chain_itself b is = grind (arith, nat_tests, chain_zero, member_head, chain_unfolds)

-- ---- a new object at a free number

-- the new object is at its number
pub at_new : (os : List Object) (n b : ℕ) (c : Content Capability) → n < length os →
    object_at (with_new os n b c) n ≡ record { owner = b; content = c }
unfolding with_new
at_new os n b c inside = get_or-set_same os n (record { owner = b; content = c }) free inside

-- the object at any other number is unchanged
pub at_other : (os : List Object) (n b : ℕ) (c : Content Capability) (x : ℕ) → x ≢ n → object_at (with_new os n b c) x ≡ object_at os x
unfolding with_new
at_other os n b c x differ = get_or-set_other os n x (record { owner = b; content = c }) free differ

-- the number of objects doesn't change
pub length_new : (os : List Object) (n b : ℕ) (c : Content Capability) → length (with_new os n b c) ≡ length os
unfolding with_new
length_new os n b c = length-set os n (record { owner = b; content = c })

-- a bank's number differs from each free number
pub bank_not_free : (os : List Object) (x n : ℕ) → IsTrue (is_bank (content_at os x)) → IsTrue (is_free (content_at os n)) → x ≢ n
bank_not_free os x n is gone same = bank_used (content_at os x) is (ap (λ (m : ℕ). is_free (content_at os m)) same ∙ gone)

-- a new object of a bank at a free number; it may be a bank only if the chain is shorter than the limit
module _ (os : List Object) (n b : ℕ) (c : Content Capability) (t : IsTree os) (bank : IsTrue (is_bank (content_at os b)))
    (inside : n < length os)
    (unused : IsTrue (is_free (content_at os n))) (used : is_free c ≡ false) (short : IsTrue (is_bank c) → length (chain os b) < 16) where
  bank_kept : (x : ℕ) → IsTrue (is_bank (content_at os x)) → object_at (with_new os n b c) x ≡ object_at os x
  bank_kept x is = at_other os n b c x (bank_not_free os x n is unused)

  -- a bank stays a bank
  pub new_bank_kept : (x : ℕ) → IsTrue (is_bank (content_at os x)) → IsTrue (is_bank (content_at (with_new os n b c) x))
  new_bank_kept x is = ap (λ (o : Object). is_bank o.content) (bank_kept x is) ∙ is

  -- the chains of all other banks don't change
  pub chain_new : (x : ℕ) → IsTrue (is_bank (content_at os x)) → chain (with_new os n b c) x ≡ chain os x
  chain_new x is = grind (arith, nat_tests, chain_on, bank_kept, chain_banks)

  -- the chain of a new bank is the bank, then the chain of its owner
  pub chain_new_bank : IsTrue (is_bank c) → chain (with_new os n b c) n ≡ n ∷ chain os b
  chain_new_bank is = grind (arith, nat_tests, chain_below, bank_not_free, at_new, chain_new)

  -- the banks are still a tree
  pub tree_new : IsTree (with_new os n b c)
  tree_new = record {
    unowned = λ x gone. grind (arith, nat_tests, at_new, at_other);
    owners = λ x is. elim (cases_eq x n) [
      | inl e ↦
          let owner : owner_at (with_new os n b c) x ≡ b = ap (λ (m : ℕ). owner_at (with_new os n b c) m) e ∙
          ap (λ (o : Object). o.owner) (at_new os n b c inside) in
          rw owner (new_bank_kept b bank)
      | inr differ ↦
          let same = at_other os n b c x differ in
          let owner : owner_at (with_new os n b c) x ≡ owner_at os x = ap (λ (o : Object). o.owner) same in
          rw owner (new_bank_kept (owner_at os x) (t.owners x (λ e. is (ap (λ (o : Object). is_free o.content) same ∙ e))))
    ];
    prime = (new_bank_kept 0 t.prime.0, ap (λ (o : Object). o.owner) (bank_kept 0 t.prime.0) ∙ t.prime.1);
    chains = λ x is. elim (cases_eq x n) [
      | inl e ↦
          let new_is : IsTrue (is_bank c) = sym (ap (λ (o : Object). is_bank o.content) (at_new os n b c inside)) ∙
          (ap (λ (m : ℕ). is_bank (content_at (with_new os n b c) m)) (sym e) ∙ is) in
          rw (e, chain_new_bank new_is) (contains_more n 0 (chain os b) (t.chains b bank))
      | inr differ ↦
          let was : IsTrue (is_bank (content_at os x)) = sym (ap (λ (o : Object). is_bank o.content) (at_other os n b c x differ)) ∙ is in
          rw (chain_new x was) (t.chains x was)
    ];
  }
