-- Banks: their tree, their chains and their limits.
use Rattle.recovery.proofs.Names.{nat_tests, ℕ, zero, suc, Bool, true, List, [], length, map, slice_index, slice_index_or, refl, sym, ap, arith, IsTrue}
use Rattle.recovery.proofs.Names.{MatchOption, nat_eq, Contains, list_any, range_with_len, eqb-true, eq-eqb, get_or-map-range_with_len}
use Rattle.recovery.proofs.Names.{length-map-range_with_len, Contains-from_any, Frame, ObjectHeader, Geometry, chain, usage, frame_at, objects_of, AreKeepable}
use Rattle.recovery.proofs.Names.{is_bank, limit_in, content_at, IsTree, HaveTheirRoles, Parts, frames_of, objects_in, keepable_roles, Unbanked, AreBanked}
use Rattle.recovery.proofs.Names.{AreLimited, AreOwned, owner_of, role_at, IsAboveLimit, IsUnbanked, or_right}
use Rattle.std.proofs.Common.{◌≡◌, ◌≢◌, ◌↔◌, ◌<◌, ◌≤◌, ◌∷◌, ◌∙◌}
use Rattle.std.specs.Prelude.{None, Option, Some}
use Rattle.model.specs.declared.object.Role.TheVariants as role
use Rattle.recovery.specs.declared.consistency.reason.Unbanked.TheVariants as why
use Rattle.recovery.proofs.Sound.{kept_at}
use Rattle.recovery.proofs.Standing.{bank_role, free_role, limit_is, owner_is, role_bank, role_free}
use Rattle.recovery.proofs.Tables.{bank_known, role_known}

-- if a list contains number 0, the test finds it
any_of : (xs : List ℕ) → Contains xs 0 → list_any (nat_eq 0) xs ≡ true
any_of xs h = go xs h.0 h.1 h.2
  where
    go : (ys : List ℕ) (k : ℕ) → k < length ys → slice_index_or ys k 0 ≡ 0 → list_any (nat_eq 0) ys ≡ true
    go [] k inside at = absurd (omega arith)
    go (y ∷ ys) zero inside at = rw (eq-eqb 0 y (sym at)) refl
    go (y ∷ ys) (suc k) inside at = or_right (nat_eq 0 y) (list_any (nat_eq 0) ys) (go ys k (omega arith) at)

pub reaches : (b : Bool) (xs : List ℕ) (P : Type 0) → b ≡ list_any (nat_eq 0) xs → P → IsTrue b ↔ (P → Contains xs 0)
reaches b xs P is p = (
  λ so held. Contains-from_any {eq = nat_eq} (λ x y same. eqb-true x y same) 0 xs (sym is ∙ so),
  λ there. is ∙ any_of xs (there p),
)

-- if number 0, and all numbers below n, satisfy the rules of owners and chains, and no object has a greater number, `AreOwned` holds
module _ (p : Parts) (hs : List ObjectHeader) (count n : ℕ) (table : hs ≡ p.headers) (all : count ≡ length hs) (past : count ≤ n) where
  pub owned_whole : (role_at (frames_of p) 0 ≡ role.Bank) × (owner_of (frames_of p) 0 ≡ 0) →
      ((m : ℕ) → m < n → role_at (frames_of p) m ≢ role.Free → role_at (frames_of p) (owner_of (frames_of p) m) ≡ role.Bank) →
      ((b : ℕ) → b < n → role_at (frames_of p) b ≡ role.Bank → Contains (chain (objects_in p) b) 0) → AreOwned (frames_of p)
  owned_whole prime owners chains = grind (arith, nat_tests, role_known)

-- banks that own all objects form a tree
module _ (g : Geometry) (age : ℕ) (fs : List Frame) (k : AreKeepable g age fs) where
  roles : HaveTheirRoles fs
  roles = keepable_roles g age fs k

  pub owned_tree : AreOwned fs → IsTree (objects_of fs)
  owned_tree owned = record {
    unowned = λ n free. owner_is fs n ∙ (kept_at g age fs k n).kept.unowned (free_role fs roles n free);
    owners = λ n used. rw (owner_is fs n) (role_bank fs roles (frame_at fs n).header.owner
        (owned.owners n (λ free. used (role_free fs roles n free))));
    prime = (role_bank fs roles 0 owned.prime.0, owner_is fs 0 ∙ owned.prime.1);
    chains = λ b bank. owned.chains b (bank_role fs roles b bank);
  }

-- usages and limits, number by number
module _ (g : Geometry) (age : ℕ) (p : Parts) (k : AreKeepable g age (frames_of p)) (hs : List ObjectHeader) (count : ℕ)
    (table : hs ≡ p.headers)
    (all : count ≡ length hs) where
  pub count_all : count ≡ length p.headers
  count_all = all ∙ ap (λ (ks : List ObjectHeader). length ks) table

  pub bank_counted : (b : ℕ) → IsTrue (is_bank (content_at (objects_in p) b)) → b < count
  bank_counted b bank = omega (arith, bank_known p b (bank_role (frames_of p) (keepable_roles g age (frames_of p) k) b bank), count_all)

  module _ (usages limits : List ℕ) (used : (b : ℕ) → IsTrue (is_bank (content_at (objects_in p) b)) →
      slice_index usages b ≡ usage (objects_in p) b)
      (are : limits ≡ map (λ n. limit_in (content_at (objects_in p) n)) (range_with_len 0 count)) where
    pub limits_count : length limits ≡ count
    limits_count = ap (λ (xs : List ℕ). length xs) are ∙ length-map-range_with_len (λ n. limit_in (content_at (objects_in p) n)) 0 count

    limit_there : (b : ℕ) → b < count → slice_index limits b ≡ limit_in (frame_at (frames_of p) b).content
    limit_there b inside = grind (arith, nat_tests, get_or-map-range_with_len, limit_is)

    within : (b : ℕ) → role_at (frames_of p) b ≡ role.Bank → slice_index usages b ≤ slice_index limits b →
        usage (objects_in p) b ≤ limit_in (frame_at (frames_of p) b).content
    within b bank low =
        let is = role_bank (frames_of p) (keepable_roles g age (frames_of p) k) b bank in
        grind (arith, nat_tests, limit_there, bank_counted)

    below : ((b : ℕ) → role_at (frames_of p) b ≡ role.Bank → slice_index usages b ≤ slice_index limits b) → AreLimited (frames_of p)
    below low b bank = within b bank (low b bank)

    above : AreOwned (frames_of p) → (why : Unbanked) → IsAboveLimit (frames_of p) usages limits why → IsUnbanked (frames_of p) why
    above owned why.Prime is = absurd is
    above owned (why.Owner n owner) is = absurd is
    above owned (why.Chain b) is = absurd is
    above owned (why.Limit b most limit) is =
        let bank = role_bank (frames_of p) (keepable_roles g age (frames_of p) k) b is.0 in
        (is.0, is.1 ∙ used b bank, is.2 ∙ limit_there b (bank_counted b bank), is.3, owned, λ m less role. within m role (is.4 m less role))

    -- the search finds the first bank whose usage is above its limit, if there is one
    pub limited : AreOwned (frames_of p) → (found : Option Unbanked)
        → MatchOption found ((b : ℕ) → role_at (frames_of p) b ≡ role.Bank → slice_index usages b ≤ slice_index limits b)
        (λ why. IsAboveLimit (frames_of p) usages limits why)
        → MatchOption found (AreBanked (frames_of p)) (λ why. IsUnbanked (frames_of p) why)
    limited owned None low = record { owned = owned; limited = below low }
    limited owned (Some why) is = above owned why is
