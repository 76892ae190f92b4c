-- Walks along chains of banks, from owner to owner. The plan of an order has the order's effect, and the planned change may be made.
use Rattle.space_bank.proofs.Names.{nat_tests, ℕ, suc, Bool, true, false, List, [], length, map, min, nat_eq, refl, sym, ap, subst, arith, IsTrue, nat_le}
use Rattle.space_bank.proofs.Names.{slice_index, list_all, list_any, eq-eqb, le-leb, lt-leb, ne_eqb, ObjectHeader, Object, chain, chain_within, usage}
use Rattle.space_bank.proofs.Names.{has_quota, least, left_of, remaining, is_bank, limit_in, content_at, owner_at, Parts, objects_in, length_objects}
use Rattle.space_bank.proofs.Names.{bank_number, All, BanksState, MayServe, all_members, cases_lt, inl, inr, HasLeft, Some, nat_lt, append-nil, length-append}
use Rattle.space_bank.proofs.Names.{Capability, Void, Process, Geometry, Content, Arguments, BankOrder, ResultCode, free_nodes, free_pages, freed, freed_by}
use Rattle.space_bank.proofs.Names.{inherited, on_bank, owned_by, under, made, refused, replying_three, is_root, rescind, MayBeHeld, BankChange, OrderPlan}
use Rattle.space_bank.proofs.Names.{Fresh, bank_changed, reply_of_code, freed_alike, nodes_alike, owned_alike, pages_alike, remaining_alike, room_alike}
use Rattle.space_bank.proofs.Names.{under_alike, IsNow, SameFrame, chain_same, usage_same, keepable_count, root_number, New, allocated_by, allocating, count_of}
use Rattle.space_bank.proofs.Names.{is_deep, made_for, new_at, new_of, process_at, IsPlanned, MayMake, PlansAs, annex_among, annex_of, not, range_with_len}
use Rattle.space_bank.proofs.Names.{false≢true, are_free, is_free, is_member, NamesItsKind, member_head, member_tail, owner_bank, tree_of, AllDiffer}
use Rattle.space_bank.proofs.Names.{filter_once, found_in, tests_at, MakeProcess, IsFreshAt, numbers_of, Frees, Transfers, IsMadeUnder, MayFree}
use Rattle.space_bank.proofs.Names.{false_from_ne_true, or_cases, is_under, object_at, destroyed_fits, freed_fits, freed_set, under_found, under_given_up}
use Rattle.space_bank.proofs.Names.{under_once, usage_destroyed, usage_freed, IsTree, chain_banks, chain_longer, chain_nonempty, chain_once, chain_shorter}
use Rattle.space_bank.proofs.Names.{chain_zero}
use Rattle.std.specs.Prelude.{◌==◌, ◌&&◌, if◌then◌else◌}
use Rattle.std.proofs.Common.{◌≡◌, ◌+◌, ◌-◌, ◌<◌, ◌≤◌, ◌∙◌, ◌∷◌, ◌++◌, ◌≢◌}
use Rattle.model.specs.declared.order.BankOrder.TheVariants as bank
use Rattle.model.specs.declared.order.ResultCode.TheVariants as code
use Rattle.capability.specs.declared.order.Change.TheVariants as change
use Rattle.space_bank.proofs.Tallies.{chain_bank}
use Rattle.space_bank.proofs.Renewing.{once_of_differ}

pub inside_read : (p : Parts) (hs : List ObjectHeader) (count n : ℕ) → hs ≡ p.headers → count ≡ length hs → n < count →
    n < length (objects_in p)
inside_read p hs count n table is inside = grind (arith, nat_tests, length_objects)

pub past_read : (p : Parts) (hs : List ObjectHeader) (count n : ℕ) → hs ≡ p.headers → count ≡ length hs → count ≤ n →
    length (objects_in p) ≤ n
past_read p hs count n table is past = grind (arith, nat_tests, length_objects)

-- a walk along a chain that has passed fewer than 16 banks, and is at the bank it looks for, has found it
pub chain_here : (os : List Object) (i b sought : ℕ) → i < 16 → b ≡ sought → list_any (nat_eq sought) (chain_within (16 - i) os b) ≡ true
chain_here os i b sought inside same = grind (arith, nat_tests)

pub chain_last : (os : List Object) (i b : ℕ) → i < 16 → b ≡ 0 → chain_within (16 - i) os b ≡ b ∷ []
chain_last os i b inside root = grind (arith, nat_tests)

pub chain_next : (os : List Object) (i b owner : ℕ) → i < 16 → (b ≡ 0 → ⊥) → owner ≡ owner_at os b →
    chain_within (16 - i) os b ≡ b ∷ chain_within (16 - (i + 1)) os owner
chain_next os i b owner inside inner is = grind (arith, nat_tests)

pub chain_past : (os : List Object) (i b : ℕ) → 16 ≤ i → chain_within (16 - i) os b ≡ []
chain_past os i b past = grind (arith, nat_tests)

pub chain_begun : (os : List Object) (b : ℕ) → chain os b ≡ chain_within (16 - 0) os b
unfolding chain
chain_begun os b = refl

-- whether the rest of the chain contains the bank looked for
module _ (os : List Object) (i b sought : ℕ) (other : b ≡ sought → ⊥) where
  pub sought_last : i < 16 → b ≡ 0 → list_any (nat_eq sought) (chain_within (16 - i) os b) ≡ false
  sought_last inside root = grind (arith, nat_tests)

  pub sought_next : (owner : ℕ) → i < 16 → (b ≡ 0 → ⊥) → owner ≡ owner_at os b →
      list_any (nat_eq sought) (chain_within (16 - i) os b) ≡ list_any (nat_eq sought) (chain_within (16 - (i + 1)) os owner)
  sought_next owner inside inner is = grind (arith, nat_tests)

-- `count` is at most what the limit leaves exactly if the usage plus `count` is within the limit
fits_left : (count used limit : ℕ) → used ≤ limit → nat_le count (limit - used) ≡ nat_le (used + count) limit
fits_left count used limit within = grind (arith, nat_tests)

fits_both : (count m n : ℕ) → nat_le count (min m n) ≡ (nat_le count m && nat_le count n)
fits_both count m n = grind (arith, nat_tests)

all_left : (os : List Object) (count m : ℕ) (cs : List ℕ) → All (λ c. usage os c ≤ limit_in (content_at os c)) cs →
    nat_le count (least m (map (left_of os) cs)) ≡ (nat_le count m && list_all
    (λ c. nat_le (usage os c + count) (limit_in (content_at os c))) cs)
all_left os count m [] within = elim (cases_lt m count) [
  | inl over ↦ rw (lt-leb count m over) refl
  | inr fits ↦ rw (le-leb count m fits) refl
]
all_left os count m (c ∷ cs) within =
    all_left os count (min m (left_of os c)) cs (λ k d inside. within (suc k) d (omega arith))
    ∙ rw (fits_both count m (left_of os c), fits_left count (usage os c) (limit_in (content_at os c)) (within 0 0 (omega arith)))
    (grouped (nat_le count m) _ _)
  where
    grouped : (a b c : Bool) → ((a && b) && c) ≡ (a && (b && c))
    grouped a b c = grind (arith, nat_tests)

pub quota_is : (os : List Object) (b count : ℕ) → All (λ c. usage os c ≤ limit_in (content_at os c)) (chain os b) →
    has_quota os b count ≡ nat_le count (remaining os b)
unfolding has_quota remaining chain
quota_is os b count within =
    let rest : List ℕ = if b == 0 then [] else chain_within 15 os (owner_at os b) in
    let least_twice : min (left_of os b) (left_of os b) ≡ left_of os b = omega arith in
    sym (ap (λ (m : ℕ). nat_le count (least m (map (left_of os) rest))) least_twice
    ∙ all_left os count (left_of os b) rest (λ k d inside. within (suc k) d (omega arith))
    ∙ ap (λ (t : Bool). t && list_all (λ c. nat_le (usage os c + count) (limit_in (content_at os c))) rest)
    (fits_left count (usage os b) (limit_in (content_at os b)) (within 0 0 (omega arith))))

-- if bank b itself allows at most m more objects, its chain allows the least of m and of what each bank in it allows
pub least_begun : (os : List Object) (b m : ℕ) → left_of os b ≤ m → remaining os b ≡ least m (map (left_of os) (chain_within (16 - 0) os b))
unfolding remaining chain
least_begun os b m within =
    let rest : List ℕ = if b == 0 then [] else chain_within 15 os (owner_at os b) in
    let same : min (left_of os b) (left_of os b) ≡ min m (left_of os b) = omega (arith, within) in
    ap (λ (k : ℕ). least k (map (left_of os) rest)) same

pub least_on : (os : List Object) (m : ℕ) (cs ds : List ℕ) → cs ≡ ds → least m (map (left_of os) cs) ≡ least m (map (left_of os) ds)
least_on os m cs ds same = ap (λ (es : List ℕ). least m (map (left_of os) es)) same

module _ (os : List Object) (i b m left now : ℕ) (inside : i < 16) (here : left ≡ left_of os b) (is : now ≡ min m left) where
  least_here : (rest : List ℕ) → least (min m (left_of os b)) (map (left_of os) rest) ≡ least now (map (left_of os) rest)
  least_here rest = ap (λ (k : ℕ). least k (map (left_of os) rest)) (ap (min m) (sym here) ∙ sym is)

  pub least_last : b ≡ 0 → least m (map (left_of os) (chain_within (16 - i) os b)) ≡ now
  least_last root = least_on os m (chain_within (16 - i) os b) (b ∷ []) (chain_last os i b inside root) ∙ least_here []

  pub least_next : (owner : ℕ) → (b ≡ 0 → ⊥) → owner ≡ owner_at os b →
      least m (map (left_of os) (chain_within (16 - i) os b)) ≡ least now (map (left_of os) (chain_within (16 - (i + 1)) os owner))
  least_next owner inner at = grind (arith, nat_tests)

-- facts about a bank that may be served
module _ {p : Parts} {s : BanksState} {b : ℕ} (h : MayServe p s b) where
  pub node_of_bank : b < p.geometry.nodes
  node_of_bank = bank_number p.geometry b (content_at (objects_in p) b) (h.sound.1.sound.kinds b) h.bank

  pub left_there : HasLeft s b
  left_there = grind (arith, nat_tests)

  -- the usages of all banks in the chain are within their limits
  pub chain_within_limits : All (λ c. usage (objects_in p) c ≤ limit_in (content_at (objects_in p) c)) (chain (objects_in p) b)
  chain_within_limits = all_members _ (chain (objects_in p) b) (λ c member. h.sound.1.sound.limits c (chain_bank h c member))

  pub left_counted : slice_index s.limits b - slice_index s.usages b ≡ left_of (objects_in p) b
  left_counted = omega (arith, h.counted.usage b h.bank, h.counted.limit b h.bank)

  -- the owner of a bank that may be served may be served
  pub owner_is_bank : {owner : ℕ} → owner ≡ owner_at (objects_in p) b → MayServe p s owner
  owner_is_bank {owner} is = grind (arith, nat_tests)

-- plans: one that refuses, one that changes a bank, one that replies with three words
abbrev pub refusal : ResultCode → OrderPlan
refusal why = record { reply = reply_of_code why; change = change.Nothing }

abbrev pub making : Capability → BankChange → OrderPlan
making c made = record { reply = record { code = code.Done; words = 0 ∷ 0 ∷ 0 ∷ []; capability = c }; change = change.Bank made }

abbrev pub answer : List ℕ → OrderPlan
answer words = record { reply = record { code = code.Done; words = words; capability = Void }; change = change.Nothing }

module _ {p : Parts} {b : ℕ} {order : BankOrder} {args : Arguments} {first : List ℕ} {plan : OrderPlan} where
  planned_as : {list : List ℕ} (written : List ℕ) → PlansAs p.geometry (objects_in p) b order args written plan → list ≡ first ++ written →
      IsPlanned p b order args first plan list
  planned_as {list} written plans is = grind (arith, nat_tests)

  pub planned_refused : (why : ResultCode) → ((us : List Object) → SameFrame (objects_in p) us →
      on_bank p.geometry us b order args ≡ refused us why) → plan ≡ refusal why → IsPlanned p b order args first plan first
  planned_refused why is plans = grind (arith, nat_tests, planned_as, append-nil)

  pub planned_replying : (x y z : ℕ) → ((us : List Object) → SameFrame (objects_in p) us →
      on_bank p.geometry us b order args ≡ replying_three us x y z) → plan ≡ answer (x ∷ y ∷ z ∷ []) →
      IsPlanned p b order args first plan first
  planned_replying x y z is plans = grind (arith, nat_tests, planned_as, append-nil)

  pub planned_made : {list : List ℕ} (written : List ℕ) (c : Capability) (x : BankChange) →
      ((us : List Object) → SameFrame (objects_in p) us → on_bank p.geometry us b order args ≡ made (bank_changed us written x) written c) →
      ((us : List Object) → SameFrame (objects_in p) us → IsNow p.geometry us → MayMake p.geometry us written x) → plan ≡ making c x →
      list ≡ first ++ written → IsPlanned p b order args first plan list
  planned_made {list} written c x is may plans has = grind (arith, nat_tests)

pub allocating_is : (g : Geometry) (os : List Object) (b : ℕ) (order : BankOrder) (args : Arguments) (kind : New) →
    new_of order args ≡ Some kind → on_bank g os b order args ≡ allocating g os b kind
unfolding on_bank
allocating_is g os b order args kind is = grind (arith, nat_tests)

-- if two lists of objects agree in owners, roles, annexes and limits (`SameFrame`), an order makes the same object in both
module _ (os us : List Object) (frame : SameFrame os us) (g : Geometry) (b : ℕ) where
  pub made_alike : (kind : New) → made_for g us b kind ≡ made_for g os b kind
  made_alike kind = grind (arith, nat_tests, pages_alike, nodes_alike)

  pub deep_alike : (kind : New) → is_deep us b kind ≡ is_deep os b kind
  deep_alike kind = grind (arith, nat_tests, chain_same)

-- an order that makes an object, as the tests of the code find it
pub new_is : (g : Geometry) (os : List Object) (b : ℕ) (order : BankOrder) (args : Arguments) (kind : New) → new_of order args ≡ Some kind →
    (us : List Object) → SameFrame os us → on_bank g us b order args ≡
    (if has_quota os b (count_of kind) then allocated_by us (is_deep os b kind) (made_for g os b kind) else refused us code.Limit)
new_is g os b order args kind is us frame =
    allocating_is g us b order args kind is ∙ rw (
      room_alike os us frame b (count_of kind),
      made_alike os us frame g b kind,
      deep_alike os us frame g b kind,
    )
    refl

-- the effects of the orders that free objects
module _ (g : Geometry) (os : List Object) (b : ℕ) (args : Arguments) where
  pub frees_none : (c : Capability) → args.capability ≡ c → freed_by os c ≡ [] →
      on_bank g os b bank.Free args ≡ refused os code.BadCapability
  unfolding on_bank
  frees_none c is none = ap (λ (d : Capability). freed os b (freed_by os d)) is ∙ ap (freed os b) none

  pub frees_other : (c : Capability) (n : ℕ) (ns : List ℕ) → args.capability ≡ c → freed_by os c ≡ n ∷ ns → (owner_at os n ≡ b → ⊥) →
      on_bank g os b bank.Free args ≡ refused os code.NotFromThisBank
  unfolding on_bank
  frees_other c n ns is some other = grind (arith, nat_tests)

  pub frees_own : (c : Capability) (n : ℕ) (ns : List ℕ) → args.capability ≡ c → freed_by os c ≡ n ∷ ns → owner_at os n ≡ b →
      on_bank g os b bank.Free args ≡ made (rescind (n ∷ ns) os) (n ∷ ns) Void
  unfolding on_bank
  frees_own c n ns is some own = grind (arith, nat_tests)

  pub destroy_prime : b ≡ 0 → on_bank g os b bank.Destroy args ≡ refused os code.PrimeBank
  unfolding on_bank
  destroy_prime prime = rw (eq-eqb b 0 prime) refl

  pub destroy_all : (b ≡ 0 → ⊥) → on_bank g os b bank.Destroy args ≡ made (rescind (under os b) os) (under os b) Void
  unfolding on_bank
  destroy_all other = rw (ne_eqb b 0 other) refl

  pub return_prime : b ≡ 0 → on_bank g os b bank.ReturnToParent args ≡ refused os code.PrimeBank
  unfolding on_bank
  return_prime prime = rw (eq-eqb b 0 prime) refl

  pub return_all : (b ≡ 0 → ⊥) → on_bank g os b bank.ReturnToParent args ≡ made (rescind (b ∷ []) (inherited os b)) (b ∷ owned_by os b) Void
  unfolding on_bank
  return_all other = rw (ne_eqb b 0 other) refl

  pub remaining_replying : on_bank g os b bank.Remaining args ≡ replying_three os (remaining os b) (usage os b) (limit_in (content_at os b))
  unfolding on_bank
  remaining_replying = refl

-- orders that free objects have the same effects in later objects with the same owners, roles, annexes and limits (`SameFrame`)
module _ (g : Geometry) (os : List Object) (b : ℕ) (args : Arguments) (us : List Object) (frame : SameFrame os us) where
  pub frees_none_there : (c : Capability) → args.capability ≡ c → freed_by os c ≡ [] →
      on_bank g us b bank.Free args ≡ refused us code.BadCapability
  frees_none_there c is none = frees_none g us b args c is (freed_alike os us frame c ∙ none)

  pub frees_other_there : (c : Capability) (n : ℕ) (ns : List ℕ) → args.capability ≡ c → freed_by os c ≡ n ∷ ns → (owner_at os n ≡ b → ⊥) →
      on_bank g us b bank.Free args ≡ refused us code.NotFromThisBank
  frees_other_there c n ns is some other = frees_other g us b args c n ns is (freed_alike os us frame c ∙ some)
      (λ e. other (sym (frame.alike n).owner ∙ e))

  pub frees_own_there : (c : Capability) (n : ℕ) (ns : List ℕ) → args.capability ≡ c → freed_by os c ≡ n ∷ ns → owner_at os n ≡ b →
      on_bank g us b bank.Free args ≡ made (rescind (n ∷ ns) us) (n ∷ ns) Void
  frees_own_there c n ns is some own = frees_own g us b args c n ns is (freed_alike os us frame c ∙ some) ((frame.alike n).owner ∙ own)

  pub destroy_there : (b ≡ 0 → ⊥) → on_bank g us b bank.Destroy args ≡ made (rescind (under os b) us) (under os b) Void
  destroy_there other = destroy_all g us b args other ∙ ap (λ (ns : List ℕ). made (rescind ns us) ns Void) (under_alike os us frame b)

  pub return_there : (b ≡ 0 → ⊥) → on_bank g us b bank.ReturnToParent args ≡ made (rescind (b ∷ []) (inherited us b)) (b ∷ owned_by os b)
      Void
  return_there other = return_all g us b args other ∙ ap (λ (ns : List ℕ). made (rescind (b ∷ []) (inherited us b)) (b ∷ ns) Void)
      (owned_alike os us frame b)

  pub remaining_there : on_bank g us b bank.Remaining args ≡ replying_three us (remaining os b) (usage os b) (limit_in (content_at os b))
  remaining_there = remaining_replying g us b args ∙ rw (remaining_alike os us frame b, usage_same os us frame b, (frame.alike b).limit)
      refl

-- the list has space for the numbers of a bank's order
pub bank_room : {p : Parts} {s : BanksState} {b : ℕ} → MayServe p s b → (n : ℕ) → n ≤ 2 → n + length p.headers ≤ s.room
bank_room {p} h n few = omega (arith, keepable_count p.geometry h.sound.0 p h.sound.1.keepable, h.counted.room)

root_not_bank : (c : Content Capability) → IsTrue (is_root c) → IsTrue (is_bank c) → ⊥
root_not_bank c root is = grind (arith, nat_tests)

-- the list has space for a process's root and annex after the numbers that the invocation writes
pub process_room : {p : Parts} {s t : BanksState} {b : ℕ} (c : Capability) (q n : ℕ) → MayServe p s b → MayBeHeld (objects_in p) c →
    c ≡ Process q → length s.listed ≤ 2 → t ≡ record s { listed = s.listed ++ n ∷ [] } → length t.listed < t.room
process_room {p} {s} {t} {b} c q n h sent is few listed = grind (arith, nat_tests, root_number, root_not_bank, node_of_bank, length-append)

-- the annex recorded for a process is its annex
pub annex_kept : {p : Parts} {s : BanksState} {b : ℕ} (c : Capability) → MayServe p s b → MayBeHeld (objects_in p) c →
    annex_among s.annexes c ≡ annex_of (objects_in p) c
annex_kept {p} {s} {b} c h sent = grind (arith, nat_tests)

-- if a bank owns what a capability frees, the list of it may be freed
pub freed_list : (g : Geometry) (os : List Object) (b : ℕ) (c : Capability) (list : List ℕ) → IsNow g os →
    IsTrue (is_bank (content_at os b)) → NamesItsKind os c → freed_by os c ≡ list → 0 < length list → owner_at os (slice_index list 0) ≡ b →
    MayFree os b list
freed_list g os b c [] h is names frees some own = absurd (omega arith)
freed_list g os b c (n ∷ ns) h is names frees some own =
    let set = freed_set g os h.frame c n ns names frees in
    record {
      once = once_of_differ (n ∷ ns) set.given_up.once;
      used = set.given_up.used;
      apart = λ x above.
          false_from_ne_true (is_member (n ∷ ns) x) (λ member. false≢true (sym (set.no_bank x member)
          ∙ chain_banks os (tree_of g os h.frame) b x is above));
      lowered = λ x bank stays. omega (
        arith,
        usage_freed g os c b n ns h own frees names x bank,
        freed_fits g os c b n ns h own frees names x bank,
      );
    }

-- no bank in the chain of b's owner is under b
module _ (os : List Object) (t : IsTree os) (b : ℕ) (is : IsTrue (is_bank (content_at os b))) (on : b ≢ 0) where
  no_loop : (x : ℕ) → is_member (chain os (owner_at os b)) x ≡ true → is_member (chain os (owner_at os x)) b ≡ true → ⊥
  no_loop x above below = grind (arith, nat_tests, chain_banks, owner_bank, chain_shorter, chain_longer, chain_zero, chain_nonempty)

  pub above_apart : (x : ℕ) → is_member (chain os (owner_at os b)) x ≡ true → is_member (under os b) x ≡ false
  above_apart x above = false_from_ne_true (is_member (under os b) x) (λ member.
      elim (or_cases (x == b) (is_under os b (object_at os x)) (under_found os b x member).1) [
        | inl same ↦ grind (arith, nat_tests, chain_once)
        | inr below ↦ grind (arith, nat_tests, no_loop)
      ])

-- a bank may be freed with all objects under it
pub destroyed_gives : (g : Geometry) (os : List Object) (b : ℕ) → IsNow g os → IsTrue (is_bank (content_at os b)) → b ≢ 0 →
    MayFree os (owner_at os b) (under os b)
destroyed_gives g os b h is on = record {
  once = once_of_differ (under os b) (under_once os b);
  used = (under_given_up g os h.frame b is on).used;
  apart = above_apart os (tree_of g os h.frame) b is on;
  lowered = λ x bank stays. omega (arith, usage_destroyed g os b h is on x stays, destroyed_fits g os b h is on x stays);
}

-- n is free, and one of the `count` numbers from `from` on
pub record IsFreeAmong (os : List Object) (from count n : ℕ) : Type 0 where
  pub from_on : from ≤ n
  pub below : n < from + count
  pub unused : IsTrue (is_free (content_at os n))

free_among : (os : List Object) (from count n : ℕ) → is_member (are_free os (range_with_len from count)) n ≡ true →
    IsFreeAmong os from count n
free_among os from count n member = grind (arith, nat_tests, found_in)

first_free : (os : List Object) (from count n : ℕ) (ns : List ℕ) → are_free os (range_with_len from count) ≡ n ∷ ns →
    IsFreeAmong os from count n
first_free os from count n ns are = free_among os from count n (ap (λ (xs : List ℕ). is_member xs n) are ∙ member_head n n ns refl)

-- one new object may be made at the first free number
one_may : (g : Geometry) (os : List Object) (b from count : ℕ) (f : Fresh) (c : BankChange) → IsTrue (is_bank (content_at os b)) →
    IsTrue (has_quota os b 1) → ((n : ℕ) → IsFreeAmong os from count n → IsFreshAt g n f) → IsMadeUnder os b f → (ns : List ℕ) →
    are_free os (range_with_len from count) ≡ ns
    → new_at b f ns ≡ Some c → MayMake g os (numbers_of c) c
one_may g os b from count f c bank room place kind ns are is = grind (arith, nat_tests, first_free)

-- a new process may be made at the first two free numbers
two_may : (g : Geometry) (os : List Object) (b : ℕ) (c : BankChange) → IsTrue (is_bank (content_at os b)) → IsTrue (has_quota os b 2) →
    (ns : List ℕ) → are_free os (range_with_len 0 g.nodes) ≡ ns → process_at b ns ≡ Some c → MayMake g os (numbers_of c) c
two_may g os b c bank room [] are is = cc
two_may g os b c bank room (r ∷ []) are is = cc
two_may g os b c bank room (r ∷ a ∷ ns) are is =
    let e : MakeProcess r a b ≡ c = cc in
    let first = first_free os 0 g.nodes r (a ∷ ns) are in
    let differ = subst (λ (xs : List ℕ). AllDiffer xs) are (filter_once (λ n. is_free (content_at os n)) 0 g.nodes) in
    let other : a ≢ r = λ same. false≢true (sym differ.0 ∙ member_head r a ns (sym same)) in
    let second = free_among os 0 g.nodes a (ap (λ (xs : List ℕ). is_member xs a) are
    ∙ (member_tail a r (a ∷ ns) other ∙ member_head a a ns refl)) in
    subst (λ (x : BankChange). MayMake g os (numbers_of x) x) e (record {
      listed = refl;
      bank = bank;
      room = room;
      unused = first.unused;
      annex_unused = second.unused;
      two = other;
      place = omega (arith, first.below);
      annex_place = omega (arith, second.below);
    })

short_chain : (length_of : ℕ) (short : Bool) → nat_lt length_of 16 ≡ short → not short ≡ false → length_of < 16
short_chain n short is e = grind (arith, nat_tests)

new_may : (g : Geometry) (os : List Object) (b : ℕ) (c : BankChange) → IsTrue (is_bank (content_at os b)) → (kind : New) →
    IsTrue (has_quota os b (count_of kind)) → made_for g os b kind ≡ Some c → is_deep os b kind ≡ false → MayMake g os (numbers_of c) c
unfolding free_nodes free_pages
new_may g os b c bank kind room some short = grind (arith, nat_tests, one_may, two_may, short_chain)

-- let os and us agree in roles (`SameFrame`): if a capability that frees an object fits that object's kind in os, it fits in us too
names_there : (os us : List Object) → SameFrame os us → (c : Capability) (n : ℕ) (ns : List ℕ) → freed_by os c ≡ n ∷ ns →
    NamesItsKind os c → NamesItsKind us c
names_there os us frame c n ns some names = grind (arith, nat_tests)

module _ {p : Parts} {s : BanksState} {b : ℕ} (h : MayServe p s b) {us : List Object} (frame : SameFrame (objects_in p) us)
    (now : IsNow p.geometry us) where
  bank_there : IsTrue (is_bank (content_at us b))
  bank_there = (tests_at (objects_in p) us frame b).bank ∙ h.bank

  pub may_new : (kind : New) (c : BankChange) → has_quota (objects_in p) b (count_of kind) ≡ true →
      made_for p.geometry (objects_in p) b kind ≡ Some c → is_deep (objects_in p) b kind ≡ false → MayMake p.geometry us (numbers_of c) c
  may_new kind c room some short =
      new_may p.geometry us b c bank_there kind (room_alike (objects_in p) us frame b (count_of kind) ∙ room)
      (made_alike (objects_in p) us frame p.geometry b kind ∙ some) (deep_alike (objects_in p) us frame p.geometry b kind ∙ short)

  pub may_free : (c : Capability) (n : ℕ) (ns : List ℕ) → NamesItsKind (objects_in p) c → freed_by (objects_in p) c ≡ n ∷ ns →
      owner_at (objects_in p) n ≡ b → Frees us (n ∷ ns) b
  may_free c n ns names some own = record {
    bank = bank_there;
    may = freed_list p.geometry us b c (n ∷ ns) now bank_there (names_there (objects_in p) us frame c n ns some names)
        (freed_alike (objects_in p) us frame c ∙ some) (omega arith) ((frame.alike n).owner ∙ own);
  }

  pub may_destroy : b ≢ 0 → (above : ℕ) → above ≡ owner_at (objects_in p) b → Frees us (under (objects_in p) b) above
  may_destroy on above is =
      rw (is ∙ sym (frame.alike b).owner) (record {
        bank = owner_bank us (tree_of p.geometry us now.frame) b bank_there;
        may = subst (λ (ns : List ℕ). MayFree us (owner_at us b) ns) (under_alike (objects_in p) us frame b)
            (destroyed_gives p.geometry us b now bank_there on);
      })

  pub may_return : b ≢ 0 → Transfers us (b ∷ owned_by (objects_in p) b) b
  may_return on = record {
    bank = bank_there;
    other = on;
    listed = ap (λ (ns : List ℕ). b ∷ ns)
        (sym (owned_alike (objects_in p) us frame b));
  }
