-- The numbers that an order of a bank writes, and the annex of a process that survives it.
use Rattle.model_laws.proofs.Names.{nat_tests, ℕ, Bool, true, false, List, [], refl, ap, subst, arith, IsTrue, range_with_len, All-cons, All-filter, All-nil}
use Rattle.model_laws.proofs.Names.{filter_passes, get_or-range_with_len, length-range_with_len, Capability, Geometry, Content, Object, Arguments, BankOrder}
use Rattle.model_laws.proofs.Names.{allocated, are_free, bank_allocated, freed, freed_by, free_nodes, free_pages, has_quota, inherited, new_annex, new_root}
use Rattle.model_laws.proofs.Names.{on_bank, owned_by, process_allocated, with_new, free, is_bank, is_free, is_root, root_in, OrderOutcome, names_member}
use Rattle.model_laws.proofs.Names.{rescind, without, NamesItsKind, annex_at, content_at, is_process}
use Rattle.std.proofs.Common.{◌≡◌, ◌≢◌, ◌+◌, ◌<◌, ◌≤◌, ◌==◌, ◌∷◌, ◌∙◌, if◌then◌else◌}
use Rattle.std.specs.Prelude.{length}
use Rattle.std.specs.List.{All}
use Rattle.model.specs.declared.order.BankOrder.TheVariants as bank
use Rattle.model_laws.proofs.Cases.{one_of}
use Rattle.model_laws.proofs.BankFreed.{owned_within, under_within, used_within}
use Rattle.model_laws.proofs.BankReturn.{transferred_content}
use Rattle.model_laws.proofs.BankTree.{at_other}
use Rattle.model_laws.proofs.Revoking.{at_rescind}
use Rattle.model_laws.proofs.Mapped.{at_map}
use Rattle.model_laws.proofs.SoundOrders.{IsNow}

-- a number that is a process before and after has the same annex
abbrev KeepsAnnexes : List Object → List Object → Type 0
KeepsAnnexes os us = (p : ℕ) → is_process os p ≡ true → is_process us p ≡ true → annex_at us p ≡ annex_at os p

root_not_free : (c : Content Capability) → is_root c ≡ true → is_free c ≡ true → ⊥
root_not_free c r f = grind (arith, nat_tests)

after : (set : List ℕ) (b : Bool) (o : Object) → is_root (if b then free else without (names_member set) o).content ≡ true →
    (root_in (if b then free else without (names_member set) o).content).annex ≡ (root_in o.content).annex
after set b o is = grind (arith, nat_tests)

rescind_annexes : (set : List ℕ) (os : List Object) → KeepsAnnexes os (rescind set os)
rescind_annexes set os p before is = grind (arith, nat_tests, at_rescind, after)

inherited_content : (os : List Object) (b n : ℕ) → content_at (inherited os b) n ≡ content_at os n
unfolding inherited
inherited_content os b n = grind (arith, nat_tests, at_map, transferred_content)

inherited_annexes : (b : ℕ) (os : List Object) → KeepsAnnexes os (rescind (b ∷ []) (inherited os b))
inherited_annexes b os p before is = grind (arith, nat_tests, rescind_annexes, inherited_content)

module _ (os : List Object) (b : ℕ) where
  -- a process isn't at a free number
  apart : (p n : ℕ) → is_process os p ≡ true → is_free (content_at os n) ≡ true → p ≢ n
  apart p n is unused same = root_not_free (content_at os n) (subst (λ (k : ℕ). is_process os k ≡ true) same is) unused

  new_annexes : (n : ℕ) (c : Content Capability) → is_free (content_at os n) ≡ true → KeepsAnnexes os (with_new os n b c)
  new_annexes n c unused p before is = ap (λ (o : Object). (root_in o.content).annex) (at_other os n b c p (apart p n before unused))

  two_annexes : (n m : ℕ) (c d : Content Capability) → is_free (content_at os n) ≡ true → is_free (content_at os m) ≡ true →
      KeepsAnnexes os (with_new (with_new os n b c) m b d)
  two_annexes n m c d first second p before is = grind (arith, nat_tests, at_other, apart)

  abbrev Kept : OrderOutcome → Type 0
  Kept o = KeepsAnnexes os o.objects

  same : KeepsAnnexes os os
  same p before is = refl

  allocated_annexes : (ns : List ℕ) (c : Content Capability) (named : ℕ → Capability) → All (λ n. is_free (content_at os n) ≡ true) ns →
      Kept (allocated os b ns c named)
  allocated_annexes ns c named unused = grind (arith, nat_tests, same, new_annexes)

  process_annexes : (ns : List ℕ) → All (λ n. is_free (content_at os n) ≡ true) ns → Kept (process_allocated os b ns)
  process_annexes [] unused = same
  process_annexes (p ∷ []) unused = same
  process_annexes (p ∷ a ∷ ns) unused = two_annexes p a (new_root a) new_annex (unused 0 0 (omega arith)) (unused 1 0 (omega arith))

  bank_annexes : (ns : List ℕ) (limit : ℕ) → All (λ n. is_free (content_at os n) ≡ true) ns → Kept (bank_allocated os b ns limit)
  bank_annexes ns limit unused = grind (arith, nat_tests, same, one_of, new_annexes)

  freed_annexes : (ns : List ℕ) → Kept (freed os b ns)
  freed_annexes ns = grind (arith, nat_tests, same, one_of, rescind_annexes)

  nodes_unused : (g : Geometry) → All (λ n. is_free (content_at os n) ≡ true) (free_nodes g os)
  unfolding free_nodes
  nodes_unused g = filter_passes (λ n. is_free (content_at os n)) (range_with_len 0 g.nodes)

  pages_unused : (g : Geometry) → All (λ n. is_free (content_at os n) ≡ true) (free_pages g os)
  unfolding free_pages
  pages_unused g = filter_passes (λ n. is_free (content_at os n)) (range_with_len g.nodes g.pages)

pub annex_kept : (g : Geometry) (os : List Object) (b : ℕ) (requested : BankOrder) (args : Arguments) (p : ℕ) → is_process os p ≡ true →
    is_process (on_bank g os b requested args).objects p ≡ true →
    annex_at (on_bank g os b requested args).objects p ≡ annex_at os p
unfolding on_bank
annex_kept g os b requested args p is has =
    grind (
      arith,
      nat_tests,
      allocated_annexes,
      pages_unused,
      nodes_unused,
      process_annexes,
      bank_annexes,
      freed_annexes,
      rescind_annexes,
      inherited_annexes,
    )

bank_is_used : (c : Content Capability) → IsTrue (is_bank c) → is_free c ≡ false
bank_is_used c is = grind (arith, nat_tests)

-- every number written is that of an object
abbrev Within : List Object → OrderOutcome → Type 0
Within os o = All (λ n. n < length os) o.written

none_within : (os : List Object) → All (λ n. n < length os) []
none_within os = All-nil (λ n. n < length os)

one_within : (os : List Object) (n : ℕ) → n < length os → All (λ n. n < length os) (n ∷ [])
one_within os n inside = All-cons (λ n. n < length os) n [] inside (none_within os)

allocated_within : (os : List Object) (b : ℕ) (ns : List ℕ) (c : Content Capability) (named : ℕ → Capability) →
    All (λ n. n < length os) ns → Within os (allocated os b ns c named)
allocated_within os b ns c named inside = grind (arith, nat_tests)

process_within : (os : List Object) (b : ℕ) (ns : List ℕ) → All (λ n. n < length os) ns → Within os (process_allocated os b ns)
process_within os b [] inside = none_within os
process_within os b (p ∷ []) inside = none_within os
process_within os b (p ∷ a ∷ ns) inside = All-cons (λ n. n < length os) p (a ∷ []) (inside 0 0 (omega arith))
    (one_within os a (inside 1 0 (omega arith)))

bank_within : (os : List Object) (b : ℕ) (ns : List ℕ) (limit : ℕ) → All (λ n. n < length os) ns → Within os (bank_allocated os b ns limit)
bank_within os b ns limit inside = grind (arith, nat_tests)

range_within : (os : List Object) (from count : ℕ) → from + count ≤ length os →
    All (λ n. n < length os) (are_free os (range_with_len from count))
range_within os from count fits =
    All-filter (λ n. is_free (content_at os n)) (λ n. n < length os) (range_with_len from count)
    (λ k d inside. let e = get_or-range_with_len from count k d (omega (arith, inside, length-range_with_len from count)) in omega
    (arith, e, inside, length-range_with_len from count))

freed_inside : (g : Geometry) (os : List Object) (b : ℕ) (c : Capability) (ns : List ℕ) → IsNow g os → NamesItsKind os c →
    freed_by os c ≡ ns → Within os (freed os b ns)
freed_inside g os b c ns h kind is = grind (arith, nat_tests)

pub written_within : (g : Geometry) (os : List Object) (b : ℕ) (requested : BankOrder) (args : Arguments) → IsNow g os →
    IsTrue (is_bank (content_at os b)) → NamesItsKind os args.capability →
    All (λ n. n < length os) (on_bank g os b requested args).written
unfolding on_bank free_nodes free_pages
written_within g os b bank.NewPage args h is kind = one_of (Within os) (has_quota os b 1) _ _
    (allocated_within os b _ _ _ (range_within os g.nodes g.pages (omega (arith, h.frame.size)))) (none_within os)
written_within g os b bank.NewNode args h is kind = one_of (Within os) (has_quota os b 1) _ _
    (allocated_within os b _ _ _ (range_within os 0 g.nodes (omega (arith, h.frame.size)))) (none_within os)
written_within g os b bank.NewProcess args h is kind = one_of (Within os) (has_quota os b 2) _ _
    (process_within os b _ (range_within os 0 g.nodes (omega (arith, h.frame.size)))) (none_within os)
written_within g os b bank.NewBank args h is kind = one_of (Within os) (has_quota os b 1) _ _
    (bank_within os b _ args.first (range_within os 0 g.nodes (omega (arith, h.frame.size)))) (none_within os)
written_within g os b bank.Free args h is kind = freed_inside g os b args.capability (freed_by os args.capability) h kind refl
written_within g os b bank.Destroy args h is kind = one_of (Within os) (b == 0) _ _ (none_within os) (under_within os b)
written_within g os b bank.ReturnToParent args h is kind =
    one_of (Within os) (b == 0) _ _ (none_within os)
    (All-cons (λ n. n < length os) b (owned_by os b) (used_within os b (bank_is_used (content_at os b) is)) (owned_within os b))
written_within g os b bank.Remaining args h is kind = none_within os
