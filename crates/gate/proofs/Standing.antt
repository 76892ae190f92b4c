-- The objects of sound frames: which numbers exist, and which capabilities may be kept (have an encoding). Allocation counts
-- after an invocation.
use Rattle.gate.proofs.Names.{nat_tests, ℕ, true, false, Some, List, [], length, refl, ap, subst, arith, IsTrue, All, Capability, Resume, ObjectHeader, Object}
use Rattle.gate.proofs.Names.{named, is_annex, is_free, NamesItsKind, content_at, is_process, is_running_process, Parts, frames_of, objects_in, annex_used}
use Rattle.gate.proofs.Names.{bank_used, known_used, node_used, page_used, root_used, sym, get_or-map, Cap, Frame, Geometry, Content, blank_frame, conveyed}
use Rattle.gate.proofs.Names.{current_count, frame_at, header_at, headers, held_at, AreKeepable, IsCount, IsKeptCap, IsNodeNumber, is_node, is_root}
use Rattle.gate.proofs.Names.{map_content, IsOfKind, MayBeHeld, object_count, content_there, headers_in, keepable_count, bank_number, node_number, page_number}
use Rattle.gate.proofs.Names.{root_number, FitsCap, objects_of, IsSoundFrames, world_at, annex_at, register_at, IsNow, nearly_from, AreSound, Prepares}
use Rattle.gate.proofs.Names.{length_objects, keepable_later, Invocation, IsRequested, slot_at, slice_index, Effect, invoke, IsNoBankOrder, Fits}
use Rattle.gate.proofs.Names.{invocation_frame, SameFrame, tests_at, Renews, SameAllocations, SameFree, renews_none, Gate, gate_capability, FetchesOrFails}
use Rattle.gate.proofs.Names.{touched_too}
use Rattle.std.specs.Prelude.{Ok}
use Rattle.std.proofs.Common.{◌≡◌, ◌<◌, ◌∷◌, ◌∙◌, ◌^◌, ◌≤◌, ◌+◌, ◌-◌}
use Rattle.model.specs.declared.command.Command.TheVariants as command

pub annex_known : (p : Parts) (n : ℕ) → IsTrue (is_annex (content_at (objects_in p) n)) → n < length p.headers
annex_known p n is = known_used p n (annex_used (content_at (objects_in p) n) is)

-- the object that a capability names isn't free, if the capability may be held
module _ (os : List Object) where
  pub named_used : (c : Capability) → NamesItsKind os c → (n : ℕ) → named c ≡ Some n → is_free (content_at os n) ≡ false
  named_used c kind n is = grind (arith, nat_tests, page_used, node_used, root_used, bank_used)

pub named_known : (p : Parts) (c : Capability) → NamesItsKind (objects_in p) c → (n : ℕ) → named c ≡ Some n → n < length p.headers
named_known p c kind n is = known_used p n (named_used (objects_in p) c kind n is)

-- a running process is a process
pub running_process : (os : List Object) (p : ℕ) → IsTrue (is_running_process os p) → IsTrue (is_process os p)
running_process os p running = grind (arith, nat_tests)

-- a property of two numbers holds of each number in their list
pub both_known : (P : ℕ → Type 0) (m n : ℕ) → P m → P n → All P (m ∷ n ∷ [])
both_known P m n x y is d inside = grind (arith, nat_tests)

header_there : (fs : List Frame) (n : ℕ) → header_at (headers fs) n ≡ (frame_at fs n).header
header_there fs n = get_or-map (λ (f : Frame). f.header) fs n blank_frame

-- a capability that fits may be kept with its object's present count
module _ (g : Geometry) (age : ℕ) (fs : List Frame) (keepable : AreKeepable g age fs) where
  allocations_fit : (n : ℕ) → n < object_count g → IsCount age (header_at (headers fs) n).allocations
  allocations_fit n inside = subst (λ (h : ObjectHeader). IsCount age h.allocations) (sym (header_there fs n))
      (keepable.each n inside).kept.allocations

  calls_fit : (n : ℕ) → n < object_count g → IsCount age (header_at (headers fs) n).calls
  calls_fit n inside = subst (λ (h : ObjectHeader). IsCount age h.calls) (sym (header_there fs n)) (keepable.each n inside).kept.calls

  pub live_is_kept : (c : Capability) → FitsCap g c → IsKeptCap g age (record { what = c; count = current_count (headers fs) c })
  live_is_kept c fits = grind (arith, nat_tests, allocations_fit, calls_fit)

-- a capability that may be held satisfies `FitsCap`
module _ (g : Geometry) (os : List Object) (kinds : (n : ℕ) → IsOfKind g n (content_at os n)) (few : object_count g < 2 ^ 64) where
  kept_number : (n : ℕ) → n < g.nodes → IsNodeNumber g n
  kept_number n inside = (inside, omega (arith, inside, few))

  zero_count : IsCount 0 0
  zero_count = (omega arith, omega arith)

  pub held_fits : (c : Capability) → MayBeHeld os c → FitsCap g c
  held_fits c h = grind (arith, nat_tests, page_number, zero_count, kept_number, node_number, root_number, bank_number)

  -- the resume capability of a process satisfies `FitsCap`
  pub resume_fits : (p : ℕ) → IsTrue (is_root (content_at os p)) → FitsCap g (Resume p)
  resume_fits p is = (kept_number p (root_number g p (content_at os p) (kinds p) is), zero_count)

-- a capability that satisfies `FitsCap` may be kept in a store's frames with its object's present count
pub fits_kept : (g : Geometry) (age : ℕ) (p : Parts) → AreKeepable g age (frames_of p) → (c : Capability) → FitsCap g c →
    IsKeptCap g age (record { what = c; count = current_count p.headers c })
fits_kept g age p keepable c fits =
    subst (λ (hs : List ObjectHeader). IsKeptCap g age (record { what = c; count = current_count hs c })) (headers_in p.headers p.contents)
    (live_is_kept g age (frames_of p) keepable c fits)

-- frames that may be kept in a geometry may be kept in an equal one
pub in_geometry : {f g : Geometry} {age : ℕ} {fs : List Frame} → f ≡ g → AreKeepable g age fs → AreKeepable f age fs
in_geometry {f} {g} {age} {fs} same k = subst (λ (h : Geometry). AreKeepable h age fs) (sym same) k

-- a node isn't an annex
no_annex_map : (f : Cap → Capability) (c : Content Cap) → is_node (map_content f c) ≡ true → is_annex c ≡ true → ⊥
no_annex_map f c node annex = grind (arith, nat_tests)

pub node_is_no_annex : (p : Parts) (n : ℕ) → IsTrue (is_node (content_at (objects_in p) n)) → IsTrue (is_annex (held_at p.contents n)) → ⊥
node_is_no_annex p n node annex =
    let known = known_used p n (node_used (content_at (objects_in p) n) node) in
    no_annex_map (conveyed p.headers) (held_at p.contents n)
    (subst (λ (c : Content Capability). is_node c ≡ true) (content_there p n known (held_at p.contents n) refl) node) annex

-- the call count of an object is at most the age
pub calls_kept : (g : Geometry) (age : ℕ) (p : Parts) → AreKeepable g age (frames_of p) → (n : ℕ) → n < length p.headers →
    (header_at p.headers n).calls ≤ age
calls_kept g age p keepable n known =
    let inside : n < object_count g = subst (λ (m : ℕ). n < m) (keepable_count g age p keepable) known in
    subst (λ (hs : List ObjectHeader). (header_at hs n).calls ≤ age) (headers_in p.headers p.contents)
    (calls_fit g age (frames_of p) keepable n inside).0

module _ (p : Parts) (sound : AreSound p) where
  pub keepable_most : AreKeepable p.geometry (2 ^ 64 - 1) (frames_of p)
  keepable_most = keepable_later p.geometry sound.0 (2 ^ 64 - 1) (frames_of p) (omega (arith, sound.1.sound.age)) sound.1.keepable

  pub now_sound : IsNow p.geometry (objects_in p)
  now_sound = nearly_from p.geometry (world_at sound.0 (frames_of p)) sound.1.sound

  pub few_objects : length p.headers < 2 ^ 64 → object_count p.geometry < 2 ^ 64
  few_objects few = subst (λ (n : ℕ). n < 2 ^ 64) (keepable_count p.geometry sound.0 p sound.1.keepable) few

  pub register_kind : (q r : ℕ) (c : Capability) → c ≡ register_at (objects_in p) q r → NamesItsKind (objects_in p) c
  register_kind q r c is = subst (NamesItsKind (objects_in p)) (sym is) (sound.1.sound.slots (annex_at (objects_in p) q) r).1

  pub annex_there : (q : ℕ) → IsTrue (is_process (objects_in p) q) → IsTrue
      (is_annex (content_at (objects_in p) (annex_at (objects_in p) q)))
  annex_there q is = (sound.1.sound.annexes q is).0

  -- no call count has the greatest value of 64 bits
  pub calls_below : (n : ℕ) → n < length p.headers → (header_at p.headers n).calls < 2 ^ 64 - 1
  calls_below n known = omega (arith, calls_kept p.geometry sound.0 p sound.1.keepable n known, sound.1.sound.age)

-- after a call that only reads, and then an announcement, only the touched numbers differ
module _ {S : Type 0} {parts : S → Parts} {Continues : S → S → Type 0} {s t u : S} where
  pub announced_same : {T U : Type 0} {x : T} {y : U} {ws : List ℕ} → FetchesOrFails {T = T} parts Continues s t (Ok x) →
      Prepares {T = U} parts Continues t u ws (Ok y) → parts u ≡ touched_too ws (parts s)
  announced_same {T} {U} {x} {y} {ws} fetched prepared = prepared.done ∙ ap (touched_too ws) fetched.same

-- the capability that a process invokes is the one read from its annex
pub requested_by : {old now : Parts} → now ≡ old → (i : Invocation) (annex : ℕ) (invoked : Capability) →
    annex ≡ annex_at (objects_in old) i.process → invoked ≡ slot_at (objects_in now) annex i.register →
    IsRequested (objects_in now) i (record { process = i.process; annex = annex; operation = i.operation; invoked = invoked })
requested_by {old} {now} same i annex invoked annex_is is = grind (arith, nat_tests)

-- the number of an object has a header
pub inside_known : (p : Parts) (n : ℕ) → n < length (objects_in p) → n < length p.headers
inside_known p n inside = subst (λ (m : ℕ). n < m) (length_objects p.headers p.contents) inside

pub requested_annex : (p : Parts) (sound : AreSound p) (q a : ℕ) → IsTrue (is_process (objects_in p) q) → a ≡ annex_at (objects_in p) q →
    a < length p.headers
requested_annex p sound q a is same = subst (λ (n : ℕ). n < length p.headers) (sym same)
    (annex_known p (annex_at (objects_in p) q) (annex_there p sound q is))

-- an invocation through a gate is no order of a bank
pub gate_no_bank : (gate : Gate) (w : ℕ) → IsNoBankOrder (gate_capability gate) w
gate_no_bank gate w = grind (arith, nat_tests)

-- lists of objects that agree in owners, roles, annexes and limits (`SameFrame`) have the same free numbers
pub free_in_frame : (p q : Parts) (us : List Object) → objects_in q ≡ us → SameFrame (objects_in p) us → SameFree p q
free_in_frame p q us objects frame n = grind (arith, nat_tests, tests_at)

-- an invocation that is no order of a bank frees nothing
pub renews_invoked : (old mid new : Parts) (i : Invocation) (e : Effect) → AreSound old → mid.headers ≡ old.headers →
    Fits (command.Invoke i) → IsTrue (is_running_process (objects_in old) i.process) →
    IsNoBankOrder (register_at (objects_in old) i.process i.register) (slice_index i.words 0)
    → invoke old.geometry (objects_in old) i ≡ Some e → objects_in new ≡ e.objects → SameAllocations mid new → Renews old new
renews_invoked old mid new i e sound headers fits runs other is objects same =
    renews_none old new (λ n. same n ∙ ap (λ (hs : List ObjectHeader). (header_at hs n).allocations) headers)
    (λ n used. free_in_frame old new e.objects objects (invocation_frame old.geometry (objects_in old) i e (now_sound old sound) fits runs
    other is) n ∙ used)
