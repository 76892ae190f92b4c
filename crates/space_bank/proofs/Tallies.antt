-- The banks' state agrees with sound frames, also after objects were made, freed or transferred. A walk along a chain of banks.
use Rattle.space_bank.proofs.Names.{nat_tests, ℕ, true, false, List, length, refl, sym, ap, arith, IsTrue, slice_index, Cap, Capability, Geometry}
use Rattle.space_bank.proofs.Names.{Content, Object, chain, usage, has_quota, conveyed, header_at, held_at, AreKeepable, world_at, is_free, limit_in}
use Rattle.space_bank.proofs.Names.{map_content, role_of, is_member, HasShape, object_count, content_at, IsTree, chain_banks, tree_of, member_passes, IsNow}
use Rattle.space_bank.proofs.Names.{IsFramed, nearly_from, Parts, frames_of, objects_in, content_there, keepable_at, keepable_count, BanksState, HaveTheirRoles}
use Rattle.space_bank.proofs.Names.{MayServe, is_bank, keepable_roles, MayShift, inl, inr, Bool, [], subst, slice_set, cases_eq, get_or-set_other}
use Rattle.space_bank.proofs.Names.{get_or-set_same, length-set, owner_at, chain_itself, chain_length, chain_longer, chain_nonempty, chain_once, chain_unfolds}
use Rattle.space_bank.proofs.Names.{chain_zero, member_tail, owner_bank, IsRaised, IsShifted, take, list_any_more, object_at, AreTransferred}
use Rattle.space_bank.proofs.Names.{slice_index_or, get_or-append_right, get_or_append_left, length-append, new_annex, new_root, with_new, is_root, root_in}
use Rattle.space_bank.proofs.Names.{at_new, at_other, chain_new, length_new, new_bank_kept, tree_new, usage_new, usage_new_bank, AreCounted, marks_of}
use Rattle.space_bank.proofs.Names.{is_marked, Void, AreCurrent, Fresh, FreshFits, fresh_content, length_objects, keepable_later, CarriesOut, IsFreshAt}
use Rattle.space_bank.proofs.Names.{IsMadeUnder, IsMade, MakesOne, MakesTwo}
use Rattle.std.proofs.Common.{◌≡◌, ◌≢◌, ◌+◌, ◌^◌, ◌<◌, ◌≤◌, ◌∙◌, ◌-◌, ◌||◌, ◌∷◌}
use Rattle.std.specs.Prelude.{if◌then◌else◌, nat_eq, ◌==◌}
use Rattle.model.specs.declared.object.Content.TheVariants as content
use Rattle.model.specs.declared.object.Role.TheVariants as role
use Rattle.capability.specs.declared.present.Fresh.TheVariants as fresh

-- a free content has the free role
role_free : (f : Cap → Capability) (c : Content Cap) → is_free (map_content f c) ≡ true → role_of c ≡ role.Free
role_free f c is = grind (arith, nat_tests)

role_used : (f : Cap → Capability) (c : Content Cap) → is_free (map_content f c) ≡ false → role_of c ≢ role.Free
role_used f c is e = grind (arith, nat_tests)

module _ (g : Geometry) (age : ℕ) (p : Parts) (k : AreKeepable g age (frames_of p)) (n : ℕ) (known : n < length p.headers) where
  there : content_at (objects_in p) n ≡ map_content (conveyed p.headers) (held_at p.contents n)
  there = content_there p n known (held_at p.contents n) refl

  pub free_header : IsTrue (is_free (content_at (objects_in p) n)) → (header_at p.headers n).role ≡ role.Free
  free_header is =
      (keepable_at g age p n known k).kept.role
      ∙ role_free (conveyed p.headers) (held_at p.contents n) (sym (ap (λ (c : Content Capability). is_free c) there) ∙ is)

  pub used_header : is_free (content_at (objects_in p) n) ≡ false → (header_at p.headers n).role ≢ role.Free
  used_header is e =
      role_used (conveyed p.headers) (held_at p.contents n) (sym (ap (λ (c : Content Capability). is_free c) there) ∙ is)
      (sym (keepable_at g age p n known k).kept.role ∙ e)

  -- each count is at most the age
  pub few_allocations : (header_at p.headers n).allocations ≤ age
  few_allocations = (keepable_at g age p n known k).kept.allocations.0

  pub few_calls : (header_at p.headers n).calls ≤ age
  few_calls = (keepable_at g age p n known k).kept.calls.0

limit_shape : (c : Content Capability) → HasShape c → limit_in c < 2 ^ 64
limit_shape c shape = grind (arith, nat_tests)

-- if the quota allows `count` objects, each usage in the chain plus `count` is within its limit
pub room_within : (os : List Object) (b count x : ℕ) → IsTrue (has_quota os b count) → is_member (chain os b) x ≡ true →
    usage os x + count ≤ limit_in (content_at os x)
unfolding has_quota
room_within os b count x room member = grind (arith, nat_tests, member_passes)

module _ {p : Parts} {s : BanksState} {b : ℕ} (asks : MayServe p s b) where
  pub serve_now : IsNow p.geometry (objects_in p)
  serve_now = nearly_from p.geometry (world_at asks.sound.0 (frames_of p)) asks.sound.1.sound

  pub serve_framed : IsFramed p.geometry (objects_in p)
  serve_framed = serve_now.frame

  pub serve_tree : IsTree (objects_in p)
  serve_tree = tree_of p.geometry (objects_in p) serve_framed

  pub serve_count : length p.headers ≡ object_count p.geometry
  serve_count = keepable_count p.geometry asks.sound.0 p asks.sound.1.keepable

  pub serve_roles : HaveTheirRoles (frames_of p)
  serve_roles = keepable_roles p.geometry asks.sound.0 (frames_of p) asks.sound.1.keepable

  -- each number in the chain of a bank is a bank
  pub chain_bank : (x : ℕ) → is_member (chain (objects_in p) b) x ≡ true → IsTrue (is_bank (content_at (objects_in p) x))
  chain_bank x member = chain_banks (objects_in p) serve_tree b x asks.bank member

  pub limit_few : (x : ℕ) → limit_in (content_at (objects_in p) x) < 2 ^ 64
  limit_few x = limit_shape (content_at (objects_in p) x) (asks.sound.1.sound.shapes x)

  pub room_fits : (count : ℕ) → IsTrue (has_quota (objects_in p) b count) → (x : ℕ) → is_member (chain (objects_in p) b) x ≡ true →
      MayShift count 0 (slice_index s.usages x)
  room_fits count room x member = record {
    few = omega (arith, asks.counted.usage x (chain_bank x member), room_within (objects_in p) b count x room member, limit_few x);
    enough = omega arith;
  }

  pub lowered_fits : (count : ℕ) → ((x : ℕ) → is_member (chain (objects_in p) b) x ≡ true → count ≤ slice_index s.usages x) → (x : ℕ) →
      is_member (chain (objects_in p) b) x ≡ true → MayShift 0 count (slice_index s.usages x)
  lowered_fits count enough x member =
      let bank = chain_bank x member in
      record {
        few = omega (arith, asks.counted.usage x bank, asks.sound.1.sound.limits x bank, limit_few x);
        enough = omega (arith, enough x member);
      }

  pub free_role : (n : ℕ) → n < length p.headers → IsTrue (is_free (content_at (objects_in p) n)) → (header_at p.headers n).role ≡ role.Free
  free_role n known is = free_header p.geometry asks.sound.0 p asks.sound.1.keepable n known is

-- the share of bank x if `amount` is added along the chain of b: `amount` if x is in the chain, else 0
abbrev pub share : List Object → ℕ → ℕ → ℕ → ℕ
share os c count x = if is_member (chain os c) x then count else 0

-- A walk from bank b has passed i banks and is at bank c.
pub record Climbs (os : List Object) (b i c : ℕ) : Type 0 where
  pub bank : IsTrue (is_bank (content_at os c))
  pub short : length (chain os c) + i ≤ 16
  pub within : (x : ℕ) → is_member (chain os c) x ≡ true → is_member (chain os b) x ≡ true

-- `more` was added, and `less` subtracted, for the banks in b's chain that aren't in that of c.
pub record IsShifting (os : List Object) (b c more less : ℕ) (old now : List ℕ) : Type 0 where
  pub size : length now ≡ length old
  pub each : (x : ℕ) → slice_index now x + share os b less x + share os c more x ≡ slice_index old x + share os b more x + share os c less x

pub climb_starts : {os : List Object} {b : ℕ} → IsTrue (is_bank (content_at os b)) → Climbs os b 0 b
climb_starts {os} {b} is = record { bank = is; short = omega (arith, chain_length os b); within = λ x member. member }

pub shifting_starts : {os : List Object} {b more less : ℕ} {old : List ℕ} → IsShifting os b b more less old old
shifting_starts = record { size = refl; each = λ x. omega arith }

module _ {os : List Object} (t : IsTree os) {b i c : ℕ} (at : Climbs os b i c) where
  climb_itself : is_member (chain os b) c ≡ true
  climb_itself = at.within c (chain_itself os t c at.bank)

  pub climb_ended : 16 ≤ i → ⊥
  climb_ended past = omega (arith, at.short, chain_nonempty os t c at.bank)

  pub climbs_on : c ≢ 0 → Climbs os b (i + 1) (owner_at os c)
  climbs_on on = grind (arith, nat_tests, owner_bank, chain_longer, climb_itself, chain_unfolds, member_tail)

  share_here : (count : ℕ) → share os c count c ≡ count
  share_here count = rw (chain_itself os t c at.bank) refl

  share_first : (count : ℕ) → share os b count c ≡ count
  share_first count = rw climb_itself refl

  share_owner : (count : ℕ) → c ≢ 0 → share os (owner_at os c) count c ≡ 0
  share_owner count on = rw (chain_once os t c at.bank on) refl

  share_other : (count x : ℕ) → c ≢ 0 → x ≢ c → share os c count x ≡ share os (owner_at os c) count x
  share_other count x on differ = grind (arith, nat_tests, chain_unfolds, member_tail)

  share_prime : (count x : ℕ) → c ≡ 0 → x ≢ c → share os c count x ≡ 0
  share_prime count x end differ = grind (arith, nat_tests, chain_zero, member_tail)

  module _ {more less : ℕ} {old now : List ℕ} (each : (x : ℕ) → IsTrue (is_bank (content_at os x)) → x < length old)
      (fits : (x : ℕ) → is_member (chain os b) x ≡ true → MayShift more less (slice_index old x)) (r : IsShifting os b c more less old now)
    where
      inside : c < length now
      inside = omega (arith, each c at.bank, r.size)

      -- the usage of bank c is unchanged so far
      same_here : slice_index now c ≡ slice_index old c
      same_here = omega (arith, r.each c, share_here more, share_here less, share_first more, share_first less)

      pub still_fits : MayShift more less (slice_index now c)
      still_fits = subst (λ (n : ℕ). MayShift more less n) (sym same_here) (fits c climb_itself)

      pub shifts_on : c ≢ 0 → IsShifting os b (owner_at os c) more less old (slice_set now c (slice_index now c + more - less))
      shifts_on on = grind (
        arith,
        nat_tests,
        length-set,
        get_or-set_same,
        inside,
        still_fits,
        same_here,
        share_first,
        share_owner,
        get_or-set_other,
        share_other,
      )

      pub shifted_last : c ≡ 0 → IsShifted (chain os b) more less old (slice_set now c (slice_index now c + more - less))
      shifted_last end = grind (
        arith,
        nat_tests,
        length-set,
        get_or-set_same,
        inside,
        still_fits,
        same_here,
        share_first,
        get_or-set_other,
        share_prime,
      )

-- a step of the proof: the choice between 0 and 0 is 0
nothing : (is : Bool) → ◌≡◌ {A = ℕ} (if is then 0 else 0) 0
nothing is = grind (arith, nat_tests)

module _ {banks : List ℕ} {count : ℕ} {old new : List ℕ} where
  pub raised_of : IsShifted banks count 0 old new → IsRaised banks count old new
  raised_of s = record { size = s.size; each = λ b. omega (arith, s.each b, nothing (is_member banks b)) }

  pub lowered_of : IsShifted banks 0 count old new → IsRaised banks count new old
  lowered_of s = record { size = sym s.size; each = λ b. omega (arith, s.each b, nothing (is_member banks b)) }

-- an object, with owner b if it is transferred
abbrev pub transferred : Bool → ℕ → Object → Object
transferred goes b o = if goes then record { owner = b; content = o.content } else o

pub transferred_content : (goes : Bool) (b : ℕ) (o : Object) → (transferred goes b o).content ≡ o.content
transferred_content goes b o = grind (arith, nat_tests)

-- transferred objects keep their contents
pub transferred_same : (list : List ℕ) (b : ℕ) (os us : List Object) → AreTransferred list b os us → (n : ℕ) →
    content_at us n ≡ content_at os n
transferred_same list b os us are n = ap (λ (o : Object). o.content) (are.each n)
    ∙ transferred_content (is_member list n) b (object_at os n)

pub transferred_used : (list : List ℕ) (b : ℕ) (os us : List Object) → AreTransferred list b os us → (n : ℕ) →
    is_free (content_at os n) ≡ false → is_free (content_at us n) ≡ false
transferred_used list b os us are n used = ap (λ (c : Content Capability). is_free c) (transferred_same list b os us are n) ∙ used

-- the first i + 1 numbers of a list are the first i and the next
taken : (list : List ℕ) (i n : ℕ) → i < length list → is_member (take (i + 1) list) n
    ≡ (is_member (take i list) n || (n == slice_index list i))
taken list i n inside = list_any_more (nat_eq n) list i 0 inside

pub transferred_more : (list : List ℕ) (i b : ℕ) (os us vs : List Object) → i < length list → slice_index list i < length us →
    AreTransferred (take i list) b os us
    → vs ≡ slice_set us (slice_index list i) (record { owner = b; content = content_at us (slice_index list i) }) →
    AreTransferred (take (i + 1) list) b os vs
transferred_more list i b os us vs inside known are is =
    grind (arith, nat_tests, length-set, get_or-set_same, transferred_same, taken, get_or-set_other)

-- if the first i numbers of a list are marked as free, and then the next, i + 1 are
pub marked_more : (before now next : List Bool) (list : List ℕ) (i : ℕ) → i < length list → slice_index list i < length now
    → next ≡ slice_set now (slice_index list i) true
    → ((n : ℕ) → slice_index_or now n false ≡ (if is_member (take i list) n then true else slice_index_or before n false))
    → (n : ℕ) → slice_index_or next n false ≡ (if is_member (take (i + 1) list) n then true else slice_index_or before n false)
marked_more before now next list i inside known is marks n = grind (arith, nat_tests, taken, get_or-set_same, get_or-set_other)

-- the marks say of each number whether it is free
abbrev pub AreMarked : Geometry → List Object → List Bool → Type 0
AreMarked g os marks = (n : ℕ) → n < object_count g → is_marked marks n ≡ is_free (content_at os n)

pub marks_counted : {g : Geometry} {os : List Object} {s : BanksState} → AreCounted g os s → AreMarked g os (marks_of s)
marks_counted {g} {os} {s} counted n known = grind (arith, nat_tests, inside, get_or_append_left, get_or-append_right)

-- two states have lists of the same lengths, and memory for the same list of numbers
pub record IsAsWide (s t : BanksState) : Type 0 where
  pub nodes : length t.free_nodes ≡ length s.free_nodes
  pub pages : length t.free_pages ≡ length s.free_pages
  pub usages : length t.usages ≡ length s.usages
  pub limits : length t.limits ≡ length s.limits
  pub annexes : length t.annexes ≡ length s.annexes
  pub room : t.room ≡ s.room

-- for each object that passes a test, the list has at its index the number computed from its content
abbrev pub HasEach : (Content Capability → Bool) → (Content Capability → ℕ) → List Object → List ℕ → Type 0
HasEach passes number os xs = (x : ℕ) → IsTrue (passes (content_at os x)) → slice_index xs x ≡ number (content_at os x)

abbrev pub annex_in : Content Capability → ℕ
annex_in c = (root_in c).annex

pub counted_from : {g : Geometry} {os : List Object} (us : List Object) {s : BanksState} (t : BanksState) → AreCounted g os s →
    IsAsWide s t → AreMarked g us (marks_of t) → ((x : ℕ) → IsTrue (is_bank (content_at us x)) → slice_index t.usages x ≡ usage us x)
    → HasEach is_bank limit_in us t.limits → HasEach is_root annex_in us t.annexes → AreCounted g us t
counted_from {g} {os} us {s} t counted wide marks usages limits annexes = grind (arith, nat_tests, get_or_append_left, get_or-append_right)

marks_length : {g : Geometry} {os : List Object} {s : BanksState} → AreCounted g os s → length (marks_of s) ≡ object_count g
marks_length {g} {os} {s} counted = omega (arith, length-append s.free_nodes s.free_pages, counted.nodes, counted.pages)

-- after the number of a new object is marked as taken, all marks are right
marked_new : (g : Geometry) (os : List Object) (marks : List Bool) (n b : ℕ) (c : Content Capability) → n < length os → n < length marks →
    is_free c ≡ false → AreMarked g os marks → AreMarked g (with_new os n b c) (slice_set marks n false)
marked_new g os marks n b c inside known used is m within = grind (arith, nat_tests, get_or-set_same, at_new, get_or-set_other, at_other)

-- The usages of `banks` rise by `count`, and the marks are these.
pub record IsTaken (banks : List ℕ) (count : ℕ) (s t : BanksState) (marks : List Bool) : Type 0 where
  pub usages : IsRaised banks count s.usages t.usages
  pub nodes : length t.free_nodes ≡ length s.free_nodes
  pub pages : length t.free_pages ≡ length s.free_pages
  pub limits : t.limits ≡ s.limits
  pub annexes : t.annexes ≡ s.annexes
  pub room : t.room ≡ s.room
  pub marks_are : marks_of t ≡ marks

taken_wide : {banks : List ℕ} {count : ℕ} {s t : BanksState} {marks : List Bool} → IsTaken banks count s t marks → IsAsWide s t
taken_wide {banks} {count} {s} {t} {marks} taken = grind (arith, nat_tests)

module _ (os : List Object) (n b : ℕ) (inside : n < length os) (c : Content Capability) where
  other_content : (x : ℕ) → x ≢ n → content_at (with_new os n b c) x ≡ content_at os x
  other_content x differ = ap (λ (o : Object). o.content) (at_other os n b c x differ)

  new_content : content_at (with_new os n b c) n ≡ c
  new_content = ap (λ (o : Object). o.content) (at_new os n b c inside)

  module _ (passes : Content Capability → Bool) where
    -- if the new object fails a test, each object that passes it is an old one
    old_one : passes c ≡ false → (x : ℕ) → IsTrue (passes (content_at (with_new os n b c) x)) → x ≢ n
    old_one plain x is e = grind (arith, nat_tests, new_content)

    other_one : (x : ℕ) → x ≢ n → IsTrue (passes (content_at (with_new os n b c) x)) → IsTrue (passes (content_at os x))
    other_one x differ is = sym (ap passes (other_content x differ)) ∙ is

    -- the recorded numbers stay right, or get that of the new object
    module _ (number : Content Capability → ℕ) (xs : List ℕ) (each : HasEach passes number os xs) where
      each_kept : passes c ≡ false → HasEach passes number (with_new os n b c) xs
      each_kept plain x is = grind (arith, nat_tests, old_one, other_one, other_content)

      each_set : (m : ℕ) → m ≡ number c → n < length xs → HasEach passes number (with_new os n b c) (slice_set xs n m)
      each_set m is within x here = grind (arith, nat_tests, get_or-set_same, new_content, get_or-set_other, other_one, other_content)

no_bank_short : (c : Content Capability) (P : Type 0) → is_bank c ≡ false → IsTrue (is_bank c) → P
no_bank_short c P plain is = cc

module _ {g : Geometry} {os : List Object} (size : length os ≡ object_count g) (t : IsTree os) {s : BanksState}
    (counted : AreCounted g os s) (b : ℕ)
    (bank : IsTrue (is_bank (content_at os b))) (n : ℕ) (inside : n < length os) (unused : IsTrue (is_free (content_at os n))) where
  known_mark : n < length (marks_of s)
  known_mark = omega (arith, marks_length counted, size)

  -- making an object that is neither a bank nor a process keeps the counts right
  pub counted_alone : (c : Content Capability) {u : BanksState} → is_free c ≡ false → is_bank c ≡ false → is_root c ≡ false
      → IsTaken (chain os b) 1 s u (slice_set (marks_of s) n false) → AreCounted g (with_new os n b c) u
  counted_alone c {u} used plain other taken =
      counted_from (with_new os n b c) u counted (taken_wide taken) (subst (λ (marks : List Bool). AreMarked g (with_new os n b c) marks)
      (sym taken.marks_are)
      (marked_new g os (marks_of s) n b c inside known_mark used (marks_counted counted))) (λ x is.
      let was = other_one os n b inside c is_bank x (old_one os n b inside c is_bank plain x is) is in
      omega (
        arith,
        taken.usages.each x,
        counted.usage x was,
        usage_new os n b c t bank inside unused used (no_bank_short c (length (chain os b) < 16) plain) x was,
      )) (subst (HasEach is_bank limit_in (with_new os n b c)) (sym taken.limits)
      (each_kept os n b inside c is_bank limit_in s.limits counted.limit plain))
      (subst (HasEach is_root annex_in (with_new os n b c)) (sym taken.annexes)
      (each_kept os n b inside c is_root annex_in s.annexes counted.annex other))

  -- making a bank keeps the counts right, once its usage and limit are recorded
  pub counted_bank : (limit : ℕ) {u : BanksState} (v : BanksState) → length (chain os b) < 16 → n < g.nodes →
      IsTaken (chain os b) 1 s u (slice_set (marks_of s) n false)
      → v ≡ record u { usages = slice_set u.usages n 0; limits = slice_set u.limits n limit } →
      AreCounted g (with_new os n b (content.Bank limit)) v
  counted_bank limit {u} v short place taken is =
      let c : Content Capability = content.Bank limit in
      let wide = taken_wide taken in
      let within : n < length u.usages = omega (arith, wide.usages, counted.usage_each) in
      let within_limits : n < length s.limits = omega (arith, counted.limit_each) in
      subst (λ (w : BanksState). AreCounted g (with_new os n b c) w) (sym is)
      (counted_from (with_new os n b c) (record u { usages = slice_set u.usages n 0; limits = slice_set u.limits n limit }) counted
      (record {
        nodes = wide.nodes;
        pages = wide.pages;
        usages = length-set u.usages n 0 ∙ wide.usages;
        limits = length-set u.limits n limit ∙ wide.limits;
        annexes = wide.annexes;
        room = wide.room;
      }) (subst (λ (marks : List Bool). AreMarked g (with_new os n b c) marks) (sym taken.marks_are)
      (marked_new g os (marks_of s) n b c inside known_mark refl (marks_counted counted))) (λ x here. elim (cases_eq x n) [
        | inl e ↦ rw (e, get_or-set_same u.usages n 0 0 within) (sym (usage_new_bank os n b c t bank inside unused refl (λ is_one. short)
            refl))
        | inr differ ↦
            let was = other_one os n b inside c is_bank x differ here in
            rw (get_or-set_other u.usages n x 0 0 differ)
            (omega (arith, taken.usages.each x, counted.usage x was, usage_new os n b c t bank inside unused refl (λ is_one. short) x was))
      ]) (subst (λ (xs : List ℕ). HasEach is_bank limit_in (with_new os n b c) (slice_set xs n limit)) (sym taken.limits)
      (each_set os n b inside c is_bank limit_in s.limits counted.limit limit refl within_limits))
      (subst (HasEach is_root annex_in (with_new os n b c)) (sym taken.annexes)
      (each_kept os n b inside c is_root annex_in s.annexes counted.annex refl)))

  -- making a process keeps the counts right, once its annex is recorded
  pub counted_process : (m : ℕ) {u : BanksState} (v : BanksState) → m < length os → m ≢ n → n < g.nodes → IsTrue (is_free (content_at os m))
      → IsTaken (chain os b) 2 s u (slice_set (slice_set (marks_of s) n false) m false) → v ≡ record u { annexes = slice_set u.annexes n m }
      → AreCounted g (with_new (with_new os n b (new_root m)) m b new_annex) v
  counted_process m {u} v within two place unused_too taken is =
      let c = new_root m in
      let d = new_annex in
      let vs = with_new os n b c in
      let short = no_bank_short c (length (chain os b) < 16) refl in
      let grown = tree_new os n b c t bank inside unused refl short in
      let kept = new_bank_kept os n b c t bank inside unused refl short b bank in
      let within_grown : m < length vs = omega (arith, length_new os n b c) in
      let unused_grown : IsTrue (is_free (content_at vs m)) = ap (λ (e : Content Capability). is_free e)
      (other_content os n b inside c m two) ∙ unused_too in
      let known : m < length (slice_set (marks_of s) n false) = omega (arith, length-set (marks_of s) n false, marks_length counted, size)
      in
      let wide = taken_wide taken in
      let annexes = each_set os n b inside c is_root annex_in s.annexes counted.annex m refl (omega (arith, counted.annex_each)) in
      subst (λ (w : BanksState). AreCounted g (with_new vs m b d) w) (sym is)
      (counted_from (with_new vs m b d) (record u { annexes = slice_set u.annexes n m }) counted (record {
        nodes = wide.nodes;
        pages = wide.pages;
        usages = wide.usages;
        limits = wide.limits;
        annexes = length-set u.annexes n m ∙ wide.annexes;
        room = wide.room;
      }) (subst (λ (marks : List Bool). AreMarked g (with_new vs m b d) marks) (sym taken.marks_are)
      (marked_new g vs (slice_set (marks_of s) n false) m b d within_grown known refl
      (marked_new g os (marks_of s) n b c inside known_mark refl (marks_counted counted)))) (λ x is.
      let first = other_one vs m b within_grown d is_bank x (old_one vs m b within_grown d is_bank refl x is) is in
      let was = other_one os n b inside c is_bank x (old_one os n b inside c is_bank refl x first) first in
      omega (
        arith,
        taken.usages.each x,
        counted.usage x was,
        usage_new os n b c t bank inside unused refl short x was,
        usage_new vs m b d grown kept within_grown unused_grown refl (no_bank_short d (length (chain vs b) < 16) refl) x first,
        ap {B = ℕ} (λ (xs : List ℕ). if is_member xs x then 1 else 0) (chain_new os n b c t bank inside unused refl short b bank),
        twice (is_member (chain os b) x),
      )) (subst (HasEach is_bank limit_in (with_new vs m b d)) (sym taken.limits)
      (each_kept vs m b within_grown d is_bank limit_in s.limits (each_kept os n b inside c is_bank limit_in s.limits counted.limit refl)
      refl))
      (subst (λ (xs : List ℕ). HasEach is_root annex_in (with_new vs m b d) (slice_set xs n m)) (sym taken.annexes)
      (each_kept vs m b within_grown d is_root annex_in (slice_set s.annexes n m) annexes refl)))
    where
      twice : (is : Bool) → (if is then 2 else 0) ≡ (if is then 1 else 0) + (if is then 1 else 0)
      twice is = grind (arith, nat_tests)

-- if usages were raised, and then number n was marked as taken, `IsTaken` holds
pub taken_one : {banks : List ℕ} {count n : ℕ} {s r t : BanksState} → IsRaised banks count s.usages r.usages →
    r ≡ record s { usages = r.usages } → IsMade r t n → IsTaken banks count s t (slice_set (marks_of s) n false)
taken_one {banks} {count} {n} {s} {r} {t} raised kept made = grind (arith, nat_tests)

-- if one more number is marked as taken, `IsTaken` still holds
pub taken_two : {banks : List ℕ} {count n : ℕ} {s r t : BanksState} {marks : List Bool} → IsTaken banks count s r marks → IsMade r t n →
    IsTaken banks count s t (slice_set marks n false)
taken_two {banks} {count} {n} {s} {r} {t} {marks} taken made = grind (arith, nat_tests)

-- if a new object is made at another number, a free number still has the free role
pub still_free : (g : Geometry) (age : ℕ) (p q : Parts) (n m b : ℕ) (c : Content Capability) → AreKeepable g age (frames_of q) →
    length q.headers ≡ length p.headers → objects_in q ≡ with_new (objects_in p) n b c → m < length p.headers → m ≢ n
    → IsTrue (is_free (content_at (objects_in p) m)) → (header_at q.headers m).role ≡ role.Free
still_free g age p q n m b c k count objects known two unused =
    free_header g age q k m (omega arith)
    (ap (λ (os : List Object). is_free (content_at os m)) objects ∙ (ap (λ (o : Object). is_free o.content)
    (at_other (objects_in p) n b c m two) ∙ unused))

-- a new object isn't free
pub fresh_used : (f : Fresh) → is_free (fresh_content Void f) ≡ false
fresh_used f = grind (arith, nat_tests)

-- a new object that is neither a bank nor a process
pub record IsPlain (f : Fresh) : Type 0 where
  pub fits : FreshFits f
  pub bank : is_bank (fresh_content Void f) ≡ false
  pub root : is_root (fresh_content Void f) ≡ false

pub plain_under : (os : List Object) (b : ℕ) (f : Fresh) → ((limit : ℕ) → f ≡ fresh.Bank limit → ⊥) → IsMadeUnder os b f → IsPlain f
plain_under os b f other under = grind (arith, nat_tests)

inside_objects : (p : Parts) (n : ℕ) → n < length p.headers → n < length (objects_in p)
inside_objects p n known = omega (arith, length_objects p.headers p.contents)

module _ {p : Parts} {s : BanksState} {b : ℕ} (asks : MayServe p s b) {q : Parts}
    (current : AreCurrent (frames_of p) → AreCurrent (frames_of q)) where
  carried : (us : List Object) (u : BanksState) → objects_in q ≡ us →
      ((age : ℕ) → AreKeepable p.geometry age (frames_of p) → AreKeepable p.geometry age (frames_of q)) → AreCounted p.geometry us u →
      CarriesOut p q u
  carried us u objects keepable counted = record {
    counted = subst (λ (os : List Object). AreCounted p.geometry os u) (sym objects) counted;
    current = current asks.sound.1.current;
    keepable = λ age few k. keepable_later p.geometry age (age + 1) (frames_of q) (omega arith) (keepable age k);
  }

  module _ {n : ℕ} (known : n < length p.headers) where
    module _ {f : Fresh} {u : BanksState} (may : MakesOne p.geometry (objects_in p) (n ∷ []) n f b)
        (objects : objects_in q ≡ with_new (objects_in p) n b (fresh_content Void f))
        (keepable : (age : ℕ) → FreshFits f → AreKeepable p.geometry age (frames_of p) → AreKeepable p.geometry age (frames_of q))
        (taken : IsTaken (chain (objects_in p) b) 1 s u (slice_set (marks_of s) n false)) where
      pub plain_carried : IsPlain f → CarriesOut p q u
      plain_carried plain = search (arith, nat_tests, carried, counted_alone, serve_tree, inside_objects, fresh_used)

      pub bank_carried : (limit : ℕ) (v : BanksState) → f ≡ fresh.Bank limit → limit < 2 ^ 64 →
          v ≡ record u { usages = slice_set u.usages n 0; limits = slice_set u.limits n limit } → CarriesOut p q v
      bank_carried limit v is few after = carried (with_new (objects_in p) n b (content.Bank limit)) v
          (objects ∙ ap (λ (h : Fresh). with_new (objects_in p) n b (fresh_content Void h)) is)
          (λ age k. keepable age (subst (λ (h : Fresh). FreshFits h) (sym is) few) k)
          (counted_bank (serve_framed asks).size (serve_tree asks) asks.counted b asks.bank n (inside_objects p n known) may.unused limit v
          (subst (λ (h : Fresh). IsMadeUnder (objects_in p) b h) is may.kind) (subst (λ (h : Fresh). IsFreshAt p.geometry n h) is may.place)
          taken after)

    pub process_carried : {m : ℕ} {u : BanksState} (v : BanksState) → MakesTwo p.geometry (objects_in p) (n ∷ m ∷ []) n m b →
        objects_in q ≡ with_new (with_new (objects_in p) n b (new_root m)) m b new_annex →
        ((age : ℕ) → AreKeepable p.geometry age (frames_of p) → AreKeepable p.geometry age (frames_of q)) → m < length p.headers →
        IsTaken (chain (objects_in p) b) 2 s u (slice_set (slice_set (marks_of s) n false) m false) →
        v ≡ record u { annexes = slice_set u.annexes n m } → CarriesOut p q v
    process_carried {m} {u} v may objects keepable within taken is =
        search (arith, nat_tests, carried, counted_process, serve_tree, inside_objects)
