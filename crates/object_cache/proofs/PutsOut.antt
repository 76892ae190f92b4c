-- The frozen frame of an object is written to the log, or the write fails.
use Rattle.object_cache.proofs.Names.{inl, inr, ℕ, Bool, true, false, List, length, map, set, Option, Some, None, option_map, refl, sym, ap, subst, arith}
use Rattle.object_cache.proofs.Names.{length-set, count_by, range_with_len, cases_eq, get_or-set_same, get_or-set_other, none-some, same_Some, Cap, Frame}
use Rattle.object_cache.proofs.Names.{Content, header_at, Put, Absent, Broken, Kept, put_at, most, FrozenPuts, Stored, below_at, with_frozen, with_put}
use Rattle.object_cache.proofs.Names.{maps_same, map_set, Entry, Held, entry_at, Memory, Nothing, frozen_state_of, frozen_state_in_memory, frozen_states_in}
use Rattle.object_cache.proofs.Names.{mark_at, in_staging, put_body, present_body, content_at, below_body, frozen_body, frozen_at, contents_in, frozen_in}
use Rattle.object_cache.proofs.Names.{IsCache, AreFrozen, is_kept, frozen_seen, object_count, cond, cases_lt, eq-eqb, ne_eqb, get_or_past}
use Rattle.object_cache.proofs.Names.{length-map-range_with_len, get_or-map-range_with_len, ObjectHeader, Role, blank_frame, IsKeepable, Disk, HasFreeSlot}
use Rattle.object_cache.proofs.Names.{with_entry_of, EntriesState, DurableState, GoesOn, stored_of, with_entry, own_body_of, FrozenState, masked, released}
use Rattle.object_cache.proofs.Names.{own_body, own_frame, newest_body, apart_body, StoreState, IsFetchedIn, GoesOnIn, cache_of, frozen_state_at, cached_in}
use Rattle.object_cache.proofs.Names.{MayPutFrozen, IsSome, is_some}
use Rattle.std.proofs.Common.{◌≡◌, ◌≢◌, ◌⊎◌, ◌<◌, ◌≤◌, ◌||◌, ◌∙◌}
use Rattle.object_cache.proofs.Marking.{one_fewer, marked_within}
use Rattle.object_cache.proofs.Outcomes.{IsNext, next_as, next_in}
use Rattle.object_cache.proofs.Objects.{Alike, cached_stay, clean_alike, contents_alike, entry_found, fetched_known, frozen_alike, keepable_alike}
use Rattle.object_cache.proofs.Objects.{unwritten_alike, of_each}
use Rattle.object_cache.proofs.Puts.{has_free_slot}
use Rattle.object_cache.proofs.Caching.{nothing_frozen_state, frozen_state_entry}
use Rattle.model.specs.declared.object.Role.TheVariants as role

none_frozen_state : (o : Option Entry) (touched : Bool) → frozen_state_of o false touched ≡ Nothing
none_frozen_state o touched = search arith

-- the memory with these pending marks, entries and staging buffer
abbrev pub with_pending : Memory → List Bool → List (Option Entry) → Option Held → Memory
with_pending m ps es staging = record m { pending = ps; entries = es; staging = staging }

-- the slot of object n's frozen frame was written, with `p`: the object's content and its frozen frame stay the same
pub record Releases (s : Stored) (m : Memory) (n : ℕ) (p : Put) (ps : List Bool) (es : List (Option Entry)) (staging : Option Held) :
    Type 0 where
  pub mark_count : length ps ≡ length m.pending
  pub entry_count : length es ≡ length m.entries
  pub marks : (k : ℕ) → k ≢ n → mark_at ps k ≡ mark_at m.pending k
  pub entries : (k : ℕ) → k ≢ n → entry_at es k ≡ entry_at m.entries k
  pub others : (k : ℕ) (c : Content Cap) → k ≢ n → in_staging staging k c ≡ in_staging m.staging k c
  pub content : content_at (with_frozen n p s) (with_pending m ps es staging) n ≡ content_at s m n
  pub frozen : frozen_at (with_frozen n p s) (with_pending m ps es staging) n ≡ frozen_at s m n
  pub some : IsSome (entry_at m.entries n) → IsSome (entry_at es n)
  pub written : (mark_at ps n || is_kept p) ≡ true
  pub torn : p ≡ Broken → mark_at ps n ≡ true
  pub few : count_by (λ b. b) ps ≤ count_by (λ b. b) m.pending
  pub held : (h : Held) → staging ≡ Some h → mark_at ps h.number ≡ true
  pub apart : (e : Entry) → entry_at es n ≡ Some e → (e.kept ≡ None) ⊎ (mark_at ps n ≡ true)
  pub freed : entry_at es n ≡ None → mark_at ps n ≡ true → (header_at m.frozen_headers n).role ≡ role.Free →
      (is_kept (put_at s.working n) ≡ true) ⊎ ((header_at m.headers n).role ≡ role.Free)

module _ {s : Stored} {m : Memory} {all : Bool} {left count : ℕ} (is : IsCache all s m left count) {n : ℕ}
    (pending : mark_at m.pending n ≡ true) where
  pending_within : n < length m.headers → n < length m.pending
  pending_within within = omega (arith, within, is.headers, is.pending_marks)

  pub frozen_below : {f : FrozenPuts} → s.frozen ≡ Some f → n < length m.headers → (g : Frame) → below_at (with_frozen n (Kept g) s) n ≡ g
  frozen_below {f} f_is within g = search (arith, get_or-set_same)

  -- if writing the frozen frame failed, nothing in memory changes
  pub torn_releases : content_at (with_frozen n Broken s) m n ≡ content_at s m n →
      frozen_at (with_frozen n Broken s) m n ≡ frozen_at s m n → Releases s m n Broken m.pending m.entries m.staging
  torn_releases content frozen = search (arith, content, frozen, ap (λ b. b || false) pending, pending, is.held, is.apart n, is.freed n)

  -- if the frozen frame was written, the object is no longer pending and has no frozen copy
  pub put_releases : {f : FrozenPuts} → s.frozen ≡ Some f → n < length m.headers → (g : Frame) → g ≡ frozen_at s m n →
      (es : List (Option Entry)) → length es ≡ length m.entries → ((k : ℕ) → k ≢ n → entry_at es k ≡ entry_at m.entries k) →
      ((e : Entry) → entry_at es n ≡ Some e → e.kept ≡ None) → (IsSome (entry_at m.entries n) → IsSome (entry_at es n)) →
      (staging : Option Held) → ((k : ℕ) (c : Content Cap) → k ≢ n → in_staging staging k c ≡ in_staging m.staging k c) →
      ((h : Held) → staging ≡ Some h → (h.number ≢ n) × (mark_at m.pending h.number ≡ true)) →
      content_at (with_frozen n (Kept g) s) (with_pending m (set m.pending n false) es staging) n ≡ content_at s m n →
      Releases s m n (Kept g) (set m.pending n false) es staging
  put_releases {f} f_is within g g_is es es_count entries kept some staging others released content =
      search (arith, length-set, get_or-set_other, frozen_below, one_fewer, get_or-set_same, pending_within)

module _ {s : Stored} {m : Memory} {all : Bool} {left count : ℕ} (is : IsCache all s m left count) {n : ℕ} (within : n < length m.headers)
    {f : FrozenPuts}
    (f_is : s.frozen ≡ Some f) (pending : mark_at m.pending n ≡ true) {p : Put} {ps : List Bool} {es : List (Option Entry)}
    {staging : Option Held}
    (rest : Releases s m n p ps es staging) where
  abbrev after : Stored
  after = with_frozen n p s

  abbrev memory : Memory
  memory = with_pending m ps es staging

  frozen_now : after.frozen ≡ Some (with_put n p f)
  frozen_now = ap (option_map (with_put n p)) f_is

  below_elsewhere : (k : ℕ) → k ≢ n → below_at after k ≡ below_at s k
  below_elsewhere k other = rw (frozen_now, get_or-set_other f.put n k p Absent other, f_is)

  body_elsewhere : (k : ℕ) → k ≢ n → below_body after memory k ≡ below_body s m k
  body_elsewhere k other = ap (λ g. in_staging staging k g.content) (below_elsewhere k other) ∙ rest.others k (below_at s k).content other

  content_stays : (k : ℕ) → content_at after memory k ≡ content_at s m k
  content_stays = of_each n rest.content
      (λ k other i. present_body (rest.entries k other i) (header_at m.headers k).role
      (put_body (put_at s.working k) (body_elsewhere k other i)))

  frozen_stays : (k : ℕ) → frozen_at after memory k ≡ frozen_at s m k
  frozen_stays = search (arith, of_each, body_elsewhere, below_elsewhere)

  pub released_alike : Alike s m (with_frozen n p s) (with_pending m ps es staging)
  released_alike = record { headers = refl; content = content_stays; frozen = frozen_stays }

  pub frozen_seen_same : frozen_seen after memory left ≡ frozen_seen s m left
  frozen_seen_same = search (arith, frozen_now, frozen_alike, released_alike)

  -- the objects that are pending or in the log are the same as before
  written_stays : (k : ℕ) → (mark_at ps k || is_kept (put_at (set f.put n p) k)) ≡ (mark_at m.pending k || is_kept (put_at f.put k))
  written_stays = of_each n
      (ap (λ q. mark_at ps n || is_kept q)
      (get_or-set_same f.put n p Absent (omega (arith, within, is.headers, is.pending_marks, (is.running f f_is).each)))
      ∙ rest.written ∙ sym (ap (λ b. b || is_kept (put_at f.put n)) pending))
      (λ k other i. rest.marks k other i || is_kept (get_or-set_other f.put n k p Absent other i))

  still_frozen : AreFrozen (with_put n p f) ps left
  still_frozen = search (arith, length-set, maps_same, written_stays, of_each, get_or-set_same, get_or-set_other)

  pub released_cache : IsCache all after memory left count
  released_cache =
      let idle : after.frozen ≡ None → (k : ℕ) → mark_at ps k ≡ false = λ none. absurd (none-some (with_put n p f) (sym none ∙ frozen_now))
      in
      let running : (g : FrozenPuts) → after.frozen ≡ Some g → AreFrozen g ps left =
      λ g g_is. subst (λ h. AreFrozen h ps left) (same_Some (with_put n p f) g (sym frozen_now ∙ g_is)) still_frozen in
      let apart : (k : ℕ) (e : Entry) → entry_at es k ≡ Some e → (e.kept ≡ None) ⊎ (mark_at ps k ≡ true) =
      of_each n rest.apart (λ k other. rw (rest.entries k other, rest.marks k other) (is.apart k)) in
      let freed : (k : ℕ) → entry_at es k ≡ None → mark_at ps k ≡ true → (header_at m.frozen_headers k).role ≡ role.Free →
      (is_kept (put_at s.working k) ≡ true) ⊎ ((header_at m.headers k).role ≡ role.Free) =
      of_each n rest.freed (λ k other. rw (rest.entries k other, rest.marks k other) (is.freed k)) in
      let whole : all ≡ true → (k : ℕ) → k < length m.headers → IsSome (entry_at es k) =
      λ is_all. of_each n (λ below. rest.some (is.whole is_all n below)) (λ k other. rw (rest.entries k other) (is.whole is_all k)) in
      search (
        is,
        rest,
        clean_alike released_alike is,
        unwritten_alike released_alike is,
        keepable_alike released_alike is f f_is,
        rest.mark_count ∙ is.pending_marks,
        rest.entry_count ∙ is.entries,
      )

-- after an object's frozen frame was written, its frozen state is `Nothing`
pub state_put : (m : Memory) (n : ℕ) (es : List (Option Entry)) (staging : Option Held) → n < length m.headers → n < length m.pending →
    ((k : ℕ) → k ≢ n → entry_at es k ≡ entry_at m.entries k) →
    frozen_states_in (with_pending m (set m.pending n false) es staging) ≡ set (frozen_states_in m) n Nothing
unfolding frozen_states_in
state_put m n es staging within pending_within entries = search (
  arith,
  map_set,
  get_or-set_same,
  pending_within,
  none_frozen_state,
  get_or-set_other,
)

-- ---- the frozen frame is written from its entry or from the staging buffer

-- ---- the staging buffer, after a number's body was released

pub released_others : (staging : Option Held) (n k : ℕ) (c : Content Cap) → k ≢ n →
    in_staging (released n staging) k c ≡ in_staging staging k c
released_others staging n k c other = search (arith, cases_eq, eq-eqb, ne_eqb)

pub released_of : (staging : Option Held) (n : ℕ) (h : Held) → released n staging ≡ Some h → (h.number ≢ n) × (staging ≡ Some h)
released_of staging n h is = search (arith, none-some, cases_eq, eq-eqb, ne_eqb, same_Some)

-- an entry, with its frozen copy dropped
abbrev pub dropping : Entry → Entry
dropping e = record e { kept = None }

-- ---- a number that is pending

no_put : (pending : Bool) (p : Put) → (pending || is_kept p) ≡ false → (p ≡ Broken → pending ≡ true) → p ≡ Absent
no_put pending p none torn = search arith

module _ {D : Type 0} (disk : D → Disk) {d : DurableState D} {m : Memory} {all : Bool} {left count : ℕ} {order : List ℕ} {most_entries : ℕ}
    {s : StoreState D}
    (view : cache_of disk d m left order most_entries ≡ s) (is : IsCache all (stored_of disk d) m left count) {n : ℕ}
    (known : n < length m.headers)
    (pending : mark_at m.pending n ≡ true) where
  pub running_here : (f : FrozenPuts) × ((stored_of disk d).frozen ≡ Some f)
  running_here = search arith

  frozen_room : (f : FrozenPuts) → (stored_of disk d).frozen ≡ Some f → HasFreeSlot f.size f.put n
  frozen_room f f_is =
      let are = is.running f f_is in
      let written : ℕ → Bool = (λ k. mark_at m.pending k || is_kept (put_at f.put k)) in
      let at : (k : ℕ) → k < length m.pending → mark_at (map written (range_with_len 0 (length m.pending))) k ≡ written k = (λ k below.
      get_or-map-range_with_len written 0 (length m.pending) k k false below (omega arith)) in
      has_free_slot f.size f.put (map written (range_with_len 0 (length m.pending))) n
      (are.each ∙ sym (length-map-range_with_len written 0 (length m.pending)))
      (λ k none. elim (cases_lt k (length m.pending)) [
        | inl below ↦ no_put (mark_at m.pending k) (put_at f.put k) (sym (at k below) ∙ none) (are.torn k)
        | inr past ↦ get_or_past f.put k Absent (omega (arith, past, are.each))
      ]) (at n (omega (arith, known, is.headers, is.pending_marks)) ∙ ap (λ b. b || is_kept (put_at f.put n)) pending)
      (omega (arith, are.size))

  pub frozen_ready : {g : Frame} → g ≡ frozen_at (stored_of disk d) m n → MayPutFrozen disk d n g
  unfolding frozen_in
  frozen_ready {g = g} g_is =
      let object : n < object_count (stored_of disk d).saved.geometry = omega (arith, known, is.headers) in
      search (
        running_here,
        frozen_room,
        subst (IsKeepable (stored_of disk d).saved.geometry most n)
            (get_or-map-range_with_len (frozen_at (stored_of disk d) m) 0 (length m.headers) n n blank_frame known (omega arith) ∙ sym g_is)
            ((is.keepable running_here.0 running_here.1).each n object),
      )

  -- writing a frozen frame is a step that changes no present object
  pub put_continues : (new : DurableState D) (p : Put) → stored_of disk new ≡ with_frozen n p (stored_of disk d) → GoesOn disk d new →
      (disk d.beneath).failures ≤ (disk new.beneath).failures →
      (ps : List Bool) (os : List FrozenState) (staging : Option Held) → GoesOnIn disk s
      (record s { durable = new; pending = ps; frozen_state = os; staging = staging })
  put_continues new p put goes later ps os staging = search (arith, none-some, running_here)

  pub fewer_here : {ps : List Bool} → ps ≡ set m.pending n false → count_by (λ b. b) ps < count_by (λ b. b) s.pending
  fewer_here ps_is = omega (arith, one_fewer m.pending n pending, ap (count_by (λ b. b)) ps_is, ap (λ t. count_by (λ b. b) t.pending) view)

  -- facts after the slot of object n's frozen frame was written
  module _ {new : DurableState D} {p : Put} {ps : List Bool} {es : List (Option Entry)} {staging : Option Held} {os : List FrozenState}
      (put : stored_of disk new ≡ with_frozen n p (stored_of disk d)) (goes : GoesOn disk d new)
      (later : (disk d.beneath).failures ≤ (disk new.beneath).failures) (rest : Releases (stored_of disk d) m n p ps es staging)
      (cached : cached_in es ≡ cached_in m.entries) (states : frozen_states_in (with_pending m ps es staging) ≡ os) where
    abbrev then : Memory
    then = with_pending m ps es staging

    released_seen : cache_of disk new (with_pending m ps es staging) left order most_entries ≡ record
        s { durable = new; pending = ps; frozen_state = os; staging = staging }
    released_seen =
        let contents = ap (λ t. contents_in t then) put ∙ contents_alike (released_alike is known running_here.1 pending rest) in
        let frozen = ap (λ t. frozen_seen t then left) put ∙ frozen_seen_same is known running_here.1 pending rest in
        (λ k. record (cache_of disk d m left order most_entries) {
          durable = new;
          contents = contents k;
          pending = ps;
          cached = cached k;
          frozen_state = states k;
          frozen = frozen k;
          staging = staging;
        }) ∙ ap (λ (t : StoreState D). record t { durable = new; pending = ps; frozen_state = os; staging = staging }) view

    released_next : IsNext all disk s new (with_pending m ps es staging) left count order most_entries
        (record s { durable = new; pending = ps; frozen_state = os; staging = staging })
    released_next = record {
      is = subst (λ t. IsCache all t then left count) (sym put) (released_cache is known running_here.1 pending rest);
      view = released_seen;
      continues = subst (GoesOnIn disk s) (sym released_seen) (put_continues new p put goes later ps os staging);
    }

    -- after a write, the invariant holds, and object n isn't pending
    pub put_next : ps ≡ set m.pending n false → os ≡ set (frozen_states_in m) n Nothing →
        IsNext all disk s new (with_pending m ps es staging) left count order most_entries
        (record s { durable = new; pending = set s.pending n false; frozen_state = set s.frozen_state n Nothing; staging = staging })
    put_next ps_is os_is = search (arith, next_as, released_next)

  -- after a failed write, the invariant holds with a torn slot
  pub torn_next : {new : DurableState D} → stored_of disk new ≡ with_frozen n Broken (stored_of disk d) → GoesOn disk d new →
      (disk d.beneath).failures ≤ (disk new.beneath).failures →
      content_at (with_frozen n Broken (stored_of disk d)) m n ≡ content_at (stored_of disk d) m n →
      frozen_at (with_frozen n Broken (stored_of disk d)) m n ≡ frozen_at (stored_of disk d) m n →
      IsNext all disk s new m left count order most_entries (record s { durable = new })
  torn_next {new = new} put goes later content frozen = next_as
      (released_next put goes later (torn_releases is pending content frozen) refl refl)
      (ap (λ t. record s { durable = new; pending = t.pending; frozen_state = t.frozen_state; staging = t.staging }) view)

-- ---- the body is in the entry

-- unless the frozen state is `Nothing`, the object is pending, and its frozen body is the one in the entry
has_frozen_body : (e : Entry) (pending touched : Bool) → frozen_state_of (Some e) pending touched ≢ Nothing →
    (pending ≡ true) × ((below : Content Cap) → apart_body e.kept touched e.present below ≡ own_body e.kept e.present)
has_frozen_body e pending touched frozen_state = search arith

module _ {s : Stored} {m : Memory} {all : Bool} {left count : ℕ} (is : IsCache all s m left count) (n : ℕ) (within : n < length m.headers)
    (e : Entry)
    (at : entry_at m.entries n ≡ Some e) (frozen_state : frozen_state_in_memory m n ≢ Nothing) where
  pub frozen_state_pending : (mark_at m.pending n ≡ true) ×
      ((below : Content Cap) → apart_body e.kept (mark_at m.touched n) e.present below ≡ own_body e.kept e.present)
  frozen_state_pending = search (arith, has_frozen_body)

  -- the frozen frame of n has the frozen header and the frozen body that the entry has
  pub frozen_is_own : (t : Stored) → frozen_at t m n ≡ own_frame (header_at m.frozen_headers n) e
  frozen_is_own t = rw (at, frozen_state_pending.0, frozen_state_pending.1 (below_body t m n))

  own_content : (t : Stored) → content_at t m n ≡ e.present
  own_content t = ap (λ o. present_body o (header_at m.headers n).role (newest_body t m n)) at

-- facts about a store whose view is s
module _ {D : Type 0} (disk : D → Disk) {d : DurableState D} {m : Memory} {all : Bool} {left count : ℕ} {order : List ℕ} {most_entries : ℕ}
    {s : StoreState D}
    (view : cache_of disk d m left order most_entries ≡ s) (is : IsCache all (stored_of disk d) m left count) {n : ℕ}
    (fetched : IsFetchedIn s n)
    (frozen_state : frozen_state_at s.frozen_state n ≢ Nothing) where
  entry_here : (e : Entry) × (entry_at m.entries n ≡ Some e)
  entry_here = entry_found disk view is fetched

  pub own_known : n < length m.headers
  own_known = fetched_known disk view is fetched

  state_here : frozen_state_in_memory m n ≢ Nothing
  state_here none = frozen_state (ap (λ t. frozen_state_at t.frozen_state n) (sym view) ∙ frozen_state_entry m n own_known ∙ none)

  pub own_pending : mark_at m.pending n ≡ true
  own_pending = (frozen_state_pending is n own_known entry_here.0 entry_here.1 state_here).0

  own_is : (t : Stored) → frozen_at t m n ≡ own_frame (header_at m.frozen_headers n) entry_here.0
  own_is = frozen_is_own is n own_known entry_here.0 entry_here.1 state_here

  pub own_fewer : {ps : List Bool} → ps ≡ set m.pending n false → count_by (λ b. b) ps < count_by (λ b. b) s.pending
  own_fewer = fewer_here disk view is own_known own_pending

  pub own_torn : {new : DurableState D} → GoesOn disk d new → (disk d.beneath).failures ≤ (disk new.beneath).failures →
      stored_of disk new ≡ with_frozen n Broken (stored_of disk d) →
      IsNext all disk s new m left count order most_entries (record s { durable = new })
  own_torn goes later put =
      let content = own_content is n own_known entry_here.0 entry_here.1 state_here in
      let torn = with_frozen n Broken (stored_of disk d) in
      torn_next disk view is own_known own_pending put goes later (content torn ∙ sym (content (stored_of disk d)))
      (own_is torn ∙ sym (own_is (stored_of disk d)))

  module _ {x : Content Cap} (own : option_map own_body_of (entry_at m.entries n) ≡ Some x) {header : ObjectHeader}
      (header_is : header ≡ header_at m.frozen_headers n) where
    abbrev frame : Frame
    frame = record { header = header; content = masked header.role x }

    own_frame_is : record { header = header; content = masked header.role x } ≡ frozen_at (stored_of disk d) m n
    own_frame_is =
        (let body = same_Some (own_body_of entry_here.0) x (ap (option_map own_body_of) (sym entry_here.1) ∙ own) in
        λ k. record { header = header_is k; content = masked (header_is k).role (sym body k) })
        ∙ sym (own_is (stored_of disk d))

    pub own_ready : MayPutFrozen disk d n (record { header = header; content = masked header.role x })
    own_ready = frozen_ready disk view is own_known own_pending own_frame_is

    module _ {new : DurableState D} (goes : GoesOn disk d new) (later : (disk d.beneath).failures ≤ (disk new.beneath).failures) where
      pub out_next : {ps : List Bool} {es : EntriesState} {staging : Option Held} → ps ≡ set m.pending n false →
          es ≡ with_entry_of dropping n (record { at = m.entries; order = order; most = most_entries }) → staging ≡ released n m.staging →
          stored_of disk new ≡ with_frozen n (Kept (record { header = header; content = masked header.role x })) (stored_of disk d) →
          IsNext all disk s new (with_pending m ps es.at staging) left count es.order es.most
          (record s {
            durable = new;
            pending = set s.pending n false;
            frozen_state = set s.frozen_state n Nothing;
            staging = released n s.staging;
          })
      out_next ps_is es_is staging_is put =
          let here = running_here disk view is own_known own_pending in
          let in_entries : n < length m.entries = omega (arith, own_known, is.headers, is.entries) in
          let in_pending : n < length m.pending = omega (arith, own_known, is.headers, is.pending_marks) in
          let e = option_map dropping (entry_at m.entries n) in
          let others : (k : ℕ) → k ≢ n → entry_at (with_entry dropping n m.entries) k ≡ entry_at m.entries k = (λ k other.
          get_or-set_other m.entries n k e None other) in
          let now : entry_at (with_entry dropping n m.entries) n ≡ Some (dropping entry_here.0) =
          get_or-set_same m.entries n e None in_entries
          ∙ ap (option_map dropping) entry_here.1 in
          next_in (next_as (put_next disk view is own_known own_pending put goes later
          (put_releases is own_pending here.1 own_known frame own_frame_is (with_entry dropping n m.entries) (length-set m.entries n e)
          others
          (λ g g_is. ap (λ y. y.kept) (same_Some g (dropping entry_here.0) (sym g_is ∙ now))) (λ some. ap is_some now)
          (released n m.staging) (λ k c other. released_others m.staging n k c other)
          (λ h h_is. let was = released_of m.staging n h h_is in (was.0, is.held h was.1))
          (ap (λ o. present_body o (header_at m.headers n).role
          (newest_body (with_frozen n (Kept frame) (stored_of disk d))
          (with_pending m (set m.pending n false) (with_entry dropping n m.entries) (released n m.staging)) n)) now
          ∙ sym (own_content is n own_known entry_here.0 entry_here.1 state_here (stored_of disk d))))
          (cached_stay dropping n m.entries) (state_put m n (with_entry dropping n m.entries) (released n m.staging) own_known in_pending
          others) refl refl)
          (ap (λ t.
          record s {
            durable = new;
            pending = set s.pending n false;
            frozen_state = set s.frozen_state n Nothing;
            staging = released n t.staging;
          }) view))
          (λ k. with_pending m (ps_is k) (es_is k).at (staging_is k)) (ap (λ x. x.order) es_is) (ap (λ x. x.most) es_is)

-- ---- the body is in the staging buffer

-- a content masked by the frozen role, and then by r, is masked by r, if r is free where the frozen role is
mask_under : (fr r : Role) (c : Content Cap) → (fr ≡ role.Free → r ≡ role.Free) → masked r (masked fr c) ≡ masked r c
mask_under other r c free = search arith

put_under : (p : Put) (fr r : Role) (c : Content Cap) → (fr ≡ role.Free → (is_kept p ≡ true) ⊎ (r ≡ role.Free)) →
    masked r (put_body p (masked fr c)) ≡ masked r (put_body p c)
put_under p fr r c freed = search (arith, mask_under)

module _ {s : Stored} {m : Memory} {all : Bool} {left count : ℕ} (is : IsCache all s m left count) (h : Held) (staging : m.staging ≡ Some h)
  where
    pub held_pending : mark_at m.pending h.number ≡ true
    held_pending = is.held h staging

    pub held_within : h.number < length m.headers
    held_within = omega (arith, marked_within m.pending h.number held_pending, is.headers, is.pending_marks)

    module _ (frozen_state : frozen_state_in_memory m h.number ≡ Nothing) where
      below_is : (t : Stored) → below_body t m h.number ≡ h.content
      below_is t = rw (staging, eq-eqb h.number h.number refl)

      -- if the entry has no body for the frozen frame, the object was written since the freeze, and has no frozen copy
      bare : (e : Entry) → entry_at m.entries h.number ≡ Some e → (mark_at m.touched h.number ≡ true) × (e.kept ≡ None)
      bare e at = search (arith, nothing_frozen_state, held_pending)

      body_is : (t : Stored) (o : Option Entry) → entry_at m.entries h.number ≡ o →
          frozen_body o (mark_at m.touched h.number) (below_body t m h.number) ≡ h.content
      body_is t o at = search (arith, below_is, bare)

      frozen_is_held : (t : Stored) → frozen_at t m h.number ≡ record
          { header = header_at m.frozen_headers h.number; content = masked (header_at m.frozen_headers h.number).role h.content }
      frozen_is_held t = search (arith, held_pending, body_is)

      content_put : {f : FrozenPuts} → s.frozen ≡ Some f → (g : Frame) → g ≡ frozen_at s m h.number → (o : Option Entry) →
          entry_at m.entries h.number ≡ o → present_body o (header_at m.headers h.number).role
          (newest_body (with_frozen h.number (Kept g) s) (with_pending m (set m.pending h.number false) m.entries None) h.number) ≡
          present_body o (header_at m.headers h.number).role (newest_body s m h.number)
      content_put f_is g g_is None at = rw (frozen_below is held_pending f_is held_within g, g_is, frozen_is_held s, below_is s)
          (put_under (put_at s.working h.number) (header_at m.frozen_headers h.number).role (header_at m.headers h.number).role h.content
          (is.freed h.number at held_pending))
      content_put f_is g g_is (Some e) at = refl

      pub held_releases : {f : FrozenPuts} → s.frozen ≡ Some f → (g : Frame) → g ≡ frozen_at s m h.number →
          Releases s m h.number (Kept g) (set m.pending h.number false) m.entries None
      held_releases f_is g g_is = put_releases is held_pending f_is held_within g g_is m.entries refl (λ k other. refl)
          (λ e at. (bare e at).1) (λ some. some) None
          (λ k c other. sym (ap (λ o. in_staging o k c) staging
          ∙ ap (λ b. cond b h.content c) (ne_eqb h.number k (λ same. other (sym same))))) (λ g gone. absurd (none-some g gone))
          (content_put f_is g g_is (entry_at m.entries h.number) refl)

-- facts about a store whose view is s
module _ {D : Type 0} (disk : D → Disk) {d : DurableState D} {m : Memory} {all : Bool} {left count : ℕ} {order : List ℕ} {most_entries : ℕ}
    {s : StoreState D}
    (view : cache_of disk d m left order most_entries ≡ s) (is : IsCache all (stored_of disk d) m left count) (h : Held)
    (staging : m.staging ≡ Some h) where
  held_marked : mark_at m.pending h.number ≡ true
  held_marked = held_pending is h staging

  held_known : h.number < length m.headers
  held_known = held_within is h staging

  pub held_in_marks : h.number < length m.pending
  held_in_marks = marked_within m.pending h.number held_marked

  pub held_frozen : h.number < length m.frozen_headers
  held_frozen = omega (arith, held_known, is.headers, is.frozen_headers)

  pub held_number : h.number < length s.headers
  held_number = omega (arith, held_known, ap (λ t. length t.headers) view)

  pub held_fewer : {ps : List Bool} → ps ≡ set m.pending h.number false → count_by (λ b. b) ps < count_by (λ b. b) s.pending
  held_fewer = fewer_here disk view is held_known held_marked

  module _ (bare : (g : Held) × (s.staging ≡ Some g) × (frozen_state_at s.frozen_state g.number ≡ Nothing)) where
    state_there : frozen_state_in_memory m h.number ≡ Nothing
    state_there = search (arith, frozen_state_entry, held_known, same_Some, bare)

    held_frame_is : {header : ObjectHeader} → header ≡ header_at m.frozen_headers h.number →
        record { header = header; content = masked header.role h.content } ≡ frozen_at (stored_of disk d) m h.number
    held_frame_is {header} header_is = search (arith, frozen_is_held, state_there)

    pub held_ready : {header : ObjectHeader} → header ≡ header_at m.frozen_headers h.number →
        MayPutFrozen disk d h.number (record { header = header; content = masked header.role h.content })
    held_ready header_is = frozen_ready disk view is held_known held_marked (held_frame_is header_is)

    module _ {new : DurableState D} (goes : GoesOn disk d new) (later : (disk d.beneath).failures ≤ (disk new.beneath).failures) where
      pub settled_next : {ps : List Bool} {staging : Option Held} → ps ≡ set m.pending h.number false → staging ≡ None →
          {header : ObjectHeader} → header ≡ header_at m.frozen_headers h.number →
          stored_of disk new ≡ with_frozen h.number (Kept (record { header = header; content = masked header.role h.content }))
          (stored_of disk d) → IsNext all disk s new (with_pending m ps m.entries staging) left count order most_entries
          (record s {
            durable = new;
            pending = set s.pending h.number false;
            frozen_state = set s.frozen_state h.number Nothing;
            staging = None;
          })
      settled_next ps_is staging_is {header = header} header_is put =
          let here = running_here disk view is held_known held_marked in
          next_in (put_next disk view is held_known held_marked put goes later
          (held_releases is h staging state_there here.1 (record { header = header; content = masked header.role h.content })
          (held_frame_is header_is))
          refl (state_put m h.number m.entries None held_known held_in_marks (λ k other. refl)) refl refl)
          (λ k. with_pending m (ps_is k) m.entries (staging_is k)) refl refl

      pub held_torn : stored_of disk new ≡ with_frozen h.number Broken (stored_of disk d) →
          IsNext all disk s new m left count order most_entries (record s { durable = new })
      held_torn put =
          let torn = with_frozen h.number Broken (stored_of disk d) in
          torn_next disk view is held_known held_marked put goes later
          (ap (λ c. present_body (entry_at m.entries h.number) (header_at m.headers h.number).role
          (put_body (put_at (stored_of disk d).working h.number) c))
          (below_is is h staging state_there torn ∙ sym (below_is is h staging state_there (stored_of disk d))))
          (frozen_is_held is h staging state_there torn ∙ sym (frozen_is_held is h staging state_there (stored_of disk d)))
