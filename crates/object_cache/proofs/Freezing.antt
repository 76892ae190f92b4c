-- A checkpoint begins: all objects are frozen in their present state.
use Rattle.object_cache.proofs.Names.{ℕ, zero, suc, Bool, true, false, true≢false, cond, List, [], length, map, replicate, Option, Some, None, option_map, refl}
use Rattle.object_cache.proofs.Names.{sym, ap, subst, arith, count_by, range_with_len, length-replicate, same_lists, ext_get_or, length-map-range_with_len}
use Rattle.object_cache.proofs.Names.{get_or-map-range_with_len, sum_by-cons, none-some, same_Some, Cap, Frame, ObjectHeader, Content, Role, blank_frame}
use Rattle.object_cache.proofs.Names.{frames_in, header_at, AreKeepable, touched_count, untouched, object_count, Disk, role_of, Put, Absent, Broken, freezing}
use Rattle.object_cache.proofs.Names.{all_frozen, freezing_puts, put_at, put_or, held_slot, sum_of, most, DurableState, Stored, below_at, stored_of, maps_same}
use Rattle.object_cache.proofs.Names.{frame_in, length_in, Entry, entry_at, Memory, mark_at, masked, put_body, content_at, present_at, newest_body, below_body}
use Rattle.object_cache.proofs.Names.{frozen_body, frozen_frame, frozen_at, contents_in, frozen_in, StoreState, IsCache, AreFrozen, snapshots_of, cache_of}
use Rattle.object_cache.proofs.Names.{frozen_seen, is_kept, left_of, sum_by-replicate, get_or_default, parts_of, all_untouched}
use Rattle.std.proofs.Common.{◌≡◌, ◌<◌, ◌≤◌, ◌||◌, ◌∷◌, ◌∙◌}
use Rattle.object_cache.proofs.Marking.{alike}
use Rattle.object_cache.proofs.Objects.{content_in, saved_below}
use Rattle.object_cache.proofs.Puts.{held_touched}
use Rattle.object_cache.proofs.Caching.{no_staging}
use Rattle.object_cache.proofs.Outcomes.{none_of}

-- masking a content by its own role doesn't change it
pub masked_same : (r : Role) (c : Content Cap) → r ≡ role_of c → masked r c ≡ c
masked_same r c is = search arith

pub none_counted : (n : ℕ) → touched_count (replicate n false) ≡ 0
none_counted n = omega (arith, sum_by-replicate (λ b. cond b 1 0) n false)

-- if each mark of a list is set in another list too, the first has at most as many marks
pub fewer_of : (ds ts : List Bool) → ((k : ℕ) → mark_at ds k ≡ true → mark_at ts k ≡ true) → count_by (λ b. b) ds ≤ count_by (λ b. b) ts
fewer_of [] ts each = omega arith
fewer_of (false ∷ ds) [] each =
    let total = sum_by-cons (λ b. cond b 1 0) false ds in
    let rest = fewer_of ds [] (λ k marked. each (suc k) marked) in
    omega (arith, total, rest)
fewer_of (true ∷ ds) [] each = absurd (true≢false (sym (each zero refl)))
fewer_of (false ∷ ds) (t ∷ ts) each =
    let total = sum_by-cons (λ b. cond b 1 0) false ds in
    let other = sum_by-cons (λ b. cond b 1 0) t ts in
    let rest = fewer_of ds ts (λ k marked. each (suc k) marked) in
    omega (arith, total, other, rest)
fewer_of (true ∷ ds) (true ∷ ts) each =
    let total = sum_by-cons (λ b. cond b 1 0) true ds in
    let other = sum_by-cons (λ b. cond b 1 0) true ts in
    let rest = fewer_of ds ts (λ k marked. each (suc k) marked) in
    omega (arith, total, other, rest)
fewer_of (true ∷ ds) (false ∷ ts) each = absurd (true≢false (sym (each zero refl)))

pub put_or_body : (p : Put) (f : Frame) → (put_or p f).content ≡ put_body p f.content
put_or_body other f = search arith

abbrev pub frozen_memory : List ObjectHeader → Memory → Memory
frozen_memory fh m = record
    m { frozen_headers = fh; touched = replicate (length m.touched) false; dirty = replicate (length m.pending) false; pending = m.dirty }

module _ {s : Stored} {m : Memory} {all : Bool} {left count : ℕ} (is : IsCache all s m left count) (none : s.frozen ≡ None)
    (fh : List ObjectHeader) (fh_count : length fh ≡ length m.frozen_headers)
    (same_headers : (n : ℕ) → mark_at m.dirty n ≡ true → header_at fh n ≡ header_at m.headers n)
    (keepable : AreKeepable s.saved.geometry most (frames_in m.headers (contents_in s m))) where
  abbrev begun : Stored
  begun = freezing_puts count s

  abbrev now : Memory
  now = frozen_memory fh m

  -- after the freeze, the body below an entry is the newest one before the freeze
  below_now : (n : ℕ) → below_body begun now n ≡ newest_body s m n
  below_now n = search (arith, no_staging, none, saved_below, put_or_body)

  content_same : (n : ℕ) → content_at begun now n ≡ content_at s m n
  content_same n = rw (alike (length s.working) n Absent, below_now n)

  present_same : (n : ℕ) → present_at begun now n ≡ present_at s m n
  present_same n = ap (λ c. record { header = header_at m.headers n; content = c }) (content_same n)

  pub begun_contents : contents_in begun now ≡ contents_in s m
  unfolding contents_in
  begun_contents = maps_same (content_at begun now) (content_at s m) (length m.headers) (λ n below. content_same n)

  masked_here : (n : ℕ) → n < length m.headers → masked (header_at m.headers n).role (content_at s m n) ≡ content_at s m n
  masked_here n within = search (arith, frame_in m.headers (contents_in s m) n within, masked_same, content_in)

  -- after the freeze, an object's frozen body is its present one
  body_now : (n : ℕ) → n < length m.headers → (o : Option Entry) → entry_at m.entries n ≡ o →
      masked (header_at m.headers n).role (frozen_body o false (below_body begun now n)) ≡ content_at s m n
  body_now n within o at = search (arith, below_now, masked_here, none)

  frozen_by : (n : ℕ) → n < length m.headers → (b t : Bool) → mark_at m.dirty n ≡ b → mark_at m.touched n ≡ t →
      frozen_frame b (header_at fh n) (frozen_body (entry_at m.entries n) false (below_body begun now n)) (below_at begun n)
      ≡ present_at s m n
  frozen_by n within b t dirty touched = search (arith, body_now, none, saved_below)

  frozen_now : (n : ℕ) → n < length m.headers → frozen_at begun now n ≡ present_at s m n
  frozen_now n within = rw (alike (length m.touched) n false) (frozen_by n within (mark_at m.dirty n) (mark_at m.touched n) refl refl)

  -- after the freeze, the frozen frames are the present ones
  pub begun_frozen : frozen_in begun now ≡ frames_in m.headers (contents_in s m)
  unfolding frozen_in
  begun_frozen =
      ext_get_or blank_frame (map (frozen_at begun now) (range_with_len 0 (length m.headers))) (frames_in m.headers (contents_in s m))
      (length-map-range_with_len (frozen_at begun now) 0 (length m.headers) ∙ sym (length_in m.headers (contents_in s m)))
      (λ n lt.
      let within : n < length m.headers = omega (arith, lt, length-map-range_with_len (frozen_at begun now) 0 (length m.headers)) in
      get_or-map-range_with_len (frozen_at begun now) 0 (length m.headers) n n blank_frame within (omega arith)
      ∙ frozen_now n within
      ∙ sym (frame_in m.headers (contents_in s m) n within ∙ ap (λ c. record { header = header_at m.headers n; content = c })
      (content_in s m n within)))

  -- a number is touched exactly if it is dirty or has a working frame
  written_by : (n : ℕ) (b t : Bool) → mark_at m.dirty n ≡ b → mark_at m.touched n ≡ t → (b || is_kept (put_at s.working n)) ≡ t
  written_by n b t dirty touched = search arith

  torn_by : (n : ℕ) (b t : Bool) → mark_at m.dirty n ≡ b → mark_at m.touched n ≡ t → put_at s.working n ≡ Broken → b ≡ true
  torn_by n b t dirty touched broken = search arith

  begun_are : AreFrozen (record { put = s.working; size = count }) m.dirty count
  begun_are = record {
    each = is.puts ∙ sym is.dirty_marks;
    size =
        ap (count_by (λ b. b)) (same_lists (map (λ n. mark_at m.dirty n || is_kept (put_at s.working n))
        (range_with_len 0 (length m.dirty))) m.touched
        (length-map-range_with_len (λ n. mark_at m.dirty n || is_kept (put_at s.working n)) 0 (length m.dirty) ∙ is.dirty_marks
        ∙ sym is.marks)
        (λ i b lt.
        let within : i < length m.dirty = omega
        (arith, lt, length-map-range_with_len (λ n. mark_at m.dirty n || is_kept (put_at s.working n)) 0 (length m.dirty)) in
        get_or-map-range_with_len (λ n. mark_at m.dirty n || is_kept (put_at s.working n)) 0 (length m.dirty) i i b within (omega arith)
        ∙ written_by i (mark_at m.dirty i) (mark_at m.touched i) refl refl
        ∙ get_or_default m.touched i false b (omega (arith, within, is.dirty_marks, is.marks)))) ∙ sym is.counted;
    torn = λ n broken. torn_by n (mark_at m.dirty n) (mark_at m.touched n) refl refl broken;
    few = let fewer = fewer_of m.dirty m.touched is.marked in omega (arith, fewer, is.counted);
    within = omega arith;
  }

  pub begun_cache : IsCache all begun now count 0
  begun_cache = search (
    arith,
    length-replicate,
    none_counted,
    alike,
    present_same,
    frozen_now,
    none-some,
    same_Some,
    begun_are,
    begun_frozen,
    none,
  )

-- facts about a store whose view is s
module _ {D : Type 0} (disk : D → Disk) {d : DurableState D} {m : Memory} {all : Bool} {left count : ℕ} {order : List ℕ} {most_entries : ℕ}
    {s : StoreState D}
    (view : cache_of disk d m left order most_entries ≡ s) (is : IsCache all (stored_of disk d) m left count) where
  -- at most as many working slots are in use as objects were written
  pub freeze_enough : sum_of held_slot (stored_of disk d).working ≤ count
  freeze_enough = let few = held_touched (stored_of disk d).working m.touched (is.puts ∙ sym is.marks) is.unput in
      omega (arith, few, is.counted)

  module _ (new : DurableState D) (is_none : option_map left_of (stored_of disk d).frozen ≡ None)
      (begun : stored_of disk new ≡ freezing_puts count (stored_of disk d))
      (fh : List ObjectHeader) (fh_count : length fh ≡ length m.frozen_headers)
      (same_headers : (n : ℕ) → mark_at m.dirty n ≡ true → header_at fh n ≡ header_at m.headers n)
      (keepable : AreKeepable (stored_of disk s.durable).saved.geometry most (frames_in s.headers s.contents)) where
    none : (stored_of disk d).frozen ≡ None
    none = none_of left_of (stored_of disk d).frozen is_none

    kept : AreKeepable (stored_of disk d).saved.geometry most (frames_in m.headers (contents_in (stored_of disk d) m))
    kept = subst (λ t. AreKeepable (stored_of disk t.durable).saved.geometry most (frames_in t.headers t.contents)) (sym view) keepable

    pub freeze_stands : IsCache all (stored_of disk new) (frozen_memory fh m) count 0
    freeze_stands = subst (λ t. IsCache all t (frozen_memory fh m) count 0) (sym begun) (begun_cache is none fh fh_count same_headers kept)

    freeze_contents : contents_in (stored_of disk new) (frozen_memory fh m) ≡ s.contents
    freeze_contents = ap (λ t. contents_in t (frozen_memory fh m)) begun ∙ begun_contents is none fh fh_count same_headers kept
        ∙ ap (λ t. t.contents) view

    freeze_touched : replicate (length m.touched) false ≡ untouched (stored_of disk s.durable).saved.geometry
    unfolding untouched
    freeze_touched = ap (λ k. replicate k false) is.marks ∙ ap (λ t. replicate (object_count (stored_of disk t.durable).saved.geometry)
        false) view

    pub freeze_parts : new.beneath ≡ d.beneath → parts_of disk (cache_of disk new (frozen_memory fh m) count order most_entries) ≡
        all_untouched (parts_of disk s)
    freeze_parts beneath = λ k. record {
      geometry = (ap (λ t. t.saved.geometry) begun ∙ ap (λ t. (stored_of disk t.durable).saved.geometry) view) k;
      headers = (view k).headers;
      contents = freeze_contents k;
      touched = freeze_touched k;
      failures = (ap (λ b. (disk b).failures) beneath ∙ ap (λ t. (disk t.durable.beneath).failures) view) k;
    }

    pub freeze_snapshots : snapshots_of disk (cache_of disk new (frozen_memory fh m) count order most_entries) ≡ freezing
        (all_frozen (frames_in s.headers s.contents) (touched_count s.touched)) (snapshots_of disk s)
    freeze_snapshots =
        ap (λ t. record { frozen = frozen_seen t (frozen_memory fh m) count; saved = t.saved; to_move = t.to_move }) begun
        ∙ (λ k. record {
          frozen = Some (record {
            frames = begun_frozen is none fh fh_count same_headers kept k;
            size = is.counted k;
            left = is.counted k;
          });
          saved = (stored_of disk d).saved;
          to_move = (stored_of disk d).to_move;
        }) ∙ ap (λ t. freezing (all_frozen (frames_in t.headers t.contents) (touched_count t.touched)) (snapshots_of disk t)) view
