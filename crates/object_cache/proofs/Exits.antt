-- What holds when a function returns, from the results of its calls.
use Rattle.object_cache.proofs.Names.{Result, Ok, Err, OnOk, IsErrAnd, is_err, err_from_is_err_and, err_counts, Counts, Disk, ap, sym, subst, ℕ, most}
use Rattle.object_cache.proofs.Names.{StoreState, GoesOnIn, IsFetchedIn, AreKeepable, IsKeepable, parts_of, stored_of, header_at, held_at, frames_in, on_device}
use Rattle.object_cache.proofs.Names.{on_device_with, List, Bool, readied, AreKeepableIn, IsKeepableIn, OnlyFetches, false, true≢false, ContinuesIn, Held}
use Rattle.object_cache.proofs.Names.{released, Some, None, arith, on_ok_weaker, on_err_weaker, refl, PutsBy, Option, FrozenFrames, Image, Moves, DurableState}
use Rattle.object_cache.proofs.Names.{Memory, cache_of, ok_counts, counts_on, goes_on_same, goes_on_twice, set, without, without_cached, Refusal, IsErrOf}
use Rattle.object_cache.proofs.Names.{Failed, counted_ok, touched_count, touching, IsRefused, AreSameUnlessFailed, IsUnprepared, Prepares, touched_too, IfErr}
use Rattle.std.specs.Prelude.{OnErr}
use Rattle.std.proofs.Common.{◌≡◌, ◌∙◌, ◌<◌, ◌≤◌, ◌↔◌}
use Rattle.object_cache.proofs.Outcomes.{IsNext, continues_with}
use Rattle.model.specs.declared.answer.Refusal.TheVariants as refusal

-- if a result is an error, clauses about success hold
pub no_ok : {T E : Type 0} (r : Result T E) (P : Type 0) (Q : E → Type 0) → IsErrAnd r Q → OnOk r P
no_ok (Ok x) P Q failed = absurd failed
no_ok (Err e) P Q failed = tt

-- if `?` returns a call's error, the function's failures are counted as the call's
pub counts_as : {T U E : Type 0} {old new : Disk} {e : E} (r : Result U E) (Q : E → Type 0) → IsErrAnd r Q →
    Counts {T = T} old new (Err e) → Counts old new r
counts_as r Q failed counts = err_counts (ap is_err (err_from_is_err_and r failed).1) counts

-- ---- calls that write frames and read bodies, one after another

module _ {D : Type 0} where
  -- `like s t` is s with some parts of t; if t is `like s t`, a state u that equals t is `like s u`
  pub as_like : (like : StoreState D → StoreState D → StoreState D) (s : StoreState D) {t u : StoreState D} → u ≡ t → t ≡ like s t →
      u ≡ like s u
  as_like like s is same = is ∙ same ∙ ap (like s) (sym is)

  rest_on : (s t u : StoreState D) → t ≡ on_device_with s t → u ≡ on_device_with t u → u ≡ on_device_with s u
  rest_on s t u first second = second ∙ ap (λ x. on_device_with x u) first

  put_on : (s t u : StoreState D) → t ≡ on_device s t → u ≡ on_device t u → u ≡ on_device s u
  put_on s t u first second = second ∙ ap (λ x. on_device x u) first

  pub away_on : (s t u : StoreState D) (n : ℕ) → t ≡ on_device s t → u ≡ record t
      { cached = set t.cached n false; order = without n t.order } → u ≡ without_cached n (on_device s u)
  away_on s t u n put is = search arith

module _ {D : Type 0} {disk : D → Disk} where
  -- if nothing was done, `Moves` holds
  pub moves_none : {like : StoreState D → StoreState D → StoreState D} {T E : Type 0} {x : T} →
      ((d : D) (c : Image) → (disk d).left_since (disk d).moment c → (disk d).may_leave c) → (s : StoreState D) → s ≡ like s s →
      Moves {E = E} disk like s s (Ok x)
  moves_none only_now s same = record { rest = same; continues = goes_on_same disk only_now s; cause = ok_counts refl }

  -- if a function returns a call's error by `?`, `Moves` holds for the function's result as for the call's
  pub moves_err : {like : StoreState D → StoreState D → StoreState D} {s t : StoreState D} {T U E : Type 0} {e : E} (r : Result U E)
      (Q : E → Type 0) → IsErrAnd r Q → Moves {T = T} disk like s t (Err e) → Moves disk like s t r
  moves_err r Q failed moves = record { rest = moves.rest; continues = moves.continues; cause = counts_as r Q failed moves.cause }

  -- if the fields of the new state satisfy the invariant, `Moves` holds of its view
  pub moves_next : {like : StoreState D → StoreState D → StoreState D} {all : Bool} {s t : StoreState D} {d : DurableState D} {m : Memory}
      {left count : ℕ} {order : List ℕ} {most_entries : ℕ} → IsNext all disk s d m left count order most_entries t → t ≡ like s t →
      {T E : Type 0} (r : Result T E) → Counts (disk s.durable.beneath) (disk d.beneath) r →
      Moves disk like s (cache_of disk d m left order most_entries) r
  moves_next {like} {s = s} next same r cause = record { rest = as_like like s next.view same; continues = next.continues; cause = cause }

  -- if `Moves` holds with only the device's part changed, it also holds where entries may change
  pub moves_more : {s t : StoreState D} {T E : Type 0} {r : Result T E} → Moves disk on_device s t r → Moves disk on_device_with s t r
  moves_more {s} moves = record { rest = as_like on_device_with s moves.rest refl; continues = moves.continues; cause = moves.cause }

  -- if only the order of use changed, `Moves` holds
  pub moves_used : {s t : StoreState D} {os : List ℕ} → t ≡ record s { order = os } → GoesOnIn disk s t →
      Moves {T = Unit {0}} {E = Failed} disk on_device_with s t (Ok tt)
  moves_used {s} {t} is goes = record {
    rest = as_like on_device_with s is refl;
    continues = goes;
    cause = ok_counts (ap (λ x. (disk x.durable.beneath).failures) is);
  }

  module _ (counts_now : (d : D) (t : ℕ) (c : Image) → t ≤ (disk d).moment → (disk d).may_leave c → (disk d).left_since t c)
      {s t u : StoreState D} {T U E F : Type 0} {x : T} {r : Result U E} where
    pub moves_on : Moves {E = F} disk on_device_with s t (Ok x) → Moves disk on_device_with t u r → Moves disk on_device_with s u r
    moves_on first second = record {
      rest = rest_on s t u first.rest second.rest;
      continues = goes_on_twice disk counts_now s t u first.continues second.continues;
      cause = counts_on (counted_ok first.cause) second.cause;
    }

    pub writes_on : Moves {E = F} disk on_device s t (Ok x) → Moves disk on_device t u r → Moves disk on_device s u r
    writes_on first second = record {
      rest = put_on s t u first.rest second.rest;
      continues = goes_on_twice disk counts_now s t u first.continues second.continues;
      cause = counts_on (counted_ok first.cause) second.cause;
    }

  -- if a call satisfies `Moves`, and then entries and order change in memory, the whole satisfies `Moves`
  pub moves_in_memory : {s t u : StoreState D} {cached : List Bool} {order : List ℕ} {T U E : Type 0} {x : T} {y : U} →
      Moves {E = E} disk on_device s t (Ok x) → u ≡ record t { cached = cached; order = order } →
      Moves {E = E} disk on_device_with s u (Ok y)
  moves_in_memory {s} {t} {cached = cached} {order} {U = U} {E} {y = y} moves is =
      subst (λ v. Moves {T = U} {E = E} disk on_device_with s v (Ok y)) (sym is) (record {
        rest = ap (λ (v : StoreState D). record v { cached = cached; order = order }) moves.rest;
        continues = continues_with disk cached t.frozen_state order t.staging moves.continues;
        cause = ok_counts (counted_ok moves.cause);
      })

-- ---- objects stay fetched and keepable if only the device's part or the entries change

module _ {D : Type 0} {s t : StoreState D} where
  pub fetched_put : {n : ℕ} → t ≡ on_device s t → IsFetchedIn s n → IsFetchedIn t n
  fetched_put {n} put there =
      subst (λ x. IsFetchedIn x n) (sym put) (record { header = there.header; content = there.content; cached = there.cached })

  module _ {disk : D → Disk} (goes : GoesOnIn disk s t) where
    pub keepable_put : {n : ℕ} → t ≡ on_device s t → IsKeepableIn disk s n → IsKeepableIn disk t n
    keepable_put {n} put keepable =
        subst (λ x. IsKeepable (stored_of disk t.durable).saved.geometry most n
        (record { header = header_at x.headers n; content = held_at x.contents n }))
        (sym put) (subst (λ g. IsKeepable g most n (record { header = header_at s.headers n; content = held_at s.contents n }))
        (ap (λ a. a.saved.geometry) (sym goes.snapshots)) keepable)

    pub all_keepable : t ≡ on_device_with s t → AreKeepableIn disk s → AreKeepableIn disk t
    all_keepable rest keepable =
        subst (λ x. AreKeepable (stored_of disk t.durable).saved.geometry most (frames_in x.headers x.contents)) (sym rest)
        (subst (λ g. AreKeepable g most (frames_in s.headers s.contents)) (ap (λ a. a.saved.geometry) (sym goes.snapshots)) keepable)

module _ {D : Type 0} where
  -- if frozen copies are made first, and then numbers announced, the whole is an announcement
  readied_on : (s t u : StoreState D) → t ≡ record s { frozen_state = t.frozen_state } → u ≡ readied t u → u ≡ readied s u
  readied_on s t u apart is = is ∙ ap (λ x. readied x u) apart

  pub readied_by : {T E : Type 0} (r : Result T E) (s t u : StoreState D) (touched dirty : List Bool) →
      t ≡ record s { frozen_state = t.frozen_state } → OnOk r (u ≡ record t { touched = touched; dirty = dirty }) → OnErr r (u ≡ t) →
      u ≡ readied s u
  readied_by (Ok x) s t u touched dirty apart marked unchanged = readied_on s t u apart (marked ∙ ap (readied t) (sym marked))
  readied_by (Err e) s t u touched dirty apart marked unchanged = readied_on s t u apart (unchanged ∙ ap (readied t) (sym unchanged))

-- a staging buffer is empty after its own body is released
pub released_own : (h : Held) → released h.number (Some h) ≡ None
released_own h = search arith

-- if headers, contents and touched numbers are the same, so are the parts, unless the device failed
module _ {D : Type 0} (disk : D → Disk) (s : StoreState D) where
  pub same_parts : (t : StoreState D) → t.headers ≡ s.headers → t.contents ≡ s.contents → t.touched ≡ s.touched →
      (stored_of disk t.durable).saved.geometry ≡ (stored_of disk s.durable).saved.geometry →
      AreSameUnlessFailed (parts_of disk s) (parts_of disk t)
  same_parts t headers contents touched geometry failures =
      λ k. record { geometry = geometry k; headers = headers k; contents = contents k; touched = touched k; failures = failures k }

  pub same_seen : (t : StoreState D) {f : Option FrozenFrames} → t ≡ record s { durable = t.durable; frozen = f } →
      (stored_of disk t.durable).saved.geometry ≡ (stored_of disk s.durable).saved.geometry →
      AreSameUnlessFailed (parts_of disk s) (parts_of disk t)
  same_seen t is = same_parts t (ap (λ x. x.headers) is) (ap (λ x. x.contents) is) (ap (λ x. x.touched) is)

  pub puts_same : (t : StoreState D) {k : ℕ} → PutsBy disk s t k → AreSameUnlessFailed (parts_of disk s) (parts_of disk t)
  puts_same t puts = same_parts t (ap (λ x. x.headers) puts.rest) (ap (λ x. x.contents) puts.rest) (ap (λ x. x.touched) puts.rest)
      (ap (λ p. p.geometry) puts.goes_on.plan)

-- facts about a store that doesn't keep all bodies in memory
module _ {D : Type 0} {disk : D → Disk} {s t : StoreState D} {all : Bool} (some : all ≡ false) where
  pub continues_some : GoesOnIn disk s t → ContinuesIn all disk s t
  continues_some goes = record { goes_on = goes; still = λ is. absurd (true≢false (sym is ∙ some)) }

  pub fetches_only : {T E : Type 0} {r : Result T E} → Moves disk on_device_with s t r →
      OnlyFetches (parts_of disk) (ContinuesIn all disk) s t
  fetches_only moves = record {
    same = same_parts disk s t (ap (λ x. x.headers) moves.rest) (ap (λ x. x.contents) moves.rest) (ap (λ x. x.touched) moves.rest)
        (ap (λ a. a.saved.geometry) moves.continues.snapshots);
    touched = ap (λ x. x.touched) moves.rest;
    later = moves.continues.later;
    continues = continues_some moves.continues;
  }

-- facts after numbers were announced, or the announcement was refused
module _ {D : Type 0} {disk : D → Disk} {s t : StoreState D} {all : Bool} (rest : t ≡ readied s t) (goes : GoesOnIn disk s t) where
  pub prepares_by : {T : Type 0} (r : Result T Refusal) {ws : List ℕ} → OnOk r (t.touched ≡ touching s.touched ws) →
      OnErr r (t.touched ≡ s.touched) → touched_count s.touched ≤ (stored_of disk s.durable).saved.geometry.log →
      touched_count t.touched ≤ (stored_of disk t.durable).saved.geometry.log → IfErr r IsUnprepared →
      (IsErrOf r refusal.LogFull → (stored_of disk s.durable).saved.geometry.log < touched_count (touching s.touched ws)) →
      (IsErrOf r refusal.Fault → ⊥) → Prepares (parts_of disk) (ContinuesIn all disk) s t ws r
  prepares_by r {ws} touched untouched before within refusals full unfailed =
      let same : t.durable ≡ s.durable = ap (λ x. x.durable) rest in
      record {
        before = before;
        done = on_ok_weaker r (λ is k. record {
          geometry = (stored_of disk (same k)).saved.geometry;
          headers = (rest k).headers;
          contents = (rest k).contents;
          touched = is k;
          failures = (disk (same k).beneath).failures;
        }) touched;
        within = on_ok_weaker r (λ is. omega (arith, ap touched_count is, ap (λ d. (stored_of disk d).saved.geometry.log) same, within))
            touched;
        same = on_err_weaker r (λ is. same_parts disk s t (ap (λ x. x.headers) rest) (ap (λ x. x.contents) rest) is
            (ap (λ d. (stored_of disk d).saved.geometry) same)) untouched;
        full = full;
        refusals = refusals;
        cause = (λ fault. absurd (unfailed fault), λ rose. absurd (omega (arith, rose, ap (λ d. (disk d.beneath).failures) same)));
        later = goes.later;
        continues = record { goes_on = goes; still = λ is. same };
      }

module _ {D : Type 0} {disk : D → Disk} {s t : StoreState D} {all : Bool} {T : Type 0} {ws : List ℕ} where
  -- fetching first, and then announcing, satisfies `Prepares`
  pub prepares_after : {u : StoreState D} {r : Result T Refusal} → parts_of disk t ≡ parts_of disk s → ContinuesIn all disk s u →
      Prepares (parts_of disk) (ContinuesIn all disk) t u ws r → Prepares (parts_of disk) (ContinuesIn all disk) s u ws r
  prepares_after {u} {r} same continues did = record {
    before = subst (λ p. touched_count p.touched ≤ p.geometry.log) same did.before;
    done = subst (λ p. OnOk r (parts_of disk u ≡ touched_too ws p)) same did.done;
    within = subst (λ p. OnOk r (touched_count (touching p.touched ws) ≤ p.geometry.log)) same did.within;
    same = subst (λ p. OnErr r (AreSameUnlessFailed p (parts_of disk u))) same did.same;
    full = subst (λ p. IsErrOf r refusal.LogFull → p.geometry.log < touched_count (touching p.touched ws)) same did.full;
    refusals = did.refusals;
    cause = subst (λ p. IsErrOf r refusal.Fault ↔ (p.failures < (parts_of disk u).failures)) same did.cause;
    later = subst (λ p. p.failures ≤ (parts_of disk u).failures) same did.later;
    continues = continues;
  }

  -- if the fetch failed, `Prepares` holds with `Fault`
  pub unfetched : {r : Result T Refusal} → (e : Refusal) × (r ≡ Err e) × (e ≡ refusal.Fault) → touched_count s.touched ≤
      (stored_of disk s.durable).saved.geometry.log → OnlyFetches (parts_of disk) (ContinuesIn all disk) s t →
      (disk s.durable.beneath).failures < (disk t.durable.beneath).failures → Prepares (parts_of disk) (ContinuesIn all disk) s t ws r
  unfetched why before only rose = subst (Prepares (parts_of disk) (ContinuesIn all disk) s t ws) (sym (why.1 ∙ ap Err why.2)) (record {
    before = before;
    done = tt;
    within = tt;
    same = only.same;
    full = search arith;
    refusals = tt;
    cause = (λ fault. rose, λ more. refl);
    later = only.later;
    continues = only.continues;
  })

-- if a call succeeds, the count of failures is unchanged
pub counts_same : {T E : Type 0} {old new : Disk} (r : Result T E) → Counts old new r → OnOk r (new.failures ≡ old.failures)
counts_same (Ok x) counts = counted_ok counts
counts_same (Err e) counts = tt

pub refused_of : {T : Type 0} (r : Result T Refusal) {P : Type 0} → OnErr r P → IsRefused r → P
refused_of (Ok x) stays is = absurd is
refused_of (Err e) stays is = stays
