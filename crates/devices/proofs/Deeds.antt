-- What a file's calls add to its list of calls.
use Rattle.devices.proofs.Names.{nat_tests, ℕ, List, [], Option, None, Some, Result, OnOk, is_ok, true, length, take, drop, sym, ap, subst, append_assoc}
use Rattle.devices.proofs.Names.{append-nil, arith, length-append, length-take, length-take-le, ∥∥₁_map, take-add, take_rest, flat_map-append, concat-append, concat}
use Rattle.devices.proofs.Names.{sectors_of, Event, writes_of, Adds, Call, took, Deed, writes, calls_of, events_by, taken, Takes, Tells, Bor, History, OnErr}
use Rattle.devices.proofs.Names.{false, refl, stepped, TakesFront, failures_by, fails_sync, fails_write, Failed, take-append-drop, sum_by-append}
use Rattle.devices.specs.declared.history.Step.TheVariants.{Wrote}
use Rattle.std.proofs.Common.{◌≡◌, ◌+◌, ◌-◌, ◌*◌, ◌≤◌, ◌∷◌, ◌++◌, ◌∙◌}

-- calls xs followed by calls ys add xs ++ ys
pub adds_more : {X : Type 0} (a b c : Option (List X)) (xs ys : List X) → Adds a b xs → Adds b c ys → Adds a c (xs ++ ys)
adds_more {X} a b c xs ys p q = grind (arith, nat_tests, append_assoc)

-- without a call nothing is added
pub adds_none : {X : Type 0} (a : Option (List X)) → Adds a a []
adds_none {X} a = grind (arith, nat_tests, append-nil)

-- a write of one more piece adds one call
taken_one : (byte : ℕ) (ps : List (List ℕ)) (y : List ℕ) → taken byte (ps ++ y ∷ [])
    ≡ taken byte ps ++ took (byte + length (concat ps)) y ∷ []
taken_one byte [] y = ap (λ (n : ℕ). took n y ∷ []) (omega arith)
taken_one byte (p ∷ ps) y =
    ap (λ (l : List Call). took byte p ∷ l) (taken_one (byte + length p) ps y
    ∙ ap (λ (n : ℕ). taken (byte + length p) ps ++ took n y ∷ []) (omega (arith, length-append p (concat ps))))

pub takes_none : (byte : ℕ) (a : Option (List Call)) → Takes byte a a []
takes_none byte a = grind (arith, nat_tests, append-nil)

takes_more : (byte : ℕ) (a b c : Option (List Call)) (xs ys : List ℕ) → Takes byte a b xs → Adds b c (took (byte + length xs) ys ∷ []) →
    Takes byte a c (xs ++ ys)
takes_more byte a b c xs ys t adds =
    let behind : Adds b c (took (byte + length (concat t.0)) ys ∷ []) = subst (λ (l : List ℕ). Adds b c (took (byte + length l) ys ∷ []))
    (sym t.1) adds in (
      t.0 ++ ys ∷ [],
      concat-append t.0 (ys ∷ []) ∙ ap (λ (l : List ℕ). concat t.0 ++ l) (append-nil ys) ∙ ap (λ (l : List ℕ). l ++ ys) t.1,
      subst (Adds a c) (sym (taken_one byte t.0 ys)) (adds_more a b c (taken byte t.0) (took (byte + length (concat t.0)) ys ∷ []) t.2
          behind),
    )

-- a call that takes n more bytes extends the bytes taken
pub takes_on : (byte : ℕ) (a b c : Option (List Call)) (bytes : List ℕ) (i n : ℕ) → i ≤ length bytes → Takes byte a b (take i bytes)
    → Adds b c (took (byte + i) (take n (take (length bytes - i) (drop i bytes))) ∷ []) → Takes byte a c (take (i + n) bytes)
takes_on byte a b c bytes i n within t adds =
    let whole = take_rest bytes i in
    let there : i ≡ length (take i bytes) = omega (arith, length-take {A = ℕ}, within) in
    let adds' : Adds b c (took (byte + length (take i bytes)) (take n (drop i bytes)) ∷ []) = grind (arith, nat_tests) in
    subst (Takes byte a c) (sym (take-add i n bytes)) (takes_more byte a b c (take i bytes) (take n (drop i bytes)) t adds')

-- if the first i bytes were taken, a prefix of the bytes was
pub takes_front : (byte : ℕ) (a b : Option (List Call)) (bytes : List ℕ) (i : ℕ) → Takes byte a b (take i bytes) → TakesFront byte a b bytes
takes_front byte a b bytes i t = (t.0, drop i bytes, ap (λ (l : List ℕ). l ++ drop i bytes) t.1 ∙ take-append-drop i bytes, t.2)

-- the calls for two lists of pieces are those for the first, then those for the second
taken_append : (byte : ℕ) (ps qs : List (List ℕ)) → taken byte (ps ++ qs) ≡ taken byte ps ++ taken (byte + length (concat ps)) qs
taken_append byte [] qs = ap (λ (n : ℕ). taken n qs) (omega arith)
taken_append byte (p ∷ ps) qs =
    ap (λ (l : List Call). took byte p ∷ l) (taken_append (byte + length p) ps qs
    ∙ ap (λ (n : ℕ). taken (byte + length p) ps ++ taken n qs) (omega (arith, length-append p (concat ps))))

-- if the first i bytes and then a prefix of the rest were taken, a prefix of all was
pub takes_then : (byte : ℕ) (a b c : Option (List Call)) (bytes : List ℕ) (i : ℕ) → i ≤ length bytes → Takes byte a b (take i bytes)
    → TakesFront (byte + i) b c (take (length bytes - i) (drop i bytes)) → TakesFront byte a c bytes
takes_then byte a b c bytes i within t f =
    let place : byte + i ≡ byte + length (concat t.0) = ap (λ (n : ℕ). byte + n) (sym (ap length t.1 ∙ length-take-le i bytes within)) in (
      t.0 ++ f.0,
      f.1,
      ap (λ (l : List ℕ). l ++ f.1) (concat-append t.0 f.0) ∙ append_assoc (concat t.0) (concat f.0) f.1
          ∙ ap (λ (l : List ℕ). concat t.0 ++ l) (f.2 ∙ take_rest bytes i) ∙ ap (λ (l : List ℕ). l ++ drop i bytes) t.1
          ∙ take-append-drop i bytes,
      subst (Adds a c) (ap (λ (n : ℕ). taken byte t.0 ++ taken n f.0) place ∙ sym (taken_append byte t.0 f.0))
          (adds_more a b c (taken byte t.0) (taken (byte + i) f.0) t.2 f.3),
    )

-- a call that takes no byte takes a prefix: the empty one
pub takes_zero : (byte : ℕ) (a b : Option (List Call)) (bytes : List ℕ) → Adds a b (took byte (take 0 bytes) ∷ []) →
    TakesFront byte a b bytes
takes_zero byte a b bytes adds = ([] ∷ [], bytes, refl, adds)

-- without a call a prefix is taken: the empty one
pub takes_nothing : (byte : ℕ) (a : Option (List Call)) (bytes : List ℕ) → TakesFront byte a a bytes
takes_nothing byte a bytes = ([], bytes, refl, adds_none a)

-- if no call succeeded, the empty prefix was taken
pub takes_still : (byte : ℕ) (a b : Option (List Call)) (bytes : List ℕ) → b ≡ a → TakesFront byte a b bytes
takes_still byte a b bytes same = subst (λ (o : Option (List Call)). TakesFront byte a o bytes) (sym same) (takes_nothing byte a bytes)

-- one more operation (`Deed`) adds its calls, its events and its failures
tells_known : (events : List Event) (failures : ℕ) (old new : Option (List Call)) (d : Deed) → Tells events failures old →
    Adds old new (calls_of d) → Tells (events ++ events_by d) (failures + failures_by d) new
tells_known events failures None None d tells adds = tt
tells_known events failures None (Some now) d tells adds = cc
tells_known events failures (Some calls) None d tells adds = absurd adds
tells_known events failures (Some calls) (Some now) d tells adds = (
  tells.0 ++ d ∷ [],
  sym (simp (flat_map-append events_by tells.0 (d ∷ []), append-nil) (ap (λ (l : List Event). l ++ events_by d) (sym tells.1))),
  omega (arith, sum_by-append failures_by tells.0 (d ∷ []), tells.2),
  adds ∙ sym (simp (flat_map-append calls_of tells.0 (d ∷ []), append-nil) (ap (λ (l : List Call). l ++ calls_of d) (sym tells.3))),
)

pub tells_more : (events : List Event) (failures : ℕ) (old new : Option (List Call)) (d : Deed) → ∥ Tells events failures old ∥₁
    → Adds old new (calls_of d) → ∥ Tells (events ++ events_by d) (failures + failures_by d) new ∥₁
tells_more events failures old new d tells adds = ∥∥₁_map tells (λ t. tells_known events failures old new d t adds)

pub tells_write : (events : List Event) (failures : ℕ) (old new : Option (List Call)) (at : ℕ) (bytes : List ℕ) →
    ∥ Tells events failures old ∥₁ → Takes (512 * at) old new bytes → ∥ Tells (events ++ writes_of at (sectors_of bytes) bytes)
    (failures + 0) new ∥₁
tells_write events failures old new at bytes tells w =
    subst (λ (b : List ℕ). ∥ Tells (events ++ writes_of at (sectors_of b) b) (failures + 0) new ∥₁) w.1
    (tells_more events failures old new (writes at w.0) tells w.2)

-- a failed sync adds a failure and no call
pub tells_failed_sync : (h : History) (old new : Option (List Call)) → ∥ Tells h.events h.failures old ∥₁ → new ≡ old
    → (let then = stepped h Failed in ∥ Tells then.events then.failures new ∥₁)
tells_failed_sync h old new tells same =
    tells_more h.events h.failures old new fails_sync tells (subst (λ (o : Option (List Call)). Adds old o []) (sym same) (adds_none old))

-- a failed write adds a failure, its events, and the calls of a prefix of its bytes
pub tells_failed_write : (h : History) (old new : Option (List Call)) (at : ℕ) (bytes : Bor (List ℕ)) → ∥ Tells h.events h.failures old ∥₁
    → TakesFront (512 * at) old new bytes.now → (let then = stepped (stepped h (Wrote at bytes)) Failed in
    ∥ Tells then.events then.failures new ∥₁)
tells_failed_write h old new at bytes tells w =
    let written : List Event = h.events ++ writes_of at (sectors_of bytes.now) bytes.now in
    let once : ∥ Tells written (h.failures + 1) new ∥₁ =
    subst (λ (b : List ℕ). ∥ Tells (h.events ++ writes_of at (sectors_of b) b) (h.failures + 1) new ∥₁) w.2
    (tells_more h.events h.failures old new (fails_write at w.0 w.1) tells w.3) in
    let count : h.failures + 1 ≡ (h.failures + 0) + 1 = omega arith in
    subst (λ (l : List Event). ∥ Tells l ((h.failures + 0) + 1) new ∥₁) (sym (append-nil written))
    (subst (λ (n : ℕ). ∥ Tells written n new ∥₁) count once)

pub where_ok : {T E : Type 0} {P : Type 0} (r : Result T E) → OnOk r P → true ≡ is_ok r → P
where_ok {T} {E} {P} r ok is = grind (arith, nat_tests)

pub where_err : {T E : Type 0} {P : Type 0} (r : Result T E) → OnErr r P → false ≡ is_ok r → P
where_err {T} {E} {P} r err is = grind (arith, nat_tests)
