-- What calls that open or make a device add to its list of calls.
use Rattle.devices.proofs.Names.{nat_tests, ℕ, List, [], Option, IfSome, length, take, refl, sym, ap, subst, append-nil, arith, drop, length-append}
use Rattle.devices.proofs.Names.{length-take-le, take-append-le, concat-append, concat, Disk, Agrees, image_of, sectors_of, Access, Lock, OpeningCall}
use Rattle.devices.proofs.Names.{opened, locked, measured, got, resized, listed, resizes, KeepsLength, reads, Gets, LoadsLocked, MakesZeros, IsOpened, IsMade}
use Rattle.devices.proofs.Names.{GetsFrom, Adds, AreSectors, Elsewhere, min, take-append-add, take_all, take-put_mid_below, TakesLock, Exclusive, FileFault}
use Rattle.devices.proofs.Names.{Loads, Result, Ok, Err, OnOk, IfOk, IfErr}
use Rattle.devices.specs.OpeningCalls.{FailsToMake, StopsWithin, synced}
use Rattle.std.specs.Prelude.{OnErr}
use Rattle.std.proofs.Common.{◌≢◌, ◌≡◌, ◌+◌, ◌*◌, ◌≤◌, ◌∷◌, ◌++◌, ◌∙◌, ◌%◌}
use Rattle.devices.specs.declared.fault.FileFault.TheVariants as fault
use Rattle.devices.proofs.Deeds.{adds_none, adds_more}
use Rattle.devices.proofs.Stored.{front_part}
use borrow.Rule.Slice.PartMut.{put_mid}

abbrev Calls : Type 0
Calls = Option (List OpeningCall)

resizes_append : (a b : List OpeningCall) → resizes (a ++ b) ≡ resizes a + resizes b
resizes_append [] b = omega arith
resizes_append (opened path access ∷ a) b = resizes_append a b
resizes_append (locked lock answer ∷ a) b = resizes_append a b
resizes_append (synced ∷ a) b = resizes_append a b
resizes_append (measured n ∷ a) b = resizes_append a b
resizes_append (got at piece ∷ a) b = resizes_append a b
resizes_append (resized n ∷ a) b = omega (arith, resizes_append a b)
resizes_append (listed path ∷ a) b = resizes_append a b

-- if none of the calls made sets the length, `KeepsLength` holds
pub keeps_length : (a b : Calls) (more : List OpeningCall) → Adds a b more → resizes more ≡ 0 → KeepsLength a b
keeps_length a b more adds none = grind (arith, nat_tests, resizes_append)

-- the reads of two lists of pieces are those of the first, then those of the second
reads_append : (byte : ℕ) (ps qs : List (List ℕ)) → reads byte (ps ++ qs) ≡ reads byte ps ++ reads (byte + length (concat ps)) qs
reads_append byte [] qs = ap (λ (n : ℕ). reads n qs) (omega arith)
reads_append byte (p ∷ ps) qs =
    ap (λ (l : List OpeningCall). got byte p ∷ l) (reads_append (byte + length p) ps qs
    ∙ ap (λ (n : ℕ). reads (byte + length p) ps ++ reads n qs) (omega (arith, length-append p (concat ps))))

gets_join : (byte next : ℕ) (a b c : Calls) (xs ys : List ℕ) → next ≡ byte + length xs → GetsFrom byte a b xs → GetsFrom next b c ys
    → GetsFrom byte a c (xs ++ ys)
gets_join byte next a b c xs ys next_is first second =
    let place : next ≡ byte + length (concat first.0) = next_is ∙ ap (λ (l : List ℕ). byte + length l) (sym first.1) in (
      first.0 ++ second.0,
      concat-append first.0 second.0 ∙ ap (λ (l : List ℕ). concat first.0 ++ l) second.1 ∙ ap (λ (l : List ℕ). l ++ ys) first.1,
      subst (Adds a c) (ap (λ (n : ℕ). reads byte first.0 ++ reads n second.0) place ∙ sym (reads_append byte first.0 second.0))
          (adds_more a b c (reads byte first.0) (reads next second.0) first.2 second.2),
    )

-- without a call no bytes are read
pub gets_none : (byte : ℕ) (a : Calls) → GetsFrom byte a a []
gets_none byte a = ([], refl, adds_none a)

module _ (byte : ℕ) (a b : Calls) (old part : List ℕ) (done k : ℕ) (within : done ≤ length old) (gets : GetsFrom byte a b (take done old))
  where
    size : length (take done old) ≡ done
    size = length-take-le done old within

    pub fits_within : (n : ℕ) → n ≤ length part → done + n ≤ length (put_mid done k old part)
    fits_within n fits = grind (arith, nat_tests, size, length-append)

    -- a call that reads n more bytes into a buffer extends the bytes read
    pub gets_on : (c : Calls) (n : ℕ) → n ≤ length part → Adds b c (got (byte + done) (take n part) ∷ [])
        → GetsFrom byte a c (take (done + n) (put_mid done k old part))
    gets_on c n fits adds =
        let tail : List ℕ = drop k (drop done old) in
        let more : take (done + n) (put_mid done k old part) ≡ take done old ++ take n part =
        ap (λ (m : ℕ). take (m + n) (take done old ++ (part ++ tail))) (sym size) ∙ take-append-add (take done old) (part ++ tail) n
        ∙ ap (λ (l : List ℕ). take done old ++ l) (take-append-le n part tail fits) in
        subst (GetsFrom byte a c) (sym more)
        (gets_join byte (byte + done) a b c (take done old) (take n part) (ap (λ (m : ℕ). byte + m) (sym size)) gets
        (take n part ∷ [], append-nil (take n part), adds))

    -- after an interrupted call, the number of bytes read is still within the buffer
    pub still_within : done ≤ length (put_mid done k old part)
    still_within = omega (arith, fits_within 0 (omega arith))

    pub gets_still : GetsFrom byte a b (take done (put_mid done k old part))
    gets_still = subst (GetsFrom byte a b) (sym (take-put_mid_below done k old part done (omega arith) within)) gets

-- if the sectors before `at` were read, and then those of `part`, all up to `next` or to the end were read
pub sectors_on : (a b c : Calls) (old new part : List ℕ) (at byte next : ℕ) → byte ≡ 512 * at → length new ≡ length old →
    length part % 512 ≡ 0 → 512 * at ≤ length old → byte + length part ≡ min next (length old)
    → AreSectors (image_of new) at part → Elsewhere at (sectors_of part) (image_of old) (image_of new)
    → Gets a b (take byte old) → GetsFrom byte b c part → Gets a c (take next new)
sectors_on a b c old new part at byte next byte_is same whole inside end written others gets more =
    let size : length (take byte old) ≡ byte = length-take-le byte old (omega (arith, byte_is, inside)) in
    let all : take byte old ++ part ≡ take (byte + length part) new = grind (arith, nat_tests, front_part) in
    let reaches : take (byte + length part) new ≡ take next new = grind (arith, nat_tests, take_all) in
    subst (Gets a c) (all ∙ reaches) (gets_join 0 byte a b c (take byte old) part (omega (arith, size)) gets more)

-- emptying, lengthening and syncing a file, then syncing its folder, adds these four calls
pub filled : {T E : Type 0} (r : Result T E) (path : List ℕ) (n : ℕ) (a b c d e : Calls) → Adds a b (resized 0 ∷ []) →
    Adds b c (resized n ∷ []) → Adds c d (synced ∷ []) → OnOk r (Adds d e (listed path ∷ [])) →
    OnOk r (Adds a e (resized 0 ∷ resized n ∷ synced ∷ listed path ∷ []))
filled (Err x) path n a b c d e emptied extended kept seen = tt
filled (Ok x) path n a b c d e emptied extended kept seen =
    adds_more a b e (resized 0 ∷ []) (resized n ∷ synced ∷ listed path ∷ []) emptied
    (adds_more b c e (resized n ∷ []) (synced ∷ listed path ∷ []) extended (adds_more c d e (synced ∷ []) (listed path ∷ []) kept seen))

-- if the file is locked before these four calls, it is made of zeros (`MakesZeros`)
pub fills : (path : List ℕ) (n : ℕ) (a b c : Calls) → TakesLock Exclusive a b → Adds b c (resized 0 ∷ resized n ∷ synced ∷ listed path ∷ [])
    → MakesZeros path n a c
fills path n a b c took more = (
  took.0,
  took.1,
  adds_more a b c (locked Exclusive took.0 ∷ [])
      (resized 0 ∷ resized n ∷ synced ∷ listed path ∷ []) took.2 more,
)

-- locking, syncing and then loading a file is `LoadsLocked`
pub loads_locked : (r : Result (List ℕ) FileFault) (lock : Lock) (a b c d : Calls) → TakesLock lock a b → Adds b c (synced ∷ []) →
    IfOk r (λ copy. Loads c d copy) → IfOk r (λ copy. LoadsLocked lock a d copy)
loads_locked (Err x) lock a b c d took kept loads = tt
loads_locked (Ok copy) lock a b c d took kept loads =
    let read : List OpeningCall = measured loads.0 ∷ reads 0 loads.1 in (
      took.0,
      loads.0,
      loads.1,
      took.1,
      loads.2,
      loads.3,
      adds_more a b d (locked lock took.0 ∷ []) (synced ∷ read) took.2 (adds_more b c d (synced ∷ []) read kept loads.4),
    )

-- opening a file and then loading it opens a device (`IsOpened`)
pub opens : (path : List ℕ) (access : Access) (lock : Lock) (a b : Calls) (copy : List ℕ) (disk : Disk)
    → IfSome a (λ calls. calls ≡ opened path access ∷ []) → LoadsLocked lock a b copy
    → disk.sectors ≡ sectors_of copy → Agrees disk.seen (image_of copy)
    → IfSome b (λ calls. IsOpened path access lock calls disk)
opens path access lock a b copy disk is loads size seen = grind (arith, nat_tests)

-- opening a file and then filling it with zeros makes a device (`IsMade`)
pub makes : (path : List ℕ) (access : Access) (sectors n : ℕ) (a b : Calls) → IfSome a (λ calls. calls ≡ opened path access ∷ []) →
    n ≡ 512 * sectors → MakesZeros path n a b → IfSome b (λ calls. IsMade path access sectors calls)
makes path access sectors n a b is size zeros = grind (arith, nat_tests)

-- the calls of `MakesZeros` after the lock
abbrev zero_calls : List ℕ → ℕ → List OpeningCall
zero_calls path n = resized 0 ∷ resized n ∷ synced ∷ listed path ∷ []

nonempty : (x : OpeningCall) (xs : List OpeningCall) → x ∷ xs ≢ []
nonempty x xs is = grind (arith, nat_tests)

-- if the first call fails, the calls stop within the list
pub stops_at : (x : OpeningCall) (xs : List OpeningCall) (a b : Calls) → b ≡ a → StopsWithin (x ∷ xs) a b
stops_at x xs a b same = ([], x ∷ xs, refl, nonempty x xs, subst (λ (c : Calls). Adds a c []) (sym same) (adds_none a))

pub stops_on : (x : OpeningCall) (xs : List OpeningCall) (a b c : Calls) → Adds a b (x ∷ []) → StopsWithin xs b c → StopsWithin (x ∷ xs) a c
stops_on x xs a b c first stops =
    (x ∷ stops.0, stops.1, ap (λ (l : List OpeningCall). x ∷ l) stops.2, stops.3, adds_more a b c (x ∷ []) stops.0 first stops.4)

pub last_stops : {T E : Type 0} (r : Result T E) (path : List ℕ) (n : ℕ) (a b c d e : Calls) → Adds a b (resized 0 ∷ []) →
    Adds b c (resized n ∷ []) → Adds c d (synced ∷ []) → OnErr r (e ≡ d) → OnErr r (StopsWithin (zero_calls path n) a e)
last_stops (Ok x) path n a b c d e emptied extended kept same = tt
last_stops (Err x) path n a b c d e emptied extended kept same =
    stops_on (resized 0) (resized n ∷ synced ∷ listed path ∷ []) a b e emptied
    (stops_on (resized n) (synced ∷ listed path ∷ []) b c e extended (stops_on synced (listed path ∷ []) c d e kept
    (stops_at (listed path) [] d e same)))

pub fails_later : (path : List ℕ) (n : ℕ) (a b c : Calls) → TakesLock Exclusive a b → StopsWithin (zero_calls path n) b c →
    FailsToMake path n a c
fails_later path n a b c took stops = (took.0, took.1, stops_on (locked Exclusive took.0) (zero_calls path n) a b c took.2 stops)

-- a fault that is passed on is unchanged
pub same_fault : {T : Type 0} (r : Result T FileFault) (y e f : FileFault) → r ≡ Err y → y ≡ e → r ≡ Err f → e ≡ f
same_fault r y e f is from given = cc

pub not_held : {T : Type 0} (r : Result T FileFault) (y : FileFault) → r ≡ Err y → y ≡ fault.Io → r ≡ Err fault.Held → ⊥
not_held r y is io held = cc

pub not_given : {T : Type 0} (r : Result T FileFault) (f : FileFault) → IfErr r (λ e. e ≢ f) → r ≡ Err f → ⊥
not_given r f none is = grind (arith, nat_tests)
