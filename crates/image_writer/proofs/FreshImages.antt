-- A fresh image denotes its saved state once its gates are open.
use Rattle.image_writer.proofs.Names.{ℕ, Bool, List, [], length, true, false, Some, Result, inl, inr, refl, ap, sym, subst, arith, OnOk, Frame, Geometry}
use Rattle.image_writer.proofs.Names.{AreKeepable, Disk, Image, LeavesOnly, leaves_on, leaves_weaker, Agrees, Elsewhere, agrees_is, Entry, entry_at}
use Rattle.image_writer.proofs.Names.{CheckpointHeader, IsDirectory, IsHeader, Encodes, Plan, IsPlan, Version, row, half_within, Holds, SavedFrames, kept_of}
use Rattle.image_writer.proofs.Names.{home_place, place_length, slot_sector, same_sectors, places_begin, header_bytes, is_open, committed_of, does_count}
use Rattle.image_writer.proofs.Names.{sequence_in, sequences_reported, Ends, AreOpenBy, EndInZeros, GatesAreClosed, HasNoHeader, HasNoneBy, HaveHeaders}
use Rattle.image_writer.proofs.Names.{IsBeforeOrNone, IsLeftWriting, IsWritten, SparesBy, first_header, header_before, state_of, ⊎_elim, cases_Bool, CommitsIf}
use Rattle.image_writer.proofs.Names.{CommitsUnsealed, SealedHeader, One, Two, Three, one_plan, half_has, numbered_gate_bytes, header_numbers}
use Rattle.image_writer.proofs.Names.{sealed_header_bytes, AreWords, IsReady, plain_first, plain_sequence, sealed_is, encoded, words_of}
use Rattle.std.proofs.Common.{◌≡◌, ◌⊎◌, ◌^◌, ◌≤◌, ◌+◌, ◌%◌, ◌∙◌}
use Rattle.std.specs.Prelude.{◌==◌, ◌&&◌}
use Rattle.layout.specs.Committed.{Commits}
use Rattle.ckpt_log.proofs.Closings.{none_committed as none_plain}
use Rattle.image_writer.proofs.OldImages.{KeptBehind, ready_kept}
use Rattle.image_writer.proofs.SealedPair.{either, written}
use Rattle.image_writer.proofs.SlotFrames.{slot_behind}

-- an image of a valid superblock has room for the header slots of each version
pub enough : (p : Plan) → IsPlan p → 56 ≤ p.total
enough p fits =
    let within = half_within p 0 fits in
    let slots = half_has p.version p.geometry in
    omega (arith, within.0, within.1, slots, fits.geometry.least_log)

-- ---- versions without seals: one gate

-- if the first header counts, and the second doesn't, the first is committed
first_alone : (first second : Bool) (m n : ℕ) → first ≡ true → second ≡ false → committed_of first m second n ≡ Some 0
first_alone first second m n is isnt = rw (is, isnt) refl

module _ (p : Plan) (h : SealedHeader) (es : List Entry) (frames : List Frame) (old c : Image) (is : IsWritten p h es frames old)
    (plain : (row p.version).sealed ≡ false) (first : h.header.sequence ≡ 0) (change : SparesBy false old c) where
  plain_header : c 1 ≡ header_bytes h.header
  plain_header =
      change 1 (λ e. omega (arith, e))
      ∙ subst (λ (b : Bool). HaveHeaders b h old) plain is.headers

  second_closed : is_open (c 4) ≡ false
  second_closed =
      ap is_open (change 4 (λ e. omega (arith, e))) ∙ gate_at p.version old plain is.shut.gates where
        gate_at : (v : Version) (i : Image) → (row v).sealed ≡ false → GatesAreClosed v i → is_open (i 4) ≡ false
        gate_at One i e closed = closed 1 (omega arith)
        gate_at Two i e closed = closed 1 (omega arith)
        gate_at Three i e closed = absurd (cc e)

  plain_commits : is_open (c 2) ≡ true → CommitsUnsealed c h
  plain_commits gate =
      let counts : does_count (c 1) (c 2) 0 ≡ true = search (arith, plain_header, sequences_reported) in
      let other : does_count (c 3) (c 4) 1 ≡ false =
      ap (λ (open' : Bool). open' && (sequence_in (c 3) % 2 == 1)) second_closed in
      record {
        spelt = search (arith, first_alone, counts, other, plain_header);
        sums = is.fits.plain plain;
        fits = is.fits.words;
      }

  plain_none : is_open (c 2) ≡ false → HasNoneBy false c
  plain_none gate = none_plain c (record { first = gate; second = second_closed })

  plain_behind : KeptBehind p.version old c
  plain_behind =
      let start = plain_first p.version plain in
      record {
        superblock = change 0 (λ e. omega (arith, e));
        behind = λ i low. change i (λ e. omega (arith, e, low, start));
      }

-- ---- versions with seals: two gates

module _ (p : Plan) (h : SealedHeader) (es : List Entry) (frames : List Frame) (old c : Image) (is : IsWritten p h es frames old)
    (sealed : (row p.version).sealed ≡ true) (number : h.header.sequence ≡ 2) (change : SparesBy true old c) where
  both_headers : HaveHeaders true h old
  both_headers = subst (λ (b : Bool). HaveHeaders b h old) sealed is.headers

  words_before : AreWords (header_numbers (header_before h))
  words_before =
      let w = is.fits.words in
      words_of (header_before h) (omega arith) (w 2 0 (omega arith)) (w 3 0 (omega arith)) (w 4 0 (omega arith)) (w 5 0 (omega arith))
      (w 6 0 (omega arith)) (w 7 0 (omega arith)) (w 8 0 (omega arith)) (w 9 0 (omega arith)) (w 10 0 (omega arith))

  first_there : c 24 ≡ sealed_header_bytes (header_before h)
  first_there = change 24 (λ e. omega (arith, e)) (λ e. omega (arith, e)) ∙ both_headers.0

  second_there : c 40 ≡ sealed_header_bytes h
  second_there = change 40 (λ e. omega (arith, e)) (λ e. omega (arith, e)) ∙ both_headers.1

  gate_closed : c 16 ≡ numbered_gate_bytes 0
  gate_closed =
      change 16 (λ e. omega (arith, e)) (λ e. omega (arith, e)) ∙ gate_at p.version old sealed is.shut.gates where
        gate_at : (v : Version) (i : Image) → (row v).sealed ≡ true → GatesAreClosed v i → i 16 ≡ numbered_gate_bytes 0
        gate_at One i e closed = absurd (cc e)
        gate_at Two i e closed = absurd (cc e)
        gate_at Three i e closed = closed 0 (omega arith)

  sealed_either : CommitsIf true c h ⊎ HasNoneBy true c
  sealed_either = either c h is.fits.words words_before number first_there second_there gate_closed

  sealed_commits : AreOpenBy true c → CommitsIf true c h
  sealed_commits opened = written c h is.fits.words words_before number first_there second_there gate_closed opened.0 opened.1

  sealed_behind : KeptBehind p.version old c
  sealed_behind =
      let start = ap (λ (v : Version). (row v).first_home) (sealed_is p.version sealed) in
      record {
        superblock = change 0 (λ e. omega (arith, e)) (λ e. omega (arith, e));
        behind = λ i low. change i (λ e. omega (arith, e, low, start)) (λ e. omega (arith, e, low, start));
      }

-- ---- all versions

module _ (p : Plan) (h : SealedHeader) (es : List Entry) (frames : List Frame) (old c : Image) (is : IsWritten p h es frames old)
    (first : h.header.sequence ≡ (row p.version).first_sequence) where
  commits_by : (b : Bool) → (row p.version).sealed ≡ b → SparesBy b old c → CommitsIf b c h ⊎ HasNoneBy b c
  commits_by true sealed change =
      let number = first ∙ ap (λ (v : Version). (row v).first_sequence) (sealed_is p.version sealed) in
      sealed_either p h es frames old c is sealed number change
  commits_by false plain change =
      elim (cases_Bool (is_open (c 2))) [
        | inl gate ↦ inl (plain_commits p h es frames old c is plain (first ∙ plain_sequence p.version plain) change gate)
        | inr gate ↦ inr (plain_none p h es frames old c is plain (first ∙ plain_sequence p.version plain) change gate)
      ]

  opened_by : (b : Bool) → (row p.version).sealed ≡ b → SparesBy b old c → AreOpenBy b c → CommitsIf b c h
  opened_by true sealed change opened =
      let number = first ∙ ap (λ (v : Version). (row v).first_sequence) (sealed_is p.version sealed) in
      sealed_commits p h es frames old c is sealed number change opened
  opened_by false plain change opened =
      plain_commits p h es frames old c is plain (first ∙ plain_sequence p.version plain) change opened

  behind_by : (b : Bool) → (row p.version).sealed ≡ b → SparesBy b old c → KeptBehind p.version old c
  behind_by true sealed change =
      let number = first ∙ ap (λ (v : Version). (row v).first_sequence) (sealed_is p.version sealed) in
      sealed_behind p h es frames old c is sealed number change
  behind_by false plain change = plain_behind p h es frames old c is plain (first ∙ plain_sequence p.version plain) change

  module _ (change : SparesBy (row p.version).sealed old c) where
    pub behind : KeptBehind p.version old c
    behind = behind_by (row p.version).sealed refl change

    named_here : HasNoneBy (row p.version).sealed c → HasNoHeader c
    named_here none q fits spelt =
        let same : q ≡ p = one_plan q p fits is.plan (sym spelt ∙ behind.superblock ∙ is.shut.superblock) in
        subst (λ (r : Plan). HasNoneBy (row r.version).sealed c) (sym same) none

    module _ (size : ℕ) (header : IsHeader (row p.version).first_sequence p.geometry.log h.header) (directory : IsDirectory p.geometry es)
        (count : length es ≡ h.header.entries) (whole : p.total ≤ size) (keepable : AreKeepable p.geometry h.header.age frames) where
      ready : IsReady old size (state_of p h.header es frames) h
      ready =
          let least = enough p is.plan in
          record {
            same = refl;
            plan = record { least = omega (arith, least, whole); whole = whole; fits = is.plan; spelt = is.shut.superblock };
            header = header;
            directory = record { count = count; fits = directory; spelt = is.parts.directory; sums = is.parts.sums };
            count = keepable.count;
            each = λ a lt. (keepable.each a lt, is.parts.placed a lt);
            units = is.parts.units;
          }

      denotes_if : Commits p.version c h → Encodes c size (state_of p h.header es frames)
      denotes_if commits = encoded (ready_kept old c size (state_of p h.header es frames) h behind ready) commits

      -- after the gates are opened, the image denotes the state
      pub denotes : AreOpenBy (row p.version).sealed c → Encodes c size (state_of p h.header es frames)
      denotes opened = denotes_if (opened_by (row p.version).sealed refl change opened)

      -- while the gates are being opened, it denotes the state, or no header is committed
      pub opening : HasNoHeader c ⊎ Holds size c (kept_of (state_of p h.header es frames))
      opening =
          ⊎_elim (λ commits. inr (state_of p h.header es frames, denotes_if commits, refl)) (λ none. inl (named_here none))
          (commits_by (row p.version).sealed refl change)

-- opening the gates keeps the zeros of all clusters
pub still_zeros : (p : Plan) (generation : ℕ) (es : List Entry) (old new : Image) → IsPlan p → KeptBehind p.version old new →
    EndInZeros p generation es old → EndInZeros p generation es new
still_zeros p generation es old new fits kept zeros = record {
  home = λ a lt.
      let begins = places_begin p a fits lt in
      subst (Ends p a) (sym (same_sectors (home_place p a) (place_length p a) old new
      (λ i inside. kept.behind (home_place p a + i) (omega (arith, begins)))))
      (zeros.home a lt);
  slots = λ j lt.
      let at = slot_sector p generation (entry_at es j).slot in
      let n : ℕ = (entry_at es j).object in
      let begins = slot_behind p generation (entry_at es j).slot fits in
      subst (Ends p n) (sym (same_sectors at (place_length p n) old new (λ i inside. kept.behind (at + i) (omega (arith, begins)))))
      (zeros.slots j lt);
}

-- all parts of an image with this header are written; the header that will be committed has its sums
abbrev pub IsWrittenFor : Plan → CheckpointHeader → List Entry → List Frame → Image → Type 0
IsWrittenFor p header es frames image = (h : SealedHeader) × (h.header ≡ header) × IsWritten p h es frames image

module _ (p : Plan) (header : CheckpointHeader) (es : List Entry) (frames : List Frame) (old : Image)
    (is : IsWrittenFor p header es frames old) (first : header.sequence ≡ (row p.version).first_sequence) (size : ℕ)
    (limits : IsHeader (row p.version).first_sequence p.geometry.log header) (directory : IsDirectory p.geometry es)
    (count : length es ≡ header.entries) (whole : p.total ≤ size) (keepable : AreKeepable p.geometry header.age frames) (c : Image)
    (change : SparesBy (row p.version).sealed old c) where
  abbrev h : SealedHeader
  h = is.0

  number : h.header.sequence ≡ (row p.version).first_sequence
  number = ap (λ (x : CheckpointHeader). x.sequence) is.1 ∙ first

  fits : IsHeader (row p.version).first_sequence p.geometry.log h.header
  fits = subst (λ (x : CheckpointHeader). IsHeader (row p.version).first_sequence p.geometry.log x) (sym is.1) limits

  entries : length es ≡ h.header.entries
  entries = count ∙ ap (λ (x : CheckpointHeader). x.entries) (sym is.1)

  kept : AreKeepable p.geometry h.header.age frames
  kept = subst (λ (x : CheckpointHeader). AreKeepable p.geometry x.age frames) (sym is.1) keepable

  pub denotes_for : AreOpenBy (row p.version).sealed c → Encodes c size (state_of p header es frames)
  denotes_for opened =
      subst (λ (x : CheckpointHeader). Encodes c size (state_of p x es frames)) is.1
      (denotes p h es frames old c is.2 number change size fits directory entries whole kept opened)

  pub opening_for : HasNoHeader c ⊎ Holds size c (kept_of (state_of p header es frames))
  opening_for =
      subst (λ (x : CheckpointHeader). HasNoHeader c ⊎ Holds size c (kept_of (state_of p x es frames))) is.1
      (opening p h es frames old c is.2 number change size fits directory entries whole kept)

  pub zeros_for : EndInZeros p header.generation es c
  zeros_for =
      subst (λ (x : CheckpointHeader). EndInZeros p x.generation es c) is.1
      (still_zeros p h.header.generation es old c is.2.plan (behind p h es frames old c is.2 number change) is.2.parts.zeros)

-- ---- runs

-- before the gates are opened, a crash leaves the old image or no committed header
pub not_yet : (old mid : Disk) (saved : SavedFrames) → LeavesOnly old mid (λ c. IsBeforeOrNone old c) →
    LeavesOnly old mid (λ c. IsLeftWriting old saved c)
not_yet old mid saved run =
    leaves_weaker {old = old} {new = mid} {P = λ c. IsBeforeOrNone old c} (λ c. IsLeftWriting old saved c)
    (λ c is. ⊎_elim (λ was. inl was) (λ none. inr (inl none)) is) run

-- while the gates are being opened, a crash leaves the new image or no committed header
pub opening_run : (p : Plan) (header : CheckpointHeader) (es : List Entry) (frames : List Frame) (old mid new : Disk) →
    IsWrittenFor p header es frames mid.seen → header.sequence ≡ (row p.version).first_sequence →
    IsHeader (row p.version).first_sequence p.geometry.log header → IsDirectory p.geometry es → length es ≡ header.entries
    → p.total ≤ old.sectors → AreKeepable p.geometry header.age frames
    → LeavesOnly old mid (λ c. IsBeforeOrNone old c) → LeavesOnly mid new (λ c. SparesBy (row p.version).sealed mid.seen c) →
    LeavesOnly old new (λ c. IsLeftWriting old (kept_of (state_of p header es frames)) c)
opening_run p header es frames old mid new is number limits directory count whole keepable first second =
    leaves_on {old = old} {mid = mid} {new = new} {P = λ c. IsLeftWriting old (kept_of (state_of p header es frames)) c}
    (not_yet old mid (kept_of (state_of p header es frames)) first)
    (leaves_weaker {old = mid} {new = new} {P = λ c. SparesBy (row p.version).sealed mid.seen c}
    (λ c. IsLeftWriting old (kept_of (state_of p header es frames)) c)
    (λ c change. inr (opening_for p header es frames mid.seen is number old.sectors limits directory count whole keepable c change)) second)

-- ---- a fresh image has no entries

pub no_directory : (g : Geometry) → IsDirectory g []
no_directory g = search arith

-- the first header is within the limits
pub header_fits : (v : Version) (room age : ℕ) → age ≤ 2 ^ 62 → IsHeader (row v).first_sequence room (first_header v age)
header_fits v room age most = record {
  entries = omega arith;
  age = most;
  generation = omega arith;
  sequence = omega arith;
  entries_fit = omega arith;
}

-- ---- what holds if a call succeeds

-- if a read gives an image with P, and each crash leaves what a read gives, each crash leaves an image with P
pub durable_is : {T E : Type 0} (result : Result T E) (left P : Image → Type 0) (seen : Image) → OnOk result (P seen) →
    OnOk result ((c : Image) → left c → Agrees c seen) → OnOk result ((c : Image) → left c → P c)
durable_is {T} {E} result left P seen is only = search (arith, agrees_is)

-- ---- sectors of the image

-- a change of sectors within the total is a change within the image
pub widened : (total at n : ℕ) (old new : Image) → at + n ≤ total → Elsewhere at n old new → Elsewhere 0 total old new
widened total at n old new inside change = record {
  before = λ i lt. absurd (omega (arith, lt));
  after = λ i le. change.after i (omega (arith, le, inside));
}

gates_by : (b : Bool) (total : ℕ) (old new : Image) → 56 ≤ total → SparesBy b old new → Elsewhere 0 total old new
gates_by false total old new least spares = record {
  before = λ i lt. absurd (omega (arith, lt));
  after = λ i le. spares i (λ e. omega (arith, e, le, least));
}
gates_by true total old new least spares = record {
  before = λ i lt. absurd (omega (arith, lt));
  after = λ i le. spares i (λ e. omega (arith, e, le, least)) (λ e. omega (arith, e, le, least));
}

pub gates_within : (p : Plan) (old new : Image) → IsPlan p → SparesBy (row p.version).sealed old new → Elsewhere 0 p.total old new
gates_within p old new fits spares = gates_by (row p.version).sealed p.total old new (enough p fits) spares
