-- The committed header and its directory, as they are read in each version, or why there is none.
use Rattle.std.proofs.Common.{◌≡◌, ℕ, ◌+◌, ◌-◌, ◌%◌, ◌<◌, ◌≤◌, ◌∙◌, ◌++◌, List, Bool, true, false, None, Some, length, take, ap, refl, subst, sym, inl, inr, arith}
use Rattle.std.proofs.Common.{[], ◌∷◌, ◌^◌}
use Rattle.std.specs.Prelude.{◌==◌}
use Rattle.std.proofs.Math.Seq.{take-append_seam}
use Rattle.std.proofs.lemmas.List.Elements.{All-cons, All-nil}
use Rattle.layout.proofs.Headers.{one_more}
use Rattle.device.specs.Disk.{Image}
use Rattle.header_slots.specs.Committed.{IsPair, IsRefused}
use Rattle.header_slots.specs.Slots.{IsCommitted, IsGreatestPair, Slots}
use Rattle.header_slots.specs.declared.deciding.NotCommitted.TheVariants.{NextGate}
use Rattle.header_slots.proofs.Counting.{below_greatest}
use Rattle.layout.specs.Committed.{CommitsIf, CommitsNoneIf, CommitsUnsealed, HasNoSums, no_sums}
use Rattle.layout.specs.Denoted.{AreEntriesIf, HasBadHeader, HasBadDirectory, HasDirectory, HasHeader, HasNoHeader, sums_if}
use Rattle.layout.specs.Directory.{IsDirectory, directory_bytes}
use Rattle.layout.specs.Header.{IsHeader}
use Rattle.layout.specs.Image.{directory_in, directory_sector}
use Rattle.layout.specs.Superblock.{Plan}
use Rattle.layout.specs.Version.{row}
use Rattle.layout.specs.declared.bad_image.BadImage.{BadImage}
use Rattle.layout.specs.declared.bad_image.BadImage.TheVariants as bad
use Rattle.layout.specs.declared.directory.Entry.{Entry}
use Rattle.layout.specs.declared.header.CheckpointHeader.{CheckpointHeader}
use Rattle.layout.specs.declared.open_fault.OpenFault.{OpenFault}
use Rattle.layout.specs.declared.open_fault.OpenFault.TheVariants as fault
use Rattle.layout.specs.declared.sealed.header.SealedHeader.{SealedHeader}
use Rattle.layout.specs.declared.version.Version.{Version}
use Rattle.layout.specs.sealed.Directory.{HasEntries}
use Rattle.layout.specs.sealed.Header.{header_numbers}
use Rattle.layout.specs.sealed.Opening.{AreSlots, Commits as CommitsSealed}
use Rattle.layout.specs.sealed.Sector.{AreWords}
use Rattle.layout.proofs.OneHeader.{none_committed}
use Rattle.layout.proofs.SealedSlots.{one_commits, one_slots}
use Rattle.ckpt_log.specs.AnyVersion.{HasCommitted, HasNoCommitted, HasNoDirectory, HasNone}
use Rattle.ckpt_log.specs.Log.{HasNoPlainHeader, HasPlainHeader}
use Rattle.ckpt_log.specs.Slot.{IsBadDirectory}
use Rattle.ckpt_log.specs.sealed.Committed as sealed
use Rattle.ckpt_log.specs.sealed.Directory.{IsBadDirectory as IsBadSealed}
use Rattle.ckpt_log.proofs.AnyVersions.{commits_from, commits_to, plain_from, plain_sequence, plain_to, sealed_is}

-- ---- version 3

module _ (image : Image) (p : Plan) (is : (row p.version).sealed ≡ true) where
  sealed_sequence : (row p.version).first_sequence ≡ 2
  sealed_sequence = ap (λ (v : Version). (row v).first_sequence) (sealed_is p.version is)

  pub sealed_header : (h : SealedHeader) → sealed.HasHeader image p.geometry.log h → HasHeader image p h
  sealed_header h has = record {
    committed = commits_from p.version is image h has.committed;
    fits = subst (λ (first : ℕ). IsHeader first p.geometry.log h.header) (sym sealed_sequence) has.fits;
  }

  to_sealed : (h : SealedHeader) → HasHeader image p h → CommitsSealed image h
  to_sealed h has = commits_to p.version is image h has.committed

  none_to : HasNoHeader image p → CommitsNoneIf true image
  none_to none = subst (λ (b : Bool). CommitsNoneIf b image) is none

  -- the gate of the next header has its number
  module _ (slots : Slots) (are : AreSlots image slots) (s : ℕ) (greatest : IsGreatestPair slots s)
      (gate : (slots ((s + 1) % 3)).gate ≡ Some (s + 1)) where
    pair_there : HasNoHeader image p → ⊥
    pair_there none =
        let there = none_to none in
        let found : IsPair slots s =
        record { positive = greatest.positive; counts = greatest.counts; neighbour = greatest.neighbour } in
        there.2 s (subst (λ (it : Slots). IsPair it s) (one_slots image slots there.0 are there.1) found)

    no_commit : (h : SealedHeader) → HasHeader image p h → ⊥
    no_commit h has =
        let commits = to_sealed h has in
        let committed : IsCommitted slots h.header.sequence =
        subst (λ (it : Slots). IsCommitted it h.header.sequence) (one_slots image commits.slots slots commits.are are)
        commits.opens.committed in
        let up =
        below_greatest slots s h.header.sequence committed.pair.positive committed.pair.counts committed.pair.neighbour greatest in
        let down = below_greatest slots h.header.sequence s greatest.positive greatest.counts greatest.neighbour committed.pair in
        let same : s ≡ h.header.sequence = omega (arith, up, down) in
        committed.next (subst (λ (n : ℕ). (slots ((n + 1) % 3)).gate ≡ Some (n + 1)) same gate)

  beyond : (h : SealedHeader) → CommitsSealed image h → (IsHeader 2 p.geometry.log h.header → ⊥) → (g : SealedHeader) →
      HasHeader image p g → ⊥
  beyond h commits not_fit g has =
      let same : g ≡ h = one_commits image g h (to_sealed g has) commits in
      not_fit (subst (λ (it : SealedHeader). IsHeader 2 p.geometry.log it.header) same
      (subst (λ (first : ℕ). IsHeader first p.geometry.log g.header) sealed_sequence has.fits))

  pub sealed_none : (e : OpenFault) → sealed.HasNone image p.geometry.log e → HasNoCommitted image p e
  sealed_none fault.Failed why = tt
  sealed_none fault.NoMemory why = absurd why
  sealed_none (fault.Bad bad.NoHeader) why = subst (λ (b : Bool). CommitsNoneIf b image) (sym is) why
  sealed_none (fault.Bad bad.BadHeader) (inl why) = (
    pair_there why.0 why.1 why.2.0 why.2.1 why.2.2,
    no_commit why.0 why.1 why.2.0 why.2.1 why.2.2,
  )
  sealed_none (fault.Bad bad.BadHeader) (inr why) = (
    λ none. none_committed p.version image why.0 none (commits_from p.version is image why.0 why.1),
    beyond why.0 why.1 why.2,
  )
  sealed_none (fault.Bad bad.Small) why = absurd why
  sealed_none (fault.Bad bad.NotASuperblock) why = absurd why
  sealed_none (fault.Bad bad.BadGeometry) why = absurd why
  sealed_none (fault.Bad bad.BadDirectory) why = absurd why
  sealed_none (fault.Bad bad.BadFrame) why = absurd why
  sealed_none (fault.Bad bad.BadCapability) why = absurd why
  sealed_none (fault.Bad bad.BadProcess) why = absurd why
  sealed_none (fault.Bad bad.BadBank) why = absurd why

  pub sealed_directory : (h : SealedHeader) (es : List Entry) → length es ≡ h.header.entries →
      HasEntries image (directory_sector p h.header.generation) p.geometry h.directory es → HasDirectory image p h es
  sealed_directory h es count has = record {
    count = count;
    fits = has.fits;
    spelt = subst (λ (b : Bool). AreEntriesIf b image p h.header.generation es) (sym is) has.sectors;
    sums = ap (λ (b : Bool). sums_if b es) is ∙ has.sums_are;
  }

  no_sealed_entries : (h : SealedHeader) (n : ℕ) → n ≡ h.header.entries → ((es : List Entry) → length es ≡ n →
      HasEntries image (directory_sector p h.header.generation) p.geometry h.directory es → ⊥) → HasBadDirectory image p h
  no_sealed_entries h n all none = λ es has. none es (has.count ∙ sym all) (record {
    fits = has.fits;
    sectors = subst (λ (b : Bool). AreEntriesIf b image p h.header.generation es) is has.spelt;
    sums_are = ap (λ (b : Bool). sums_if b es) (sym is) ∙ has.sums;
  })

  pub sealed_no_directory : (h : SealedHeader) (n : ℕ) (e : OpenFault) → n ≡ h.header.entries →
      IsBadSealed image (directory_sector p h.header.generation) p.geometry h.directory n e → HasNoDirectory image p h e
  sealed_no_directory h n fault.Failed all why = tt
  sealed_no_directory h n fault.NoMemory all why = absurd why
  sealed_no_directory h n (fault.Bad reason) all why = (why.0, no_sealed_entries h n all why.1)

-- ---- versions 1 and 2

-- a header without sums; its numbers fit 8 bytes each
abbrev pub plain : CheckpointHeader → SealedHeader
plain h = record { header = h; root = no_sums; directory = no_sums }

pub plain_words : {room : ℕ} (h : CheckpointHeader) → IsHeader 0 room h → AreWords (header_numbers (plain h))
plain_words h is =
    let Fits : ℕ → Type 0 = λ n. n < 2 ^ 64 in
    let none : 0 < 2 ^ 64 = omega arith in
    let more = one_more (h.entries == 0) in
    let sums : AreWords (0 ∷ 0 ∷ 0 ∷ 0 ∷ 0 ∷ 0 ∷ []) =
    All-cons Fits 0 (0 ∷ 0 ∷ 0 ∷ 0 ∷ 0 ∷ []) none (All-cons Fits 0 (0 ∷ 0 ∷ 0 ∷ 0 ∷ []) none (All-cons Fits 0 (0 ∷ 0 ∷ 0 ∷ []) none
    (All-cons Fits 0 (0 ∷ 0 ∷ []) none (All-cons Fits 0 (0 ∷ []) none (All-cons Fits 0 [] none (All-nil Fits)))))) in
    All-cons Fits 0x4441_4548_534f_5245 (h.sequence ∷ h.generation ∷ h.entries ∷ h.age ∷ 0 ∷ 0 ∷ 0 ∷ 0 ∷ 0 ∷ 0 ∷ []) (omega arith)
    (All-cons Fits h.sequence (h.generation ∷ h.entries ∷ h.age ∷ 0 ∷ 0 ∷ 0 ∷ 0 ∷ 0 ∷ 0 ∷ []) (omega (arith, is.sequence, is.age, more))
    (All-cons Fits h.generation (h.entries ∷ h.age ∷ 0 ∷ 0 ∷ 0 ∷ 0 ∷ 0 ∷ 0 ∷ []) (omega (arith, is.generation, is.age))
    (All-cons Fits h.entries (h.age ∷ 0 ∷ 0 ∷ 0 ∷ 0 ∷ 0 ∷ 0 ∷ []) is.entries_fit
    (All-cons Fits h.age (0 ∷ 0 ∷ 0 ∷ 0 ∷ 0 ∷ 0 ∷ []) (omega (arith, is.age)) sums))))

module _ (image : Image) (p : Plan) (is : (row p.version).sealed ≡ false) where
  pub plain_header : (h : SealedHeader) → HasNoSums h → AreWords (header_numbers h) → HasPlainHeader image p.geometry.log h.header →
      HasHeader image p h
  plain_header h sums fits has = record {
    committed = plain_from p.version is image h (record { spelt = has.spelt; sums = sums; fits = fits });
    fits = subst (λ (first : ℕ). IsHeader first p.geometry.log h.header) (sym (plain_sequence p.version is)) has.fits;
  }

  plain_none_to : HasNoHeader image p → CommitsNoneIf false image
  plain_none_to none = subst (λ (b : Bool). CommitsNoneIf b image) is none

  pub plain_sums : (h : SealedHeader) → HasHeader image p h → HasNoSums h
  plain_sums h has = (plain_to p.version is image h has.committed).sums

  pub plain_none : (e : OpenFault) → HasNoPlainHeader image p.geometry.log e → HasNoCommitted image p e
  plain_none fault.Failed why = tt
  plain_none fault.NoMemory why = absurd why
  plain_none (fault.Bad bad.NoHeader) why = subst (λ (b : Bool). CommitsNoneIf b image) (sym is) why
  plain_none (fault.Bad bad.BadHeader) why = (
    λ none. why.0 (plain_none_to none),
    λ h has. why.1 h.header (subst (λ (first : ℕ). IsHeader first p.geometry.log h.header) (plain_sequence p.version is) has.fits)
        (plain_to p.version is image h has.committed).spelt,
  )
  plain_none (fault.Bad bad.Small) why = absurd why
  plain_none (fault.Bad bad.NotASuperblock) why = absurd why
  plain_none (fault.Bad bad.BadGeometry) why = absurd why
  plain_none (fault.Bad bad.BadDirectory) why = absurd why
  plain_none (fault.Bad bad.BadFrame) why = absurd why
  plain_none (fault.Bad bad.BadCapability) why = absurd why
  plain_none (fault.Bad bad.BadProcess) why = absurd why
  plain_none (fault.Bad bad.BadBank) why = absurd why

  pub plain_directory : (h : SealedHeader) (es : List Entry) (n : ℕ) → HasHeader image p h → length es ≡ h.header.entries →
      n ≡ length es → IsDirectory p.geometry es → directory_in image p h.header.generation n ≡ directory_bytes es →
      HasDirectory image p h es
  plain_directory h es n has count all fits spelt = record {
    count = count;
    fits = fits;
    spelt = subst (λ (b : Bool). AreEntriesIf b image p h.header.generation es) (sym is)
        (subst (λ (k : ℕ). directory_in image p h.header.generation k ≡ directory_bytes es) all spelt);
    sums = ap (λ (b : Bool). sums_if b es) is ∙ sym (plain_sums h has).directory;
  }

  no_plain_entries : (h : SealedHeader) (n : ℕ) → n ≡ h.header.entries → ((es : List Entry) → IsDirectory p.geometry es →
      directory_in image p h.header.generation n ≡ directory_bytes es → ⊥) → HasBadDirectory image p h
  no_plain_entries h n all none = λ es has.
      none es has.fits
      (subst (λ (k : ℕ). directory_in image p h.header.generation k ≡ directory_bytes es) (has.count ∙ sym all)
      (subst (λ (b : Bool). AreEntriesIf b image p h.header.generation es) is has.spelt))

  pub plain_no_directory : (h : SealedHeader) (n : ℕ) (e : OpenFault) → n ≡ h.header.entries →
      IsBadDirectory p.geometry (directory_in image p h.header.generation n) e → HasNoDirectory image p h e
  plain_no_directory h n fault.Failed all why = tt
  plain_no_directory h n fault.NoMemory all why = absurd why
  plain_no_directory h n (fault.Bad reason) all why = (why.0, no_plain_entries h n all why.1)

-- ---- both together

-- an image without a committed header has none with a directory
pub none_of : (image : Image) (p : Plan) (e : OpenFault) → HasNoCommitted image p e → HasNone image p e
none_of image p fault.Failed why = tt
none_of image p fault.NoMemory why = absurd why
none_of image p (fault.Bad bad.NoHeader) why = why
none_of image p (fault.Bad bad.BadHeader) why = why
none_of image p (fault.Bad bad.Small) why = absurd why
none_of image p (fault.Bad bad.NotASuperblock) why = absurd why
none_of image p (fault.Bad bad.BadGeometry) why = absurd why
none_of image p (fault.Bad bad.BadDirectory) why = absurd why
none_of image p (fault.Bad bad.BadFrame) why = absurd why
none_of image p (fault.Bad bad.BadCapability) why = absurd why
none_of image p (fault.Bad bad.BadProcess) why = absurd why
none_of image p (fault.Bad bad.BadBank) why = absurd why

reason_is : (image : Image) (p : Plan) (h : SealedHeader) (reason : BadImage) → HasHeader image p h → reason ≡ bad.BadDirectory →
    HasBadDirectory image p h → HasNone image p (fault.Bad reason)
reason_is image p h reason has is why = subst (λ (r : BadImage). HasNone image p (fault.Bad r)) (sym is) (h, has, why)

pub none_named : (image : Image) (p : Plan) (h : SealedHeader) (e : OpenFault) → HasHeader image p h → HasNoDirectory image p h e →
    HasNone image p e
none_named image p h fault.Failed has why = tt
none_named image p h fault.NoMemory has why = absurd why
none_named image p h (fault.Bad reason) has why = reason_is image p h reason has why.0 why.1

pub has_committed : (image : Image) (p : Plan) (h : SealedHeader) (named rest : List Entry) → HasHeader image p h →
    HasDirectory image p h named → HasCommitted image p h (named ++ rest)
has_committed image p h named rest has directory = record {
  header = has;
  directory = subst (HasDirectory image p h)
      (sym (ap (λ (n : ℕ). take n (named ++ rest)) (sym directory.count) ∙ take-append_seam named rest)) directory;
}
