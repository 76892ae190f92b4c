-- Why a damaged image is refused.
use Rattle.damage_laws.proofs.Names.{ℕ, Bool, true, ap, subst, sym, inl, inr, arith, cases_eq, cases_lt, Image, IsWhole, IsPair, IsRefused, Slots, NoPair}
use Rattle.damage_laws.proofs.Names.{CommitsIf, CommitsNoneIf, HasNoCounting, Encodes, HasBadDirectory, HasBadHeader, HasHeader, HasPlan, IsBadBy, IsTooSmall}
use Rattle.damage_laws.proofs.Names.{SavedState, directory_sector, total_in, HasMark, Plan, directory_length, BadImage, CheckpointHeader, SealedHeader}
use Rattle.damage_laws.proofs.Names.{header_sector, HasUnits, frames_not_bad, are_slots, one_slots, slots_in, same_directory, IsCounted, IsDamaged, IsGood}
use Rattle.damage_laws.proofs.Names.{IsInBlock, IsInDirectory, IsRead, IsReason, DamageIsRefused, GatesAreNotRead, RefusedEncodesNone, DamageShows, gate_sector}
use Rattle.damage_laws.proofs.Names.{refl, place_length, frame_sector, count_of, suc, zero, IsInBlockOf, DamageIsHarmlessOrRefused}
use Rattle.std.proofs.Common.{◌≡◌, ◌+◌, ◌-◌, ◌*◌, ◌/◌, ◌%◌, ◌<◌, ◌≤◌, ◌⊎◌, ◌∙◌}
use Rattle.layout.specs.declared.bad_image.BadImage.TheVariants as bad
use Rattle.layout.specs.sealed.Opening.{Commits as CommitsSealed}
use Rattle.damage_laws.proofs.Apart.{block_behind, directory_behind}
use Rattle.damage_laws.proofs.Breaks.{before_breaks, this_breaks, this_commits_none}
use Rattle.damage_laws.proofs.Damage.{is_harmless, SameEntries, blocks_same, commits_sealed, directory_same, plan_too}
use Rattle.damage_laws.proofs.Headers.{stays}
use Rattle.damage_laws.proofs.Rows.{Touches, far, same_or_not, sector_burst, sector_row, touched_or_same}
use Rattle.damage_laws.proofs.Superblocks.{marked_same}

-- ---- whether a sector is read

in_range_or_not : (i at n : ℕ) → ((j : ℕ) × (j < n) × (i ≡ at + j)) ⊎ ((j : ℕ) × (j < n) × (i ≡ at + j) → ⊥)
in_range_or_not i at n =
    elim (cases_lt i at) [
      | inl below ↦ inr (λ is. omega (arith, is.2, below))
      | inr above ↦
          elim (cases_lt i (at + n)) [
            | inl inside ↦ inl (i - at, omega (arith, above, inside), omega (arith, above))
            | inr past ↦ inr (λ is. omega (arith, is.2, is.1, past))
          ]
    ]

in_directory_or_not : (s : SavedState) (i : ℕ) → IsInDirectory s i ⊎ (IsInDirectory s i → ⊥)
in_directory_or_not s i =
    in_range_or_not i (directory_sector s.plan s.header.generation) (directory_length s.plan.version s.header.entries)

-- a sector of the block of one of the first n objects
abbrev IsInOne : SavedState → ℕ → ℕ → Type 0
IsInOne s n i = (object : ℕ) × (object < n) × IsInBlockOf s object i

in_one_or_not : (s : SavedState) (n i : ℕ) → IsInOne s n i ⊎ (IsInOne s n i → ⊥)
in_one_or_not s zero i = inr (λ is. let lt : is.0 < 0 = is.1 in omega (arith, lt))
in_one_or_not s (suc n) i =
    elim (in_range_or_not i (frame_sector s.plan s.header.generation s.directory n) (place_length s.plan n)) [
      | inl here ↦ inl (n, omega arith, here)
      | inr not_here ↦
          elim (in_one_or_not s n i) [
            | inl found ↦ inl (found.0, omega (arith, found.1), found.2)
            | inr none ↦ inr (λ is.
                elim (cases_eq is.0 n) [
                  | inl e ↦ not_here (subst (λ (object : ℕ). IsInBlockOf s object i) e is.2)
                  | inr other ↦ let lt : is.0 < suc n = is.1 in none (is.0, omega (arith, lt, other), is.2)
                ])
          ]
    ]

either : {P Q : Type 0} → P ⊎ (P → ⊥) → Q ⊎ (Q → ⊥) → (P ⊎ Q) ⊎ (P ⊎ Q → ⊥)
either (inl p) q = inl (inl p)
either (inr p) (inl q) = inl (inr q)
either (inr p) (inr q) = inr (λ is. elim is [
  | inl first ↦ p first
  | inr second ↦ q second
])

read_or_not : (s : SavedState) (i : ℕ) → IsRead s i ⊎ (IsRead s i → ⊥)
read_or_not s i =
    either (cases_eq i 0) (
    either (either (cases_eq i (header_sector (s.header.sequence % 3))) (cases_eq i (header_sector ((s.header.sequence + 2) % 3)))) (
    either (in_directory_or_not s i) (in_one_or_not s (count_of s.plan) i)))

-- ---- refusals

module _ (bit size : ℕ) (old new : Image) (s : SavedState) (good : IsGood old size s) (device : IsWhole size new)
    (damaged : IsDamaged bit old new) where
  abbrev p : Plan
  p = s.plan

  abbrev was : Encodes old size s
  was = good.encodes

  abbrev h : SealedHeader
  h = was.commit

  -- a sector has changed
  abbrev Changed : ℕ → Type 0
  Changed i = new i ≡ old i → ⊥

  -- the burst reaches into a sector that has changed, and so not into those that aren't beside it
  touched : (i : ℕ) → Changed i → Touches bit i
  touched i changed = elim (touched_or_same bit size old new good.device device damaged i) [
    | inl here ↦ here
    | inr same ↦ absurd (changed same)
  ]

  away : (i k : ℕ) → Changed i → (k + 2 ≤ i) ⊎ (i + 2 ≤ k) → new k ≡ old k
  away i k changed apart = far bit size old new good.device device damaged i k (touched i changed) apart

  -- ---- the superblock

  not_marked : Changed 0 → HasMark (new 0) → ⊥
  not_marked changed mark =
      let least = was.plan.least in
      changed (sym (marked_same (bit - 4096 * 0) (old 0) (new 0) p (sector_row size old 0 good.device) (sector_row size new 0 device)
      (good.device.size 0 (omega (arith, least))) (sector_burst bit size old new good.device device damaged 0) was.plan.fits.few
      was.plan.spelt good.sealed mark))

  superblock_refused : Changed 0 → IsBadBy new size bad.Small ⊎ IsBadBy new size bad.NotASuperblock
  superblock_refused changed =
      elim (cases_lt size (total_in (new 0))) [
        | inl small ↦ inl (inr small)
        | inr large ↦
            let enough : IsTooSmall new size → ⊥ = λ is. elim is [
              | inl few ↦ let least = was.plan.least in omega (arith, few, least)
              | inr small ↦ omega (arith, small, large)
            ] in
            inr (enough, not_marked changed)
      ]

  -- ---- headers

  plan_stays : (i : ℕ) → 2 ≤ i → Changed i → HasPlan new size p
  plan_stays i behind changed = plan_too old new size p (away i 0 changed (inl (omega (arith, behind)))) was.plan

  no_header : IsRefused (slots_in new) NoPair → HasNoCounting p.version new
  no_header none = subst (λ (b : Bool). CommitsNoneIf b new) (sym good.sealed) (slots_in new, are_slots new, none)

  some_header : (t : ℕ) → IsPair (slots_in new) t → HasNoCounting p.version new → ⊥
  some_header t pair none =
      let it : CommitsNoneIf true new = subst (λ (b : Bool). CommitsNoneIf b new) good.sealed none in
      it.2 t (subst (λ (slots : Slots). IsPair slots t) (one_slots new (slots_in new) it.0 (are_slots new) it.1) pair)

  old_commits : CommitsSealed old h
  old_commits = commits_sealed old p h good.sealed was.header.committed

  before_refused : Changed (header_sector ((h.header.sequence + 2) % 3)) → IsBadBy new size bad.NoHeader
  before_refused changed =
      let none = before_breaks bit size old new good.device device damaged h old_commits changed in
      (p, plan_stays (header_sector ((h.header.sequence + 2) % 3)) (omega arith) changed, no_header none)

  this_refused : Changed (header_sector (h.header.sequence % 3)) → IsBadBy new size bad.NoHeader ⊎ IsBadBy new size bad.BadHeader
  this_refused changed =
      let plan = plan_stays (header_sector (h.header.sequence % 3)) (omega arith) changed in
      elim (this_breaks bit size old new good.device device damaged h old_commits changed) [
        | inl none ↦ inl (p, plan, no_header none)
        | inr pair ↦
            let bad_header : HasBadHeader new p = λ g is.
            this_commits_none bit size old new good.device device damaged h old_commits changed g
            (commits_sealed new p g good.sealed is.committed) in
            inr (p, plan, some_header _ pair, bad_header)
      ]

  -- ---- sectors behind the headers

  header_stays : (i : ℕ) → 56 ≤ i → Changed i → HasHeader new p h
  header_stays i behind changed =
      let at : (k : ℕ) → k < 3 → new (header_sector k) ≡ old (header_sector k) = λ k lt.
      away i (header_sector k) changed (inl (omega (arith, lt, behind))) in
      let is = stays bit size old new good.device device damaged h old_commits (at (h.header.sequence % 3) (omega arith))
      (at ((h.header.sequence + 2) % 3) (omega arith)) in
      record { committed = subst (λ (b : Bool). CommitsIf b new h) (sym good.sealed) is; fits = was.header.fits }

  -- a sector of the directory
  directory_refused : (i : ℕ) → IsInDirectory s i → Changed i → IsBadBy new size bad.BadDirectory
  directory_refused i here changed =
      let behind : 56 ≤ i =
      omega (arith, here.2, directory_behind p s.header.generation s.directory was.plan.fits was.directory.fits good.sealed) in
      let none : HasBadDirectory new p h = λ ds is.
      let same = directory_same bit size old new s good device damaged ds is in
      let there = subst (SameEntries p old new) was.same same in
      changed (subst (λ (k : ℕ). new k ≡ old k) (sym here.2) (there here.0 here.1)) in
      (p, h, plan_stays i (omega (arith, behind)) changed, header_stays i behind changed, none)

  -- the burst reaches into two sectors at most
  abbrev first : ℕ
  first = bit / 4096

  abbrev last : ℕ
  last = (bit + 63) / 4096

  one_of_two : (i : ℕ) → Touches bit i → (i ≡ first) ⊎ (i ≡ last)
  one_of_two i here = elim (cases_eq i first) [
    | inl e ↦ inl e
    | inr other ↦ inr (omega (arith, here.0, here.1, other))
  ]

  -- a sector of some kind has changed, or none
  changed_or_none : (P : ℕ → Type 0) → ((i : ℕ) → P i ⊎ (P i → ⊥)) →
      ((i : ℕ) × P i × Changed i) ⊎ ((i : ℕ) → P i → new i ≡ old i)
  changed_or_none P decide =
      let here : (i : ℕ) → (P i × Changed i) ⊎ (P i → new i ≡ old i) = λ i.
      elim (same_or_not (new i) (old i)) [
        | inl same ↦ inr (λ is. same)
        | inr changed ↦
            elim (decide i) [
              | inl is ↦ inl (is, changed)
              | inr none ↦ inr (λ is. absurd (none is))
            ]
      ] in
      elim (here first) [
        | inl found ↦ inl (first, found.0, found.1)
        | inr not_first ↦
            elim (here last) [
              | inl found ↦ inl (last, found.0, found.1)
              | inr not_last ↦ inr (λ i is.
                  elim (touched_or_same bit size old new good.device device damaged i) [
                    | inr same ↦ same
                    | inl touches ↦
                        elim (one_of_two i touches) [
                          | inl e ↦ subst (λ (k : ℕ). new k ≡ old k) (sym e) (not_first (subst P e is))
                          | inr e ↦ subst (λ (k : ℕ). new k ≡ old k) (sym e) (not_last (subst P e is))
                        ]
                  ])
            ]
      ]

  module _ (i : ℕ) (here : IsInBlock s i) (changed : Changed i) where
    in_block : 56 ≤ i
    in_block =
        let behind = block_behind p s.header.generation s.directory was.plan.fits was.directory.fits good.sealed here.0 here.1 in
        omega (arith, here.2.2, behind)

    no_units : HasUnits new p h.root h.header.generation s.directory → ⊥
    no_units units =
        let at_s = subst (λ (g : CheckpointHeader). HasUnits new p h.root g.generation s.directory) was.same units in
        let same = blocks_same bit size old new s good device damaged h.root at_s in
        changed (subst (λ (k : ℕ). new k ≡ old k) (sym here.2.2) (same here.0 here.1 here.2.0 here.2.1))

    block_refused : SameEntries p old new s.header → IsBadBy new size bad.BadFrame
    block_refused same = (
      p,
      h,
      s.directory,
      plan_stays i (omega (arith, in_block)) changed,
      header_stays i in_block changed,
      same_directory old new p h s.directory (subst (SameEntries p old new) (sym was.same) same) was.directory,
      inr (good.sealed, no_units),
    )

  -- ---- all sectors that are read

  abbrev shown : (i : ℕ) → Changed i → (why : BadImage) → IsReason s i why → IsBadBy new size why → DamageShows size s old new
  shown i changed why reason is = record { sector = i; changed = changed; why = why; reason = reason; bad = is }

  sequence_is : h.header.sequence ≡ s.header.sequence
  sequence_is = ap (λ (g : CheckpointHeader). g.sequence) was.same

  counted_refused : (i : ℕ) → IsCounted s i → Changed i → DamageShows size s old new
  counted_refused i (inl here) changed =
      let there : i ≡ header_sector (h.header.sequence % 3) = here ∙ ap (λ (n : ℕ). header_sector (n % 3)) (sym sequence_is) in
      elim (this_refused (subst Changed there changed)) [
        | inl none ↦ shown i changed bad.NoHeader (inl here) none
        | inr none ↦ shown i changed bad.BadHeader here none
      ]
  counted_refused i (inr here) changed =
      let there : i ≡ header_sector ((h.header.sequence + 2) % 3) = here ∙ ap (λ (n : ℕ). header_sector ((n + 2) % 3)) (sym sequence_is) in
      shown i changed bad.NoHeader (inr here) (before_refused (subst Changed there changed))

  pub refused : (i : ℕ) → IsRead s i → Changed i → DamageShows size s old new
  refused i (inl here) changed =
      elim (superblock_refused (subst Changed here changed)) [
        | inl small ↦ shown i changed bad.Small here small
        | inr none ↦ shown i changed bad.NotASuperblock here none
      ]
  refused i (inr (inl here)) changed = counted_refused i here changed
  refused i (inr (inr (inl here))) changed = shown i changed bad.BadDirectory here (directory_refused i here changed)
  refused i (inr (inr (inr here))) changed =
      elim (changed_or_none (IsInDirectory s) (in_directory_or_not s)) [
        | inl entries ↦ shown entries.0 entries.2 bad.BadDirectory entries.1 (directory_refused entries.0 entries.1 entries.2)
        | inr same ↦ shown i changed bad.BadFrame here (block_refused i here changed (λ j lt.
            same (directory_sector p s.header.generation + j) (j, lt, refl)))
      ]

  pub same_or_refused : Encodes new size s ⊎ DamageShows size s old new
  same_or_refused =
      elim (changed_or_none (IsRead s) (read_or_not s)) [
        | inl found ↦ inr (refused found.0 found.1 found.2)
        | inr same ↦ inl (is_harmless bit size old new s good device damaged same)
      ]

pub is_refused : DamageIsRefused
is_refused bit size sector old new s good device damaged read changed = refused bit size old new s good device damaged sector read changed

pub either_way : DamageIsHarmlessOrRefused
either_way bit size old new s good device damaged = same_or_refused bit size old new s good device damaged

pub encodes_none : RefusedEncodesNone
encodes_none size old new s t shows after = frames_not_bad new size t after shows.why shows.bad

-- ---- sectors that aren't read

module _ (size : ℕ) (image : Image) (s : SavedState) (good : IsGood image size s) where
  -- a sector before the homes that isn't the superblock or one of two headers
  low_unread : (i : ℕ) → 0 < i → i < 56 → (IsCounted s i → ⊥) → IsRead s i → ⊥
  low_unread i some low other (inl here) = omega (arith, here, some)
  low_unread i some low other (inr (inl here)) = other here
  low_unread i some low other (inr (inr (inl here))) =
      let behind = directory_behind s.plan s.header.generation s.directory good.encodes.plan.fits good.encodes.directory.fits good.sealed in
      omega (arith, here.2, behind, low)
  low_unread i some low other (inr (inr (inr here))) =
      let behind = block_behind s.plan s.header.generation s.directory good.encodes.plan.fits good.encodes.directory.fits good.sealed here.0
      here.1 in
      omega (arith, here.2.2, behind, low)

pub gates_not_read : GatesAreNotRead
gates_not_read size k image s good lt = (
  low_unread size image s good (gate_sector k) (omega arith) (omega (arith, lt)) (λ here. elim here [
    | inl this ↦ omega (arith, this)
    | inr before ↦ omega (arith, before)
  ]),
  low_unread size image s good (header_sector ((s.header.sequence + 1) % 3)) (omega arith) (omega arith) (λ here. elim here [
    | inl this ↦ omega (arith, this)
    | inr before ↦ omega (arith, before)
  ]),
)
