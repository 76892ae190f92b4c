-- Damage to headers and gates.
use Rattle.damage_laws.proofs.Names.{ℕ, List, Option, None, Some, refl, subst, sym, inl, inr, arith, cases_eq, cases_lt, Image, IsWhole, OthersStay, Counts}
use Rattle.damage_laws.proofs.Names.{IsCommitted, Opens, broken_seen, header_commits_nothing, SealedHeader, header_numbers, sealed_header_bytes, IsSound}
use Rattle.damage_laws.proofs.Names.{gate_sector, header_sector, bursts_keep, sound_or_not, are_slots, opens_in, same_gate, same_option, same_slot, slots_in}
use Rattle.damage_laws.proofs.Names.{sectors_show, SameNumbers, committed_too, DifferInBurst, IsRow, IsDamaged, Commits}
use Rattle.std.proofs.Common.{◌≡◌, ◌+◌, ◌-◌, ◌*◌, ◌%◌, ◌<◌, ◌≤◌, ◌⊎◌, ◌∙◌}
use Rattle.layout.proofs.SealedSlots.{same_header}
use Rattle.damage_laws.proofs.Rows.{Touches, far, same_at, same_or_not, sector_burst, sector_row, touched_or_same}

-- two sound headers that differ by a burst are equal
pub sound_shows : (bit : ℕ) (x y : List ℕ) (m n : ℕ) → IsSound x m → IsSound y n → IsRow x → IsRow y → DifferInBurst bit x y → x ≡ y
unfolding sealed_header_bytes
sound_shows bit x y m n is_x is_y rx ry burst =
    sectors_show bit x y (header_numbers is_x.0) (header_numbers is_y.0) rx ry burst is_x.2 is_y.2

pub none_of : (it : Option ℕ) → ((s : ℕ) → it ≡ Some s → ⊥) → it ≡ None
none_of None none = refl
none_of (Some s) none = absurd (none s refl)

module _ (bit size : ℕ) (old new : Image) (is_old : IsWhole size old) (is_new : IsWhole size new) (damaged : IsDamaged bit old new) where
  -- no damage changes the number of a gate
  gate_stays : (k : ℕ) → k < 3 → (slots_in new k).gate ≡ (slots_in old k).gate
  gate_stays k lt =
      let at : ℕ = gate_sector k in
      let unchanged : new at ≡ old at → (slots_in new k).gate ≡ (slots_in old k).gate =
      same_gate new old (slots_in new) (slots_in old) k (are_slots new) (are_slots old) in
      elim (same_or_not (new at) (old at)) [
        | inl same ↦ unchanged same
        | inr changed ↦
            elim (cases_lt at size) [
              | inl inside ↦
                  let keep = λ (n : ℕ). bursts_keep (bit - 4096 * at) (old at) (new at) n (sector_row size old at is_old)
                  (sector_row size new at is_new) (is_old.size at inside) (sector_burst bit size old new is_old is_new damaged at)
                  (damaged.gates k lt changed) in
                  same_option (slots_in new k).gate (slots_in old k).gate
                  (λ n e. ((are_slots old).gate k n).1 ((keep n).1 (((are_slots new).gate k n).0 e)))
                  (λ n e. ((are_slots new).gate k n).1 ((keep n).0 (((are_slots old).gate k n).0 e)))
              | inr past ↦ unchanged (is_new.nothing_beyond at past ∙ sym (is_old.nothing_beyond at past))
            ]
      ]

  -- if the burst reaches into a header, the other slots and all gates are unchanged
  away : (slot i : ℕ) → Touches bit (header_sector slot) → (i + 2 ≤ header_sector slot) ⊎ (header_sector slot + 2 ≤ i) → new i ≡ old i
  away slot i here apart = far bit size old new is_old is_new damaged (header_sector slot) i here apart

  apart_from : (slot i : ℕ) → (i ≡ header_sector slot → ⊥) → i % 8 ≡ 0 → (i + 2 ≤ header_sector slot) ⊎ (header_sector slot + 2 ≤ i)
  apart_from slot i other whole =
      elim (cases_lt i (header_sector slot)) [
        | inl below ↦ inl (omega (arith, below, whole))
        | inr above ↦ inr (omega (arith, above, other, whole))
      ]

  pub others_stay : (slot : ℕ) → Touches bit (header_sector slot) → OthersStay slot (slots_in old) (slots_in new)
  others_stay slot here k other =
      same_slot new old (slots_in new) (slots_in old) k (are_slots new) (are_slots old)
      (away slot (header_sector k) here (apart_from slot (header_sector k) (λ e. other (omega (arith, e))) (omega arith)))
      (away slot (gate_sector k) here (apart_from slot (gate_sector k) (λ e. omega (arith, e)) (omega arith)))

  pub own_gate : (slot : ℕ) → Touches bit (header_sector slot) → (slots_in new slot).gate ≡ (slots_in old slot).gate
  own_gate slot here =
      same_gate new old (slots_in new) (slots_in old) slot (are_slots new) (are_slots old)
      (away slot (gate_sector slot) here (apart_from slot (gate_sector slot) (λ e. omega (arith, e)) (omega arith)))

  module _ (h : SealedHeader) (commits : Commits old h) where
    abbrev s : ℕ
    s = h.header.sequence

    opens : Opens (slots_in old) s (sealed_header_bytes h)
    opens = opens_in old h commits

    committed_in : Opens (slots_in new) s (sealed_header_bytes h) → Commits new h
    committed_in is = record { slots = slots_in new; are = are_slots new; opens = is; fits = commits.fits }

    same_numbers : ((k : ℕ) → k < 3 → new (header_sector k) ≡ old (header_sector k)) → SameNumbers (slots_in old) (slots_in new)
    same_numbers same = record {
      header = λ k lt. same_header old new (slots_in old) (slots_in new) k (are_slots old) (are_slots new) (sym (same k lt));
      gate = λ k lt. sym (gate_stays k lt);
    }

    same_headers : ((k : ℕ) → k < 3 → new (header_sector k) ≡ old (header_sector k)) → Commits new h
    same_headers same = committed_in (record {
      committed = committed_too (slots_in old) (slots_in new) s (same_numbers same) opens.committed;
      bytes = same (s % 3) (omega arith) ∙ opens.bytes;
    })

    third_header : Touches bit (header_sector ((s + 1) % 3)) → Commits new h
    third_header here = committed_in (header_commits_nothing (slots_in old) (slots_in new) s (sealed_header_bytes h) opens (record {
      others = others_stay ((s + 1) % 3) here;
      gate = own_gate ((s + 1) % 3) here;
    }))

    -- if headers s and s - 1 are unchanged, header s stays committed
    pub stays : new (header_sector (s % 3)) ≡ old (header_sector (s % 3)) →
        new (header_sector ((s + 2) % 3)) ≡ old (header_sector ((s + 2) % 3)) → Commits new h
    stays this before =
        let at : (k m : ℕ) → k ≡ m → new (header_sector m) ≡ old (header_sector m) → new (header_sector k) ≡ old (header_sector k) =
        λ k m e same. subst (λ (j : ℕ). new (header_sector j) ≡ old (header_sector j)) (sym e) same in
        elim (touched_or_same bit size old new is_old is_new damaged (header_sector ((s + 1) % 3))) [
          | inl third ↦ third_header third
          | inr third ↦ same_headers (λ k lt.
              elim (cases_eq k (s % 3)) [
                | inl e ↦ at k (s % 3) e this
                | inr more ↦
                    elim (cases_eq k ((s + 1) % 3)) [
                      | inl e ↦ at k ((s + 1) % 3) e third
                      | inr last ↦ at k ((s + 2) % 3) (omega (arith, lt, more, last)) before
                    ]
              ])
        ]

    -- a counting header n is unchanged, if it counts whenever s is committed afterwards
    unchanged : (n : ℕ) (g : SealedHeader) → Commits new g → Counts (slots_in old) n →
        (IsCommitted (slots_in new) s → Counts (slots_in new) n) → new (header_sector (n % 3)) ≡ old (header_sector (n % 3))
    unchanged n g after counts counts_too =
        let slot : ℕ = n % 3 in
        let at : ℕ = header_sector slot in
        elim (touched_or_same bit size old new is_old is_new damaged at) [
          | inr same ↦ same
          | inl here ↦
              elim (sound_or_not (new at)) [
                | inl sound ↦
                    same_at bit size old new is_old is_new damaged at
                    (λ b. sound_shows b (old at) (new at) n sound.0 (((are_slots old).header slot n).0 counts.header) sound.1)
                | inr broken ↦
                    let none : (slots_in new slot).header ≡ None =
                    none_of (slots_in new slot).header (λ m e. broken m (((are_slots new).header slot m).0 e)) in
                    let opened = opens_in new g after in
                    let same = broken_seen (slots_in old) (slots_in new) s slot g.header.sequence (sealed_header_bytes h)
                    (sealed_header_bytes g) opens (others_stay slot here) (own_gate slot here) (inl none) opened in
                    let now = counts_too (subst (λ (t : ℕ). IsCommitted (slots_in new) t) same.0 opened.committed) in
                    let lost : None ≡ Some n = sym none ∙ now.header in
                    absurd (cc lost)
              ]
        ]

    -- if any header is committed afterwards, headers s and s - 1 are unchanged
    pub this_same : (g : SealedHeader) → Commits new g → new (header_sector (s % 3)) ≡ old (header_sector (s % 3))
    this_same g after = unchanged s g after opens.committed.pair.counts (λ is. is.pair.counts)

    pub before_same : (g : SealedHeader) → Commits new g → new (header_sector ((s + 2) % 3)) ≡ old (header_sector ((s + 2) % 3))
    before_same g after =
        let positive = opens.committed.pair.positive in
        let slot : (s - 1) % 3 ≡ (s + 2) % 3 = omega (arith, positive) in
        subst (λ (k : ℕ). new (header_sector k) ≡ old (header_sector k)) slot
        (unchanged (s - 1) g after opens.committed.pair.neighbour (λ is. is.pair.neighbour))
