-- The sectors of a directory have at most one list of entries.
use Rattle.std.proofs.Common.{◌≡◌, ℕ, ◌+◌, ◌*◌, ◌^◌, ◌<◌, ◌≤◌, List, ◌∷◌, ◌++◌, length, take, drop, zero, suc, ap, refl, sym, ◌∙◌, arith}
use Rattle.std.proofs.Math.Seq.{take-add}
use Rattle.std.proofs.lemmas.List.{length-drop, length-take, take_all}
use Rattle.std.proofs.lemmas.List.Elements.{All-drop, All-take}
use Rattle.device.specs.Disk.{Image}
use Rattle.layout.specs.Directory.{AllFitting}
use Rattle.layout.specs.declared.directory.Entry.{Entry}
use Rattle.layout.specs.sealed.Directory.{AreEntries, HaveEntries, directory_length, entries_bytes, piece, seals_of, sums_of_entries}
use Rattle.layout.specs.sealed.Root.{directory_sums}
use Rattle.layout.specs.sealed.Sector.{seal_in}
use Rattle.seal.specs.declared.sums.Sums.{Sums}
use Rattle.layout.proofs.SealedSpelling.{one_directory_sector}

abbrev EntryFits : Entry → Type 0
EntryFits e = (e.object < 2 ^ 64) × (e.slot < 2 ^ 64)

pub piece_fits : (es : List Entry) (k : ℕ) → AllFitting es → AllFitting (piece es k)
piece_fits es k fits = All-take EntryFits 30 (drop (30 * k) es) (All-drop EntryFits (30 * k) es fits)

piece_long : (ds es : List Entry) (k : ℕ) → length ds ≡ length es → length (piece ds k) ≡ length (piece es k)
piece_long ds es k len =
    omega (
      arith,
      length-take 30 (drop (30 * k) ds),
      length-take 30 (drop (30 * k) es),
      length-drop (30 * k) ds,
      length-drop (30 * k) es,
      len,
    )

piece_few : (es : List Entry) (k : ℕ) → length (piece es k) ≤ 30
piece_few es k = omega (arith, length-take 30 (drop (30 * k) es))

module _ (image : Image) (at : ℕ) (ds es : List Entry) (len : length ds ≡ length es) where
  front_same : (k : ℕ) → AllFitting ds → AllFitting es → HaveEntries image at ds k → HaveEntries image at es k →
      take (30 * k) ds ≡ take (30 * k) es
  front_same zero fd fe hd he = refl
  front_same (suc k) fd fe hd he =
      let on : 30 * suc k ≡ 30 * k + 30 = omega arith in
      let here : piece ds k ≡ piece es k =
      one_directory_sector (piece ds k) (piece es k) (piece_long ds es k len) (piece_few es k) (piece_fits ds k fd) (piece_fits es k fe)
      (sym (hd k (omega arith)) ∙ he k (omega arith)) in
      let before : take (30 * k) ds ≡ take (30 * k) es =
      front_same k fd fe (λ j lt. hd j (omega (arith, lt))) (λ j lt. he j (omega (arith, lt))) in
      ap (λ (n : ℕ). take n ds) on ∙ take-add (30 * k) 30 ds ∙ ap (λ (t : List Entry). t ++ piece ds k) before
      ∙ ap (λ (t : List Entry). take (30 * k) es ++ t) here ∙ sym (take-add (30 * k) 30 es) ∙ sym (ap (λ (n : ℕ). take n es) on)

  pub entries_same : AllFitting ds → AllFitting es → AreEntries image at ds → AreEntries image at es → ds ≡ es
  entries_same fd fe ad ae =
      let k : ℕ = directory_length (length es) in
      sym (take_all (30 * k) ds (omega (arith, len)))
      ∙ front_same k fd fe (λ j lt. ad j (omega (arith, lt, len))) ae
      ∙ take_all (30 * k) es (omega arith)

  seals_same : (k : ℕ) → HaveEntries image at ds k → HaveEntries image at es k → seals_of ds k ≡ seals_of es k
  seals_same zero hd he = refl
  seals_same (suc k) hd he =
      let here : entries_bytes (piece ds k) ≡ entries_bytes (piece es k) = sym (hd k (omega arith)) ∙ he k (omega arith) in
      ap (λ (row : List ℕ). seal_in row ∷ seals_of ds k) here
      ∙ ap (λ (ss : List Sums). seal_in (entries_bytes (piece es k)) ∷ ss)
      (seals_same k (λ j lt. hd j (omega (arith, lt))) (λ j lt. he j (omega (arith, lt))))

  pub sums_same : AreEntries image at ds → AreEntries image at es → sums_of_entries ds ≡ sums_of_entries es
  sums_same ad ae =
      ap (λ (n : ℕ). directory_sums (seals_of ds (directory_length n))) len
      ∙ ap directory_sums (seals_same (directory_length (length es)) (λ j lt. ad j (omega (arith, lt, len))) ae)
