-- Reading a directory.
use Rattle.std.proofs.Common.{◌≡◌, ℕ, ◌+◌, ◌-◌, ◌*◌, ◌^◌, ◌<◌, ◌≤◌, List, ◌∷◌, ◌++◌, length, take, drop, zero, suc, ap, refl, sym, subst, ◌∙◌, inl, inr}
use Rattle.std.proofs.Common.{arith, Result}
use Rattle.std.specs.Prelude.{IfNone, IfOk, IfSome, None, Option, Some}
use Rattle.std.proofs.Math.Seq.{take-add}
use Rattle.std.proofs.lemmas.Bool.{cases_eq, cases_lt}
use Rattle.std.proofs.lemmas.Bool.Decides.{nat_tests}
use Rattle.std.proofs.lemmas.List.{get_or_default, drop-take, length-drop, length-take, length-take-le, take-take, take_all}
use Rattle.std.proofs.lemmas.List.Elements.{All-drop, All-take}
use Rattle.std.proofs.lemmas.Result.{IfOk-weaker}
use Rattle.std.proofs.lemmas.Slice.{between-put_mid}
use borrow.Rule.Slice.PartMut.{put_mid, same_len_mid}
use Rattle.device.specs.Disk.{Disk, Image}
use Rattle.device.proofs.Moments.{OnlyNow}
use Rattle.layout.proofs.Directories.{directory_fits}
use Rattle.layout.specs.Calls.{ReadsOnly}
use Rattle.layout.specs.Directory.{AllFitting, IsDirectory, entry_at}
use Rattle.layout.specs.declared.bad_image.BadImage.{BadImage}
use Rattle.layout.specs.declared.directory.Entry.{Entry}
use Rattle.layout.specs.declared.open_fault.OpenFault.{OpenFault}
use Rattle.layout.specs.declared.open_fault.OpenFault.TheVariants.{Bad, Failed, NoMemory}
use Rattle.model.specs.declared.geometry.Geometry.{Geometry}
use Rattle.seal.specs.declared.sums.Sums.{Sums}
use Rattle.layout.proofs.DirectorySectors.{entries_same, piece_fits, sums_same}
use Rattle.layout.specs.sealed.Directory.{entries_bytes}
use Rattle.layout.specs.sealed.Root.{directory_sums}
use Rattle.layout.specs.sealed.Directory.{AreEntries, HasEntries, HaveEntries}
use Rattle.ckpt_log.specs.sealed.Directory.{AreEntriesIn, DirectoriesAreReadBack, IsBadDirectory, IsNoDirectory}
use Rattle.ckpt_log.specs.sealed.Directory.{IsPieceIn}
use Rattle.layout.specs.sealed.Directory.{directory_length, piece, seals_of, sums_of_entries}
use Rattle.layout.specs.sealed.Sector.{seal_in}

abbrev EntryFits : Entry → Type 0
EntryFits e = (e.object < 2 ^ 64) × (e.slot < 2 ^ 64)

-- ---- the entries of one sector are put among all entries

module _ (old part : List Entry) (k e : ℕ) (after : 30 * k ≤ e) (few : e ≤ 30 * k + 30) (inside : e ≤ length old)
    (whole : e < 30 * k + 30 → e ≡ length old) where
  part_of : (es : List Entry) → length es ≡ length old → piece es k ≡ take (e - 30 * k) (drop (30 * k) es)
  part_of es same =
      let rest : List Entry = drop (30 * k) es in
      elim (cases_lt e (30 * k + 30)) [
        | inl lt ↦
            let last : e ≡ length old = whole lt in
            take_all 30 rest (omega (arith, length-drop (30 * k) es, same, last, lt))
            ∙ sym (take_all (e - 30 * k) rest (omega (arith, length-drop (30 * k) es, same, last)))
        | inr ge ↦ let n : 30 ≡ e - 30 * k = omega (arith, ge, few) in ap (λ (m : ℕ). take m rest) n
      ]

  part_long : (es : List Entry) → length es ≡ length old → length (take (e - 30 * k) (drop (30 * k) es)) ≡ e - 30 * k
  part_long es same = length-take-le (e - 30 * k) (drop (30 * k) es) (omega (arith, length-drop (30 * k) es, same, inside))

  part_put : length part ≡ length (take (e - 30 * k) (drop (30 * k) old)) → piece (put_mid (30 * k) (e - 30 * k) old part) k ≡ part
  part_put size =
      part_of (put_mid (30 * k) (e - 30 * k) old part) (same_len_mid (30 * k) (e - 30 * k) old part size)
      ∙ between-put_mid (30 * k) (e - 30 * k) old part e (omega (arith, after, inside)) (size ∙ part_long old refl)

  found_in : (bytes : List ℕ) (n : ℕ) (all : List Entry) (found : Option Sums) → all ≡ part → IsPieceIn bytes n part found →
      IfSome found (λ (seal : Sums). (bytes ≡ entries_bytes all) × (seal ≡ seal_in (entries_bytes all)))
  found_in bytes n all None is read = tt
  found_in bytes n all (Some seal) is read =
      let same : bytes ≡ entries_bytes all = read.0 ∙ ap entries_bytes (sym is) in (same, read.1 ∙ ap seal_in same)

  none_in : (bytes : List ℕ) (found : Option Sums) → IsPieceIn bytes (length (take (e - 30 * k) (drop (30 * k) old))) part found →
      IfNone found ((ds : List Entry) → length ds ≡ length old → AllFitting ds → bytes ≡ entries_bytes (piece ds k) → ⊥)
  none_in bytes None read = λ ds len fits is.
      let size : length (piece ds k) ≡ length (take (e - 30 * k) (drop (30 * k) old)) =
      ap length (part_of ds len) ∙ part_long ds len ∙ sym (part_long old refl) in
      read (piece ds k) size (piece_fits ds k fits) is
  none_in bytes (Some seal) read = tt

  -- if sector k was read as a sector of entries, all entries now contain its entries at their place
  pub found_next : {E : Type 0} (result : Result (Option Sums) E) (bytes : List ℕ) (n : ℕ) →
      length part ≡ length (take (e - 30 * k) (drop (30 * k) old)) → IfOk result (λ (found : Option Sums). IsPieceIn bytes n part found) →
      IfOk result (λ (found : Option Sums). IfSome found (λ (seal : Sums).
      (bytes ≡ entries_bytes (piece (put_mid (30 * k) (e - 30 * k) old part) k))
      × (seal ≡ seal_in (entries_bytes (piece (put_mid (30 * k) (e - 30 * k) old part) k)))))
  found_next {E} result bytes n size =
      let all : List Entry = piece (put_mid (30 * k) (e - 30 * k) old part) k in
      IfOk-weaker result (λ (found : Option Sums). IsPieceIn bytes n part found)
      (λ (found : Option Sums). IfSome found (λ (seal : Sums). (bytes ≡ entries_bytes all) × (seal ≡ seal_in (entries_bytes all))))
      (λ found read. found_in bytes n all found (part_put size) read)

  pub none_next : {E : Type 0} (result : Result (Option Sums) E) (bytes : List ℕ) →
      IfOk result (λ (found : Option Sums). IsPieceIn bytes (length (take (e - 30 * k) (drop (30 * k) old))) part found) →
      IfOk result (λ (found : Option Sums). IfNone found ((ds : List Entry) → length ds ≡ length old → AllFitting ds →
      bytes ≡ entries_bytes (piece ds k) → ⊥))
  none_next {E} result bytes =
      IfOk-weaker result (λ (found : Option Sums). IsPieceIn bytes (length (take (e - 30 * k) (drop (30 * k) old))) part found)
      (λ (found : Option Sums). IfNone found ((ds : List Entry) → length ds ≡ length old → AllFitting ds →
      bytes ≡ entries_bytes (piece ds k) → ⊥))
      (λ found read. none_in bytes found read)

-- ---- one more sector

piece_front : (es ds : List Entry) (k j : ℕ) → j < k → take (30 * k) ds ≡ take (30 * k) es → piece ds j ≡ piece es j
piece_front es ds k j lt same =
    let inside : 30 * j + 30 ≤ 30 * k = omega (arith, lt) in
    sym (drop-take (30 * j) 30 ds)
    ∙ ap (λ (t : List Entry). drop (30 * j) t)
    (sym (take-take (30 * j + 30) (30 * k) ds inside) ∙ ap (λ (t : List Entry). take (30 * j + 30) t) same
    ∙ take-take (30 * j + 30) (30 * k) es inside)
    ∙ drop-take (30 * j) 30 es

seals_front : (es ds : List Entry) (k n : ℕ) → n ≤ k → take (30 * k) ds ≡ take (30 * k) es → seals_of ds n ≡ seals_of es n
seals_front es ds k zero le same = refl
seals_front es ds k (suc n) le same =
    ap (λ (p : List Entry). seal_in (entries_bytes p) ∷ seals_of ds n) (piece_front es ds k n (omega (arith, le)) same)
    ∙ ap (λ (ss : List Sums). seal_in (entries_bytes (piece es n)) ∷ ss) (seals_front es ds k n (omega (arith, le)) same)

pub have_more : (seen mid : Image) (at k : ℕ) (es ds : List Entry) → ((i : ℕ) → mid i ≡ seen i) → take (30 * k) ds ≡ take (30 * k) es →
    HaveEntries seen at es k → mid (at + k) ≡ entries_bytes (piece ds k) → HaveEntries seen at ds (k + 1)
have_more seen mid at k es ds same front before read j lt =
    elim (cases_eq j k) [
      | inl e ↦
          ap (λ (i : ℕ). seen (at + i)) e ∙ sym (same (at + k)) ∙ read ∙ ap (λ (i : ℕ). entries_bytes (piece ds i)) (sym e)
      | inr ne ↦
          let less : j < k = omega (arith, lt, ne) in
          before j less ∙ ap entries_bytes (sym (piece_front es ds k j less front))
    ]

pub sums_more : (k : ℕ) (es ds : List Entry) (sums seal result : Sums) → take (30 * k) ds ≡ take (30 * k) es →
    sums ≡ directory_sums (seals_of es k) → seal ≡ seal_in (entries_bytes (piece ds k)) →
    ((ss : List Sums) → sums ≡ directory_sums ss → result ≡ directory_sums (seal ∷ ss)) → result ≡ directory_sums (seals_of ds (k + 1))
sums_more k es ds sums seal result front was is add =
    let on : suc k ≡ k + 1 = omega arith in
    add (seals_of ds k) (was ∙ ap directory_sums (sym (seals_front es ds k k (omega arith) front)))
    ∙ ap (λ (s : Sums). directory_sums (s ∷ seals_of ds k)) is ∙ ap (λ (n : ℕ). directory_sums (seals_of ds n)) on

pub reads_more : {a b c : Disk} → ReadsOnly a b → ReadsOnly b c → ReadsOnly a c
reads_more {a} {b} {c} first second = grind (arith, nat_tests)

pub reads_none : {disk : Disk} → OnlyNow disk → ReadsOnly disk disk
reads_none {disk} only_now = grind (arith, nat_tests)

-- if the entries of the first k sectors were read, and then those of the next, the entries of k + 1 sectors were read
pub entries_turn : (first mid last : Disk) (at k : ℕ) (es ds : List Entry) (sums seal result : Sums) (found : Option Sums) →
    HaveEntries first.seen at es k × (sums ≡ directory_sums (seals_of es k)) × ReadsOnly first mid × (mid.failures ≡ first.failures) →
    take (30 * k) ds ≡ take (30 * k) es → ReadsOnly mid last → last.failures ≡ mid.failures → found ≡ Some seal →
    IfSome found (λ (s : Sums). (mid.seen (at + k) ≡ entries_bytes (piece ds k)) × (s ≡ seal_in (entries_bytes (piece ds k)))) →
    ((ss : List Sums) → sums ≡ directory_sums ss → result ≡ directory_sums (seal ∷ ss)) →
    HaveEntries first.seen at ds (k + 1) × (result ≡ directory_sums (seals_of ds (k + 1))) × ReadsOnly first last
    × (last.failures ≡ first.failures)
entries_turn first mid last at k es ds sums seal result found before front reads none is some add =
    let here : (mid.seen (at + k) ≡ entries_bytes (piece ds k)) × (seal ≡ seal_in (entries_bytes (piece ds k))) =
    subst (λ (f : Option Sums). IfSome f (λ (s : Sums).
    (mid.seen (at + k) ≡ entries_bytes (piece ds k)) × (s ≡ seal_in (entries_bytes (piece ds k))))) is some in (
      have_more first.seen mid.seen at k es ds before.2.seen front before.0 here.0,
      sums_more k es ds sums seal result front before.1 here.1 add,
      reads_more {a = first} {b = mid} {c = last} before.2 reads,
      none ∙ before.3,
    )

pub all_fit : (es : List Entry) (i : ℕ) → length es ≤ i → ((k : ℕ) → k < i → EntryFits (entry_at es k)) → AllFitting es
all_fit es i past below k d lt =
    subst EntryFits (sym (get_or_default es k d (record { object = 0; slot = 0 }) lt)) (below k (omega (arith, lt, past)))

-- ---- the directory

pub has_entries : (image : Image) (at n : ℕ) (g : Geometry) (sums : Sums) (read new : List Entry) (found : Option Sums) →
    AreEntriesIn image at n read found → IsDirectory g new × (read ≡ new) → found ≡ Some sums → HasEntries image at g sums new
has_entries image at n g sums read new found are is sums_is =
    let here : AreEntries image at read × (sums ≡ sums_of_entries read) =
    subst (λ (f : Option Sums). AreEntriesIn image at n read f) sums_is are in
    record {
      fits = is.0;
      sectors = subst (λ (es : List Entry). AreEntries image at es) is.1 here.0;
      sums_are = sym (here.1 ∙ ap (λ (es : List Entry). sums_of_entries es) is.1);
    }

pub is_bad : (image : Image) (at n : ℕ) (g : Geometry) (sums : Sums) (read : List Entry) (found : Option Sums) (e : BadImage) →
    length read ≡ n → AreEntriesIn image at n read found → IsNoDirectory g found sums read e → IsBadDirectory image at g sums n (Bad e)
is_bad image at n g sums read None e len are why = (why.reason, λ ds same has. are ds same (directory_fits g ds has.fits) has.sectors)
is_bad image at n g sums read (Some s) e len are why = (
  why.reason,
  λ ds same has.
      let lens : length ds ≡ length read = same ∙ sym len in
      let s_is : s ≡ sums = are.1 ∙ sym (sums_same image at ds read lens has.sectors are.0) ∙ has.sums_are in
      let none = why.none (ap (λ (x : Sums). Some x) s_is) in
      none.1 (subst (λ (es : List Entry). IsDirectory g es)
      (entries_same image at ds read lens (directory_fits g ds has.fits) none.0 has.sectors are.0) has.fits),
)

not_refused : (image : Image) (at : ℕ) (g : Geometry) (es : List Entry) (e : OpenFault) → IsDirectory g es → AreEntries image at es →
    IsBadDirectory image at g (sums_of_entries es) (length es) e → e ≡ Failed
not_refused image at g es Failed is are bad = refl
not_refused image at g es NoMemory is are bad = absurd bad
not_refused image at g es (Bad reason) is are bad = absurd (bad.1 es refl (record { fits = is; sectors = are; sums_are = refl }))

pub read_back : DirectoriesAreReadBack
read_back image at g es is are = (
  λ read len has. entries_same image at read es len (directory_fits g read has.fits) (directory_fits g es is) has.sectors are,
  λ e bad. not_refused image at g es e is are bad,
)
