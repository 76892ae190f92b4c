-- The new frames of objects: in the slots of entries, else at home.
use Rattle.migrator.proofs.Names.{ℕ, Bool, Option, Some, None, List, true, false, refl, sym, ap, subst, arith, Image, Entry, Plan, IsObject, IsDirectory, row}
use Rattle.migrator.proofs.Names.{home_place, bytes_at, slot_in, slot_beside, slot_sector, sector_or, frame_in, slot_bytes, found_slot, sealed_frame_slot}
use Rattle.migrator.proofs.Names.{own_frame_slot, beside_frame_slot, IsFirst, AreComplete, sectors_from, place_length, inl, inr, cases_lt, IsPlan, shape_of}
use Rattle.migrator.proofs.Names.{shape_bytes, one_length, IsFilled, IfSome, IsTrue, range_with, IsCluster, begins_unit, cluster_count, new_bytes}
use Rattle.std.proofs.Common.{◌≡◌, ◌<◌, ◌∙◌}
use Rattle.migrator.proofs.PlacesApart.{HasFirst, at_home, found_first, in_frame_slot, some_beside}
use Rattle.migrator.proofs.SealedUnits.{page_length}

-- the slot of an entry is one of the log's
pub own_slot_fits : (p : Plan) (es : List Entry) (n : ℕ) → IsDirectory p.geometry es → IfSome (slot_in es n) (λ s. s < p.geometry.log)
own_slot_fits p es n is = by (slot_in es n) refl where
  by : (o : Option ℕ) → slot_in es n ≡ o → IfSome o (λ s. s < p.geometry.log)
  by None own = tt
  by (Some s) own =
      let entry = found_slot es n s own in
      omega (arith, (is.each entry.index (record { object = 0; slot = 0 }) entry.within).slot, entry.slot_is)

module _ (image : Image) (p : Plan) (generation : ℕ) (es : List Entry) (n : ℕ) where
  pub new_own : {s : ℕ} → slot_in es n ≡ Some s → new_bytes image p generation es n ≡ slot_bytes image p generation s n
  new_own is = ap (λ (o : Option ℕ). bytes_at image (sector_or o (slot_sector p generation) (home_place p n)) p n) is

  pub new_home : slot_in es n ≡ None → new_bytes image p generation es n ≡ bytes_at image (home_place p n) p n
  new_home is = ap (λ (o : Option ℕ). bytes_at image (sector_or o (slot_sector p generation) (home_place p n)) p n) is

-- ---- if all slots are complete

module _ {image : Image} {p : Plan} {generation : ℕ} {es : List Entry} (complete : AreComplete image p generation es) where
  is_first : {n s : ℕ} (first : HasFirst p es n s) → IsFirst p es first.index
  is_first first j lt same = first.before j lt (same ∙ first.home_is)

  -- the slot of the first entry with an object's home contains its new frame
  pub complete_frame : {n s : ℕ} → IsObject p.geometry n → slot_beside p es n ≡ Some s →
      slot_bytes image p generation s n ≡ new_bytes image p generation es n
  complete_frame {n} {s} is_n beside =
      let first = found_first p es n s beside in
      subst (λ (k : ℕ). slot_bytes image p generation k n ≡ new_bytes image p generation es n) first.slot_is
      ((complete first.index first.within (is_first first)).frames n is_n (sym first.home_is))

  -- in version 3 that slot is a sealed cluster
  pub complete_seal : (row p.version).sealed ≡ true → (n s : ℕ) → n < p.geometry.nodes → IsTrue (begins_unit p n) →
      slot_beside p es n ≡ Some s →
      IsCluster (cluster_count p.version (range_with p.ranges n) n) (sectors_from image (slot_sector p generation s) 8)
  complete_seal sealed n s less begins beside =
      let first = found_first p es n s beside in
      subst (λ (k : ℕ). IsCluster (cluster_count p.version (range_with p.ranges n) n) (sectors_from image (slot_sector p generation k) 8))
      first.slot_is
      ((complete first.index first.within (is_first first)).seal sealed n less begins (sym first.home_is))

  -- each object is saved with its new frame
  pub frame_new : {n : ℕ} → IsObject p.geometry n → frame_in image p generation es n ≡ new_bytes image p generation es n
  frame_new {n} is_n = by (row p.version).sealed refl (slot_beside p es n) refl (slot_in es n) refl where
    by : (sealed : Bool) → (row p.version).sealed ≡ sealed → (b : Option ℕ) → slot_beside p es n ≡ b → (o : Option ℕ) → slot_in es n ≡ o →
        frame_in image p generation es n ≡ new_bytes image p generation es n
    by true is_sealed (Some s) beside o own =
        in_frame_slot image p generation es n (sealed_frame_slot p es n is_sealed ∙ beside) ∙ complete_frame is_n beside
    by true is_sealed None beside None own =
        at_home image p generation es n (sealed_frame_slot p es n is_sealed ∙ beside) ∙ sym (new_home image p generation es n own)
    by true is_sealed None beside (Some t) own =
        let entry = found_slot es n t own in
        absurd (some_beside p es n entry.index entry.within (ap (home_place p) entry.object_is) beside)
    by false unsealed (Some s) beside (Some t) own =
        in_frame_slot image p generation es n (own_frame_slot p es n unsealed own) ∙ sym (new_own image p generation es n own)
    by false unsealed None beside (Some t) own =
        in_frame_slot image p generation es n (own_frame_slot p es n unsealed own) ∙ sym (new_own image p generation es n own)
    by false unsealed (Some s) beside None own =
        in_frame_slot image p generation es n (beside_frame_slot p es n own ∙ beside) ∙ complete_frame is_n beside
    by false unsealed None beside None own =
        at_home image p generation es n (beside_frame_slot p es n own ∙ beside) ∙ sym (new_home image p generation es n own)

-- ---- a cluster is assembled

-- a block of 8 sectors has nodes, in each version with clusters
node_of : (p : Plan) (n : ℕ) → place_length p n ≡ 8 → n < p.geometry.nodes
node_of p n long = elim (cases_lt n p.geometry.nodes) [
  | inl less ↦ less
  | inr le ↦ absurd (omega (arith, long, page_length p n le))
]

-- if a seal keeps the frames of a cluster, the cluster is still filled
pub filled_still : (image : Image) (p : Plan) (generation : ℕ) (es : List Entry) (number : ℕ) (old new : List ℕ) → IsPlan p →
    IsObject p.geometry number → place_length p number ≡ 8 → IsFilled image p generation es number old →
    ((n : ℕ) → n < p.geometry.nodes → home_place p n ≡ home_place p number →
    shape_bytes (shape_of p n) new ≡ shape_bytes (shape_of p n) old)
    → IsFilled image p generation es number new
filled_still image p generation es number old new fits is long filled still n is_n same =
    still n (node_of p n (one_length p n number fits is_n is same ∙ long)) same ∙ filled n is_n same
