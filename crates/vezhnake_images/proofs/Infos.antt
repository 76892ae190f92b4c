-- The sizes and counts of an image are those of its store.
use Rattle.vezhnake_images.proofs.Names.{[], ℕ, List, ap, sym, arith, map, take, drop, length, replicate, slice_index_or, drop-drop, drop-replicate}
use Rattle.vezhnake_images.proofs.Names.{drop-set-lt, length-set, map-append, take-append-drop, take_all, take_more, take_more_set, slice_set, HaveTheirRoles}
use Rattle.vezhnake_images.proofs.Names.{kept_of, Checkpoint, SavedState, Plan, headers, world_at, ObjectHeader, Role, role_counted, headers_with, objects_with}
use Rattle.vezhnake_images.proofs.Names.{saved_of, refl, HomeRange, info_of, info_with, no_range, raw_range, raw_ranges, RawRange}
use Rattle.std.proofs.Common.{◌≡◌, ◌∙◌, ◌+◌, ◌<◌, ◌≤◌, ◌++◌, ◌∷◌}
use Rattle.model.specs.declared.object.Role.TheVariants as role

pub info_saved : (p : Plan) (reported : Checkpoint) (s : SavedState) (hs : List ObjectHeader) → p ≡ s.plan →
    reported.generation ≡ s.header.generation → reported.age ≡ s.header.age → reported.entries ≡ s.header.entries → hs ≡ headers s.frames →
    HaveTheirRoles s.frames → info_with p reported (λ r. headers_with r hs) ≡ info_of s.plan (saved_of (kept_of s))
info_saved p reported s hs plan generation age entries are roles =
    let same : (r : Role) → headers_with r hs ≡ objects_with r (world_at s.header.age s.frames) =
    λ (r : Role). ap (λ (ks : List ObjectHeader). headers_with r ks) are ∙ role_counted s.frames s.header.age r roles in
    rw (plan, generation, age, entries, same role.Free, same role.Page, same role.Node, same role.Root, same role.Bank) refl

-- the first i ranges were put into the list of eight, and the others there are 0
pub record ArePut (i : ℕ) (ranges : List HomeRange) (raw : List RawRange) : Type 0 where
  pub put : take i raw ≡ map raw_range (take i ranges)
  pub rest : drop i raw ≡ drop i (replicate 8 no_range)
  pub size : length raw ≡ 8

pub put_next : (i : ℕ) (ranges : List HomeRange) (raw : List RawRange) (d : HomeRange) → i < length ranges → length ranges ≤ 8 →
    ArePut i ranges raw → ArePut (i + 1) ranges (slice_set raw i (raw_range (slice_index_or ranges i d)))
put_next i ranges raw d inside few are =
    let r : RawRange = raw_range (slice_index_or ranges i d) in
    let within : i < length raw = omega (arith, inside, few, are.size) in
    record {
      put = take_more_set raw i r within ∙ ap (λ (rs : List RawRange). rs ++ r ∷ []) are.put
          ∙ sym (ap (map raw_range) (take_more ranges i d inside)
          ∙ map-append raw_range (take i ranges) (slice_index_or ranges i d ∷ []));
      rest = drop-set-lt (i + 1) raw i r (omega arith) ∙ sym (drop-drop 1 i raw) ∙ ap (λ (rs : List RawRange). drop 1 rs) are.rest
          ∙ drop-drop 1 i (replicate 8 no_range);
      size = length-set raw i r ∙ are.size;
    }

pub all_put : (ranges : List HomeRange) (raw : List RawRange) → ArePut (length ranges) ranges raw → raw ≡ raw_ranges ranges
all_put ranges raw are =
    let n = length ranges in
    sym (take-append-drop n raw) ∙ ap (λ (rs : List RawRange). rs ++ drop n raw)
    (are.put ∙ ap (map raw_range) (take_all n ranges (omega arith)))
    ∙ ap (λ (rs : List RawRange). map raw_range ranges ++ rs) (are.rest ∙ drop-replicate n 8 no_range)
