-- The lines about a store are those about the saved state of its device.
use Rattle.queries.proofs.Names.{HaveTheirRoles, role_number, role_of, headers_with, ℕ, List, [], map, cond, refl, sym, ap, fold, SavedState, kept_of, saved_of}
use Rattle.queries.proofs.Names.{Cap, Frame, ObjectHeader, Content, Role, conveyed, headers, object_of, objects_of, world_at, map_content, Plan, Checkpoint}
use Rattle.queries.proofs.Names.{info_lines, lines_with, objects_with, suc}
use Rattle.std.proofs.Common.{◌≡◌, ◌+◌, ◌==◌, ◌∷◌, ◌∙◌}
use Rattle.model.specs.declared.object.Content.TheVariants as content
use Rattle.model.specs.declared.object.Role.TheVariants as role

module _ (hs : List ObjectHeader) (r : Role) where
  same_role : (c : Content Cap) → role_of (map_content (conveyed hs) c) ≡ role_of c
  same_role content.Free = refl
  same_role c = refl

  role_sum : (fs : List Frame) (n : ℕ) → HaveTheirRoles fs →
      fold (λ k h. k + cond (role_number h.role == role_number r) 1 0) n (headers fs)
      ≡ fold (λ k o. k + cond (role_number (role_of o.content) == role_number r) 1 0) n (map (object_of hs) fs)
  role_sum [] n roles = refl
  role_sum (f ∷ fs) n roles =
      ap (λ (q : Role). fold (λ (k : ℕ) (h : ObjectHeader). k + cond (role_number h.role == role_number r) 1 0)
      (n + cond (role_number q == role_number r) 1 0)
      (headers fs)) (roles 0 ∙ sym (same_role f.content))
      ∙ role_sum fs (n + cond (role_number (role_of (map_content (conveyed hs) f.content)) == role_number r) 1 0) (λ i. roles (suc i))

-- for each role, headers and objects with it are equally many
pub role_counted : (fs : List Frame) (age : ℕ) (r : Role) → HaveTheirRoles fs →
    headers_with r (headers fs) ≡ objects_with r (world_at age fs)
unfolding objects_of
role_counted fs age r roles = role_sum (headers fs) r fs 0 roles

-- the lines about a store are those about the saved state of its device
pub lines_saved : (p : Plan) (reported : Checkpoint) (s : SavedState) (hs : List ObjectHeader) → p ≡ s.plan →
    reported.generation ≡ s.header.generation → reported.age ≡ s.header.age → reported.entries ≡ s.header.entries → hs ≡ headers s.frames →
    HaveTheirRoles s.frames → lines_with p reported (λ r. headers_with r hs) ≡ info_lines s.plan (saved_of (kept_of s))
lines_saved p reported s hs plan generation age entries are roles =
    let same : (r : Role) → headers_with r hs ≡ objects_with r (world_at s.header.age s.frames) =
    λ (r : Role). ap (λ (ks : List ObjectHeader). headers_with r ks) are ∙ role_counted s.frames s.header.age r roles in
    rw (plan, generation, age, entries, same role.Free, same role.Page, same role.Node, same role.Root, same role.Bank) refl
