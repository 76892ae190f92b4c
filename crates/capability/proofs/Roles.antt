-- What the roles in headers imply about objects.
use Rattle.capability.proofs.Names.{arith, ℕ, Bool, true, false, List, length, ⊎_elim, sym, ap, subst, nat_tests, cases_lt, get_or_past, get_or-map, Cap}
use Rattle.capability.proofs.Names.{Capability, Frame, ObjectHeader, Content, Object, Role, blank_frame, blank_header, conveyed, frame_at, header_at, headers}
use Rattle.capability.proofs.Names.{held_at, object_of, objects_of, is_free, is_root, map_content, role_of, content_at, is_process, HaveTheirRoles, Parts}
use Rattle.capability.proofs.Names.{frames_of, objects_in}
use Rattle.std.proofs.Common.{◌≡◌, ◌<◌, ◌≤◌, ◌∙◌}
use Rattle.model.specs.declared.object.Role.TheVariants as role
use Rattle.capability.proofs.FrameLists.{frame_in, headers_in, object_in, object_past}
use Rattle.capability.proofs.Mapped.{mapped}

abbrev pub is_root_role : Role → Bool
is_root_role role.Root = true
is_root_role _ = false

root_of : (c : Content Cap) → is_root c ≡ is_root_role (role_of c)
root_of c = grind (arith, nat_tests)

content_there : (fs : List Frame) (n : ℕ) → content_at (objects_of fs) n ≡ map_content (conveyed (headers fs)) (frame_at fs n).content
unfolding objects_of
content_there fs n = ap (λ (o : Object). o.content) (get_or-map (object_of (headers fs)) fs n blank_frame)

header_there : (p : Parts) (n : ℕ) → header_at p.headers n ≡ (frame_at (frames_of p) n).header
header_there p n = cc (headers_in p.headers p.contents, get_or-map (λ (f : Frame). f.header) (frames_of p) n blank_frame)

-- a number is a process exactly if its header's role is root
pub process_by_role : (p : Parts) (n : ℕ) → HaveTheirRoles (frames_of p) → is_process (objects_in p) n
    ≡ is_root_role (header_at p.headers n).role
process_by_role p n roles = grind (arith, nat_tests, content_there, mapped, root_of, header_there)

pub role_there : (p : Parts) (n : ℕ) (hs : List ObjectHeader) (h : ObjectHeader) → hs ≡ p.headers → h ≡ header_at hs n →
    is_root_role (header_at p.headers n).role ≡ is_root_role h.role
role_there p n hs h same is = ap (λ (k : ObjectHeader). is_root_role k.role)
    (sym (is ∙ ap (λ (ks : List ObjectHeader). header_at ks n) same))

pub no_root_role : (r : Role) → (r ≡ role.Root → ⊥) → is_root_role r ≡ false
no_root_role r other = grind (arith, nat_tests)

-- the role in a header is the role of the object's content
pub role_read : (p : Parts) (hs : List ObjectHeader) (h : ObjectHeader) (n : ℕ) → HaveTheirRoles (frames_of p) → hs ≡ p.headers →
    h ≡ header_at hs n → h.role ≡ role_of (content_at (objects_in p) n)
role_read p hs h n roles table is =
    ap (λ (k : ObjectHeader). k.role) (is ∙ ap (λ (ks : List ObjectHeader). header_at ks n) table)
    ∙ ⊎_elim
    (λ (known : n < length p.headers).
    subst (λ (f : Frame). f.header.role ≡ role_of f.content) (frame_in p.headers p.contents n known) (roles n)
    ∙ sym ((mapped (conveyed p.headers) (held_at p.contents n)).role)
    ∙ sym (ap (λ (o : Object). role_of o.content) (object_in p.headers p.contents n known)))
    (λ (past : length p.headers ≤ n).
    ap (λ (k : ObjectHeader). k.role) (get_or_past p.headers n blank_header past)
    ∙ sym (ap (λ (o : Object). role_of o.content) (object_past p.headers p.contents n past)))
    (cases_lt n (length p.headers))

module _ (r : Role) (c : Content Capability) (is : r ≡ role_of c) where
  pub role_free : r ≡ role.Free → is_free c ≡ true
  role_free free = grind (arith, nat_tests)

  pub role_used : (r ≡ role.Free → ⊥) → is_free c ≡ false
  role_used other = grind (arith, nat_tests)
