-- A frame that its reader accepts may be kept.
use Rattle.layout.proofs.Names.{nat_tests, [], ℕ, Bool, List, length, refl, sym, ap, arith, map, replicate, IsTrue, All, lt-ltb, le-ltb, length-append}
use Rattle.layout.proofs.Names.{length-map, length-replicate, All-from_recursion, All-cons, All-append, All-map, All-replicate, All-weaker, Cap, Frame}
use Rattle.layout.proofs.Names.{Geometry, Content, Root, State, void_held, IsKeptCap, AreKeptSlots, AreKeptWords, MayBeKept, IsKept, IsKeepable, role_of}
use Rattle.layout.proofs.Names.{is_free, state_number, IsOfKind, number_cap, root_slots, slots_of, node_frame_bytes, page_frame_bytes, frame_bytes, FollowsRole}
use Rattle.layout.proofs.Names.{HoldsPage, IsFront, IsNodeFrame, IsPageFrame, IsFrameOf}
use Rattle.std.proofs.Common.{◌≡◌, ◌^◌, ◌<◌, ◌≤◌, ◌∷◌, ◌++◌, ◌∙◌}
use Rattle.std.specs.Prelude.{if◌then◌else◌}
use Rattle.layout.proofs.Frames.{root_of}
use Rattle.model.specs.declared.object.Content.TheVariants as content
use Rattle.model.specs.declared.object.Role.TheVariants as role

-- ---- slots

abbrev Kept : Geometry → ℕ → List Cap → Type 0
Kept g age slots = All (IsKeptCap g age) slots

voids_kept : (g : Geometry) (age n : ℕ) → Kept g age (replicate n void_held)
voids_kept g age n = All-replicate (IsKeptCap g age) n void_held refl

number_kept : (g : Geometry) (age n : ℕ) → n < 2 ^ 64 → IsKeptCap g age (number_cap n)
number_kept g age n fits = (fits, refl)

state_fits : (s : State) → state_number s < 2 ^ 64
state_fits s = grind (arith, nat_tests)

numbers_kept : (g : Geometry) (age : ℕ) (ws : List ℕ) → All (λ w. w < 2 ^ 64) ws → Kept g age (map number_cap ws)
numbers_kept g age ws each = search (All-map, All-weaker, number_kept)

root_slots_kept : (g : Geometry) (age : ℕ) (r : Root Cap) → AreKeptWords 4 r.words → r.key < 2 ^ 16 → r.annex < 2 ^ 64 →
    IsKeptCap g age r.space → AreKeptSlots g age (slots_of (content.Root r))
root_slots_kept g age r words key annex space =
    let P : Cap → Type 0 = IsKeptCap g age in
    let last : List Cap = number_cap r.key ∷ r.space ∷ [] in
    let ends : All P last = All-from_recursion P last (number_kept g age r.key (omega (arith, key)), (space, tt)) in
    let middle : All P (map number_cap r.words ++ last) = All-append P (map number_cap r.words) last (numbers_kept g age r.words words.each)
    ends in
    let front : All P (root_slots r) = grind (arith, nat_tests, All-cons, number_kept, state_fits) in
    record {
      count = grind (arith, nat_tests, length-append, length-map, length-replicate);
      each = All-append P (root_slots r) (replicate 24 void_held) front (voids_kept g age 24);
    }

-- a root's fields may be kept if its slots may
record RootIs (g : Geometry) (age : ℕ) (r : Root Cap) : Type 0 where
  pub words : AreKeptWords 4 r.words
  pub annex : r.annex < 2 ^ 64
  pub space : IsKeptCap g age r.space

root_is : (g : Geometry) (age : ℕ) (s : State) (ws : List ℕ) (key annex : ℕ) (space : Cap) → length ws ≡ 4 →
    AreKeptSlots g age (slots_of (content.Root (root_of s ws key annex space))) → RootIs g age (root_of s ws key annex space)
root_is g age s [] key annex space len are = absurd (omega (arith, len))
root_is g age s (a ∷ []) key annex space len are = absurd (omega (arith, len))
root_is g age s (a ∷ b ∷ []) key annex space len are = absurd (omega (arith, len))
root_is g age s (a ∷ b ∷ c ∷ []) key annex space len are = absurd (omega (arith, len))
root_is g age s (a ∷ b ∷ c ∷ d ∷ []) key annex space len are = record {
  words = record {
    count_is = refl;
    each = All-from_recursion (λ (w : ℕ). w < 2 ^ 64) (a ∷ b ∷ c ∷ d ∷ []) (
      (are.each 2 void_held (omega arith)).0,
      ((are.each 3 void_held (omega arith)).0, ((are.each 4 void_held (omega arith)).0, ((are.each 5 void_held (omega arith)).0, tt))),
    );
  };
  annex = (are.each 0 void_held (omega arith)).0;
  space = are.each 7 void_held (omega arith);
}
root_is g age s (a ∷ b ∷ c ∷ d ∷ e ∷ ws) key annex space len are = absurd (omega (arith, len))

-- ---- contents

slots_kept : (g : Geometry) (age n : ℕ) (c : Content Cap) → n < g.nodes → IsOfKind g n c → MayBeKept g age c →
    AreKeptSlots g age (slots_of c)
slots_kept g age n content.Free lt kind may = record { count = refl; each = voids_kept g age 32 }
slots_kept g age n (content.Page words) lt kind may = absurd (omega (arith, lt, kind.0))
slots_kept g age n (content.Node slots) lt kind may = may
slots_kept g age n (content.Root r) lt kind may = root_slots_kept g age r may.0 may.1 may.2 may.3
slots_kept g age n (content.Annex registers) lt kind may = may.0
slots_kept g age n (content.Bank limit) lt kind may = search (All-cons, number_kept, voids_kept)

follows_role : (g : Geometry) (age n : ℕ) (c : Content Cap) → n < g.nodes → IsOfKind g n c → MayBeKept g age c → FollowsRole c
follows_role g age n c lt kind may = grind (arith, nat_tests)

may_be_kept : (g : Geometry) (age n : ℕ) (c : Content Cap) → n < g.nodes → AreKeptSlots g age (slots_of c) → FollowsRole c →
    IsOfKind g n c × MayBeKept g age c
may_be_kept g age n content.Free lt are follows = (tt, tt)
may_be_kept g age n (content.Page words) lt are follows = absurd follows
may_be_kept g age n (content.Node slots) lt are follows = (lt, are)
may_be_kept g age n (content.Root r) lt are follows = grind (
  arith,
  nat_tests,
  root_is g age r.state r.words r.key r.annex r.space follows.0 are,
)
may_be_kept g age n (content.Annex registers) lt are follows = (lt, (are, follows))
may_be_kept g age n (content.Bank limit) lt are follows = (lt, (are.each 0 void_held (omega arith)).0)

holds_page : (g : Geometry) (age n : ℕ) (c : Content Cap) → g.nodes ≤ n → IsOfKind g n c → MayBeKept g age c → HoldsPage c
holds_page g age n c le kind may = grind (arith, nat_tests)

-- ---- frames

free_role : (c : Content Cap) → IsTrue (is_free c) → role_of c ≡ role.Free
free_role c t = grind (arith, nat_tests)

front_of : (g : Geometry) (age : ℕ) (f : Frame) → IsKept g age f → IsFront age f
front_of g age f is = grind (arith, nat_tests, free_role)

pub node_keepable : (g : Geometry) (age n : ℕ) (f : Frame) → n < g.nodes → IsNodeFrame g age f → IsKeepable g age n f
node_keepable g age n f lt is = grind (arith, nat_tests, may_be_kept g age n f.content lt is.slots is.follows)

pub keepable_node : (g : Geometry) (age n : ℕ) (f : Frame) → n < g.nodes → IsKeepable g age n f → IsNodeFrame g age f
keepable_node g age n f lt is = grind (arith, nat_tests, front_of, slots_kept, follows_role)

pub keepable_page : (g : Geometry) (age n : ℕ) (f : Frame) → g.nodes ≤ n → IsKeepable g age n f → IsPageFrame age f
keepable_page g age n f le is = record { front = front_of g age f is.kept; holds = holds_page g age n f.content le is.kind is.kept.content }

-- ---- the bytes of frames

node_bytes : (g : Geometry) (n : ℕ) (f : Frame) → n < g.nodes → frame_bytes g n f ≡ node_frame_bytes f
node_bytes g n f lt = ap (λ (b : Bool). if b then node_frame_bytes f else page_frame_bytes f) (lt-ltb n g.nodes lt)

page_bytes : (g : Geometry) (n : ℕ) (f : Frame) → g.nodes ≤ n → frame_bytes g n f ≡ page_frame_bytes f
page_bytes g n f le = ap (λ (b : Bool). if b then node_frame_bytes f else page_frame_bytes f) (le-ltb n g.nodes le)

pub frame_of_node : (g : Geometry) (age n : ℕ) (bytes : List ℕ) (f : Frame) → n < g.nodes →
    IsNodeFrame g age f × (bytes ≡ node_frame_bytes f) → IsFrameOf g age n bytes f
frame_of_node g age n bytes f lt is = (node_keepable g age n f lt is.0, is.1 ∙ sym (node_bytes g n f lt))

pub node_of_frame : (g : Geometry) (age n : ℕ) (bytes : List ℕ) (f : Frame) → n < g.nodes → IsFrameOf g age n bytes f →
    IsNodeFrame g age f × (bytes ≡ node_frame_bytes f)
node_of_frame g age n bytes f lt is = (keepable_node g age n f lt is.0, is.1 ∙ node_bytes g n f lt)

pub page_of_frame : (g : Geometry) (age n : ℕ) (bytes : List ℕ) (f : Frame) → g.nodes ≤ n → IsFrameOf g age n bytes f →
    IsPageFrame age f × (bytes ≡ page_frame_bytes f)
page_of_frame g age n bytes f le is = (keepable_page g age n f le is.0, is.1 ∙ page_bytes g n f le)
