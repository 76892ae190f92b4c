-- What the graph of a world's description shows.
use Rattle.image_drawer.specs.Names.{ℕ, false, List, [], Some, IsTrue, Contains, Capability, Geometry, Object, named}
use Rattle.image_drawer.specs.Names.{IsSound, chain, is_annex, is_bank, is_free, is_node, World, content_at, is_process}
use Rattle.image_drawer.specs.Names.{owner_at, register_at, root_at, slot_at, Description, Describes}
use Rattle.std.specs.Prelude.{◌≡◌, ◌≢◌, ◌↔◌, ◌∷◌}
use Rattle.image_drawer.specs.Graph.{arrows, boxes, in_rectangle, in_rectangles, owners}
use Rattle.image_drawer.specs.declared.arrow.Arrow.{Arrow}
use Rattle.image_drawer.specs.declared.arrow.Place.{Place}
use Rattle.image_drawer.specs.declared.arrow.Place.TheVariants as place

-- all items are distinct
abbrev pub IsOnce : {A : Type 0} → List A → Type 0
IsOnce [] = Unit {0}
IsOnce (x ∷ xs) = (Contains xs x → ⊥) × IsOnce xs

-- object n has a box: it is in use, and not an annex, which shares its root's box
abbrev pub HasBox : List Object → ℕ → Type 0
HasBox os n = (is_free (content_at os n) ≡ false) × (is_annex (content_at os n) ≡ false)

-- p pairs an owner with an object that it owns and that has a box; they differ
abbrev pub IsOwner : List Object → ℕ × ℕ → Type 0
IsOwner os p = HasBox os p.1 × (owner_at os p.1 ≡ p.0) × (p.0 ≢ p.1)

-- object n holds capability c at this place
abbrev pub Holds : List Object → ℕ → Place → Capability → Type 0
Holds os n place.Space c = IsTrue (is_process os n) × ((root_at os n).space ≡ c)
Holds os n (place.Register i) c = IsTrue (is_process os n) × (register_at os n i ≡ c)
Holds os n (place.Slot i) c = IsTrue (is_node (content_at os n)) × (slot_at os n i ≡ c)

-- the arrow's capability is held where the arrow begins, and names the object where it ends
abbrev pub IsArrow : List Object → Arrow → Type 0
IsArrow os a = Holds os a.holder a.place a.capability × (named a.capability ≡ Some a.target)

-- each object has exactly one box, and there are no other boxes
abbrev pub BoxesAreObjects : Type 0
BoxesAreObjects = (g : Geometry) (w : World) (d : Description) → Describes g w d →
    IsOnce (boxes d) × ((n : ℕ) → Contains (boxes d) n ↔ HasBox w.objects n)

-- each object that doesn't own itself is paired with its owner exactly once, and there are no other pairs
abbrev pub OwnersAreOwners : Type 0
OwnersAreOwners = (g : Geometry) (w : World) (d : Description) → Describes g w d →
    IsOnce (owners d) × ((p : ℕ × ℕ) → Contains (owners d) p ↔ IsOwner w.objects p)

-- the rectangle of a bank, with all in it, stands in that of the bank's owner; the rectangle of bank 0 stands in none
pub record AreNested (os : List Object) : Type 0 where
  pub outermost : (text : List ℕ) → in_rectangles (chain os 0) text ≡ in_rectangle 0 text
  pub nested : (b : ℕ) (text : List ℕ) → IsTrue (is_bank (content_at os b)) → b ≢ 0 →
      in_rectangles (chain os b) text ≡ in_rectangles (chain os (owner_at os b)) (in_rectangle b text)

abbrev pub RectanglesNest : Type 0
RectanglesNest = (g : Geometry) (w : World) → IsSound g w → AreNested w.objects

-- each capability that names an object is drawn where it is held, nothing else is, and none twice
abbrev pub ArrowsAreHeld : Type 0
ArrowsAreHeld = (g : Geometry) (w : World) (d : Description) → Describes g w d →
    IsOnce (arrows d) × ((a : Arrow) → Contains (arrows d) a ↔ IsArrow w.objects a)
