-- The laws of renumbered descriptions.
use Rattle.image_describer.proofs.Names.{nat_tests, arith, ℕ, Bool, true, false, List, [], map, refl, sym, ap, true≢false, ext_get_or, Capability, Geometry}
use Rattle.image_describer.proofs.Names.{Content, Object, free, is_free, map_content, IsSound, World, content_at, object_at, IsGrown, moved, moved_capability}
use Rattle.image_describer.proofs.Names.{moved_object, GrownIsDescribed, GrownToItself}
use Rattle.std.proofs.Common.{◌≡◌, ◌∷◌, ◌∙◌}
use Rattle.image_describer.proofs.GrownDescription.{fields_grown, frames_grown, numbers_grown}
use Rattle.image_describer.proofs.GrownFits.{nodes_fit, pages_fit}
use Rattle.image_describer.proofs.GrownWorld.{free_object, grown_world, is_grown}
use Rattle.image_describer.proofs.Moved.{stays_itself}

pub grown_is_described : GrownIsDescribed
grown_is_described w d e sound describes same nodes pages =
    let v : World = grown_world d.geometry e.geometry w sound in (
      v,
      is_grown d.geometry e.geometry w sound (nodes_fit d.geometry e.geometry d w describes nodes)
          (pages_fit d.geometry e.geometry d w describes pages),
      record {
        geometry = refl;
        age = same.age ∙ describes.age;
        numbers = numbers_grown d e same describes.numbers nodes pages;
        fields = fields_grown d e same describes.fields;
        frames = frames_grown d e same describes.numbers nodes pages w.objects sound.size describes.frames;
      },
    )

-- ---- in an image of the same sizes

module _ (at : ℕ → ℕ) (stays : (n : ℕ) → at n ≡ n) where
  capability_stays : (c : Capability) → moved_capability at c ≡ c
  capability_stays c = grind (arith, nat_tests)

  slots_stay : (cs : List Capability) → map (moved_capability at) cs ≡ cs
  slots_stay [] = refl
  slots_stay (c ∷ cs) = ap (λ (d : Capability). d ∷ map (moved_capability at) cs) (capability_stays c)
      ∙ ap (λ (ds : List Capability). c ∷ ds) (slots_stay cs)

  content_stays : (c : Content Capability) → map_content (moved_capability at) c ≡ c
  content_stays c = grind (arith, nat_tests, slots_stay, capability_stays)

  object_stays : (o : Object) → moved_object at o ≡ o
  object_stays o = ap (λ (c : Content Capability). let p : Object = record { owner = o.owner; content = c } in p) (content_stays o.content)

module _ (g : Geometry) (w v : World) (sound : IsSound g w) (grown : IsGrown g g w v) where
  same_object : (n : ℕ) (b : Bool) → is_free (content_at w.objects n) ≡ b → object_at v.objects n ≡ object_at w.objects n
  same_object n true is =
      grown.others n (λ k some at. true≢false (sym is ∙ ap (λ (m : ℕ). is_free (content_at w.objects m)) (sym at ∙ stays_itself g k)
      ∙ some))
      ∙ sym (free_object _ _ is (sound.unowned n is))
  same_object n false is = ap (λ (m : ℕ). object_at v.objects m) (sym (stays_itself g n)) ∙ grown.each n is
      ∙ object_stays (moved g g) (stays_itself g) _

  same_objects : v.objects ≡ w.objects
  same_objects = ext_get_or free v.objects w.objects (grown.count ∙ sym sound.size)
      (λ n inside. same_object n (is_free (content_at w.objects n)) refl)

  same_world : v ≡ w
  same_world =
      ap (λ (os : List Object). let u : World = record { objects = os; age = v.age } in u) same_objects
      ∙ ap (λ (n : ℕ). let u : World = record { objects = w.objects; age = n } in u) grown.age

pub grown_to_itself : GrownToItself
grown_to_itself g w v sound grown = same_world g w v sound grown
