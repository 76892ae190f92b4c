-- The objects of a world in an image of other sizes.
use Rattle.image_describer.proofs.Names.{inl, inr, ℕ, nat_lt, Bool, true, false, List, map, length, refl, sym, ap, arith, range_with_len, cases_lt, true≢false}
use Rattle.image_describer.proofs.Names.{nat_tests, get_or_past, length-map, get_or-map-range_with_len, length-range_with_len, Capability, Frame, Geometry}
use Rattle.image_describer.proofs.Names.{Content, Object, blank_frame, frame_at, free, is_free, IsSound, object_count, World, content_at, object_at, owner_at}
use Rattle.image_describer.proofs.Names.{plain_frame, plain_frames, IsGrown, NodesFit, PagesFit, moved, moved_object, plain_at}
use Rattle.std.proofs.Common.{◌≡◌, ◌≢◌, ◌+◌, ◌-◌, ◌<◌, ◌≤◌, if◌then◌else◌, ◌∙◌}
use Rattle.model.specs.declared.object.Content.TheVariants as content
use Rattle.image_describer.proofs.Moved.{moved_frame, plain_moved}

module _ (old new : Geometry) where
  -- the old number of the object with new number m; if it has none, a number without an object
  abbrev pub origin : ℕ → ℕ
  origin m = if nat_lt m new.nodes then if nat_lt m old.nodes then m else object_count old else m - new.nodes + old.nodes

  -- the object with old number n has a new number
  abbrev pub Arrives : ℕ → Type 0
  Arrives n = (moved old new n < object_count new) × (origin (moved old new n) ≡ n)

  pub node_arrives : (n : ℕ) → n < old.nodes → n < new.nodes → Arrives n
  node_arrives n below fits = (grind (arith, nat_tests), grind (arith, nat_tests))

  pub page_arrives : (n : ℕ) → old.nodes ≤ n → n < object_count old → moved old new n < object_count new → Arrives n
  page_arrives n above below fits = (fits, grind (arith, nat_tests))

  pub comes_from : (m : ℕ) → origin m < object_count old → moved old new (origin m) ≡ m
  comes_from m inside = grind (arith, nat_tests)

  module _ (os : List Object) (count : length os ≡ object_count old) where
    abbrev pub grown_at : ℕ → Object
    grown_at m = moved_object (moved old new) (object_at os (origin m))

    unfoldable pub grown_objects : List Object
    grown_objects = map grown_at (range_with_len 0 (object_count new))

    pub grown_length : length grown_objects ≡ object_count new
    unfolding grown_objects
    grown_length = length-map (range_with_len 0 (object_count new)) grown_at ∙ length-range_with_len 0 (object_count new)

    pub grown_inside : (m : ℕ) → m < object_count new → object_at grown_objects m ≡ grown_at m
    unfolding grown_objects
    grown_inside m inside = get_or-map-range_with_len grown_at 0 (object_count new) m m free inside (omega arith)

    pub grown_past : (m : ℕ) → object_count new ≤ m → object_at grown_objects m ≡ free
    grown_past m past = get_or_past grown_objects m free (omega (arith, past, grown_length))

    pub arrived : (n : ℕ) → Arrives n → object_at grown_objects (moved old new n) ≡ moved_object (moved old new) (object_at os n)
    arrived n is = grown_inside (moved old new n) is.0 ∙ ap (λ (k : ℕ). moved_object (moved old new) (object_at os k)) is.1

    -- the frame of the object with old number n, at its new number
    pub frame_arrived : (n : ℕ) → Arrives n → frame_at (plain_frames grown_objects) (moved old new n) ≡ moved_frame (moved old new)
        (frame_at (plain_frames os) n)
    frame_arrived n is = plain_at _ _ ∙ ap (λ (o : Object). plain_frame o) (arrived n is) ∙ plain_moved (moved old new) _
        ∙ ap (λ (f : Frame). moved_frame (moved old new) f) (sym (plain_at os n))

    pub frame_inside : (m : ℕ) → m < object_count new → frame_at (plain_frames grown_objects) m ≡ moved_frame (moved old new)
        (frame_at (plain_frames os) (origin m))
    frame_inside m inside = plain_at _ m ∙ ap (λ (o : Object). plain_frame o) (grown_inside m inside) ∙ plain_moved (moved old new) _
        ∙ ap (λ (f : Frame). moved_frame (moved old new) f) (sym (plain_at os _))

    pub frame_past : (m : ℕ) → object_count new ≤ m → frame_at (plain_frames grown_objects) m ≡ blank_frame
    frame_past m past = plain_at grown_objects m ∙ ap (λ (o : Object). plain_frame o) (grown_past m past)

    past_is_free : (n : ℕ) → object_count old ≤ n → is_free (content_at os n) ≡ true
    past_is_free n past = ap (λ (o : Object). is_free o.content) (get_or_past os n free (omega (arith, past, count)))

    -- an object in use has a number of the image
    pub inside : (n : ℕ) → is_free (content_at os n) ≡ false → n < object_count old
    inside n some = elim (cases_lt n (object_count old)) [
      | inl below ↦ below
      | inr past ↦ absurd (true≢false (sym (past_is_free n past) ∙ some))
    ]

pub free_object : (owner : ℕ) (c : Content Capability) → is_free c ≡ true → owner ≡ 0 →
    (let o : Object = record { owner = owner; content = c } in o) ≡ free
free_object owner content.Free is unowned = ap (λ (n : ℕ). let o : Object = record { owner = n; content = content.Free } in o) unowned
free_object owner other is unowned = absurd cc

module _ (old new : Geometry) (w : World) (sound : IsSound old w) where
  abbrev pub grown_world : World
  grown_world = record { objects = grown_objects old new w.objects sound.size; age = w.age }

  -- a new number that no object in use moves to is free
  from_free : (m : ℕ) (b : Bool) → is_free (content_at w.objects (origin old new m)) ≡ b
      → ((n : ℕ) → is_free (content_at w.objects n) ≡ false → moved old new n ≢ m) → object_at w.objects (origin old new m) ≡ free
  from_free m true is none =
      let at : ℕ = origin old new m in
      free_object (owner_at w.objects at) (content_at w.objects at) is (sound.unowned at is)
  from_free m false is none = absurd (none (origin old new m) is (comes_from old new m
      (inside old new w.objects sound.size (origin old new m) is)))

  pub is_grown : NodesFit old new w → PagesFit old new w → IsGrown old new w grown_world
  is_grown nodes pages = record {
    count = grown_length old new _ sound.size;
    age = refl;
    each = λ n some.
        let below = inside old new _ sound.size n some in
        elim (cases_lt n old.nodes) [
          | inl node ↦ arrived old new _ sound.size n (node_arrives old new n node (nodes n some node))
          | inr page ↦ arrived old new _ sound.size n (page_arrives old new n page below (pages n some page))
        ];
    others = λ m none. elim (cases_lt m (object_count new)) [
      | inl below ↦ grown_inside old new _ sound.size m below
          ∙ ap (λ (o : Object). moved_object (moved old new) o) (from_free m _ refl none)
      | inr past ↦ grown_past old new _ sound.size m past
    ];
  }
