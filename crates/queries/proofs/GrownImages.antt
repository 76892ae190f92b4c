-- An image that is built from a description for other sizes.
use Rattle.queries.proofs.Names.{IsDescriptionOf, SavedState, described_has_text, Written, Wrote, ℕ, List, Result, Ok, Err, map, sym, ap, subst, arith}
use Rattle.queries.proofs.Names.{nat_tests, same_Some, Members, Frame, Geometry, Object, IsSoundFrames, world_at, Saved, IsSound, World, Disk, Holds}
use Rattle.queries.proofs.Names.{SavedFrames, NumberRange, MayBeLaid, numbers_of, first_saved, may_be_laid, Description, IsDescription, IsSame}
use Rattle.queries.proofs.Names.{description_once, HasFields, described_once, Sizes, Describes, plain_frames, IsGrown, IsNotRenumbered, grown_ranges}
use Rattle.queries.proofs.Names.{grown_geometry, CanBeSpelled, brief_grown, fields_grown, not_suited, grown_is_described, grown_to_itself, grown_spelled}
use Rattle.queries.proofs.Names.{objects_plain, same_described, WroteFront, Fault, IsGrownFrom, TellsDescription, TellsGrown, TellsText, DescribesImage}
use Rattle.queries.proofs.Names.{IsDescribedIn, ReadsSaved, TellsWhole, GrownIsDenoted, UnsizedIsWhole}
use Rattle.std.proofs.Common.{◌≡◌, ◌∙◌, inl, inr}
use Rattle.names.specs.declared.name.Name.{Name}
use Rattle.queries.specs.Images.{TellsGrownState}
use Rattle.queries.specs.Naming.{DescribesNamed, TellsNamed, grown_names}
use Rattle.jobs.specs.declared.fault.Fault.TheVariants as fault

pub grown_is_denoted : GrownIsDenoted
grown_is_denoted p g age frames text table e saved size c reported read said built holds =
    let d = reported.description in
    let v : World = reported.whole.world in
    let gs : List Frame = built.0 in
    let tables : reported.table ≡ table = same_Some reported.table table (sym reported.read ∙ read) in
    let same : IsSame d e = description_once table d e (subst (λ (ms : Members). IsDescription ms d) tables reported.said) said in
    let frames_are : plain_frames v.objects ≡ gs = described_once d (plain_frames v.objects) gs reported.whole.describes.frames
    (same_described d e same gs built.1) in
    let age_is : e.age ≡ v.age = sym same.age ∙ reported.whole.describes.age in
    let world : world_at e.age gs ≡ v =
    ap (λ (n : ℕ). world_at n gs) age_is ∙ ap (λ (hs : List Frame). world_at v.age hs) (sym frames_are)
    ∙ ap (λ (os : List Object). let w : World = record { objects = os; age = v.age } in w) (objects_plain v.objects) in
    let geometry : e.geometry ≡ g = sym same.geometry ∙ reported.whole.describes.geometry in (
      v,
      reported.whole.grown,
      record {
        frames = first_saved e.geometry e.age gs;
        holds = subst (λ (s : SavedFrames). Holds size c s) built.3 holds;
        sound = record { geometry = geometry; sound = subst (λ (h : Geometry). IsSoundFrames h e.age gs) geometry built.2 };
        stands = ap (λ (w : World). let s : Saved = record { world = w; generation = 0; entries = 0 } in s) world;
      },
    )

same_ranges : (g : Geometry) (rs : List NumberRange) → grown_ranges g g rs ≡ rs
same_ranges g rs = grind (arith, nat_tests)

pub unsized_is_whole : UnsizedIsWhole
unsized_is_whole p age frames text sound reported =
    let same : reported.whole.world ≡ world_at age frames = grown_to_itself p.geometry (world_at age frames) reported.whole.world
    sound.sound
    reported.whole.grown in
    record {
      table = reported.table;
      read = reported.read;
      description = reported.description;
      said = reported.said;
      spelled = reported.spelled;
      describes = subst (λ (w : World). Describes p.geometry w reported.description) same reported.whole.describes;
      brief = reported.whole.brief;
      ranges = reported.whole.ranges ∙ same_ranges p.geometry (map numbers_of p.ranges);
      layout = reported.whole.layout;
    }

-- The parameters: a description of what a device saves.
module _ {D : Type 0} {disk : D → Disk} {device back : D} {s : SavedState} (reads : ReadsSaved disk device back s) (d : Description)
    (whole : IsDescriptionOf s.plan s.header.age s.frames d) (sizes : Sizes) where
  abbrev g : Geometry
  g = s.plan.geometry

  abbrev w : World
  w = world_at s.header.age s.frames

  geometry_is : d.geometry ≡ g
  geometry_is = whole.describes.geometry

  pub has_text : CanBeSpelled d
  has_text = described_has_text s.plan s.header.age s.frames d reads.encodes.plan.fits reads.sound whole.describes whole.ranges whole.layout

  pub laid : MayBeLaid d.geometry d.ranges.items
  laid = subst (λ (h : Geometry). MayBeLaid h d.ranges.items) (sym geometry_is)
      (subst (λ (rs : List NumberRange). MayBeLaid g rs) (sym whole.ranges) (may_be_laid s.plan reads.encodes.plan.fits))

  module _ (e : Description) (grown : IsGrownFrom sizes d e) where
    new_is : e.geometry ≡ grown_geometry g sizes
    new_is = grown.geometry ∙ ap (λ (h : Geometry). grown_geometry h sizes) geometry_is

    in_it : IsDescribedIn s.plan (grown_geometry g sizes) s.header.age s.frames e
    in_it =
        let described = grown_is_described w d e (subst (λ (h : Geometry). IsSound h w) (sym geometry_is) reads.sound.sound)
        (subst (λ (h : Geometry). Describes h w d) (sym geometry_is) whole.describes) grown.same grown.nodes grown.pages in
        let v : World = described.0 in
        record {
          world = v;
          grown = subst (λ (h : Geometry). IsGrown g h w v) new_is (subst (λ (h : Geometry). IsGrown h e.geometry w v) geometry_is
              described.1);
          describes = subst (λ (h : Geometry). Describes h v e) new_is described.2;
          brief = brief_grown d e grown.same whole.describes.numbers whole.brief;
          ranges = grown.same.ranges ∙ ap (λ (h : Geometry). grown_ranges h e.geometry d.ranges.items) geometry_is
              ∙ ap (λ (h : Geometry). grown_ranges g h d.ranges.items) new_is
              ∙ ap (λ (rs : List NumberRange). grown_ranges g (grown_geometry g sizes) rs) whole.ranges;
          layout = grown.same.layout ∙ whole.layout;
        }

    tells_grown : (Reported : List ℕ → Type 0) → TellsText e Reported → TellsWhole sizes s Reported
    tells_grown Reported reported = (
      reported.0,
      record {
        table = reported.1.table;
        read = reported.1.read;
        description = e;
        said = reported.1.said;
        spelled = reported.1.spelled;
        whole = in_it;
      },
      reported.2,
    )

  -- if the text of the renumbered description was written, so was that of the saved state
  tells_state : (output output_left : Written) (outcome : Result (Unit {0}) Fault) → TellsGrown d sizes output output_left outcome →
      TellsGrownState sizes s output output_left outcome
  tells_state output output_left (Ok a) tells = tells_grown tells.0 tells.1 (Wrote output output_left) tells.2
  tells_state output output_left (Err fault.CannotWriteOutput) tells =
      tells_grown tells.0 tells.1 (WroteFront output output_left) tells.2
  tells_state output output_left (Err fault.NoMemory) tells = tells
  tells_state output output_left (Err (fault.Sizes why)) tells = (
    not_suited g (grown_geometry g sizes) d w whole.describes why
        (subst (λ (h : Geometry). IsNotRenumbered d (grown_geometry h sizes) why) geometry_is tells.0),
    tells.1,
  )
  tells_state output output_left outcome tells = absurd tells

  -- the same about the image
  pub describes_image : (output output_left : Written) (outcome : Result (Unit {0}) Fault) → TellsGrown d sizes output output_left outcome →
      DescribesImage disk sizes device back output output_left outcome
  describes_image output output_left (Ok a) tells = (s, reads, tells_state output output_left (Ok a) tells)
  describes_image output output_left (Err fault.CannotWriteOutput) tells =
      (s, reads, tells_state output output_left (Err fault.CannotWriteOutput) tells)
  describes_image output output_left (Err fault.NoMemory) tells = (s, reads, tells)
  describes_image output output_left (Err (fault.Sizes why)) tells =
      (s, reads, tells_state output output_left (Err (fault.Sizes why)) tells)
  describes_image output output_left outcome tells = absurd tells

  -- if names were written too, so were those of the image
  module _ (names : List Name) where
    same_names : grown_names d.geometry sizes names ≡ grown_names g sizes names
    same_names = ap (λ (h : Geometry). grown_names h sizes names) geometry_is

    pub describes_named : (output output_left : Written) (outcome : Result (Unit {0}) Fault) →
        TellsNamed d sizes names output output_left outcome →
        DescribesNamed disk sizes names device back output output_left outcome
    describes_named output output_left (Ok a) tells = (
      s,
      reads,
      (tells.0, tells_state output tells.0 (Ok a) tells.1, subst (Wrote tells.0 output_left) same_names tells.2),
    )
    describes_named output output_left (Err fault.CannotWriteOutput) tells = (
      s,
      reads,
      elim tells [
        | inl early ↦ inl (tells_state output output_left (Err fault.CannotWriteOutput) early)
        | inr late ↦ inr (late.0, tells_state output late.0 (Ok tt) late.1, subst (WroteFront late.0 output_left) same_names late.2)
      ],
    )
    describes_named output output_left (Err fault.NoMemory) tells = (s, reads, tells)
    describes_named output output_left (Err (fault.Sizes why)) tells =
        (s, reads, tells_state output output_left (Err (fault.Sizes why)) tells)
    describes_named output output_left outcome tells = absurd tells

-- The parameters: a description, and the same renumbered for other sizes.
module _ (sizes : Sizes) (d e : Description) (grown : IsGrownFrom sizes d e) where
  pub grown_has_fields : HasFields d → HasFields e
  grown_has_fields fields = fields_grown d e grown.same fields

  pub grown_has_text : MayBeLaid d.geometry d.ranges.items → CanBeSpelled d → CanBeSpelled e
  grown_has_text may spelled = grown_spelled d e grown.same grown.limits (omega (arith, may.geometry.most_nodes, may.geometry.most_pages))
      grown.pages spelled

  module _ (output output_left : Written) where
    pub tells_text : (outcome : Result (Unit {0}) Fault) → TellsDescription e output output_left outcome →
        TellsGrown d sizes output output_left outcome
    tells_text (Ok a) tells = (e, grown, tells)
    tells_text (Err fault.CannotWriteOutput) tells = (e, grown, tells)
    tells_text (Err (fault.Sizes why)) tells = absurd tells
    tells_text outcome tells = tells

-- after a fault no name is written
pub tells_fault : (sizes : Sizes) (d : Description) (names : List Name) (output output_left : Written) (why : Fault) →
    TellsGrown d sizes output output_left (Err why) → TellsNamed d sizes names output output_left (Err why)
tells_fault sizes d names output output_left fault.CannotWriteOutput tells = inl tells
tells_fault sizes d names output output_left why tells = tells
