-- The texts about the bytes of an image.
use Rattle.vezhnake_images.proofs.Names.{ℕ, List, Some, Option, Ok, IsDescription, Description, described_has_text, CanBeSpelled, Explains, ImageFault}
use Rattle.vezhnake_images.proofs.Names.{IsDescriptionOf, IsReadFrom, Members, ImageDevice, IsOver, image_disk, IsFound, IsTextFor}
use Rattle.std.proofs.Common.{◌≡◌}
unfoldable use Rattle.image_describer.specs.Text.{description_text}
unfoldable use Rattle.toml.specs.Parse.{parse_document}

pub text_for : (bytes text : List ℕ) (d back : ImageDevice) (e : Description) → IsOver bytes d
    → IsReadFrom image_disk (λ s e. IsDescriptionOf s.plan s.header.age s.frames e) d back e → text ≡ description_text e
    → (CanBeSpelled e → (table : Members) × (parse_document text ≡ Some table) × IsDescription table e) → IsTextFor bytes text
text_for bytes text d back e over read spelled says =
    let s = read.0 in
    let whole = read.2 in
    let told = says (described_has_text s.plan s.header.age s.frames e read.1.encodes.plan.fits read.1.sound whole.describes whole.ranges
    whole.layout) in (
      s,
      (d, back, over, read.1),
      record {
        table = told.0;
        read = told.1;
        description = e;
        said = told.2;
        spelled = spelled;
        describes = whole.describes;
        brief = whole.brief;
        ranges = whole.ranges;
        layout = whole.layout;
      },
    )

pub found_in : (bytes : List ℕ) (d back : ImageDevice) (found : Option ImageFault) → IsOver bytes d → Explains image_disk d back (Ok found)
    → IsFound bytes found
found_in bytes d back found over explains = (d, over, explains.0)
