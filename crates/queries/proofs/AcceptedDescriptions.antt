-- The description of a world is accepted, so its image can be built.
use Rattle.queries.proofs.Names.{ℕ, sym, subst, objects_of, sound_banked, sound_named, sound_plain, plain_frames, DescribedIsAccepted}
use Rattle.std.proofs.Common.{◌^◌, ◌≤◌}
use Rattle.description.specs.declared.fault.BuildFault.TheVariants as build

pub described_is_accepted : DescribedIsAccepted
described_is_accepted g age fs d v sectors sound describes layout laid room build.Limits =
    record { layout = (v, layout); laid = laid; age = subst (λ (n : ℕ). n ≤ 2 ^ 62) (sym describes.age) sound.sound.age }
described_is_accepted g age fs d v sectors sound describes layout laid room build.Number = describes.numbers
described_is_accepted g age fs d v sectors sound describes layout laid room build.Field = describes.fields
described_is_accepted g age fs d v sectors sound describes layout laid room build.Target =
    (plain_frames (objects_of fs), describes.frames, sound_named g age (plain_frames (objects_of fs)) (sound_plain g age fs sound))
described_is_accepted g age fs d v sectors sound describes layout laid room build.Owner =
    (plain_frames (objects_of fs), describes.frames, sound_banked g age (plain_frames (objects_of fs)) (sound_plain g age fs sound))
described_is_accepted g age fs d v sectors sound describes layout laid room build.Small = room
described_is_accepted g age fs d v sectors sound describes layout laid room why = tt
