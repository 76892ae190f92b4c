use Rattle.image_writer.proofs.Names.{refl, frames_in, first_state, on_ok_weaker}
use Rattle.image_writer.proofs.image.write_image.Goals as goal

pub returns-clause-holds : goal.returns-clause-holds
returns-clause-holds g c =
    on_ok_weaker c.write_saved.result
    (λ denotes. (first_state c.args.superblock.now c.args.age (frames_in c.args.headers.now c.args.contents.now), denotes, refl))
    (rw (c.row.ensures.value, c.version.ensures.value) at c.write_saved.ensures.denotes)

pub returns-clause-crash : goal.returns-clause-crash
returns-clause-crash g c =
    on_ok_weaker c.write_saved.result
    (λ crash x left. (first_state c.args.superblock.now c.args.age (frames_in c.args.headers.now c.args.contents.now), crash x left, refl))
    (rw (c.row.ensures.value, c.version.ensures.value) at c.write_saved.ensures.crash)
