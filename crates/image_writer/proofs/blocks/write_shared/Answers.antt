use Rattle.image_writer.proofs.Names.{all_blank, ap, arith, frames_in, refl, shape_length}
use Rattle.std.proofs.Common.{◌∙◌}
use Rattle.image_writer.proofs.HomeFrames.{front_there}
use Rattle.image_writer.proofs.SlotFrames.{block_at, seal_written}
use Rattle.image_writer.proofs.blocks.write_shared.Goals as goal

pub fill_block-requires-clause-blank : goal.fill_block-requires-clause-blank
fill_block-requires-clause-blank g c = all_blank 4608 refl

pub seal_block-seal-requires-clause-front : goal.seal_block-seal-requires-clause-front
seal_block-seal-requires-clause-front g c =
    front_there c.args.home.now c.args.headers.now c.args.contents.now c.args.number c.fill_block.new.block c.requires.plan
    c.requires.object c.requires.headers c.requires.contents c.fill_block.ensures.size
    (c.fill_block.ensures.frames c.args.number c.requires.object refl)

pub returns-clause-written : goal.returns-clause-written
returns-clause-written g c =
    let p = c.args.home.now in
    block_at p (frames_in c.args.headers.now c.args.contents.now) c.args.number c.args.at
    c.shape-sectors.result.sectors c.seal_block-seal.new.block (g.D.Device.disk c.write_sectors.new.device).seen c.requires.plan
    c.requires.object
    (ap shape_length c.shape-sectors.ensures.value) (omega (arith, c.fill_block.ensures.size, c.shape-sectors.ensures.fits.few))
    c.in_ok-write_sectors.ensures.written
    (λ a is_a same. c.seal_block-seal.ensures.frames a is_a same ∙ c.fill_block.ensures.frames a is_a same)
    c.seal_block-seal.ensures.ends

pub returns-clause-seal : goal.returns-clause-seal
returns-clause-seal g c =
    seal_written c.args.home.now c.args.number c.args.at c.shape-sectors.result.sectors c.seal_block-seal.new.block
    (g.D.Device.disk c.write_sectors.new.device).seen (ap shape_length c.shape-sectors.ensures.value)
    c.in_ok-write_sectors.ensures.written c.seal_block-seal.ensures.seal
