use Rattle.devices.proofs.Names.{ℕ, List, All, Fits, arith, get_or, get_or_default, length, w8, put_elsewhere, put_written}
use Rattle.std.proofs.Common.{◌+◌, ◌-◌, ◌*◌, ◌<◌}
use borrow.Rule.Slice.PartMut.{put_mid}
use Rattle.devices.proofs.sectors.put.Goals as goal

all_fit : (bytes : List ℕ) → ((i : ℕ) → Fits w8 (get_or bytes i 0)) → All (λ b. b < 256) bytes
all_fit bytes small k d within = omega (arith, get_or_default bytes k d 0 within, small k)

pub returns-clause-written : goal.returns-clause-written
returns-clause-written c =
    let start = c.args.at * 512 in
    put_written c.args.sectors.now c.args.from.now c.copy_from_slice.new.self c.args.at start (start + length c.args.from.now - start)
    c.copy_from_slice.ensures.after (omega arith) (omega arith) c.requires.whole c.requires.inside

pub returns-clause-elsewhere : goal.returns-clause-elsewhere
returns-clause-elsewhere c =
    let start = c.args.at * 512 in
    put_elsewhere c.args.sectors.now c.args.from.now c.copy_from_slice.new.self c.args.at start (start + length c.args.from.now - start)
    c.copy_from_slice.ensures.after (omega arith) (omega arith) c.requires.whole c.requires.inside

pub returns-clause-fits : goal.returns-clause-fits
returns-clause-fits c =
    let start = c.args.at * 512 in
    all_fit (put_mid start (start + length c.args.from.now - start) c.args.sectors.now c.copy_from_slice.new.self) c.type_inv.sectors
