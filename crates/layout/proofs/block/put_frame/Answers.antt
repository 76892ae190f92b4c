use Rattle.layout.proofs.Names.{ℕ, length, arith, rules, frame_length}
use Rattle.std.proofs.Common.{◌≡◌, ◌+◌, ◌-◌, ◌*◌}
use Rattle.layout.proofs.Blocks.{blank_behind, frame_put, has_room}
use Rattle.layout.proofs.block.put_frame.Goals as goal

pub returns-clause-put : goal.returns-clause-put
returns-clause-put c =
    let o : ℕ = c.args.shape.offset in
    let size : length c.encode_frame.new.into ≡ 512 * frame_length c.args.geometry c.args.number = search rules in
    let n : o + c.frame_size-size.result - o ≡ length c.encode_frame.new.into = omega (arith, size, c.frame_size-size.ensures) in
    let room = has_room c.args.geometry c.args.number c.args.shape c.requires.shape in
    frame_put c.args.geometry c.args.number c.args.shape _ c.args.block.now c.encode_frame.new.into (o + c.frame_size-size.result - o)
    c.requires.shape
    c.encode_frame.ensures size n (omega (arith, n, size, room, c.requires.block))

pub returns-clause-behind : goal.returns-clause-behind
returns-clause-behind c =
    let o : ℕ = c.args.shape.offset in
    let size : length c.encode_frame.new.into ≡ 512 * frame_length c.args.geometry c.args.number = search rules in
    let n : o + c.frame_size-size.result - o ≡ length c.encode_frame.new.into = omega (arith, size, c.frame_size-size.ensures) in
    let room = has_room c.args.geometry c.args.number c.args.shape c.requires.shape in
    blank_behind c.args.geometry c.args.number c.args.shape _ c.args.block.now c.encode_frame.new.into (o + c.frame_size-size.result - o)
    c.requires.shape
    c.encode_frame.ensures size n (omega (arith, n, size, room, c.requires.block))
