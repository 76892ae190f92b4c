use Rattle.image_writer.proofs.Names.{EndInZeros, Encodes, Image, arith, elsewhere_on, frames_in, on_ok_weaker, state_of}
use Rattle.std.proofs.Common.{◌∙◌}
use Rattle.image_writer.proofs.FreshImages.{denotes_for, durable_is, enough, gates_within, opening_run, zeros_for}
use Rattle.image_writer.proofs.image.write_saved.Goals as goal

pub open_gates-requires-clause-inside : goal.open_gates-requires-clause-inside
open_gates-requires-clause-inside g c =
    let least = enough c.args.superblock.now c.in_ok-write_parts.ensures.written.2.plan in
    omega (arith, least, c.requires.inside, c.write_parts.ensures.size)

pub returns-clause-denotes : goal.returns-clause-denotes
returns-clause-denotes g c =
    let p = c.args.superblock.now in
    let fs = frames_in c.args.headers.now c.args.contents.now in
    let size = c.open_gates.ensures.size ∙ c.write_parts.ensures.size in
    on_ok_weaker c.open_gates.result
    (λ opened. denotes_for p c.args.header c.args.entries.now fs (g.D.Device.disk c.write_parts.new.device).seen
    c.in_ok-write_parts.ensures.written c.requires.first (g.D.Device.disk c.open_gates.new.device).sectors c.requires.header
    c.requires.directory c.requires.count (omega (arith, size, c.requires.inside)) c.requires.keepable
    (g.D.Device.disk c.open_gates.new.device).seen c.open_gates.ensures.spares opened)
    c.open_gates.ensures.opened

pub returns-clause-crash : goal.returns-clause-crash
returns-clause-crash g c =
    let p = c.args.superblock.now in
    let fs = frames_in c.args.headers.now c.args.contents.now in
    let size = c.open_gates.ensures.size ∙ c.write_parts.ensures.size in
    durable_is c.open_gates.result (g.D.Device.disk c.open_gates.new.device).may_leave
    (λ (i : Image). Encodes i (g.D.Device.disk c.open_gates.new.device).sectors (state_of p c.args.header c.args.entries.now fs))
    (g.D.Device.disk c.open_gates.new.device).seen
    (on_ok_weaker c.open_gates.result
    (λ opened. denotes_for p c.args.header c.args.entries.now fs (g.D.Device.disk c.write_parts.new.device).seen
    c.in_ok-write_parts.ensures.written c.requires.first (g.D.Device.disk c.open_gates.new.device).sectors c.requires.header
    c.requires.directory c.requires.count (omega (arith, size, c.requires.inside)) c.requires.keepable
    (g.D.Device.disk c.open_gates.new.device).seen c.open_gates.ensures.spares opened)
    c.open_gates.ensures.opened)
    c.open_gates.ensures.durable

pub returns-clause-zeros : goal.returns-clause-zeros
returns-clause-zeros g c =
    let p = c.args.superblock.now in
    let fs = frames_in c.args.headers.now c.args.contents.now in
    let size = c.open_gates.ensures.size ∙ c.write_parts.ensures.size in
    durable_is c.open_gates.result (g.D.Device.disk c.open_gates.new.device).may_leave
    (λ (i : Image). EndInZeros p c.args.header.generation c.args.entries.now i) (g.D.Device.disk c.open_gates.new.device).seen
    (on_ok_weaker c.open_gates.result
    (λ opened. zeros_for p c.args.header c.args.entries.now fs (g.D.Device.disk c.write_parts.new.device).seen
    c.in_ok-write_parts.ensures.written c.requires.first (g.D.Device.disk c.open_gates.new.device).sectors c.requires.header
    c.requires.directory c.requires.count (omega (arith, size, c.requires.inside)) c.requires.keepable
    (g.D.Device.disk c.open_gates.new.device).seen c.open_gates.ensures.spares)
    c.open_gates.ensures.opened)
    c.open_gates.ensures.durable

pub returns-clause-elsewhere : goal.returns-clause-elsewhere
returns-clause-elsewhere g c =
    let p = c.args.superblock.now in
    elsewhere_on 0 p.total (g.D.Device.disk c.args.device.now).seen (g.D.Device.disk c.write_parts.new.device).seen
    (g.D.Device.disk c.open_gates.new.device).seen c.write_parts.ensures.elsewhere
    (gates_within p (g.D.Device.disk c.write_parts.new.device).seen (g.D.Device.disk c.open_gates.new.device).seen
    c.in_ok-write_parts.ensures.written.2.plan c.open_gates.ensures.spares)

pub returns-clause-any_moment : goal.returns-clause-any_moment
returns-clause-any_moment g c =
    opening_run c.args.superblock.now c.args.header c.args.entries.now (frames_in c.args.headers.now c.args.contents.now)
    (g.D.Device.disk c.args.device.now) (g.D.Device.disk c.write_parts.new.device) (g.D.Device.disk c.open_gates.new.device)
    c.in_ok-write_parts.ensures.written c.requires.first c.requires.header c.requires.directory c.requires.count c.requires.inside
    c.requires.keepable c.write_parts.ensures.any_moment c.open_gates.ensures.any_moment
