use Rattle.layout.proofs.Names.{ℕ, List, length, take, ap, arith, zeros}
use Rattle.std.proofs.Common.{◌≡◌, ◌+◌, ◌-◌, ◌*◌, ◌++◌, ◌∙◌}
use borrow.Rule.Slice.PartMut.{put_mid}
use Rattle.layout.proofs.Frames.{slots_put}
use Rattle.layout.proofs.node_frame.put_slots.Goals as goal

pub returns : goal.returns
returns c =
    let old : List ℕ = c.args.into.now in
    let k : ℕ = 32 + 24 * length c.args.caps.now - 32 in
    let mid : List ℕ = put_mid 32 k old c.encode_slots.new.into in
    let size : length mid ≡ 1024 = omega arith in
    slots_put old mid c.blank_from.new.bytes c.args.caps.now k c.requires.few c.requires.size (omega arith)
    (ap (put_mid 32 k old) c.encode_slots.ensures)
    (c.blank_from.ensures ∙ ap (λ (n : ℕ). take (32 + 24 * length c.args.caps.now) mid ++ zeros (n - (32 + 24 * length c.args.caps.now)))
    size)
