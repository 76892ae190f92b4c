use Rattle.layout.proofs.Names.{ℕ, length, ap, arith, drop-put_mid}
use Rattle.std.proofs.Common.{◌≡◌, ◌+◌, ◌-◌, ◌∙◌}
use Rattle.layout.proofs.Blocks.{copied_there, length-piece, others_stay}
use Rattle.layout.proofs.block.copy_frame.Goals as goal

pub returns-clause-others : goal.returns-clause-others
returns-clause-others c = λ other beside.
    let o : ℕ = c.args.shape.offset in
    let b : ℕ = c.args.shape.bytes in
    let few : b ≡ o + b - o = omega arith in
    others_stay c.args.shape c.args.to.now c.copy_from_slice.new.self (o + b - o) other c.requires.to (omega arith)
    (ap length c.copy_from_slice.ensures.after ∙ length-piece o b c.args.from.now c.requires.from ∙ few) beside

pub returns-clause-behind : goal.returns-clause-behind
returns-clause-behind c =
    let o : ℕ = c.args.shape.offset in
    let b : ℕ = c.args.shape.bytes in
    let few : b ≡ o + b - o = omega arith in
    drop-put_mid o (o + b - o) c.args.to.now c.copy_from_slice.new.self (o + b) (omega arith) (omega (arith, c.requires.to))
    (ap length c.copy_from_slice.ensures.after ∙ length-piece o b c.args.from.now c.requires.from ∙ few)

pub returns-clause-copied : goal.returns-clause-copied
returns-clause-copied c =
    let o : ℕ = c.args.shape.offset in
    let b : ℕ = c.args.shape.bytes in
    copied_there c.args.shape c.args.from.now c.args.to.now c.copy_from_slice.new.self (o + b - o) c.requires.from
    (omega (arith, c.requires.to))
    c.copy_from_slice.ensures.after
