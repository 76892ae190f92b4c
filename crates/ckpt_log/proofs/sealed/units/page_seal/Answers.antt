use Rattle.std.proofs.Common.{arith, ap, sym, ◌∙◌}
use Rattle.std.proofs.lemmas.List.{length-take-le}
use Rattle.seal.specs.Sums.{sums_of}
use Rattle.ckpt_log.proofs.SealedWritten.{front_body}
use Rattle.ckpt_log.proofs.sealed.units.page_seal.Goals as goal

pub slice_bounds-sums_of-length : goal.slice_bounds-sums_of-length
slice_bounds-sums_of-length c = sym (length-take-le 488 c.args.frame.now (omega (arith, c.requires)))

pub returns : goal.returns
returns c = c.sums_of.ensures.sums ∙ ap sums_of (front_body c.args.frame.now c.requires)
