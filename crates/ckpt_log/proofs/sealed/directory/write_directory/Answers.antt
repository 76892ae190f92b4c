use Rattle.std.proofs.Common.{◌≡◌, ◌<◌, ◌∙◌, List, ap, arith, length, refl, rules}
use Rattle.layout.specs.declared.directory.Entry.{Entry}
use Rattle.layout.specs.sealed.Directory.{directory_length, entries_bytes}
use Rattle.layout.specs.sealed.Sector.{seal_in}
use Rattle.ckpt_log.proofs.SealedDirectories.{sums_more}
use Rattle.ckpt_log.proofs.SealedPieces.{entries_on, sums_none, touches_none, touches_on}
use Rattle.ckpt_log.proofs.sealed.directory.write_directory.Goals as goal

pub loop-k-init : goal.loop-k-init
loop-k-init g c = (
  λ j lt. absurd (omega (arith, lt)),
  sums_none c.args.entries.now,
  touches_none c.args.at (directory_length (length c.args.entries.now)) (g.D.Device.disk c.args.device.now)
      (g.met.D.Device.only_now c.args.device.now),
  refl,
  λ none. refl,
)

pub returns-in_err-seal-clause-touches : goal.returns-in_err-seal-clause-touches
returns-in_err-seal-clause-touches g c =
    let lt : c.loop-k.k < directory_length (length c.args.entries.now) = search rules in
    touches_on c.args.at c.loop-k.k (directory_length (length c.args.entries.now)) (g.D.Device.disk c.args.device.now)
    (g.D.Device.disk c.loop-k.device) (g.D.Device.disk c.write_piece.new.device) lt c.loop-k.invariant.2 c.write_piece.ensures.writes

pub loop-k-preserved : goal.loop-k-preserved
loop-k-preserved g c =
    let es = c.args.entries.now in
    let mid = g.D.Device.disk c.loop-k.device in
    let new = g.D.Device.disk c.write_piece.new.device in
    let lt : c.loop-k.k < directory_length (length c.args.entries.now) = search rules in
    let same : new.failures ≡ mid.failures = search rules in (
      entries_on c.args.at c.loop-k.k es mid.seen new.seen c.loop-k.invariant.0 c.write_piece.ensures.writes.elsewhere
          (c.in_ok-seal.ensures.written ∙ ap entries_bytes c.piece.ensures.value),
      sums_more c.loop-k.k es es c.loop-k.sums c.in_ok-seal.seal c.add_sector-sums.result refl c.loop-k.invariant.1
          (c.in_ok-seal.ensures.seal ∙ ap (λ (row : List Entry). seal_in (entries_bytes row)) c.piece.ensures.value)
          c.add_sector-sums.ensures,
      touches_on c.args.at c.loop-k.k (directory_length (length es)) (g.D.Device.disk c.args.device.now) mid new lt
          c.loop-k.invariant.2 c.write_piece.ensures.writes,
      same ∙ c.loop-k.invariant.3,
      λ none. absurd (omega (arith, none)),
    )
