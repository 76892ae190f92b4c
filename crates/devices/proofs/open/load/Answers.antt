use Rattle.devices.proofs.Names.{ℕ, [], ap, arith, option_map, refl, measured, reads, resizes}
use Rattle.std.proofs.Common.{◌*◌, ◌∷◌, ◌∙◌}
use Rattle.devices.proofs.Deeds.{adds_more}
use Rattle.devices.proofs.Openings.{keeps_length}
use Rattle.devices.proofs.open.load.Goals as goal

pub returns-in_err-length-clause-length : goal.returns-in_err-length-clause-length
returns-in_err-length-clause-length g c = ap (option_map resizes) c.in_err-length.ensures.err

pub returns-in_err-copy-clause-length : goal.returns-in_err-copy-clause-length
returns-in_err-copy-clause-length g c = c.get_all.ensures.length ∙ keeps_length _ _ _ c.in_ok-length.ensures.ok refl

pub returns-clause-read : goal.returns-clause-read
returns-clause-read g c =
    let n = c.in_ok-length.field-0 in
    let calls = g.F.Openable.opening in
    let got = c.in_ok-copy.ensures.bytes in (
      n,
      got.0,
      got.1,
      c.in_ok-copy.ensures.size ∙ ap (λ (k : ℕ). 512 * k) c.device_sectors-sectors.ensures.value,
      adds_more (calls c.args.file.now) (calls c.length.new.self) (calls c.get_all.new.file) (measured n ∷ []) (reads 0 got.0)
          c.in_ok-length.ensures.ok got.2,
    )

pub returns-clause-few : goal.returns-clause-few
returns-clause-few g c = omega (arith, c.in_ok-copy.ensures.size, c.device_sectors-sectors.ensures.few)

pub returns-clause-length : goal.returns-clause-length
returns-clause-length g c = c.get_all.ensures.length ∙ keeps_length _ _ _ c.in_ok-length.ensures.ok refl
