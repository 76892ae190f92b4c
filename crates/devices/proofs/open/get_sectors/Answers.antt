use Rattle.devices.proofs.Names.{ℕ, rules, arith, length, subst, GetsFrom}
use Rattle.std.proofs.Common.{◌≡◌, ◌+◌, ◌*◌, ◌∙◌}
use Rattle.devices.proofs.Openings.{sectors_on}
use Rattle.devices.proofs.open.get_sectors.Goals as goal

pub loop-i-preserved : goal.loop-i-preserved
loop-i-preserved g c =
    let i = c.loop-i.i in
    let part = c.get_fully.new.into in
    let size : length part ≡ 512 * c.min-count.result = search rules in
    record {
      bytes =
          sectors_on _ _ _ c.loop-i.copy c.put.new.self part (128 * i) (65536 * i) (65536 * (i + 1)) (omega arith) c.put.ensures.length
          (omega (arith, size))
          (omega (arith, c.loop-i.invariant.size, c.sectors-sectors.ensures.size))
          (omega (arith, size, c.min-count.ensures, c.loop-i.invariant.size, c.sectors-sectors.ensures.size))
          c.put.ensures.written c.put.ensures.elsewhere c.loop-i.invariant.bytes
          (subst (λ (n : ℕ). GetsFrom n (g.F.Openable.opening c.loop-i.file) (g.F.Openable.opening c.get_fully.new.file) part) (omega arith)
          c.in_ok-get_fully.ensures.bytes);
      size = c.put.ensures.length ∙ c.loop-i.invariant.size;
      length_kept = c.get_fully.ensures.length ∙ c.loop-i.invariant.length_kept;
      calls = c.get_fully.ensures.calls ∙ c.loop-i.invariant.calls;
    }
