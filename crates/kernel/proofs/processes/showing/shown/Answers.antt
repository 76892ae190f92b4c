use Rattle.kernel.proofs.Names.{AreKeepable, Parts, ap, frames_of, subst, sym, keepable_most}
use Rattle.std.specs.Prelude.{◌^◌, ◌-◌}
use Rattle.kernel.proofs.processes.showing.shown.Goals as goal

pub registers_of-requires-clause-may : goal.registers_of-requires-clause-may
registers_of-requires-clause-may g c =
    let same = c.in_ok-fetch.ensures.same in
    record {
      usable = g.met.F.Frames.stays_usable c.args.store.now c.fetch.new.self c.in_ok-fetch.ensures.snapshots.continues
          (ap (λ (p : Parts). p.failures) same) c.requires.usable;
      keepable = subst (λ (p : Parts). AreKeepable p.geometry (2 ^ 64 - 1) (frames_of p)) (sym same)
          (keepable_most (g.F.Frames.parts c.args.store.now) c.requires.sound);
    }
