use Rattle.migrator.proofs.Names.{None, sym, subst, frozen_of, is_sound, seen_by, stored_of}
use Rattle.std.proofs.Common.{◌≡◌}
use Rattle.migrator.proofs.Journaling.{size_none}
use Rattle.migrator.proofs.durable.Durable.save_page.Goals as goal

pub save_page-requires-clause-idle : goal.save_page-requires-clause-idle
save_page-requires-clause-idle g c =
    let b = c.self.inside.books in
    record {
      stands = c.self.invariant;
      free = size_none (frozen_of (seen_by (g.D.Device.disk c.self.inside.device).seen b) b) b.frozen_size
          (subst (λ t. (stored_of g.D.Device.disk t).frozen ≡ None) (sym c.self.view_is) c.requires.free);
      home = subst (λ t. (stored_of g.D.Device.disk t).saved.entries ≡ 0) (sym c.self.view_is) c.requires.home;
      sound = subst (λ t. is_sound g.D.Device.disk t) (sym c.self.view_is) c.requires.sound;
    }
