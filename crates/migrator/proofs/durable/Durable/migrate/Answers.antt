use Rattle.migrator.proofs.Names.{sym, subst, is_sound}
use Rattle.migrator.proofs.durable.Durable.migrate.Goals as goal

pub migrate-requires-clause-sound : goal.migrate-requires-clause-sound
migrate-requires-clause-sound g c = subst (λ t. is_sound g.D.Device.disk t) (sym c.self.view_is) c.requires.sound
