use Rattle.object_cache.proofs.Names.{subst, HaveRoom, same_Some}
use Rattle.object_cache.proofs.saved_objects.first_entries.Goals as goal

pub returns-clause-room : goal.returns-clause-room
returns-clause-room g c = λ e is. subst (λ x. HaveRoom x 0 c.args.count) (same_Some c.in_ok-entries.entries e is) c.in_ok-entries.ensures
