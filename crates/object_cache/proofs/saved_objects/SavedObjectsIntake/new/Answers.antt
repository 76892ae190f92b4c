use Rattle.object_cache.proofs.saved_objects.SavedObjectsIntake.new.Goals as goal

pub invariant_of-result : goal.invariant_of-result
invariant_of-result g c = (c.in_ok-entries.ensures.some, λ e is. rw c.in_ok-headers.ensures.items (c.in_ok-entries.ensures.room e is))
