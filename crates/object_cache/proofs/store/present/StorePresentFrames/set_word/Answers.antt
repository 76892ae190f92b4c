use Rattle.object_cache.proofs.Names.{with_word_in}
use Rattle.object_cache.proofs.Objects.{content_becomes, entry_some}
use Rattle.object_cache.proofs.Presenting.{becomes_held}
use Rattle.object_cache.proofs.store.present.StorePresentFrames.set_word.Goals as goal

pub set_word-requires-clause-entry : goal.set_word-requires-clause-entry
set_word-requires-clause-entry g c = entry_some g.D.Device.disk c.self.view_is c.self.invariant c.requires.fetched

pub invariant_of-self : goal.invariant_of-self
invariant_of-self g c =
    rw c.set_word.ensures (content_becomes g.D.Device.disk c.self.view_is c.self.invariant c.requires.announced c.requires.fetched
    (λ x. with_word_in x c.args.index c.args.word)).is

pub returns : goal.returns
returns g c =
    rw c.set_word.ensures (becomes_held g.P.Policy.KEEPS_ALL g.D.Device.disk g.met.D.Device.only_now c.args.self.now _ c.args.number _
    (content_becomes g.D.Device.disk c.self.view_is c.self.invariant c.requires.announced c.requires.fetched
    (λ x. with_word_in x c.args.index c.args.word)).view)
