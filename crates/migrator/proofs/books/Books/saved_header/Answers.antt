use Rattle.migrator.proofs.Names.{IfOk-weaker, ap, Image, agrees_is, home_place, bytes_at}
use Rattle.std.proofs.Common.{◌∙◌}
use Rattle.migrator.proofs.Completing.{home_raw}
use Rattle.migrator.proofs.Journaling.{header_read}
use Rattle.migrator.proofs.books.Books.saved_header.Goals as goal

pub returns-clause-found : goal.returns-clause-found
returns-clause-found g c =
    let disk = g.D.Device.disk c.args.device.now in
    let new = g.D.Device.disk c.read_header.new.device in
    let b = c.args.self.now in
    let place = rw c.new-home.ensures at c.place-at.ensures.value in
    let same = ap (λ (image : Image). bytes_at image (home_place b.plan c.args.number) b.plan c.args.number)
    (agrees_is new.seen disk.seen c.read_header.ensures.reads.seen)
    ∙ home_raw c.requires.stands c.requires.object in
    IfOk-weaker c.read_header.result _ _
    (λ header is. header_read new.seen c.requires.stands.kept c.requires.home c.requires.object place c.shape.ensures.value same
    is) c.read_header.ensures.found
