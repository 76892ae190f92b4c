use Rattle.image_explainer.proofs.Names.{ℕ, Image, Plan, subst, HasBadDirectory, IsFault, same_header, IfOk-weaker}
use Rattle.image_explainer.proofs.Places.{before, still}
use Rattle.image_explainer.proofs.sectors.directory.find_directory.Goals as goal

pub find_sealed-requires-clause-bad : goal.find_sealed-requires-clause-bad
find_sealed-requires-clause-bad g c =
    let seen = (g.D.Device.disk c.args.device.now).seen in
    let p : Plan = c.args.plan.now in
    let bad = c.requires.bad in
    still (λ (n : ℕ) (i : Image). HasBadDirectory i p c.in_ok-header.header) c.read_header.ensures.reads
    (subst (HasBadDirectory seen p) (same_header seen p bad.0 c.in_ok-header.header bad.1 c.in_ok-header.ensures.found) bad.2)

pub find_plain-requires-clause-bad : goal.find_plain-requires-clause-bad
find_plain-requires-clause-bad g c =
    let seen = (g.D.Device.disk c.args.device.now).seen in
    let p : Plan = c.args.plan.now in
    let bad = c.requires.bad in
    still (λ (n : ℕ) (i : Image). HasBadDirectory i p c.in_ok-header.header) c.read_header.ensures.reads
    (subst (HasBadDirectory seen p) (same_header seen p bad.0 c.in_ok-header.header bad.1 c.in_ok-header.ensures.found) bad.2)

pub returns-then-row-clause-found : goal.returns-then-row-clause-found
returns-then-row-clause-found g c =
    let disk = g.D.Device.disk c.args.device.now in
    let mid = g.D.Device.disk c.read_header.new.device in
    IfOk-weaker c.find_sealed.result (IsFault mid.sectors mid.seen) (IsFault disk.sectors disk.seen)
    (λ f why. before (λ (n : ℕ) (i : Image). IsFault n i f) c.read_header.ensures.reads why) c.find_sealed.ensures.found
