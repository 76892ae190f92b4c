use Rattle.image_explainer.proofs.Names.{ℕ, Image, Plan, IsFault, sym, take, row, true, false≢true, IfOk-weaker, reads_more, HasBadObject, HasUnits}
use Rattle.image_explainer.proofs.Names.{IsFrameFault, IsUnitFault}
use Rattle.std.proofs.Common.{◌≡◌, ◌∙◌}
use Rattle.image_explainer.proofs.Places.{bad_here, bad_object, before, frame_fault, still, unit_fault, unless}
use Rattle.image_explainer.proofs.sectors.finding.find_saved.Goals as goal

pub find_frame-requires-clause-bad : goal.find_frame-requires-clause-bad
find_frame-requires-clause-bad g c =
    let disk = g.D.Device.disk c.args.device.now in
    let p : Plan = c.args.plan.now in
    let h = c.in_ok-header.header in
    let es = take h.header.entries c.read_directory.new.directory in
    let read = c.in_ok-header.ensures in
    let there = c.requires.bad in
    let units = before (λ (n : ℕ) (i : Image). (row p.version).sealed ≡ true → HasUnits i p h.root h.header.generation es)
    c.read_directory.ensures.reads (c.in_ok-right.ensures.found.0 c.if-right.true) in
    still (λ (n : ℕ) (i : Image). HasBadObject i p h.header es) (reads_more c.read_directory.ensures.reads c.are_right.ensures.reads)
    (bad_object disk.sectors disk.seen p h es c.requires.plan read.header read.directory units
    (bad_here disk.sectors disk.seen p h es c.requires.plan read.header read.directory there.0 there.1 there.2 there.3 there.4))

pub find_unit-requires-clause-bad : goal.find_unit-requires-clause-bad
find_unit-requires-clause-bad g c =
    let p : Plan = c.args.plan.now in
    let h = c.in_ok-header.header in
    let es = take h.header.entries c.read_directory.new.directory in
    let wrong = unless (row p.version).sealed (HasUnits (g.D.Device.disk c.read_directory.new.device).seen p h.root h.header.generation es)
    (λ right. false≢true (sym c.if-right.false ∙ c.in_ok-right.ensures.found.1 right)) in
    still (λ (n : ℕ) (i : Image). HasUnits i p h.root h.header.generation es → ⊥) c.are_right.ensures.reads wrong.1

pub returns-then-right-clause-found : goal.returns-then-right-clause-found
returns-then-right-clause-found g c =
    let disk = g.D.Device.disk c.args.device.now in
    let p : Plan = c.args.plan.now in
    let h = c.in_ok-header.header in
    let es = take h.header.entries c.read_directory.new.directory in
    let read = c.in_ok-header.ensures in
    let there = c.requires.bad in
    let units = before (λ (n : ℕ) (i : Image). (row p.version).sealed ≡ true → HasUnits i p h.root h.header.generation es)
    c.read_directory.ensures.reads (c.in_ok-right.ensures.found.0 c.if-right.true) in
    let bad = bad_here disk.sectors disk.seen p h es c.requires.plan read.header read.directory there.0 there.1 there.2 there.3 there.4 in
    IfOk-weaker c.find_frame.result (IsFrameFault (g.D.Device.disk c.are_right.new.device).seen p h.header es)
    (IsFault disk.sectors disk.seen)
    (λ f why. frame_fault disk.sectors disk.seen p h es c.requires.plan read.header read.directory units bad f
    (before (λ (n : ℕ) (i : Image). IsFrameFault i p h.header es f)
    (reads_more c.read_directory.ensures.reads c.are_right.ensures.reads) why))
    c.find_frame.ensures.found

pub returns-else-right-clause-found : goal.returns-else-right-clause-found
returns-else-right-clause-found g c =
    let disk = g.D.Device.disk c.args.device.now in
    let p : Plan = c.args.plan.now in
    let h = c.in_ok-header.header in
    let es = take h.header.entries c.read_directory.new.directory in
    let read = c.in_ok-header.ensures in
    let there = c.requires.bad in
    let wrong = unless (row p.version).sealed (HasUnits (g.D.Device.disk c.read_directory.new.device).seen p h.root h.header.generation es)
    (λ right. false≢true (sym c.if-right.false ∙ c.in_ok-right.ensures.found.1 right)) in
    let bad = bad_here disk.sectors disk.seen p h es c.requires.plan read.header read.directory there.0 there.1 there.2 there.3 there.4 in
    IfOk-weaker c.find_unit.result (IsUnitFault (g.D.Device.disk c.are_right.new.device).seen p h es) (IsFault disk.sectors disk.seen)
    (λ f why. unit_fault disk.sectors disk.seen p h es c.requires.plan read.header read.directory wrong.0 bad f
    (before (λ (n : ℕ) (i : Image). IsUnitFault i p h es f) (reads_more c.read_directory.ensures.reads c.are_right.ensures.reads) why))
    c.find_unit.ensures.found
