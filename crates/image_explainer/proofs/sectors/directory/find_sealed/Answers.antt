use Rattle.image_explainer.proofs.Names.{ℕ, Bool, Image, Plan, Geometry, arith, ap, sym, subst, BreaksDirectory, IsFirstEntry, directory_sector, IsFault}
use Rattle.image_explainer.proofs.Names.{length, rules, false≢true, IfOk-weaker, sums_equal, sums_if, IsPieceFault}
use Rattle.std.proofs.Common.{◌≡◌, ◌∙◌, ◌+◌, ◌/◌, ◌≤◌}
use Rattle.image_explainer.proofs.Directories.{entry_fault, piece_fault, sealed_holds, sealed_inside, sums_fault}
use Rattle.image_explainer.proofs.Places.{before}
use Rattle.image_explainer.proofs.sectors.directory.find_sealed.Goals as goal

pub read_entries-requires : goal.read_entries-requires
read_entries-requires g c = record {
  inside = sealed_inside c.args.plan.now c.new.result c.directory_sector-sector.result (length c.args.into.now)
      (g.D.Device.disk c.args.device.now).sectors c.new.ensures c.requires.sealed c.directory_sector-sector.ensures.inside
      (omega (arith, c.requires.count, c.requires.header.fits.entries)) c.requires.plan.whole;
}

pub find_piece-requires-clause-inside : goal.find_piece-requires-clause-inside
find_piece-requires-clause-inside g c =
    let lies = sealed_inside c.args.plan.now c.new.result c.directory_sector-sector.result (length c.read_entries.new.into)
    (g.D.Device.disk c.args.device.now).sectors c.new.ensures c.requires.sealed c.directory_sector-sector.ensures.inside
    (omega (arith, c.requires.count, c.read_entries.auto.into, c.requires.header.fits.entries)) c.requires.plan.whole in
    subst (λ (n : ℕ). c.directory_sector-sector.result + (length c.read_entries.new.into + 29) / 30 ≤ n)
    (sym c.read_entries.ensures.reads.size) lies

pub returns-in_default-clause-found : goal.returns-in_default-clause-found
returns-in_default-clause-found g c =
    let disk = g.D.Device.disk c.args.device.now in
    let at = c.directory_sector-sector.result in
    let n = length c.read_entries.new.into in
    IfOk-weaker c.find_piece.result (IsPieceFault (g.D.Device.disk c.read_entries.new.device).seen at n) (IsFault disk.sectors disk.seen)
    (λ f why. piece_fault disk.sectors disk.seen c.args.plan.now c.args.header c.requires.plan c.requires.header c.requires.bad
    c.requires.sealed at n
    (c.directory_sector-sector.ensures.value ∙ ap (λ (q : Plan). directory_sector q c.args.header.header.generation) c.new.ensures)
    (c.read_entries.auto.into ∙ c.requires.count) f
    (before (λ (size : ℕ) (i : Image). IsPieceFault i at n f) c.read_entries.ensures.reads why))
    c.find_piece.ensures.found

pub bad_entry-part-requires-clause-fits : goal.bad_entry-part-requires-clause-fits
bad_entry-part-requires-clause-fits g c = c.entries_fit.ensures

pub returns-then-eq-clause-found : goal.returns-then-eq-clause-found
returns-then-eq-clause-found g c =
    let disk = g.D.Device.disk c.args.device.now in
    let p : Plan = c.args.plan.now in
    let h = c.args.header in
    let es = c.read_entries.new.into in
    let part = c.bad_entry-part.result in
    let read = rw c.in-Some.is at c.in_ok-sums.ensures.found in
    let same : c.in-Some.sums ≡ h.directory = search rules in
    let place = c.directory_sector-sector.ensures.value ∙ ap (λ (q : Plan). directory_sector q h.header.generation) c.new.ensures in
    entry_fault disk.sectors disk.seen p h c.requires.plan c.requires.header c.requires.bad es c.directory_sector-sector.result part
    (sealed_holds disk.sectors disk.seen p h c.requires.plan c.requires.header c.requires.sealed es c.directory_sector-sector.result
    (c.read_entries.auto.into ∙ c.requires.count) c.entries_fit.ensures place read.0)
    place
    (ap (λ (b : Bool). sums_if b es) c.requires.sealed ∙ sym read.1 ∙ same)
    (subst (λ (x : Geometry). BreaksDirectory x es part) c.geometry.ensures.value c.bad_entry-part.ensures.breaks)
    (subst (λ (x : Geometry). IsFirstEntry x es part) c.geometry.ensures.value c.bad_entry-part.ensures.first)

pub returns-else-eq-clause-found : goal.returns-else-eq-clause-found
returns-else-eq-clause-found g c =
    let disk = g.D.Device.disk c.args.device.now in
    let p : Plan = c.args.plan.now in
    let h = c.args.header in
    let es = c.read_entries.new.into in
    let read = rw c.in-Some.is at c.in_ok-sums.ensures.found in
    let place = c.directory_sector-sector.ensures.value ∙ ap (λ (q : Plan). directory_sector q h.header.generation) c.new.ensures in
    sums_fault disk.sectors disk.seen p h c.requires.plan c.requires.header c.requires.bad es c.directory_sector-sector.result
    (sealed_holds disk.sectors disk.seen p h c.requires.plan c.requires.header c.requires.sealed es c.directory_sector-sector.result
    (c.read_entries.auto.into ∙ c.requires.count) c.entries_fit.ensures place read.0)
    place
    (λ same. false≢true (sym c.if-eq.false ∙ c.eq.ensures
    ∙ sums_equal c.in-Some.sums h.directory (read.1 ∙ ap (λ (b : Bool). sums_if b es) (sym c.requires.sealed) ∙ same)))
