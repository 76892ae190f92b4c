-- The outcome of `draw`.
use Rattle.queries.proofs.Names.{Written, List, Result, Ok, Err, sym, subst, arith, Geometry, Object, object_count, objects_of, Disk, Description, SavedState}
use Rattle.queries.proofs.Names.{Focus, Fault, DrawsImage, DrawsPart, IsHeldTo, KeepsPart, KeepsReached, IsDescriptionOf, ReadsSaved}
use Rattle.std.proofs.Common.{◌≡◌, ◌<◌, ◌^◌}
use Rattle.jobs.specs.declared.fault.Fault.TheVariants as fault

module _ {D : Type 0} {disk : D → Disk} {device back : D} {s : SavedState} (reads : ReadsSaved disk device back s) (d : Description)
    (us : List Object) (is : IsDescriptionOf s.plan s.header.age s.frames d × (us ≡ objects_of s.frames)) where
  pub few : object_count d.geometry < 2 ^ 64
  few =
      let limits = reads.encodes.plan.fits.geometry in
      let below : object_count s.plan.geometry < 2 ^ 64 = omega (arith, limits.most_nodes, limits.most_pages) in
      subst (λ (g : Geometry). object_count g < 2 ^ 64) (sym is.0.describes.geometry) below

  pub draws_image : (focus : Focus) (output output_left : Written) (outcome : Result (Unit {0}) Fault) →
      DrawsPart us focus d output output_left outcome → DrawsImage disk focus device back output output_left outcome
  draws_image focus output output_left (Err (fault.Open why)) draws = absurd draws.0
  draws_image focus output output_left outcome draws =
      (s, reads, (d, is.0, subst (λ (os : List Object). DrawsPart os focus d output output_left outcome) is.1 draws))

-- if a description is restricted to an object's holders, and then to what a process reaches, both restrictions hold
pub keeps_both : (os : List Object) (focus : Focus) (d m e : Description) → IsHeldTo focus.to d m → (outcome : Result (Unit {0}) Fault) →
    KeepsReached os focus.from focus.purpose m e outcome → KeepsPart os focus d e outcome
keeps_both os focus d m e held (Ok a) keeps = (m, held, keeps)
keeps_both os focus d m e held (Err (fault.NoProcess p)) keeps = keeps
keeps_both os focus d m e held (Err fault.NoMemory) keeps = keeps
keeps_both os focus d m e held outcome keeps = absurd keeps
