-- Devices in memory: what they hold, and that they don't fail.
use Rattle.vezhnake_images.proofs.Names.{ℕ, List, length, sym, subst, arith, Agrees, image_of, sectors_of, OpenFault, RefusesToOpen, ImageDevice, IsOver}
use Rattle.vezhnake_images.proofs.Names.{RefusesBytes, image_disk, status_by, ImageStatus}
use Rattle.std.proofs.Common.{◌≡◌, ◌<◌, ◌*◌, ◌/◌, ◌%◌}
use Rattle.layout.specs.declared.open_fault.OpenFault.TheVariants as fault

pub over : (bytes copy : List ℕ) (d : ImageDevice) → copy ≡ bytes → length bytes % 512 ≡ 0 → (image_disk d).sectors ≡ sectors_of copy
    → Agrees (image_disk d).seen (image_of copy) → IsOver bytes d
over bytes copy d same whole size seen = record {
  size =
      let sectors : (image_disk d).sectors ≡ length bytes / 512 = subst (λ (xs : List ℕ). (image_disk d).sectors ≡ sectors_of xs) same size
      in
      omega arith;
  seen = subst (λ (xs : List ℕ). Agrees (image_disk d).seen (image_of xs)) same seen;
}

pub blank : (bytes : List ℕ) (sectors : ℕ) (d : ImageDevice) → length bytes ≡ sectors * 512 → IsOver bytes d →
    (image_disk d).sectors ≡ sectors
blank bytes sectors d size over = let is = over.size in omega arith

-- if a device over these bytes couldn't be opened, the bytes are refused with this status
reason_of : (bytes : List ℕ) (d back : ImageDevice) (why : OpenFault) → IsOver bytes d → RefusesToOpen image_disk d back why
    → RefusesBytes bytes (status_by why)
reason_of bytes d back fault.Failed over refuses =
    let none : back.file.history.failures ≡ 0 = back.file.sound in
    let rises : d.file.history.failures < back.file.history.failures = refuses.is_why in
    absurd (omega (arith, none, rises))
reason_of bytes d back fault.NoMemory over refuses = tt
reason_of bytes d back (fault.Bad reason) over refuses = (d, over, refuses.is_why.1)

pub refused_by : (bytes : List ℕ) (d back : ImageDevice) (why : OpenFault) (s : ImageStatus) → IsOver bytes d
    → RefusesToOpen image_disk d back why → s ≡ status_by why → RefusesBytes bytes s
refused_by bytes d back why s over refuses is = subst (RefusesBytes bytes) (sym is) (reason_of bytes d back why over refuses)
