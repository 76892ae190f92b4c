-- Opening a kernel on the host's storage.
use Rattle.vezhnake.proofs.Names.{ℕ, List, length, Ok, Err, sym, subst, arith, Agrees, image_of, sectors_of, fresh, OpenFault, Power, RefusesToOpen, Status}
use Rattle.vezhnake.proofs.Names.{HostDevice, IsFresh, host_disk, OpensKernel, status_by, Opens, StoreState, parts_of, view_of, RefusesFrom, IsSetAt}
use Rattle.vezhnake.proofs.Names.{HasCapacity, HasCache}
use Rattle.std.proofs.Common.{◌≡◌, ◌/◌, ◌%◌, ◌≤◌, ◌∙◌}
use Rattle.kernel.specs.Power as power
use Rattle.layout.specs.declared.open_fault.OpenFault.TheVariants as fault
use Rattle.vezhnake.specs.declared.host_kernel.HostKernel.TheVariants as store
use Rattle.vezhnake.specs.declared.status.Status.TheVariants as status

pub refused_from : (d back : HostDevice) (why : OpenFault) (s : Status) → RefusesToOpen host_disk d back why → s ≡ status_by why →
    RefusesFrom d s
refused_from d back fault.Failed s refuses is = subst (RefusesFrom d) (sym is) (back, refuses.is_why)
refused_from d back fault.NoMemory s refuses is = subst (RefusesFrom d) (sym is) tt
refused_from d back (fault.Bad reason) s refuses is = subst (RefusesFrom d) (sym is) refuses.is_why.1

module _ (bytes : List ℕ) (cache : ℕ) (d : HostDevice) (fresh : IsFresh bytes d) where
  pub refused_by : (s : Status) → RefusesFrom d s → OpensKernel bytes cache (Err s)
  refused_by (status.Bad reason) refuses = (d, fresh, refuses)
  refused_by status.NoMemory refuses = tt
  refused_by status.Failed refuses = (d, refuses.0, fresh, refuses.1)
  refused_by status.Done refuses = absurd refuses
  refused_by status.BadSize refuses = absurd refuses
  refused_by status.BadCache refuses = absurd refuses
  refused_by status.AlreadyOpen refuses = absurd refuses
  refused_by status.NotOpen refuses = absurd refuses
  refused_by status.SmallBuffer refuses = absurd refuses
  refused_by status.CallsLost refuses = absurd refuses
  refused_by status.BadCommand refuses = absurd refuses

  pub opened_plain : (k : Power HostDevice (StoreState HostDevice)) → cache ≡ 0 →
      Opens host_disk (view_of host_disk) (parts_of host_disk) d k → OpensKernel bytes cache (Ok (store.Plain k))
  opened_plain k none opens = (d, fresh, opens, none)

  has_cache : (k : Power HostDevice (StoreState HostDevice)) (capacity : ℕ) → capacity ≡ cache
      → IsSetAt (λ (setting : ℕ) (s : StoreState HostDevice). HasCapacity (λ (count : ℕ). setting) s) capacity k → HasCache cache k
  has_cache (power.Up l) capacity same set = set.1 ∙ same
  has_cache (power.Down d) capacity same set = absurd set
  has_cache power.Between capacity same set = absurd set

  pub opened_bounded : (k : Power HostDevice (StoreState HostDevice)) (capacity : ℕ) → capacity ≡ cache → 8 ≤ capacity → capacity ≤ 8192
      → IsSetAt (λ (setting : ℕ) (s : StoreState HostDevice). HasCapacity (λ (count : ℕ). setting) s) capacity k
      → Opens host_disk (view_of host_disk) (parts_of host_disk) d k → OpensKernel bytes cache (Ok (store.Bounded k))
  opened_bounded k capacity same least most set opens = (
    d,
    fresh,
    opens,
    (has_cache k capacity same set, subst (λ (n : ℕ). 8 ≤ n) same least, subst (λ (n : ℕ). n ≤ 8192) same most),
  )

pub fresh_of : (image copy : List ℕ) (d : HostDevice) → copy ≡ image → length image % 512 ≡ 0 → d.file.history ≡ fresh image
    → (host_disk d).sectors ≡ sectors_of copy → Agrees (host_disk d).seen (image_of copy) → IsFresh image d
fresh_of image copy d same whole history size seen = record {
  history = history;
  size =
      let sectors : (host_disk d).sectors ≡ length image / 512 = subst (λ (xs : List ℕ). (host_disk d).sectors ≡ sectors_of xs) same size in
      omega arith;
  seen = subst (λ (xs : List ℕ). Agrees (host_disk d).seen (image_of xs)) same seen;
}
