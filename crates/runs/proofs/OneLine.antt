-- Running one line alone is a run of one turn.
use Rattle.runs.proofs.Names.{Bool, Disk, Err, Geometry, IsTurnOf, IsWritten, List, Machine, Ok, Parts, Power, Result, RunFault, Stands, TakesLine, Turn, View}
use Rattle.runs.proofs.Names.{Written, Wrote, WroteFront, [], append-nil, refl, sym, ℕ, RunsLine}
use Rattle.std.proofs.Common.{◌≡◌}
use Rattle.script.specs.declared.fault.RunFault.TheVariants as fault
use Rattle.runs.proofs.TurnLists.{wrote_and_failed, wrote_kept}

module _ {D S O : Type 0} (disk : D → Disk) (view : S → View D) (parts : S → Parts) (sees : Geometry → Turn → O → O → Bool → Type 0)
    (text : List ℕ) (old new : Power D S) (before seen : O) (written wrote : Written) where
  -- if a line was taken, and its answer passed on or not, it ran as one turn
  pub line_taken : (taken : Result Bool RunFault) (last : Written) (r : Result Bool RunFault) →
      ((on : Bool) (reply : List ℕ) → IsWritten written wrote taken on reply → IsWritten written last r on reply) →
      ((g : Geometry) (m : Machine) → Stands disk view parts g old m →
      TakesLine disk view parts sees g m text old new before seen written wrote taken) →
      RunsLine disk view parts sees text old new before seen written last r
  line_taken taken last r passes takes g m stands =
      let is = takes g m stands in
      let t = is.2 in
      let turn : Turn = record { line = text; before = m; reply = t.reply; after = t.after } in
      let link : IsTurnOf disk view parts g old new turn =
      record { stands = t.stands; size = t.size; any_moment = t.any_moment; faults = t.faults } in (
        turn,
        refl,
        record { after = t.after; run = (refl, (is.0, is.1, t.replies), refl); stands = t.stands; each = (new, link, refl) },
        t.on,
        t.is_seen,
        passes t.on _ t.writes,
      )

pub passed : (a b c : Written) (ran on : Bool) (reply : List ℕ) → Wrote b c [] → IsWritten a b (Ok ran) on reply →
    IsWritten a c (Ok ran) on reply
passed a b c ran on reply kept is = (is.0, wrote_kept a b c reply is.1 kept)

pub not_passed : (a b c : Written) (ran on : Bool) (reply : List ℕ) (e : RunFault) → e ≡ fault.Write → WroteFront b c [] →
    IsWritten a b (Ok ran) on reply → IsWritten a c (Err e) on reply
not_passed a b c ran on reply e why failed is =
    let p = wrote_and_failed a b c reply is.1 failed in
    (why, record { taken = (reply, [], sym (append-nil reply), p.0); failed = p.1 })
