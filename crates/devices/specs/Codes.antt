-- How the logic encodes an event of a device.
use Rattle.devices.specs.Names.{ℕ, zero, suc, List, [], Coded, code_by, coded×, coded_ℕ, coded_list}
use Rattle.std.specs.Prelude.{◌≡◌, refl}
use Rattle.devices.specs.declared.record.Outcome.TheVariants.{Keep, Drop}
use Rattle.devices.specs.declared.record.Outcome.TheVariants.{Fill}
use Rattle.devices.specs.Past.{Event, wrote, synced, cut}

-- an event as plain data: its kind, a number and bytes
abbrev Parts : Type 0
Parts = ℕ × (ℕ × List ℕ)

abbrev parts_of : Event → Parts
parts_of (wrote n bytes) = (0, (n, bytes))
parts_of synced = (1, (0, []))
parts_of (cut Keep) = (2, (0, []))
parts_of (cut Drop) = (3, (0, []))
parts_of (cut (Fill byte)) = (4, (byte, []))

abbrev event_at : ℕ → ℕ → List ℕ → Event
event_at zero n bytes = wrote n bytes
event_at (suc zero) n bytes = synced
event_at (suc (suc zero)) n bytes = cut Keep
event_at (suc (suc (suc zero))) n bytes = cut Drop
event_at (suc (suc (suc (suc k)))) n bytes = cut (Fill n)

abbrev event_from : Parts → Event
event_from p = event_at p.0 p.1.0 p.1.1

pub event_again : (e : Event) → event_from (parts_of e) ≡ e
event_again (wrote n bytes) = refl
event_again synced = refl
event_again (cut Keep) = refl
event_again (cut Drop) = refl
event_again (cut (Fill byte)) = refl

abbrev pub coded_event : Coded Event
coded_event = code_by Parts (coded× coded_ℕ (coded× coded_ℕ (coded_list coded_ℕ))) parts_of event_from event_again
