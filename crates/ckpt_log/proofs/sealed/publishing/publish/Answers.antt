use Rattle.std.proofs.Common.{◌≡◌, ℕ, ap, subst, ◌∙◌}
use Rattle.std.proofs.lemmas.Result.{on_ok_weaker}
use Rattle.device.specs.Calls.{Elsewhere}
use Rattle.layout.specs.sealed.Gate.{numbered_gate_bytes}
use Rattle.layout.specs.sealed.Opening.{gate_sector, header_sector}
use Rattle.ckpt_log.specs.sealed.Publish.{gate_at, header_at}
use Rattle.ckpt_log.proofs.SealedCommits.{durable_one, gate_order, gate_run, has_new, header_order, header_run, make_ready}
use Rattle.ckpt_log.proofs.sealed.publishing.publish.Goals as goal

pub returns-in_err-put_sector-clause-any_moment : goal.returns-in_err-put_sector-clause-any_moment
returns-in_err-put_sector-clause-any_moment g c =
    header_run {h = c.args.header} {at = c.header_sector.result} {old = g.D.Device.disk c.args.device.now}
    {new = g.D.Device.disk c.put_sector.new.device}
    (c.header_sector.ensures.value ∙ ap (λ (k : ℕ). header_sector k) c.slot_of-slot.ensures.value)
    c.requires.one c.requires.next c.put_sector.ensures.any_moment

pub returns-clause-committed : goal.returns-clause-committed
returns-clause-committed g c =
    let place : c.header_sector.result ≡ header_at c.args.header =
    c.header_sector.ensures.value ∙ ap (λ (k : ℕ). header_sector k) c.slot_of-slot.ensures.value in
    let gate_place : c.gate_sector.result ≡ gate_at c.args.header =
    c.gate_sector.ensures.value ∙ ap (λ (k : ℕ). gate_sector k) c.slot_of-slot.ensures.value in
    let ready =
    make_ready c.args.header c.header_sector.result c.encode_sealed_header.new.into (g.D.Device.disk c.args.device.now)
    (g.D.Device.disk c.put_sector.new.device)
    place c.slot_of-slot.ensures.fits c.requires.one c.requires.next (g.met.D.Device.seen_left c.args.device.now)
    c.put_sector.ensures.elsewhere
    c.in_ok-put_sector.ensures.written c.encode_sealed_header.ensures c.in_ok-put_sector.ensures.durable in
    on_ok_weaker c.put_sector-2.result
    (λ written. has_new {h = c.args.header} {old = g.D.Device.disk c.args.device.now} {mid = g.D.Device.disk c.put_sector.new.device} ready
    {c = (g.D.Device.disk c.put_sector-2.new.device).seen}
    (subst (λ (i : ℕ). Elsewhere i 1 (g.D.Device.disk c.put_sector.new.device).seen (g.D.Device.disk c.put_sector-2.new.device).seen)
    gate_place
    c.put_sector-2.ensures.elsewhere)
    (subst (λ (i : ℕ). (g.D.Device.disk c.put_sector-2.new.device).seen i ≡ numbered_gate_bytes c.args.header.header.sequence) gate_place
    (written ∙ c.encode_numbered_gate.ensures)))
    c.put_sector-2.ensures.written

pub returns-clause-one : goal.returns-clause-one
returns-clause-one g c =
    on_ok_weaker c.put_sector-2.result (λ only. durable_one (g.D.Device.disk c.put_sector-2.new.device) only) c.put_sector-2.ensures.durable

pub returns-clause-any_moment : goal.returns-clause-any_moment
returns-clause-any_moment g c =
    let place : c.header_sector.result ≡ header_at c.args.header =
    c.header_sector.ensures.value ∙ ap (λ (k : ℕ). header_sector k) c.slot_of-slot.ensures.value in
    let gate_place : c.gate_sector.result ≡ gate_at c.args.header =
    c.gate_sector.ensures.value ∙ ap (λ (k : ℕ). gate_sector k) c.slot_of-slot.ensures.value in
    let ready =
    make_ready c.args.header c.header_sector.result c.encode_sealed_header.new.into (g.D.Device.disk c.args.device.now)
    (g.D.Device.disk c.put_sector.new.device)
    place c.slot_of-slot.ensures.fits c.requires.one c.requires.next (g.met.D.Device.seen_left c.args.device.now)
    c.put_sector.ensures.elsewhere
    c.in_ok-put_sector.ensures.written c.encode_sealed_header.ensures c.in_ok-put_sector.ensures.durable in
    gate_run {h = c.args.header} {old = g.D.Device.disk c.args.device.now} {mid = g.D.Device.disk c.put_sector.new.device} ready
    {at = c.gate_sector.result} {new = g.D.Device.disk c.put_sector-2.new.device} gate_place
    (header_run {h = c.args.header} {at = c.header_sector.result} {old = g.D.Device.disk c.args.device.now}
    {new = g.D.Device.disk c.put_sector.new.device} place c.requires.one c.requires.next c.put_sector.ensures.any_moment)
    c.put_sector-2.ensures.any_moment

pub returns-clause-in_order : goal.returns-clause-in_order
returns-clause-in_order g c =
    let place : c.header_sector.result ≡ header_at c.args.header =
    c.header_sector.ensures.value ∙ ap (λ (k : ℕ). header_sector k) c.slot_of-slot.ensures.value in
    let gate_place : c.gate_sector.result ≡ gate_at c.args.header =
    c.gate_sector.ensures.value ∙ ap (λ (k : ℕ). gate_sector k) c.slot_of-slot.ensures.value in
    let ready =
    make_ready c.args.header c.header_sector.result c.encode_sealed_header.new.into (g.D.Device.disk c.args.device.now)
    (g.D.Device.disk c.put_sector.new.device)
    place c.slot_of-slot.ensures.fits c.requires.one c.requires.next (g.met.D.Device.seen_left c.args.device.now)
    c.put_sector.ensures.elsewhere
    c.in_ok-put_sector.ensures.written c.encode_sealed_header.ensures c.in_ok-put_sector.ensures.durable in
    gate_order {h = c.args.header} {old = g.D.Device.disk c.args.device.now} {mid = g.D.Device.disk c.put_sector.new.device} ready
    {at = c.gate_sector.result} {new = g.D.Device.disk c.put_sector-2.new.device} gate_place
    (header_order c.args.header {at = c.header_sector.result} {old = g.D.Device.disk c.args.device.now}
    {new = g.D.Device.disk c.put_sector.new.device} place c.put_sector.ensures.any_moment)
    c.put_sector-2.ensures.any_moment
