use Rattle.image_describer.proofs.Names.{ℕ, [], arith, length, All-cons, All-nil, annex_used, known_used, content_at, keepable_later, frames_of, objects_in}
use Rattle.image_describer.proofs.Names.{Contains-push}
use Rattle.std.proofs.Common.{◌<◌, ◌^◌, ◌-◌}
use Rattle.image_describer.proofs.objects.registers.Goals as goal

pub fetch-requires-clause-known : goal.fetch-requires-clause-known
fetch-requires-clause-known g c =
    let p = g.F.Frames.parts c.args.store.now in
    let Known = λ (n : ℕ). n < length p.headers in
    All-cons Known c.args.annex [] (known_used p c.args.annex (annex_used (content_at (objects_in p) c.args.annex) c.requires.annex))
    (All-nil Known)

pub fetch-requires-clause-may : goal.fetch-requires-clause-may
fetch-requires-clause-may g c =
    let p = g.F.Frames.parts c.args.store.now in
    let sound = c.requires.sound in
    record {
      usable = c.requires.usable;
      keepable = keepable_later p.geometry sound.0 (2 ^ 64 - 1) (frames_of p) (omega (arith, sound.1.sound.age)) sound.1.keepable;
    }

pub registers-requires-clause-fetched : goal.registers-requires-clause-fetched
registers-requires-clause-fetched g c = c.in_ok-fetch.ensures.fetched c.args.annex (Contains-push [] c.args.annex)
