use Rattle.address_space.proofs.Names.{rules, frames_of, []}
use Rattle.std.proofs.Common.{◌≡◌, ◌∷◌}
use Rattle.capability.specs.Parts.{touched_too}
use Rattle.address_space.proofs.Known.{sound_keepable, word_stays_sound, word_written}
use Rattle.address_space.proofs.reference.put.Goals as goal

pub prepare-requires-clause-may : goal.prepare-requires-clause-may
prepare-requires-clause-may g c = record { usable = c.requires.usable; keepable = search (rules, sound_keepable) }

pub returns-clause-writes : goal.returns-clause-writes
returns-clause-writes g c =
    let p = g.F.Frames.parts c.args.frames.now in
    let q = g.F.Frames.parts c.prepare.new.self in
    let fs = frames_of (g.F.Frames.parts c.set_word.new.store) in
    let done = c.set_word.ensures in
    let prepared : q ≡ touched_too (c.args.page ∷ []) p = search rules in
    record {
      sound = word_written p q (c.args.page ∷ []) prepared fs (λ age. word_stays_sound q.geometry age (frames_of q) fs c.args.page
          c.args.index c.args.word
          c.ranges.word.fits done.objects done.current (λ k. done.keepable age tt k));
      headers = search rules;
      geometry = search rules;
      same = search rules;
      refusals = tt;
      cause = search rules;
      later = search rules;
      continues = search rules;
    }
