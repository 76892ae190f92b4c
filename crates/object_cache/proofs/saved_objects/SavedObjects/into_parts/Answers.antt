use Rattle.object_cache.proofs.Names.{arith, length-map, ap, is_some, length, rules, sym, true, TakenState, all_of}
use Rattle.std.proofs.Common.{◌≡◌, ◌∙◌}
use Rattle.object_cache.proofs.Opening.{blank_hold, taken_all, taken_hold}
use Rattle.object_cache.proofs.saved_objects.SavedObjects.into_parts.Goals as goal

pub returns-else-len-count : goal.returns-else-len-count
returns-else-len-count g c = record {
  headers = search rules;
  most =
      let i = c.self.inside in
      let all : length i.headers.items ≡ i.count = search rules in
      let kept : g.P.Policy.KEEPS_ALL ≡ true = sym c.self.invariant.0 ∙ ap is_some c.in-Some.is in
      (c.self.invariant.1 c.in-Some.entries c.in-Some.is).most
      ∙ ap all_of (sym all ∙ ap (λ t. length t.headers) c.self.view_is) ∙ sym
      (g.met.P.Policy.keeps c.args.setting (length c.args.self.headers) kept);
  bodies =
      λ fs took.
      let i = c.self.inside in
      let all : length i.headers.items ≡ i.count = search rules in
      let s : TakenState = record { headers = i.headers.items; entries = i.entries; count = i.count } in
      taken_hold s fs (rw (← c.self.view_is) at took) c.in-Some.entries c.in-Some.is
      (c.self.invariant.1 c.in-Some.entries c.in-Some.is) all;
  whole =
      λ keeps fs took.
      let i = c.self.inside in
      let all : length i.headers.items ≡ i.count = search rules in
      let s : TakenState = record { headers = i.headers.items; entries = i.entries; count = i.count } in
      taken_all s fs (rw (← c.self.view_is) at took) c.in-Some.entries c.in-Some.is
      (c.self.invariant.1 c.in-Some.entries c.in-Some.is) all;
}

pub returns-in_ok-entries-in-None-clause-bodies : goal.returns-in_ok-entries-in-None-clause-bodies
returns-in_ok-entries-in-None-clause-bodies g c = λ fs took.
    let taken = rw (← c.self.view_is) at took in
    let size : c.len-in-None-2.result ≡ length fs = omega (arith, ap length taken.headers_are, length-map fs (λ f. f.header)) in
    rw c.in_ok-entries-in-None.ensures.none (rw size (blank_hold fs c.capacity-capacity.result))
