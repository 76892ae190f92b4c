use Rattle.object_cache.proofs.Names.{[], subst, sym, length, length-append, HaveRoom, with_body, content_of, frame_of, TakenState, rules, some_map}
use Rattle.std.proofs.Common.{◌≡◌, ◌∷◌, ◌∙◌}
use Rattle.object_cache.proofs.Opening.{kept_room, held_in, taken_below, taken_more}
use Rattle.object_cache.proofs.saved_objects.SavedObjectsIntake.take.Goals as goal

pub keep_body-requires : goal.keep_body-requires
keep_body-requires g c =
    let number_is : c.len-number.result ≡ length c.self.inside.headers.items = search rules in
    rw number_is (held_in c.self.inside.entries (length c.self.inside.headers.items) c.self.inside.count
    (taken_below c.self.view_is c.requires.0 c.requires.1 c.requires.2) c.self.invariant.1)

pub invariant_of-self : goal.invariant_of-self
invariant_of-self g c = rw c.in_err-push.ensures.items c.self.invariant

pub invariant_of-self-2 : goal.invariant_of-self-2
invariant_of-self-2 g c =
    let i = c.self.inside in
    let body = content_of c.args.read.1 c.args.scratch.now.slots c.args.scratch.now.words in
    let number_is : c.len-number.result ≡ length i.headers.items = search rules in
    let below = taken_below c.self.view_is c.requires.0 c.requires.1 c.requires.2 in
    rw (c.keep_body.ensures, c.in_ok-push.ensures.items, number_is) (
      some_map (with_body (length i.headers.items) body) i.entries ∙ c.self.invariant.0,
      λ e is. subst (λ k. HaveRoom e k i.count) (sym (length-append i.headers.items (c.args.read.0 ∷ [])))
          (kept_room i.entries (length i.headers.items) i.count below c.self.invariant.1 body e is),
    )

pub returns-clause-took : goal.returns-clause-took
returns-clause-took g c = λ fs took.
    let i = c.self.inside in
    let number_is : c.len-number.result ≡ length i.headers.items = search rules in
    let s : TakenState = record { headers = i.headers.items; entries = i.entries; count = i.count } in
    rw (c.keep_body.ensures, c.in_ok-push.ensures.items, number_is)
    (taken_more s fs (frame_of c.args.read c.args.scratch.now) (taken_below c.self.view_is c.requires.0 c.requires.1 c.requires.2)
    c.self.invariant.1
    (rw (← c.self.view_is) at took))
