use Rattle.object_cache.proofs.Names.{SavesPage, counted_ok, newest, stored_of, subst}
use Rattle.std.proofs.Common.{◌∙◌}
use Rattle.object_cache.proofs.Journaling.{read_words}
use Rattle.object_cache.proofs.Saving.{not_saved, saves_after}
use Rattle.object_cache.proofs.store.journal.save_read.Goals as goal

pub returns-in_err-fetch : goal.returns-in_err-fetch
returns-in_err-fetch g c =
    not_saved g.D.Device.disk c.fetch.ensures.reads c.requires.may.sound c.from_residual.result _ c.from_residual.ensures.1
    c.in_err-fetch.ensures.cause

pub returns : goal.returns
returns g c =
    let said = c.save_page.ensures in
    let words = c.as_array.ensures ∙ read_words c.in_ok-fetch.field-0 c.fetch.new.scratch
    (newest (stored_of g.D.Device.disk c.args.durable.now) c.args.number)
    c.in_ok-fetch.ensures.found c.requires.page in
    subst (λ ws. SavesPage g.D.Device.disk c.args.durable.now c.save_page.new.self c.args.number c.args.age ws c.save_page.result) words
    (saves_after g.D.Device.disk c.fetch.ensures.reads c.requires.may.sound (counted_ok c.in_ok-fetch.ensures.cause) (record {
      stored = said.journaled;
      unchanged = said.unchanged;
      plan = said.plan;
      generation = said.generation;
      sound = said.sound;
      size = said.size;
      any_moment = said.any_moment;
      cause = said.cause;
    }))
