use Rattle.migrator.proofs.Names.{Some, ap, sym, subst, option_map, FrozenPuts, IsKeepable, IsObject, most, content_behind, frozen_of, seen_by, stored_of}
use Rattle.migrator.proofs.Names.{HasFreeSlot}
use Rattle.std.proofs.Common.{◌≡◌}
use Rattle.migrator.proofs.durable.Durable.put_frozen.Goals as goal

pub put_running-requires : goal.put_running-requires
put_running-requires g c =
    let disk = g.D.Device.disk c.self.inside.device in
    let b = c.self.inside.books in
    let room = subst (λ t. (f : FrozenPuts) → (stored_of g.D.Device.disk t).frozen ≡ Some f → HasFreeSlot f.size f.put c.args.number)
    (sym c.self.view_is)
    c.requires.room in (
      c.in-Some.field-0,
      record {
        stands = c.self.invariant;
        running = c.in-Some.is;
        object = subst (λ t. IsObject t.books.plan.geometry c.args.number) (sym c.self.view_is) c.requires.object;
        keepable = subst (λ t. IsKeepable t.books.plan.geometry most c.args.number
            (record { header = c.args.header; content = (content_behind c.args.content) })) (sym c.self.view_is) c.requires.keepable;
        room = room (frozen_of (seen_by disk.seen b) b c.in-Some.field-0) (ap (option_map (frozen_of (seen_by disk.seen b) b))
            c.in-Some.is);
      },
    )
