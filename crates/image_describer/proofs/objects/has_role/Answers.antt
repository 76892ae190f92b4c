use Rattle.image_describer.proofs.Names.{rules, sym, the_type, role_read}
use Rattle.std.proofs.Common.{◌∙◌}
use denote.Enum.Bare.{same_true, true_same}
use Rattle.image_describer.proofs.objects.has_role.Goals as goal

pub returns : goal.returns
returns g c =
    let read = role_read (g.F.Frames.parts c.args.store.now) c.table.result.now c.header.result c.args.number c.requires c.table.ensures
    c.header.ensures in (
      λ is. sym read ∙ same_true the_type (search rules) c.header.result.role c.args.role (sym c.eq.ensures ∙ is),
      λ is. c.eq.ensures ∙ true_same the_type c.header.result.role c.args.role (read ∙ is),
    )
