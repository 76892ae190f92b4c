use Rattle.std.proofs.Common.{sym, ◌∙◌}
use Rattle.capability.proofs.Roles.{no_root_role, process_by_role, role_there}
use Rattle.capability.proofs.roots.is_process.Goals as goal

pub returns-in_default : goal.returns-in_default
returns-in_default g c =
    let p = g.F.Frames.parts c.args.store.now in
    sym (process_by_role p c.args.number c.requires ∙ role_there p c.args.number c.table.result.now c.header.result c.table.ensures
    c.header.ensures ∙
    no_root_role c.header.result.role c.in_default.not-Root)
