use Rattle.space_bank.proofs.Names.{true, not, sym, ap, content_at, frames_of, objects_in, keepable_roles, role_read, the_type}
use Rattle.std.proofs.Common.{◌≡◌, ◌∙◌, ◌^◌, ◌-◌}
use denote.Enum.Bare.{true_same}
use Rattle.space_bank.proofs.Missing.{kept_other}
use Rattle.space_bank.proofs.counting.read_number.Goals as goal

pub returns-then-ne-clause-kept : goal.returns-then-ne-clause-kept
returns-then-ne-clause-kept g c =
    let p = g.F.Frames.parts c.args.store.now in
    let roles = keepable_roles p.geometry (2 ^ 64 - 1) (frames_of p) c.requires.may.keepable in
    let is = role_read p c.table.result.now c.header.result c.args.number roles c.table.ensures c.header.ensures in
    sym (kept_other c.args.role (content_at (objects_in p) c.args.number) (λ same.
    let wrong : true ≡ not true = sym c.if-ne.true ∙ c.ne.ensures ∙ ap not (true_same the_type c.header.result.role c.args.role (is ∙ same))
    in
    cc))
