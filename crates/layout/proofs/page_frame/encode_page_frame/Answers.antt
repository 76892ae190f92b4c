use Rattle.layout.proofs.Names.{ℕ, length, take, ap, arith, zeros, content_behind}
use Rattle.std.proofs.Common.{◌≡◌, ◌++◌, ◌-◌, ◌∙◌}
use Rattle.layout.proofs.Pages.{default_written, not_page}
use Rattle.layout.proofs.page_frame.encode_page_frame.Goals as goal

pub returns-in_default : goal.returns-in_default
returns-in_default c =
    let rest : length c.put_front.new.into - 512 ≡ 4096 = omega arith in
    default_written (record { header = c.args.header; content = content_behind c.args.content }) c.put_front.new.into c.blank_from.new.bytes
    c.put_front.ensures.before
    (not_page c.args.content c.in_default.not-Page)
    (c.blank_from.ensures ∙ ap (λ (n : ℕ). take 512 c.put_front.new.into ++ zeros n) rest)
