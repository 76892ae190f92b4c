use Rattle.layout.proofs.Pages.{fronted}
use Rattle.layout.proofs.page_frame.put_front.Goals as goal

pub returns-clause-before : goal.returns-clause-before
returns-clause-before c = fronted c.args.header c.blank_front.new.bytes c.encode_front.new.into c.blank_front.ensures.before
    c.encode_front.ensures.before
    c.encode_front.ensures.after
