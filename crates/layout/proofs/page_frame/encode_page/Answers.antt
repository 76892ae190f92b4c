use Rattle.model.specs.declared.object.Content.TheVariants as content
use Rattle.layout.proofs.Pages.{page_written, put_last}
use Rattle.layout.proofs.page_frame.encode_page.Goals as goal

pub returns : goal.returns
returns c =
    page_written (record { header = c.args.header; content = content.Page c.args.words.now }) c.put_front.new.into _ c.encode_words.new.into
    c.put_front.ensures.before c.encode_words.ensures
    (put_last c.put_front.new.into c.encode_words.new.into 512)
