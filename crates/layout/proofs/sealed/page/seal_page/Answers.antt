use Rattle.layout.proofs.Names.{ap, take_rest, sums_of}
use Rattle.std.proofs.Common.{◌∙◌}
use Rattle.layout.proofs.SealedHeaders.{front_long, page_sealed, words_stay}
use Rattle.layout.proofs.sealed.page.seal_page.Goals as goal

pub returns-clause-header : goal.returns-clause-header
returns-clause-header c =
    let frame = c.args.frame.now in
    page_sealed frame c.encode_page_header.new.into c.args.object c.sums_of-words.result
    (c.encode_page_header.auto.into ∙ front_long frame c.requires)
    (c.sums_of-words.ensures.sums ∙ ap sums_of (take_rest frame 512)) c.encode_page_header.ensures

pub returns-clause-words : goal.returns-clause-words
returns-clause-words c =
    let frame = c.args.frame.now in
    words_stay frame c.encode_page_header.new.into (c.encode_page_header.auto.into ∙ front_long frame c.requires)
