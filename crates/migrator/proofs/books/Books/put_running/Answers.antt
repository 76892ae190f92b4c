use Rattle.migrator.proofs.Names.{counted_ok}
use Rattle.std.proofs.Common.{◌∙◌}
use Rattle.migrator.proofs.PutFrames.{may_put_torn, puts_after, puts_none}
use Rattle.migrator.proofs.books.Books.put_running.Goals as goal

pub tear_and_write_back-requires : goal.tear_and_write_back-requires
tear_and_write_back-requires g c =
    let may = c.requires.1 in
    record { stands = may.stands; object = may.object; room = (c.requires.0, may.running, may.room) }

pub put_written-requires-clause-may : goal.put_written-requires-clause-may
put_written-requires-clause-may g c =
    let may = c.requires.1 in
    (c.requires.0, may_put_torn may c.tear_and_write_back.ensures.torn (c.tear_and_write_back.ensures.size ∙ may.running))

pub returns-in_err-tear_and_write_back : goal.returns-in_err-tear_and_write_back
returns-in_err-tear_and_write_back g c =
    puts_none c.args.number c.tear_and_write_back.ensures.torn c.from_residual.ensures.0 c.in_err-tear_and_write_back.ensures.cause

pub returns : goal.returns
returns g c = puts_after c.args.number c.tear_and_write_back.ensures.torn (counted_ok c.in_ok-tear_and_write_back.ensures.cause)
    c.put_written.ensures
