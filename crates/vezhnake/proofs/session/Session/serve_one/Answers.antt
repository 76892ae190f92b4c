use Rattle.vezhnake.proofs.Saving.{one_served}
use Rattle.vezhnake.proofs.session.Session.serve_one.Goals as goal

pub returns : goal.returns
returns c =
    one_served c.args.self.now c.collect-2.new.self c.serve_one.new.self c.collect-2.ensures.kernel c.args.command.now c.args.reply.now
    c.in-Some.answer c.collect-2.ensures.answer c.in-Some.ensures.served c.collect-2.result c.collect-2.ensures.calls c.status_of.result
    c.status_of.ensures
