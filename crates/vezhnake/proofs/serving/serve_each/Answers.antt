use Rattle.vezhnake.proofs.Names.{arith, ℕ, None, Some, length, map, rules, slice_index_or, subst, sym, length-map, length-set, command_of}
use Rattle.std.proofs.Common.{◌≡◌, ◌<◌, ◌∙◌}
use Rattle.vezhnake.proofs.ServedLines.{behind_next, none_served, served_next, still_accepted}
use Rattle.vezhnake.proofs.serving.serve_each.Goals as goal

pub loop-index-init : goal.loop-index-init
loop-index-init g c = record {
  served = none_served g.S.ObjectStore.view g.S.Frames.parts c.crashes_in_runs_are_survived.ensures c.args.kernel.now;
  rest = search rules;
  sized = search rules;
  goes_on = λ on k below. absurd (omega (arith, below));
}

pub returns-then-is_last-clause-served : goal.returns-then-is_last-clause-served
returns-then-is_last-clause-served g c =
    let within : c.loop-index.index < length c.args.commands.now = search rules in
    let in_commands = subst (λ (n : ℕ). c.loop-index.index < n) (sym (length-map c.args.commands.now command_of)) within in
    let in_replies : c.loop-index.index < length c.loop-index.replies = search rules in
    let is : slice_index_or (map command_of c.args.commands.now) c.loop-index.index None ≡ Some c.in-Some.command = search rules in
    served_next g.S.ObjectStore.view g.S.Frames.parts c.crashes_in_runs_are_survived.ensures c.args.kernel.now c.loop-index.kernel
    c.reply_to-reply.new.kernel (map command_of c.args.commands.now) c.loop-index.replies c.loop-index.index c.in-Some.command
    c.reply_to-reply.result
    in_commands in_replies is c.loop-index.invariant.served c.reply_to-reply.ensures

pub loop-index-preserved : goal.loop-index-preserved
loop-index-preserved g c =
    let within : c.loop-index.index < length c.args.commands.now = search rules in
    let in_commands = subst (λ (n : ℕ). c.loop-index.index < n) (sym (length-map c.args.commands.now command_of)) within in
    let in_replies : c.loop-index.index < length c.loop-index.replies = search rules in
    let is : slice_index_or (map command_of c.args.commands.now) c.loop-index.index None ≡ Some c.in-Some.command = search rules in
    record {
      served = served_next g.S.ObjectStore.view g.S.Frames.parts c.crashes_in_runs_are_survived.ensures c.args.kernel.now
          c.loop-index.kernel
          c.reply_to-reply.new.kernel (map command_of c.args.commands.now) c.loop-index.replies c.loop-index.index c.in-Some.command
          c.reply_to-reply.result in_commands in_replies is c.loop-index.invariant.served c.reply_to-reply.ensures;
      rest = behind_next c.loop-index.replies c.args.replies.now c.loop-index.index c.reply_to-reply.result c.loop-index.invariant.rest;
      sized = length-set c.loop-index.replies c.loop-index.index c.reply_to-reply.result ∙ c.loop-index.invariant.sized;
      goes_on = still_accepted c.args.stops c.is_last.result c.loop-index.replies c.loop-index.index c.reply_to-reply.result in_replies
          c.is_last.ensures
          c.if-is_last.false c.loop-index.invariant.goes_on;
    }
