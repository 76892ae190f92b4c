use Rattle.std.proofs.Common.{sym, ◌∙◌}
use Rattle.std.proofs.lemmas.Result.{on_ok_weaker}
use Rattle.layout.proofs.Directories.{directory_fits, one_directory}
use Rattle.ckpt_log.proofs.sealed.directory.check_entries.Goals as goal

pub returns-clause-found : goal.returns-clause-found
returns-clause-found c =
    on_ok_weaker c.decode_directory.result
    (λ is. (
      is.0,
      one_directory c.args.entries.now c.decode_directory.new.into c.entries_fit.ensures
          (directory_fits c.args.geometry c.decode_directory.new.into is.0) (sym c.encode_directory.ensures ∙ is.1),
    ))
    c.decode_directory.ensures.found
