use Rattle.layout.proofs.Names.{arith, sym, false≢true}
use Rattle.std.proofs.Common.{◌∙◌}
use Rattle.layout.proofs.Superblocks.{end_from, magic_from, magic_is_read, none_unmarked, version_reported}
use Rattle.layout.proofs.superblock.version_in.Goals as goal
use Rattle.layout.proofs.superblock.version_in.Goals.{else-magic-eq-SUPERBLOCK_MAGIC-via-then-magic-eq-SUPERBLOCK_MAGIC+else-has_end}
use Rattle.layout.proofs.superblock.version_in.Goals.{else-magic-eq-SUPERBLOCK_MAGIC-via-else-magic-eq-SUPERBLOCK_MAGIC}

pub returns-in_err-version-clause-none : goal.returns-in_err-version-clause-none
returns-in_err-version-clause-none c =
    none_unmarked c.args.bytes.now c.number_at-second.result c.number_at-second.ensures (omega arith) c.from_residual.result
    c.in_err-version.ensures.none

pub returns-then-has_end-clause-magic : goal.returns-then-has_end-clause-magic
returns-then-has_end-clause-magic c =
    magic_is_read c.args.bytes.now c.number_at-magic.result c.number_at-magic.ensures c.if-magic-eq-SUPERBLOCK_MAGIC.true

pub returns-then-has_end-clause-version : goal.returns-then-has_end-clause-version
returns-then-has_end-clause-version c =
    version_reported c.args.bytes.now c.number_at-second.result c.in_ok-version.version c.number_at-second.ensures (omega arith)
    c.in_ok-version.ensures.some

pub returns-else-magic-eq-SUPERBLOCK_MAGIC-clause-none : goal.returns-else-magic-eq-SUPERBLOCK_MAGIC-clause-none
returns-else-magic-eq-SUPERBLOCK_MAGIC-clause-none c = λ mark.
    elim c.else-magic-eq-SUPERBLOCK_MAGIC.branch [
      | else-magic-eq-SUPERBLOCK_MAGIC-via-then-magic-eq-SUPERBLOCK_MAGIC+else-has_end w ↦
          false≢true (sym w.if-has_end.false ∙ w.has_end.ensures.1
          (end_from c.args.bytes.now c.number_at-second.result c.number_at-second.ensures (omega arith) c.in_ok-version.version
          c.in_ok-version.ensures.some mark))
      | else-magic-eq-SUPERBLOCK_MAGIC-via-else-magic-eq-SUPERBLOCK_MAGIC w ↦
          w.if-magic-eq-SUPERBLOCK_MAGIC.false (magic_from c.args.bytes.now c.number_at-magic.result c.number_at-magic.ensures (omega arith)
          mark)
    ]
