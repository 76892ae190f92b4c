use Rattle.layout.proofs.Names.{rules, refl, sym, arith, false≢true}
use Rattle.std.proofs.Common.{◌∙◌}
use Rattle.layout.proofs.Capabilities.{as_numbers, three_read, none_spelt}
use Rattle.layout.proofs.capability.decode_capability.Goals as goal

pub returns-then-read-clause-found : goal.returns-then-read-clause-found
returns-then-read-clause-found c = search (rules, three_read, as_numbers)

pub returns-else-read-clause-refused : goal.returns-else-read-clause-refused
returns-else-read-clause-refused c =
    let read = three_read c.args.bytes.now c.number_at-head.result c.number_at-object.result c.number_at-count.result c.requires
    c.number_at-head.ensures
    c.number_at-object.ensures c.number_at-count.ensures in (
      refl,
      none_spelt c.args.geometry c.args.age c.args.bytes.now c.number_at-head.result c.number_at-object.result c.number_at-count.result
          c.from_bits_retain-access.result.0 c.assembled-read.result.what
          (omega arith) (omega arith) (omega arith) read (c.from_bits_retain-access.ensures tt) c.assembled-read.ensures.what
          (λ h n f. false≢true (sym c.if-read.false ∙ c.assembled-read.ensures.spelt.1 (h, n, f))),
    )
