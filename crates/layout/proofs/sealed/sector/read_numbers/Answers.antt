use Rattle.std.proofs.Common.{ℕ, ap, rules, sym, ◌*◌, ◌∙◌}
use Rattle.layout.proofs.Numbers.{IsBytes}
use Rattle.layout.proofs.SealedSectors.{words_fit, words_read}
use Rattle.layout.proofs.sealed.sector.read_numbers.Goals as goal

pub returns-clause-numbers : goal.returns-clause-numbers
returns-clause-numbers c =
    let small : IsBytes c.args.bytes.now = search rules in
    words_read c.args.bytes.now c.read_u64_into.new.dst small (c.requires ∙ ap (λ (n : ℕ). 8 * n) (sym c.read_u64_into.auto.dst))
    c.read_u64_into.ensures

pub returns-clause-fits : goal.returns-clause-fits
returns-clause-fits c =
    let small : IsBytes c.args.bytes.now = search rules in
    words_fit c.args.bytes.now c.read_u64_into.new.dst small c.read_u64_into.ensures
