use Rattle.layout.proofs.Names.{List, ℕ, ap, drop, length, number, zeros, words_bytes}
use Rattle.std.proofs.Common.{◌*◌, ◌++◌, ◌∙◌}
use Rattle.layout.proofs.SealedSectors.{sector_written}
use Rattle.layout.proofs.sealed.sector.encode_sector.Goals as goal

pub returns : goal.returns
unfolding words_bytes number
returns c =
    let rest : List ℕ = drop (8 * length c.args.numbers.now) c.blank.new.bytes in
    sector_written c.args.numbers.now c.blank.new.bytes (c.write_u64_into.new.dst ++ rest) c.seal.new.row c.requires.numbers
    (c.blank.ensures ∙ ap zeros c.requires.size) (ap (λ (t : List ℕ). t ++ rest) c.write_u64_into.ensures) c.seal.ensures.sealed
    c.seal.ensures.body
