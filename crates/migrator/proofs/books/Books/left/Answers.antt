use Rattle.migrator.proofs.Names.{ap, sym, subst, arith, ℕ, Some, option_map, IsRunning, frozen_generation, frozen_of, left_of}
use Rattle.std.proofs.Common.{◌∙◌, ◌-◌}
use Rattle.migrator.proofs.Putting.{kept_whole}
use Rattle.migrator.proofs.Tables.{whole_taken}
use Rattle.migrator.proofs.books.Books.left.Goals as goal

pub overflow_sub-result : goal.overflow_sub-result
overflow_sub-result c =
    let was = subst (IsRunning c.args.self.now) c.in-Some.is c.requires.2.running in
    let less = whole_taken c.args.self.now.frozen in
    omega (arith, was.1, less, c.whole.ensures)

pub returns-in-Some : goal.returns-in-Some
returns-in-Some c image =
    let b = c.args.self.now in
    ap (λ (n : ℕ). Some (c.in-Some.size - n)) (c.whole.ensures ∙ sym (kept_whole image b.plan (frozen_generation b) b.frozen
    c.requires.2.frozen.count))
    ∙ ap (λ o. option_map left_of (option_map (frozen_of image b) o)) (sym c.in-Some.is)
