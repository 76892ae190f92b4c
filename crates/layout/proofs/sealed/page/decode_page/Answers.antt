use Rattle.layout.proofs.Names.{arith, subst, sym, List, ℕ, take, drop, length, false≢true, take_rest, PageHeader, HasWords}
use Rattle.std.proofs.Common.{◌≡◌, ◌-◌, ◌∙◌}
use Rattle.layout.proofs.SealedHeaders.{page_fits}
use Rattle.layout.proofs.SealedSpelling.{one_page_header}
use Rattle.layout.proofs.sealed.page.decode_page.Goals as goal

pub returns-then-has_words-clause-some : goal.returns-then-has_words-clause-some
returns-then-has_words-clause-some c = record {
  header = c.in_ok-header.ensures.some.0;
  first = c.in_ok-header.ensures.some.1;
  words =
      subst (λ (words : List ℕ). HasWords words c.in_ok-header.header) (take_rest c.args.frame.now 512)
      (c.has_words.ensures.0 c.if-has_words.true);
}

pub returns-else-has_words-clause-none : goal.returns-else-has_words-clause-none
returns-else-has_words-clause-none c = λ h fits is.
    let g : PageHeader = c.in_ok-header.header in
    let small = page_fits g (omega arith) (omega arith) (omega arith) (omega arith) (omega arith) (omega arith) in
    let same : h ≡ g =
    one_page_header c.args.age h g is.header c.in_ok-header.ensures.some.0 fits small (sym is.first ∙ c.in_ok-header.ensures.some.1) in
    let words : HasWords (take (length c.args.frame.now - 512) (drop 512 c.args.frame.now)) g =
    subst (λ (words : List ℕ). HasWords words g) (sym (take_rest c.args.frame.now 512))
    (subst (λ (k : PageHeader). HasWords (drop 512 c.args.frame.now) k) same is.words) in
    false≢true (sym c.if-has_words.false ∙ c.has_words.ensures.1 words)
