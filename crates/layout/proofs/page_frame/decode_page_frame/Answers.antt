use Rattle.layout.proofs.Names.{ℕ, List, drop, refl, sym, ap, rules, arith, inl, inr, false, false≢true, IsTrue, take_rest, ObjectHeader, zero_words}
use Rattle.layout.proofs.Names.{page_body_in}
use Rattle.std.proofs.Common.{◌≡◌, ◌∙◌}
use Rattle.layout.specs.declared.body.Body.TheVariants as body
use Rattle.layout.proofs.Numbers.{AllFit}
use Rattle.layout.proofs.Frames.{front_list}
use Rattle.layout.proofs.Pages.{page_spelling, page_found, zero_words_fit, zero_words_bytes}
use Rattle.layout.proofs.page_frame.decode_page_frame.Goals as goal
use Rattle.layout.proofs.page_frame.decode_page_frame.Goals.{then-not-has_counts-via-then-not-has_counts}
use Rattle.layout.proofs.page_frame.decode_page_frame.Goals.{then-not-has_counts-via-else-not-has_counts+then-not-is_blank_between}

pub returns-then-role-eq1-clause-found : goal.returns-then-role-eq1-clause-found
returns-then-role-eq1-clause-found c =
    let role : ℕ = c.decode_front-role.result.0 in
    let header : ObjectHeader = c.decode_front-role.result.1 in
    let words : List ℕ = c.decode_words.new.into in
    let is : role ≡ 1 = omega (arith, c.if-role-eq1.true) in
    let counted : IsTrue c.has_counts.result = search rules in
    let blank : IsTrue c.is_blank_between.result = search rules in
    page_found c.args.age role header c.args.scratch.now.slots words body.Page c.args.bytes.now
    (omega arith, (omega arith, (omega arith, (omega arith, tt)))) c.decode_front-role.ensures.role (ap page_body_in (sym is))
    (c.has_counts.ensures.0 counted) c.decode_words.ensures.words (inl is)
    c.decode_front-role.ensures.bytes (c.is_blank_between.ensures.0 blank) (sym (take_rest c.args.bytes.now 512)
    ∙ c.decode_words.ensures.bytes)

pub returns-then-is_free_page-clause-found : goal.returns-then-is_free_page-clause-found
returns-then-is_free_page-clause-found c =
    let role : ℕ = c.decode_front-role.result.0 in
    let header : ObjectHeader = c.decode_front-role.result.1 in
    let free = c.is_free_page.ensures.0 c.if-is_free_page.true in
    let counted : IsTrue c.has_counts.result = search rules in
    let blank : IsTrue c.is_blank_between.result = search rules in
    page_found c.args.age role header c.args.scratch.now.slots zero_words body.Free c.args.bytes.now
    (omega arith, (omega arith, (omega arith, (omega arith, tt)))) c.decode_front-role.ensures.role (ap page_body_in (sym free.0))
    (c.has_counts.ensures.0 counted) zero_words_fit (inr (free.0, free.1, refl))
    c.decode_front-role.ensures.bytes (c.is_blank_between.ensures.0 blank) (free.2 ∙ sym zero_words_bytes)

pub returns-then-not-has_counts-clause-refused : goal.returns-then-not-has_counts-clause-refused
returns-then-not-has_counts-clause-refused c =
    let role : ℕ = c.decode_front-role.result.0 in
    let header : ObjectHeader = c.decode_front-role.result.1 in
    let fits : AllFit (front_list role header) = (omega arith, (omega arith, (omega arith, (omega arith, tt)))) in (
      refl,
      λ f is e.
          let spelling = page_spelling c.args.age role header f c.args.bytes.now (drop 32 c.args.bytes.now) fits
          c.decode_front-role.ensures.role
          c.decode_front-role.ensures.bytes is e in
          elim c.then-not-has_counts.branch [
            | then-not-has_counts-via-then-not-has_counts w ↦
                let not : c.has_counts.result ≡ false = search rules in
                false≢true (sym not ∙ c.has_counts.ensures.1 spelling.counts)
            | then-not-has_counts-via-else-not-has_counts+then-not-is_blank_between w ↦
                let not : w.is_blank_between.result ≡ false = search rules in
                false≢true (sym not ∙ w.is_blank_between.ensures.1 spelling.gap)
          ],
    )

pub returns-clause-refused : goal.returns-clause-refused
returns-clause-refused c =
    let role : ℕ = c.decode_front-role.result.0 in
    let header : ObjectHeader = c.decode_front-role.result.1 in
    let fits : AllFit (front_list role header) = (omega arith, (omega arith, (omega arith, (omega arith, tt)))) in (
      refl,
      λ f is e.
          let spelling = page_spelling c.args.age role header f c.args.bytes.now (drop 32 c.args.bytes.now) fits
          c.decode_front-role.ensures.role
          c.decode_front-role.ensures.bytes is e in
          elim spelling.kind [
            | inl one ↦ absurd (omega (arith, one, c.if-role-eq1.false))
            | inr free ↦ false≢true (sym c.if-is_free_page.false ∙ c.is_free_page.ensures.1 free)
          ],
    )
