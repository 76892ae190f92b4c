use Rattle.layout.proofs.Names.{[], ℕ, List, refl, sym, ap, subst, arith, false≢true, err_from_is_err_and, Cap, ObjectHeader, IsCount, zeros, Body, IsBody}
use Rattle.layout.proofs.Names.{slots_of, content_of, body_in, front_numbers, role_in}
use Rattle.std.proofs.Common.{◌≡◌, ◌-◌, ◌∙◌}
use Rattle.std.specs.Prelude.{◌++◌, drop}
use Rattle.layout.proofs.Numbers.{AllFit}
use Rattle.layout.proofs.Frames.{front_list, node_parts, node_reported, body_reported, node_found, any_words, free_node_found, free_node_spelling}
use Rattle.layout.proofs.node_frame.decode_node_frame.Goals as goal
use Rattle.layout.proofs.node_frame.decode_node_frame.Goals.{else-has_counts-via-then-has_counts+then-is_blank+else-is_body}
use Rattle.layout.proofs.node_frame.decode_node_frame.Goals.{else-has_counts-via-then-has_counts+else-is_blank, else-has_counts-via-else-has_counts}

pub returns-in_err-decode_slots-clause-refused : goal.returns-in_err-decode_slots-clause-refused
returns-in_err-decode_slots-clause-refused c =
    let p = err_from_is_err_and c.from_residual.result c.from_residual.ensures.1 in
    let refused = c.in_err-decode_slots.ensures.refused in
    rw (p.1) (
      p.2 ∙ refused.0,
      λ f is e. refused.1 (slots_of f.content) is.slots
          (node_parts c.args.geometry c.args.age f c.args.bytes.now is e).middle,
    )

pub returns-then-is_body-clause-found : goal.returns-then-is_body-clause-found
returns-then-is_body-clause-found c =
    let role : ℕ = c.decode_front-role.result.0 in
    let header : ObjectHeader = c.decode_front-role.result.1 in
    let slots : List Cap = c.decode_slots.new.into in
    let words : List ℕ = c.args.scratch.now.words in
    let read = c.in_ok-decode_slots.ensures.found in
    let body : Body = c.body_in-body.result in
    let is = subst (λ (s : List Cap). IsBody role header.owner s (content_of body s [])) c.as_slice-slots.ensures.value
    (c.is_body.ensures.0 c.if-is_body.true)
    in
    node_found c.args.geometry c.args.age role header slots (content_of body slots words) c.args.bytes.now
    (omega arith, (omega arith, (omega arith, (omega arith, tt)))) c.decode_front-role.ensures.role
    (c.has_counts-has_counts.ensures.0 c.if-has_counts.true)
    read.0 (any_words role header.owner body slots words is)
    c.decode_front-role.ensures.bytes read.1 (c.is_blank_from-is_blank.ensures.0 c.if-is_blank.true
    ∙ ap (λ (n : ℕ). zeros (n - 800)) c.requires)

pub returns-else-has_counts-clause-refused : goal.returns-else-has_counts-clause-refused
returns-else-has_counts-clause-refused c =
    let role : ℕ = c.decode_front-role.result.0 in
    let header : ObjectHeader = c.decode_front-role.result.1 in
    let slots : List Cap = c.decode_slots.new.into in
    let read = c.in_ok-decode_slots.ensures.found in
    let fits : AllFit (front_list role header) = (omega arith, (omega arith, (omega arith, (omega arith, tt)))) in (
      refl,
      λ f is e.
          let reported = node_reported c.args.geometry c.args.age role header slots f c.args.bytes.now _ fits
          c.decode_front-role.ensures.role read.0
          c.decode_front-role.ensures.bytes read.1 is e in
          elim c.else-has_counts.branch [
            | else-has_counts-via-then-has_counts+then-is_blank+else-is_body w ↦
                let body : c.body_in-body.result ≡ body_in role slots = c.body_in-body.ensures
                ∙ ap (body_in role) c.as_slice-slots.ensures.value in
                let is_body = subst (λ (b : Body). IsBody role header.owner slots (content_of b slots [])) (sym body)
                (body_reported f role header slots c.args.age reported is.follows is.front) in
                false≢true (sym w.if-is_body.false ∙
                w.is_body.ensures.1 (subst (λ (s : List Cap). IsBody role header.owner s (content_of c.body_in-body.result s []))
                (sym c.as_slice-slots.ensures.value) is_body))
            | else-has_counts-via-then-has_counts+else-is_blank w ↦
                false≢true (sym w.if-is_blank.false ∙
                c.is_blank_from-is_blank.ensures.1
                ((node_parts c.args.geometry c.args.age f c.args.bytes.now is e).last ∙ ap (λ (n : ℕ). zeros (n - 800)) (sym c.requires)))
            | else-has_counts-via-else-has_counts w ↦
                false≢true (sym w.if-has_counts.false ∙ c.has_counts-has_counts.ensures.1
                (subst (λ (h : ObjectHeader). IsCount c.args.age h.allocations × IsCount c.args.age h.calls) (sym reported.header_is)
                (is.front.allocations, is.front.calls)))
          ],
    )

pub returns-then-is_free_node-clause-found : goal.returns-then-is_free_node-clause-found
returns-then-is_free_node-clause-found c =
    let header : ObjectHeader = c.decode_front-role.result.1 in
    let none : c.decode_front-role.result.0 ≡ 0 = omega (arith, c.if-role-eq0.true) in
    let free = c.is_free_node.ensures.0 c.if-is_free_node.true in
    free_node_found c.args.geometry c.args.age header c.args.bytes.now (omega arith, (omega arith, (omega arith, (omega arith, tt))))
    (c.decode_front-role.ensures.role ∙ ap role_in none) free.0 free.1
    (c.decode_front-role.ensures.bytes ∙ ap (λ (n : ℕ). front_numbers n header ++ drop 32 c.args.bytes.now) none) free.2

pub returns-else-is_free_node-clause-refused : goal.returns-else-is_free_node-clause-refused
returns-else-is_free_node-clause-refused c =
    let header : ObjectHeader = c.decode_front-role.result.1 in
    let none : c.decode_front-role.result.0 ≡ 0 = omega (arith, c.if-role-eq0.true) in
    let fits : AllFit (front_list 0 header) = (omega arith, (omega arith, (omega arith, (omega arith, tt)))) in (
      refl,
      λ f is e.
          let free = free_node_spelling c.args.geometry c.args.age header f c.args.bytes.now (drop 32 c.args.bytes.now) fits
          (c.decode_front-role.ensures.role ∙ ap role_in none)
          (c.decode_front-role.ensures.bytes ∙ ap (λ (n : ℕ). front_numbers n header ++ drop 32 c.args.bytes.now) none) is e in
          false≢true (sym c.if-is_free_node.false ∙ c.is_free_node.ensures.1 (free.counts, free.unowned, free.blank)),
    )
