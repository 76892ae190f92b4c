use Rattle.space_bank.proofs.Names.{ℕ, List, length, Vec, Global, vec_len, ap, sym, refl, arith, vec_capacity, objects_in, HasNoneUsed, IsNextUsed, is_listed}
use Rattle.std.proofs.Common.{◌∙◌, ◌++◌}
use Rattle.space_bank.proofs.Missing.{listed_more, listed_same, listed_whole, free_not_listed, listed_inner, listed_up_to}
use Rattle.space_bank.proofs.listing.list_all.Goals as goal
use Rattle.space_bank.proofs.listing.list_all.Goals.{then-is_listed, else-is_listed}

pub loop-number-preserved : goal.loop-number-preserved
loop-number-preserved g c =
    let os = objects_in (g.F.Frames.parts c.args.store.now) in
    let test = is_listed os c.args.bank c.args.deep in
    let n = c.in-Some.number in
    let next : IsNextUsed os c.loop-number.from n = c.in-Some.ensures.some os c.requires.free in
    let so = listed_up_to test c.args.listed.now.items c.loop-number.listed.items c.loop-number.from n next.past
    c.loop-number.invariant.listed
    (λ m past before. free_not_listed os c.args.bank m c.args.deep c.requires.bank (next.least m past before)) in
    elim c.if-is_listed.branch [
      | then-is_listed w ↦
          let inner = listed_inner os c.args.bank n c.args.deep c.requires.prime c.requires.other
          (sym c.is_listed.ensures ∙ w.if-is_listed.true) in
          record {
            listed = listed_more test c.args.listed.now.items c.loop-number.listed.items c.if-is_listed.listed.items n so
                (sym c.is_listed.ensures ∙ w.if-is_listed.true) (ap (λ (v : Vec ℕ Global). v.items) w.listed-is
                ∙ w.push_reserved.ensures.items);
            count = omega (arith, next.past, c.loop-number.invariant.count, ap vec_len w.listed-is, w.push_reserved.ensures.len);
            room = ap vec_capacity w.listed-is ∙ w.push_reserved.ensures.capacity ∙ c.loop-number.invariant.room;
            within = omega (arith, next.inside);
          }
      | else-is_listed w ↦ record {
        listed = listed_same test c.args.listed.now.items c.loop-number.listed.items c.if-is_listed.listed.items n so
            (sym c.is_listed.ensures ∙ w.if-is_listed.false) (ap (λ (v : Vec ℕ Global). v.items) w.listed-is);
        count = omega (arith, next.past, c.loop-number.invariant.count, ap vec_len w.listed-is);
        room = ap vec_capacity w.listed-is ∙ c.loop-number.invariant.room;
        within = omega (arith, next.inside);
      }
    ]

pub returns-clause-listed : goal.returns-clause-listed
returns-clause-listed g c =
    let os = objects_in (g.F.Frames.parts c.args.store.now) in
    let none : HasNoneUsed os c.loop-number.from = c.in_default.ensures.none os c.requires.free refl in
    listed_up_to (is_listed os c.args.bank c.args.deep) c.args.listed.now.items c.loop-number.listed.items c.loop-number.from (length os)
    c.loop-number.invariant.within c.loop-number.invariant.listed
    (λ m past inside. free_not_listed os c.args.bank m c.args.deep c.requires.bank (none m past inside))
    ∙ ap (λ (xs : List ℕ). c.args.listed.now.items ++ xs) (listed_whole os c.args.bank c.args.deep)
