-- Turns of a run, one after another, and what they write.
use Rattle.runs.proofs.Names.{ℕ, List, [], Option, None, Some, refl, sym, ap, subst, append-nil, Appends, Appends-trans, AppendsFront, Written, Wrote}
use Rattle.runs.proofs.Names.{WroteFront, flat_map-append, Geometry, Machine, wrote_trans, Turn, IsTurn, IsRun, reply_text, output_of, lines_in}
use Rattle.std.proofs.Common.{◌≡◌, ◌<◌, ◌∷◌, ◌++◌, ◌∙◌}

-- a run and one more turn are a run
pub run_more : (g : Geometry) (m : Machine) (ts : List Turn) (mid : Machine) (t : Turn) →
    IsRun g m ts mid → t.before ≡ mid → IsTurn g t → IsRun g m (ts ++ t ∷ []) t.after
run_more g m [] mid t run begins turn = (begins ∙ run, turn, refl)
run_more g m (u ∷ us) mid t run begins turn = (run.0, run.1, run_more g u.after us mid t run.2 begins turn)

pub lines_more : (ts : List Turn) (t : Turn) → lines_in (ts ++ t ∷ []) ≡ lines_in ts ++ t.line ∷ []
lines_more [] t = refl
lines_more (u ∷ us) t = ap (λ (ls : List (List ℕ)). u.line ∷ ls) (lines_more us t)

pub output_more : (ts : List Turn) (t : Turn) → output_of (ts ++ t ∷ []) ≡ output_of ts ++ reply_text t.reply
output_more ts t = simp (flat_map-append (λ (u : Turn). reply_text u.reply) ts (t ∷ []), append-nil)

-- if nothing changes, the empty text was appended
appends_none : (old : Option (List ℕ)) → Appends old old []
appends_none None = tt
appends_none (Some xs) = sym (append-nil xs)

pub wrote_none : (old : Written) → Wrote old old []
wrote_none old = record { taken = appends_none old.contents; none_failed = refl }

-- writing a text and then nothing writes the text
pub wrote_kept : (a b c : Written) (text : List ℕ) → Wrote a b text → Wrote b c [] → Wrote a c text
wrote_kept a b c text wrote kept = subst (Wrote a c) (append-nil text) (wrote_trans a b c text [] wrote kept)

nothing_in_front : (a b : Option (List ℕ)) → AppendsFront a b [] → Appends a b []
nothing_in_front a b ([], rest, is, appends) = appends
nothing_in_front a b (x ∷ xs, rest, is, appends) = cc

-- if a text was written, and then passing it on failed, the text was appended and a failure counted
pub wrote_and_failed : (a b c : Written) (text : List ℕ) → Wrote a b text → WroteFront b c [] →
    Appends a.contents c.contents text × (a.failures < c.failures)
wrote_and_failed a b c text wrote failed = (
  subst (Appends a.contents c.contents) (append-nil text)
      (Appends-trans a.contents b.contents c.contents text [] wrote.taken (nothing_in_front b.contents c.contents failed.taken)),
  subst (λ (n : ℕ). n < c.failures) wrote.none_failed failed.failed,
)
