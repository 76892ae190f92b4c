-- Calls that only read, one after another.
use Rattle.image_describer.proofs.Names.{HasLooked, List, Object, Parts, subst, sym, ℕ, Capability, Content, IsTrue, content_at, is_annex, is_root}
use Rattle.image_describer.proofs.Names.{refl, root_in, is_process, annex_at, Root, OnlyReads, Refusal, Err, IsErrAnd, Ok, Result}
use Rattle.image_describer.proofs.Names.{read_well, out_of_memory, reads_on}
use Rattle.std.proofs.Common.{◌≡◌, ◌∙◌}
use Rattle.model.specs.declared.object.Content.TheVariants as content
use Rattle.model.specs.declared.answer.Refusal.TheVariants as refusal

module _ {S : Type 0} {parts : S → Parts} {Continues : S → S → Type 0} {s t : S} where
  -- a read that succeeded left the parts the same
  pub looked_once : {T : Type 0} {x : T} → OnlyReads parts Continues s t (let r : Result T Refusal = Ok x in r) →
      HasLooked parts Continues s t
  looked_once reads = record { same = reads.same; continues = reads.snapshots.continues }

  pub read_failed : {T U : Type 0} {e : Refusal} (r : Result U Refusal) → IsErrAnd r (λ y. y ≡ e) →
      OnlyReads parts Continues s t (let q : Result T Refusal = Err e in q) → OnlyReads parts Continues s t r
  read_failed (Ok y) same reads = absurd same
  read_failed (Err y) same reads = record {
    same = tt;
    snapshots = reads.snapshots;
    refusals = rw same reads.refusals;
    cause = (λ fault. reads.cause.0 (cc), λ failed. let fault = reads.cause.1 failed in cc);
  }

  -- if a store was only read, a call that now returns a value satisfies `OnlyReads`
  pub looked_well : {T : Type 0} {x : T} → HasLooked parts Continues s t → OnlyReads parts Continues s t
      (let r : Result T Refusal = Ok x in r)
  looked_well looked = read_well looked.same looked.continues

  pub read_short : {U : Type 0} (r : Result U Refusal) → HasLooked parts Continues s t → IsErrAnd r (λ y. y ≡ refusal.NoMemory) →
      OnlyReads parts Continues s t r
  read_short (Ok y) looked same = absurd same
  read_short {U} (Err y) looked same =
      subst (λ (e : Refusal). OnlyReads parts Continues s t (let q : Result U Refusal = Err e in q)) (sym same)
      (out_of_memory looked.same looked.continues)

module _ {S : Type 0} {parts : S → Parts} {Continues : S → S → Type 0} (twice : (s t u : S) → Continues s t → Continues t u → Continues s u)
    {s t u : S} where
  pub looked_twice : HasLooked parts Continues s t → HasLooked parts Continues t u → HasLooked parts Continues s u
  looked_twice one two = record { same = two.same ∙ one.same; continues = twice s t u one.continues two.continues }

  pub looked_on : {T : Type 0} {r : Result T Refusal} → HasLooked parts Continues s t → OnlyReads parts Continues t u r →
      OnlyReads parts Continues s u r
  looked_on looked reads = reads_on looked.same looked.continues twice reads

  pub reads_after : {T U : Type 0} {x : T} {r : Result U Refusal} → OnlyReads parts Continues s t (let q : Result T Refusal = Ok x in q) →
      OnlyReads parts Continues t u r → OnlyReads parts Continues s u r
  reads_after first second = looked_on (looked_once first) second

-- if a root was read, the number that it names is an annex's
pub root_annex : (os us : List Object) (n : ℕ) (root : Root Capability) → us ≡ os → content_at os n ≡ content.Root root →
    (IsTrue (is_process os n) → IsTrue (is_annex (content_at os (annex_at os n)))) → IsTrue (is_annex (content_at us root.annex))
root_annex os us n root same at annex =
    let process : IsTrue (is_process os n) = subst (λ (held : Content Capability). IsTrue (is_root held)) (sym at) refl in
    subst (λ (vs : List Object). IsTrue (is_annex (content_at vs root.annex))) (sym same)
    (subst (λ (held : Content Capability). IsTrue (is_annex (content_at os (root_in held).annex))) at (annex process))
