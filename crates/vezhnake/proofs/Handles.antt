-- What a call does to a handle, by the session before and after it.
use Rattle.vezhnake.proofs.Names.{ℕ, Bool, true, false, List, Some, Err, refl, sym, subst, IsSome, Session, Status, ClosesHandle, OnSession, OpensHandle}
use Rattle.vezhnake.proofs.Names.{OpensKernel, OpensSession, Option, None}
use Rattle.std.proofs.Common.{◌≡◌, ◌↔◌, ◌∙◌}
use Rattle.vezhnake.specs.declared.status.Status.TheVariants as status

module _ (U : Type 0) (P : Session → Session → Type 0) (old new : Option Session) where
  pub on_none : old ≡ None → new ≡ None → U → OnSession old new status.NotOpen U P
  on_none was is same = subst (λ (o : Option Session). OnSession o new status.NotOpen U P) (sym was) (refl, is, same)

  pub on_some : (s t : Session) (result : Status) → old ≡ Some s → new ≡ Some t → P s t → OnSession old new result U P
  on_some s t result was is holds =
      subst (λ (o : Option Session). OnSession o new result U P) (sym was) (subst (λ (n : Option Session). OnSession (Some s) n result U P)
      (sym is) holds)

module _ (old new : Option Session) where
  pub closes_none : old ≡ None → new ≡ None → ClosesHandle old new status.NotOpen
  closes_none was is = subst (λ (o : Option Session). ClosesHandle o new status.NotOpen) (sym was) (refl, is)

  pub closes_some : (s : Session) → old ≡ Some s → new ≡ None → ClosesHandle old new status.Done
  closes_some s was is = subst (λ (o : Option Session). ClosesHandle o new status.Done) (sym was) (refl, is)

-- a handle that isn't open has no session
pub without : (old : Option Session) (is_open : Bool) → ((is_open ≡ true) ↔ IsSome old) → is_open ≡ false → old ≡ None
without None is_open flagged shut = refl
without (Some s) is_open flagged shut = let both : false ≡ true = sym shut ∙ flagged.1 refl in cc

module _ (bytes : List ℕ) (cache : ℕ) where
  pub opens_again : (old : Option Session) → IsSome old → OpensHandle old old bytes cache status.AlreadyOpen
  opens_again None is = cc
  opens_again (Some s) is = (refl, refl)

  pub opens_new : (old new : Option Session) (s : Session) → old ≡ None → new ≡ Some s → OpensSession bytes cache s
      → OpensHandle old new bytes cache status.Done
  opens_new old new s was is opens =
      subst (λ (o : Option Session). OpensHandle o new bytes cache status.Done) (sym was)
      (subst (λ (n : Option Session). OpensHandle None n bytes cache status.Done) (sym is) (refl, opens))

  pub opens_none : (old : Option Session) (why : Status) → old ≡ None → OpensKernel bytes cache (Err why) →
      OpensHandle old old bytes cache why
  opens_none old why was refused = subst (λ (o : Option Session). OpensHandle o o bytes cache why) (sym was) refused
