-- An order frees exactly the objects that it rescinds.
use Rattle.model_laws.proofs.Names.{nat_tests, ℕ, Bool, true, false, List, [], inl, inr, refl, ap, arith, IsTrue, slice_index_or, range_with_len, cases_Bool}
use Rattle.model_laws.proofs.Names.{ext_get_or, get_or-set_other, get_or-set_same, get_or-map-range_with_len, length-map-range_with_len, Capability, Void}
use Rattle.model_laws.proofs.Names.{Geometry, Content, Object, Arguments, BankOrder, ResultCode, freed, freed_by, on_bank, under, with_new, renewing, free}
use Rattle.model_laws.proofs.Names.{is_bank, is_free, OrderOutcome, made, refused, is_given_up, is_member, rescind, NamesItsKind, content_at, GivesUpNothing}
use Rattle.model_laws.proofs.Names.{GivesUpRescinded, rescinded_by, or-false}
use Rattle.std.proofs.Common.{◌≡◌, ◌≢◌, ◌==◌, ◌<◌, ◌&&◌, ◌||◌, ◌∷◌, ◌∙◌}
use Rattle.std.specs.Prelude.{if◌then◌else◌, length, map}
use Rattle.model.specs.declared.order.BankOrder.TheVariants as bank
use Rattle.model.specs.declared.order.ResultCode.TheVariants as code
use Rattle.model_laws.proofs.BankFreed.{under_given_up, used_within}
use Rattle.model_laws.proofs.BankRescind.{kept_tests, used_where}
use Rattle.model_laws.proofs.BankReturn.{inherited_content}
use Rattle.model_laws.proofs.BankTree.{tree_of}
use Rattle.model_laws.proofs.Cases.{chosen, one_of}
use Rattle.model_laws.proofs.InvocationFrame.{invocation_frame}
use Rattle.model_laws.proofs.NumberLists.{only_member}
use Rattle.model_laws.proofs.Revoking.{rescinds_all}
use Rattle.model_laws.proofs.SoundOrders.{IsNow}
use Rattle.model_laws.proofs.SoundParts.{nearly_from}
use Rattle.model_laws.proofs.Usage.{SameFrame, tests_at}

-- if a number in use stays in use, its object wasn't freed (`is_given_up`)
pub none_given_up : (os us : List Object) (n : ℕ) → (is_free (content_at os n) ≡ false → is_free (content_at us n) ≡ false) →
    is_given_up os us n ≡ false
none_given_up os us n stays = grind (arith, nat_tests)

-- a number is free after a rescind exactly if it is a member or was free
pub free_rescinded : (set : List ℕ) (os : List Object) (n : ℕ) →
    is_free (content_at (rescind set os) n) ≡ (if is_member set n then true else is_free (content_at os n))
free_rescinded set os n = elim (cases_Bool (is_member set n)) [
  | inl e ↦ rw e ((rescinds_all set os).0 n e)
  | inr e ↦ rw e ((kept_tests os set n e).free)
]

-- if all members of a set are in use, a rescind frees exactly the members
pub rescinded_given_up : (set : List ℕ) (os : List Object) → ((n : ℕ) → is_member set n ≡ true → is_free (content_at os n) ≡ false)
    → (n : ℕ) → is_given_up os (rescind set os) n ≡ is_member set n
rescinded_given_up set os used n = grind (arith, nat_tests, free_rescinded)

-- a new object replaces no object in use
pub new_used : (os : List Object) (n b : ℕ) (c : Content Capability) → is_free c ≡ false → (m : ℕ) → is_free (content_at os m) ≡ false →
    is_free (content_at (with_new os n b c) m) ≡ false
unfolding with_new
new_used os n b c some m used = grind (arith, nat_tests, get_or-set_other, get_or-set_same, used_within)

-- if two lists of objects agree in owners, roles, annexes and limits (`SameFrame`), no object is freed between them
pub none_in_frame : (os us : List Object) → SameFrame os us → (n : ℕ) → is_given_up os us n ≡ false
none_in_frame os us frame n = none_given_up os us n (λ used. (tests_at os us frame n).free ∙ used)

-- an order that is done frees n exactly if n is in the list; one that isn't done frees nothing
abbrev GivesUp : List Object → ℕ → List ℕ → OrderOutcome → Type 0
GivesUp os n list o = (o.code ≡ code.Done → is_given_up os o.objects n ≡ is_member list n)
    × ((o.code ≡ code.Done → ⊥) → is_given_up os o.objects n ≡ false)

module _ (os : List Object) (n : ℕ) where
  by_none : (list : List ℕ) (why : ResultCode) → (why ≡ code.Done → ⊥) → GivesUp os n list (refused os why)
  by_none list why other = (λ done. absurd (other done), λ undone. none_given_up os os n (λ used. used))

  by_new : (us : List Object) (written : List ℕ) (c : Capability) → (is_free (content_at os n) ≡ false → is_free (content_at us n) ≡ false)
      → GivesUp os n [] (made us written c)
  by_new us written c stays = (λ done. none_given_up os us n stays, λ undone. absurd (undone refl))

  freed_gives : (b : ℕ) (list : List ℕ) → ((m : ℕ) → is_member list m ≡ true → is_free (content_at os m) ≡ false) →
      GivesUp os n list (freed os b list)
  freed_gives b list used = grind (arith, nat_tests, by_none, one_of, rescinded_given_up)

  -- an order that destroys or returns a bank other than the prime bank frees exactly its set
  ended_gives : (b : ℕ) (vs : List Object) (set written : List ℕ) → (b ≢ 0 → (m : ℕ) → content_at vs m ≡ content_at os m)
      → (b ≢ 0 → (m : ℕ) → is_member set m ≡ true → is_free (content_at os m) ≡ false)
      → GivesUp os n set (if b == 0 then refused os code.PrimeBank else made (rescind set vs) written Void)
  ended_gives b vs set written same used = grind (arith, nat_tests, chosen, by_none, rescinded_given_up)

-- each object that a capability frees was in use
freed_used : (g : Geometry) (os : List Object) (c : Capability) → IsNow g os → NamesItsKind os c → (list : List ℕ) → freed_by os c ≡ list
    → (n : ℕ) → is_member list n ≡ true → is_free (content_at os n) ≡ false
freed_used g os c h names list frees n member = grind (arith, nat_tests)

-- an order of a bank that is done frees exactly the objects that it rescinds; one that isn't done frees nothing
pub order_gives_up : (g : Geometry) (os : List Object) (b : ℕ) (requested : BankOrder) (args : Arguments) (n : ℕ) → IsNow g os →
    IsTrue (is_bank (content_at os b)) → NamesItsKind os args.capability
    → GivesUp os n (rescinded_by os b requested args) (on_bank g os b requested args)
unfolding on_bank
order_gives_up g os b bank.Free args n h is names =
    freed_gives os n b (freed_by os args.capability) (freed_used g os args.capability h names (freed_by os args.capability) refl)
order_gives_up g os b bank.Destroy args n h is names =
    ended_gives os n b os (under os b) (under os b) (λ on m. refl) (λ on. (under_given_up g os h.frame b is on).used)
order_gives_up g os b bank.Remaining args n h is names = (
  λ done. none_given_up os os n (λ used. used),
  λ undone. none_given_up os os n (λ used. used),
)
order_gives_up g os b which args n h is names =
    grind (arith, nat_tests, one_of, by_none, by_new, new_used, ended_gives, inherited_content, tree_of, only_member, used_where)

pub gives_up_rescinded : GivesUpRescinded
gives_up_rescinded g w b requested args n sound is held = order_gives_up g w.objects b requested args n (nearly_from g w sound) is held.1

pub gives_up_nothing : GivesUpNothing
gives_up_nothing g w i e n sound fits runs other done = search (arith, nat_tests, none_in_frame, invocation_frame, nearly_from)

-- if no object is freed, no number becomes renewed
pub renewing_none : (renewed : List Bool) (os us : List Object) → ((n : ℕ) → is_given_up os us n ≡ false) → renewing renewed os us ≡ renewed
unfolding renewing
renewing_none renewed os us none =
    let test : ℕ → Bool = λ n. slice_index_or renewed n false || is_given_up os us n in
    let count = length-map-range_with_len test 0 (length renewed) in
    ext_get_or false (map test (range_with_len 0 (length renewed))) renewed count
    (λ n inside.
    let known : n < length renewed = omega (arith, inside, count) in
    get_or-map-range_with_len test 0 (length renewed) n n false known (omega arith)
    ∙ (ap (λ (b : Bool). slice_index_or renewed n false || b) (none n) ∙ or-false (slice_index_or renewed n false)))
