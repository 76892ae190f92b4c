-- A number was found exactly if a chain of steps leads to it. The found numbers are the least closed set, because no step leaves a closed
-- set.
use Rattle.reach.proofs.Names.{nat_tests, ℕ, Bool, true, false, is_some, Option, None, Some, List, [], length, reverse, option_and_then, inl, inr, ⊎_elim, refl}
use Rattle.reach.proofs.Names.{sym, ap, subst, arith, IsTrue, All, cases_eq, length-reverse, length_push, reverse-append, same_Some, Capability, Void, Page}
use Rattle.reach.proofs.Names.{Node, Space, Process, Start, Resume, Bank, Content, Object, IsConfinedBut, AreBy, with_free, slots_in, annex_at, content_at}
use Rattle.reach.proofs.Names.{root_at, Found, Levels, Step, Way, Conveys, IsChain, IsPath, IsShortest, IsStep, IsWay, held_by, StepsAreAuthority, IsAfter}
use Rattle.reach.proofs.Names.{IsFoundIn, IsFrom, IsSearched, found_at, IsReach, slice_index_or, named, BoundsRuns, run_confined, IsClosedBut, StartsOne}
use Rattle.reach.proofs.Names.{StaysBut, ClosedSetsAre, IsFollowed, slot_at, Purpose, IsClosedFor, Links, StaysFor, StaysAs, links}
use Rattle.std.specs.Prelude.{suc, zero}
use Rattle.std.proofs.Common.{◌≡◌, ◌+◌, ◌<◌, ◌∷◌, ◌++◌, ◌∙◌}
use Rattle.model.specs.declared.object.Content.TheVariants as content
use Rattle.reach.specs.declared.authority.Purpose.TheVariants as purpose
use Rattle.reach.specs.declared.step.Way.TheVariants as way
use Rattle.reach.proofs.Finding.{some_of}

-- the number, if there is one, is in the set
abbrev IsIn : (ℕ → Bool) → Option ℕ → Type 0
IsIn other o = elim o [ None ↦ Unit {0} | Some m ↦ IsTrue (other m) ]

-- if a capability stays inside a set (`StaysFor`), the object that it conveys is in the set
pub named_inside : (follows : Links) (other : ℕ → Bool) (c : Capability) (n : ℕ) → Conveys follows c n → StaysFor follows other c →
    IsTrue (other n)
named_inside follows other c n conveys stays = go follows.purpose conveys.0 stays
  where
    go : (p : Purpose) → IsFollowed p c → StaysAs p follows.trusted other c → IsTrue (other n)
    go purpose.Change strong (inl (inl weak)) = absurd (strong weak)
    go purpose.Change strong (inl (inr inside)) = subst (IsIn other) conveys.2 inside
    go purpose.Change strong (inr starts) = absurd (conveys.1 starts)
    go purpose.Read strong (inl inside) = subst (IsIn other) conveys.2 inside
    go purpose.Read strong (inr starts) = absurd (conveys.1 starts)

-- void stays inside every set
pub void_stays : (follows : Links) (inside : ℕ → Bool) → StaysFor follows inside Void
void_stays follows inside = go follows.purpose
  where
    go : (p : Purpose) → StaysAs p follows.trusted inside Void
    go purpose.Change = inl (inl tt)
    go purpose.Read = inl tt

-- a capability stays inside a set if each object that it conveys is in the set
abbrev ConveysOnly : Purpose → (ℕ → Bool) → (ℕ → Bool) → Capability → Type 0
ConveysOnly p trusted inside c = (m : ℕ) → IsFollowed p c → (StartsOne trusted c → ⊥) → named c ≡ Some m → IsTrue (inside m)

stays_to_change : (trusted inside : ℕ → Bool) (c : Capability) → ConveysOnly purpose.Change trusted inside c →
    StaysAs purpose.Change trusted inside c
stays_to_change trusted inside (Page o a) conveyed = elim (cases_eq a.0 3)
    [ inl weak ↦ inl (inl weak) | inr strong ↦ inl (inr (conveyed o strong (λ starts. starts) refl)) ]
stays_to_change trusted inside (Node o a) conveyed = elim (cases_eq a.0 3)
    [ inl weak ↦ inl (inl weak) | inr strong ↦ inl (inr (conveyed o strong (λ starts. starts) refl)) ]
stays_to_change trusted inside (Space o h a) conveyed = elim (cases_eq a.0 3)
    [ inl weak ↦ inl (inl weak) | inr strong ↦ inl (inr (conveyed o strong (λ starts. starts) refl)) ]
stays_to_change trusted inside (Process p) conveyed = inl (inr (conveyed p (λ weak. weak) (λ starts. starts) refl))
stays_to_change trusted inside (Start p key) conveyed = go (trusted p) refl
  where
    go : (b : Bool) → trusted p ≡ b → StaysAs purpose.Change trusted inside (Start p key)
    go true e = inr e
    go false e = inl (inr (conveyed p (λ weak. weak) (λ starts. let both : false ≡ true = sym e ∙ starts in cc) refl))
stays_to_change trusted inside (Resume p) conveyed = inl (inr (conveyed p (λ weak. weak) (λ starts. starts) refl))
stays_to_change trusted inside (Bank b) conveyed = inl (inr (conveyed b (λ weak. weak) (λ starts. starts) refl))
stays_to_change trusted inside other conveyed = inl (inl tt)

stays_to_read : (trusted inside : ℕ → Bool) (c : Capability) → ConveysOnly purpose.Read trusted inside c →
    StaysAs purpose.Read trusted inside c
stays_to_read trusted inside (Page o a) conveyed = inl (conveyed o tt (λ starts. starts) refl)
stays_to_read trusted inside (Node o a) conveyed = inl (conveyed o tt (λ starts. starts) refl)
stays_to_read trusted inside (Space o h a) conveyed = inl (conveyed o tt (λ starts. starts) refl)
stays_to_read trusted inside (Process p) conveyed = inl (conveyed p tt (λ starts. starts) refl)
stays_to_read trusted inside (Start p key) conveyed = go (trusted p) refl
  where
    go : (b : Bool) → trusted p ≡ b → StaysAs purpose.Read trusted inside (Start p key)
    go true e = inr e
    go false e = inl (conveyed p tt (λ starts. let both : false ≡ true = sym e ∙ starts in cc) refl)
stays_to_read trusted inside (Resume p) conveyed = inl (conveyed p tt (λ starts. starts) refl)
stays_to_read trusted inside (Bank b) conveyed = inl (conveyed b tt (λ starts. starts) refl)
stays_to_read trusted inside other conveyed = inl tt

pub stays_inside : (follows : Links) (inside : ℕ → Bool) (c : Capability) → ((m : ℕ) → Conveys follows c m → IsTrue (inside m)) →
    StaysFor follows inside c
stays_inside follows inside c conveyed = go follows.purpose (λ m is starts names. conveyed m (is, starts, names))
  where
    go : (p : Purpose) → ConveysOnly p follows.trusted inside c → StaysAs p follows.trusted inside c
    go purpose.Change only = stays_to_change follows.trusted inside c only
    go purpose.Read only = stays_to_read follows.trusted inside c only

-- if no step leaves the set, the capabilities in an object's slots stay inside it
slots_inside : (os : List Object) (follows : Links) (inside : ℕ → Bool) (n i : ℕ) (x : Content Capability) →
    ((w : Way) (m : ℕ) → IsWay os follows n x w m → IsTrue (inside m)) → StaysFor follows inside (slice_index_or (slots_in x) i Void)
slots_inside os follows inside n i (content.Node slots) continues = stays_inside follows inside (slice_index_or slots i Void)
    (λ m conveys. continues (way.Slot i (slice_index_or slots i Void)) m (refl, conveys))
slots_inside os follows inside n i (content.Annex slots) continues = stays_inside follows inside (slice_index_or slots i Void)
    (λ m conveys. continues (way.Slot i (slice_index_or slots i Void)) m (refl, conveys))
slots_inside os follows inside n i x continues = void_stays follows inside

-- if no step leaves a set, the set is closed
pub closed_by_steps : (os : List Object) (follows : Links) (inside : ℕ → Bool) →
    ((s : Step) → IsStep os follows s → IsTrue (inside s.from) → IsTrue (inside s.to)) → IsClosedFor follows os inside
closed_by_steps os follows inside continues = record {
  annexes = λ p is root. continues (record { from = p; way = way.Annex; to = annex_at os p }) (root, refl) is;
  owned = λ b n is bank free owned. continues (record { from = b; way = way.Owner; to = n }) (bank, free, owned) is;
  slots = λ n i is. slots_inside os follows inside n i (content_at os n) (λ w m by. continues (record { from = n; way = w; to = m }) by is);
  spaces = λ p is. stays_inside follows inside _ (λ m conveys. continues (record { from = p; way = way.Space (root_at os p).space; to = m })
      (refl, conveys) is);
}

-- the parameters: a closed set, which no step leaves
module _ (os : List Object) (follows : Links) (inside : ℕ → Bool) (closed : IsClosedFor follows os inside) where
  held_inside : (n i : ℕ) (x : Content Capability) → content_at os n ≡ x → IsTrue (inside n) →
      StaysFor follows inside (slice_index_or (held_by os x) i Void)
  held_inside n i (content.Node slots) is member = rw is at (closed.slots n i member)
  held_inside n i (content.Root root) is member = grind (arith, nat_tests)
  held_inside n i (content.Annex slots) is member = rw is at (closed.slots n i member)
  held_inside n i x is member = void_stays follows inside

  pub step_inside : (s : Step) → IsStep os follows s → IsTrue (inside s.from) → IsTrue (inside s.to)
  step_inside s by member = go s.way s.to by
    where
      go : (w : Way) (m : ℕ) → IsWay os follows s.from (content_at os s.from) w m → IsTrue (inside m)
      go way.Annex m by = subst (λ (k : ℕ). IsTrue (inside k)) by.1 (closed.annexes s.from member by.0)
      go way.Owner m by = closed.owned s.from m member by.0 by.1 by.2
      go (way.Space c) m by = named_inside follows inside c m by.1 (subst (λ (d : Capability). StaysFor follows inside d) by.0
          (closed.spaces s.from member))
      go (way.Slot i c) m by = named_inside follows inside c m by.1
          (subst (λ (d : Capability). StaysFor follows inside d) by.0 (held_inside s.from i (content_at os s.from) refl member))

pub steps_are_authority : StepsAreAuthority
steps_are_authority os follows inside = (
  λ closed. step_inside os follows inside closed,
  λ continues. closed_by_steps os follows inside continues,
)

same_truth : (a b : Bool) → (IsTrue a → IsTrue b) → (IsTrue b → IsTrue a) → a ≡ b
same_truth true b there back = sym (there refl)
same_truth false true there back = back refl
same_truth false false there back = refl

-- ---- these closed sets are those of `confinement` and `noninterference`

change_stays : (follows : Links) (inside : ℕ → Bool) (c : Capability) → StaysFor follows inside c → StaysBut follows.trusted inside c
change_stays follows inside c stays = go follows.purpose stays
  where
    go : (p : Purpose) → StaysAs p follows.trusted inside c → StaysBut follows.trusted inside c
    go purpose.Change stays = stays
    go purpose.Read (inl named) = inl (inr named)
    go purpose.Read (inr starts) = inr starts

closed_to_change : (os : List Object) (follows : Links) (inside : ℕ → Bool) → IsClosedFor follows os inside →
    IsClosedBut follows.trusted os inside
closed_to_change os follows inside h = record {
  annexes = h.annexes;
  owned = h.owned;
  slots = λ n i is. change_stays follows inside (slot_at os n i) (h.slots n i is);
  spaces = λ p is. change_stays follows inside (root_at os p).space (h.spaces p is);
}

pub closed_sets_are : ClosedSetsAre
closed_sets_are os trusted inside = ((λ h. h, λ h. h), (λ h. h, λ h. h))

pub bounds_runs : (os : List Object) (follows : Links) (inside : ℕ → Bool) → IsClosedFor follows os inside →
    BoundsRuns os follows.trusted inside
bounds_runs os follows inside closed g s t turns same sound run by =
    subst (λ (us : List Object). IsConfinedBut follows.trusted inside us t.now.objects) same
    (run_confined g follows.trusted inside s t turns sound
    (subst (λ (us : List Object). IsClosedBut follows.trusted us inside) (sym same) (closed_to_change os follows inside closed)) run
    (subst (λ (us : List Object). AreBy (with_free us inside) turns) (sym same) by))

-- the steps back from an object to where they began, by the levels
pub record IsBack (os : List Object) (follows : Links) (l : Levels) (o at : ℕ) (steps : List Step) : Type 0 where
  pub found : Found
  pub is : found_at l at ≡ Some found
  pub path : IsPath os follows at (reverse steps) o
  pub count : (g : Found) → found_at l o ≡ Some g → found.level + length steps ≡ g.level

-- the parameters: all levels were searched
module _ (os : List Object) (follows : Links) (starts : List ℕ) (level : ℕ) (l : Levels) (over : l.greatest < level)
    (searched : IsSearched os follows starts level l) where
  continues_on : (n k : ℕ) → IsFoundIn l n k → (s : Step) → IsFrom os follows n s → IsFoundIn l s.to (k + 1)
  continues_on n k found s from = grind (arith, nat_tests)

  continues_along : (ss : List Step) (n k m : ℕ) → IsFoundIn l n k → IsPath os follows n ss m → IsFoundIn l m (k + length ss)
  continues_along [] n k m found path = search (arith, continues_on)
  continues_along (s ∷ ss) n k m found path = search (arith, continues_on, continues_along ss s.to (k + 1) m)

  pub found_by_chain : (steps : List Step) (o : ℕ) → IsChain os follows starts steps o → IsFoundIn l o (length steps)
  found_by_chain steps o chain =
      let start = subst (λ (k : ℕ). IsFoundIn l k 0) chain.1.2 (searched.begins chain.1.0 chain.0 chain.1.1) in
      let end = continues_along steps chain.0 0 o start chain.2 in
      (end.0, end.1, omega (arith, end.2))

  found_some : (n : ℕ) (f : Found) → found_at l n ≡ Some f → IsTrue (is_some (found_at l n))
  found_some n f is = ap (λ (p : Option Found). is_some p) is

  some_found : (n : ℕ) → IsTrue (is_some (found_at l n)) → (f : Found) × (found_at l n ≡ Some f)
  some_found n is = some_of (found_at l n) is

  -- a found number is in each closed set that contains the starts
  found_inside : (other : ℕ → Bool) → IsClosedFor follows os other → All (λ p. IsTrue (other p)) starts → (k n : ℕ) (f : Found) →
      found_at l n ≡ Some f → f.level < k → IsTrue (other n)
  found_inside other closed begins zero n f is lt = absurd (omega (arith, lt))
  found_inside other closed begins (suc k) n f is lt =
      ⊎_elim (λ first. subst (λ (m : ℕ). IsTrue (other m)) first.1.2 (begins first.1.0 n first.1.1))
      (λ after. subst (λ (m : ℕ). IsTrue (other m)) after.to
      (step_inside os follows other closed after.step after.step_is
      (found_inside other closed begins k after.step.from after.before after.from (omega (arith, lt, after.level)))))
      (searched.linked n f is)

  -- the found numbers are the least closed set with the starts
  pub is_reach : (inside : ℕ → Bool) → ((n : ℕ) → inside n ≡ is_some (found_at l n)) → IsReach os follows starts inside
  is_reach inside same = record {
    closed = closed_by_steps os follows inside (λ s step member.
        let from = some_found s.from (sym (same s.from) ∙ member) in
        let to = continues_on s.from from.0.level (from.0, from.1, omega arith) s (refl, step) in
        same s.to ∙ found_some s.to to.0 to.1);
    begins = λ k d lt. let found = searched.begins k d lt in same _ ∙ found_some _ found.0 found.1;
    least = λ other closed begins n member.
        let found = some_found n (sym (same n) ∙ member) in
        found_inside other closed begins (found.0.level + 1) n found.0 found.1 (omega arith);
  }

  -- there is only one least closed set
  pub only_reach : (inside : ℕ → Bool) → IsReach os follows starts inside → (o : ℕ) → inside o ≡ is_some (found_at l o)
  only_reach inside reach o =
      let found = is_reach (λ n. is_some (found_at l n)) (λ n. refl) in
      same_truth _ _ (reach.least _ found.closed found.begins o) (found.least inside reach.closed reach.begins o)

  pub no_chain : (o : ℕ) → is_some (found_at l o) ≡ false → (steps : List Step) → IsChain os follows starts steps o → ⊥
  no_chain o none steps chain = let found = found_by_chain _ _ chain in let wrong : false ≡ true = sym none ∙ found_some _ _ found.1 in cc

  pub back_first : (o : ℕ) → is_some (found_at l o) ≡ true → IsBack os follows l o o []
  back_first o some = grind (arith, nat_tests)

  module _ (o at : ℕ) (steps : List Step) (back : IsBack os follows l o at steps) where
    -- `step` is the step by which the number was found
    step_is : (p : Option Step) → option_and_then (λ (f : Found). f.step) (found_at l at) ≡ p → back.found.step ≡ p
    step_is p is = ap (λ (q : Option Found). option_and_then (λ (f : Found). f.step) q) (sym back.is) ∙ is

    after_of : (step : Step) → option_and_then (λ (f : Found). f.step) (found_at l at) ≡ Some step → IsAfter os follows l at back.found
    after_of step is = grind (arith, nat_tests)

    pub back_next : (step : Step) (new : List Step) → option_and_then (λ (f : Found). f.step) (found_at l at) ≡ Some step →
        new ≡ steps ++ step ∷ [] → IsBack os follows l o step.from new
    back_next step new is pushed = grind (arith, nat_tests, after_of, same_Some, step_is, reverse-append, length_push)

    pub back_level : (step : Step) → option_and_then (λ (f : Found). f.step) (found_at l at) ≡ Some step → (level_of : Option Found → ℕ) →
        ((f : Found) → level_of (Some f) ≡ f.level)
        → level_of (found_at l step.from) < level_of (found_at l at)
    back_level step is level_of level_is = grind (arith, nat_tests, after_of, same_Some, step_is)

    -- if the steps back end at a start, they are a shortest chain
    pub back_whole : option_and_then (λ (f : Found). f.step) (found_at l at) ≡ None → (g : Found) → found_at l o ≡ Some g →
        IsShortest os follows starts (reverse steps) o
    back_whole none g is = ⊎_elim (λ first. record {
      chain = (at, first.1, back.path);
      least = λ others chain.
          let found = found_by_chain _ o chain in
          let same : found.0 ≡ g = same_Some found.0 g (sym found.1 ∙ is) in
          let level : found.0.level ≡ g.level = ap (λ (f : Found). f.level) same in
          omega (arith, level, found.2, back.count g is, first.0.level, length-reverse steps);
    }) (λ after. let wrong : Some after.step ≡ None = sym after.is ∙ step_is None none in absurd (cc))
        (searched.linked at back.found back.is)

    pub back_shortest : option_and_then (λ (f : Found). f.step) (found_at l at) ≡ None → is_some (found_at l o) ≡ true →
        IsShortest os follows starts (reverse steps) o
    back_shortest none some = let found = some_found o some in back_whole none found.0 found.1
