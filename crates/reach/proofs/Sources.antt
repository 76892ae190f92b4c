-- Which objects can change an object.
use Rattle.reach.proofs.Names.{nat_tests, ℕ, zero, suc, Bool, true, false, not, List, [], length, slice_set, slice_index_or, inl, inr, ⊎_elim, refl, sym, ap}
use Rattle.reach.proofs.Names.{subst, arith, IsTrue, All, Contains, is_marked, Object, is_free, is_bank, content_at, owner_at, is_process, AreSoundObjects}
use Rattle.reach.proofs.Names.{AddsOwners, AllChange, Grows, HasOwners, IsClosedAt, LeadsInto, Widens, others, unmarked, AreChangers, ConveysInto, slots_in}
use Rattle.reach.proofs.Names.{is_root, root_in, Void, CanChange, ReachIsChange, Capability, Content, cases_lt, length-set, replicate, Conveys, IsClosedFor}
use Rattle.reach.proofs.Names.{Links, StaysFor}
use Rattle.std.proofs.Common.{◌≡◌, ◌⊎◌, ◌↔◌, ◌+◌, ◌<◌, ◌≤◌, ◌∷◌, ◌∙◌}
use Rattle.reach.proofs.Chains.{stays_inside, void_stays}
use Rattle.model.specs.declared.object.Content.TheVariants as content

pub reach_is_change : ReachIsChange
reach_is_change os follows inside n o reach = (
  λ member other closed begins. reach.least other closed (λ k d lt. grind (arith, nat_tests)) o member,
  λ change. change inside reach.closed (reach.begins 0 0 (omega arith)),
)

-- marking a number that wasn't marked leaves one fewer unmarked
pub marked_more : (marks : List Bool) (n : ℕ) → n < length marks → is_marked marks n ≡ false →
    unmarked (slice_set marks n true) + 1 ≡ unmarked marks
marked_more [] n lt none = absurd (omega (arith, lt))
marked_more (false ∷ marks) zero lt none = omega arith
marked_more (true ∷ marks) zero lt none = absurd (cc)
marked_more (true ∷ marks) (suc n) lt none = marked_more marks n (omega (arith, lt)) none
marked_more (false ∷ marks) (suc n) lt none = let rest = marked_more marks n (omega (arith, lt)) none in omega (arith, rest)

-- marking another number leaves a marked number marked
marked_kept : (marks : List Bool) (n m : ℕ) → IsTrue (is_marked marks m) → IsTrue (is_marked (slice_set marks n true) m)
marked_kept [] n m is = is
marked_kept (b ∷ marks) zero zero is = refl
marked_kept (b ∷ marks) zero (suc m) is = is
marked_kept (b ∷ marks) (suc n) zero is = is
marked_kept (b ∷ marks) (suc n) (suc m) is = marked_kept marks n m is

marked_here : (marks : List Bool) (n : ℕ) → n < length marks → IsTrue (is_marked (slice_set marks n true) n)
marked_here [] n lt = absurd (omega (arith, lt))
marked_here (b ∷ marks) zero lt = refl
marked_here (b ∷ marks) (suc n) lt = marked_here marks n (omega (arith, lt))

marked_each : (marks : List Bool) (n m : ℕ) → IsTrue (is_marked (slice_set marks n true) m) → (m ≡ n) ⊎ IsTrue (is_marked marks m)
marked_each [] n m is = inr is
marked_each (b ∷ marks) zero zero is = inl refl
marked_each (b ∷ marks) zero (suc m) is = inr is
marked_each (b ∷ marks) (suc n) zero is = inr is
marked_each (b ∷ marks) (suc n) (suc m) is = ⊎_elim (λ same. inl (ap suc same)) (λ other. inr other) (marked_each marks n m is)

bank_there : (x : Content Capability) → IsTrue (is_bank x) → is_free x ≡ false
bank_there (content.Bank limit) is = refl
bank_there content.Free is = absurd (cc)
bank_there (content.Page words) is = refl
bank_there (content.Node slots) is = refl
bank_there (content.Root root) is = refl
bank_there (content.Annex registers) is = refl

-- if a capability in a slot leads into a set, so does its holder
pub slots_lead : (os : List Object) (follows : Links) (n : ℕ) (slots : List Capability) (inside : ℕ → Bool) →
    slots_in (content_at os n) ≡ slots → (i : ℕ) × ConveysInto follows inside (slice_index_or slots i Void) → LeadsInto os follows inside n
slots_lead os follows n slots inside is at other closed member = at.1 other
    (subst (λ (l : List Capability). StaysFor follows other (slice_index_or l at.0 Void)) is (closed.slots n at.0 member))

stays_at : (follows : Links) (other : ℕ → Bool) (slots : List Capability) (i : ℕ) → All (StaysFor follows other) slots →
    StaysFor follows other (slice_index_or slots i Void)
stays_at follows other [] i all = void_stays follows other
stays_at follows other (c ∷ cs) zero all = all 0 Void (omega arith)
stays_at follows other (c ∷ cs) (suc i) all = stays_at follows other cs i (λ k d lt. all (suc k) d (omega (arith, lt)))

-- if the capabilities in an object's slots stay inside a set, and it has no other authority, the set is closed at this object
pub slots_settle : (os : List Object) (n : ℕ) (slots : List Capability) (follows : Links) (other : ℕ → Bool) → is_process os n ≡ false →
    slots_in (content_at os n) ≡ slots → All (StaysFor follows other) slots → IsClosedAt os follows other n
slots_settle os n slots follows other no_root is all = record {
  annexes = λ root. let both : false ≡ true = sym no_root ∙ root in absurd (cc);
  slots = λ i. subst (λ (l : List Capability). StaysFor follows other (slice_index_or l i Void)) (sym is)
      (stays_at follows other slots i all);
  space = no_space (content_at os n) no_root;
}
  where
    no_space : (x : Content Capability) → is_root x ≡ false → StaysFor follows other (root_in x).space
    no_space (content.Root root) not_root = absurd (cc)
    no_space content.Free not_root = void_stays follows other
    no_space (content.Page words) not_root = void_stays follows other
    no_space (content.Node held) not_root = void_stays follows other
    no_space (content.Annex held) not_root = void_stays follows other
    no_space (content.Bank limit) not_root = void_stays follows other

-- `number` and the owners in its chain before `at` were added, unless `at` is `number`
pub record Adds (os : List Object) (number at : ℕ) (old new : List Bool) : Type 0 where
  pub count : length new ≡ length old
  pub there : is_free (content_at os at) ≡ false
  pub change : (follows : Links) → CanChange os follows at number
  pub kept : (n : ℕ) → IsTrue (is_marked old n) → IsTrue (is_marked new n)
  pub each : (follows : Links) (n : ℕ) → IsTrue (is_marked new n) → IsTrue (is_marked old n) ⊎ CanChange os follows n number
  pub owners : HasOwners os (is_marked old) → (n : ℕ) → IsTrue (is_marked new n) → is_free (content_at os n) ≡ false →
      IsTrue (is_marked new (owner_at os n)) ⊎ (owner_at os n ≡ at)
  pub begun : ((at ≡ number) × (new ≡ old)) ⊎ (IsTrue (is_marked new number) × (unmarked new < unmarked old))

module _ (os : List Object) (number at : ℕ) (old mid : List Bool) (adds : Adds os number at old mid) where
  pub adds_next : AreSoundObjects os → at < length mid → is_marked mid at ≡ false →
      Adds os number (owner_at os at) old (slice_set mid at true)
  adds_next sound lt none = record {
    count = length-set mid at true ∙ adds.count;
    there = bank_there (content_at os (owner_at os at)) bank;
    change = λ follows inside closed member. adds.change follows inside closed
        (closed.owned (owner_at os at) at member bank adds.there refl);
    kept = λ n is. marked_kept mid at n (adds.kept n is);
    each = λ follows n is. ⊎_elim (λ here. inr (subst (λ (m : ℕ). CanChange os follows m number) (sym here) (adds.change follows)))
        (λ before. adds.each follows n before)
        (marked_each mid at n is);
    owners = λ has n is free. ⊎_elim (λ here. inr (ap (owner_at os) here))
        (λ before. ⊎_elim (λ marked. inl (marked_kept mid at (owner_at os n) marked))
        (λ here. inl (subst (λ (m : ℕ). IsTrue (is_marked (slice_set mid at true) m)) (sym here) (marked_here mid at lt)))
        (adds.owners has n before free))
        (marked_each mid at n is);
    begun = inr (⊎_elim (λ start. (
      subst (λ (m : ℕ). IsTrue (is_marked (slice_set mid at true) m)) start.0 (marked_here mid at lt),
      omega (arith, marked_more mid at lt none, ap unmarked start.1),
    )) (λ later. (marked_kept mid at number later.0, omega (arith, marked_more mid at lt none, later.1))) adds.begun);
  }
    where
      bank : IsTrue (is_bank (content_at os (owner_at os at)))
      bank = sound.2.owners at (λ free. let both : false ≡ true = sym adds.there ∙ free in absurd (cc))

  pub adds_fewer : at < length mid → is_marked mid at ≡ false → unmarked (slice_set mid at true) < unmarked mid
  adds_fewer lt none = omega (arith, marked_more mid at lt none)

  pub adds_whole : IsTrue (is_marked mid at) → AddsOwners os number old mid
  adds_whole member = record {
    count = adds.count;
    inside = ⊎_elim (λ start. subst (λ (m : ℕ). IsTrue (is_marked mid m)) start.0 member) (λ later. later.0) adds.begun;
    kept = adds.kept;
    each = adds.each;
    owners = λ has n is free. ⊎_elim (λ marked. marked) (λ here. subst (λ (m : ℕ). IsTrue (is_marked mid m)) (sym here) member)
        (adds.owners has n is free);
    fewer = λ none. ⊎_elim (λ start.
        let marked : is_marked old number ≡ true = ap (λ (l : List Bool). is_marked l number) (sym start.1)
        ∙ subst (λ (m : ℕ). IsTrue (is_marked mid m)) start.0 member in
        let both : false ≡ true = sym none ∙ marked in absurd (cc)) (λ later. later.1) adds.begun;
  }

-- at first nothing is added
pub grows_none : (os : List Object) (follows : Links) (l : List Bool) → Grows os follows l l
grows_none os follows l = record { count = refl; kept = λ n is. is; each = λ o all. all; owners = λ has. has }

pub grows_both : (os : List Object) (follows : Links) (a b c : List Bool) → Grows os follows a b → Grows os follows b c →
    Grows os follows a c
grows_both os follows a b c first next = record {
  count = next.count ∙ first.count;
  kept = λ n is. next.kept n (first.kept n is);
  each = λ o all. next.each o (first.each o all);
  owners = λ has. next.owners (first.owners has);
}

pub grows_by : (os : List Object) (follows : Links) (i : ℕ) (old new : List Bool) → LeadsInto os follows (is_marked old) i →
    AddsOwners os i old new → Grows os follows old new
grows_by os follows i old new leads adds = record {
  count = adds.count;
  kept = adds.kept;
  each = λ o all n is. ⊎_elim (λ before. all n before) (λ change. λ inside closed member.
      let into = leads inside closed (change inside closed member) in all into.0 into.1 inside closed into.2) (adds.each follows n is);
  owners = adds.owners;
}

module _ (os : List Object) (follows : Links) (i : ℕ) (grew : Bool) (old mid : List Bool) (widens : Widens os follows i grew old mid) where
  pub widens_skip : (is_marked mid i ≡ false → IsClosedAt os follows (others (is_marked mid)) i) → Widens os follows (i + 1) grew old mid
  widens_skip here = record {
    count = widens.count;
    kept = widens.kept;
    each = widens.each;
    owners = widens.owners;
    fewer = widens.fewer;
    same = widens.same;
    settled = λ none n lt out. elim (cases_lt n i) [
      | inl below ↦ widens.settled none n below out
      | inr past ↦
          let is : i ≡ n = omega (arith, past, lt) in
          subst (λ (m : ℕ). IsClosedAt os follows (others (is_marked mid)) m) is
          (here (subst (λ (m : ℕ). is_marked mid m ≡ false) (sym is) out))
    ];
  }

  no_more : (b : Bool) → grew ≡ b → unmarked mid ≤ unmarked old
  no_more true is = omega (arith, widens.fewer is)
  no_more false is = omega (arith, ap unmarked (widens.same is))

  pub widens_more : (new : List Bool) → is_marked mid i ≡ false → LeadsInto os follows (is_marked mid) i → AddsOwners os i mid new →
      Widens os follows (i + 1) true old new
  widens_more new none leads adds =
      let grows = grows_by os follows i mid new leads adds in
      record {
        count = grows.count ∙ widens.count;
        kept = λ n is. grows.kept n (widens.kept n is);
        each = λ o all. grows.each o (widens.each o all);
        owners = λ has. grows.owners (widens.owners has);
        fewer = λ yes_. omega (arith, adds.fewer none, no_more grew refl);
        same = λ other. absurd (cc);
        settled = λ other. absurd (cc);
      }

-- the members so far; each of them can change the object
pub record Sources (os : List Object) (follows : Links) (o : ℕ) (grew : Bool) (marks : List Bool) : Type 0 where
  pub count : length marks ≡ length os
  pub object : IsTrue (is_marked marks o)
  pub each : AllChange os follows (is_marked marks) o
  pub owners : HasOwners os (is_marked marks)
  pub settled : grew ≡ false → (n : ℕ) → n < length os → is_marked marks n ≡ false → IsClosedAt os follows (others (is_marked marks)) n

none_marked : (count n : ℕ) → IsTrue (is_marked (replicate count false) n) → ⊥
none_marked zero n is = absurd (cc)
none_marked (suc c) zero is = absurd (cc)
none_marked (suc c) (suc n) is = none_marked c n is

pub sources_first : (os : List Object) (follows : Links) (o : ℕ) (old new : List Bool) (count : ℕ) → old ≡ replicate count false →
    length old ≡ length os → AddsOwners os o old new → Sources os follows o true new
sources_first os follows o old new count is long adds = record {
  count = adds.count ∙ long;
  object = adds.inside;
  each = λ n member. ⊎_elim (λ before. absurd (none n before)) (λ change. change) (adds.each follows n member);
  owners = adds.owners (λ n member free. absurd (none n member));
  settled = λ other. absurd (cc);
}
  where
    none : (n : ℕ) → IsTrue (is_marked old n) → ⊥
    none n member = none_marked count n (subst (λ (l : List Bool). IsTrue (is_marked l n)) is member)

pub sources_next : (os : List Object) (follows : Links) (o : ℕ) (grew : Bool) (old new : List Bool) → Sources os follows o true old →
    Widens os follows (length os) grew old new → Sources os follows o grew new
sources_next os follows o grew old new sources widens = record {
  count = widens.count ∙ sources.count;
  object = widens.kept o sources.object;
  each = widens.each o sources.each;
  owners = widens.owners sources.owners;
  settled = widens.settled;
}

pub sources_grow : (os : List Object) (follows : Links) (o : ℕ) (old new : List Bool) → Sources os follows o true old →
    Grows os follows old new → Sources os follows o true new
sources_grow os follows o old new sources grows = record {
  count = grows.count ∙ sources.count;
  object = grows.kept o sources.object;
  each = grows.each o sources.each;
  owners = grows.owners sources.owners;
  settled = λ other. absurd (cc);
}

-- a bound on the rounds left: how many numbers are unmarked, and one more if the last round added some
abbrev pub work : Bool → List Bool → ℕ
work true marks = unmarked marks + 1
work false marks = unmarked marks

-- a number without an object has no authority
past_closed : (os : List Object) (follows : Links) (inside : ℕ → Bool) (n : ℕ) → length os ≤ n → IsClosedAt os follows inside n
past_closed [] follows inside n past = record {
  annexes = λ is. absurd (cc);
  slots = λ i. void_stays follows inside;
  space = void_stays follows inside;
}
past_closed (o ∷ os) follows inside zero past = absurd (omega (arith, past))
past_closed (o ∷ os) follows inside (suc n) past = grind (arith, nat_tests, past_closed os follows inside n (omega (arith, past)))

module _ (os : List Object) (follows : Links) (o : ℕ) (marks : List Bool) (sources : Sources os follows o false marks) where
  settled_at : (n : ℕ) → IsTrue (others (is_marked marks) n) → IsClosedAt os follows (others (is_marked marks)) n
  settled_at n out = elim (cases_lt n (length os)) [
    | inl below ↦ sources.settled refl n below (is_other (is_marked marks n) out)
    | inr past ↦ past_closed os follows (others (is_marked marks)) n past
  ]
    where
      is_other : (b : Bool) → IsTrue (not b) → b ≡ false
      is_other true is = absurd (cc)
      is_other false is = refl

  -- after the last round no other number has authority over a member
  pub others_closed : IsClosedFor follows os (others (is_marked marks))
  others_closed = record {
    annexes = λ p out is. (settled_at p out).annexes is;
    owned = λ b n out bank there owned. unowned b n out there owned (is_marked marks n) refl;
    slots = λ n i out. (settled_at n out).slots i;
    spaces = λ p out. (settled_at p out).space;
  }
    where
      unowned : (b n : ℕ) → IsTrue (others (is_marked marks) b) → is_free (content_at os n) ≡ false → owner_at os n ≡ b → (m : Bool) →
          is_marked marks n ≡ m → IsTrue (others (is_marked marks) n)
      unowned b n out there owned true is =
          let owner : is_marked marks b ≡ true = subst (λ (k : ℕ). IsTrue (is_marked marks k)) owned (sources.owners n is there) in
          let both : not true ≡ true = ap not (sym owner) ∙ out in absurd (cc)
      unowned b n out there owned false is = ap not is

  -- after the last round a number is a member exactly if it can change the object
  pub sources_are : (n : ℕ) → IsTrue (is_marked marks n) ↔ CanChange os follows n o
  sources_are n = (sources.each n, λ can. member can (is_marked marks n) refl)
    where
      member : CanChange os follows n o → (m : Bool) → is_marked marks n ≡ m → IsTrue (is_marked marks n)
      member can true is = is
      member can false is =
          let out : not (is_marked marks o) ≡ true = can (others (is_marked marks)) others_closed (ap not is) in
          let both : not true ≡ true = ap not (sym sources.object) ∙ out in absurd (cc)

-- `set` has those of the first `at` numbers that are members of `inside`
pub record Picks (inside : List Bool) (numbers : List ℕ) (at : ℕ) (set : List Bool) : Type 0 where
  pub count : length set ≡ length inside
  pub some : (n : ℕ) → IsTrue (is_marked set n) → Contains numbers n × IsTrue (is_marked inside n)
  pub all : (k d : ℕ) → k < at → IsTrue (is_marked inside (slice_index_or numbers k d)) →
      IsTrue (is_marked set (slice_index_or numbers k d))

-- the set of those among some numbers that can change the object
pub changers_are : (os : List Object) (follows : Links) (starts : List ℕ) (o : ℕ) (inside set : List Bool) →
    ((n : ℕ) → IsTrue (is_marked inside n) ↔ CanChange os follows n o) → ((n : ℕ) →
    IsTrue (is_marked set n) ↔ (Contains starts n × IsTrue (is_marked inside n))) → AreChangers os follows starts o (is_marked set)
changers_are os follows starts o inside set can each n = (
  λ member. let both = (each n).0 member in (both.0, (can n).0 both.1),
  λ both. (each n).1 (both.0, (can n).1 both.1),
)

pub conveys_nowhere : (follows : Links) (inside : ℕ → Bool) (c : Capability) → ((n : ℕ) → Conveys follows c n → ⊥) →
    StaysFor follows (others inside) c
conveys_nowhere follows inside c none = stays_inside follows (others inside) c (λ m conveys. absurd (none m conveys))
