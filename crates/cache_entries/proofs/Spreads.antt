-- The places of numbers, and the numbers of places.
use Rattle.cache_entries.proofs.Names.{nat_tests, ArePlaced, AreSpread, inl, inr, ℕ, zero, suc, Bool, true, false, true≢false, List, [], length, map, set, take}
use Rattle.cache_entries.proofs.Names.{get_or, Option, Some, None, is_some, refl, sym, ap, subst, arith, cond, cases_eq, cases_lt, lt-ltb, le-ltb, length-map}
use Rattle.cache_entries.proofs.Names.{length-set, length-take-le, take_all, get_or_default, get_or-replicate, length-replicate, replicate, get_or-set_same}
use Rattle.cache_entries.proofs.Names.{get_or-set_other, get_or_past, none-some, same_Some, is_member, AllDiffer, OrderState, order_of, place_at, place_below}
use Rattle.cache_entries.proofs.Names.{used_last, used_longest_ago, without, changed_once, get_map, IsFilled, false_from_ne_true, take-append-le, slice_get-map}
use Rattle.cache_entries.proofs.Names.{add-one}
use Rattle.std.proofs.Common.{◌≡◌, ◌≢◌, ◌+◌, ◌-◌, ◌<◌, ◌≤◌, ◌∷◌, ◌++◌, ◌∙◌}
use Rattle.cache_entries.proofs.Turns.{filled_back, filled_front, member_used}
use Rattle.cache_entries.proofs.Orders.{gone, length_without, member_head, still, in_tail, either_of, listed_member, in_front, without_here, without_tail}
use Rattle.cache_entries.proofs.Orders.{member_tail}
use Rattle.cache_entries.proofs.Recent.{front_apart, front_stays}

-- ---- the first members of a list

-- the first k numbers after p was removed are the first k + 1 without p
front_used : (p : ℕ) (ns : List ℕ) (k : ℕ) → is_member (take (suc k) ns) p ≡ true → take k (without p ns) ≡ without p (take (suc k) ns)
front_used p [] k is = absurd (true≢false (sym is))
front_used p (m ∷ ms) zero is = sym (without_here p m [] (elim (either_of m [] p is)
    [ inl same ↦ same | inr later ↦ absurd (true≢false (sym later)) ]))
front_used p (m ∷ ms) (suc k) is = elim (cases_eq p m) [
  | inl same ↦ ap (take (suc k)) (without_here p m ms same) ∙ sym (without_here p m (take (suc k) ms) same)
  | inr other ↦ ap (take (suc k)) (without_tail p m ms other) ∙ ap (λ (rest : List ℕ). m ∷ rest) (front_used p ms k
      (sym (member_tail p m (take (suc k) ms) (λ same. other (sym same))) ∙ is)) ∙ sym (without_tail p m (take (suc k) ms) other)
]

differ_front : (k : ℕ) (ns : List ℕ) → AllDiffer ns → AllDiffer (take k ns)
differ_front zero ns once = tt
differ_front (suc k) [] once = tt
differ_front (suc k) (m ∷ ms) once = grind (arith, nat_tests, false_from_ne_true, in_front, differ_front k ms once.1)

-- ---- the numbers of places

module _ (f : ℕ → ℕ) where
  member_map : (ps : List ℕ) (p : ℕ) → is_member ps p ≡ true → is_member (map f ps) (f p) ≡ true
  member_map [] p is = is
  member_map (q ∷ qs) p is = elim (either_of q qs p is) [
    | inl same ↦ member_head (f p) (f q) (map f qs) (ap f same)
    | inr later ↦ in_tail (f q) (map f qs) (f p) (member_map qs p later)
  ]

  map_member : (ps : List ℕ) (n : ℕ) → is_member (map f ps) n ≡ true → (p : ℕ) × (is_member ps p ≡ true) × (f p ≡ n)
  map_member [] n is = absurd (true≢false (sym is))
  map_member (q ∷ qs) n is = elim (either_of (f q) (map f qs) n is) [
    | inl same ↦ (q, member_head q q qs refl, sym same)
    | inr later ↦ let p = map_member qs n later in (p.0, in_tail q qs p.0 p.1, p.2)
  ]

  not_mapped : (ps : List ℕ) (n : ℕ) → ((p : ℕ) → is_member ps p ≡ true → f p ≢ n) → is_member (map f ps) n ≡ false
  not_mapped ps n none = false_from_ne_true (is_member (map f ps) n) (λ is. let p = map_member ps n is in none p.0 p.1 p.2)

  differ_map : (ps : List ℕ) → AllDiffer ps → ((p q : ℕ) → is_member ps p ≡ true → is_member ps q ≡ true → f p ≡ f q → p ≡ q) →
      AllDiffer (map f ps)
  differ_map [] once apart = tt
  differ_map (p ∷ ps) once apart = (
    not_mapped ps (f p) (λ q is same. true≢false (sym is ∙ ap (is_member ps) (apart q p (in_tail p ps q is) (member_head p p ps refl) same)
        ∙ once.0)),
    differ_map ps once.1 (λ q r is_q is_r. apart q r (in_tail p ps q is_q) (in_tail p ps r is_r)),
  )

  map_without : (p : ℕ) (ps : List ℕ) → ((q : ℕ) → is_member ps q ≡ true → f p ≡ f q → p ≡ q) →
      map f (without p ps) ≡ without (f p) (map f ps)
  map_without p [] apart = refl
  map_without p (q ∷ qs) apart = elim (cases_eq p q) [
    | inl same ↦ ap (map f) (without_here p q qs same) ∙ sym (without_here (f p) (f q) (map f qs) (ap f same))
    | inr other ↦
        ap (map f) (without_tail p q qs other)
        ∙ ap (λ (rest : List ℕ). f q ∷ rest) (map_without p qs (λ r is. apart r (in_tail q qs r is)))
        ∙ sym (without_tail (f p) (f q) (map f qs) (λ same. other (apart q (member_head q q qs refl) same)))
  ]

same_map : (f g : ℕ → ℕ) (ps : List ℕ) → ((p : ℕ) → is_member ps p ≡ true → f p ≡ g p) → map f ps ≡ map g ps
same_map f g [] same = refl
same_map f g (p ∷ ps) same =
    ap (λ (n : ℕ). n ∷ map f ps) (same p (member_head p p ps refl))
    ∙ ap (λ (rest : List ℕ). g p ∷ rest) (same_map f g ps (λ q is. same q (in_tail p ps q is)))

-- ---- the place of a number

pub below_is : (most p : ℕ) → p < most → place_below most p ≡ Some p
below_is most p below = ap (λ (t : Bool). cond t (Some p) None) (lt-ltb p most below)

past_is : (most p : ℕ) → most ≤ p → place_below most p ≡ None
past_is most p past = ap (λ (t : Bool). cond t (Some p) None) (le-ltb p most past)

pub place_of : (ps : List ℕ) (most n : ℕ) → place_at (map (place_below most) ps) n ≡ place_below most (get_or ps n most)
place_of ps most n = get_map (place_below most) ps n most None (past_is most most (omega arith))

placed_at : (most p q : ℕ) → place_below most p ≡ Some q → (p ≡ q) × (p < most)
placed_at most p q is = grind (arith, nat_tests, same_Some, below_is, none-some, past_is)

some_below : (most p : ℕ) → is_some (place_below most p) ≡ true → p < most
some_below most p is = grind (arith, nat_tests, past_is)

none_past : (most p : ℕ) → place_below most p ≡ None → most ≤ p
none_past most p is = grind (arith, nat_tests, none-some, below_is)

-- numbers with places, whose order is s
pub record Spreads (keys numbers places : List ℕ) (count : ℕ) (s : OrderState) : Type 0 where
  pub are : ArePlaced keys numbers places count
  pub view : order_of keys numbers places count ≡ s

module _ {keys numbers places : List ℕ} {count : ℕ} (are : ArePlaced keys numbers places count) where
  abbrev most : ℕ
  most = length numbers

  abbrev used : List ℕ
  used = take count keys

  abbrev number : ℕ → ℕ
  number p = get_or numbers p 0

  abbrev place : ℕ → ℕ
  place n = get_or places n most

  pub inside : (p : ℕ) → is_member used p ≡ true → p < most
  inside p is = are.filled.known p (in_front count keys p is)

  injective : (p q : ℕ) → is_member used p ≡ true → is_member used q ≡ true → number p ≡ number q → p ≡ q
  injective p q is_p is_q same = sym (are.back p is_p) ∙ ap place same ∙ are.back q is_q

  pub place_known : (n : ℕ) → place n < most → n < length places
  place_known n below = grind (arith, nat_tests, get_or_past)

  places_set : (n p : ℕ) (o : Option ℕ) → n < length places → place_below most p ≡ o → map (place_below most) (set places n p) ≡ set
      (map (place_below most) places) n o
  places_set n p o known is =
      changed_once (map (place_below most) places) (map (place_below most) (set places n p)) n None o
      (length-map (set places n p) (place_below most) ∙ length-set places n p ∙ sym (length-map places (place_below most)))
      (omega (arith, known, length-map places (place_below most)))
      (place_of (set places n p) most n ∙ ap (place_below most) (get_or-set_same places n p most known) ∙ is)
      (λ m other. place_of (set places n p) most m ∙ ap (place_below most) (get_or-set_other places n m p most other)
      ∙ sym (place_of places most m))

  pub length_used : length (map number used) ≡ count
  length_used = length-map used number ∙ length-take-le count keys (omega (arith, are.few, are.filled.all))

  pub spread : AreSpread (order_of keys numbers places count)
  spread = record {
    listed = λ n. elim (cases_lt (place n) most) [
      | inl below ↦
          subst (λ (m : ℕ). is_member (map number used) m ≡ true) (are.forth n below) (member_map number used (place n) (are.used n below))
          ∙ sym (ap is_some (place_of places most n ∙ below_is most (place n) below))
      | inr past ↦
          not_mapped number used n (λ p is same. omega (arith, past, inside p is, sym (ap place same) ∙ are.back p is))
          ∙ sym (ap is_some (place_of places most n ∙ past_is most (place n) past))
    ];
    once = differ_map number used (differ_front count keys are.filled.once) injective;
    few = omega (arith, length_used, are.few);
    within = λ n p is. let at = placed_at most (place n) p (sym (place_of places most n) ∙ is) in omega (arith, at.0, at.1);
    apart = grind (arith, nat_tests, placed_at, place_of);
  }

  -- facts about an order that is given as s
  module _ {s : OrderState} (view : order_of keys numbers places count ≡ s) where
    pub spread_is : AreSpread s
    spread_is = subst AreSpread view spread

    pub count_is : count ≡ length s.numbers
    count_is = sym length_used ∙ ap (λ (o : OrderState). length o.numbers) view

    pub most_is : most ≡ s.most
    most_is = ap (λ (o : OrderState). o.most) view

    pub known_is : length places ≡ length s.places
    known_is = sym (length-map places (place_below most)) ∙ ap (λ (o : OrderState). length o.places) view

    pub place_is : (n : ℕ) → place_at s.places n ≡ place_below most (place n)
    place_is n = ap (λ (o : OrderState). place_at o.places n) (sym view) ∙ place_of places most n

    pub some_place : (n : ℕ) → is_some (place_at s.places n) ≡ true → place n < most
    some_place n is = some_below most (place n) (sym (ap is_some (place_is n)) ∙ is)

    pub listed_place : (n : ℕ) → is_member s.numbers n ≡ true → place n < most
    listed_place n is = some_place n (sym (spread_is.listed n) ∙ is)

    pub no_place : (n : ℕ) → place_at s.places n ≡ None → most ≤ place n
    no_place n is = none_past most (place n) (sym (place_is n) ∙ is)

  module _ (n : ℕ) (below : place n < most) where
    here : is_member used (place n) ≡ true
    here = are.used n below

    front : (k : ℕ) → count ≡ suc k → take k (without (place n) keys) ≡ without (place n) used
    front k is = grind (arith, nat_tests, front_used, here)

    pub listed : is_member keys (place n) ≡ true
    listed = in_front count keys (place n) here

    numbers_left : map number (without (place n) used) ≡ without n (map number used)
    numbers_left = grind (arith, nat_tests, map_without, injective, here)

    some_used : (c : ℕ) → is_member (take c keys) (place n) ≡ true → (k : ℕ) × (c ≡ suc k)
    some_used c is = grind (arith, nat_tests)

    pub count_some : 1 ≤ count
    count_some = let k = some_used count here in omega (arith, k.1)

    pub known_place : (q : ℕ) → q ≡ get_or places n q → q ≡ place n
    known_place q is = is ∙ get_or_default places n q most (place_known n below)

    -- after a number is used, it is the last one used
    module _ {s : OrderState} (view : order_of keys numbers places count ≡ s) where
      pub promoted_last : (after : List ℕ) → after ≡ place n ∷ without (place n) keys → Spreads after numbers places count (used_last n s)
      promoted_last after is =
          let k = some_used count here in
          let front_is : take count after ≡ place n ∷ without (place n) used = grind (arith, nat_tests, front) in
          let same : (p : ℕ) → is_member (take count after) p ≡ is_member used p =
          λ p. ap (λ (ps : List ℕ). is_member ps p) front_is ∙ member_used (place n) used p here in
          record {
            are = grind (arith, nat_tests, filled_front are.filled (place n) listed);
            view =
                ap (λ (ns : List ℕ). let o : OrderState = record { numbers = ns; places = map (place_below most) places; most = most } in o)
                (ap (map number) front_is ∙ ap (λ (m : ℕ). m ∷ map number (without (place n) used)) (are.forth n below)
                ∙ ap (λ (ns : List ℕ). n ∷ ns)
                numbers_left)
                ∙ ap (used_last n) view;
          }

      -- after a number is removed, its place is free
      pub removed : (after : List ℕ) (c : ℕ) → after ≡ without (place n) keys ++ place n ∷ [] → c + 1 ≡ count →
          Spreads after numbers (set places n most) c (record {
            numbers = without n s.numbers;
            places = set s.places n None;
            most = s.most;
          })
      removed after c is less =
          grind (
            arith,
            nat_tests,
            length_without,
            listed,
            take-append-le,
            front,
            differ_front,
            place_known,
            get_or-set_other,
            get_or-set_same,
            gone,
            still,
            filled_back,
            numbers_left,
            places_set,
            past_is,
          )

  pub last_below : (p : ℕ) → used_longest_ago keys ≡ Some p → p < most
  last_below p last = are.filled.known p (listed_member keys (length keys - 1) p last)

  -- number n, which has no place, gets the place p that was used longest ago
  module _ (p n : ℕ) (last : used_longest_ago keys ≡ Some p) (short : count < most) (known : n < length places) (absent : most ≤ place n)
    where
      p_free : is_member used p ≡ false
      p_free = grind (arith, nat_tests, false_from_ne_true, front_apart)

      abbrev numbers_after : List ℕ
      numbers_after = set numbers p n

      abbrev places_after : List ℕ
      places_after = set places n p

      same_most : length numbers_after ≡ most
      same_most = length-set numbers p n

      place_after : (m : ℕ) → get_or places_after m (length numbers_after) ≡ get_or places_after m most
      place_after m = ap (get_or places_after m) same_most

      number_after : (q : ℕ) → is_member used q ≡ true → get_or numbers_after q 0 ≡ number q
      number_after q is = get_or-set_other numbers p q n 0 (λ same. true≢false (sym is ∙ ap (is_member used) same ∙ p_free))

      pub fresh : (m : ℕ) → place_at (map (place_below most) places) m ≢ Some p
      fresh m is = grind (arith, nat_tests, placed_at, place_of, p_free)

      pub inserted : {s : OrderState} → order_of keys numbers places count ≡ s → (after : List ℕ) (c : ℕ) → after ≡ p ∷ without p keys →
          c ≡ count + 1 → Spreads after numbers_after places_after c (record {
            numbers = n ∷ s.numbers;
            places = set s.places n (Some p);
            most = s.most;
          })
      inserted {s = s} view after c is more =
          let listed = listed_member keys (length keys - 1) p last in
          let front_is : take c after ≡ p ∷ used =
          ap (take c) is ∙ ap (λ (k : ℕ). take k (p ∷ without p keys)) more ∙ ap (λ (k : ℕ). take k (p ∷ without p keys)) (add-one count)
          ∙ ap (λ (rest : List ℕ). p ∷ rest) (front_stays p keys (length keys - 1) count (omega (arith, short, are.filled.all))
          are.filled.once last
          (omega (arith, short, are.filled.all))) in
          let new_place : get_or places_after n most ≡ p = get_or-set_same places n p most known in
          let old_place : (m : ℕ) → m ≢ n → get_or places_after m most ≡ place m = λ m other. get_or-set_other places n m p most other in
          let new_number : get_or numbers_after p 0 ≡ n = get_or-set_same numbers p n 0 (last_below p last) in
          record {
            are = record {
              filled = subst (IsFilled after) (sym same_most) (subst (λ (ks : List ℕ). IsFilled ks most) (sym is)
                  (filled_front are.filled p listed));
              some = omega (arith, are.some, same_most);
              few = omega (arith, more, short, same_most);
              back = λ q is_q. place_after (get_or numbers_after q 0) ∙ elim (either_of p used q
                  (ap (λ (ps : List ℕ). is_member ps q) (sym front_is) ∙ is_q)) [
                    | inl same ↦ ap (λ (i : ℕ). get_or places_after (get_or numbers_after i 0) most) same
                        ∙ ap (λ (i : ℕ). get_or places_after i most) new_number
                        ∙ new_place ∙ sym same
                    | inr old ↦
                        ap (λ (i : ℕ). get_or places_after i most) (number_after q old)
                        ∙ old_place (number q) (λ same. omega (arith, absent, inside q old, sym (are.back q old) ∙ ap place same))
                        ∙ are.back q old
                  ];
              used = λ m less. ap (λ (ps : List ℕ). is_member ps (get_or places_after m (length numbers_after))) front_is
                  ∙ ap (is_member (p ∷ used)) (place_after m) ∙ elim (cases_eq m n) [
                    | inl same ↦ member_head (get_or places_after m most) p used
                        (ap (λ (i : ℕ). get_or places_after i most) same ∙ new_place)
                    | inr other ↦
                        ap (is_member (p ∷ used)) (old_place m other)
                        ∙ in_tail p used (place m) (are.used m (omega (arith, less, place_after m, old_place m other, same_most)))
                  ];
              forth = λ m less. ap (λ (i : ℕ). get_or numbers_after i 0) (place_after m) ∙ elim (cases_eq m n) [
                | inl same ↦ ap (λ (i : ℕ). get_or numbers_after i 0) (ap (λ (i : ℕ). get_or places_after i most) same ∙ new_place)
                    ∙ new_number ∙ sym same
                | inr other ↦
                    let old : place m < most = omega (arith, less, place_after m, old_place m other, same_most) in
                    ap (λ (i : ℕ). get_or numbers_after i 0) (old_place m other) ∙ number_after (place m) (are.used m old) ∙ are.forth m old
              ];
            };
            view =
                ap (λ (k : ℕ). let o : OrderState = record
                { numbers = map (λ q. get_or numbers_after q 0) (take c after); places = map (place_below k) places_after; most = k } in o)
                same_most
                ∙ ap (λ (ns : List ℕ). let o : OrderState = record {
                  numbers = ns;
                  places = map (place_below most) places_after;
                  most = most;
                }
                in o)
                (ap (map (λ q. get_or numbers_after q 0)) front_is ∙ ap (λ (m : ℕ). m ∷ map (λ q. get_or numbers_after q 0) used) new_number
                ∙ ap (λ (ns : List ℕ). n ∷ ns) (same_map (λ q. get_or numbers_after q 0) number used number_after))
                ∙ ap (λ (os : List (Option ℕ)). let o : OrderState = record { numbers = n ∷ map number used; places = os; most = most } in
                o)
                (places_set n p (Some p) known (below_is most p (last_below p last)))
                ∙ ap (λ (o : OrderState). let t : OrderState = record {
                  numbers = n ∷ o.numbers;
                  places = set o.places n (Some p);
                  most = o.most;
                } in t) view;
          }

  -- if all places have a number, the place used longest ago has the number used longest ago
  pub least_number : {s : OrderState} → order_of keys numbers places count ≡ s → s.most ≤ length s.numbers → (p n : ℕ) →
      used_longest_ago keys ≡ Some p → n ≡ get_or numbers p n →
      Some n ≡ used_longest_ago s.numbers
  least_number {s = s} view many p n last is =
      grind (arith, nat_tests, count_is, most_is, take_all, get_or_default, last_below, length_used, slice_get-map)

-- in a new order no number has a place
pub none_placed : (keys numbers places : List ℕ) (most count : ℕ) → 0 < most → IsFilled keys most → length numbers ≡ most →
    places ≡ replicate count most → Spreads keys numbers places 0 (record { numbers = []; places = replicate count None; most = most })
none_placed keys numbers places most count some filled size is =
    let past : (n : ℕ) → get_or places n (length numbers) ≡ length numbers =
    λ n. ap (get_or places n) size ∙ ap (λ (ps : List ℕ). get_or ps n most) is ∙ elim (cases_lt n count) [
      | inl below ↦ get_or-replicate count n most most below
      | inr past ↦ get_or_past (replicate count most) n most (omega (arith, past, length-replicate count most))
    ] ∙ sym size in
    record {
      are = grind (arith, nat_tests);
      view =
          ap (λ (m : ℕ). let o : OrderState = record { numbers = []; places = map (place_below m) places; most = m } in o) size
          ∙ ap (λ (os : List (Option ℕ)). let o : OrderState = record { numbers = []; places = os; most = most } in o)
          (ap (map (place_below most)) is ∙ none_below count);
    }
  where
    none_below : (k : ℕ) → map (place_below most) (replicate k most) ≡ replicate k None
    none_below zero = refl
    none_below (suc k) = ap (λ (o : Option ℕ). o ∷ map (place_below most) (replicate k most)) (past_is most most (omega arith)) ∙ ap
        (λ (os : List (Option ℕ)). None ∷ os) (none_below k)
