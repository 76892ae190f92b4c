-- A log of uses that haven't been moved to the order yet.
use Rattle.cache_entries.proofs.Names.{nat_tests, ℕ, true, false, List, [], length, set, drop, get_or, get_or_default, get_or_past, Some, None, is_some, sym}
use Rattle.cache_entries.proofs.Names.{ap, subst, arith, is_member, AreSpread, AreStamped, IsLogOf, LogState, OrderState, place_at, used_all, used_in_turn}
use Rattle.cache_entries.proofs.Names.{used_last, used_longest_ago, without, true≢false, false_from_ne_true, length-set}
use Rattle.std.proofs.Common.{◌≡◌, ◌+◌, ◌-◌, ◌<◌, ◌≤◌, ◌∷◌, ◌++◌, ◌∙◌}
use Rattle.cache_entries.proofs.Orders.{length_without, listed_member, member_at, member_behind, still}
use Rattle.cache_entries.proofs.Turns.{last_in_turn, left_out, length_in_turn, listed_end, member_in_turn, member_used, new_last, settles, used_again}
use Rattle.cache_entries.proofs.Turns.{without_in_turn}

-- ---- stamps

module _ {uses stamps : List ℕ} (are : AreStamped uses stamps) {us : List ℕ} (same : uses ≡ us) (i n : ℕ) (below : i < length us)
    (is : n ≡ get_or uses i n) where
  within : i < length uses
  within = subst (λ (xs : List ℕ). i < length xs) (sym same) below

  number_is : n ≡ get_or uses i 0
  number_is = is ∙ get_or_default uses i n 0 within

  was_used : is_member uses n ≡ true
  was_used = ap (is_member uses) number_is ∙ member_at uses i within

  -- the number of a use is known
  pub number_known : n < length stamps
  number_known = are.known n was_used

  -- if a number's stamp is after index i, the use at i is followed by another use of the same number
  pub used_behind : (j : ℕ) → j ≡ get_or stamps n j → i < j → is_member (drop (i + 1) us) (get_or us i 0) ≡ true
  used_behind j stamp after =
      let stamp_is : j ≡ get_or stamps n 0 = stamp ∙ get_or_default stamps n j 0 number_known in
      let stands = are.stamped n was_used in
      let later : is_member (drop (i + 1) uses) (get_or uses (get_or stamps n 0) 0) ≡ true =
      member_behind uses i (get_or stamps n 0) (omega (arith, after, stamp_is)) stands.within in
      subst (λ (xs : List ℕ). is_member (drop (i + 1) xs) (get_or xs i 0) ≡ true) same
      (ap (is_member (drop (i + 1) uses)) (sym number_is ∙ sym stands.there) ∙ later)

-- ---- numbers of an order

pub listed_below : (s : OrderState) → AreSpread s → (n : ℕ) → is_member s.numbers n ≡ true → n < length s.places
listed_below s are n here = grind (arith, nat_tests, are.listed n, get_or_past)

pub unlisted : (s : OrderState) → AreSpread s → (n : ℕ) → length s.places ≤ n → is_member s.numbers n ≡ false
unlisted s are n past = are.listed n ∙ ap is_some (get_or_past s.places n None past)

pub least_below : (s : OrderState) → AreSpread s → (n : ℕ) → Some n ≡ used_longest_ago s.numbers → n < length s.places
least_below s are n least = listed_below s are n (listed_member s.numbers (length s.numbers - 1) n (sym least))

pub least_in_turn : (uses order : List ℕ) (n : ℕ) → is_member uses n ≡ false → Some n ≡ used_longest_ago order →
    Some n ≡ used_longest_ago (used_in_turn uses order)
least_in_turn uses order n none least = sym (last_in_turn uses order n none (sym least))

-- ---- the uses of a log, one after the other

pub record Settling (uses : List ℕ) (i : ℕ) (start o : OrderState) : Type 0 where
  pub same : used_all (drop i uses) o ≡ used_all uses start
  pub listed : (n : ℕ) → is_member uses n ≡ true → is_member o.numbers n ≡ true

module _ (uses : List ℕ) (i : ℕ) (start o p : OrderState) (below : i < length uses) (same : used_all (drop i uses) o ≡ used_all uses start)
    (listed : (n : ℕ) → is_member uses n ≡ true → is_member o.numbers n ≡ true) where
  pub one_settled : (n : ℕ) → n ≡ get_or uses i 0 → p ≡ used_last n o → Settling uses (i + 1) start p
  one_settled n number is =
      let last : p ≡ used_last (get_or uses i 0) o = is ∙ ap (λ (m : ℕ). used_last m o) number in
      rw last (record {
        same = sym (settles uses i o below) ∙ same;
        listed = λ m has. member_used (get_or uses i 0) o.numbers m (listed (get_or uses i 0) (member_at uses i below)) ∙ listed m has;
      })

  pub one_left_out : p ≡ o → is_member (drop (i + 1) uses) (get_or uses i 0) ≡ true → Settling uses (i + 1) start p
  one_left_out is later = rw is (record { same = sym (left_out uses i o below later) ∙ same; listed = listed })

-- ---- a log of an order

-- moving a use from the log to the order keeps s, the order that both represent together
pub record Moves (l : LogState) (s p : OrderState) : Type 0 where
  pub same : used_all l.uses p ≡ s
  pub log : IsLogOf l p
  pub full : p.most ≤ length p.numbers

module _ (l : LogState) (o : OrderState) (are : IsLogOf l o) where
  pub moves : (s p : OrderState) (n : ℕ) → used_all l.uses o ≡ s → o.most ≤ length o.numbers → is_member l.uses n ≡ true →
      p ≡ used_last n o → Moves l s p
  moves s p n same full has is =
      let here = are.listed n has in
      rw is (record {
        same = used_again n l.uses o has ∙ same;
        log = record { listed = λ m used. member_used n o.numbers m here ∙ are.listed m used; count = are.count; some = are.some };
        full = omega (arith, full, length_without n o.numbers here);
      })

  pub settled_full : (p : OrderState) → p ≡ used_all l.uses o → o.most ≤ length o.numbers → p.most ≤ length p.numbers
  settled_full p is full = rw is (omega (arith, full, length_in_turn l.uses o.numbers are.listed))

  pub settled_members : (p : OrderState) → p ≡ used_all l.uses o → (n : ℕ) → is_member p.numbers n ≡ is_member o.numbers n
  settled_members p is n = ap (λ (q : OrderState). is_member q.numbers n) is ∙ member_in_turn l.uses o.numbers n are.listed

  -- a log of an order remains one if a number of the order is used once more
  pub logged : (m : LogState) (n : ℕ) → is_member o.numbers n ≡ true →
      m ≡ record { uses = l.uses ++ n ∷ []; count = l.count; most = l.most } → IsLogOf m o
  logged m n here is = rw is (record { listed = listed_end l.uses o.numbers n are.listed here; count = are.count; some = are.some })

  -- facts about an order with a log, which together represent s
  module _ {s : OrderState} (view : used_all l.uses o ≡ s) where
    pub most_is : o.most ≡ s.most
    most_is = ap (λ (q : OrderState). q.most) view

    pub length_is : length o.numbers ≡ length s.numbers
    length_is = sym (length_in_turn l.uses o.numbers are.listed) ∙ ap (λ (q : OrderState). length q.numbers) view

    pub member_is : (n : ℕ) → is_member o.numbers n ≡ is_member s.numbers n
    member_is n = sym (member_in_turn l.uses o.numbers n are.listed) ∙ ap (λ (q : OrderState). is_member q.numbers n) view

    pub full_before : s.most ≤ length s.numbers → o.most ≤ length o.numbers
    full_before full = omega (arith, full, most_is, length_is)

    pub room_before : length s.numbers < s.most → length o.numbers < o.most
    room_before room = omega (arith, room, most_is, length_is)

    pub known_before : AreSpread o → (n : ℕ) → is_member s.numbers n ≡ true → n < l.count
    known_before spread n here = omega (arith, listed_below o spread n (member_is n ∙ here), are.count)

    -- a number that has no use in the log is removed from the order
    module _ (n : ℕ) (none : is_member l.uses n ≡ false) (p : OrderState)
        (is : p ≡ record { numbers = without n o.numbers; places = set o.places n None; most = o.most }) where
      pub removed_log : IsLogOf l p
      removed_log = rw is (record {
        listed = λ m used. still n o.numbers m (λ same. true≢false (sym used ∙ ap (is_member l.uses) same ∙ none)) ∙ are.listed m used;
        count = are.count ∙ sym (length-set o.places n None);
        some = are.some;
      })

      pub removed_view : used_all l.uses p ≡ record { numbers = without n s.numbers; places = set s.places n None; most = s.most }
      removed_view = rw (is, ← view)
          (ap (λ (ns : List ℕ). let q : OrderState = record { numbers = ns; places = set o.places n None; most = o.most } in q)
          (sym (without_in_turn n l.uses o.numbers none)))

    -- a number that has no place is added to the order
    module _ (n : ℕ) (absent : place_at s.places n ≡ None) (spread : AreSpread o) (p : OrderState) (place : ℕ)
        (is : p ≡ record { numbers = n ∷ o.numbers; places = set o.places n (Some place); most = o.most }) where
      unused : is_member l.uses n ≡ false
      unused = false_from_ne_true (is_member l.uses n) (λ used. true≢false (
          sym (are.listed n used) ∙ spread.listed n ∙ ap (λ (q : OrderState). is_some (place_at q.places n)) view ∙ ap is_some absent))

      pub inserted_view : (m : LogState) → m ≡ record { uses = l.uses ++ n ∷ []; count = l.count; most = l.most } →
          used_all m.uses p ≡ record { numbers = n ∷ s.numbers; places = set s.places n (Some place); most = s.most }
      inserted_view m more = rw (is, more, ← view)
          (ap (λ (ns : List ℕ). let q : OrderState = record { numbers = ns; places = set o.places n (Some place); most = o.most } in q)
          (new_last l.uses o.numbers n unused))
