-- Cache entries by number, with their bodies at places.
use Rattle.cache_entries.proofs.Names.{nat_tests, AreStored, AreSpread, AreOrdered, ℕ, zero, suc, [], Bool, true, false, List, length, map, set, get_or}
use Rattle.cache_entries.proofs.Names.{replicate, Option, Some, None, is_some, option_map, cond, refl, sym, ap, arith, length-map, length-set, get_or-set_same}
use Rattle.cache_entries.proofs.Names.{get_or-set_other, get_or_past, Content, Cap, held_at, Entry, changing, entry_at, EntriesState, OrderState, entries_of}
use Rattle.cache_entries.proofs.Names.{entry_in, place_at, with_entry_of, with_new, without, without_entry, changed_once, get_map}
use Rattle.std.proofs.Common.{◌≡◌, ◌≢◌, ◌<◌, ◌∷◌, ◌∙◌}
use Rattle.model.specs.declared.object.Content.TheVariants as content

pub some_map : {X Y : Type 0} (f : X → Y) (o : Option X) → is_some (option_map f o) ≡ is_some o
some_map f o = grind (arith, nat_tests)

pub some_within : {X : Type 0} (os : List (Option X)) (n : ℕ) → is_some (get_or os n None) ≡ true → n < length os
some_within os n is = grind (arith, nat_tests, get_or_past)

elsewhere : (f g : ℕ → Entry) (r : Option ℕ) → ((q : ℕ) → r ≡ Some q → f q ≡ g q) → option_map f r ≡ option_map g r
elsewhere f g r same = grind (arith, nat_tests)

module _ (o : OrderState) {ps ks : List (Content Cap)} {ms : List Bool} (are : AreStored o.most ps ks ms) {s : EntriesState}
    (view : entries_of o ps ks ms ≡ s) where
  abbrev entry : ℕ → Entry
  entry = entry_in ps ks ms

  at_is : (n : ℕ) → entry_at s.at n ≡ option_map entry (place_at o.places n)
  at_is n = ap (λ (t : EntriesState). entry_at t.at n) (sym view) ∙ get_map (option_map entry) o.places n None None refl

  pub some_is : (n : ℕ) → is_some (place_at o.places n) ≡ is_some (entry_at s.at n)
  some_is n = sym (ap is_some (at_is n) ∙ some_map entry (place_at o.places n))

  pub known_is : length o.places ≡ length s.at
  known_is = sym (length-map o.places (option_map entry)) ∙ ap (λ (t : EntriesState). length t.at) view

  pub ordered : AreSpread o → AreOrdered s
  ordered spread = grind (arith, nat_tests, some_is)

  -- a number that has a place
  module _ (n : ℕ) {p : ℕ} (at : place_at o.places n ≡ Some p) (spread : AreSpread o) where
    pub below : p < o.most
    below = spread.within n p at

    pub mark_within : p < length ms
    mark_within = omega (arith, below, are.marks)

    replaced : (qs js : List (Content Cap)) (ls : List Bool) (change : Entry → Entry) → entry_in qs js ls p ≡ change (entry p) →
        ((q : ℕ) → q ≢ p → entry_in qs js ls q ≡ entry q) → entries_of o qs js ls ≡ with_entry_of change n s
    replaced qs js ls change here others =
        ap (λ (es : List (Option Entry)). let t : EntriesState = record { at = es; order = o.numbers; most = o.most } in t)
        (changed_once (map (option_map entry) o.places) (map (option_map (entry_in qs js ls)) o.places) n None
        (option_map change (entry_at s.at n))
        (length-map o.places (option_map (entry_in qs js ls)) ∙ sym (length-map o.places (option_map entry)))
        (omega (arith, some_within o.places n (ap is_some at), length-map o.places (option_map entry)))
        (get_map (option_map (entry_in qs js ls)) o.places n None None refl ∙ ap (option_map (entry_in qs js ls)) at
        ∙ ap Some here ∙ sym (ap (option_map change) (at_is n ∙ ap (option_map entry) at)))
        (λ m other. get_map (option_map (entry_in qs js ls)) o.places m None None refl
        ∙ elsewhere (entry_in qs js ls) entry (place_at o.places m) (λ q is. others q
        (λ same. other (spread.apart m n p (is ∙ ap Some same) at)))
        ∙ sym (get_map (option_map entry) o.places m None None refl)))
        ∙ ap (λ (t : EntriesState). let u : EntriesState = record {
          at = set t.at n (option_map change (entry_at s.at n));
          order = t.order;
          most = t.most;
        }
        in u) view

    -- changing the present body at a number's place changes the present body of its entry
    pub present_put : (change : Content Cap → Content Cap) → entries_of o (set ps p (change (held_at ps p))) ks ms
        ≡ with_entry_of (changing change) n s
    present_put change =
        let c = change (held_at ps p) in
        replaced (set ps p c) ks ms (changing change)
        (ap (λ (d : Content Cap). let e : Entry = record { present = d; kept = (entry p).kept } in e)
        (get_or-set_same ps p c content.Free (omega (arith, below, are.presents))))
        (λ q other. ap (λ (d : Content Cap). let e : Entry = record { present = d; kept = (entry q).kept } in e)
        (get_or-set_other ps p q c content.Free other))

    -- the frozen copy, if the mark says that there is one
    abbrev kept_by : Bool → Content Cap → Option (Content Cap)
    kept_by mark c = cond mark (Some c) None

    pub kept_put : (c : Content Cap) → held_at ps p ≡ c →
        entries_of o ps (set ks p c) (set ms p true) ≡ with_entry_of (λ e. record e { kept = Some e.present }) n s
    kept_put c is =
        replaced ps (set ks p c) (set ms p true) (λ e. record e { kept = Some e.present })
        (ap (λ (d : Option (Content Cap)). let e : Entry = record { present = held_at ps p; kept = d } in e)
        (ap (λ (t : Bool). kept_by t (held_at (set ks p c) p)) (get_or-set_same ms p true false mark_within) ∙ ap Some
        (get_or-set_same ks p c content.Free (omega (arith, below, are.kepts)) ∙ sym is)))
        (λ q other. ap (λ (d : Option (Content Cap)). let e : Entry = record { present = held_at ps q; kept = d } in e)
        (ap (λ (t : Bool). kept_by t (held_at (set ks p c) q)) (get_or-set_other ms p q true false other)
        ∙ ap (kept_by (get_or ms q false)) (get_or-set_other ks p q c content.Free other)))

    pub kept_dropped : entries_of o ps ks (set ms p false) ≡ with_entry_of (λ e. record e { kept = None }) n s
    kept_dropped = search (replaced, get_or-set_same, mark_within, get_or-set_other)

  -- giving a number a free place adds an entry for it
  pub entered : (n p : ℕ) (c : Content Cap) → n < length s.at → p < o.most → ((m : ℕ) → place_at o.places m ≢ Some p) →
      entries_of (record { numbers = n ∷ o.numbers; places = set o.places n (Some p); most = o.most }) (set ps p c) ks (set ms p false)
      ≡ with_new n c s
  entered n p c inside within fresh =
      let known : n < length o.places = omega (arith, inside, known_is) in
      let qs = set ps p c in
      let ls = set ms p false in
      let new : Entry = record { present = c; kept = None } in
      let here : entry_in qs ks ls p ≡ new = grind (arith, nat_tests, get_or-set_same) in
      let other_entry : (q : ℕ) → q ≢ p → entry_in qs ks ls q ≡ entry q =
      λ q other. ap (λ (d : Content Cap). let e : Entry = record { present = d; kept = (entry_in qs ks ls q).kept } in e)
      (get_or-set_other ps p q c content.Free other)
      ∙ ap (λ (t : Bool). let e : Entry = record { present = held_at ps q; kept = cond t (Some (held_at ks q)) None } in e)
      (get_or-set_other ms p q false false other) in
      ap (λ (es : List (Option Entry)). let t : EntriesState = record { at = es; order = n ∷ o.numbers; most = o.most } in t)
      (changed_once (map (option_map entry) o.places) (map (option_map (entry_in qs ks ls)) (set o.places n (Some p))) n None (Some new)
      (length-map (set o.places n (Some p)) (option_map (entry_in qs ks ls)) ∙ length-set o.places n (Some p)
      ∙ sym (length-map o.places (option_map entry)))
      (omega (arith, known, length-map o.places (option_map entry)))
      (get_map (option_map (entry_in qs ks ls)) (set o.places n (Some p)) n None None refl
      ∙ ap (option_map (entry_in qs ks ls)) (get_or-set_same o.places n (Some p) None known) ∙ ap Some here)
      (λ m other. get_map (option_map (entry_in qs ks ls)) (set o.places n (Some p)) m None None refl
      ∙ ap (option_map (entry_in qs ks ls)) (get_or-set_other o.places n m (Some p) None other)
      ∙ elsewhere (entry_in qs ks ls) entry (place_at o.places m) (λ q is. other_entry q (λ same. fresh m (is ∙ ap Some same)))
      ∙ sym (get_map (option_map entry) o.places m None None refl)))
      ∙ ap (with_new n c) view

  -- taking a number's place away removes its entry
  pub left : (n : ℕ) → is_some (entry_at s.at n) ≡ true →
      entries_of (record { numbers = without n o.numbers; places = set o.places n None; most = o.most }) ps ks ms ≡ without_entry n s
  left n some =
      let is = some_is n ∙ some in
      ap (λ (es : List (Option Entry)). let t : EntriesState = record { at = es; order = without n o.numbers; most = o.most } in t)
      (changed_once (map (option_map entry) o.places) (map (option_map entry) (set o.places n None)) n None None
      (length-map (set o.places n None) (option_map entry) ∙ length-set o.places n None ∙ sym (length-map o.places (option_map entry)))
      (omega (arith, some_within o.places n is, length-map o.places (option_map entry)))
      (get_map (option_map entry) (set o.places n None) n None None refl ∙ ap (option_map entry)
      (get_or-set_same o.places n None None (some_within o.places n is)))
      (λ m other. get_map (option_map entry) (set o.places n None) m None None refl
      ∙ ap (option_map entry) (get_or-set_other o.places n m None None other)
      ∙ sym (get_map (option_map entry) o.places m None None refl)))
      ∙ ap (without_entry n) view

-- in a new cache no number has an entry
pub none_stored : (o : OrderState) (ps ks : List (Content Cap)) (ms : List Bool) (count most : ℕ) → o ≡ record
    { numbers = []; places = replicate count None; most = most } →
    entries_of o ps ks ms ≡ record { at = replicate count None; order = []; most = most }
none_stored o ps ks ms count most is =
    ap (λ (p : OrderState). entries_of p ps ks ms) is
    ∙ ap (λ (es : List (Option Entry)). let t : EntriesState = record { at = es; order = []; most = most } in t) (go count)
  where
    go : (k : ℕ) → map (option_map (entry_in ps ks ms)) (replicate k None) ≡ replicate k None
    go zero = refl
    go (suc k) = ap (λ (es : List (Option Entry)). None ∷ es) (go k)
