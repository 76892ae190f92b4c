-- Bodies of objects by place.
use Rattle.cache_entries.proofs.Names.{nat_tests, AreBodies, inl, inr, ℕ, true, false, List, [], length, set, get_or, replicate, Option, Some, None, IsSome}
use Rattle.cache_entries.proofs.Names.{refl, sym, ap, subst, arith, length-set, cases_eq, get_or-set_same, get_or-set_other, get_or_past, get_or_default}
use Rattle.cache_entries.proofs.Names.{get_or-map-range_with_len, length-map-range_with_len, get_or-replicate, length-replicate, set-get_or, fill_by_all}
use Rattle.cache_entries.proofs.Names.{item_at, Kind, Content, Cap, held_at, with_word_in, with_slot_in, HasRoom, kind_at, kind_of, content_in, content_at}
use Rattle.cache_entries.proofs.Names.{contents_in, with_words_of, with_slots_of, words_are_of, slots_are_of, kind_with_root, slots_from, with_root_in}
use Rattle.cache_entries.proofs.Names.{with_slots_in, Root, changed_once, slots_at}
use Rattle.std.proofs.Common.{◌≡◌, ◌≢◌, ◌+◌, ◌<◌, ◌∷◌, ◌∙◌}
use Rattle.cache_entries.proofs.Voids.{slots_are}
use Rattle.model.specs.declared.object.Content.TheVariants as content
use Rattle.cache_entries.specs.declared.bodies.Kind.TheVariants as kind

length_contents : (ks : List Kind) (ps : List (Option (List ℕ))) (ns : List (Option (List Cap))) → length (contents_in ks ps ns) ≡ length ks
unfolding contents_in
length_contents ks ps ns = length-map-range_with_len (content_at ks ps ns) 0 (length ks)

read : (ks : List Kind) (ps : List (Option (List ℕ))) (ns : List (Option (List Cap))) (k : ℕ) →
    held_at (contents_in ks ps ns) k ≡ content_at ks ps ns k
unfolding contents_in
read ks ps ns k = grind (arith, nat_tests, get_or-map-range_with_len, get_or_past, length_contents)

-- if a body's kind has words, and these are stored, `HasRoom` holds
word_room : (a : Kind) (w : List ℕ) (s : Option (List Cap)) → words_are_of a ≡ true → HasRoom a (Some w) s
word_room a w s is = grind (arith, nat_tests)

slot_room : (a : Kind) (o : Option (List ℕ)) (t : List Cap) → slots_are_of a ≡ true → HasRoom a o (Some t)
slot_room a o t is = grind (arith, nat_tests)

some_words : (a : Kind) (o : Option (List ℕ)) (s : Option (List Cap)) → words_are_of a ≡ true → HasRoom a o s → IsSome o
some_words a o s is room = grind (arith, nat_tests)

some_slots : (a : Kind) (o : Option (List ℕ)) (s : Option (List Cap)) → slots_are_of a ≡ true → HasRoom a o s → IsSome s
some_slots a o s is room = grind (arith, nat_tests)

-- the bodies at all places, after a change
pub record Puts (ks : List Kind) (ps : List (Option (List ℕ))) (ns : List (Option (List Cap))) (after : List (Content Cap)) : Type 0 where
  pub are : AreBodies ks ps ns
  pub contents : contents_in ks ps ns ≡ after

-- changing the root of a body changes the root of its content
module _ (change : Root Cap → Root Cap) where
  root_in : (a : Kind) (o : Option (List ℕ)) (s : Option (List Cap)) → content_in (kind_with_root change a) o s
      ≡ with_root_in change (content_in a o s)
  root_in a o s = grind (arith, nat_tests)

  root_room : (a : Kind) (o : Option (List ℕ)) (s : Option (List Cap)) → HasRoom a o s → HasRoom (kind_with_root change a) o s
  root_room a o s room = grind (arith, nat_tests)

-- setting a slot of a body sets it in its content
module _ (slot : ℕ) (c : Cap) where
  slot_in : (o : Option (List ℕ)) (s : List Cap) (a : Kind) → slots_are_of a ≡ true →
      with_slot_in (content_in a o (Some s)) slot c ≡ content_in a o (Some (set s slot c))
  slot_in o s a is = grind (arith, nat_tests)

  no_slot : (a : Kind) (o : Option (List ℕ)) (s : Option (List Cap)) → slots_are_of a ≡ false →
      with_slot_in (content_in a o s) slot c ≡ content_in a o s
  no_slot a o s none = grind (arith, nat_tests)

-- setting the slots from an index on sets them in the content
slots_in : (o : Option (List ℕ)) (s : List Cap) (i : ℕ) (cs : List Cap) (a : Kind) → slots_are_of a ≡ true →
    with_slots_in (content_in a o (Some s)) i cs ≡ content_in a o (Some (slots_from s i cs))
slots_in o s i [] a is = refl
slots_in o s i (c ∷ cs) a is = rw (slot_in i c o s a is) (slots_in o (set s i c) (i + 1) cs a is)

no_slots_in : (i : ℕ) (cs : List Cap) (a : Kind) (o : Option (List ℕ)) (s : Option (List Cap)) → slots_are_of a ≡ false → with_slots_in
    (content_in a o s) i cs ≡ content_in a o s
no_slots_in i [] a o s none = refl
no_slots_in i (c ∷ cs) a o s none = ap (λ (d : Content Cap). with_slots_in d (i + 1) cs) (no_slot i c a o s none)
    ∙ no_slots_in (i + 1) cs a o s none

module _ {ks : List Kind} {ps : List (Option (List ℕ))} {ns : List (Option (List Cap))} (are : AreBodies ks ps ns) {v : List (Content Cap)}
    (view : contents_in ks ps ns ≡ v) {k : ℕ} (within : k < length v) where
  pub kind_within : k < length ks
  kind_within = omega (arith, within, ap length view, length_contents ks ps ns)

  pub page_within : k < length ps
  page_within = omega (arith, kind_within, are.pages)

  pub node_within : k < length ns
  node_within = omega (arith, kind_within, are.nodes)

  pub ruleset places_within = (kind_within, page_within, node_within)

  replaced : (qs : List (Option (List ℕ))) (ms : List (Option (List Cap))) (b : Kind) (c : Content Cap) → length qs ≡ length ps →
      length ms ≡ length ns → ((m : ℕ) → m ≢ k → item_at qs m ≡ item_at ps m) → ((m : ℕ) → m ≢ k → item_at ms m ≡ item_at ns m) →
      HasRoom b (item_at qs k) (item_at ms k) → content_in b (item_at qs k) (item_at ms k) ≡ c → Puts (set ks k b) qs ms (set v k c)
  replaced qs ms b c pages nodes same_pages same_nodes room is =
      let here : kind_at (set ks k b) k ≡ b = get_or-set_same ks k b kind.Free kind_within in record {
        are = record {
          pages = omega (arith, pages, are.pages, length-set ks k b);
          nodes = omega (arith, nodes, are.nodes, length-set ks k b);
          room = λ m. elim (cases_eq m k) [
            | inl same ↦ rw (same, here) room
            | inr other ↦ rw (get_or-set_other ks k m b kind.Free other, same_pages m other, same_nodes m other) (are.room m)
          ];
        };
        contents =
            changed_once (contents_in ks ps ns) (contents_in (set ks k b) qs ms) k content.Free c
            (length_contents (set ks k b) qs ms ∙ length-set ks k b ∙ sym (length_contents ks ps ns))
            (omega (arith, kind_within, length_contents ks ps ns))
            (read (set ks k b) qs ms k ∙ ap (λ (a : Kind). content_in a (item_at qs k) (item_at ms k)) here ∙ is)
            (λ m other. read (set ks k b) qs ms m ∙ rw (get_or-set_other ks k m b kind.Free other, same_pages m other, same_nodes m other)
            (sym (read ks ps ns m)))
            ∙ ap (λ (cs : List (Content Cap)). set cs k c) view;
      }

  worded : (b : Kind) (w : List ℕ) (c : Content Cap) → HasRoom b (Some w) (item_at ns k) → content_in b (Some w) (item_at ns k) ≡ c →
      Puts (set ks k b) (set ps k (Some w)) ns (set v k c)
  worded b w c room is = search (get_or-set_same, page_within, replaced, length-set, get_or-set_other)

  slotted : (b : Kind) (s : List Cap) (c : Content Cap) → HasRoom b (item_at ps k) (Some s) → content_in b (item_at ps k) (Some s) ≡ c →
      Puts (set ks k b) ps (set ns k (Some s)) (set v k c)
  slotted b s c room is = search (get_or-set_same, node_within, replaced, length-set, get_or-set_other)

  bare : (b : Kind) (c : Content Cap) → HasRoom b (item_at ps k) (item_at ns k) → content_in b (item_at ps k) (item_at ns k) ≡ c →
      Puts (set ks k b) ps ns (set v k c)
  bare b c room is = replaced ps ns b c refl refl (λ m other. refl) (λ m other. refl) room is

  pub puts : (c : Content Cap) → Puts (set ks k (kind_of c)) (with_words_of c k ps) (with_slots_of c k ns) (set v k c)
  puts content.Free = bare kind.Free content.Free tt refl
  puts (content.Page words) = worded kind.Page words (content.Page words) refl refl
  puts (content.Node slots) = slotted kind.Node slots (content.Node slots) refl refl
  puts (content.Root root) = bare (kind.Root root) (content.Root root) tt refl
  puts (content.Annex slots) = slotted kind.Annex slots (content.Annex slots) refl refl
  puts (content.Bank limit) = bare (kind.Bank limit) (content.Bank limit) tt refl

  pub puts_are : (c : Content Cap) → AreBodies (set ks k (kind_of c)) (with_words_of c k ps) (with_slots_of c k ns)
  puts_are c = (puts c).are

  pub puts_seen : (c : Content Cap) → contents_in (set ks k (kind_of c)) (with_words_of c k ps) (with_slots_of c k ns) ≡ set v k c
  puts_seen c = (puts c).contents

  pub ruleset body_edits = (puts_are, puts_seen)

  module _ {b : Kind} (b_is : b ≡ get_or ks k b) where
    there : b ≡ kind_at ks k
    there = b_is ∙ get_or_default ks k b kind.Free kind_within

    pub room_of : HasRoom b (item_at ps k) (item_at ns k)
    room_of = subst (λ (a : Kind). HasRoom a (item_at ps k) (item_at ns k)) (sym there) (are.room k)

    pub held : held_at v k ≡ content_in b (item_at ps k) (item_at ns k)
    held = grind (arith, nat_tests, read, there)

    same_kinds : set ks k b ≡ ks
    same_kinds = ap (set ks k) there ∙ set-get_or ks k kind.Free

    pub unchanged : (c : Content Cap) → content_in b (item_at ps k) (item_at ns k) ≡ c → v ≡ set v k c
    unchanged c is = sym (set-get_or v k content.Free) ∙ ap (set v k) (held ∙ is)

    module _ (index word : ℕ) where
      no_words : (a : Kind) (o : Option (List ℕ)) (s : Option (List Cap)) → words_are_of a ≡ false →
          content_in a o s ≡ with_word_in (content_in a o s) index word
      no_words a o s none = grind (arith, nat_tests)

      pub no_page : words_are_of b ≡ false → v ≡ set v k (with_word_in (held_at v k) index word)
      no_page none = rw held (unchanged (with_word_in (content_in b (item_at ps k) (item_at ns k)) index word)
          (no_words b (item_at ps k) (item_at ns k) none))

      word_in : (a : Kind) (w : List ℕ) (s : Option (List Cap)) → words_are_of a ≡ true →
          with_word_in (content_in a (Some w) s) index word ≡ content_in a (Some (set w index word)) s
      word_in a w s is = grind (arith, nat_tests)

      pub word_put : words_are_of b ≡ true → (w : List ℕ) → item_at ps k ≡ Some w →
          Puts ks (set ps k (Some (set w index word))) ns (set v k (with_word_in (held_at v k) index word))
      word_put is w here =
          let after : content_in b (Some (set w index word)) (item_at ns k) ≡ with_word_in (held_at v k) index word =
          grind (arith, nat_tests, word_in, held) in
          subst (λ (js : List Kind). Puts js (set ps k (Some (set w index word))) ns (set v k (with_word_in (held_at v k) index word)))
          same_kinds
          (worded b (set w index word) (with_word_in (held_at v k) index word) (word_room b (set w index word) (item_at ns k) is) after)

    pub word_seen : (index word : ℕ) → words_are_of b ≡ true → (w : List ℕ) → item_at ps k ≡ Some w →
        contents_in ks (set ps k (Some (set w index word))) ns ≡ set v k (with_word_in (held_at v k) index word)
    word_seen index word is w here = (word_put index word is w here).contents

    pub slots_there : slots_are_of b ≡ true → IsSome (item_at ns k)
    slots_there is = some_slots b (item_at ps k) (item_at ns k) is room_of

    pub words_there : words_are_of b ≡ true → IsSome (item_at ps k)
    words_there is = some_words b (item_at ps k) (item_at ns k) is room_of

    pub root_put : (change : Root Cap → Root Cap) → Puts (set ks k (kind_with_root change b)) ps ns
        (set v k (with_root_in change (held_at v k)))
    root_put change = search (bare, root_room, room_of, root_in, held)

    pub root_seen : (change : Root Cap → Root Cap) → contents_in (set ks k (kind_with_root change b)) ps ns
        ≡ set v k (with_root_in change (held_at v k))
    root_seen change = (root_put change).contents

    -- changing the slots at a place changes the content there
    slots_put : slots_are_of b ≡ true → (s t : List Cap) → item_at ns k ≡ Some s → (change : Content Cap → Content Cap) →
        ((a : Kind) → slots_are_of a ≡ true → change (content_in a (item_at ps k) (Some s)) ≡ content_in a (item_at ps k) (Some t)) →
        Puts ks ps (set ns k (Some t)) (set v k (change (held_at v k)))
    slots_put is s t here change changes =
        let after : content_in b (item_at ps k) (Some t) ≡ change (held_at v k) = grind (arith, nat_tests, held) in
        subst (λ (js : List Kind). Puts js ps (set ns k (Some t)) (set v k (change (held_at v k)))) same_kinds
        (slotted b t (change (held_at v k)) (slot_room b (item_at ps k) t is) after)

    no_slots : slots_are_of b ≡ false → (change : Content Cap → Content Cap) →
        ((a : Kind) (o : Option (List ℕ)) (s : Option (List Cap)) → slots_are_of a ≡ false → change (content_in a o s) ≡ content_in a o s) →
        v ≡ set v k (change (held_at v k))
    no_slots none change same = rw held (unchanged (change (content_in b (item_at ps k) (item_at ns k)))
        (sym (same b (item_at ps k) (item_at ns k) none)))

    pub slot_seen : (slot : ℕ) (c : Cap) → slots_are_of b ≡ true → (s : List Cap) → item_at ns k ≡ Some s →
        contents_in ks ps (set ns k (Some (set s slot c))) ≡ set v k (with_slot_in (held_at v k) slot c)
    slot_seen slot c is s here = (slots_put is s (set s slot c) here (λ x. with_slot_in x slot c)
        (slot_in slot c (item_at ps k) s)).contents

    pub no_slot_seen : (slot : ℕ) (c : Cap) → slots_are_of b ≡ false → v ≡ set v k (with_slot_in (held_at v k) slot c)
    no_slot_seen slot c none = no_slots none (λ x. with_slot_in x slot c) (no_slot slot c)

    pub slots_seen : (i : ℕ) (cs : List Cap) → slots_are_of b ≡ true → (s : List Cap) → item_at ns k ≡ Some s →
        contents_in ks ps (set ns k (Some (slots_from s i cs))) ≡ set v k (with_slots_in (held_at v k) i cs)
    slots_seen i cs is s here = (slots_put is s (slots_from s i cs) here (λ x. with_slots_in x i cs)
        (slots_in (item_at ps k) s i cs)).contents

    pub no_slots_seen : (i : ℕ) (cs : List Cap) → slots_are_of b ≡ false → v ≡ set v k (with_slots_in (held_at v k) i cs)
    no_slots_seen i cs none = no_slots none (λ x. with_slots_in x i cs) (no_slots_in i cs)

    pub ruleset word_edits = (words_there, no_page, word_seen)

    pub slots_are_there : slots_are_of b ≡ true → item_at ns k ≡ Some (slots_at ns k)
    slots_are_there is = slots_are ns k (slots_there is)

    pub ruleset slot_edits = (slots_there, slots_are_there, slot_seen, no_slot_seen, slots_seen, no_slots_seen)

all_held : (ks : List Kind) (ps : List (Option (List ℕ))) (ns : List (Option (List Cap))) → ((k : ℕ) → kind_at ks k ≡ kind.Free) →
    replicate (length ks) content.Free ≡ contents_in ks ps ns
unfolding contents_in
all_held ks ps ns free =
    (fill_by_all (content_at ks ps ns) (replicate (length ks) content.Free) (length ks) content.Free
    (length-replicate (length ks) content.Free)
    (λ k below. get_or-replicate (length ks) k content.Free content.Free below
    ∙ sym (ap (λ (a : Kind). content_in a (item_at ps k) (item_at ns k)) (free k))))

-- if all places are free, the content at each is `Free`
pub none_held : (n : ℕ) (ks : List Kind) (ps : List (Option (List ℕ))) (ns : List (Option (List Cap))) → ks ≡ replicate n kind.Free →
    ps ≡ replicate n None → ns ≡ replicate n None →
    Puts ks ps ns (replicate n content.Free)
none_held n ks ps ns kinds pages nodes = grind (arith, nat_tests, length-replicate, get_or-replicate, get_or_past, all_held)
