-- The table after a value is put at a key. A `Node` is a table or value while TOML text is read; `close` makes it data.
use Rattle.image_describer.proofs.Names.{nat_tests, arith, ℕ, Bool, true, false, List, Option, Some, None, option_map, Ordering, Less, Equal, Greater, nat_cmp}
use Rattle.image_describer.proofs.Names.{is_eq, refl, sym, ap, IsTrue, slice_cmp, list_any, match_ordering, alike_right, nat_list_cmp_total, Data, get_member}
use Rattle.image_describer.proofs.Names.{member, Members, no_members, same_key, Nodes, close, close_node, get_node, insert, no_nodes, node, get_node-insert}
use Rattle.image_describer.proofs.Names.{has_only, Node, both_true}
use Rattle.std.proofs.Common.{◌≡◌, ◌&&◌, if◌then◌else◌, ◌∙◌}
use Rattle.std.specs.Prelude.{not}

-- the parts of a conjunction are true
pub left : (a b : Bool) → IsTrue (a && b) → IsTrue a
left true b is = refl
left false b is = is

pub right : (a b : Bool) → IsTrue (a && b) → IsTrue b
right true b is = is
right false b is = absurd cc

pub falsely : (a : Bool) → IsTrue (not a) → a ≡ false
falsely true is = sym is
falsely false is = refl

-- the value is put at the key, if there is a value; other keys stay
pub record Puts (key : List ℕ) (o : Option Data) (old new : Members) : Type 0 where
  pub found : get_member key old ≡ None → get_member key new ≡ o
  pub others : (k : List ℕ) → same_key k key ≡ false → get_member k new ≡ get_member k old
  pub only : (keys : List (List ℕ)) → IsTrue (list_any (same_key key) keys) → IsTrue (has_only keys old) → IsTrue (has_only keys new)

-- a table has the value that `close_node` makes of the `Node` at a key
member_here : (o : Ordering) (d : Option Data) (x : Node) (m : Option Node) → d ≡ option_map close_node m
    → match_ordering o d (Some (close_node x)) d ≡ option_map close_node (if is_eq o then Some x else m)
member_here Equal d x m is = refl
member_here o d x m is = is

pub member_of : (k : List ℕ) (ns : Nodes) → get_member k (close ns) ≡ option_map close_node (get_node k ns)
member_of k no_nodes = refl
member_of k (node l x ns) = member_here (slice_cmp nat_cmp k l) (get_member k (close ns)) x (get_node k ns) (member_of k ns)

-- if a closed table has nothing at a key, it had no `Node` there
none_mapped : (m : Option Node) → option_map close_node m ≡ None → m ≡ None
none_mapped None is = refl
none_mapped (Some x) is = absurd cc

pub no_node : (k : List ℕ) (ns : Nodes) → get_member k (close ns) ≡ None → get_node k ns ≡ None
no_node k ns none = none_mapped (get_node k ns) (sym (member_of k ns) ∙ none)

-- if the keys differ, the search goes on to the next one
skipped : (o : Ordering) (x y : Option Data) → is_eq o ≡ false → match_ordering o y x y ≡ y
skipped Equal x y other = absurd cc
skipped o x y other = refl

first_other : (j l : List ℕ) (d : Data) (ms : Members) → same_key j l ≡ false → get_member j (member l d ms) ≡ get_member j ms
first_other j l d ms other = skipped (slice_cmp nat_cmp j l) (Some d) (get_member j ms) other

-- other keys keep their values
other_at : (j : List ℕ) (o : Ordering) (k l : List ℕ) (x y : Node) (ns next : Nodes) → o ≡ slice_cmp nat_cmp k l → same_key j k ≡ false
    → get_member j (close next) ≡ get_member j (close ns)
    → get_member j (close (match_ordering o (node k x (node l y ns)) (node l x ns) (node l y next))) ≡ get_member j (close (node l y ns))
other_at j o k l x y ns next is other rest = grind (arith, nat_tests, first_other, alike_right, nat_list_cmp_total)

inserted_other : (j k : List ℕ) (x : Node) (ns : Nodes) → same_key j k ≡ false →
    get_member j (close (insert k x ns)) ≡ get_member j (close ns)
inserted_other j k x no_nodes other = first_other j k (close_node x) no_members other
inserted_other j k x (node l y ns) other = other_at j (slice_cmp nat_cmp k l) k l x y ns (insert k x ns) refl other
    (inserted_other j k x ns other)

-- if all keys of a table are known, they still are after a `Node` with a known key is inserted
only_at : (keys : List (List ℕ)) (o : Ordering) (k l : List ℕ) (x y : Node) (ns next : Nodes) → IsTrue (list_any (same_key k) keys)
    → IsTrue (has_only keys (close (node l y ns))) → IsTrue (has_only keys (close next))
    → IsTrue (has_only keys (close (match_ordering o (node k x (node l y ns)) (node l x ns) (node l y next))))
only_at keys Less k l x y ns next known all rest = both_true known all
only_at keys Equal k l x y ns next known all rest = all
only_at keys Greater k l x y ns next known all rest = both_true (left _ _ all) rest

inserted_only : (keys : List (List ℕ)) (k : List ℕ) (x : Node) (ns : Nodes) → IsTrue (list_any (same_key k) keys) →
    IsTrue (has_only keys (close ns)) → IsTrue (has_only keys (close (insert k x ns)))
inserted_only keys k x no_nodes known all = both_true known refl
inserted_only keys k x (node l y ns) known all = only_at keys _ k l x y ns _ known all (inserted_only keys k x ns known (right _ _ all))

-- inserting a `Node` puts its value
pub puts_inserted : (k : List ℕ) (x : Node) (ns : Nodes) → Puts k (Some (close_node x)) (close ns) (close (insert k x ns))
puts_inserted k x ns = record {
  found = λ none. member_of k (insert k x ns) ∙ ap (option_map close_node) (get_node-insert k x ns);
  others = λ j other. inserted_other j k x ns other;
  only = λ keys known all. inserted_only keys k x ns known all;
}

pub puts_none : (k : List ℕ) (ms : Members) → Puts k None ms ms
puts_none k ms = record { found = λ none. none; others = λ j other. refl; only = λ keys known all. all }
