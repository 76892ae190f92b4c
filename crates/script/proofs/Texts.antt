-- The lines of an object, one for each of its parts.
use Rattle.script.proofs.Names.{nat_tests, Option, ℕ, List, [], map, codes, decimal, refl, sym, ap, append_assoc}
use Rattle.script.proofs.Names.{append-nil, arith, flat_map, decimal_digit, decimal_step, flat_map-append}
use Rattle.script.proofs.Names.{div_below, flat_map-map, Capability, Void, Object, Root, spaced, headed, line_of, word_lines, state_text}
use Rattle.script.proofs.Names.{registers_of, object_text, capability_text, capability_line, capability_lines}
use Rattle.std.proofs.Common.{◌≡◌, ◌≢◌, ◌+◌, ◌/◌, ◌%◌, ◌<◌, ◌≤◌, ◌∷◌, ◌++◌, ◌∙◌}
use Rattle.model.specs.declared.object.Content.TheVariants as content

-- a capability that isn't void has a line
pub capability_has_line : (name : List ℕ) (index : ℕ) (capability : Capability) → capability ≢ Void
    → line_of (spaced (name ∷ decimal index ∷ capability_text capability ∷ [])) ≡ capability_line name (index, capability)
capability_has_line name index capability some = grind (arith, nat_tests)

-- the words of a line, each but the first with a space before it
pub spaced_is : (word : List ℕ) (words : List (List ℕ)) → spaced (word ∷ words) ≡ word ++ flat_map (λ w. 32 ∷ w) words
spaced_is word [] = sym (append-nil word)
spaced_is word (next ∷ words) = ap (λ (t : List ℕ). word ++ 32 ∷ t) (spaced_is next words)

pub spaced_more : (word : List ℕ) (words more : List (List ℕ)) → spaced (word ∷ (words ++ more))
    ≡ spaced (word ∷ words) ++ flat_map (λ w. 32 ∷ w) more
spaced_more word words more = grind (arith, nat_tests, spaced_is, flat_map-append, append_assoc)

-- words that are appended to a line, one after another
abbrev put_all : List ℕ → List (List ℕ) → List ℕ
put_all line [] = line
put_all line (word ∷ words) = put_all (line ++ 32 ∷ word) words

put_all_is : (line : List ℕ) (words : List (List ℕ)) → put_all line words ≡ line ++ flat_map (λ w. 32 ∷ w) words
put_all_is line [] = sym (append-nil line)
put_all_is line (word ∷ words) = put_all_is (line ++ 32 ∷ word) words ∙ append_assoc line (32 ∷ word) (flat_map (λ w. 32 ∷ w) words)

put_spaced : (word : List ℕ) (words more numbers last : List (List ℕ))
    → put_all (put_all (spaced (word ∷ words)) more ++ flat_map (λ w. 32 ∷ w) numbers) last
    ≡ spaced (word ∷ (((words ++ more) ++ numbers) ++ last))
put_spaced word words more numbers last = grind (arith, nat_tests, put_all_is, spaced_more)

-- the first line of a process, written as the code appends its parts
abbrev pub process_put : ℕ → ℕ → ℕ → ℕ → List ℕ → List ℕ → List ℕ → List ℕ
process_put number owner annex key state words space =
    ((((((((spaced (headed (codes "process") number owner) ++ 32 ∷ codes "annex") ++ 32 ∷ decimal annex) ++ 32 ∷ state) ++ 32 ∷ codes "key")
    ++ 32 ∷ decimal
    key) ++ 32 ∷ codes "words")
    ++ flat_map (λ n. 32 ∷ decimal n) words) ++ 32 ∷ codes "space") ++ 32 ∷ space

pub process_text : (number owner annex key : ℕ) (state words space : List ℕ) → process_put number owner annex key state words space
    ≡ spaced (headed (codes "process") number owner
    ++ (codes "annex" ∷ decimal annex ∷ state ∷ codes "key" ∷ decimal key ∷ codes "words" ∷ []) ++ map decimal words ++
    (codes "space" ∷ space ∷ []))
process_text number owner annex key state words space =
    let front = put_all (spaced (headed (codes "process") number owner))
    (codes "annex" ∷ decimal annex ∷ state ∷ codes "key" ∷ decimal key ∷ codes "words" ∷ []) in
    ap (λ (t : List ℕ). put_all (front ++ t) (codes "space" ∷ space ∷ [])) (sym (flat_map-map (λ w. 32 ∷ w) decimal words))
    ∙ put_spaced (codes "process") (decimal number ∷ codes "owner" ∷ decimal owner ∷ [])
    (codes "annex" ∷ decimal annex ∷ state ∷ codes "key" ∷ decimal key ∷ codes "words" ∷ []) (map decimal words)
    (codes "space" ∷ space ∷ [])

pub bank_text : (number owner limit used : ℕ) →
    (((spaced (headed (codes "bank") number owner) ++ 32 ∷ codes "limit") ++ 32 ∷ decimal limit) ++ 32 ∷ codes "used") ++ 32 ∷ decimal used
    ≡ spaced (headed (codes "bank") number owner ++ (codes "limit" ∷ decimal limit ∷ codes "used" ∷ decimal used ∷ []))
bank_text number owner limit used =
    put_all_is (spaced (headed (codes "bank") number owner)) (codes "limit" ∷ decimal limit ∷ codes "used" ∷ decimal used ∷ [])
    ∙ sym (spaced_more (codes "bank") (decimal number ∷ codes "owner" ∷ decimal owner ∷ [])
    (codes "limit" ∷ decimal limit ∷ codes "used" ∷ decimal used ∷ []))

-- ---- the lines of each kind of object

module _ (n : ℕ) (o : Object) (registers : Option (List Capability)) (used : ℕ) where
  pub object_free : o.content ≡ content.Free → object_text n o registers used ≡ line_of (spaced (codes "free" ∷ decimal n ∷ []))
  unfolding object_text
  object_free is = rw is refl

  pub object_page : (words : List ℕ) → o.content ≡ content.Page words → object_text n o registers used
      ≡ line_of (spaced (headed (codes "page") n o.owner)) ++ word_lines words
  unfolding object_text
  object_page words is = rw is refl

  pub object_node : (slots : List Capability) → o.content ≡ content.Node slots
      → object_text n o registers used ≡ line_of (spaced (headed (codes "node") n o.owner)) ++ capability_lines (codes "slot") slots
  unfolding object_text
  object_node slots is = rw is refl

  pub object_annex : (slots : List Capability) → o.content ≡ content.Annex slots
      → object_text n o registers used ≡ line_of (spaced (headed (codes "annex") n o.owner)) ++ capability_lines (codes "register") slots
  unfolding object_text
  object_annex slots is = rw is refl

  pub object_root : (r : Root Capability) → o.content ≡ content.Root r
      → object_text n o registers used ≡ line_of (spaced (headed (codes "process") n o.owner
      ++ (codes "annex" ∷ decimal r.annex ∷ state_text r.state ∷ codes "key" ∷ decimal r.key ∷ codes "words" ∷ [])
      ++ map decimal r.words ++ (codes "space" ∷ capability_text r.space ∷ []))) ++ capability_lines (codes "register")
      (registers_of registers)
  unfolding object_text
  object_root r is = rw is refl

  pub object_bank : (limit : ℕ) → o.content ≡ content.Bank limit
      → object_text n o registers used ≡ line_of
      (spaced (headed (codes "bank") n o.owner ++ (codes "limit" ∷ decimal limit ∷ codes "used" ∷ decimal used ∷ [])))
  unfolding object_text
  object_bank limit is = rw is refl

-- a small number's text is one digit
pub one_digit_text : (line : List ℕ) (n : ℕ) → n < 10 → (line ++ 32 ∷ []) ++ (48 + n) ∷ [] ≡ line ++ 32 ∷ decimal n
one_digit_text line n small = rw (decimal_digit n small) (append_assoc line (32 ∷ []) ((48 + n) ∷ []))

pub two_digits_text : (line : List ℕ) (n : ℕ) → 10 ≤ n → n < 100 → ((line ++ 32 ∷ []) ++ (48 + n / 10) ∷ []) ++ (48 + n % 10) ∷ []
    ≡ line ++ 32 ∷ decimal n
two_digits_text line n long small = grind (arith, nat_tests, decimal_step, decimal_digit, div_below, append_assoc)
