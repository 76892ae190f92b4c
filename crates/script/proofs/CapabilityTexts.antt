-- A text is a capability's if its words are the capability's.
use Rattle.script.proofs.Names.{not, list_all, access_text, nat_tests, ℕ, Bool, true, false, List, [], length, codes, decimal, refl, sym, ap, arith, flat_map}
use Rattle.script.proofs.Names.{same_Some, All-nil, All-cons, All-weaker, AllPass-from_list_all, join_with_byte-slice_split, Access, Capability, spaced}
use Rattle.script.proofs.Names.{capability_text, IsSpaceless, split_spaced, decimal_is_word, access_words, capability_words, kind_name, words_of}
use Rattle.std.proofs.Common.{◌≡◌, ◌≢◌, ◌<◌, ◌^◌, ◌==◌, ◌∷◌, ◌++◌, ◌∙◌, All}
use Rattle.model.specs.declared.capability.Capability.TheVariants as capability
use Rattle.script.proofs.CapabilityWords.{HasText, arguments_are, capability_again, kind_for}
use Rattle.script.proofs.Texts.{spaced_more}

-- the text of an access is its word with a space before it
access_is : (a : Access) → flat_map (λ w. 32 ∷ w) (access_words a) ≡ access_text a
access_is a = grind (arith, nat_tests)

restricted : (word : List ℕ) (words : List (List ℕ)) (a : Access) → spaced (word ∷ words) ++ access_text a
    ≡ spaced (word ∷ (words ++ access_words a))
restricted word words a = ap (λ (t : List ℕ). spaced (word ∷ words) ++ t) (sym (access_is a))
    ∙ sym (spaced_more word words (access_words a))

-- the text is the words, with one space between each two
text_is : (c : Capability) → capability_text c ≡ spaced (capability_words c)
unfolding capability_text capability_words
text_is (capability.Page o a) = restricted (codes "page") (decimal o ∷ []) a
text_is (capability.Node o a) = restricted (codes "node") (decimal o ∷ []) a
text_is (capability.Space o h a) = restricted (codes "space") (decimal o ∷ decimal h ∷ []) a
text_is other = refl

-- ---- no word has a space

abbrev AreWords : List (List ℕ) → Type 0
AreWords words = All IsSpaceless words

name_is : (text : List ℕ) → list_all (λ b. not (b == 32)) text ≡ true → IsSpaceless text
name_is text test = All-weaker (λ b. not (b == 32) ≡ true) (λ b. (b == 32) ≡ false) (λ b e. other (b == 32) e) text
    (AllPass-from_list_all (λ b. not (b == 32)) text test)
  where
    other : (b : Bool) → not b ≡ true → b ≡ false
    other b e = grind (arith, nat_tests)

alone : (word : List ℕ) → IsSpaceless word → AreWords (word ∷ [])
alone word is = All-cons IsSpaceless word [] is (All-nil IsSpaceless)

named : (word : List ℕ) (n : ℕ) (words : List (List ℕ)) → IsSpaceless word → n < 2 ^ 64 → AreWords words →
    AreWords (word ∷ decimal n ∷ words)
named word n words is small more = All-cons IsSpaceless word (decimal n ∷ words) is
    (All-cons IsSpaceless (decimal n) words (decimal_is_word n small).0 more)

access_are : (a : Access) → AreWords (access_words a)
access_are a = grind (arith, nat_tests)

words_are : (c : Capability) → HasText c → AreWords (capability_words c)
unfolding capability_words
words_are c has = grind (arith, nat_tests, alone, name_is, named, access_are, decimal_is_word)

some_words : (c : Capability) → 0 < length (capability_words c)
unfolding capability_words
some_words c = grind (arith, nat_tests)

-- ---- texts and pieces

pub text_from_words : (text : List ℕ) (c : Capability) → words_of text ≡ capability_words c → capability_text c ≡ text
text_from_words text c words = text_is c ∙ ap (λ (w : List (List ℕ)). spaced w) (sym words) ∙ join_with_byte-slice_split 32 text

pieces_are : (c : Capability) → HasText c → words_of (capability_text c) ≡ capability_words c
pieces_are c has = ap words_of (text_is c) ∙ split_spaced (capability_words c) (some_words c) (words_are c has)

pub no_text : (text : List ℕ) (c : Capability) → HasText c → words_of text ≢ capability_words c → capability_text c ≢ text
no_text text c has none spelt = none (ap words_of (sym spelt) ∙ pieces_are c has)

-- two capabilities with the same text are equal
pub text_once : (c d : Capability) → HasText c → HasText d → capability_text c ≡ capability_text d → c ≡ d
text_once c d has also same =
    let again = capability_again c has in
    let words : capability_words c ≡ capability_words d = sym (pieces_are c has) ∙ ap words_of same ∙ pieces_are d also in
    let other = arguments_are (capability_words c) again.0 (kind_name (kind_for c)) (kind_for c) d again.1 refl also words in
    ap (λ (p : Capability × List (List ℕ)). p.0) (same_Some (c, []) (d, []) (sym again.2 ∙ other))
