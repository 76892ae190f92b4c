-- Lines that begin with one of the words that most lines begin with: `load`, `store`, `call`, `send`, `return`.
use Rattle.script.proofs.Names.{ℕ, List, codes, length, get_or, ap, subst, sym, arith, get_or-take, join_with_byte-slice_split, Call, Operation, Return, Send}
use Rattle.script.proofs.Names.{Keyword, keyword_name, operation_name, words_of}
use Rattle.script.specs.Keywords.{BeginsWith, IsCommon}
use Rattle.script.specs.declared.keyword.Keyword.TheVariants as keyword
use Rattle.std.proofs.Common.{◌≡◌, ◌+◌, ◌<◌, ◌++◌, ◌∙◌}
use Rattle.std.specs.List.{join_with_byte}
use Rattle.std.specs.Prelude.{IfNone, None, Option, Some}

-- the parameters: a line that begins with a word and a space, and has at least `more` bytes after them
module _ (word : List ℕ) (more : ℕ) (line : List ℕ) (begins : BeginsWith word more line) where
  pub byte_is : (i : ℕ) → i < length word + 1 → get_or line i 0 ≡ get_or (word ++ codes " ") i 0
  byte_is i lt = sym (get_or-take (length word + 1) line i 0 lt) ∙ ap (λ (l : List ℕ). get_or l i 0) begins.front

-- the first bytes of the line are those of the operation's name
abbrev pub HasName : Operation → List ℕ → Type 0
HasName Call line = (get_or line 0 0 ≡ 99) × (get_or line 1 0 ≡ 97) × (get_or line 2 0 ≡ 108) × (get_or line 3 0 ≡ 108)
    × (get_or line 4 0 ≡ 32)
HasName Return line = (25 < length line) × (get_or line 0 0 ≡ 114) × (get_or line 1 0 ≡ 101) × (get_or line 2 0 ≡ 116)
    × (get_or line 3 0 ≡ 117)
    × (get_or line 4 0 ≡ 114) × (get_or line 5 0 ≡ 110) × (get_or line 6 0 ≡ 32)
HasName Send line = (get_or line 0 0 ≡ 115) × (get_or line 1 0 ≡ 101) × (get_or line 2 0 ≡ 110) × (get_or line 3 0 ≡ 100)
    × (get_or line 4 0 ≡ 32)

pub load_bytes : (line : List ℕ) → BeginsWith (codes "load") 3 line →
    (get_or line 0 0 ≡ 108) × (get_or line 1 0 ≡ 111) × (get_or line 2 0 ≡ 97) × (get_or line 3 0 ≡ 100) × (get_or line 4 0 ≡ 32)
    × (7 < length line)
load_bytes line begins =
    let at = byte_is (codes "load") 3 line begins in
    (at 0 (omega arith), at 1 (omega arith), at 2 (omega arith), at 3 (omega arith), at 4 (omega arith), omega (arith, begins.room))

pub store_bytes : (line : List ℕ) → BeginsWith (codes "store") 5 line →
    (get_or line 0 0 ≡ 115) × (get_or line 1 0 ≡ 116) × (get_or line 2 0 ≡ 111) × (get_or line 3 0 ≡ 114) × (get_or line 4 0 ≡ 101)
    × (get_or line 5 0 ≡ 32)
    × (10 < length line)
store_bytes line begins =
    let at = byte_is (codes "store") 5 line begins in (
      at 0 (omega arith),
      at 1 (omega arith),
      at 2 (omega arith),
      at 3 (omega arith),
      at 4 (omega arith),
      at 5 (omega arith),
      omega (arith, begins.room),
    )

-- a line that begins with an operation's name has more than 23 bytes, and the bytes of that name
pub operation_bytes : (line : List ℕ) (o : Operation) → BeginsWith (operation_name o) 19 line → (23 < length line) × HasName o line
operation_bytes line Call begins =
    let at = byte_is (codes "call") 19 line begins in
    (omega (arith, begins.room), (at 0 (omega arith), at 1 (omega arith), at 2 (omega arith), at 3 (omega arith), at 4 (omega arith)))
operation_bytes line Return begins =
    let at = byte_is (codes "return") 19 line begins in
    let long : 25 < length line = omega (arith, begins.room) in (
      omega (arith, long),
      (
        long,
        at 0 (omega arith),
        at 1 (omega arith),
        at 2 (omega arith),
        at 3 (omega arith),
        at 4 (omega arith),
        at 5 (omega arith),
        at 6 (omega arith),
      ),
    )
operation_bytes line Send begins =
    let at = byte_is (codes "send") 19 line begins in
    (omega (arith, begins.room), (at 0 (omega arith), at 1 (omega arith), at 2 (omega arith), at 3 (omega arith), at 4 (omega arith)))

-- no two lines have the same words
one_line : (a b : List ℕ) → words_of a ≡ words_of b → a ≡ b
one_line a b same = sym (join_with_byte-slice_split 32 a) ∙ ap (join_with_byte 32) same ∙ join_with_byte-slice_split 32 b

moved : (word : List ℕ) (m n : ℕ) (a b : List ℕ) → m ≡ n → a ≡ b → BeginsWith word m a → BeginsWith word n b
moved word m n a b more same begins = subst (λ (l : List ℕ). BeginsWith word n l) same (subst (λ (k : ℕ). BeginsWith word k a) more begins)

-- if a line contains no load, store or invocation, its keyword is none of the common ones
pub none_common : (rest line : List ℕ) (k : Keyword) (least : ℕ) → (BeginsWith (codes "load") 3 rest → ⊥) →
    (BeginsWith (codes "store") 5 rest → ⊥) → ((o : Operation) → BeginsWith (operation_name o) 19 rest → ⊥) →
    words_of rest ≡ words_of line → IsCommon k least
    → BeginsWith (keyword_name k) least line → ⊥
none_common rest line (keyword.Invoke o) least load store order same common begins =
    order o (moved (operation_name o) least 19 line rest common (one_line line rest (sym same)) begins)
none_common rest line keyword.Load least load store order same common begins =
    load (moved (codes "load") least 3 line rest common (one_line line rest (sym same)) begins)
none_common rest line keyword.Store least load store order same common begins =
    store (moved (codes "store") least 5 line rest common (one_line line rest (sym same)) begins)
none_common rest line keyword.Show least load store order same common begins = absurd common
none_common rest line keyword.Evict least load store order same common begins = absurd common
none_common rest line keyword.Checkpoint least load store order same common begins = absurd common
none_common rest line keyword.Stabilize least load store order same common begins = absurd common
none_common rest line keyword.Commit least load store order same common begins = absurd common
none_common rest line keyword.Migrate least load store order same common begins = absurd common
none_common rest line keyword.Journal least load store order same common begins = absurd common
none_common rest line keyword.Restart least load store order same common begins = absurd common
none_common rest line keyword.Cut least load store order same common begins = absurd common

-- if the words were not taken, the rest of the line begins with none of the common ones
pub none_taken : {A : Type 0} (result : Option A) (words : List (List ℕ)) (rest : List ℕ) → words ≡ words_of rest →
    (BeginsWith (codes "load") 3 rest → ⊥) → (BeginsWith (codes "store") 5 rest → ⊥) →
    ((o : Operation) → BeginsWith (operation_name o) 19 rest → ⊥)
    → IfNone result ((line : List ℕ) (k : Keyword) (least : ℕ) → words ≡ words_of line → IsCommon k least →
    BeginsWith (keyword_name k) least line → ⊥)
none_taken (Some x) words rest is load store order = tt
none_taken None words rest is load store order = λ line k least same common begins.
    none_common rest line k least load store order (sym is ∙ same) common begins
