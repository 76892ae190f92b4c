-- The words of a line decide its command.
use Rattle.model_laws.proofs.Names.{nat_tests, ℕ, Bool, true, false, List, [], map, length, take, drop, All, codes, decimal, bytes_eq, inl, inr, refl, sym, ap}
use Rattle.model_laws.proofs.Names.{ap₂, subst, arith, leb-true, length-append, slice_split, list_any, digits_value, length-map, All-nil, All-cons, All-head}
use Rattle.model_laws.proofs.Names.{All-tail, All-append, All-push, All-map, All-weaker, slice_split_none, slice_split_at, join_with_byte-slice_split}
use Rattle.model_laws.proofs.Names.{decimal_by_steps, decimal_is_IsNumeral, length-decimal-le, take-append_seam, drop-append_seam, Command, Operation, Call}
use Rattle.model_laws.proofs.Names.{Return, Send, spaced, operation_name, command_words, spelling, Fits, IsSkipped, Says, SpellsOne, SaysOne, nat_le}
use Rattle.std.proofs.Common.{◌≡◌, ◌↔◌, ◌+◌, ◌*◌, ◌<◌, ◌≤◌, ◌^◌, ◌==◌, ◌||◌, ◌∷◌, ◌++◌, ◌∙◌, ◌%◌, if◌then◌else◌, slice_index_or, ne_eqb}
use Rattle.model.specs.declared.command.Command.TheVariants as command
use Rattle.model.specs.declared.line.Line.TheVariants as line

-- ---- words

-- a text without a space
abbrev pub IsSpaceless : List ℕ → Type 0
IsSpaceless text = All (λ b. (b == 32) ≡ false) text

-- the parts of a text between its spaces
abbrev pub split : List ℕ → List (List ℕ)
split text = slice_split (λ b. b == 32) text

-- words without spaces, written with one between each two, are the parts between the spaces
pub split_spaced : (words : List (List ℕ)) → 0 < length words → All IsSpaceless words → split (spaced words) ≡ words
split_spaced [] h all = absurd (omega arith)
split_spaced (w ∷ []) h all = slice_split_none (λ b. b == 32) w (All-head IsSpaceless w [] all)
split_spaced (w ∷ v ∷ words) h all =
    slice_split_at (λ b. b == 32) w 32 (spaced (v ∷ words)) (All-head IsSpaceless w (v ∷ words) all) refl
    ∙ ap (λ rest. w ∷ rest) (split_spaced (v ∷ words) (omega arith) (All-tail IsSpaceless w (v ∷ words) all))

-- each word of a command has at most 20 bytes, and no space
abbrev pub IsWord : List ℕ → Type 0
IsWord text = IsSpaceless text × (length text ≤ 20)

length-spaced : (words : List (List ℕ)) → All (λ w. length w ≤ 20) words → length (spaced words) ≤ 21 * length words
length-spaced [] all = omega arith
length-spaced (w ∷ []) all = let short = All-head (λ w. length w ≤ 20) w [] all in omega arith
length-spaced (w ∷ v ∷ words) all =
    let short = All-head (λ w. length w ≤ 20) w (v ∷ words) all in
    let others = length-spaced (v ∷ words) (All-tail (λ w. length w ≤ 20) w (v ∷ words) all) in
    let joined = length-append w (32 ∷ spaced (v ∷ words)) in
    omega arith

-- a digit isn't a space
digit_is_no_space : (d : ℕ) → ((48 + d) == 32) ≡ false
digit_is_no_space d = ne_eqb (48 + d) 32 (λ e. omega arith)

pub decimal_is_word : (n : ℕ) → n < 2 ^ 64 → IsWord (decimal n)
decimal_is_word n h = (
  decimal_by_steps (λ n ds. IsSpaceless ds)
      (λ n small. All-cons (λ b. (b == 32) ≡ false) (48 + n) [] (digit_is_no_space n) (All-nil (λ b. (b == 32) ≡ false)))
      (λ n ds big all. All-push (λ b. (b == 32) ≡ false) ds (48 + n % 10) all (digit_is_no_space (n % 10)))
      n h,
  length-decimal-le 20 n (omega arith) (omega arith) h,
)

pub decimals_are_words : (ns : List ℕ) → All (λ n. n < 2 ^ 64) ns → All IsWord (map decimal ns)
decimals_are_words ns all = All-map IsWord decimal ns (All-weaker (λ n. n < 2 ^ 64) (λ n. IsWord (decimal n)) decimal_is_word ns all)

-- a text is spaceless if a test finds no space in it
spaceless_by_test : (text : List ℕ) → list_any (λ b. b == 32) text ≡ false → IsSpaceless text
spaceless_by_test [] e = All-nil (λ b. (b == 32) ≡ false)
spaceless_by_test (b ∷ text) e = All-cons (λ b. (b == 32) ≡ false) b text (parts (b == 32) e).0
    (spaceless_by_test text (parts (b == 32) e).1)
  where
    parts : (first : Bool) → (first || list_any (λ b. b == 32) text) ≡ false → (first ≡ false) × (list_any (λ b. b == 32) text ≡ false)
    parts first e = grind (arith, nat_tests)

name_is_word : (text : List ℕ) → list_any (λ b. b == 32) text ≡ false → nat_le (length text) 20 ≡ true → IsWord text
name_is_word text e h = (spaceless_by_test text e, leb-true _ _ h)

operation_is_word : (o : Operation) → IsWord (operation_name o)
operation_is_word o = grind (arith, nat_tests)

one_word : (w : List ℕ) → IsWord w → All IsWord (w ∷ [])
one_word w is = All-cons IsWord w [] is (All-nil IsWord)

two_words : (w v : List ℕ) → IsWord w → IsWord v → All IsWord (w ∷ v ∷ [])
two_words w v is more = All-cons IsWord w (v ∷ []) is (one_word v more)

three_words : (w v u : List ℕ) → IsWord w → IsWord v → IsWord u → All IsWord (w ∷ v ∷ u ∷ [])
three_words w v u is more most = All-cons IsWord w (v ∷ u ∷ []) is (two_words v u more most)

named_number : (name : List ℕ) (n : ℕ) → IsWord name → n < 2 ^ 64 → All IsWord (name ∷ decimal n ∷ [])
named_number name n is h = two_words name (decimal n) is (decimal_is_word n h)

pub words_are_words : (c : Command) → Fits c → All IsWord (command_words c)
unfolding command_words
words_are_words (command.Invoke i) fits =
    All-append IsWord (operation_name i.operation ∷ decimal i.process ∷ decimal i.register ∷ []) (map decimal i.words ++ map decimal i.sent)
    (three_words (operation_name i.operation) (decimal i.process) (decimal i.register)
    (operation_is_word i.operation) (decimal_is_word i.process fits.0) (decimal_is_word i.register (omega arith)))
    (All-append IsWord (map decimal i.words) (map decimal i.sent) (decimals_are_words i.words fits.3)
    (decimals_are_words i.sent (All-weaker (λ r. r < 32) (λ r. r < 2 ^ 64) (λ r h. omega arith) i.sent fits.5)))
words_are_words (command.Show n) fits = named_number (codes "show") n (name_is_word (codes "show") refl refl) fits
words_are_words (command.Evict n) fits = named_number (codes "evict") n (name_is_word (codes "evict") refl refl) fits
words_are_words command.Checkpoint fits = one_word (codes "checkpoint") (name_is_word (codes "checkpoint") refl refl)
words_are_words (command.Stabilize n) fits = named_number (codes "stabilize") n (name_is_word (codes "stabilize") refl refl) fits
words_are_words command.Commit fits = one_word (codes "commit") (name_is_word (codes "commit") refl refl)
words_are_words (command.Migrate n) fits = named_number (codes "migrate") n (name_is_word (codes "migrate") refl refl) fits
words_are_words (command.Journal n) fits = named_number (codes "journal") n (name_is_word (codes "journal") refl refl) fits
words_are_words command.Restart fits = one_word (codes "restart") (name_is_word (codes "restart") refl refl)
words_are_words command.Cut fits = one_word (codes "cut") (name_is_word (codes "cut") refl refl)
words_are_words which fits = grind (arith, nat_tests, three_words, name_is_word, decimal_is_word)

-- a command has 1 to 11 words
pub words_count : (c : Command) → Fits c → (0 < length (command_words c)) × (length (command_words c) ≤ 11)
unfolding command_words
words_count c fits = grind (arith, nat_tests, length-append, length-map)

-- the words of a command are the parts of its spelling
pub split_spelling : (c : Command) → Fits c → split (spelling c) ≡ command_words c
unfolding spelling
split_spelling c fits = grind (arith, nat_tests, split_spaced, words_count, words_are_words)

-- a text is the spelling of a command if its parts are the command's words
pub spelling_from_words : (text : List ℕ) (c : Command) → split text ≡ command_words c → text ≡ spelling c
unfolding spelling
spelling_from_words text c e = sym (join_with_byte-slice_split 32 text) ∙ ap (λ words. spaced words) e

-- a spelling is short
pub length-spelling : (c : Command) → Fits c → length (spelling c) ≤ 256
unfolding spelling
length-spelling c fits = grind (arith, nat_tests, length-spaced, words_are_words, words_count)

-- ---- from the words to the command

-- the k-th word as a number
abbrev pub number_at : List (List ℕ) → ℕ → ℕ
number_at words k = digits_value 10 (slice_index_or words k [])

abbrev pub numbers : List (List ℕ) → List ℕ
numbers words = map (digits_value 10) words

abbrev pub invocation_of : Operation → List (List ℕ) → Command
invocation_of o words = command.Invoke (record {
  operation = o;
  process = number_at words 1;
  register = number_at words 2;
  words = numbers (take 4 (drop 3 words));
  sent = numbers (drop 4 (drop 3 words));
})

-- the command with these words, if there is one
unfoldable pub command_of : List (List ℕ) → Command
command_of words =
    let name = slice_index_or words 0 [] in
    if bytes_eq name (codes "call") then invocation_of Call words
    else if bytes_eq name (codes "return") then invocation_of Return words
    else if bytes_eq name (codes "send") then invocation_of Send words
    else if bytes_eq name (codes "load") then command.Load (number_at words 1) (number_at words 2)
    else if bytes_eq name (codes "store") then command.Store (number_at words 1) (number_at words 2) (number_at words 3)
    else if bytes_eq name (codes "show") then command.Show (number_at words 1)
    else if bytes_eq name (codes "evict") then command.Evict (number_at words 1)
    else if bytes_eq name (codes "checkpoint") then command.Checkpoint
    else if bytes_eq name (codes "stabilize") then command.Stabilize (number_at words 1)
    else if bytes_eq name (codes "commit") then command.Commit
    else if bytes_eq name (codes "migrate") then command.Migrate (number_at words 1)
    else if bytes_eq name (codes "journal") then command.Journal (number_at words 1)
    else if bytes_eq name (codes "restart") then command.Restart
    else command.Cut

value_of : (n : ℕ) → n < 2 ^ 64 → digits_value 10 (decimal n) ≡ n
value_of n h = (decimal_is_IsNumeral n h).1

values_of : (ns : List ℕ) → All (λ n. n < 2 ^ 64) ns → numbers (map decimal ns) ≡ ns
values_of [] all = refl
values_of (n ∷ ns) all =
    ap₂ (λ first rest. first ∷ rest) (value_of n (All-head (λ n. n < 2 ^ 64) n ns all)) (values_of ns (All-tail (λ n. n < 2 ^ 64) n ns all))

-- four numbers at the front of a list
module _ (words sent : List ℕ) (four : length words ≡ 4) (fit : All (λ n. n < 2 ^ 64) words) (fit_too : All (λ n. n < 2 ^ 64) sent) where
  four_decimals : length (map decimal words) ≡ 4
  four_decimals = length-map words decimal ∙ four

  first_four : numbers (take 4 (map decimal words ++ map decimal sent)) ≡ words
  first_four =
      subst (λ k. numbers (take k (map decimal words ++ map decimal sent)) ≡ words) four_decimals
      (ap numbers (take-append_seam (map decimal words) (map decimal sent)) ∙ values_of words fit)

  others : numbers (drop 4 (map decimal words ++ map decimal sent)) ≡ sent
  others =
      subst (λ k. numbers (drop k (map decimal words ++ map decimal sent)) ≡ sent) four_decimals
      (ap numbers (drop-append_seam (map decimal words) (map decimal sent)) ∙ values_of sent fit_too)

abbrev invocation : Operation → ℕ → ℕ → List ℕ → List ℕ → Command
invocation o p r words sent = command.Invoke (record { operation = o; process = p; register = r; words = words; sent = sent })

same_invocation : (o : Operation) (p q r s : ℕ) (words ws sent ss : List ℕ) → p ≡ q → r ≡ s → words ≡ ws → sent ≡ ss →
    invocation o p r words sent ≡ invocation o q s ws ss
same_invocation o p q r s words ws sent ss e f g h = λ k. invocation o (e k) (f k) (g k) (h k)

-- an invocation is read from the words of its parts
reads_parts : (o : Operation) (p r : ℕ) (rest : List (List ℕ)) →
    command_of (operation_name o ∷ decimal p ∷ decimal r ∷ rest)
    ≡ invocation o (digits_value 10 (decimal p)) (digits_value 10 (decimal r)) (numbers (take 4 rest)) (numbers (drop 4 rest))
unfolding command_of
reads_parts o p r rest = grind (arith, nat_tests)

pub reads_words : (c : Command) → Fits c → command_of (command_words c) ≡ c
unfolding command_of command_words
reads_words c fits = grind (arith, nat_tests, reads_parts, same_invocation, value_of, first_four, others)

-- a command is read back from its spelling
pub reads_spelling : (c : Command) → Fits c → command_of (split (spelling c)) ≡ c
reads_spelling c fits = ap command_of (split_spelling c fits) ∙ reads_words c fits

pub spells_one : SpellsOne
spells_one c d fits fits_too e = sym (reads_spelling c fits) ∙ ap (λ text. command_of (split text)) e ∙ reads_spelling d fits_too

-- ---- lines

-- a spelling is neither empty nor a comment
spelling_is_no_skip : (c : Command) → IsSkipped (spelling c) → ⊥
unfolding spelling command_words
spelling_is_no_skip c skipped = grind (arith, nat_tests)

-- a line that is skipped is not bad
pub skip_is_not_bad : (text : List ℕ) → Says text line.Skip → Says text line.Bad → ⊥
skip_is_not_bad text skip bad = elim bad [ inl long ↦ omega arith | inr none ↦ none.0 skip.1 ]

pub skip_is_no_command : (text : List ℕ) (c : Command) → Says text line.Skip → Says text (line.Command c) → ⊥
skip_is_no_command text c skip says = spelling_is_no_skip c (subst IsSkipped says.1 skip.1)

pub command_is_not_bad : (text : List ℕ) (c : Command) → Says text (line.Command c) → Says text line.Bad → ⊥
command_is_not_bad text c says bad = grind (arith, nat_tests, length-spelling)

pub says_one : SaysOne
says_one text line.Skip line.Skip s t = refl
says_one text line.Skip line.Bad s t = absurd (skip_is_not_bad text s t)
says_one text line.Skip (line.Command d) s t = absurd (skip_is_no_command text d s t)
says_one text line.Bad line.Skip s t = absurd (skip_is_not_bad text t s)
says_one text line.Bad line.Bad s t = refl
says_one text line.Bad (line.Command d) s t = absurd (command_is_not_bad text d t s)
says_one text (line.Command c) line.Skip s t = absurd (skip_is_no_command text c t s)
says_one text (line.Command c) line.Bad s t = absurd (command_is_not_bad text c s t)
says_one text (line.Command c) (line.Command d) s t = ap line.Command (spells_one c d s.0 t.0 (sym s.1 ∙ t.1))
