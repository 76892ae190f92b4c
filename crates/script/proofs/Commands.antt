-- A command is read from its words, and from no others.
use Rattle.script.proofs.Names.{nat_tests, ℕ, Bool, true, cond, List, [], map, Option, None, Some, length, decimal, append-nil, append_assoc, refl, sym, ap}
use Rattle.script.proofs.Names.{subst, arith, IfSome, IfNone, All, bytes_eq, digits_value, bytes_eq-Decides, lt-ltb, Command, Operation, Fits, command_words}
use Rattle.script.proofs.Names.{Keyword, keyword_name, Words, Gives, number_in, number_at, register_at, numbers_at, registers_at, invocation_at, arguments_at}
use Rattle.std.proofs.Common.{◌≡◌, ◌≢◌, ◌<◌, ◌^◌, ◌&&◌, ◌∷◌, ◌++◌, ◌∙◌}
use Rattle.script.specs.Reading.{◌>>=◌}
use Rattle.model.specs.declared.command.Command.TheVariants as command
use Rattle.script.specs.declared.keyword.Keyword.TheVariants as keyword
use Rattle.script.proofs.Numbers.{decimal_is_digits}
use Rattle.script.proofs.Tables.{every_keyword, first_named}

-- if a chain of steps succeeded, its first step gave a value from which the rest succeeded
pub bind_some : {A B : Type 0} (r : Option A) (f : A → Option B) (y : B) → (r >>= f) ≡ Some y → (x : A) × (r ≡ Some x) × (f x ≡ Some y)
bind_some {A} {B} r f y e = grind (arith, nat_tests)

-- if a tested step succeeded, the test is true and its value is the result
pub guard_some : {A : Type 0} (b : Bool) (x y : A) → cond b (Some x) None ≡ Some y → (b ≡ true) × (x ≡ y)
guard_some {A} b x y e = grind (arith, nat_tests)

pub both : (a b : Bool) → (a && b) ≡ true → (a ≡ true) × (b ≡ true)
both a b e = grind (arith, nat_tests)

-- ---- words that are numbers

pub number_in_decimal : (word : List ℕ) (n : ℕ) → n < 2 ^ 64 → word ≡ decimal n → number_in word ≡ Some n
unfolding number_in
number_in_decimal word n small is =
    let value : digits_value 10 word ≡ n = (decimal_is_digits word n small is).1 in
    let same : bytes_eq word (decimal n) ≡ true = (bytes_eq-Decides word (decimal n)).1 is in
    rw (value, same, lt-ltb n (2 ^ 64) small) refl

number_in_some : (word : List ℕ) (n : ℕ) → number_in word ≡ Some n → (n < 2 ^ 64) × (word ≡ decimal n)
unfolding number_in
number_in_some word n e = grind (arith, nat_tests, guard_some, both, bytes_eq-Decides)

number_in_none : (word : List ℕ) → ((n : ℕ) → n < 2 ^ 64 → word ≢ decimal n) → number_in word ≡ None
number_in_none word none = go (number_in word) refl where
  go : (r : Option ℕ) → number_in word ≡ r → number_in word ≡ None
  go None e = e
  go (Some n) e = let found = number_in_some word n e in absurd (none n found.0 found.1)

-- if a word was read as n, `number_at` gives n
pub number_gives : (r : Option ℕ) (word : List ℕ) (old left : Words) → old ≡ word ∷ left
    → IfSome r (λ n. (n < 2 ^ 64) × (word ≡ decimal n)) → IfNone r ((n : ℕ) → n < 2 ^ 64 → word ≢ decimal n) → Gives r left (number_at old)
unfolding number_at
number_gives r word old left is found none = grind (arith, nat_tests, number_in_none, number_in_decimal)

-- ---- the words of each command are read as that command

pub number_again : (n : ℕ) (rest : Words) → n < 2 ^ 64 → number_at (decimal n ∷ rest) ≡ Some (n, rest)
unfolding number_at
number_again n rest small = rw (number_in_decimal (decimal n) n small refl) refl

pub register_again : (n : ℕ) (rest : Words) → n < 32 → register_at (decimal n ∷ rest) ≡ Some (n, rest)
unfolding register_at
register_again n rest small = rw (number_again n rest (omega arith), lt-ltb n 32 small) refl

-- four numbers, one after the other
abbrev four_at : (Words → Option (ℕ × Words)) → Words → Option (List ℕ × Words)
four_at read words = read words >>= (λ (a : ℕ × Words). read a.1 >>= (λ (b : ℕ × Words). read b.1 >>=
    (λ (c : ℕ × Words). read c.1 >>= (λ (d : ℕ × Words).
    Some (a.0 ∷ b.0 ∷ c.0 ∷ d.0 ∷ [], d.1)))))

abbrev ReadsAgain : (Words → Option (ℕ × Words)) → ℕ → Type 0
ReadsAgain read limit = (n : ℕ) (rest : Words) → n < limit → read (decimal n ∷ rest) ≡ Some (n, rest)

abbrev TakesOne : (Words → Option (ℕ × Words)) → ℕ → Type 0
TakesOne read limit = (words : Words) (p : ℕ × Words) → read words ≡ Some p → (p.0 < limit) × (words ≡ decimal p.0 ∷ p.1)

four_again : (read : Words → Option (ℕ × Words)) (limit : ℕ) → ReadsAgain read limit → (numbers : List ℕ) (rest : Words)
    → length numbers ≡ 4 → All (λ n. n < limit) numbers → four_at read (map decimal numbers ++ rest) ≡ Some (numbers, rest)
four_again read limit again (a ∷ b ∷ c ∷ d ∷ []) rest four small =
    rw (
      again a (decimal b ∷ decimal c ∷ decimal d ∷ rest) (small 0 0 (omega arith)),
      again b (decimal c ∷ decimal d ∷ rest) (small 1 0 (omega arith)),
      again c (decimal d ∷ rest) (small 2 0 (omega arith)),
      again d rest (small 3 0 (omega arith)),
    ) refl
four_again read limit again numbers rest four small = absurd (omega arith)

pub all_four : (limit a b c d : ℕ) → a < limit → b < limit → c < limit → d < limit → All (λ n. n < limit) (a ∷ b ∷ c ∷ d ∷ [])
all_four limit a b c d pa pb pc pd is e lt = grind (arith, nat_tests)

pub some_is : {A : Type 0} (x y : A) → Some x ≡ Some y → x ≡ y
some_is x y e = cc

four_end : (read : Words → Option (ℕ × Words)) (limit : ℕ) → TakesOne read limit →
    (words : Words) (a b c d : ℕ × Words) (p : List ℕ × Words) → read words ≡ Some a → read a.1 ≡ Some b → read b.1 ≡ Some c →
    read c.1 ≡ Some d → Some (a.0 ∷ b.0 ∷ c.0 ∷ d.0 ∷ [], d.1) ≡ Some p
    → (length p.0 ≡ 4) × All (λ n. n < limit) p.0 × (words ≡ map decimal p.0 ++ p.1)
four_end read limit takes words a b c d p one two three four is =
    let ta = takes words a one in
    let tb = takes a.1 b two in
    let tc = takes b.1 c three in
    let td = takes c.1 d four in
    subst (λ (q : List ℕ × Words). (length q.0 ≡ 4) × All (λ n. n < limit) q.0 × (words ≡ map decimal q.0 ++ q.1)) (some_is _ _ is) (
      refl,
      all_four limit a.0 b.0 c.0 d.0 ta.0 tb.0 tc.0 td.0,
      ta.1 ∙ ap (λ (w : Words). decimal a.0 ∷ w) (tb.1 ∙ ap (λ (w : Words). decimal b.0 ∷ w)
          (tc.1 ∙ ap (λ (w : Words). decimal c.0 ∷ w) td.1)),
    )

four_takes : (read : Words → Option (ℕ × Words)) (limit : ℕ) → TakesOne read limit → (words : Words) (p : List ℕ × Words) →
    four_at read words ≡ Some p → (length p.0 ≡ 4) × All (λ n. n < limit) p.0 × (words ≡ map decimal p.0 ++ p.1)
four_takes read limit takes words p e =
    let one = bind_some (read words) _ p e in
    let two = bind_some (read one.0.1) _ p one.2 in
    let three = bind_some (read two.0.1) _ p two.2 in
    let four = bind_some (read three.0.1) _ p three.2 in
    four_end read limit takes words one.0 two.0 three.0 four.0 p one.1 two.1 three.1 four.1 four.2

pub number_takes : TakesOne number_at (2 ^ 64)
unfolding number_at
number_takes [] p e = absurd cc
number_takes (word ∷ words) p e =
    let b = bind_some (number_in word) (λ (n : ℕ). Some (n, words)) p e in
    let f = number_in_some word b.0 b.1 in
    subst (λ (q : ℕ × Words). (q.0 < 2 ^ 64) × (word ∷ words ≡ decimal q.0 ∷ q.1)) (some_is _ _ b.2)
    (f.0, ap (λ (w : List ℕ). w ∷ words) f.1)

register_takes : TakesOne register_at 32
unfolding register_at
register_takes words p e = grind (arith, nat_tests, bind_some, guard_some, number_takes)

-- the keyword of a command
pub keyword_for : Command → Keyword
keyword_for (command.Invoke i) = keyword.Invoke i.operation
keyword_for (command.Load p a) = keyword.Load
keyword_for (command.Store p a v) = keyword.Store
keyword_for (command.Show n) = keyword.Show
keyword_for (command.Evict n) = keyword.Evict
keyword_for command.Checkpoint = keyword.Checkpoint
keyword_for (command.Stabilize n) = keyword.Stabilize
keyword_for command.Commit = keyword.Commit
keyword_for (command.Migrate n) = keyword.Migrate
keyword_for (command.Journal n) = keyword.Journal
keyword_for command.Restart = keyword.Restart
keyword_for command.Cut = keyword.Cut

pub command_again : (c : Command) → Fits c → (words : Words) × (command_words c ≡ keyword_name (keyword_for c) ∷ words) ×
    (arguments_at (keyword_for c) words ≡ Some (c, []))
unfolding command_words arguments_at invocation_at numbers_at registers_at keyword_for
command_again (command.Invoke i) fits =
    let sent : registers_at (map decimal i.sent) ≡ Some (i.sent, []) =
    subst (λ (w : Words). registers_at w ≡ Some (i.sent, [])) (append-nil (map decimal i.sent))
    (four_again register_at 32 register_again i.sent [] fits.4 fits.5) in (
      decimal i.process ∷ decimal i.register ∷ (map decimal i.words ++ map decimal i.sent),
      refl,
      rw (
        number_again i.process (decimal i.register ∷ (map decimal i.words ++ map decimal i.sent)) fits.0,
        register_again i.register (map decimal i.words ++ map decimal i.sent) fits.1,
        four_again number_at (2 ^ 64) number_again i.words (map decimal i.sent) fits.2 fits.3,
        sent,
      ) refl,
    )
command_again (command.Load p a) fits = (
  decimal p ∷ decimal a ∷ [],
  refl,
  rw
      (number_again p (decimal a ∷ []) fits.0, number_again a [] fits.1) refl,
)
command_again (command.Store p a v) fits = (
  decimal p ∷ decimal a ∷ decimal v ∷ [],
  refl,
  rw (number_again p (decimal a ∷ decimal v ∷ []) fits.0, number_again a (decimal v ∷ []) fits.1, number_again v [] fits.2) refl,
)
command_again (command.Show n) fits = (decimal n ∷ [], refl, rw (number_again n [] fits) refl)
command_again (command.Evict n) fits = (decimal n ∷ [], refl, rw (number_again n [] fits) refl)
command_again (command.Stabilize n) fits = (decimal n ∷ [], refl, rw (number_again n [] fits) refl)
command_again (command.Migrate n) fits = (decimal n ∷ [], refl, rw (number_again n [] fits) refl)
command_again (command.Journal n) fits = (decimal n ∷ [], refl, rw (number_again n [] fits) refl)
command_again c fits = ([], refl, refl)

-- ---- what was read has these words

pub one_takes : {A : Type 0} (make : ℕ → A) (words : Words) (p : A × Words) →
    (number_at words >>= (λ (n : ℕ × Words). Some (make n.0, n.1))) ≡ Some p →
    (n : ℕ) × (n < 2 ^ 64) × (p.0 ≡ make n) × (words ≡ decimal n ∷ p.1)
one_takes {A} make words p e =
    let b = bind_some (number_at words) (λ (n : ℕ × Words). Some (make n.0, n.1)) p e in
    let t = number_takes words b.0 b.1 in
    let is = some_is _ _ b.2 in
    (b.0.0, t.0, sym (ap (λ (q : A × Words). q.0) is), t.1 ∙ ap (λ (q : A × Words). decimal b.0.0 ∷ q.1) is)

abbrev IsReadFrom : Keyword → Words → Command × Words → Type 0
IsReadFrom k words p = Fits p.0 × (keyword_name k ∷ words ≡ command_words p.0 ++ p.1)

invocation_words : (name process register : List ℕ) (sent_words sent words one two three four : Words) → words ≡ process ∷ one →
    one ≡ register ∷ two → two ≡ sent_words ++ three → three ≡ sent ++ four →
    name ∷ words ≡ name ∷ process ∷ register ∷ ((sent_words ++ sent) ++ four)
invocation_words name process register sent_words sent words one two three four a b c d = grind (arith, nat_tests, append_assoc)

invocation_end : (o : Operation) (words : Words) (a b : ℕ × Words) (c d : List ℕ × Words) (p : Command × Words)
    → number_at words ≡ Some a → register_at a.1 ≡ Some b → four_at number_at b.1 ≡ Some c → four_at register_at c.1 ≡ Some d
    → Some (command.Invoke (record { operation = o; process = a.0; register = b.0; words = c.0; sent = d.0 }), d.1) ≡ Some p →
    IsReadFrom (keyword.Invoke o) words p
unfolding command_words
invocation_end o words a b c d p one two three four is =
    let ta = number_takes words a one in
    let tb = register_takes a.1 b two in
    let tc = four_takes number_at (2 ^ 64) number_takes b.1 c three in
    let td = four_takes register_at 32 register_takes c.1 d four in
    grind (arith, nat_tests, some_is, invocation_words)

invocation_takes : (o : Operation) (words : Words) (p : Command × Words) → invocation_at o words ≡ Some p →
    IsReadFrom (keyword.Invoke o) words p
unfolding invocation_at numbers_at registers_at
invocation_takes o words p e =
    let one = bind_some (number_at words) _ p e in
    let two = bind_some (register_at one.0.1) _ p one.2 in
    let three = bind_some (four_at number_at two.0.1) _ p two.2 in
    let four = bind_some (four_at register_at three.0.1) _ p three.2 in
    invocation_end o words one.0 two.0 three.0 four.0 p one.1 two.1 three.1 four.1 four.2

one_read : (k : Keyword) (words : Words) (p : Command × Words) (c : Command) → p.0 ≡ c → Fits c →
    keyword_name k ∷ words ≡ command_words c ++ p.1 → IsReadFrom k words p
one_read k words p c is fits whole = rw is (fits, whole)

arguments_takes : (k : Keyword) (words : Words) (p : Command × Words) → arguments_at k words ≡ Some p → IsReadFrom k words p
unfolding arguments_at command_words
arguments_takes (keyword.Invoke o) words p e = invocation_takes o words p e
arguments_takes keyword.Load words p e =
    let one = bind_some (number_at words) _ p e in
    let two = bind_some (number_at one.0.1) _ p one.2 in
    let a = number_takes words one.0 one.1 in
    let b = number_takes one.0.1 two.0 two.1 in
    grind (arith, nat_tests, some_is)
arguments_takes keyword.Store words p e =
    let one = bind_some (number_at words) _ p e in
    let two = bind_some (number_at one.0.1) _ p one.2 in
    let three = bind_some (number_at two.0.1) _ p two.2 in
    let a = number_takes words one.0 one.1 in
    let b = number_takes one.0.1 two.0 two.1 in
    let c = number_takes two.0.1 three.0 three.1 in
    grind (arith, nat_tests, some_is)
arguments_takes k words p e = grind (arith, nat_tests, one_takes, one_read, some_is)

-- ---- the keywords that a word may name

keyword_at : List ℕ → Option Keyword
keyword_at word = first_named keyword_name word every_keyword

keyword_at_name : (k : Keyword) → keyword_at (keyword_name k) ≡ Some k
unfolding keyword_at
keyword_at_name k = grind (arith, nat_tests)

-- ---- the command that a line may contain

-- if the words are a command's, reading them gives this command and leaves no word
arguments_are : (words rest : Words) (word : List ℕ) (k : Keyword) (c : Command) → words ≡ word ∷ rest → word ≡ keyword_name k → Fits c →
    words ≡ command_words c
    → arguments_at k rest ≡ Some (c, [])
arguments_are words rest word k c split named fits whole = grind (arith, nat_tests, command_again, keyword_for, some_is, keyword_at_name)

pub command_found : (words rest left : Words) (word : List ℕ) (k : Keyword) (c : Command) → words ≡ word ∷ rest → word ≡ keyword_name k
    → arguments_at k rest ≡ Some (c, left) → left ≡ [] → Fits c × (words ≡ command_words c)
command_found words rest left word k c split named read none =
    let taken = arguments_takes k rest (c, left) read in (
      taken.0,
      split ∙ ap (λ (w : List ℕ). w ∷ rest) named ∙ taken.1 ∙ ap (λ (w : Words). command_words c ++ w) none
          ∙ append-nil (command_words c),
    )

pub no_keyword : (words : Words) (c : Command) → Fits c → ((k : Keyword) (rest : Words) → words ≢ keyword_name k ∷ rest) →
    words ≢ command_words c
no_keyword words c fits none whole = let again = command_again c fits in none (keyword_for c) again.0 (whole ∙ again.1)

pub no_arguments : (words rest : Words) (word : List ℕ) (k : Keyword) → words ≡ word ∷ rest → word ≡ keyword_name k →
    arguments_at k rest ≡ None → (c : Command) → Fits c → words ≢ command_words c
no_arguments words rest word k split named none c fits whole = let read = arguments_are words rest word k c split named fits whole in
    absurd cc

pub words_left_over : (words rest left : Words) (word : List ℕ) (k : Keyword) (d : Command) → words ≡ word ∷ rest → word ≡ keyword_name k →
    arguments_at k rest ≡ Some (d, left)
    → left ≢ [] → (c : Command) → Fits c → words ≢ command_words c
words_left_over words rest left word k d split named read some c fits whole =
    let other = arguments_are words rest word k c split named fits whole in
    some (ap (λ (q : Command × Words). q.1) (some_is _ _ (sym read ∙ other)))
