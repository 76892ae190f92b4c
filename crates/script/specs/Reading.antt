-- How the words of a line are read from left to right.
use Rattle.script.specs.Names.{ℕ, nat_lt, Option, None, Some, List, [], decimal, take, slice_split, position_or_len}
use Rattle.script.specs.Names.{bytes_eq, digits_value, Command, Operation}
use Rattle.std.specs.Prelude.{◌≡◌, ◌==◌, ◌&&◌, ◌^◌, if◌then◌else◌, ◌∷◌}
use Rattle.model.specs.declared.command.Command.TheVariants as command
use Rattle.script.specs.declared.keyword.Keyword.{Keyword}
use Rattle.script.specs.declared.keyword.Keyword.TheVariants as keyword

infixl 10 ◌>>=◌
abbrev pub ◌>>=◌ : {A B : Type 0} → Option A → (A → Option B) → Option B
None >>= f = None
(Some x) >>= f = f x

abbrev pub Words : Type 0
Words = List (List ℕ)

-- the words of a line: the pieces between its spaces
abbrev pub words_of : List ℕ → Words
words_of line = slice_split (λ b. b == 32) line

-- the words of the rest of a line, or none if there is no rest
abbrev pub words_left : Option (List ℕ) → Words
words_left None = []
words_left (Some rest) = words_of rest

-- the index at which the first word of a text ends
abbrev pub first_end : List ℕ → ℕ
first_end text = position_or_len (λ b. b == 32) text

-- the first word of a text
abbrev pub first_word : List ℕ → List ℕ
first_word text = take (first_end text) text

-- a reader returned what `read` gives: the value and the words left, or nothing
abbrev pub Gives : {A : Type 0} → Option A → Words → Option (A × Words) → Type 0
Gives None left read = read ≡ None
Gives (Some x) left read = read ≡ Some (x, left)

-- the number that has this word as its decimal text, if there is one below 2^64
unfoldable pub number_in : List ℕ → Option ℕ
number_in word = let n = digits_value 10 word in if bytes_eq word (decimal n) && nat_lt n (2 ^ 64) then Some n else None

-- the number in the first of these words, and the words after it
unfoldable pub number_at : Words → Option (ℕ × Words)
number_at [] = None
number_at (word ∷ words) = do
  n ← number_in word
  Some (n, words)

-- the register in the first of these words, and the words after it
unfoldable pub register_at : Words → Option (ℕ × Words)
register_at words = do
  n ← number_at words
  if nat_lt n.0 32 then Some n else None

-- the numbers in the first four of these words, and the words after them
unfoldable pub numbers_at : Words → Option (List ℕ × Words)
numbers_at words = do
  a ← number_at words
  b ← number_at a.1
  c ← number_at b.1
  d ← number_at c.1
  Some (a.0 ∷ b.0 ∷ c.0 ∷ d.0 ∷ [], d.1)

-- the registers in the first four of these words, and the words after them
unfoldable pub registers_at : Words → Option (List ℕ × Words)
registers_at words = do
  a ← register_at words
  b ← register_at a.1
  c ← register_at b.1
  d ← register_at c.1
  Some (a.0 ∷ b.0 ∷ c.0 ∷ d.0 ∷ [], d.1)

-- the invocation with this operation, read from these words
unfoldable pub invocation_at : Operation → Words → Option (Command × Words)
invocation_at operation words = do
  process ← number_at words
  register ← register_at process.1
  sent_words ← numbers_at register.1
  sent ← registers_at sent_words.1
  Some (
    command.Invoke (record {
      operation = operation;
      process = process.0;
      register = register.0;
      words = sent_words.0;
      sent = sent.0;
    }),
    sent.1,
  )

-- a command with one number, read from these words
abbrev pub one_at : (ℕ → Command) → Words → Option (Command × Words)
one_at make words = do
  n ← number_at words
  Some (make n.0, n.1)

-- the command of this keyword, read from the words after it, and the words left
unfoldable pub arguments_at : Keyword → Words → Option (Command × Words)
arguments_at (keyword.Invoke operation) words = invocation_at operation words
arguments_at keyword.Load words = do
  process ← number_at words
  address ← number_at process.1
  Some (command.Load process.0 address.0, address.1)
arguments_at keyword.Store words = do
  process ← number_at words
  address ← number_at process.1
  value ← number_at address.1
  Some (command.Store process.0 address.0 value.0, value.1)
arguments_at keyword.Show words = one_at (λ n. command.Show n) words
arguments_at keyword.Evict words = one_at (λ n. command.Evict n) words
arguments_at keyword.Checkpoint words = Some (command.Checkpoint, words)
arguments_at keyword.Stabilize words = one_at (λ n. command.Stabilize n) words
arguments_at keyword.Commit words = Some (command.Commit, words)
arguments_at keyword.Migrate words = one_at (λ n. command.Migrate n) words
arguments_at keyword.Journal words = one_at (λ n. command.Journal n) words
arguments_at keyword.Restart words = Some (command.Restart, words)
arguments_at keyword.Cut words = Some (command.Cut, words)
