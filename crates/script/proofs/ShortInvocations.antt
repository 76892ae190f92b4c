-- If the numbers of an invocation, load or store were read one after the other, the line contains it.
use Rattle.script.proofs.Names.{nat_tests, ℕ, List, [], Option, Some, length, get_or, drop, refl, ap, arith, IfSome, IsSome, lt-ltb, Command, Operation, Fits}
use Rattle.script.proofs.Names.{command_words, operation_name, keyword_name, Words, arguments_at, invocation_at, number_at, numbers_at, register_at}
use Rattle.script.proofs.Names.{registers_at, words_of}
use Rattle.std.proofs.Common.{◌≡◌, ◌<◌, ◌+◌, ◌*◌, ◌∷◌, ◌∙◌}
use Rattle.model.specs.declared.command.Command.TheVariants as command
use Rattle.script.specs.declared.keyword.Keyword.TheVariants as keyword
use Rattle.script.proofs.Commands.{command_found}
use Rattle.script.proofs.ShortNumbers.{last_one, one_digit}

pub register_reads : (words left : Words) (n : ℕ) → number_at words ≡ Some (n, left) → n < 32 → register_at words ≡ Some (n, left)
unfolding register_at
register_reads words left n reads small = rw (reads, lt-ltb n 32 small) refl

pub last_register_reads : (words : Words) (n : ℕ) (r : Option ℕ) → number_at words ≡ Some (n, []) → IfSome r (λ x. x ≡ n) →
    (IsSome r → n < 32) → IfSome r (λ x. register_at words ≡ Some (x, []))
last_register_reads words n r reads is small = grind (arith, nat_tests, register_reads)

pub registers_read : (words one two three : Words) (first second third fourth : ℕ) → register_at words ≡ Some (first, one) →
    register_at one ≡ Some (second, two)
    → register_at two ≡ Some (third, three) → register_at three ≡ Some (fourth, []) →
    registers_at words ≡ Some (first ∷ second ∷ third ∷ fourth ∷ [], [])
unfolding registers_at
registers_read words one two three first second third fourth a b c d = rw (a, b, c, d) refl

pub numbers_read : (words one two three four : Words) (a b c d : ℕ) → number_at words ≡ Some (a, one) → number_at one ≡ Some (b, two) →
    number_at two ≡ Some (c, three) → number_at three ≡ Some (d, four) → numbers_at words ≡ Some (a ∷ b ∷ c ∷ d ∷ [], four)
unfolding numbers_at
numbers_read words one two three four a b c d first second third fourth = rw (first, second, third, fourth) refl

abbrev invocation : Operation → ℕ → ℕ → List ℕ → List ℕ → Command
invocation o process register words sent =
    command.Invoke (record { operation = o; process = process; register = register; words = words; sent = sent })

invocation_read : (o : Operation) (one two three four : Words) (process register : ℕ) (words sent : List ℕ)
    → number_at one ≡ Some (process, two) → register_at two ≡ Some (register, three) → numbers_at three ≡ Some (words, four) →
    registers_at four ≡ Some (sent, [])
    → arguments_at (keyword.Invoke o) one ≡ Some (invocation o process register words sent, [])
unfolding arguments_at invocation_at
invocation_read o one two three four process register words sent a b c d = rw (a, b, c, d) refl

-- if all parts were read, the line contains the invocation with them
pub invocation_said : (o : Operation) (line : List ℕ) (one two three four : Words) (process register : ℕ) (words : List ℕ) (sent : List ℕ)
    → words_of line ≡ operation_name o ∷ one
    → number_at one ≡ Some (process, two) → register_at two ≡ Some (register, three) → numbers_at three ≡ Some (words, four) →
    registers_at four ≡ Some (sent, [])
    → Fits (invocation o process register words sent) × (words_of line ≡ command_words (invocation o process register words sent))
invocation_said o line one two three four process register words sent named a b c d = command_found _ one [] _ _ _ named refl
    (invocation_read o one two three four _ _ words sent a b c d) refl

-- four bytes as one number
abbrev four : ℕ → ℕ → ℕ → ℕ → ℕ
four a b c d = a + b * 256 + c * 65536 + d * 16777216

void_begins : (a b c d : ℕ) → a < 256 → b < 256 → c < 256 → d < 256 → four a b c d ≡ 540024880 → (a ≡ 48) × (b ≡ 32) × (c ≡ 48) × (d ≡ 32)
void_begins a b c d pa pb pc pd is = grind (arith, nat_tests)

void_ends : (a b c d : ℕ) → a < 256 → b < 256 → c < 256 → d < 256 → four a b c d ≡ 807415840 → (a ≡ 32) × (b ≡ 48) × (c ≡ 32) × (d ≡ 48)
void_ends a b c d pa pb pc pd is = grind (arith, nat_tests)

-- if the last seven bytes are `0 0 0 0`, all four registers are 0
pub void_read : (text : List ℕ) (at : ℕ) → length text ≡ at + 7 → ((i : ℕ) → get_or text i 0 < 256)
    → four (get_or text at 0) (get_or text (at + 1) 0) (get_or text (at + 2) 0) (get_or text (at + 3) 0) ≡ 540024880
    → four (get_or text (at + 3) 0) (get_or text (at + 3 + 1) 0) (get_or text (at + 3 + 2) 0) (get_or text (at + 3 + 3) 0) ≡ 807415840
    → registers_at (words_of (drop at text)) ≡ Some (0 ∷ 0 ∷ 0 ∷ 0 ∷ [], [])
void_read text at whole bytes begins ends =
    let a = void_begins _ _ _ _ (bytes at) (bytes (at + 1)) (bytes (at + 2)) (bytes (at + 3)) begins in
    let b = void_ends _ _ _ _ (bytes (at + 3)) (bytes (at + 3 + 1)) (bytes (at + 3 + 2)) (bytes (at + 3 + 3)) ends in
    let moved : (i j d : ℕ) → i ≡ j → get_or text j 0 ≡ d → get_or text i 0 ≡ d = λ i j d same is. ap (λ (k : ℕ). get_or text k 0) same
    ∙ is in
    let first = one_digit text at 0 (omega (arith, whole)) ((omega (arith, a.0), omega (arith, a.0)), omega (arith, a.0)) a.1 in
    let third_space = moved (at + 2 + 1) (at + 3) 32 (omega arith) a.3 in
    let second = one_digit text _ 0 (omega (arith, whole)) ((omega (arith, a.2), omega (arith, a.2)), omega (arith, a.2)) third_space in
    let fifth = moved (at + 2 + 2) (at + 3 + 1) 48 (omega arith) b.1 in
    let fifth_space = moved (at + 2 + 2 + 1) (at + 3 + 2) 32 (omega arith) b.2 in
    let third = one_digit text _ 0 (omega (arith, whole)) ((omega (arith, fifth), omega (arith, fifth)), omega (arith, fifth)) fifth_space
    in
    let seventh = moved (at + 2 + 2 + 2) (at + 3 + 3) 48 (omega arith) b.3 in
    let fourth = last_one text _ 0 (omega (arith, whole)) ((omega (arith, seventh), omega (arith, seventh)), omega (arith, seventh)) in
    registers_read _ _ _ _ 0 0 0 0 (register_reads _ _ 0 first (omega arith)) (register_reads _ _ 0 second (omega arith))
    (register_reads _ _ 0 third (omega arith)) (register_reads _ _ 0 fourth (omega arith))

-- if two numbers were read after `load`, the line contains that load
pub load_said : (line : List ℕ) (one two : Words) (process address : ℕ) → words_of line ≡ keyword_name keyword.Load ∷ one
    → number_at one ≡ Some (process, two) → number_at two ≡ Some (address, [])
    → Fits (command.Load process address) × (words_of line ≡ command_words (command.Load process address))
unfolding arguments_at
load_said line one two process address named a b = command_found _ one [] (keyword_name keyword.Load) keyword.Load _ named refl
    (rw (a, b) refl) refl

-- if three numbers were read after `store`, the line contains that store
pub store_said : (line : List ℕ) (one two three : Words) (process address value : ℕ) → words_of line ≡ keyword_name keyword.Store ∷ one
    → number_at one ≡ Some (process, two) → number_at two ≡ Some (address, three) → number_at three ≡ Some (value, [])
    → Fits (command.Store process address value) × (words_of line ≡ command_words (command.Store process address value))
unfolding arguments_at
store_said line one two three process address value named a b c =
    command_found (words_of line) one [] (keyword_name keyword.Store) keyword.Store (command.Store process address value) named refl
    (rw (a, b, c) refl) refl
