-- Words that aren't valid operands, and lines with such words.
use Rattle.script.proofs.Names.{ℕ, zero, suc, Bool, true, false, List, [], None, Some, length, take, get_or, decimal, codes, refl, sym, ap, subst, arith}
use Rattle.script.proofs.Names.{append_assoc, append-nil, map, slice_get, All, nat_tests, take_all, IsInRange, decimal_digit, digits_more, digit_value_digit}
use Rattle.script.proofs.Names.{AllDigits, digits_value, Command, Fits, Says, command_words, spelling_from_words, Keyword, LineFault, keyword_name, AreOperands}
use Rattle.script.proofs.Names.{HasOperand, HasWord, IsFaultOf, IsOperand, IsWordFault, Names, are_registers, Words, number_at, nil_from_length}
use Rattle.std.proofs.Common.{◌≡◌, ◌≢◌, ◌+◌, ◌<◌, ◌≤◌, ◌^◌, if◌then◌else◌, ◌==◌, ◌∷◌, ◌++◌, ◌∙◌}
use Rattle.model.specs.declared.command.Command.TheVariants as command
use Rattle.model.specs.declared.line.Line.TheVariants as line
use Rattle.script.specs.declared.keyword.Keyword.TheVariants as keyword
use Rattle.script.specs.declared.line_fault.LineFault.TheVariants as fault
use Rattle.script.proofs.Commands.{all_four, number_again, number_takes}
use Rattle.script.proofs.Numbers.{digits_are_decimal}

-- ---- one word

pub too_great : (word : List ℕ) → ((n : ℕ) → n < 2 ^ 64 → word ≢ decimal n) → AllDigits 10 word → 0 < length word →
    (get_or word 0 0 ≡ 48 → length word ≡ 1) → 2 ^ 64 ≤ digits_value 10 word
too_great word none digits some first = grind (arith, nat_tests, digits_are_decimal)

-- a word with a leading zero that is no decimal text has a second byte
pub zero_longer : (word : List ℕ) → ((n : ℕ) → n < 2 ^ 64 → word ≢ decimal n) → 0 < length word → get_or word 0 0 ≡ 48 → 1 < length word
zero_longer [] none some first = absurd (omega (arith, some))
zero_longer (b ∷ []) none some first = absurd (none 0 (omega arith) (ap (λ (x : ℕ). x ∷ []) first ∙ sym (decimal_digit 0 (omega arith))))
zero_longer (b ∷ c ∷ bs) none some first = omega arith

-- the first i + 1 bytes are digits exactly if the first i are and the next one is
pub digits_on : (ds : List ℕ) (i : ℕ) → i < length ds → AllDigits 10 (take i ds) → IsInRange 48 57 (get_or ds i 0) →
    AllDigits 10 (take (i + 1) ds)
digits_on ds i lt so_far digit = digits_more 10 ds i lt so_far (omega (arith, digit_value_digit (get_or ds i 0) digit, digit.1))

pub no_number : (old rest : Words) (word : List ℕ) → old ≡ word ∷ rest → number_at old ≡ None → (n : ℕ) → n < 2 ^ 64 → word ≢ decimal n
no_number old rest word is none n small spelt = grind (arith, nat_tests, number_again)

-- a number above the greatest allowed is a fault: of a register, or of a number with 64 bits
pub register_fault : (is_register : Bool) (old left : Words) (n most : ℕ) → number_at old ≡ Some (n, left) →
    most + 1 ≡ (if is_register then 32 else 2 ^ 64) → most < n →
    (place : ℕ) → (word : List ℕ) × (rest : Words) × (old ≡ word ∷ rest) × IsWordFault word place is_register (fault.NoRegister n)
register_fault true old left n most read is great place = let t = number_takes old (n, left) read in
    (decimal n, left, t.1, (refl, refl, omega (arith, is, great)))
register_fault false old left n most read is great place = let t = number_takes old (n, left) read in absurd (omega (arith, is, great, t.0))

pub operand_here : (is_register : Bool) (old left : Words) (n most : ℕ) → number_at old ≡ Some (n, left) →
    most + 1 ≡ (if is_register then 32 else 2 ^ 64) → n ≤ most →
    (word : List ℕ) × (old ≡ word ∷ left) × IsOperand is_register word
operand_here is_register old left n most read is small =
    let t = number_takes old (n, left) read in
    (decimal n, t.1, (n, subst (λ (bound : ℕ). n < bound) is (omega (arith, small)), refl))

pub word_fault_here : (is_register : Bool) (old rest : Words) (word : List ℕ) (place : ℕ) (why : LineFault) → old ≡ word ∷ rest →
    ((r : Bool) → IsWordFault word place r why) →
    (w : List ℕ) × (left : Words) × (old ≡ w ∷ left) × IsWordFault w place is_register why
word_fault_here is_register old rest word place why is faulty = (word, rest, is, faulty is_register)

pub empty_list : (word : List ℕ) → (length word == 0) ≡ true → word ≡ []
empty_list word none = grind (arith, nat_tests, nil_from_length)

-- ---- words, one after another

abbrev pub Taken : List Bool → Words → ℕ → Words → Type 0
Taken registers all count left = (before : Words) × (all ≡ before ++ left) × (length before ≡ count)
    × AreOperands (take count registers) before

operands_more : (registers : List Bool) (before : Words) (count : ℕ) (word : List ℕ) → count < length registers → length before ≡ count →
    AreOperands (take count registers) before →
    IsOperand (get_or registers count false) word → AreOperands (take (suc count) registers) (before ++ word ∷ [])
operands_more (r ∷ rs) [] zero word lt long are is = (is, tt)
operands_more (r ∷ rs) (w ∷ ws) (suc count) word lt long are is = (
  are.0,
  operands_more rs ws count word (omega (arith, lt))
      (omega (arith, long)) are.1 is,
)
operands_more registers before count word lt long are is = absurd (grind (arith, nat_tests))

pub one_taken : (registers : List Bool) (all : Words) (count : ℕ) (left next : Words) (word : List ℕ) → count < length registers →
    Taken registers all count left →
    left ≡ word ∷ next → IsOperand (get_or registers count false) word → Taken registers all (count + 1) next
one_taken registers all count left next word lt taken is operand =
    let one : count + 1 ≡ suc count = omega arith in (
      taken.0 ++ word ∷ [],
      taken.1 ∙ ap (λ (l : Words). taken.0 ++ l) is ∙ sym (append_assoc taken.0 (word ∷ []) next),
      length_more taken.0 word ∙ ap suc taken.2 ∙ sym one,
      subst (λ (k : ℕ). AreOperands (take k registers) (taken.0 ++ word ∷ [])) (sym one)
          (operands_more registers taken.0 count word lt taken.2 taken.3 operand),
    )
  where
    length_more : (ws : Words) (w : List ℕ) → length (ws ++ w ∷ []) ≡ suc (length ws)
    length_more [] w = refl
    length_more (v ∷ vs) w = ap suc (length_more vs w)

operands_length : (registers : List Bool) (words : Words) → AreOperands registers words → length words ≡ length registers
operands_length [] [] are = refl
operands_length (r ∷ rs) (w ∷ ws) are = ap suc (operands_length rs ws are.1)
operands_length registers words are = absurd are

-- ---- faults of a line

-- a word after the keyword and the words `before` is at place length before + 2
has_word : (line : List ℕ) (k : Keyword) (before after : Words) (word : List ℕ) (place : ℕ) → Names line k (before ++ word ∷ after) →
    place ≡ length before + 2 → HasWord line place word
has_word line k before after word place names is = (keyword_name k ∷ before, after, names, omega (arith, is))

at_length : {A : Type 0} (before : List A) (x : A) (after : List A) → slice_get (before ++ x ∷ after) (length before) ≡ Some x
at_length [] x after = refl
at_length (b ∷ bs) x after = at_length bs x after

register_at : (registers : List Bool) (count : ℕ) → count < length registers → get_or registers count false ≡ true →
    slice_get registers count ≡ Some true
register_at [] count lt is = absurd (omega (arith, lt))
register_at (r ∷ rs) zero lt is = ap Some is
register_at (r ∷ rs) (suc count) lt is = register_at rs count (omega (arith, lt)) is

pub word_is_fault : (k : Keyword) (all left rest : Words) (count place : ℕ) (word : List ℕ) (why : LineFault) →
    count < length (are_registers k) → Taken (are_registers k) all count left →
    left ≡ word ∷ rest → place ≡ count + 2 → IsWordFault word place (get_or (are_registers k) count false) why → (line : List ℕ) →
    Names line k all → IsFaultOf line why
word_is_fault k all left rest count place word why lt taken is at faulty line names = go why faulty where
  split : all ≡ taken.0 ++ word ∷ rest
  split = taken.1 ∙ ap (λ (l : Words). taken.0 ++ l) is

  here : HasWord line place word
  here = has_word line k taken.0 rest word place (names ∙ ap (λ (l : Words). keyword_name k ∷ l) split) (omega (arith, at, taken.2))

  found : slice_get all count ≡ Some word
  found = ap (λ (l : Words). slice_get l count) split ∙ subst (λ (i : ℕ). slice_get (taken.0 ++ word ∷ rest) i ≡ Some word) taken.2
      (at_length taken.0 word rest)

  operand : (p : ℕ) → p ≡ place → HasOperand line p word
  operand p same = (k, all, names, count, same ∙ at, lt, found)

  go : (f : LineFault) → IsWordFault word place (get_or (are_registers k) count false) f → IsFaultOf line f
  go (fault.EmptyWord p) is = subst (λ (n : ℕ). HasWord line n []) (sym is.0) (subst (HasWord line place) is.1 here)
  go (fault.NoNumber p) is = (word, operand p is.0, is.1)
  go (fault.LeadingZero p) is = (word, operand p is.0, is.1, is.2)
  go (fault.Great p) is = (word, operand p is.0, is.1, is.2)
  go (fault.NoRegister n) is = (
    k,
    all,
    names,
    count,
    register_at (are_registers k) count lt is.0,
    found ∙ ap Some is.1,
    is.2,
  )
  go other is = absurd is

-- the parameters: the operands taken so far are valid, and none is missing
module _ (k : Keyword) (all left : Words) (count : ℕ) (end : length (are_registers k) ≤ count)
    (taken : Taken (are_registers k) all count left) where
  operands : AreOperands (are_registers k) taken.0
  operands = subst (λ (rs : List Bool). AreOperands rs taken.0) (take_all count (are_registers k) end) taken.3

  pub empty_word : (word : List ℕ) (rest : Words) (place : ℕ) → left ≡ word ∷ rest → place ≡ length (are_registers k) + 1 + 1 → word ≡ [] →
      (line : List ℕ) → Names line k all → IsFaultOf line (fault.EmptyWord place)
  empty_word word rest place is at none line names =
      let split : all ≡ taken.0 ++ word ∷ rest = taken.1 ∙ ap (λ (l : Words). taken.0 ++ l) is in
      rw (← none) (has_word line k _ rest word place (names ∙ ap (λ (l : Words). keyword_name k ∷ l) split)
      (omega (arith, at, operands_length _ _ operands)))

-- the parameters: a table of operands equal to that of the keyword, and the operands taken so far, which are valid
module _ (registers : List Bool) (k : Keyword) (same : registers ≡ are_registers k) (all left : Words) (count : ℕ)
    (taken : Taken registers all count left)
  where
    taken_of : Taken (are_registers k) all count left
    taken_of = subst (λ (rs : List Bool). Taken rs all count left) same taken

    pub fault_in_table : (rest : Words) (place : ℕ) (word : List ℕ) (why : LineFault) → count < length registers → left ≡ word ∷ rest →
        place ≡ count + 2 → IsWordFault word place (get_or registers count false) why → (line : List ℕ) → Names line k all →
        IsFaultOf line why
    fault_in_table rest place word why lt is at faulty = word_is_fault k all left rest count place word why (rw (← same) lt) taken_of is at
        (rw (← same) faulty)

    pub empty_behind_table : length registers ≤ count → (word : List ℕ) (rest : Words) (place : ℕ) → left ≡ word ∷ rest →
        place ≡ length registers + 1 + 1 → (length word == 0) ≡ true →
        (line : List ℕ) → Names line k all → IsFaultOf line (fault.EmptyWord place)
    empty_behind_table end word rest place is at none = empty_word k all left count (rw (← same) end) taken_of word rest place is
        (rw (← same) at) (empty_list word none)

-- ---- a line without a fault contains a command

first : (b : Bool) (bs : List Bool) (ws : Words) → AreOperands (b ∷ bs) ws →
    (n : ℕ) × (rest : Words) × (n < (if b then 32 else 2 ^ 64)) × (ws ≡ decimal n ∷ rest) × AreOperands bs rest
first b bs ws are = grind (arith, nat_tests)

none : (ws : Words) → AreOperands [] ws → ws ≡ []
none ws are = grind (arith, nat_tests)

four : (b : Bool) (bs : List Bool) (ws : Words) → AreOperands (b ∷ b ∷ b ∷ b ∷ bs) ws →
    (ns : List ℕ) × (rest : Words) × (length ns ≡ 4) × All (λ n. n < (if b then 32 else 2 ^ 64)) ns × (ws ≡ map decimal ns ++ rest)
    × AreOperands bs rest
four b bs ws are =
    let p = first b (b ∷ b ∷ b ∷ bs) ws are in
    let q = first b (b ∷ b ∷ bs) p.1 p.4 in
    let r = first b (b ∷ bs) q.1 q.4 in
    let s = first b bs r.1 r.4 in (
      p.0 ∷ q.0 ∷ r.0 ∷ s.0 ∷ [],
      s.1,
      refl,
      all_four (if b then 32 else 2 ^ 64) p.0 q.0 r.0 s.0 p.2 q.2 r.2 s.2,
      p.3 ∙ ap (λ (w : Words). decimal p.0 ∷ w) (q.3 ∙ ap (λ (w : Words). decimal q.0 ∷ w) (r.3 ∙ ap (λ (w : Words). decimal r.0 ∷ w) s.3)),
      s.4,
    )

abbrev Spells : Keyword → Words → Type 0
Spells k ws = (c : Command) × Fits c × (command_words c ≡ keyword_name k ∷ ws)

one_spells : (k : Keyword) (make : ℕ → Command) → ((n : ℕ) → n < 2 ^ 64 → Fits (make n)) →
    ((n : ℕ) → command_words (make n) ≡ keyword_name k ∷ decimal n ∷ []) →
    (ws : Words) → AreOperands (false ∷ []) ws → Spells k ws
one_spells k make fits words ws are = grind (arith, nat_tests)

spells : (k : Keyword) (ws : Words) → AreOperands (are_registers k) ws → Spells k ws
unfolding command_words
spells (keyword.Invoke o) ws are =
    let p = first false (true ∷ false ∷ false ∷ false ∷ false ∷ true ∷ true ∷ true ∷ true ∷ []) ws are in
    let r = first true (false ∷ false ∷ false ∷ false ∷ true ∷ true ∷ true ∷ true ∷ []) p.1 p.4 in
    let words = four false (true ∷ true ∷ true ∷ true ∷ []) r.1 r.4 in
    let sent = four true [] words.1 words.5 in (
      command.Invoke (record { operation = o; process = p.0; register = r.0; words = words.0; sent = sent.0 }),
      (p.2, r.2, words.2, words.3, sent.2, sent.3),
      grind (arith, nat_tests, none, append-nil),
    )
spells keyword.Load ws are =
    let p = first false (false ∷ []) ws are in
    let a = first false [] p.1 p.4 in (
      command.Load p.0 a.0,
      (p.2, a.2),
      ap (λ (w : Words). codes "load" ∷ w) (sym (p.3 ∙ ap (λ (w : Words). decimal p.0 ∷ w)
          (a.3 ∙ ap (λ (w : Words). decimal a.0 ∷ w) (none a.1 a.4)))),
    )
spells keyword.Store ws are =
    let p = first false (false ∷ false ∷ []) ws are in
    let a = first false (false ∷ []) p.1 p.4 in
    let v = first false [] a.1 a.4 in (
      command.Store p.0 a.0 v.0,
      (p.2, a.2, v.2),
      grind (arith, nat_tests, none),
    )
spells keyword.Show ws are = one_spells keyword.Show (λ n. command.Show n) (λ n small. small) (λ n. refl) ws are
spells keyword.Evict ws are = one_spells keyword.Evict (λ n. command.Evict n) (λ n small. small) (λ n. refl) ws are
spells keyword.Stabilize ws are = one_spells keyword.Stabilize (λ n. command.Stabilize n) (λ n small. small) (λ n. refl) ws are
spells keyword.Migrate ws are = one_spells keyword.Migrate (λ n. command.Migrate n) (λ n small. small) (λ n. refl) ws are
spells keyword.Journal ws are = one_spells keyword.Journal (λ n. command.Journal n) (λ n small. small) (λ n. refl) ws are
spells keyword.Checkpoint ws are = (command.Checkpoint, tt, ap (λ (w : Words). codes "checkpoint" ∷ w) (sym (none ws are)))
spells keyword.Commit ws are = (command.Commit, tt, ap (λ (w : Words). codes "commit" ∷ w) (sym (none ws are)))
spells keyword.Restart ws are = (command.Restart, tt, ap (λ (w : Words). codes "restart" ∷ w) (sym (none ws are)))
spells keyword.Cut ws are = (command.Cut, tt, ap (λ (w : Words). codes "cut" ∷ w) (sym (none ws are)))

pub not_bad : (text : List ℕ) (k : Keyword) (ws : Words) → Names text k ws → AreOperands (are_registers k) ws → length text ≤ 256 →
    Says text line.Bad → ⊥
not_bad text k ws names are short bad = grind (arith, nat_tests, spells, spelling_from_words)
