-- Why a line is bad.
use Rattle.script.specs.Names.{ℕ, suc, Bool, true, false, Some, List, [], length, codes, decimal, get_or, slice_get}
use Rattle.script.specs.Names.{AllDigits, digits_value, spaced}
use Rattle.std.specs.Prelude.{◌≡◌, ◌+◌, ◌<◌, ◌≤◌, ◌^◌, if◌then◌else◌, ◌∷◌, ◌++◌}
use Rattle.script.specs.declared.keyword.Keyword.{Keyword}
use Rattle.script.specs.declared.keyword.Keyword.TheVariants as keyword
use Rattle.script.specs.declared.line_fault.LineFault.{LineFault}
use Rattle.script.specs.declared.line_fault.LineFault.TheVariants as fault
use Rattle.script.specs.Keywords.{keyword_name}
use Rattle.script.specs.Reading.{Words, words_of}

-- for each word after a keyword, whether it is a register
abbrev pub are_registers : Keyword → List Bool
are_registers (keyword.Invoke operation) = false ∷ true ∷ false ∷ false ∷ false ∷ false ∷ true ∷ true ∷ true ∷ true ∷ []
are_registers keyword.Load = false ∷ false ∷ []
are_registers keyword.Store = false ∷ false ∷ false ∷ []
are_registers keyword.Checkpoint = []
are_registers keyword.Commit = []
are_registers keyword.Restart = []
are_registers keyword.Cut = []
are_registers _ = false ∷ []

-- the line's first word is the keyword, and these words follow it
abbrev pub Names : List ℕ → Keyword → Words → Type 0
Names line k words = words_of line ≡ keyword_name k ∷ words

-- the word at a place of the line, counted from 1
abbrev pub HasWord : List ℕ → ℕ → List ℕ → Type 0
HasWord line place word = (before : Words) × (after : Words) × (words_of line ≡ before ++ word ∷ after) ×
    (place ≡ suc (length before))

-- the word at this place of the line is an operand of the line's keyword
abbrev pub HasOperand : List ℕ → ℕ → List ℕ → Type 0
HasOperand line place word = (k : Keyword) × (words : Words) × Names line k words
    × (i : ℕ) × (place ≡ i + 2) × (i < length (are_registers k)) × (slice_get words i ≡ Some word)

-- the line has this fault
abbrev pub IsFaultOf : List ℕ → LineFault → Type 0
IsFaultOf line fault.Long = 256 < length line
IsFaultOf line fault.CarriageReturn = (i : ℕ) × (i < length line) × (get_or line i 0 ≡ 13)
IsFaultOf line fault.Tab = (i : ℕ) × (i < length line) × (get_or line i 0 ≡ 9)
IsFaultOf line (fault.EmptyWord place) = HasWord line place []
IsFaultOf line fault.NoCommand = (k : Keyword) (words : Words) → Names line k words → ⊥
IsFaultOf line (fault.FewWords count) = (k : Keyword) × (words : Words) × Names line k words ×
    (count ≡ suc (length (are_registers k))) × (length words < length (are_registers k))
IsFaultOf line (fault.ManyWords count) = (k : Keyword) × (words : Words) × Names line k words ×
    (count ≡ suc (length (are_registers k))) × (length (are_registers k) < length words)
IsFaultOf line (fault.NoNumber place) = (word : List ℕ) × HasOperand line place word × (AllDigits 10 word → ⊥)
IsFaultOf line (fault.LeadingZero place) = (word : List ℕ) × HasOperand line place word × (get_or word 0 0 ≡ 48) ×
    (1 < length word)
IsFaultOf line (fault.Great place) = (word : List ℕ) × HasOperand line place word × AllDigits 10 word ×
    (2 ^ 64 ≤ digits_value 10 word)
IsFaultOf line (fault.NoRegister number) =
    (k : Keyword) × (words : Words) × Names line k words
    × (place : ℕ) × (slice_get (are_registers k) place ≡ Some true) × (slice_get words place ≡ Some (decimal number)) ×
    (31 < number)

-- a word is a valid operand: the number of a register if one is required, else any number
abbrev pub IsOperand : Bool → List ℕ → Type 0
IsOperand is_register word = (n : ℕ) × (n < (if is_register then 32 else 2 ^ 64)) × (word ≡ decimal n)

-- the words are valid operands of the keyword, one for each place
abbrev pub AreOperands : List Bool → Words → Type 0
AreOperands [] [] = Unit {0}
AreOperands (is_register ∷ others) (word ∷ words) = IsOperand is_register word × AreOperands others words
AreOperands _ _ = ⊥

-- the word at this place isn't a valid operand, for this reason
abbrev pub IsWordFault : List ℕ → ℕ → Bool → LineFault → Type 0
IsWordFault word place is_register (fault.EmptyWord at) = (at ≡ place) × (word ≡ [])
IsWordFault word place is_register (fault.NoNumber at) = (at ≡ place) × (AllDigits 10 word → ⊥)
IsWordFault word place is_register (fault.LeadingZero at) = (at ≡ place) × (get_or word 0 0 ≡ 48) × (1 < length word)
IsWordFault word place is_register (fault.Great at) = (at ≡ place) × AllDigits 10 word × (2 ^ 64 ≤ digits_value 10 word)
IsWordFault word place is_register (fault.NoRegister number) = (is_register ≡ true) × (word ≡ decimal number) ×
    (31 < number)
IsWordFault word place is_register _ = ⊥

-- the text of a fault
abbrev pub line_fault_text : LineFault → List ℕ
line_fault_text fault.Long = codes "more than 256 bytes"
line_fault_text fault.CarriageReturn = codes "carriage return"
line_fault_text fault.Tab = codes "tab"
line_fault_text (fault.EmptyWord place) = spaced (codes "word" ∷ decimal place ∷ codes "is empty" ∷ [])
line_fault_text fault.NoCommand = codes "unknown command"
line_fault_text (fault.FewWords count) = spaced (codes "fewer words than" ∷ decimal count ∷ [])
line_fault_text (fault.ManyWords count) = spaced (codes "more words than" ∷ decimal count ∷ [])
line_fault_text (fault.NoNumber place) = spaced (codes "word" ∷ decimal place ∷ codes "is no number" ∷ [])
line_fault_text (fault.LeadingZero place) = spaced (codes "word" ∷ decimal place ∷ codes "has a leading zero" ∷ [])
line_fault_text (fault.Great place) = spaced (codes "word" ∷ decimal place ∷ codes "is above 18446744073709551615" ∷ [])
line_fault_text (fault.NoRegister number) = spaced (codes "register" ∷ decimal number ∷ codes "is above 31" ∷ [])
