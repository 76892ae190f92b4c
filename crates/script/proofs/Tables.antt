-- Every keyword, kind and state is found in its table of names.
use Rattle.script.proofs.Names.{nat_tests, ℕ, List, [], get_or, arith, Call, Return, Send, State, Available, Running, Waiting, state_text, Keyword, Kind}
use Rattle.script.proofs.Names.{Discrim, keyword_name, kind_name, Number, Page, Node, Space, Process, Start, Resume, Bank, Option, None, Some, bytes_eq}
use Rattle.std.proofs.Common.{◌≢◌, ◌<◌, ◌∷◌, if◌then◌else◌}
use Rattle.script.specs.declared.named.Kind.TheVariants.{Void}
use Rattle.script.specs.declared.keyword.Keyword.TheVariants as keyword

-- the first item of a list that has this name
abbrev pub first_named : {A : Type 0} → (A → List ℕ) → List ℕ → List A → Option A
first_named name word [] = None
first_named name word (x ∷ xs) = if bytes_eq word (name x) then Some x else first_named name word xs

abbrev pub every_keyword : List Keyword
every_keyword =
    keyword.Show ∷ keyword.Journal ∷ keyword.Evict ∷ keyword.Checkpoint ∷ keyword.Stabilize ∷ keyword.Commit ∷ keyword.Migrate ∷
    keyword.Restart ∷ keyword.Cut
    ∷ keyword.Load ∷ keyword.Store ∷ keyword.Invoke Call ∷ keyword.Invoke Return ∷ keyword.Invoke Send ∷ []

-- a word that differs from the names of all 14 keywords is no keyword's name
pub no_keyword_left : (word : List ℕ) → ((i : ℕ) → i < 14 → word ≢ keyword_name (get_or every_keyword i (keyword.Invoke Send))) →
    (k : Keyword) → word ≢ keyword_name k
no_keyword_left word none k =
    grind (
      arith,
      nat_tests,
      none 0,
      none 1,
      none 2,
      none 3,
      none 4,
      none 5,
      none 6,
      none 7,
      none 8,
      none 9,
      none 10,
      none 11,
      none 12,
      none 13,
    )

abbrev pub every_kind : List Kind
every_kind = Void ∷ Number ∷ Page ∷ Node ∷ Space ∷ Process ∷ Start ∷ Resume ∷ Bank ∷ Discrim ∷ []

pub no_kind_left : (word : List ℕ) → ((i : ℕ) → i < 10 → word ≢ kind_name (get_or every_kind i Discrim)) → (k : Kind) → word ≢ kind_name k
no_kind_left word none k = grind (arith, nat_tests, none 0, none 1, none 2, none 3, none 4, none 5, none 6, none 7, none 8, none 9)

abbrev pub every_state : List State
every_state = Available ∷ Running ∷ Waiting ∷ []

pub no_state_left : (word : List ℕ) → ((i : ℕ) → i < 3 → state_text (get_or every_state i Waiting) ≢ word) → (s : State) →
    state_text s ≢ word
no_state_left word none s = grind (arith, nat_tests)
