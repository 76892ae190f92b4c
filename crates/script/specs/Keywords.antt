-- The first words of commands.
use Rattle.script.specs.Names.{ℕ, List, [], codes, length, slice_index_or, take, Command, command_words, operation_name}
use Rattle.std.specs.Prelude.{◌≡◌, ◌+◌, ◌≤◌, ◌++◌}
use Rattle.script.specs.declared.keyword.Keyword.{Keyword}
use Rattle.script.specs.declared.keyword.Keyword.TheVariants.{Invoke, Load, Store, Show, Evict, Checkpoint, Stabilize}
use Rattle.script.specs.declared.keyword.Keyword.TheVariants.{Commit, Migrate, Journal, Restart, Cut}

-- the first word of a command
abbrev pub keyword_name : Keyword → List ℕ
keyword_name (Invoke operation) = operation_name operation
keyword_name Load = codes "load"
keyword_name Store = codes "store"
keyword_name Show = codes "show"
keyword_name Evict = codes "evict"
keyword_name Checkpoint = codes "checkpoint"
keyword_name Stabilize = codes "stabilize"
keyword_name Commit = codes "commit"
keyword_name Migrate = codes "migrate"
keyword_name Journal = codes "journal"
keyword_name Restart = codes "restart"
keyword_name Cut = codes "cut"

-- the first word of a command's line
abbrev pub command_name : Command → List ℕ
command_name c = slice_index_or (command_words c) 0 []

-- a line begins with this word and a space, and has at least `more` bytes after them
pub record BeginsWith (word : List ℕ) (more : ℕ) (line : List ℕ) : Type 0 where
  pub front : take (length word + 1) line ≡ word ++ codes " "
  pub room : length word + 1 + more ≤ length line

-- a keyword that most lines begin with, and the least number of bytes that its operands take
abbrev pub IsCommon : Keyword → ℕ → Type 0
IsCommon (Invoke operation) least = least ≡ 19
IsCommon Load least = least ≡ 3
IsCommon Store least = least ≡ 5
IsCommon _ least = ⊥
