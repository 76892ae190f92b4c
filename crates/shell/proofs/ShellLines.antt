-- How reading bytes changes the lines that a shell has yet to read.
use Rattle.std.proofs.Common.{◌≡◌, ◌≢◌, ◌⊎◌, ◌≤◌, ◌<◌, ◌+◌, ◌∷◌, ◌++◌, ◌==◌, ◌∙◌, ℕ, Bool, true, false, List, [], Option, None, Some, length, take, drop, map, refl}
use Rattle.std.proofs.Common.{sym, ap, subst, arith, append-nil, append_assoc, ⊎_elim}
use Rattle.std.proofs.lemmas.Bool.Decides.{nat_tests}
use Rattle.std.specs.Io.KnownBytes.{Consumes, IsAtEnd}
use Rattle.std.specs.Prelude.{◌↔◌, IsTrue, option_map}
use Rattle.std.proofs.Common.{codes, inl, inr, zero, suc}
use Rattle.std.proofs.lemmas.List.{drop-drop, length-append, length-drop, take-append-drop, take-append-le, take_all}
use Rattle.std.proofs.lemmas.Bool.{lt-ltb}
use Rattle.std.specs.Prelude.{Err, Ok, nat_lt, Result, slice_index_or}
use Rattle.script.specs.declared.fault.RunFault.{RunFault}
use Rattle.runs.specs.Taking.{ReadsPiece}
use Rattle.runs.specs.declared.script_pieces.Piece.{Piece}
use Rattle.runs.specs.declared.script_pieces.Piece.TheVariants as piece
use Rattle.std.specs.List.{flat_map}
use Rattle.script.specs.Writing.{Written}
use Rattle.model.specs.Run.{lines_of, onto_first}
use Rattle.model.specs.Text.{line_of, spaced}
use Rattle.shell.specs.Lines.{IsKept, Takes, NoneAhead, before_comment, lines_ahead, lines_from, read_as, words_in}
use Rattle.shell.specs.Served.{ReadsLine, lines_to}
use Rattle.shell.specs.declared.typed_lines.LineEnd.{LineEnd}
use Rattle.shell.specs.declared.typed_lines.LineEnd.TheVariants as end

-- a byte that is no newline continues the line begun
byte_more : (begun rest : List ℕ) (b : ℕ) → b ≢ 10 → lines_from begun (b ∷ rest) ≡ lines_from (begun ++ b ∷ []) rest
byte_more [] rest b other = let differs : (b == 10) ≡ false = grind (arith, nat_tests) in rw differs refl
byte_more (c ∷ begun) rest b other = ap (onto_first c) (byte_more begun rest b other)

-- a newline ends the line
newline : (begun rest : List ℕ) → lines_from begun (10 ∷ rest) ≡ begun ∷ lines_of rest
newline [] rest = refl
newline (c ∷ begun) rest = ap (onto_first c) (newline begun rest)

-- the lines of a text, with these bytes before the first
abbrev joined : List ℕ → List (List ℕ) → List (List ℕ)
joined begun [] = begun ∷ []
joined begun (l ∷ ls) = (begun ++ l) ∷ ls

onto_joined : (c : ℕ) (begun : List ℕ) (ls : List (List ℕ)) → onto_first c (joined begun ls) ≡ joined (c ∷ begun) ls
onto_joined c begun [] = refl
onto_joined c begun (l ∷ ls) = refl

from_joined : (c : ℕ) (begun rest : List ℕ) → lines_from (c ∷ begun) rest ≡ joined (c ∷ begun) (lines_of rest)
from_joined c [] rest = onto_first_one (lines_of rest)
  where
    onto_first_one : (ls : List (List ℕ)) → onto_first c ls ≡ joined (c ∷ []) ls
    onto_first_one [] = refl
    onto_first_one (l ∷ ls) = refl
from_joined c (d ∷ begun) rest = ap (onto_first c) (from_joined d begun rest) ∙ onto_joined c (d ∷ begun) (lines_of rest)

-- only the first 257 bytes of a longer line matter
read_long : (begun more : List ℕ) → 257 ≤ length begun → read_as (begun ++ more) ≡ take 257 begun
read_long begun more full =
    let long : nat_lt 256 (length (begun ++ more)) ≡ true = lt-ltb 256 (length (begun ++ more))
    (omega (arith, full, length-append begun more)) in
    rw long (take-append-le 257 begun more full)

read_begun : (begun : List ℕ) → 257 ≤ length begun → read_as begun ≡ take 257 begun
read_begun begun full = subst (λ (l : List ℕ). read_as l ≡ take 257 begun) (append-nil begun) (read_long begun [] full)

dropped : (begun : List ℕ) (b : ℕ) (ls : List (List ℕ)) → 257 ≤ length begun →
    map read_as (joined begun (onto_first b ls)) ≡ map read_as (joined begun ls)
dropped begun b [] full = ap (λ (l : List ℕ). l ∷ []) (read_long begun (b ∷ []) full ∙ sym (read_begun begun full))
dropped begun b (l ∷ ls) full =
    ap (λ (k : List ℕ). k ∷ map read_as ls) (read_long begun (b ∷ l) full ∙ sym (read_long begun l full))

byte_dropped : (begun rest : List ℕ) (b : ℕ) → b ≢ 10 → 257 ≤ length begun →
    map read_as (lines_from begun (b ∷ rest)) ≡ map read_as (lines_from begun rest)
byte_dropped [] rest b other full = absurd (omega (arith, full))
byte_dropped (c ∷ begun) rest b other full =
    let differs : (b == 10) ≡ false = grind (arith, nat_tests) in
    ap (map read_as) (from_joined c begun (b ∷ rest)) ∙ rw differs (dropped (c ∷ begun) b (lines_of rest) full)
    ∙ sym (ap (map read_as) (from_joined c begun rest))

-- at the end of the input the bytes read are the last line, if there are any
at_end : (begun : List ℕ) → lines_from begun [] ≡ lines_to end.Input begun
at_end [] = refl
at_end (c ∷ begun) = from_joined c begun []

-- ---- one read

module _ (first : Option (List (List ℕ))) (begun : List ℕ) where
  -- reading nothing takes no line
  pub none_read : (old new : Option (List ℕ)) → Consumes old new [] → Takes first (lines_ahead begun old) [] →
      Takes first (lines_ahead begun new) []
  none_read old new = nothing first old new
    where
      nothing : (f : Option (List (List ℕ))) (o n : Option (List ℕ)) → Consumes o n [] → Takes f (lines_ahead begun o) [] →
          Takes f (lines_ahead begun n) []
      nothing None o n read takes = tt
      nothing (Some ls) None n read takes = absurd takes
      nothing (Some ls) (Some xs) None read takes = absurd read
      nothing (Some ls) (Some xs) (Some ys) read takes = takes ∙ ap (λ (t : List ℕ). map read_as (lines_from begun t)) read

  -- if fewer than 257 bytes of the line are kept, reading a byte that is no newline keeps it
  pub byte_read : (old new : Option (List ℕ)) (b : ℕ) (after : List ℕ) → b ≢ 10 → IsKept begun b after →
      Consumes old new (b ∷ []) → Takes first (lines_ahead begun old) [] → Takes first (lines_ahead after new) []
  byte_read old new b after other is = more first old new
    where
      same : (rest : List ℕ) → map read_as (lines_from begun (b ∷ rest)) ≡ map read_as (lines_from after rest)
      same rest = ⊎_elim
          (λ fits. ap (map read_as) (byte_more begun rest b other) ∙ ap (λ (l : List ℕ). map read_as (lines_from l rest)) (sym fits.1))
          (λ full. byte_dropped begun rest b other full.0 ∙ ap (λ (l : List ℕ). map read_as (lines_from l rest)) (sym full.1))
          is

      more : (f : Option (List (List ℕ))) (o n : Option (List ℕ)) → Consumes o n (b ∷ []) → Takes f (lines_ahead begun o) [] →
          Takes f (lines_ahead after n) []
      more None o n read takes = tt
      more (Some ls) None n read takes = absurd takes
      more (Some ls) (Some xs) None read takes = absurd read
      more (Some ls) (Some xs) (Some ys) read takes = takes ∙ ap (λ (t : List ℕ). map read_as (lines_from begun t)) read ∙ same ys

  -- reading a newline takes the line
  pub newline_read : (old new : Option (List ℕ)) → Consumes old new (10 ∷ []) → Takes first (lines_ahead begun old) [] →
      ReadsLine first new begun end.Newline
  newline_read old new read takes = (whole first old new read takes, tt)
    where
      whole : (f : Option (List (List ℕ))) (o n : Option (List ℕ)) → Consumes o n (10 ∷ []) → Takes f (lines_ahead begun o) [] →
          Takes f (lines_ahead [] n) (read_as begun ∷ [])
      whole None o n read takes = tt
      whole (Some ls) None n read takes = absurd takes
      whole (Some ls) (Some xs) None read takes = absurd read
      whole (Some ls) (Some xs) (Some ys) read takes =
          takes ∙ ap (λ (t : List ℕ). map read_as (lines_from begun t)) read ∙ ap (map read_as) (newline begun ys)

  -- at the end of the input the bytes read are taken as the last line
  pub end_read : (old new : Option (List ℕ)) → Consumes old new [] × IsAtEnd new → Takes first (lines_ahead begun old) [] →
      ReadsLine first new begun end.Input
  end_read old new read takes = (whole first old new read takes, read.1)
    where
      whole : (f : Option (List (List ℕ))) (o n : Option (List ℕ)) → Consumes o n [] × IsAtEnd n → Takes f (lines_ahead begun o) [] →
          Takes f (lines_ahead [] n) (map read_as (lines_to end.Input begun))
      whole None o n read takes = tt
      whole (Some ls) None n read takes = absurd takes
      whole (Some ls) (Some xs) None read takes = absurd read.0
      whole (Some ls) (Some xs) (Some ys) read takes =
          takes ∙ ap (λ (t : List ℕ). map read_as (lines_from begun t)) (read.0 ∙ read.1) ∙ ap (map read_as) (at_end begun)
          ∙ sym (append-nil (map read_as (lines_to end.Input begun)))
          ∙ ap (λ (t : List ℕ). map read_as (lines_to end.Input begun) ++ map read_as (lines_of t)) (sym read.1)

-- ---- taking a line

-- reading a line takes the next line ahead
pub line_taken : (old : Option (List (List ℕ))) (rest : Option (List ℕ)) (line : List ℕ) (e : LineEnd) → ReadsLine old rest line e →
    (e ≡ end.Input → line ≡ [] → ⊥) → Takes old (lines_ahead [] rest) (read_as line ∷ [])
line_taken old rest line e reads some = taken e line reads.0 some
  where
    taken : (e : LineEnd) (line : List ℕ) → Takes old (lines_ahead [] rest) (map read_as (lines_to e line)) →
        (e ≡ end.Input → line ≡ [] → ⊥) → Takes old (lines_ahead [] rest) (read_as line ∷ [])
    taken end.Newline line takes some = takes
    taken end.Input [] takes some = absurd (some refl refl)
    taken end.Input (b ∷ bs) takes some = takes

-- a line of 257 bytes is read as it is
pub read_whole : (line whole : List ℕ) → 257 ≤ length line → length line ≤ 257 → whole ≡ line → whole ≡ read_as line
read_whole line whole long short is =
    let tested : nat_lt 256 (length line) ≡ true = lt-ltb 256 (length line) (omega (arith, long)) in
    is ∙ sym (rw tested (take_all 257 line short))

pub read_short : (line words : List ℕ) → length line < 257 → words ≡ spaced (words_in (before_comment line)) → words ≡ read_as line
read_short line words short is =
    let tested : nat_lt 256 (length line) ≡ false = grind (arith, nat_tests) in
    is ∙ sym (rw tested refl)

-- if the test is false, the input didn't end before a line
pub not_last : (r : Bool) (A B : Type 0) → IsTrue r ↔ (A × B) → r ≡ false → A → B → ⊥
not_last r A B is none a b = let holds : IsTrue r = is.1 (a, b) in cc

pub is_read : (r : Bool) (A B : Type 0) → IsTrue r ↔ (A × B) → r ≡ true → A × B
is_read r A B is holds = is.0 holds

-- at the end of the input no line is ahead
none_ahead : (rest : Option (List ℕ)) → IsAtEnd rest → NoneAhead (lines_ahead [] rest)
none_ahead None ends = tt
none_ahead (Some xs) ends = ap (λ (t : List ℕ). map read_as (lines_of t)) ends

pub none_taken : (old : Option (List (List ℕ))) (rest : Option (List ℕ)) (line : List ℕ) (e : LineEnd) → ReadsLine old rest line e →
    e ≡ end.Input → line ≡ [] → Takes old (lines_ahead [] rest) [] × NoneAhead (lines_ahead [] rest)
none_taken old rest line e reads ended empty =
    let read = subst (λ (l : List ℕ). ReadsLine old rest l end.Input) empty (subst (ReadsLine old rest line) ended reads) in
    (read.0, none_ahead rest read.1)

-- a piece of at least one byte, read into a buffer of one byte, is that byte
pub one_byte : (old new : Option (List ℕ)) (bytes : List ℕ) (p : Piece) (b d : ℕ) → ReadsPiece old new bytes (Ok p) → p ≡ piece.Bytes 1 →
    length bytes ≡ 1 → slice_index_or bytes 0 d ≡ b → Consumes old new (b ∷ [])
one_byte old new [] p b d reads is one at = absurd (omega (arith, one))
one_byte old new (x ∷ []) p b d reads is one at =
    subst (λ (y : ℕ). Consumes old new (y ∷ [])) at (subst (λ (q : Piece). ReadsPiece old new (x ∷ []) (Ok q)) is reads).1
one_byte old new (x ∷ y ∷ ys) p b d reads is one at = absurd (omega (arith, one))

-- one byte makes the kept line longer by at most one
pub kept_length : (old new : List ℕ) (b : ℕ) → IsKept old b new → length new ≤ length old + 1
kept_length old new b is = ⊎_elim
    (λ fits. omega (arith, ap length fits.1, length-append old (b ∷ [])))
    (λ full. omega (arith, ap length full.1))
    is
