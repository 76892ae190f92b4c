-- What a writer has accepted, and how many of its calls have failed.
use Rattle.script.specs.Names.{ℕ, List, Option, Result, Ok, Err, Appends}
use Rattle.std.specs.Prelude.{◌≡◌, ◌<◌, ◌++◌}
use Rattle.script.specs.declared.fault.RunFault.{RunFault}
use Rattle.script.specs.declared.fault.RunFault.TheVariants as fault

-- the bytes that a writer has accepted, if known, and the number of its calls that failed
pub record Written : Type 0 where
  pub contents : Option (List ℕ)
  pub failures : ℕ

-- a beginning of the text was appended to the known bytes
abbrev pub AppendsFront : Option (List ℕ) → Option (List ℕ) → List ℕ → Type 0
AppendsFront old new text = (front : List ℕ) × (rest : List ℕ) × (text ≡ front ++ rest) × Appends old new front

-- the whole text was appended, and no call failed
pub record Wrote (old new : Written) (text : List ℕ) : Type 0 where
  pub taken : Appends old.contents new.contents text
  pub none_failed : new.failures ≡ old.failures

-- a beginning of the text was appended, and a call failed
pub record WroteFront (old new : Written) (text : List ℕ) : Type 0 where
  pub taken : AppendsFront old.contents new.contents text
  pub failed : old.failures < new.failures

-- the text was written, or a call failed after a beginning of it
abbrev pub Writes : Written → Written → Result (Unit {0}) RunFault → List ℕ → Type 0
Writes old new (Ok a) text = Wrote old new text
Writes old new (Err e) text = (e ≡ fault.Write) × WroteFront old new text
