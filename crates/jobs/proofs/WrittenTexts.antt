-- The outcome of a command that ends by writing a text.
use Rattle.jobs.proofs.Names.{Writes, Written, Wrote, WroteFront, RunFault, Fault, after_write, Result, Ok, Err, ℕ, List}
use Rattle.jobs.specs.declared.fault.Fault.TheVariants as fault

-- to prove a claim about the outcome of a write, prove it for a text that was written, and for one that was cut short
pub text_written : (old new : Written) (text : List ℕ) (Tells : Result (Unit {0}) Fault → Type 0) →
    ((a : Unit {0}) → Wrote old new text → Tells (Ok a)) → (WroteFront old new text → Tells (Err fault.CannotWriteOutput)) →
    (wrote : Result (Unit {0}) RunFault) → Writes old new wrote text → Tells (after_write wrote)
text_written old new text Tells whole front (Ok a) writes = whole a writes
text_written old new text Tells whole front (Err e) writes = front writes.1
