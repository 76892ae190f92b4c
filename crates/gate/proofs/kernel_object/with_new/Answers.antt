use Rattle.gate.proofs.Names.{[], List, ℕ, arith, refl, subst, sym, All, Contains, BankChange, numbers_of}
use Rattle.std.proofs.Common.{◌∷◌}
use Rattle.gate.proofs.Standing.{both_known}
use Rattle.gate.proofs.Effects.{contained}
use Rattle.gate.proofs.kernel_object.with_new.Goals as goal

pub returns-in-MakeProcess-clause-new : goal.returns-in-MakeProcess-clause-new
returns-in-MakeProcess-clause-new c =
    let root = c.in-MakeProcess.root in
    let annex = c.in-MakeProcess.new_annex in
    let list : List ℕ = c.args.caller.process ∷ c.args.caller.annex ∷ root ∷ annex ∷ [] in
    subst (λ (x : BankChange). All (Contains list) (numbers_of x)) (sym c.in-MakeProcess.is)
    (both_known (Contains list) root annex (contained list 2 root (omega arith) refl) (contained list 3 annex (omega arith) refl))
