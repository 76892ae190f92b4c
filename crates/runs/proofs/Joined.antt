-- Two runs, one after the other, are a run.
use Rattle.runs.proofs.Names.{AreTurnsOf, Disk, Geometry, IsRun, IsRunOf, List, Machine, Parts, Power, Turn, View, [], subst}
use Rattle.std.proofs.Common.{◌≡◌, ◌++◌, ◌∷◌}

run_joined : (g : Geometry) (m : Machine) (ts us : List Turn) (mid last : Machine) → IsRun g m ts mid → IsRun g mid us last →
    IsRun g m (ts ++ us) last
run_joined g m [] us mid last same run = subst (λ (x : Machine). IsRun g x us last) same run
run_joined g m (t ∷ ts) us mid last first run = (first.0, first.1, run_joined g t.after ts us mid last first.2 run)

module _ {D S : Type 0} (disk : D → Disk) (view : S → View D) (parts : S → Parts) (g : Geometry) where
  turns_joined : (old mid new : Power D S) (ts us : List Turn) → AreTurnsOf disk view parts g old mid ts →
      AreTurnsOf disk view parts g mid new us → AreTurnsOf disk view parts g old new (ts ++ us)
  turns_joined old mid new [] us same turns = subst (λ (p : Power D S). AreTurnsOf disk view parts g p new us) same turns
  turns_joined old mid new (t ∷ ts) us first turns = (first.0, first.1, turns_joined first.0 mid new ts us first.2 turns)

  pub joined : (m : Machine) (old mid new : Power D S) (ts us : List Turn) (first : IsRunOf disk view parts g m old mid ts) →
      IsRunOf disk view parts g first.after mid new us → IsRunOf disk view parts g m old new (ts ++ us)
  joined m old mid new ts us first then = record {
    after = then.after;
    run = run_joined g m ts us first.after then.after first.run then.run;
    stands = then.stands;
    each = turns_joined old mid new ts us first.each then.each;
  }
