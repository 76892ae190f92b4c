-- The device calls that the host hasn't taken yet.
use Rattle.vezhnake.proofs.Names.{ℕ, List, Ok, ap, append-nil, arith, drop_all, length, sym, HostCall, Session, encoded, CollectsCalls, calls_in}
use Rattle.std.proofs.Common.{◌≡◌, ◌++◌, ◌∙◌}

-- if all device calls are collected already, collecting adds none
pub none_new : (s : Session) (count : ℕ) → count ≡ length (calls_in s.kernel) → count ≡ s.collected → CollectsCalls s s (Ok tt)
none_new s count counted all =
    let none = drop_all s.collected (calls_in s.kernel) (omega (arith, counted, all)) in
    let more = ap (λ (cs : List HostCall). s.waiting.items ++ encoded cs) none ∙ append-nil s.waiting.items in
    (sym more, sym all ∙ counted)

pub waits_after : (waiting items bytes due : List ℕ) → items ≡ waiting ++ bytes → bytes ≡ due → items ≡ waiting ++ due
waits_after waiting items bytes due grown are = grown ∙ ap (λ (xs : List ℕ). waiting ++ xs) are
