-- The history of a file whose first bytes become known sector by sector.
use Rattle.devices.proofs.Names.{ℕ, List, take, length, ap, sym, arith, Bor, fresh, stepped, image_of, take-add, take_all, History, Held}
use Rattle.std.proofs.Common.{◌≡◌, ◌+◌, ◌*◌, ◌≤◌, ◌++◌, ◌∙◌}

pub held_more : (old new : History) (copy : List ℕ) (at : ℕ) (bytes : Bor (List ℕ)) → old ≡ fresh (take (512 * at) copy) →
    bytes.now ≡ image_of copy at → new ≡ stepped old (Held bytes) → new ≡ fresh (take (512 * (at + 1)) copy)
held_more old new copy at bytes was is more =
    more ∙ ap (λ (h : History). stepped h (Held bytes)) was
    ∙ ap (λ (l : List ℕ). fresh (take (512 * at) copy ++ l)) is
    ∙ ap fresh (sym (take-add (512 * at) 512 copy) ∙ ap (λ (n : ℕ). take n copy) (omega arith))

pub all_held : (h : History) (copy : List ℕ) (at : ℕ) → length copy ≤ 512 * at → h ≡ fresh (take (512 * at) copy) → h ≡ fresh copy
all_held h copy at all is = is ∙ ap fresh (take_all (512 * at) copy all)
