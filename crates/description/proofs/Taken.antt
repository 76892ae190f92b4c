-- Properties that hold of all items a loop has taken.
use Rattle.description.proofs.Names.{ℕ, List, length, get_or, take, subst, All, take_all, All-more}
use Rattle.std.proofs.Common.{◌≡◌, ◌+◌, ◌<◌, ◌≤◌}

-- if the loop has taken all items, the property holds of all
pub all_taken : {A : Type 0} (P : A → Type 0) (xs : List A) (i : ℕ) → length xs ≤ i → All P (take i xs) → All P xs
all_taken P xs i past all = subst (All P) (take_all i xs past) all

-- if the property holds of the first i items and of the next, it holds of the first i + 1
pub one_more : {A : Type 0} (P : A → Type 0) (xs : List A) (i : ℕ) (x : A) → i < length xs → x ≡ get_or xs i x → All P (take i xs) → P x →
    All P (take (i + 1) xs)
one_more P xs i x within is all holds = All-more P xs i x within all (subst P is holds)
