-- Laying frames one after the other.
use Rattle.description.proofs.Names.{common_steps, nat_tests, ℕ, List, drop, length, map, slice_index_or, refl, sym, ap, subst, arith, vec_len, All, drop_all}
use Rattle.description.proofs.Names.{drop_more, All-cons, All-nil, Frame, Cap, Content, World, first_frame, Entry, IsLaid, IsPut, frame_of, frames_of, laid}
use Rattle.description.proofs.Names.{number_of, Fits}
use Rattle.std.proofs.Common.{◌≡◌, ◌+◌, ◌<◌, ◌≤◌, ◌∷◌, ◌++◌, ◌∙◌}
use Rattle.description.proofs.Lists.{each_append}

pub laid_append : (es fs : List Entry) (xs : List Frame) → laid (es ++ fs) xs ≡ laid fs (laid es xs)
unfolding laid
laid_append es fs xs = each_append number_of frame_of es fs xs

-- laying some objects and then others lays all
pub laid_both : (es fs : List Entry) (old mid new : World) → IsLaid es old mid → IsLaid fs mid new → IsLaid (es ++ fs) old new
laid_both es fs old mid new first second = grind (arith, common_steps, laid_append)

-- the first i entries are laid
pub record IsLaying {E : Type 0} (entry : E → Entry) (es : List E) (old now : World) (i : ℕ) : Type 0 where
  pub frames : laid (map entry (drop i es)) (frames_of now) ≡ laid (map entry es) (frames_of old)
  pub fits : All Fits (map entry (drop i es)) → All Fits (map entry es)
  pub headers : vec_len now.headers ≡ vec_len old.headers
  pub contents : vec_len now.contents ≡ vec_len old.contents

pub none_laid : {E : Type 0} → (entry : E → Entry) (es : List E) (old : World) → IsLaying entry es old old 0
none_laid entry es old = record { frames = refl; fits = λ h. h; headers = refl; contents = refl }

pub more_laid : {E : Type 0} → (entry : E → Entry) (es : List E) (old now next : World) (i : ℕ) (e : E) → drop i es ≡ e ∷ drop (i + 1) es →
    Fits (entry e) → IsPut (number_of (entry e)) (frame_of (entry e)) now next → IsLaying entry es old now i →
    IsLaying entry es old next (i + 1)
unfolding laid
more_laid {E} entry es old now next i e split fits put was = grind (arith, nat_tests, All-cons)

pub all_laid : {E : Type 0} → (entry : E → Entry) (es : List E) (old now : World) (i : ℕ) → length es ≤ i → IsLaying entry es old now i →
    IsLaid (map entry es) old now
unfolding laid
all_laid {E} entry es old now i done was = grind (arith, nat_tests, drop_all, All-nil)

-- the list from index i on begins with the item at i
pub split_at : {E : Type 0} → (es : List E) (i : ℕ) (e : E) → i < length es → e ≡ slice_index_or es i e → drop i es ≡ e ∷ drop (i + 1) es
split_at es i e lt is = drop_more es i e lt ∙ ap (λ f. f ∷ drop (i + 1) es) (sym is)

-- if the count stayed, a number below the old count is below the new one
pub still_within : (n count old : ℕ) → n < old → count ≡ old → n < count
still_within n count old within same = omega arith

-- putting a frame with one content puts that with an equal content
pub put_same : (n owner : ℕ) (one other : Content Cap) (old new : World) → one ≡ other → IsPut n (first_frame owner one) old new →
    IsPut n (first_frame owner other) old new
put_same n owner one other old new same put = subst (λ held. IsPut n (first_frame owner held) old new) same put
