-- What a writer has accepted after several writes.
use Rattle.script.proofs.Names.{nat_tests, ℕ, List, [], Option, Result, Ok, Err, length, take, drop, sym, ap, subst, append_assoc, append-nil, arith}
use Rattle.script.proofs.Names.{take-append-drop, take_all, length-drop, take-add, Appends-trans, Appends, Keeps, line_of, RunFault, AppendsFront, Writes}
use Rattle.script.proofs.Names.{Appends-kept, Written, Wrote, WroteFront, CountedWriter, written_by}
use Rattle.std.proofs.Common.{◌≡◌, ◌+◌, ◌-◌, ◌++◌, ◌∙◌}

-- if the first n bytes were appended, a beginning of the text was
pub front_at : (a b : Option (List ℕ)) (bytes : List ℕ) (n : ℕ) → Appends a b (take n bytes) → AppendsFront a b bytes
front_at a b bytes n h = (take n bytes, drop n bytes, sym (take-append-drop n bytes), h)

pub kept_nil : (a b : Option (List ℕ)) → Appends a b [] → Keeps a b
kept_nil a b h = grind (arith, nat_tests, append-nil)

-- after i bytes, appending n bytes of the rest appends the first i + n
pub took_more : (a b c : Option (List ℕ)) (bytes : List ℕ) (i n : ℕ) → Appends a b (take i bytes)
    → Appends b c (take n (take (length bytes - i) (drop i bytes))) → Appends a c (take (i + n) bytes)
took_more a b c bytes i n h k = grind (arith, nat_tests, take_all, length-drop, take-add, Appends-trans)

-- two writes, one after the other, write both texts
pub wrote_trans : (a b c : Written) (first second : List ℕ) → Wrote a b first → Wrote b c second → Wrote a c (first ++ second)
wrote_trans a b c first second h k = grind (arith, nat_tests, Appends-trans)

-- if the first text was written and then a beginning of the second, a beginning of both was
pub second_front : (a b c : Written) (first second : List ℕ) → Wrote a b first → WroteFront b c second → WroteFront a c (first ++ second)
second_front a b c first second h k = grind (arith, nat_tests, append_assoc, Appends-trans)

-- a beginning of the first text is a beginning of both
pub first_front : (a b : Written) (first second : List ℕ) → WroteFront a b first → WroteFront a b (first ++ second)
first_front a b first second h = grind (arith, nat_tests, append_assoc)

-- if the first text was written, writing the second writes both, or fails after a beginning of both
pub writes_after : (a b c : Written) (r : Result (Unit {0}) RunFault) (first second : List ℕ) → Wrote a b first → Writes b c r second →
    Writes a c r (first ++ second)
writes_after a b c (Ok x) first second h w = wrote_trans a b c first second h w
writes_after a b c (Err e) first second h w = (w.0, second_front a b c first second h w.1)

-- if the second of three texts failed, writing all three failed after a beginning of them
pub writes_fail : (a b c : Written) (e : RunFault) (first second third text : List ℕ) → text ≡ (first ++ second) ++ third
    → Wrote a b first → Writes b c (Err e) second → Writes a c (Err e) text
writes_fail a b c e first second third text is h w = (
  w.0,
  subst (WroteFront a c) (sym is)
      (first_front a c _ third (second_front a b c first _ h w.1)),
)

-- if the first of two texts failed, writing both failed
pub text_fails : (a b : Written) (e : RunFault) (first second text : List ℕ) → text ≡ first ++ second → Writes a b (Err e) first →
    Writes a b (Err e) text
text_fails a b e first second text is w = (w.0, subst (WroteFront a b) (sym is) (first_front a b first second w.1))

-- if the first line failed, writing it and the rest failed
pub line_fails : (a b : Written) (e : RunFault) (line spelled second text : List ℕ) → line ≡ spelled → text ≡ line_of spelled ++ second
    → Writes a b (Err e) (line_of line) → Writes a b (Err e) text
line_fails a b e line spelled second text same is w = (
  w.0,
  rw (← ap (λ (t : List ℕ). line_of t ++ second) same ∙ sym is)
      (first_front a b _ _ w.1),
)

-- if the first line was written, writing the second text writes both, or fails after a beginning of both
pub line_and : (a b c : Written) (r : Result (Unit {0}) RunFault) (line spelled second text : List ℕ) → line ≡ spelled →
    text ≡ line_of spelled ++ second
    → Wrote a b (line_of line) → Writes b c r second → Writes a c r text
line_and a b c r line spelled second text same is h w = grind (arith, nat_tests, writes_after)

pub writes_same : (a b : Written) (r : Result (Unit {0}) RunFault) (text other : List ℕ) → text ≡ other → Writes a b r text →
    Writes a b r other
writes_same a b r text other same w = subst (Writes a b r) same w

-- if a call failed after n bytes were accepted, a beginning was written and one more failure is counted
pub broke_off : (a b : Written) (bytes : List ℕ) (n failures : ℕ) → Appends a.contents b.contents (take n bytes) → failures ≡ a.failures →
    b.failures ≡ failures + 1 → WroteFront a b bytes
broke_off a b bytes n failures h same failed = record { taken = front_at a.contents b.contents bytes n h; failed = omega arith }

-- if n is the length of the text, all of it was appended
pub taken_all : (a b : Option (List ℕ)) (bytes : List ℕ) (n : ℕ) → n ≡ length bytes → Appends a b (take n bytes) → Appends a b bytes
taken_all a b bytes n all h = subst (Appends a b) (take_all n bytes (omega arith)) h

-- if the first n bytes were written, writing the rest writes all, or fails after a beginning
pub rest_written : (a b c : Written) (r : Result (Unit {0}) RunFault) (bytes : List ℕ) (n : ℕ) → Wrote a b (take n bytes)
    → Writes b c r (take (length bytes - n) (drop n bytes)) → Writes a c r bytes
rest_written a b c r bytes n h w =
    let whole : take (length bytes - n) (drop n bytes) ≡ drop n bytes = take_all (length bytes - n) (drop n bytes)
    (omega (arith, length-drop n bytes)) in
    subst (Writes a c r) (take-append-drop n bytes) (writes_after a b c r (take n bytes) (drop n bytes) h (subst (Writes b c r) whole w))

-- if some bytes were appended and the count of failures stayed, these bytes were written
pub wrote_some : {W : Type 0} (contents : W → Option (List ℕ)) (a b c : CountedWriter W) (bytes : List ℕ) (n : ℕ)
    → Appends (contents a.inner) (contents b.inner) (take n bytes) → b.failures.number ≡ a.failures.number
    → Keeps (contents b.inner) (contents c.inner) → c.failures.number ≡ b.failures.number + 1
    → WroteFront (written_by contents a) (written_by contents c) bytes
wrote_some {W} contents a b c bytes n h same kept failed =
    broke_off (written_by contents a) (written_by contents c) bytes n b.failures.number (Appends-kept _ _ _ _ h kept) same failed
