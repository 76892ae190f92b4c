-- Which values are numbers.
use Rattle.std.proofs.Common.{◌≡◌, ◌≢◌, ◌==◌, ◌<◌, ◌^◌, ◌∷◌, ◌++◌, ◌∙◌, ℕ, ℤ, Some, None, List, [], ap, arith, false, map, pos, refl, subst, sym, true}
use Rattle.std.proofs.lemmas.Bool.{true≢false}
use Rattle.std.proofs.lemmas.List.{append-nil, append_assoc, map-append}
use Rattle.std.proofs.lemmas.List.Folds.{list_any-append}
use Rattle.std.proofs.lemmas.Bool.Decides.{nat_tests}
use Rattle.std.proofs.lemmas.Option.{none-some, same_Some}
use Rattle.std.specs.Int.{is_negative}
use Rattle.std.specs.Prelude.{String, string_bytes, unsigned_abs}
use Rattle.std.specs.declared.alloc.Global.{Global}
use Rattle.toml.specs.Data.{Data, Members, as_integer, integer, member, no_members}
use Rattle.toml.specs.View.{members_view, view}
use Rattle.toml.specs.declared.value.Value.{Value}
use Rattle.names.specs.Refused.{Adds, CannotAdd, IsRefused}
use Rattle.names.specs.Table.{AreNamed, AreNamesOf, AreOnce, IsNamed, has, is_name}
use Rattle.names.specs.declared.name.Name.{Name}
use Rattle.names.specs.declared.table.NamesFault.{NamesFault}
use Rattle.names.specs.declared.table.NamesFault.TheVariants as fault

integer_is : (d : Data) (z : ℤ) → Some z ≡ as_integer d → d ≡ integer z
integer_is d z e = grind (arith, nat_tests, none-some, same_Some)

pub negative : (d : Data) (z : ℤ) → Some z ≡ as_integer d → is_negative z ≡ true → (n : ℕ) → n < 2 ^ 63 → d ≢ integer (pos n)
negative d z is below n small number = search (arith, same_Some, number)

pub natural : (d : Data) (z : ℤ) → Some z ≡ as_integer d → is_negative z ≡ false → unsigned_abs z < 2 ^ 63 →
    (unsigned_abs z < 2 ^ 63) × (d ≡ integer (pos (unsigned_abs z)))
natural d z is above small = (small, (search (arith, integer_is)))

pub no_integer : (d : Data) → None ≡ as_integer d → (n : ℕ) → n < 2 ^ 63 → d ≢ integer (pos n)
no_integer d none n small number = search (arith, none-some, number)

pub added : (key : List ℕ) (d : Data) (old new : List Name) (n : Name) → new ≡ old ++ n ∷ [] → string_bytes n.text ≡ key →
    is_name key ≡ true → n.number < 2 ^ 63 → d ≡ integer (pos n.number) → has n.number old ≡ false → Adds key d old new
added key d old new n is text one small number none = (n, is, record { text = text; is_one = one; small = small; number = number }, none)

-- ---- reading a table of names, member by member

first_same : (a b : ℕ) (ks ls : List ℕ) → a ∷ ks ≡ b ∷ ls → a ≡ b
first_same a b ks ls same = cc

rest_same : (a b : ℕ) (ks ls : List ℕ) → a ∷ ks ≡ b ∷ ls → ks ≡ ls
rest_same a b ks ls same = cc

abbrev pub numbers : List Name → List ℕ
numbers ns = map (λ n. n.number) ns

-- a number that none of these names has differs from each of their numbers
apart : (ns : List Name) (xs ks : List ℕ) (k n : ℕ) → has n ns ≡ false → numbers ns ≡ xs ++ k ∷ ks → (k == n) ≡ false
apart [] [] ks k n none same = let bad : [] ≡ k ∷ ks = same in cc
apart [] (x ∷ xs) ks k n none same = let bad : [] ≡ x ∷ (xs ++ k ∷ ks) = same in cc
apart (a ∷ ns) [] ks k n none same =
    let e : a.number ≡ k = first_same a.number k (numbers ns) ks same in grind (arith, nat_tests)
apart (a ∷ ns) (x ∷ xs) ks k n none same =
    let e : numbers ns ≡ xs ++ k ∷ ks = rest_same a.number x (numbers ns) (xs ++ k ∷ ks) same in
    let f : has n ns ≡ false = grind (arith, nat_tests) in apart ns xs ks k n f e

-- if every number occurs once, the next number isn't among the earlier ones
once_apart : (all : List Name) (old : List Name) (ks : List ℕ) (k : ℕ) → AreOnce all →
    numbers all ≡ numbers old ++ k ∷ ks → has k old ≡ false
once_apart all [] ks k once same = refl
once_apart [] (o ∷ old) ks k once same = let bad : [] ≡ o.number ∷ (numbers old ++ k ∷ ks) = same in cc
once_apart (a ∷ all) (o ∷ old) ks k once same =
    let first : a.number ≡ o.number = first_same a.number o.number (numbers all) (numbers old ++ k ∷ ks) same in
    let rest : numbers all ≡ numbers old ++ k ∷ ks =
    rest_same a.number o.number (numbers all) (numbers old ++ k ∷ ks) same in
    let other : (k == a.number) ≡ false = apart all (numbers old) ks k a.number once.0 rest in
    let none : has k old ≡ false = once_apart all old ks k once.1 rest in
    grind (arith, nat_tests)

once_more : (ns : List Name) (n : Name) → AreOnce ns → has n.number ns ≡ false → AreOnce (ns ++ n ∷ [])
once_more [] n once none = (refl, tt)
once_more (m ∷ ns) n once none =
    let rest : has n.number ns ≡ false = grind (arith, nat_tests) in
    let other : has m.number (ns ++ n ∷ []) ≡ false = grind (arith, nat_tests, list_any-append) in
    (other, once_more ns n once.1 rest)

-- the members already read have these names, and each number occurs once
pub record IsReadTo (rest whole : Members) (ns : List Name) : Type 0 where
  pub forward : (more : List Name) → AreNamed rest more → AreNamed whole (ns ++ more)
  pub backward : (all : List Name) → AreNamed whole all →
      (more : List Name) × (numbers all ≡ numbers ns ++ numbers more) × AreNamed rest more
  pub once : AreOnce ns

pub none_read : (ms : Members) → IsReadTo ms ms []
none_read ms = record { forward = λ more is. is; backward = λ all is. (all, refl, is); once = tt }

same_integer : (m n : ℕ) → integer (pos m) ≡ integer (pos n) → m ≡ n
same_integer m n same = cc

same_number : (key : List ℕ) (d : Data) (m n : Name) → IsNamed key d m → IsNamed key d n → m.number ≡ n.number
same_number key d m n one other = same_integer m.number n.number (sym one.number ∙ other.number)

-- the first member of the rest has a name, and more names follow
record HasFirst (key : List ℕ) (d : Data) (rest : Members) (ns all : List Name) : Type 0 where
  first : Name
  more : List Name
  numbers_are : numbers all ≡ numbers ns ++ first.number ∷ numbers more
  named : IsNamed key d first
  rest_named : AreNamed rest more

first_named : (key : List ℕ) (d : Data) (rest whole : Members) (ns : List Name) → IsReadTo (member key d rest) whole ns →
    (all : List Name) → AreNamed whole all → HasFirst key d rest ns all
first_named key d rest whole ns so_far all are = let back = so_far.backward all are in go back.0 back.1 back.2
  where
    go : (more : List Name) → numbers all ≡ numbers ns ++ numbers more → AreNamed (member key d rest) more → HasFirst key d rest ns all
    go [] same is = absurd is
    go (m ∷ more) same is = record { first = m; more = more; numbers_are = same; named = is.0; rest_named = is.1 }

pub more_read : (key : List ℕ) (d : Data) (rest whole : Members) (old new : List Name) → IsReadTo (member key d rest) whole old →
    Adds key d old new → IsReadTo rest whole new
more_read key d rest whole old new so_far (n, is, named, none) = subst (IsReadTo rest whole) (sym is) (record {
  forward = λ more are. subst (AreNamed whole) (sym (append_assoc old (n ∷ []) more)) (so_far.forward (n ∷ more) (named, are));
  backward = back;
  once = once_more old n so_far.once none;
})
  where
    behind : (more : List Name) → numbers (old ++ n ∷ []) ++ numbers more ≡ numbers old ++ n.number ∷ numbers more
    behind more = ap (λ (l : List ℕ). l ++ numbers more) (map-append (λ (a : Name). a.number) old (n ∷ []))
        ∙ append_assoc (numbers old) (n.number ∷ []) (numbers more)

    back : (all : List Name) → AreNamed whole all → (more : List Name) × (numbers all ≡ numbers (old ++ n ∷ []) ++ numbers more)
        × AreNamed rest more
    back all are =
        let it = first_named key d rest whole old so_far all are in (
          it.more,
          it.numbers_are ∙ ap (λ (k : ℕ). numbers old ++ k ∷ numbers it.more) (same_number key d it.first n it.named named)
              ∙ sym (behind it.more),
          it.rest_named,
        )

pub all_read : (whole : Members) (ns : List Name) → IsReadTo no_members whole ns → AreNamesOf whole ns
all_read whole ns so_far = (subst (AreNamed whole) (append-nil ns) (so_far.forward [] tt), so_far.once)

-- if a member can't be added, the table isn't a list of names
pub not_read : (key : List ℕ) (d : Data) (rest whole : Members) (old : List Name) (why : NamesFault) →
    IsReadTo (member key d rest) whole old → CannotAdd key d old why → IsRefused whole why
not_read key d rest whole old fault.NoMemory so_far cannot = tt
not_read key d rest whole old (fault.NotName word) so_far cannot = λ ns are.
    (let it = first_named key d rest whole old so_far ns are.0 in true≢false (sym it.named.is_one ∙ cannot))
not_read key d rest whole old (fault.NotNumber word) so_far cannot = λ ns are.
    (let it = first_named key d rest whole old so_far ns are.0 in cannot it.first.number it.named.small it.named.number)
not_read key d rest whole old (fault.Twice word) so_far (n, is_n, twice) = λ ns are.
    (let it = first_named key d rest whole old so_far ns are.0 in
    let same : it.first.number ≡ n = same_integer it.first.number n (sym it.named.number ∙ is_n) in
    let none : has it.first.number old ≡ false = once_apart ns old (numbers it.more) it.first.number are.1 it.numbers_are in
    true≢false (sym twice ∙ (sym (ap (λ (j : ℕ). has j old) same) ∙ none)))

-- ---- the same for the iterator over a table

pub read_more : (before rest : List (String Global × Value)) (key : String Global) (value : Value) (whole : Members) (old new : List Name) →
    before ≡ (key, value) ∷ rest → IsReadTo (members_view before) whole old → Adds (string_bytes key) (view value) old new →
    IsReadTo (members_view rest) whole new
read_more before rest key value whole old new is so_far adds =
    more_read (string_bytes key) (view value) (members_view rest) whole old new
    (subst (λ (l : List (String Global × Value)). IsReadTo (members_view l) whole old) is so_far) adds

pub read_fails : (before rest : List (String Global × Value)) (key : String Global) (value : Value) (whole : Members) (old : List Name)
    (why : NamesFault) → before ≡ (key, value) ∷ rest → IsReadTo (members_view before) whole old →
    CannotAdd (string_bytes key) (view value) old why → IsRefused whole why
read_fails before rest key value whole old why is so_far cannot =
    not_read (string_bytes key) (view value) (members_view rest) whole old why
    (subst (λ (l : List (String Global × Value)). IsReadTo (members_view l) whole old) is so_far) cannot
