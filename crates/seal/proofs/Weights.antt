-- The sums of numbers, as one number after another is added.
use Rattle.seal.proofs.Names.{ℕ, suc, List, [], length, ap, sym, arith, append_assoc, append-nil, length_push, add-mul, mul_comm, weighted, Sums}
use Rattle.std.proofs.Common.{◌≡◌, ◌+◌, ◌*◌, ◌/◌, ◌∷◌, ◌++◌, ◌∙◌}

-- the weights of a, b and c by place
abbrev pub one : ℕ → ℕ
one k = 1

abbrev pub place : ℕ → ℕ
place k = k

abbrev pub triangle : ℕ → ℕ
triangle k = k * (k + 1) / 2

-- the sums of numbers
abbrev pub sums : List ℕ → Sums
sums hs = record { a = weighted one hs; b = weighted place hs; c = weighted triangle hs }

product_more : (k : ℕ) → (k + 1) * (k + 1 + 1) ≡ k * (k + 1) + (k + 1) * 2
product_more k =
    let turned : (k + 1) * (k + 1 + 1) ≡ (k + (1 + 1)) * (k + 1) = mul_comm (k + 1) (k + 1 + 1)
    ∙ ap (λ (n : ℕ). n * (k + 1)) (omega arith) in
    let split : (k + (1 + 1)) * (k + 1) ≡ k * (k + 1) + (1 + 1) * (k + 1) = add-mul k (1 + 1) (k + 1) in
    omega (arith, turned, split)

pub triangle_more : (k : ℕ) → triangle (k + 1) ≡ triangle k + (k + 1)
triangle_more k = omega (arith, product_more k)

pub a_push : (h : ℕ) (hs : List ℕ) → weighted one (hs ++ h ∷ []) ≡ weighted one hs + h
a_push h [] = omega arith
a_push h (x ∷ hs) = omega (arith, a_push h hs)

-- if h is added at the end, the place of each other number rises by one, so b grows by a + h
pub b_push : (h : ℕ) (hs : List ℕ) → weighted place (hs ++ h ∷ []) ≡ weighted place hs + (weighted one hs + h)
b_push h [] = omega arith
b_push h (x ∷ hs) =
    let n : ℕ = suc (length hs) in
    let longer : suc (length (hs ++ h ∷ [])) ≡ n + 1 = omega (arith, length_push hs h) in
    let moved : suc (length (hs ++ h ∷ [])) * x ≡ n * x + 1 * x = ap (λ (k : ℕ). k * x) longer ∙ add-mul n 1 x in
    omega (arith, moved, b_push h hs)

pub c_push : (h : ℕ) (hs : List ℕ) → weighted triangle (hs ++ h ∷ []) ≡ weighted triangle hs + (weighted place hs + (weighted one hs + h))
c_push h [] = omega arith
c_push h (x ∷ hs) =
    let n : ℕ = suc (length hs) in
    let longer : suc (length (hs ++ h ∷ [])) ≡ n + 1 = omega (arith, length_push hs h) in
    let moved : triangle (suc (length (hs ++ h ∷ []))) * x ≡ triangle n * x + (n + 1) * x =
    ap (λ (k : ℕ). triangle k * x) longer ∙ ap (λ (w : ℕ). w * x) (triangle_more n) ∙ add-mul (triangle n) (n + 1) x in
    omega (arith, moved, add-mul n 1 x, c_push h hs)

-- ---- the sums after one more number

abbrev pub step : Sums → ℕ → Sums
step s h = record { a = s.a + h; b = s.b + (s.a + h); c = s.c + (s.b + (s.a + h)) }

abbrev pub run : Sums → List ℕ → Sums
run s [] = s
run s (h ∷ hs) = run (step s h) hs

pub same_sums : (s t : Sums) → s.a ≡ t.a → s.b ≡ t.b → s.c ≡ t.c → s ≡ t
same_sums s t a b c =
    let by_a : ℕ → Sums = λ n. record { a = n; b = s.b; c = s.c } in
    let by_b : ℕ → Sums = λ n. record { a = t.a; b = n; c = s.c } in
    let by_c : ℕ → Sums = λ n. record { a = t.a; b = t.b; c = n } in
    ap by_a a ∙ ap by_b b ∙ ap by_c c

pub sums_push : (front : List ℕ) (h : ℕ) → step (sums front) h ≡ sums (front ++ h ∷ [])
sums_push front h =
    same_sums (step (sums front) h) (sums (front ++ h ∷ [])) (omega (arith, a_push h front)) (omega (arith, b_push h front))
    (omega (arith, c_push h front))

run_behind : (front hs : List ℕ) → run (sums front) hs ≡ sums (front ++ hs)
run_behind front [] = ap sums (sym (append-nil front))
run_behind front (h ∷ hs) =
    ap (λ (s : Sums). run s hs) (sums_push front h) ∙ run_behind (front ++ h ∷ []) hs ∙ ap sums (append_assoc front (h ∷ []) hs)

pub run_is : (hs : List ℕ) → run (sums []) hs ≡ sums hs
run_is hs = run_behind [] hs
