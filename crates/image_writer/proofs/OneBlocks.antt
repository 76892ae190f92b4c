-- A sealed block is known by its frames.
use Rattle.image_writer.proofs.Names.{nat_tests, ℕ, Bool, Option, List, Frame, true, false, length, take, drop, ap, sym, subst, refl, inl, inr, arith, cases_lt}
use Rattle.image_writer.proofs.Names.{shape_of, shape_bytes, place_length, IsPlan, Plan, IsObject, IsFirstOf, frame_at, frame_bytes, zero, suc, nat_lt, between}
use Rattle.image_writer.proofs.Names.{le-ltb, lt-ltb, drop-take, take-append-drop, take-take, take_at, body_of, bodies_decide, zeros, node_frame_bytes}
use Rattle.image_writer.proofs.Names.{page_frame_bytes, range_with, rank_in, blanked, node_shape, page_shape, row, HomeRange, Shape, Version, One, Two, Three}
use Rattle.image_writer.proofs.Names.{IsCluster, page_header_bytes, IsSummed, cluster_count, blanked_words, unblanked, length-piece, page_whole, summed_header}
use Rattle.image_writer.proofs.Names.{sums_of, AreFramesOf, IsUnitBy}
use Rattle.std.proofs.Common.{◌≡◌, ◌+◌, ◌-◌, ◌*◌, ◌<◌, ◌≤◌, ◌++◌, ◌∙◌}
use Rattle.std.specs.Prelude.{if◌then◌else◌}
use Rattle.image_writer.proofs.Firsts.{member}

-- ---- lists

take_sum : (a b : ℕ) (xs : List ℕ) → take (a + b) xs ≡ take a xs ++ take b (drop a xs)
take_sum a b xs =
    sym (take-append-drop a (take (a + b) xs)) ∙ ap (λ (t : List ℕ). t ++ drop a (take (a + b) xs)) (take-take a (a + b) xs (omega arith))
    ∙ ap (λ (t : List ℕ). take a xs ++ t) (drop-take a b xs)

same_front : (size m : ℕ) (xs ys : List ℕ) → ((k : ℕ) → k < m → take size (drop (size * k) xs) ≡ take size (drop (size * k) ys)) →
    take (size * m) xs ≡ take (size * m) ys
same_front size zero xs ys same = let none : size * zero ≡ 0 = omega arith in rw none refl
same_front size (suc m) xs ys same =
    let sum : size * suc m ≡ size * m + size = omega arith in
    ap (λ (n : ℕ). take n xs) sum ∙ take_sum (size * m) size xs
    ∙ ap (λ (t : List ℕ). t ++ take size (drop (size * m) xs)) (same_front size m xs ys (λ k lt. same k (omega (arith, lt))))
    ∙ ap (λ (t : List ℕ). take (size * m) ys ++ t) (same m (omega arith)) ∙ sym (take_sum (size * m) size ys)
    ∙ ap (λ (n : ℕ). take n ys) (sym sum)

-- ---- clusters

body_is : (xs : List ℕ) → length xs ≡ 4096 → body_of xs ≡ take 4072 xs
body_is xs size = let n : length xs - 24 ≡ 4072 = omega (arith, size) in ap (λ (k : ℕ). take k xs) n

-- clusters of the same frames are equal
one_cluster : (m : ℕ) (xs ys : List ℕ) → m ≤ 5 → length xs ≡ 4096 → length ys ≡ 4096 → take (800 * m) xs ≡ take (800 * m) ys →
    IsCluster m xs → IsCluster m ys → xs ≡ ys
one_cluster m xs ys few size size' front x y =
    let sum : 800 * m + (4072 - 800 * m) ≡ 4072 = omega (arith, few) in
    let part : (zs : List ℕ) → take 4072 zs ≡ take (800 * m) zs ++ take (4072 - 800 * m) (drop (800 * m) zs) =
    λ zs. ap (λ (n : ℕ). take n zs) (sym sum) ∙ take_sum (800 * m) (4072 - 800 * m) zs in
    bodies_decide xs ys x.seal y.seal
    (body_is xs size ∙ part xs ∙ ap (λ (t : List ℕ). t ++ take (4072 - 800 * m) (drop (800 * m) xs)) front
    ∙ ap (λ (t : List ℕ). take (800 * m) ys ++ t) (x.blank ∙ sym y.blank) ∙ sym (part ys) ∙ sym (body_is ys size'))

-- the bytes of a node's frame in a cluster
node_bytes : (v : Version) (k : ℕ) (xs : List ℕ) → (row v).sealed ≡ true → 800 * k + 800 ≤ length xs →
    take 800 (shape_bytes (node_shape v k) xs) ≡ take 800 (drop (800 * k) xs)
node_bytes One k xs is inside = absurd (cc is)
node_bytes Two k xs is inside = absurd (cc is)
node_bytes Three k xs is inside =
    let piece : between (800 * k) (800 * k + 800) xs ≡ take 800 (drop (800 * k) xs) =
    (let size : 800 * k + 800 - 800 * k ≡ 800 = omega arith in ap (λ (n : ℕ). take n (drop (800 * k) xs)) size) in
    let long = length-piece (800 * k) 800 xs inside in
    ap (λ (t : List ℕ). take 800 (t ++ zeros 224)) (unblanked (between (800 * k) (800 * k + 800) xs))
    ∙ take_at (between (800 * k) (800 * k + 800) xs) (zeros 224) 800 long ∙ piece

-- ---- pages

page_same : (v : Version) (f : Frame) (xs ys : List ℕ) → (row v).sealed ≡ true → length xs ≡ 4608 → length ys ≡ 4608 →
    shape_bytes (page_shape v) xs ≡ page_frame_bytes f → shape_bytes (page_shape v) ys ≡ page_frame_bytes f → IsSummed xs → IsSummed ys →
    xs ≡ ys
page_same v f xs ys sealed size size' one other x y =
    let at : (zs : List ℕ) → length zs ≡ 4608 → shape_bytes (page_shape v) zs ≡ page_frame_bytes f → blanked true zs ≡ page_frame_bytes f =
    λ zs long is. ap (λ (b : Bool). blanked b zs) (sym sealed) ∙ sym (page_whole (page_shape v) zs (refl, refl, refl) long) ∙ is in
    let words : drop 512 xs ≡ drop 512 ys =
    sym (blanked_words true xs (omega (arith, size))) ∙ ap (drop 512) (at xs size one ∙ sym (at ys size' other))
    ∙ blanked_words true ys (omega (arith, size')) in
    let first : take 512 xs ≡ take 512 ys =
    summed_header xs f x (omega (arith, size)) (at xs size one)
    ∙ ap (λ (t : List ℕ). page_header_bytes (record { object = f.header; words = sums_of t })) words
    ∙ sym (summed_header ys f y (omega (arith, size')) (at ys size' other)) in
    sym (take-append-drop 512 xs) ∙ ap (λ (t : List ℕ). t ++ drop 512 xs) first ∙ ap (λ (t : List ℕ). take 512 ys ++ t) words
    ∙ take-append-drop 512 ys

-- ---- units

cluster_size : (v : Version) (node : Bool) (rank : ℕ) → (row v).sealed ≡ true →
    (if node then node_shape v rank else page_shape v).sectors ≡ (if node then 8 else 9)
cluster_size One node rank is = absurd (cc is)
cluster_size Two node rank is = absurd (cc is)
cluster_size Three true rank is = refl
cluster_size Three false rank is = refl

few_nodes : (v : Version) (o : Option HomeRange) (n : ℕ) → cluster_count v o n ≤ 5
few_nodes v o n = grind (arith, nat_tests)

pub block_size : (p : Plan) (n : ℕ) (node : Bool) → (row p.version).sealed ≡ true → nat_lt n p.geometry.nodes ≡ node →
    place_length p n ≡ (if node then 8 else 9)
block_size p n node sealed is =
    ap (λ (b : Bool). (if b then node_shape p.version (rank_in p.version (range_with p.ranges n) n) else page_shape p.version).sectors) is
    ∙ cluster_size p.version node (rank_in p.version (range_with p.ranges n) n) sealed

module _ (p : Plan) (first : ℕ) (frames : List Frame) (xs ys : List ℕ) (fits : IsPlan p) (is : IsObject p.geometry first)
    (sealed : (row p.version).sealed ≡ true) (start : IsFirstOf p first first) (size : length xs ≡ 512 * place_length p first)
    (size' : length ys ≡ 512 * place_length p first) (one : AreFramesOf p frames first xs) (other : AreFramesOf p frames first ys) where
  -- units of the same frames are equal
  pub one_block : IsUnitBy (nat_lt first p.geometry.nodes) p first xs → IsUnitBy (nat_lt first p.geometry.nodes) p first ys → xs ≡ ys
  one_block unit unit' = elim (cases_lt first p.geometry.nodes) [
    | inl less ↦
        let m : ℕ = cluster_count p.version (range_with p.ranges first) first in
        let few = few_nodes p.version (range_with p.ranges first) first in
        let node = lt-ltb first p.geometry.nodes less in
        let eight = block_size p first true sealed node in
        let long : length xs ≡ 4096 = omega (arith, size, eight) in
        let long' : length ys ≡ 4096 = omega (arith, size', eight) in
        let x : IsCluster m xs = subst (λ (b : Bool). IsUnitBy b p first xs) node unit in
        let y : IsCluster m ys = subst (λ (b : Bool). IsUnitBy b p first ys) node unit' in
        one_cluster m xs ys few long long'
        (same_front 800 m xs ys (λ k lt.
        let mem = member p first k fits is less start lt in
        sym (node_bytes p.version k xs sealed (omega (arith, lt, few, long)))
        ∙ ap (take 800) (ap (λ (s : Shape). shape_bytes s xs) (sym mem.shape) ∙ one (first + k) mem.object mem.home
        ∙ sym (other (first + k) mem.object mem.home) ∙ ap (λ (s : Shape). shape_bytes s ys) mem.shape)
        ∙ node_bytes p.version k ys sealed (omega (arith, lt, few, long'))))
        x y
    | inr le ↦
        let page = le-ltb first p.geometry.nodes le in
        let nine = block_size p first false sealed page in
        let shape : shape_of p first ≡ page_shape p.version =
        ap (λ (b : Bool). if b then node_shape p.version (rank_in p.version (range_with p.ranges first) first) else page_shape p.version)
        page in
        let f : Frame = frame_at frames first in
        let frame : frame_bytes p.geometry first f ≡ page_frame_bytes f =
        ap (λ (b : Bool). if b then node_frame_bytes f else page_frame_bytes f) page in
        page_same p.version f xs ys sealed (omega (arith, size, nine)) (omega (arith, size', nine))
        (ap (λ (s : Shape). shape_bytes s xs) (sym shape) ∙ one first is refl ∙ frame)
        (ap (λ (s : Shape). shape_bytes s ys) (sym shape) ∙ other first is refl ∙ frame)
        (subst (λ (b : Bool). IsUnitBy b p first xs) page unit) (subst (λ (b : Bool). IsUnitBy b p first ys) page unit')
  ]
