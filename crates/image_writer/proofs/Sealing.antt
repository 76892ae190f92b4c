-- A block is sealed: its frames stay.
use Rattle.image_writer.proofs.Names.{ℕ, Bool, List, true, false, length, take, ap, sym, subst, inl, inr, arith, cases_lt, home_place, shape_of, shape_bytes}
use Rattle.image_writer.proofs.Names.{shape_end, place_length, IsPlan, Plan, IsObject, IsFirstOf, front_shape, front_blank, EndsInZeros, EndsBy, IsUnitBy}
use Rattle.image_writer.proofs.Names.{seal_in, Sums, unit_of, unit_part, nat_lt, false≢true, le-ltb, lt-ltb, take-take, take_all, range_with, rank_in}
use Rattle.image_writer.proofs.Names.{node_shape, page_shape, row, Shape, IsCluster, IsSummed, cluster_count, alone, Ends}
use Rattle.std.proofs.Common.{◌≡◌, ◌-◌, ◌*◌, ◌<◌, ◌≤◌, ◌∙◌}
use Rattle.std.specs.Prelude.{if◌then◌else◌}
use Rattle.image_writer.proofs.Firsts.{first_shared, frames_inside, one_first}
use Rattle.image_writer.proofs.OneBlocks.{block_size}

-- ---- the last bytes of a cluster and of a header sector

pub cluster_body : (cluster : List ℕ) → length cluster ≡ 4096 → take 4072 cluster ≡ take (length cluster - 24) cluster
cluster_body cluster size = let n : 4072 ≡ length cluster - 24 = omega (arith, size) in ap (λ (m : ℕ). take m cluster) n

-- ---- which shape frames have

shape_by : (p : Plan) (n : ℕ) (node : Bool) → nat_lt n p.geometry.nodes ≡ node → shape_of p n
    ≡ (if node then node_shape p.version (rank_in p.version (range_with p.ranges n) n) else page_shape p.version)
shape_by p n node is =
    ap (λ (b : Bool). if b then node_shape p.version (rank_in p.version (range_with p.ranges n) n) else page_shape p.version) is

-- only pages of a version with seals have sums
pub sums_page : (p : Plan) (n : ℕ) → (shape_of p n).has_sums ≡ true → (p.geometry.nodes ≤ n) × ((row p.version).sealed ≡ true)
sums_page p n has = elim (cases_lt n p.geometry.nodes) [
  | inl less ↦
      let none : (shape_of p n).has_sums ≡ false =
      ap (λ (s : Shape). s.has_sums) (shape_by p n true (lt-ltb n p.geometry.nodes less)) in
      absurd (false≢true (sym none ∙ has))
  | inr le ↦ (le, sym (ap (λ (s : Shape). s.has_sums) (shape_by p n false (le-ltb n p.geometry.nodes le))) ∙ has)
]

pub no_sums_node : (p : Plan) (n : ℕ) → (row p.version).sealed ≡ true → (shape_of p n).has_sums ≡ false → n < p.geometry.nodes
no_sums_node p n sealed none = elim (cases_lt n p.geometry.nodes) [
  | inl less ↦ less
  | inr le ↦
      let has : (shape_of p n).has_sums ≡ true =
      ap (λ (s : Shape). s.has_sums) (shape_by p n false (le-ltb n p.geometry.nodes le)) ∙ sealed in
      absurd (false≢true (sym none ∙ has))
]

-- ---- without seals

pub plain_ends : (p : Plan) (n : ℕ) (block : List ℕ) → (row p.version).sealed ≡ false → 512 * place_length p n ≤ length block →
    EndsInZeros p n block → EndsBy (row p.version).sealed p n (take (512 * place_length p n) block)
plain_ends p n block plain le ends =
    subst (λ (b : Bool). EndsBy b p n (take (512 * place_length p n) block)) (sym plain)
    (λ end behind. front_blank end (512 * place_length p n) block le (ends end behind))

-- ---- a page's block

module _ (p : Plan) (n : ℕ) (old new : List ℕ) (fits : IsPlan p) (is : IsObject p.geometry n) (has : (shape_of p n).has_sums ≡ true)
    (long : length new ≡ 4608) where
  page : p.geometry.nodes ≤ n
  page = (sums_page p n has).0

  shape : shape_of p n ≡ page_shape p.version
  shape = shape_by p n false (le-ltb n p.geometry.nodes page)

  -- no other object shares a page's home
  none_beside : (a : ℕ) → IsObject p.geometry a → home_place p a ≡ home_place p n → a ≡ n
  none_beside a is_a same = alone fits is_a is same (ap (λ (s : Shape). s.bytes) shape ∙ ap (λ (s : Shape). 512 * s.sectors) (sym shape))

  pub page_frames : shape_bytes (shape_of p n) new ≡ shape_bytes (shape_of p n) old → (a : ℕ) → IsObject p.geometry a →
      home_place p a ≡ home_place p n → shape_bytes (shape_of p a) new ≡ shape_bytes (shape_of p a) old
  page_frames stays a is_a same =
      subst (λ (m : ℕ). shape_bytes (shape_of p m) new ≡ shape_bytes (shape_of p m) old) (sym (none_beside a is_a same)) stays

  whole : take (512 * place_length p n) new ≡ new
  whole =
      let nine = ap (λ (s : Shape). s.sectors) shape in
      take_all (512 * place_length p n) new (omega (arith, long, nine))

  pub page_ends : IsSummed new → Ends p n (take (512 * place_length p n) new)
  page_ends summed =
      subst (λ (b : Bool). EndsBy b p n (take (512 * place_length p n) new)) (sym (sums_page p n has).1)
      (λ first start.
      let same = none_beside first (omega (arith, is, start.below)) start.home in
      subst (λ (m : ℕ). IsUnitBy (nat_lt m p.geometry.nodes) p m (take (512 * place_length p n) new)) (sym same)
      (subst (λ (b : Bool). IsUnitBy b p n (take (512 * place_length p n) new)) (sym (le-ltb n p.geometry.nodes page))
      (subst IsSummed (sym whole) summed)))

  pub page_seal : {seal : Sums} → seal ≡ seal_in (take 512 new) → seal ≡ seal_in (unit_of p n (take (512 * place_length p n) new))
  page_seal {seal} made =
      made ∙ ap (λ (b : List ℕ). seal_in (take 512 b)) (sym whole)
      ∙ ap (λ (b : Bool). seal_in (unit_part b (take (512 * place_length p n) new))) (sym (le-ltb n p.geometry.nodes page))

-- ---- a cluster

module _ (p : Plan) (n first nodes : ℕ) (old new cluster : List ℕ) (fits : IsPlan p) (is : IsObject p.geometry n)
    (sealed : (row p.version).sealed ≡ true) (node : n < p.geometry.nodes) (start : IsFirstOf p n first)
    (count : nodes ≡ cluster_count p.version (range_with p.ranges first) first) (few : nodes ≤ 5)
    (front : take 4096 new ≡ cluster) (stays : take (800 * nodes) cluster ≡ take (800 * nodes) (take 4096 old)) where
  first_node : first < p.geometry.nodes
  first_node = omega (arith, node, start.below)

  nodes_stay : take (800 * nodes) new ≡ take (800 * nodes) old
  nodes_stay =
      sym (take-take (800 * nodes) 4096 new (omega (arith, few))) ∙ ap (take (800 * nodes)) front ∙ stays
      ∙ take-take (800 * nodes) 4096 old (omega (arith, few))

  pub cluster_frames : (a : ℕ) → IsObject p.geometry a → home_place p a ≡ home_place p n →
      shape_bytes (shape_of p a) new ≡ shape_bytes (shape_of p a) old
  cluster_frames a is_a same =
      let inside = frames_inside p a first fits is_a (omega (arith, is, start.below)) sealed first_node (first_shared p is_a same start) in
      let le : shape_end (shape_of p a) ≤ 800 * nodes = omega (arith, inside, count) in
      sym (front_shape (shape_of p a) (800 * nodes) new le) ∙ ap (shape_bytes (shape_of p a)) nodes_stay
      ∙ front_shape (shape_of p a) (800 * nodes) old le

  eight : place_length p n ≡ 8
  eight = block_size p n true sealed (lt-ltb n p.geometry.nodes node)

  there : take (512 * place_length p n) new ≡ cluster
  there = let all : 512 * place_length p n ≡ 4096 = omega (arith, eight) in ap (λ (k : ℕ). take k new) all ∙ front

  pub cluster_ends : IsCluster nodes cluster → Ends p n (take (512 * place_length p n) new)
  cluster_ends unit =
      subst (λ (b : Bool). EndsBy b p n (take (512 * place_length p n) new)) (sym sealed)
      (λ other start'.
      let same = one_first p n first other (omega (arith, is, start.below)) (omega (arith, is, start'.below)) start start' in
      subst (λ (m : ℕ). IsUnitBy (nat_lt m p.geometry.nodes) p m (take (512 * place_length p n) new)) same
      (subst (λ (b : Bool). IsUnitBy b p first (take (512 * place_length p n) new)) (sym (lt-ltb first p.geometry.nodes first_node))
      (subst (λ (k : ℕ). IsCluster k (take (512 * place_length p n) new)) count (subst (IsCluster nodes) (sym there) unit))))

  pub cluster_seal : {seal : Sums} → seal ≡ seal_in cluster → seal ≡ seal_in (unit_of p n (take (512 * place_length p n) new))
  cluster_seal {seal} made =
      made ∙ ap seal_in (sym there)
      ∙ ap (λ (b : Bool). seal_in (unit_part b (take (512 * place_length p n) new))) (sym (lt-ltb n p.geometry.nodes node))
