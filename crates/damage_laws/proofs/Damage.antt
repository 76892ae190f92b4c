-- What a damaged image encodes.
use Rattle.damage_laws.proofs.Names.{ℕ, Bool, true, List, ap, subst, sym, inl, inr, arith, cases_lt, Image, IsWhole, frame_at, CommitsIf, AreEntriesIf, Encodes}
use Rattle.damage_laws.proofs.Names.{HasDirectory, HasHeader, HasPlan, SavedState, IsFrameOf, place_length, range_with, directory_sector, frame_sector}
use Rattle.damage_laws.proofs.Names.{sectors_from, count_of, Plan, directory_length, row, Entry, CheckpointHeader, SealedHeader, IsCluster, AreEntries}
use Rattle.damage_laws.proofs.Names.{entries_bytes, entry_numbers, piece, header_sector, IsSummed, HasUnits, block_in, cluster_count, one_state, one_commits}
use Rattle.damage_laws.proofs.Names.{sectors_show, one_plan, IsReady, SameBlocks, SameFrom, sealed_length, encoded, same_directory, same_frames, same_units}
use Rattle.damage_laws.proofs.Names.{DifferInBurst, IsRow, Sums, IsDamaged, IsGood, IsRead, DamageChangesNothing, DamageElsewhereIsHarmless, refl}
use Rattle.layout.specs.Committed.{Commits}
use Rattle.std.proofs.Common.{◌≡◌, ◌+◌, ◌%◌, ◌<◌, ◌≤◌, ◌∙◌}
use Rattle.layout.specs.sealed.Opening.{Commits as CommitsSealed}
use Rattle.layout.proofs.Images.{same_directory as one_directory}
use Rattle.damage_laws.proofs.Headers.{before_same, stays, this_same}
use Rattle.damage_laws.proofs.Places.{first_of, node_length, page_length}
use Rattle.damage_laws.proofs.Rows.{same_at}
use Rattle.damage_laws.proofs.Superblocks.{superblock_shows}
use Rattle.damage_laws.proofs.Units.{same_cluster, same_page}

-- ---- the parts of a state

-- the same sectors of the directory of a header
abbrev pub SameEntries : Plan → Image → Image → CheckpointHeader → Type 0
SameEntries p old new g = SameFrom (directory_sector p g.generation) (directory_length p.version g.entries) old new

-- two images have the same superblock, directory and blocks
pub record IsSame (s : SavedState) (old new : Image) : Type 0 where
  pub superblock : new 0 ≡ old 0
  pub directory : SameEntries s.plan old new s.header
  pub blocks : SameBlocks s.plan s.header.generation s.directory old new

pub plan_too : (old new : Image) (size : ℕ) (p : Plan) → new 0 ≡ old 0 → HasPlan old size p → HasPlan new size p
plan_too old new size p same was = record {
  least = was.least;
  whole = was.whole;
  fits = was.fits;
  spelt = same ∙ was.spelt;
}

pub commits_sealed : (image : Image) (p : Plan) (h : SealedHeader) → (row p.version).sealed ≡ true → Commits p.version image h →
    CommitsSealed image h
commits_sealed image p h sealed is = subst (λ (b : Bool). CommitsIf b image h) sealed is

-- an image with the same parts and the same committed header encodes the same state
encodes_too : (old new : Image) (size : ℕ) (s : SavedState) → (row s.plan.version).sealed ≡ true → (was : Encodes old size s) →
    IsSame s old new → CommitsSealed new was.commit → Encodes new size s
encodes_too old new size s sealed was same commits =
    let ready : IsReady new size s was.commit = record {
      same = was.same;
      plan = plan_too old new size s.plan same.superblock was.plan;
      header = was.header.fits;
      directory = same_directory old new s.plan was.commit s.directory
          (subst (SameEntries s.plan old new) (sym was.same) same.directory) was.directory;
      count = was.count;
      each = λ object lt. subst (λ (bytes : List ℕ). IsFrameOf s.plan.geometry s.header.age object bytes (frame_at s.frames object))
          (sym (same_frames old new s.plan s.header s.directory object (same.blocks object lt))) (was.each object lt);
      units = λ is. same_units old new s.plan was.commit.root s.header.generation s.directory same.blocks (was.units is);
    } in
    encoded ready (subst (λ (b : Bool). CommitsIf b new was.commit) (sym sealed) commits)

entries_show : (bit : ℕ) (x y : List ℕ) (ds es : List Entry) → x ≡ entries_bytes ds → y ≡ entries_bytes es → IsRow x → IsRow y →
    DifferInBurst bit x y → x ≡ y
unfolding entries_bytes
entries_show bit x y ds es is_x is_y rx ry burst = sectors_show bit x y (entry_numbers ds) (entry_numbers es) rx ry burst is_x is_y

-- ---- damage to a good image

module _ (bit size : ℕ) (old new : Image) (s : SavedState) (good : IsGood old size s) (device : IsWhole size new)
    (damaged : IsDamaged bit old new) where
  abbrev p : Plan
  p = s.plan

  abbrev was : Encodes old size s
  was = good.encodes

  abbrev h : SealedHeader
  h = was.commit

  pub committed : CommitsSealed old h
  committed = commits_sealed old p h good.sealed was.header.committed

  -- the header stays committed, or there is none
  header_stays : (g : SealedHeader) → CommitsSealed new g → CommitsSealed new h
  header_stays g is =
      stays bit size old new good.device device damaged h committed
      (this_same bit size old new good.device device damaged h committed g is)
      (before_same bit size old new good.device device damaged h committed g is)

  superblock_same : (q : Plan) → HasPlan new size q → new 0 ≡ old 0
  superblock_same q is =
      same_at bit size old new good.device device damaged 0 (λ b row_old row_new burst.
      let least = was.plan.least in
      superblock_shows b (old 0) (new 0) p q row_old row_new (good.device.size 0 (omega (arith, least))) burst was.plan.fits is.fits
      good.sealed was.plan.spelt is.spelt)

  -- the entries of both images are spelt in the same sectors
  pub directory_same : (ds : List Entry) → HasDirectory new p h ds → SameEntries p old new h.header
  directory_same ds is j lt =
      let at : ℕ = directory_sector p h.header.generation in
      let length_is = sealed_length p.version h.header.entries good.sealed in
      let first : AreEntries old at s.directory =
      subst (λ (b : Bool). AreEntriesIf b old p h.header.generation s.directory) good.sealed was.directory.spelt in
      let second : AreEntries new at ds = subst (λ (b : Bool). AreEntriesIf b new p h.header.generation ds) good.sealed is.spelt in
      same_at bit size old new good.device device damaged (at + j)
      (λ b. entries_show b (old (at + j)) (new (at + j)) (piece s.directory j) (piece ds j)
      (first j (omega (arith, lt, length_is, was.directory.count)))
      (second j (omega (arith, lt, length_is, is.count))))

  module _ (root : Sums) (units : HasUnits new p root s.header.generation s.directory) where
    abbrev at : ℕ → ℕ
    at object = frame_sector p s.header.generation s.directory object

    units_old : HasUnits old p h.root s.header.generation s.directory
    units_old = was.units good.sealed

    cluster_there : (image : Image) (least count : ℕ) → least < p.geometry.nodes →
        IsCluster count (block_in image p s.header.generation s.directory least) → IsCluster count (sectors_from image (at least) 8)
    cluster_there image least count lt is =
        subst (λ (n : ℕ). IsCluster count (sectors_from image (at least) n)) (node_length p good.sealed least lt) is

    node_same : (object : ℕ) → object < p.geometry.nodes → SameFrom (at object) (place_length p object) old new
    node_same object lt k small =
        let first = first_of p good.sealed s.header.generation s.directory object lt was.plan.fits in
        let least : ℕ = first.0 in
        let count : ℕ = cluster_count p.version (range_with p.ranges least) least in
        let long = node_length p good.sealed object lt in
        subst (λ (i : ℕ). new (i + k) ≡ old (i + k)) first.1.there (
        same_cluster bit size old new good.device device damaged (at least) count count k
        (cluster_there old least count first.1.node (units_old.clusters least first.1.node first.1.begins))
        (cluster_there new least count first.1.node (units.clusters least first.1.node first.1.begins))
        (omega (arith, small, long)))

    page_there : (image : Image) (object : ℕ) → p.geometry.nodes ≤ object →
        IsSummed (block_in image p s.header.generation s.directory object) → IsSummed (sectors_from image (at object) 9)
    page_there image object le is =
        subst (λ (n : ℕ). IsSummed (sectors_from image (at object) n)) (page_length p good.sealed object le) is

    page_same : (object : ℕ) → p.geometry.nodes ≤ object → object < count_of p → SameFrom (at object) (place_length p object) old new
    page_same object le lt k small =
        let long = page_length p good.sealed object le in
        same_page bit size old new good.device device damaged (at object) k
        (page_there old object le (units_old.pages object le lt))
        (page_there new object le (units.pages object le lt))
        (omega (arith, small, long))

    pub blocks_same : SameBlocks p s.header.generation s.directory old new
    blocks_same object lt =
        elim (cases_lt object p.geometry.nodes) [
          | inl node ↦ node_same object node
          | inr page ↦ page_same object page lt
        ]

  -- ---- if the damaged image encodes a state

  -- a state with the plan of s
  pub record HasParts (g : SealedHeader) (ds : List Entry) : Type 0 where
    pub header : HasHeader new p g
    pub directory : HasDirectory new p g ds
    pub units : HasUnits new p g.root g.header.generation ds

  pub record IsKept (g : SealedHeader) : Type 0 where
    pub header : g ≡ h
    pub same : IsSame s old new
    pub commits : CommitsSealed new h

  kept_by : (ds : List Entry) → new 0 ≡ old 0 → HasDirectory new p h ds → HasUnits new p h.root h.header.generation ds →
      IsSame s old new
  kept_by ds superblock directory units =
      let sectors = directory_same ds directory in
      let entries : ds ≡ s.directory =
      one_directory new p h ds s.directory directory (same_directory old new p h s.directory sectors was.directory) in
      let units' : HasUnits new p h.root s.header.generation s.directory =
      subst (λ (g : CheckpointHeader). HasUnits new p h.root g.generation s.directory) was.same
      (subst (λ (es : List Entry). HasUnits new p h.root h.header.generation es) entries units) in
      record {
        superblock = superblock;
        directory = subst (SameEntries p old new) was.same sectors;
        blocks = blocks_same h.root units';
      }

  kept : (g : SealedHeader) (ds : List Entry) → new 0 ≡ old 0 → HasParts g ds → IsKept g
  kept g ds superblock parts =
      let is : CommitsSealed new g = commits_sealed new p g good.sealed parts.header.committed in
      let commits = header_stays g is in
      let same : g ≡ h = one_commits new g h is commits in
      record {
        header = same;
        same = kept_by ds superblock (subst (λ (it : SealedHeader). HasDirectory new p it ds) same parts.directory)
            (subst (λ (it : SealedHeader). HasUnits new p it.root it.header.generation ds) same parts.units);
        commits = commits;
      }

  parts_by : (q : Plan) (t : SavedState) (after : Encodes new size t) → t.plan ≡ p → HasParts after.commit t.directory
  parts_by q t after same =
      let sealed : (row t.plan.version).sealed ≡ true = ap (λ (it : Plan). (row it.version).sealed) same ∙ good.sealed in
      record {
        header = subst (λ (it : Plan). HasHeader new it after.commit) same after.header;
        directory = subst (λ (it : Plan). HasDirectory new it after.commit t.directory) same after.directory;
        units = subst (λ (it : Plan). HasUnits new it after.commit.root after.commit.header.generation t.directory) same
            (subst (λ (g : CheckpointHeader). HasUnits new t.plan after.commit.root g.generation t.directory) (sym after.same)
            (after.units sealed));
      }

  pub kept_of : (t : SavedState) (after : Encodes new size t) → IsKept after.commit
  kept_of t after =
      let superblock = superblock_same t.plan after.plan in
      let same : t.plan ≡ p =
      one_plan t.plan p after.plan.fits was.plan.fits (sym after.plan.spelt ∙ superblock ∙ was.plan.spelt) in
      kept after.commit t.directory superblock (parts_by p t after same)

  -- ---- the laws

  pub state_same : (t : SavedState) (after : Encodes new size t) → (t ≡ s) × (after.commit ≡ h)
  state_same t after =
      let it = kept_of t after in
      (one_state new size t s after (encodes_too old new size s good.sealed was it.same it.commits), it.header)

  pub harmless : ((i : ℕ) → IsRead s i → new i ≡ old i) → Encodes new size s
  harmless same =
      let at : ℕ → ℕ = λ n. header_sector (n % 3) in
      let sequence : s.header.sequence ≡ h.header.sequence = ap (λ (g : CheckpointHeader). g.sequence) (sym was.same) in
      encodes_too old new size s good.sealed was
      (record {
        superblock = same 0 (inl refl);
        directory = λ j lt. same (directory_sector p s.header.generation + j) (inr (inr (inl (j, lt, refl))));
        blocks = λ object lt k small. same (frame_sector p s.header.generation s.directory object + k)
            (inr (inr (inr (object, lt, (k, small, refl)))));
      })
      (stays bit size old new good.device device damaged h committed
      (same (at h.header.sequence) (inr (inl (inl (ap at (sym sequence))))))
      (same (at (h.header.sequence + 2)) (inr (inl (inr (ap (λ (n : ℕ). at (n + 2)) (sym sequence)))))))

pub changes_nothing : DamageChangesNothing
changes_nothing bit size old new s t good device damaged after = state_same bit size old new s good device damaged t after

pub is_harmless : DamageElsewhereIsHarmless
is_harmless bit size old new s good device damaged same = harmless bit size old new s good device damaged same
