-- An image denotes at most one saved state.
use Rattle.layout.proofs.Names.{ℕ, List, length, sym, ap, inl, inr, arith, cases_lt, same_lists, get_or_default, Frame, Geometry, frame_at}
use Rattle.layout.proofs.Names.{blank_frame, Entry, CheckpointHeader, Plan, Image, IsFrameOf, HasPlan, HasHeader, HasDirectory, frame_in}
use Rattle.layout.proofs.Names.{SavedState, Encodes}
use Rattle.std.proofs.Common.{◌≡◌, ◌+◌, ◌<◌, ◌∙◌}
use Rattle.layout.specs.Denoted.{AreEntriesIf}
use Rattle.layout.specs.Directory.{IsDirectory}
use Rattle.layout.specs.Image.{directory_in, directory_sector}
use Rattle.layout.specs.Version.{row}
use Rattle.layout.specs.declared.sealed.header.SealedHeader.{SealedHeader}
use Rattle.std.proofs.Common.{Bool, true, false, subst}
use Rattle.layout.proofs.DirectorySectors.{entries_same}
use Rattle.layout.proofs.OneHeader.{one_committed}
use Rattle.layout.proofs.Directories.{one_directory, directory_fits}
use Rattle.layout.proofs.Frames.{one_node_frame}
use Rattle.layout.proofs.Pages.{one_page_frame}
use Rattle.layout.proofs.Keepables.{node_of_frame, page_of_frame}
use Rattle.layout.proofs.Superblocks.{one_plan}

pub one_frame : (g : Geometry) (age object : ℕ) (bytes : List ℕ) (e f : Frame) → IsFrameOf g age object bytes e →
    IsFrameOf g age object bytes f → e ≡ f
one_frame g age object bytes e f ie if =
    elim (cases_lt object g.nodes) [
      | inl lt ↦
          let ne = node_of_frame g age object bytes e lt ie in
          let nf = node_of_frame g age object bytes f lt if in
          one_node_frame g age e f ne.0 nf.0 (sym ne.1 ∙ nf.1)
      | inr le ↦
          let pe = page_of_frame g age object bytes e le ie in
          let pf = page_of_frame g age object bytes f le if in
          one_page_frame age e f pe.0 pf.0 (sym pe.1 ∙ pf.1)
    ]

pub same_plan : (image : Image) (size : ℕ) (p q : Plan) → HasPlan image size p → HasPlan image size q → p ≡ q
same_plan image size p q hp hq = one_plan p q hp.fits hq.fits (sym hp.spelt ∙ hq.spelt)

pub same_header : (image : Image) (p : Plan) (g h : SealedHeader) → HasHeader image p g → HasHeader image p h → g ≡ h
same_header image p g h hg hh = one_committed p.version image g h hg.committed hh.committed

entries_if : (b : Bool) (image : Image) (p : Plan) (generation : ℕ) (ds es : List Entry) → length ds ≡ length es → IsDirectory p.geometry ds
    → IsDirectory p.geometry es → AreEntriesIf b image p generation ds → AreEntriesIf b image p generation es → ds ≡ es
entries_if true image p generation ds es len fd fe ad ae =
    entries_same image (directory_sector p generation) ds es len (directory_fits p.geometry ds fd) (directory_fits p.geometry es fe) ad ae
entries_if false image p generation ds es len fd fe ad ae =
    one_directory ds es (directory_fits p.geometry ds fd) (directory_fits p.geometry es fe)
    (sym ad ∙ ap (directory_in image p generation) len ∙ ae)

pub same_directory : (image : Image) (p : Plan) (h : SealedHeader) (ds es : List Entry) → HasDirectory image p h ds →
    HasDirectory image p h es → ds ≡ es
same_directory image p h ds es hd he =
    entries_if (row p.version).sealed image p h.header.generation ds es (hd.count ∙ sym he.count) hd.fits he.fits hd.spelt he.spelt

-- an image has at most one list of frames for a superblock, header and directory
same_frames : (image : Image) (p : Plan) (h : CheckpointHeader) (es : List Entry) (fs gs : List Frame)
    → length fs ≡ p.geometry.nodes + p.geometry.pages → length gs ≡ p.geometry.nodes + p.geometry.pages
    → ((o : ℕ) → o < p.geometry.nodes + p.geometry.pages → IsFrameOf p.geometry h.age o (frame_in image p h.generation es o)
    (frame_at fs o))
    → ((o : ℕ) → o < p.geometry.nodes + p.geometry.pages → IsFrameOf p.geometry h.age o (frame_in image p h.generation es o)
    (frame_at gs o)) → fs ≡ gs
same_frames image p h es fs gs lf lg ef eg = same_lists fs gs (lf ∙ sym lg) (λ o d lt.
    let within : o < p.geometry.nodes + p.geometry.pages = omega arith in
    let in' : o < length gs = omega arith in
    get_or_default fs o d blank_frame lt
    ∙ one_frame p.geometry h.age o (frame_in image p h.generation es o) (frame_at fs o) (frame_at gs o) (ef o within) (eg o within)
    ∙ get_or_default gs o blank_frame d in')

abbrev pub state : Plan → CheckpointHeader → List Entry → List Frame → SavedState
state p h es fs = record { plan = p; header = h; directory = es; frames = fs }

frames_equal : (image : Image) (size : ℕ) (p : Plan) (h : CheckpointHeader) (es : List Entry) (fs gs : List Frame) →
    Encodes image size (state p h es fs) → Encodes image size (state p h es gs) → state p h es fs ≡ state p h es gs
frames_equal image size p h es fs gs s t = ap (state p h es) (same_frames image p h es fs gs s.count t.count s.each t.each)

-- the header of a saved state, if the plan and the committed header of its image are known
pub header_known : (image : Image) (size : ℕ) (p : Plan) (g : SealedHeader) (h : CheckpointHeader) (es : List Entry) (fs : List Frame) →
    HasHeader image p g → Encodes image size (state p h es fs) → h ≡ g.header
header_known image size p g h es fs has is =
    sym is.same ∙ ap (λ (it : SealedHeader). it.header) (same_header image p is.commit g is.header has)

-- its directory
pub directory_known : (image : Image) (size : ℕ) (p : Plan) (g : SealedHeader) (h : CheckpointHeader) (ds es : List Entry)
    (fs : List Frame) →
    HasHeader image p g → HasDirectory image p g ds → Encodes image size (state p h es fs) → es ≡ ds
directory_known image size p g h ds es fs has directory is =
    same_directory image p g es ds
    (subst (λ (it : SealedHeader). HasDirectory image p it es) (same_header image p is.commit g is.header has) is.directory)
    directory

pub one_state : (image : Image) (size : ℕ) (s t : SavedState) → Encodes image size s → Encodes image size t → s ≡ t
one_state image size s t ds dt =
    let ep : t.plan ≡ s.plan = same_plan image size t.plan s.plan dt.plan ds.plan in
    let dt1 : Encodes image size (state s.plan t.header t.directory t.frames) =
    subst (λ (p : Plan). Encodes image size (state p t.header t.directory t.frames)) ep dt in
    let eh : t.header ≡ s.header =
    header_known image size s.plan ds.commit t.header t.directory t.frames ds.header dt1 ∙ ds.same in
    let ed : t.directory ≡ s.directory =
    directory_known image size s.plan ds.commit t.header s.directory t.directory t.frames ds.header ds.directory dt1 in
    let dt2 : Encodes image size (state s.plan s.header t.directory t.frames) =
    subst (λ (h : CheckpointHeader). Encodes image size (state s.plan h t.directory t.frames)) eh dt1 in
    let dt3 : Encodes image size (state s.plan s.header s.directory t.frames) =
    subst (λ (es : List Entry). Encodes image size (state s.plan s.header es t.frames)) ed dt2 in
    frames_equal image size s.plan s.header s.directory s.frames t.frames ds dt3
    ∙ ap (λ (p : Plan). state p s.header s.directory t.frames) (sym ep)
    ∙ ap (λ (h : CheckpointHeader). state t.plan h s.directory t.frames) (sym eh)
    ∙ ap (λ (es : List Entry). state t.plan t.header es t.frames) (sym ed)
