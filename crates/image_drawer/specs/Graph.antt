-- A description as a graph in DOT: boxes, owners and arrows.
use Rattle.image_drawer.specs.Names.{ℕ, Bool, true, false, Option, None, Some, List, [], map, codes, decimal, unwrap_or}
use Rattle.image_drawer.specs.Names.{flat_map, Capability, Void, Number, Space, Start, Resume, Discrim, State}
use Rattle.image_drawer.specs.Names.{access_bits, named, capability_text, line_of, spaced, state_text, BankEntry}
use Rattle.image_drawer.specs.Names.{Description, NodeEntry, Object, PageEntry, ProcessEntry, SlotEntry, chain}
use Rattle.std.specs.Prelude.{◌==◌, if◌then◌else◌, ◌∷◌, ◌++◌}
use Rattle.image_drawer.specs.declared.arrow.Arrow.{Arrow}
use Rattle.image_drawer.specs.declared.arrow.Place.{Place}
use Rattle.image_drawer.specs.declared.arrow.Place.TheVariants as place

-- ---- the parts of the graph

-- the numbers of all boxes: banks, roots of processes, nodes and pages
abbrev pub boxes : Description → List ℕ
boxes d = map (λ b. b.number) d.banks.items ++ map (λ p. p.root) d.processes.items
    ++ map (λ n. n.number) d.nodes.items ++ map (λ p. p.number) d.pages.items

-- an owner and an object that it owns, as a pair; nothing if the object owns itself
abbrev pub joined : ℕ → ℕ → List (ℕ × ℕ)
joined owner number = if owner == number then [] else (owner, number) ∷ []

-- each object with its owner, unless it owns itself
abbrev pub owners : Description → List (ℕ × ℕ)
owners d = flat_map (λ b. joined b.owner b.number) d.banks.items ++ flat_map (λ p. joined p.owner p.root)
    d.processes.items
    ++ flat_map (λ n. joined n.owner n.number) d.nodes.items ++ flat_map (λ p. joined p.owner p.number) d.pages.items

-- the arrow of a capability to the object that it names; none if it names nothing
abbrev pub arrow_to : ℕ → Place → Capability → Option ℕ → List Arrow
arrow_to holder at c None = []
arrow_to holder at c (Some target) = record { holder = holder; place = at; capability = c; target = target } ∷ []

abbrev pub arrow_of : ℕ → Place → Capability → List Arrow
arrow_of holder at c = arrow_to holder at c (named c)

-- a slot of a node, or a register of a process
abbrev pub place_in : Bool → ℕ → Place
place_in true index = place.Slot index
place_in false index = place.Register index

-- the arrows of a list of registers or slots
abbrev pub arrows_at : ℕ → (ℕ → Place) → List SlotEntry → List Arrow
arrows_at holder at slots = flat_map (λ s. arrow_of holder (at s.index) (unwrap_or s.capability Void)) slots

-- the arrows of a process: that of its space, then those of its registers
abbrev pub process_arrows : ProcessEntry → List Arrow
process_arrows p = arrow_of p.root place.Space (unwrap_or p.space Void) ++ arrows_at p.root place.Register
    p.registers.items

-- the arrows of a node
abbrev pub node_arrows : NodeEntry → List Arrow
node_arrows n = arrows_at n.number place.Slot n.slots.items

-- the arrows of all capabilities that name an object
abbrev pub arrows : Description → List Arrow
arrows d = flat_map process_arrows d.processes.items ++ flat_map node_arrows d.nodes.items

-- ---- the text of the graph

-- a further line in a box: in DOT it begins with `\n`
abbrev pub next_line : List ℕ → List ℕ
next_line text = codes "\\n" ++ text

-- a box with these lines, of this shape
abbrev pub box_line : ℕ → List ℕ → List ℕ → List ℕ
box_line number lines shape = line_of
    (spaced (decimal number ∷ (codes "[label=\"" ++ lines ++ codes "\" shape=" ++ shape ++ codes "]") ∷ []))

-- the line in its holder's box for a number capability or `discrim`; other capabilities have none
abbrev pub plain_line : List ℕ → ℕ → Capability → List ℕ
plain_line name index (Number n) = next_line (spaced ((name ++ decimal index) ∷ capability_text (Number n) ∷ []))
plain_line name index Discrim = next_line (spaced ((name ++ decimal index) ∷ capability_text Discrim ∷ []))
plain_line name index _ = []

abbrev pub plain_lines : List ℕ → List SlotEntry → List ℕ
plain_lines name slots = flat_map (λ s. plain_line name s.index (unwrap_or s.capability Void)) slots

-- the word of a state, if there is one
abbrev pub word_of_state : Option State → List ℕ
word_of_state None = []
word_of_state (Some state) = state_text state

-- the line of a bank's box
unfoldable pub bank_box : BankEntry → List ℕ
bank_box b = box_line b.number
    (spaced (codes "bank" ∷ decimal b.number ∷ []) ++ next_line (spaced (codes "limit" ∷ decimal b.limit ∷ [])))
    (codes "house")

-- the line of a process's box
unfoldable pub process_box : ProcessEntry → List ℕ
process_box p = box_line p.root (spaced (codes "process" ∷ decimal p.root ∷ codes "annex" ∷ decimal p.annex ∷ [])
    ++ next_line (spaced (word_of_state p.state ∷ codes "key" ∷ decimal p.key ∷ [])) ++ plain_lines (codes "r")
    p.registers.items) (codes "ellipse")

-- the line of a node's box
unfoldable pub node_box : NodeEntry → List ℕ
node_box n = box_line n.number (spaced (codes "node" ∷ decimal n.number ∷ []) ++ plain_lines (codes "s") n.slots.items)
    (codes "box")

-- the line of a page's box
unfoldable pub page_box : PageEntry → List ℕ
page_box p = box_line p.number (spaced (codes "page" ∷ decimal p.number ∷ [])) (codes "note")

-- the beginning of a bank's rectangle (in DOT a cluster), its end, and a text between these two
unfoldable pub rectangle_start : ℕ → List ℕ
rectangle_start b = spaced ((codes "subgraph cluster_" ++ decimal b) ∷ codes "{ label=\"bank" ∷ (decimal b ++ codes "\" ") ∷ [])

abbrev pub rectangle_end : List ℕ
rectangle_end = codes " }"

abbrev pub in_rectangle : ℕ → List ℕ → List ℕ
in_rectangle b text = (rectangle_start b ++ text) ++ rectangle_end

-- a text in the rectangles of some banks: in that of the first, which stands in that of the second, and so on
abbrev pub in_rectangles : List ℕ → List ℕ → List ℕ
in_rectangles [] text = text
in_rectangles (b ∷ bs) text = in_rectangles bs (in_rectangle b text)

-- an owned object is drawn in the rectangles of its owner and of all banks above it
unfoldable pub owner_line : List Object → ℕ × ℕ → List ℕ
owner_line os p = line_of (in_rectangles (chain os p.0) (decimal p.1))

abbrev pub place_text : Place → List ℕ
place_text place.Space = codes "space"
place_text (place.Register i) = codes "r" ++ decimal i
place_text (place.Slot i) = codes "s" ++ decimal i

-- what the target's box doesn't show: the height of a space, the key of a start capability, or `resume`
abbrev pub kind_text : Capability → List ℕ
kind_text (Space object height access) = codes " height " ++ decimal height
kind_text (Start process key) = codes " start " ++ decimal key
kind_text (Resume process) = codes " resume"
kind_text _ = []

-- the style of an arrow: dashed if read-only, dotted if weak
abbrev pub style_text : ℕ → List ℕ
style_text access = if access == 0 then [] else if access == 1 then codes " style=dashed" else codes " style=dotted"

-- an arrow with its label
unfoldable pub arrow_line : Arrow → List ℕ
arrow_line a = line_of (spaced (decimal a.holder ∷ codes "->" ∷ decimal a.target
    ∷ (codes "[label=\"" ++ place_text a.place ++ kind_text a.capability ++ codes "\"" ++ style_text
    (access_bits a.capability) ++ codes "]") ∷ []))

-- the lines of all boxes
abbrev pub box_lines : Description → List ℕ
box_lines d = flat_map bank_box d.banks.items ++ flat_map process_box d.processes.items ++ flat_map node_box
    d.nodes.items ++ flat_map page_box d.pages.items

abbrev pub owner_lines : List Object → Description → List ℕ
owner_lines os d = flat_map (owner_line os) (owners d)

-- the lines of all arrows
abbrev pub arrow_lines : Description → List ℕ
arrow_lines d = flat_map arrow_line (arrows d)

-- the first lines: the graph goes from left to right, in small type
abbrev pub head_lines : List ℕ
head_lines = line_of (codes "digraph eros {") ++ line_of (codes "graph [rankdir=LR newrank=true]")
    ++ line_of (codes "node [fontsize=10 height=0 margin=0.05]") ++ line_of (codes "edge [fontsize=8]")

-- the whole graph, with the banks of these objects
unfoldable pub graph_text : List Object → Description → List ℕ
graph_text os d = head_lines ++ box_lines d ++ owner_lines os d ++ arrow_lines d ++ line_of (codes "}")
