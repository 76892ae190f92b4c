-- The text of a fault, in one line.
use Rattle.std.specs.Prelude.{Bool, ℕ, nat_lt, if◌then◌else◌, List, [], ◌∷◌, ◌++◌, codes, decimal}
use Rattle.model.specs.declared.capability.Capability.{Capability}
use Rattle.model.specs.declared.capability.Capability.TheVariants as cap
use Rattle.model.specs.declared.object.Role.{Role}
use Rattle.model.specs.declared.object.Role.TheVariants as role
use Rattle.model.specs.Text.{capability_text, spaced}
use Rattle.layout.specs.Reason.{reason_number}
use Rattle.recovery.specs.declared.consistency.reason.Unbanked.{Unbanked}
use Rattle.recovery.specs.declared.consistency.reason.Unbanked.TheVariants as unbanked
use Rattle.image_explainer.specs.declared.sectors.fault.DirectoryPart.{DirectoryPart}
use Rattle.image_explainer.specs.declared.sectors.fault.DirectoryPart.TheVariants as entry
use Rattle.image_explainer.specs.declared.sectors.fault.FramePart.{FramePart}
use Rattle.image_explainer.specs.declared.sectors.fault.FramePart.TheVariants as frame
use Rattle.image_explainer.specs.declared.sectors.fault.GeometryPart.{GeometryPart}
use Rattle.image_explainer.specs.declared.sectors.fault.GeometryPart.TheVariants as geometry
use Rattle.image_explainer.specs.declared.sectors.fault.HeaderPart.{HeaderPart}
use Rattle.image_explainer.specs.declared.sectors.fault.HeaderPart.TheVariants as header
use Rattle.image_explainer.specs.declared.sectors.fault.NotCounted.{NotCounted}
use Rattle.image_explainer.specs.declared.sectors.fault.NotCounted.TheVariants as uncounted
use Rattle.image_explainer.specs.declared.sectors.fault.NotPaired.{NotPaired}
use Rattle.image_explainer.specs.declared.sectors.fault.NotPaired.TheVariants as unpaired
use Rattle.image_explainer.specs.declared.sectors.fault.SectorFault.{SectorFault}
use Rattle.image_explainer.specs.declared.sectors.fault.SectorFault.TheVariants as sectors
use Rattle.image_explainer.specs.declared.sectors.fault.SuperblockPart.{SuperblockPart}
use Rattle.image_explainer.specs.declared.sectors.fault.SuperblockPart.TheVariants as superblock
use Rattle.image_explainer.specs.declared.sectors.fault.UnitPart.{UnitPart}
use Rattle.image_explainer.specs.declared.sectors.fault.UnitPart.TheVariants as unit
use Rattle.image_explainer.specs.declared.fault.ImageFault.{ImageFault}
use Rattle.image_explainer.specs.declared.fault.ImageFault.TheVariants as fault
use Rattle.image_explainer.specs.declared.fault.Misnamed.{Misnamed}
use Rattle.image_explainer.specs.declared.fault.Unmatched.{Unmatched}
use Rattle.image_explainer.specs.declared.fault.Unmatched.TheVariants as unmatched
use Rattle.image_explainer.specs.Breaking.{reason_of}

-- a word and a number, with a space between
abbrev pub numbered : List ℕ → ℕ → List ℕ
numbered word n = spaced (word ∷ decimal n ∷ [])

abbrev pub superblock_text : SuperblockPart → List ℕ
superblock_text superblock.Magic = codes "superblock: the magic is not EROSCKPT"
superblock_text superblock.Version = codes "superblock: the version is not 1, 2 or 3"
superblock_text superblock.Tail = codes "superblock: a byte from 256 on is not 0"
superblock_text superblock.Seal = codes "superblock: the seal is wrong"

abbrev pub geometry_text : GeometryPart → List ℕ
geometry_text (geometry.Nodes n) = numbered (codes "superblock: nodes") n ++ codes " is not from 16 to 4096"
geometry_text (geometry.Pages n) = numbered (codes "superblock: pages") n ++ codes " is not from 1 to 4096"
geometry_text (geometry.Log n) = numbered (codes "superblock: log") n ++ codes " is not from 16 to 4096"
geometry_text (geometry.Total n) = numbered (codes "superblock: sectors") n ++ codes " is not from 0 to 131072"
geometry_text geometry.Places = codes "superblock: a home range or a half of the log is wrong"

abbrev pub not_counted_text : NotCounted → List ℕ
not_counted_text uncounted.Closed = codes " has a closed gate"
not_counted_text (uncounted.Misplaced sequence) = codes " has the sequence number" ++ 32 ∷ decimal sequence ++ codes
    " of the other slot"

abbrev pub no_header_text : NotCounted → NotCounted → List ℕ
no_header_text first second = codes "header 0" ++ not_counted_text first ++ codes ", and header 1" ++ not_counted_text
    second

abbrev pub not_paired_text : NotPaired → List ℕ
not_paired_text unpaired.Unnumbered = codes " has a gate without a number"
not_paired_text unpaired.Unsound = codes " is not a sealed header"
not_paired_text (unpaired.Misplaced sequence) = codes " has the number" ++ 32 ∷ decimal sequence ++ codes
    " of another slot"
not_paired_text (unpaired.Renumbered sequence gate) = codes " has number" ++ 32 ∷ decimal sequence ++ codes
    " and gate" ++ 32 ∷ decimal gate
not_paired_text (unpaired.Alone sequence) = codes " has the number" ++ 32 ∷ decimal sequence ++ codes
    " and no neighbour"

abbrev pub no_pair_text : NotPaired → NotPaired → NotPaired → List ℕ
no_pair_text first second third = codes "header 0" ++ not_paired_text first ++ codes ", header 1" ++ not_paired_text
    second ++ codes ", and header 2" ++ not_paired_text third

abbrev pub header_part_text : HeaderPart → List ℕ
header_part_text (header.Entries entries slots) = codes ": entries" ++ 32 ∷ decimal entries ++ codes
    " is above the slots" ++ 32 ∷ decimal slots
header_part_text (header.Age age) = codes ": age" ++ 32 ∷ decimal age ++ codes " is above 4611686018427387904"
header_part_text (header.Generation generation age) = codes ": generation" ++ 32 ∷ decimal generation ++ codes
    " is above twice the age" ++ 32 ∷ decimal age
header_part_text (header.Sequence sequence age) = codes ": sequence number" ++ 32 ∷ decimal sequence ++ codes
    " is too great for the age" ++ 32 ∷ decimal age
header_part_text header.Bytes = codes ": the magic is not EROSHEAD, or a byte is not 0"
header_part_text (header.Lost n) = codes ": it is damaged, but its gate has the number" ++ 32 ∷ decimal n

abbrev pub header_text : ℕ → HeaderPart → List ℕ
header_text sector part = numbered (codes "header in sector") sector ++ header_part_text part

-- the text of what is wrong with a directory; entries are numbered from 0
abbrev pub directory_part_text : DirectoryPart → List ℕ
directory_part_text entry.Unsealed = codes ": the seal is wrong"
directory_part_text entry.Rest = codes ": a byte after its entries is not 0"
directory_part_text entry.Sums = codes ": its seals do not add up to the sums in the header"
directory_part_text (entry.Object k object) = numbered (codes ", entry") k ++ codes ": there is no object" ++ 32 ∷
    decimal object
directory_part_text (entry.Slot k slot) = numbered (codes ", entry") k ++ codes ": there is no slot" ++ 32 ∷ decimal
    slot
directory_part_text (entry.Order k object before) = numbered (codes ", entry") k ++ codes ": object" ++ 32 ∷ decimal
    object ++ codes " is not above the object" ++ 32 ∷ decimal before ++ codes " of the entry before"
directory_part_text (entry.Shared j k slot) = numbered (codes ", entry") k ++ codes ": slot" ++ 32 ∷ decimal slot ++
    codes " is also that of entry" ++ 32 ∷ decimal j

abbrev pub directory_text : ℕ → DirectoryPart → List ℕ
directory_text sector part = numbered (codes "directory in sector") sector ++ directory_part_text part

abbrev pub unit_part_text : Bool → UnitPart → List ℕ
unit_part_text is_page unit.Unsealed = codes ": the seal is wrong"
unit_part_text is_page unit.Rest =
    if is_page then codes ": its header sector does not have the sums of its words"
    else codes ": a byte after its frames is not 0"

abbrev pub unit_text : ℕ → Bool → UnitPart → List ℕ
unit_text number is_page part = numbered (if is_page then codes "page" else codes "cluster of node") number ++
    unit_part_text is_page part

abbrev pub frame_part_text : FramePart → List ℕ
frame_part_text (frame.Allocations count age) = codes ": allocation count" ++ 32 ∷ decimal count ++ codes
    " is above the age" ++ 32 ∷ decimal age
frame_part_text (frame.Calls count age) = codes ": call count" ++ 32 ∷ decimal count ++ codes " is above the age" ++ 32
    ∷ decimal age
frame_part_text (frame.Count slot count age) = codes ", slot" ++ 32 ∷ decimal slot ++ codes ": count" ++ 32 ∷ decimal
    count ++ codes " is above the age" ++ 32 ∷ decimal age
frame_part_text (frame.Slot slot) = codes ", slot" ++ 32 ∷ decimal slot ++ codes
    ": not a capability that this image can hold"
frame_part_text frame.Body = codes ": its role, owner and content do not fit together"

abbrev pub frame_text : ℕ → Bool → FramePart → List ℕ
frame_text number is_page part = numbered (if is_page then codes "page" else codes "node") number ++ frame_part_text
    part

-- the text of where a capability is held: the address space of a process, a register of an annex, or a slot of a node
abbrev pub holder_text : Role → ℕ → ℕ → List ℕ
holder_text role.Root holder index = numbered (codes "process") holder ++ codes ", space"
holder_text role.Annex holder index = numbered (codes "annex") holder ++ codes ", register" ++ 32 ∷ decimal index
holder_text _ holder index = numbered (codes "node") holder ++ codes ", slot" ++ 32 ∷ decimal index

-- the word for the kind of object that a capability names
abbrev pub kind_text : Capability → List ℕ
kind_text (cap.Page o a) = codes "page"
kind_text (cap.Node o a) = codes "node"
kind_text (cap.Space o h a) = codes "node"
kind_text (cap.Process p) = codes "process"
kind_text (cap.Start p key) = codes "process"
kind_text (cap.Resume p) = codes "waiting process"
kind_text (cap.Bank b) = codes "bank"
kind_text _ = codes "object"

abbrev pub misnamed_text : Misnamed → List ℕ
misnamed_text m =
    if nat_lt m.current m.held.count
    then codes ": count" ++ 32 ∷ decimal m.held.count ++ codes " is above the count" ++ 32 ∷ decimal m.current ++ codes
    " of its object"
    else codes ":" ++ 32 ∷ capability_text m.held.what ++ codes " names no " ++ kind_text m.held.what

abbrev pub unmatched_text : Unmatched → List ℕ
unmatched_text (unmatched.Annex root annex) = numbered (codes "process") root ++ codes ": number" ++ 32 ∷ decimal annex
    ++ codes " is not an annex with its owner"
unmatched_text (unmatched.Shared first second annex) = numbered (codes "process") first ++ codes ": annex" ++ 32 ∷
    decimal annex ++ codes " is also that of process" ++ 32 ∷ decimal second
unmatched_text (unmatched.Rootless annex) = numbered (codes "annex") annex ++ codes ": no process names it"

abbrev pub unbanked_text : Unbanked → List ℕ
unbanked_text unbanked.Prime = codes "number 0: not a bank that owns itself"
unbanked_text (unbanked.Owner number owner) = numbered (codes "number") number ++ codes ": its owner" ++ 32 ∷ decimal
    owner ++ codes " is not a bank"
unbanked_text (unbanked.Chain bank) = numbered (codes "bank") bank ++ codes
    ": its owners do not reach bank 0 within 16 banks"
unbanked_text (unbanked.Limit bank used limit) = numbered (codes "bank") bank ++ codes ": usage" ++ 32 ∷ decimal used ++
    codes " is above the limit" ++ 32 ∷ decimal limit

abbrev pub sectors_text : SectorFault → List ℕ
sectors_text (sectors.Small size needed) = numbered (codes "there are") size ++ codes " sectors, and the image needs" ++
    32 ∷ decimal needed
sectors_text (sectors.Superblock part) = superblock_text part
sectors_text (sectors.Geometry part) = geometry_text part
sectors_text (sectors.NoHeader first second) = no_header_text first second
sectors_text (sectors.NoPair first second third) = no_pair_text first second third
sectors_text (sectors.Header sector part) = header_text sector part
sectors_text (sectors.Directory sector part) = directory_text sector part
sectors_text (sectors.Unit number is_page part) = unit_text number is_page part
sectors_text sectors.Root = codes "the clusters and pages do not add up to the root in the header"
sectors_text (sectors.Frame number is_page part) = frame_text number is_page part

abbrev pub place_text : ImageFault → List ℕ
place_text (fault.Sectors f) = sectors_text f
place_text (fault.Capability m) = holder_text m.role m.holder m.index ++ misnamed_text m
place_text (fault.Process u) = unmatched_text u
place_text (fault.Bank u) = unbanked_text u

-- the text of a fault: its place, what is wrong there, and the number of its reason
unfoldable pub fault_text : ImageFault → List ℕ
fault_text f = place_text f ++ codes " (bad image" ++ 32 ∷ decimal (reason_number (reason_of f)) ++ codes ")"
