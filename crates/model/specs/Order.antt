-- What each order of a kernel object does.
use Rattle.std.specs.Prelude.{◌≡◌, ℕ, ◌==◌, nat_lt, Bool, true, false, not, ◌||◌, if◌then◌else◌, Option, None, Some}
use Rattle.std.specs.Prelude.{List, slice_index, slice_set}
use Rattle.model.specs.declared.access.Access.{Access}
use Rattle.model.specs.declared.capability.Capability.{Capability}
use Rattle.model.specs.declared.capability.Capability.TheVariants.{Void, Number, Page, Node, Space, Process, Start}
use Rattle.model.specs.declared.capability.Capability.TheVariants.{Bank, Discrim}
use Rattle.model.specs.declared.geometry.Geometry.{Geometry}
use Rattle.model.specs.declared.object.Object.{Object}
use Rattle.model.specs.declared.object.Root.{Root}
use Rattle.model.specs.declared.object.State.TheVariants.{Available, Running}
use Rattle.model.specs.declared.order.Arguments.{Arguments}
use Rattle.model.specs.declared.order.ResultCode.TheVariants as code
use Rattle.model.specs.declared.order.PageOrder.{PageOrder}
use Rattle.model.specs.declared.order.PageOrder.TheVariants as page
use Rattle.model.specs.declared.order.NodeOrder.{NodeOrder}
use Rattle.model.specs.declared.order.NodeOrder.TheVariants as node
use Rattle.model.specs.declared.order.BankOrder.{BankOrder}
use Rattle.model.specs.declared.order.BankOrder.TheVariants as bank
use Rattle.model.specs.declared.order.ProcessOrder.{ProcessOrder}
use Rattle.model.specs.declared.order.ProcessOrder.TheVariants as process
use Rattle.model.specs.Banking.{on_bank}
use Rattle.model.specs.Capability.{union, diminished, access_bits, tag_of}
use Rattle.model.specs.Object.{state_number}
use Rattle.model.specs.OrderOutcome.{OrderOutcome, refused, replying, given, wrote}
use Rattle.model.specs.World.{word_at, slot_at, root_at, annex_at, register_at, with_word, with_slot, with_root}
use Rattle.model.specs.World.{with_state}
use Rattle.model.specs.Revoke.{consume}

-- for each kind of object: the order with this number, if there is one
abbrev pub page_order : ℕ → Option PageOrder
page_order w = if w == 1 then Some page.Read else if w == 2 then Some page.Write else if w == 3 then Some page.Reduce
    else None

abbrev pub node_order : ℕ → Option NodeOrder
node_order w =
    if w == 1 then Some node.Fetch else if w == 2 then Some node.Store else if w == 3 then Some node.Reduce
    else if w == 4 then Some node.MakeSpace else if w == 5 then Some node.PutNumber else None

abbrev pub process_order : ℕ → Option ProcessOrder
process_order w =
    if w == 1 then Some process.GetRegister else if w == 2 then Some process.PutRegister else if w == 3 then Some
    process.GetWord
    else if w == 4 then Some process.PutWord else if w == 5 then Some process.MakeStart else if w == 6 then Some
    process.GetState
    else if w == 7 then Some process.SetState else if w == 8 then Some process.GetSpace else if w == 9 then Some
    process.SetSpace else None

abbrev pub bank_order : ℕ → Option BankOrder
bank_order w =
    if w == 1 then Some bank.NewPage else if w == 2 then Some bank.NewNode else if w == 3 then Some bank.NewProcess
    else if w == 4 then Some bank.NewBank else if w == 5 then Some bank.Free else if w == 6 then Some bank.Destroy
    else if w == 7 then Some bank.ReturnToParent else if w == 8 then Some bank.Remaining else None

-- the word w, sent to this capability, is no order of a bank
abbrev pub IsNoBankOrder : Capability → ℕ → Type 0
IsNoBankOrder (Bank b) w = bank_order w ≡ None
IsNoBankOrder _ w = Unit {0}

-- whether a word is an access that a capability may be reduced by: read-only, or read-only and weak
abbrev pub reduces : ℕ → Bool
reduces w = (w == 1) || (w == 3)

unfoldable pub on_page : List Object → ℕ → Access → PageOrder → Arguments → OrderOutcome
on_page os o a page.Read args = if nat_lt args.first 512 then replying os (word_at os o args.first) 0 else refused os
    code.BadIndex
on_page os o a page.Write args =
    if not (a.0 == 0) then refused os code.NoAccess
    else if nat_lt args.first 512 then wrote (with_word os o args.first args.second) o
    else refused os code.BadIndex
on_page os o a page.Reduce args = if reduces args.first then given os (Page o (union a args.first)) else refused os
    code.BadIndex

-- a capability fetched from a node: diminished if the node capability is weak
abbrev pub fetched : Access → Capability → Capability
fetched a c = if a.0 == 3 then diminished c else c

-- a store of a capability into a slot
abbrev pub stored : List Object → ℕ → Access → ℕ → Capability → OrderOutcome
stored os o a slot c =
    if not (a.0 == 0) then refused os code.NoAccess
    else if nat_lt slot 32 then wrote (with_slot os o slot c) o
    else refused os code.BadIndex

unfoldable pub on_node : List Object → ℕ → Access → NodeOrder → Arguments → OrderOutcome
on_node os o a node.Fetch args = if nat_lt args.first 32 then given os (fetched a (slot_at os o args.first)) else
    refused os code.BadIndex
on_node os o a node.Store args = stored os o a args.first args.capability
on_node os o a node.Reduce args = if reduces args.first then given os (Node o (union a args.first)) else refused os
    code.BadIndex
on_node os o a node.MakeSpace args =
    if (args.first == 0) || not (nat_lt args.first 5) then refused os code.BadIndex else given os (Space o args.first a)
on_node os o a node.PutNumber args = stored os o a args.first (Number args.second)

-- whether a capability may be an address space
abbrev pub is_space : Capability → Bool
is_space Void = true
is_space (Page o a) = true
is_space (Space o h a) = true
is_space _ = false

abbrev pub with_root_word : Root Capability → ℕ → ℕ → Root Capability
with_root_word r i word = record r { words = slice_set r.words i word }

abbrev pub with_space : Root Capability → Capability → Root Capability
with_space r c = record r { space = c }

unfoldable pub on_process : List Object → ℕ → ProcessOrder → Arguments → OrderOutcome
on_process os p process.GetRegister args = if nat_lt args.first 32 then given os (register_at os p args.first) else
    refused os code.BadIndex
on_process os p process.PutRegister args =
    if (args.first == 0) || not (nat_lt args.first 32) then refused os code.BadIndex
    else wrote (with_slot os (annex_at os p) args.first args.capability) (annex_at os p)
on_process os p process.GetWord args =
    if nat_lt args.first 4 then replying os (slice_index (root_at os p).words args.first) 0 else refused os
    code.BadIndex
on_process os p process.PutWord args =
    if nat_lt args.first 4 then wrote (with_root os p (with_root_word (root_at os p) args.first args.second)) p else
    refused os code.BadIndex
on_process os p process.MakeStart args = if nat_lt args.first 65536 then given os (Start p args.first) else refused os
    code.BadIndex
on_process os p process.GetState args = replying os (state_number (root_at os p).state) (root_at os p).key
on_process os p process.SetState args =
    if args.first == 0 then wrote (consume p (with_state os p Available)) p
    else if args.first == 1 then wrote (consume p (with_state os p Running)) p
    else refused os code.BadIndex
on_process os p process.GetSpace args = given os (root_at os p).space
on_process os p process.SetSpace args =
    if is_space args.capability then wrote (with_root os p (with_space (root_at os p) args.capability)) p else refused
    os code.BadCapability

-- What order w on a capability does. Every order on void is refused. Start and resume capabilities have no orders,
-- because they aren't kernel objects.
unfoldable pub order : Geometry → List Object → Capability → ℕ → Arguments → OrderOutcome
order g os Void w args = refused os code.VoidCapability
order g os (Number n) w args = if w == 1 then replying os n 0 else refused os code.NoOrder
order g os (Page o a) w args = elim (page_order w)
    [ None ↦ refused os code.NoOrder | Some requested ↦ on_page os o a requested args ]
order g os (Node o a) w args = elim (node_order w)
    [ None ↦ refused os code.NoOrder | Some requested ↦ on_node os o a requested args ]
order g os (Space o h a) w args =
    if w == 3
    then (if reduces args.first then given os (Space o h (union a args.first)) else refused os code.BadIndex)
    else refused os code.NoOrder
order g os (Process p) w args = elim (process_order w)
    [ None ↦ refused os code.NoOrder | Some requested ↦ on_process os p requested args ]
order g os (Bank b) w args = elim (bank_order w)
    [ None ↦ refused os code.NoOrder | Some requested ↦ on_bank g os b requested args ]
order g os Discrim w args = if w == 1 then replying os (tag_of args.capability) (access_bits args.capability) else
    refused os code.NoOrder
order g os _ w args = refused os code.NoOrder
