-- The four orders that allocate objects.
use Rattle.space_bank.specs.Names.{ℕ, nat_lt, Bool, false, not, Option, None, Some, List, [], length, Capability, Void}
use Rattle.space_bank.specs.Names.{Page, Node, Process, Bank, Geometry, Object, Arguments, BankOrder, chain, free_nodes}
use Rattle.space_bank.specs.Names.{free_pages, has_quota, full, OrderOutcome, made, refused, BankChange, Fresh}
use Rattle.space_bank.specs.Names.{bank_changed}
use Rattle.std.specs.Prelude.{if◌then◌else◌, ◌∷◌}
use Rattle.model.specs.declared.order.BankOrder.TheVariants as order
use Rattle.model.specs.declared.order.ResultCode.TheVariants as code
use Rattle.capability.specs.declared.order.BankChange.TheVariants as bank
use Rattle.capability.specs.declared.present.Fresh.TheVariants as fresh
use Rattle.space_bank.specs.declared.planning_new.New.{New}
use Rattle.space_bank.specs.declared.planning_new.New.TheVariants as new

-- what an order makes, if it makes something
abbrev pub new_of : BankOrder → Arguments → Option New
new_of order.NewPage args = Some new.Page
new_of order.NewNode args = Some new.Node
new_of order.NewProcess args = Some new.Process
new_of order.NewBank args = Some (new.Bank args.first)
new_of _ args = None

-- how many numbers a new object takes
abbrev pub count_of : New → ℕ
count_of new.Process = 2
count_of _ = 1

-- the change by which bank b makes a new object at the first free numbers, if there are enough
abbrev pub new_at : ℕ → Fresh → List ℕ → Option BankChange
new_at b f [] = None
new_at b f (n ∷ ns) = Some (bank.Make n f b)

abbrev pub process_at : ℕ → List ℕ → Option BankChange
process_at b [] = None
process_at b (r ∷ []) = None
process_at b (r ∷ a ∷ ns) = Some (bank.MakeProcess r a b)

abbrev pub made_for : Geometry → List Object → ℕ → New → Option BankChange
made_for g os b new.Page = new_at b fresh.Page (free_pages g os)
made_for g os b new.Node = new_at b fresh.Node (free_nodes g os)
made_for g os b new.Process = process_at b (free_nodes g os)
made_for g os b (new.Bank limit) = new_at b (fresh.Bank limit) (free_nodes g os)

-- the numbers of the objects that a change makes; the capability to the first of them
abbrev pub numbers_of : BankChange → List ℕ
numbers_of (bank.Make n f b) = n ∷ []
numbers_of (bank.MakeProcess r a b) = r ∷ a ∷ []
numbers_of _ = []

abbrev pub given_for : ℕ → Fresh → Capability
given_for n fresh.Page = Page n full
given_for n fresh.Node = Node n full
given_for n (fresh.Bank limit) = Bank n
given_for n _ = Void

abbrev pub given_by : BankChange → Capability
given_by (bank.Make n f b) = given_for n f
given_by (bank.MakeProcess r a b) = Process r
given_by _ = Void

-- whether a new bank would be too deep: the chain of its owner already has 16 banks
abbrev pub is_deep : List Object → ℕ → New → Bool
is_deep os b (new.Bank limit) = not (nat_lt (length (chain os b)) 16)
is_deep os b _ = false

-- the outcome of an order that allocates, within the limits: no free number, too deep, or done
abbrev pub allocated_by : List Object → Bool → Option BankChange → OrderOutcome
allocated_by os deep None = refused os code.NoFrame
allocated_by os deep (Some c) = if deep then refused os code.TooDeep else made (bank_changed os (numbers_of c) c)
    (numbers_of c) (given_by c)

abbrev pub allocating : Geometry → List Object → ℕ → New → OrderOutcome
allocating g os b n = if has_quota os b (count_of n) then allocated_by os (is_deep os b n) (made_for g os b n) else
    refused os code.Limit
