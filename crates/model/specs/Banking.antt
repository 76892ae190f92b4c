-- The orders of a bank: allocate, free, destroy, and count what may still be allocated (EROS, KeyKOS: space bank).
use Rattle.model.specs.Names.{ℕ, nat_le, nat_lt, min, Bool, not, List, [], length, map, replicate, slice_set, filter}
use Rattle.model.specs.Names.{list_all, range_with_len}
use Rattle.std.specs.Prelude.{◌+◌, ◌-◌, ◌==◌, ◌&&◌, ◌||◌, if◌then◌else◌, ◌∷◌}
use Rattle.model.specs.declared.capability.Capability.{Capability}
use Rattle.model.specs.declared.capability.Capability.TheVariants.{Void, Page, Node, Process, Bank}
use Rattle.model.specs.declared.geometry.Geometry.{Geometry}
use Rattle.model.specs.declared.object.Content.{Content}
use Rattle.model.specs.declared.object.Content.TheVariants as content
use Rattle.model.specs.declared.object.Object.{Object}
use Rattle.model.specs.declared.object.State.TheVariants.{Available}
use Rattle.model.specs.declared.order.Arguments.{Arguments}
use Rattle.model.specs.declared.order.BankOrder.{BankOrder}
use Rattle.model.specs.declared.order.BankOrder.TheVariants as bank
use Rattle.model.specs.declared.order.ResultCode.TheVariants as code
use Rattle.model.specs.Bank.{chain, is_under, usage}
use Rattle.model.specs.Capability.{full}
use Rattle.model.specs.Object.{all_slots, is_free, limit_in, zero_words}
use Rattle.model.specs.OrderOutcome.{OrderOutcome, refused, replying_three, made}
use Rattle.model.specs.Revoke.{rescind}
use Rattle.model.specs.World.{annex_at, content_at, object_at, owner_at}

-- three lists of free numbers, the least first: those among ns, those for nodes, those for pages
abbrev pub are_free : List Object → List ℕ → List ℕ
are_free os ns = filter (λ n. is_free (content_at os n)) ns

unfoldable pub free_nodes : Geometry → List Object → List ℕ
free_nodes g os = are_free os (range_with_len 0 g.nodes)

unfoldable pub free_pages : Geometry → List Object → List ℕ
free_pages g os = are_free os (range_with_len g.nodes g.pages)

-- whether bank b may own `count` more objects: the limit of each bank in its chain allows them
unfoldable pub has_quota : List Object → ℕ → ℕ → Bool
has_quota os b count = list_all (λ c. nat_le (usage os c + count) (limit_in (content_at os c))) (chain os b)

-- the content of a new page, node, root and annex
abbrev pub new_page : Content Capability
new_page = content.Page zero_words

abbrev pub new_node : Content Capability
new_node = content.Node (all_slots Void)

abbrev pub new_root : ℕ → Content Capability
new_root annex = content.Root
    (record { state = Available; words = replicate 4 0; key = 0; annex = annex; space = Void })

abbrev pub new_annex : Content Capability
new_annex = content.Annex (all_slots Void)

-- the objects with a new one at number n: owner b, content c
unfoldable pub with_new : List Object → ℕ → ℕ → Content Capability → List Object
with_new os n b c = slice_set os n (record { owner = b; content = c })

-- a new object of bank b at the first of the free numbers; `named` makes the capability to it
abbrev pub allocated : List Object → ℕ → List ℕ → Content Capability → (ℕ → Capability) → OrderOutcome
allocated os b [] c named = refused os code.NoFrame
allocated os b (n ∷ ns) c named = made (with_new os n b c) (n ∷ []) (named n)

-- a new process of bank b: its root at the first free number, its annex at the second
abbrev pub process_allocated : List Object → ℕ → List ℕ → OrderOutcome
process_allocated os b [] = refused os code.NoFrame
process_allocated os b (p ∷ []) = refused os code.NoFrame
process_allocated os b (p ∷ a ∷ ns) = made (with_new (with_new os p b (new_root a)) a b new_annex) (p ∷ a ∷ [])
    (Process p)

-- a new bank of bank b at the first free number, unless the chain of b already has 16 banks
abbrev pub bank_allocated : List Object → ℕ → List ℕ → ℕ → OrderOutcome
bank_allocated os b [] limit = refused os code.NoFrame
bank_allocated os b (n ∷ ns) limit =
    if nat_lt (length (chain os b)) 16 then made (with_new os n b (content.Bank limit)) (n ∷ []) (Bank n) else refused
    os code.TooDeep

-- the objects that a capability frees: a page or node with full access, or a process with its annex
abbrev pub freed_by : List Object → Capability → List ℕ
freed_by os (Page o a) = if a.0 == 0 then o ∷ [] else []
freed_by os (Node o a) = if a.0 == 0 then o ∷ [] else []
freed_by os (Process p) = p ∷ annex_at os p ∷ []
freed_by os _ = []

-- the numbers of bank b and of all objects under it
unfoldable pub under : List Object → ℕ → List ℕ
under os b = filter (λ n. (n == b) || is_under os b (object_at os n)) (range_with_len 0 (length os))

-- the numbers of the objects that bank b itself owns
unfoldable pub owned_by : List Object → ℕ → List ℕ
owned_by os b = filter (λ n. not (is_free (content_at os n)) && (owner_at os n == b)) (range_with_len 0 (length os))

-- an object, with the owner `parent` if bank b owns it; then all objects, where those of bank b now belong to b's
-- owner
abbrev pub transferred : ℕ → ℕ → Object → Object
transferred b parent o = if not (is_free o.content) && (o.owner == b) then
    record { owner = parent; content = o.content } else o

unfoldable pub inherited : List Object → ℕ → List Object
inherited os b = map (transferred b (owner_at os b)) os

-- how many more objects a bank's own limit allows; the least of some numbers; how many all limits in a chain allow
abbrev pub left_of : List Object → ℕ → ℕ
left_of os b = limit_in (content_at os b) - usage os b

abbrev pub least : ℕ → List ℕ → ℕ
least n [] = n
least n (m ∷ ms) = least (min n m) ms

unfoldable pub remaining : List Object → ℕ → ℕ
remaining os b = least (left_of os b) (map (left_of os) (chain os b))

-- the outcome of freeing a capability's objects, n and ns: refused unless bank b owns n
abbrev pub freed : List Object → ℕ → List ℕ → OrderOutcome
freed os b [] = refused os code.BadCapability
freed os b (n ∷ ns) = if owner_at os n == b then made (rescind (n ∷ ns) os) (n ∷ ns) Void else refused os
    code.NotFromThisBank

-- What each order of bank b does. If several codes apply, the least is the reply: a limit is reached, then no number
-- is free, then the chain already has 16 banks.
unfoldable pub on_bank : Geometry → List Object → ℕ → BankOrder → Arguments → OrderOutcome
on_bank g os b bank.NewPage args =
    if has_quota os b 1 then allocated os b (free_pages g os) new_page (λ n. Page n full) else refused os code.Limit
on_bank g os b bank.NewNode args =
    if has_quota os b 1 then allocated os b (free_nodes g os) new_node (λ n. Node n full) else refused os code.Limit
on_bank g os b bank.NewProcess args = if has_quota os b 2 then process_allocated os b (free_nodes g os) else refused os
    code.Limit
on_bank g os b bank.NewBank args = if has_quota os b 1 then bank_allocated os b (free_nodes g os) args.first else
    refused os code.Limit
on_bank g os b bank.Free args = freed os b (freed_by os args.capability)
on_bank g os b bank.Destroy args = if b == 0 then refused os code.PrimeBank else made (rescind (under os b) os)
    (under os b) Void
on_bank g os b bank.ReturnToParent args =
    if b == 0 then refused os code.PrimeBank else made (rescind (b ∷ []) (inherited os b)) (b ∷ owned_by os b) Void
on_bank g os b bank.Remaining args = replying_three os (remaining os b) (usage os b) (limit_in (content_at os b))
