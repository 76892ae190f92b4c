-- Processes and annexes that an edit keeps. Orders that read only the words of their arguments. Orders that are carried out as planned.
use Rattle.gate.proofs.Names.{nat_tests, ℕ, List, [], refl, sym, ap, IsTrue, slice_index_or, get_or-map, map-set_same, Capability, Invocation, Operation}
use Rattle.gate.proofs.Names.{Content, Object, State, after_gate, free, is_root, map_content, root_in, with_slot_in, with_word_in, with_root_word, with_space}
use Rattle.gate.proofs.Names.{consume, resumes, void_where, without, annex_at, content_at, is_process, root_at, with_content, with_root, with_slot, with_state}
use Rattle.gate.proofs.Names.{with_word, root_frame, set_frame, slot_frame, word_frame, SameFrame, frame_refl, Change, changed, IsOfProcess, IsWithinObject}
use Rattle.gate.proofs.Names.{Bool, true, false, Option, None, Some, Access, Bank, Node, Page, Geometry, Arguments, BankOrder, on_bank, NodeOrder, PageOrder}
use Rattle.gate.proofs.Names.{OrderOutcome, refused, bank_order, node_order, on_node, on_page, order, ReadsOnlyWords, drop, length, subst, arith, slice_index}
use Rattle.gate.proofs.Names.{All, option_to_list, is_annex, is_bank, is_node, NamesItsKind, object_count, Fits, register_at, used_within, annex_kept}
use Rattle.gate.proofs.Names.{written_within, all_words, held_sent, AreArguments, IsNow, IsHeld, Waits, held_to, tests_at, BankChange, Caller, OrderPlan}
use Rattle.gate.proofs.Names.{outcome_by, target_of, written_of, numbers_of, IsForBank, MayMake, PlansAs, writer_count, writers, IsRequested, IsPlanned, Plans}
use Rattle.gate.proofs.Names.{arguments_of, ChangesAs, FitsCap, HaveAnnexesOf, IsFor, MayChange, MayEdit, MayHold, fetched_of, node_named, outcome_of}
use Rattle.gate.proofs.Names.{process_named, annex_used, node_used, root_used, AreEnough, held_void}
use Rattle.std.proofs.Common.{◌≡◌, ◌∙◌, ◌^◌, ◌<◌, ◌++◌}
use Rattle.model.specs.declared.object.Content.TheVariants as content
use Rattle.capability.specs.declared.order.Change.TheVariants as change
use Rattle.model.specs.declared.order.BankOrder.TheVariants as bank
use Rattle.model.specs.declared.order.NodeOrder.TheVariants as node
use Rattle.model.specs.declared.order.ResultCode.TheVariants as code
use Rattle.model.specs.declared.command.Command.TheVariants as command
use Rattle.gate.proofs.Standing.{held_fits, named_used}

-- if an edit of one object keeps a field of its content, it keeps this field everywhere
module _ {X : Type 0} (field : Content Capability → X) where
  abbrev field_of : Object → X
  field_of o = field o.content

  field_kept : (os : List Object) (n : ℕ) (c : Content Capability) → field c ≡ field (content_at os n) → (m : ℕ) →
      field (content_at (with_content os n c) m) ≡ field (content_at os m)
  unfolding with_content
  field_kept os n c same m =
      sym (get_or-map field_of (with_content os n c) m free)
      ∙ ap (λ (xs : List X). slice_index_or xs m (field_of free)) (map-set_same field_of os n _ free same) ∙ get_or-map field_of os m free

-- the annex that a content names
abbrev annex_in : Content Capability → ℕ
annex_in c = (root_in c).annex

-- changing the state of a process keeps processes and annexes
module _ (os : List Object) (p : ℕ) (s : State) (is : IsTrue (is_process os p)) where
  pub state_process : (q : ℕ) → is_process (with_state os p s) q ≡ is_process os q
  unfolding with_state with_root
  state_process q = field_kept is_root os p _ (sym is) q

pub state_annex : (os : List Object) (p : ℕ) (s : State) (q : ℕ) → annex_at (with_state os p s) q ≡ annex_at os q
unfolding with_state with_root
state_annex os p s q = field_kept annex_in os p (content.Root (record (root_at os p) { state = s })) refl q

-- an invocation through a gate keeps which numbers are processes
pub after_process : (os : List Object) (i : Invocation) → IsTrue (is_process os i.process) → (q : ℕ) →
    is_process (after_gate os i) q ≡ is_process os q
after_process os i is q = grind (arith, nat_tests, state_process)

pub after_annex : (os : List Object) (i : Invocation) (q : ℕ) → annex_at (after_gate os i) q ≡ annex_at os q
after_annex os i q = grind (arith, nat_tests, state_annex)

-- setting a word keeps the annex that a content names
word_annex : (c : Content Capability) (i word : ℕ) → annex_in (with_word_in c i word) ≡ annex_in c
word_annex c i word = grind (arith, nat_tests)

slot_annex : (c : Content Capability) (i : ℕ) (held : Capability) → annex_in (with_slot_in c i held) ≡ annex_in c
slot_annex c i held = grind (arith, nat_tests)

void_annex : (f : Capability → Capability) (c : Content Capability) → annex_in (map_content f c) ≡ annex_in c
void_annex f c = grind (arith, nat_tests)

consume_annex : (p : ℕ) (os : List Object) (q : ℕ) → annex_at (consume p os) q ≡ annex_at os q
unfolding consume
consume_annex p os q =
    ap (λ (o : Object). annex_in o.content) (get_or-map (without (resumes p)) os q free)
    ∙ void_annex (void_where (resumes p)) (content_at os q)

-- an edit keeps the annex of each process
pub changed_annex : (os : List Object) (list : List ℕ) (c : Change) → IsWithinObject c → (q : ℕ) →
    annex_at (changed os list c) q ≡ annex_at os q
unfolding with_word with_slot with_root
changed_annex os list change.Nothing within q = refl
changed_annex os list (change.Word page index word) within q = field_kept annex_in os page _ (word_annex (content_at os page) index word) q
changed_annex os list (change.Slot node slot held) within q = field_kept annex_in os node _ (slot_annex (content_at os node) slot held) q
changed_annex os list (change.Register process annex slot held) within q = field_kept annex_in os annex _
    (slot_annex (content_at os annex) slot held) q
changed_annex os list (change.RootWord process index word) within q = field_kept annex_in os process
    (content.Root (with_root_word (root_at os process) index word)) refl q
changed_annex os list (change.SetState process state) within q = consume_annex process (with_state os process state) q
    ∙ state_annex os process state q
changed_annex os list (change.Space process held) within q = field_kept annex_in os process
    (content.Root (with_space (root_at os process) held)) refl q
changed_annex os list (change.Bank made) within q = absurd within

-- an edit of one object doesn't depend on the listed numbers
pub changed_any : (os : List Object) (list : List ℕ) (c : Change) → IsWithinObject c → changed os [] c ≡ changed os list c
changed_any os list c within = grind (arith, nat_tests)

pub changed_frame : (os : List Object) (c : Change) → IsWithinObject c → IsOfProcess os c → SameFrame os (changed os [] c)
changed_frame os change.Nothing within of = frame_refl os
changed_frame os (change.Word page index word) within of = word_frame os page index word
changed_frame os (change.Slot node slot held) within of = slot_frame os node slot held
changed_frame os (change.Register process annex register held) within of = slot_frame os annex register held
changed_frame os (change.RootWord process index word) within of = root_frame os process _ of refl
changed_frame os (change.SetState process state) within of = set_frame os process state of
changed_frame os (change.Space process held) within of = root_frame os process _ of refl
changed_frame os (change.Bank made) within of = absurd within

pub not_both : (b : Bool) → b ≡ false → b ≡ true → ⊥
not_both b is other = grind (arith, nat_tests)

-- these arguments with another capability
abbrev with_sent : Arguments → Capability → Arguments
with_sent a sent = record { first = a.first; second = a.second; capability = sent }

-- if an order does the same for each capability that is sent, it reads only the words
by_words : (c : Capability) (w : ℕ) → ((g : Geometry) (us : List Object) (a : Arguments) (sent : Capability) →
    order g us c w a ≡ order g us c w (with_sent a sent)) → ReadsOnlyWords c w
by_words c w same g us a b first second = grind (arith, nat_tests)

-- the outcome for the order that was found, or `other` if none was; two such outcomes are equal if they are equal for each order
abbrev found_or : {R : Type 0} → OrderOutcome → (R → OrderOutcome) → Option R → OrderOutcome
found_or other on found = elim found [ None ↦ other | Some requested ↦ on requested ]

same_found : {R : Type 0} (other : OrderOutcome) (on by : R → OrderOutcome) (found : Option R) → ((r : R) → found ≡ Some r → on r ≡ by r) →
    found_or other on found ≡ found_or other by found
same_found {R} other on by found each = grind (arith, nat_tests)

page_found : (us : List Object) (o : ℕ) (access : Access) (a : Arguments) (sent : Capability) (requested : PageOrder) →
    on_page us o access requested a ≡ on_page us o access requested (with_sent a sent)
unfolding on_page
page_found us o access a sent requested = grind (arith, nat_tests)

pub page_words : (o : ℕ) (access : Access) (w : ℕ) → ReadsOnlyWords (Page o access) w
unfolding order
page_words o access w = grind (arith, nat_tests, by_words, same_found, page_found)

node_found : (us : List Object) (o : ℕ) (access : Access) (a : Arguments) (sent : Capability) (requested : NodeOrder) →
    (requested ≡ node.Store → ⊥) → on_node us o access requested a ≡ on_node us o access requested (with_sent a sent)
unfolding on_node
node_found us o access a sent requested other = grind (arith, nat_tests)

pub node_words : (o : ℕ) (access : Access) (w : ℕ) → (node_order w ≡ Some node.Store → ⊥) → ReadsOnlyWords (Node o access) w
unfolding order
node_words o access w other = grind (arith, nat_tests, by_words, same_found, node_found)

bank_found : (g : Geometry) (us : List Object) (b : ℕ) (a : Arguments) (sent : Capability) (requested : BankOrder) →
    (requested ≡ bank.Free → ⊥) → on_bank g us b requested a ≡ on_bank g us b requested (with_sent a sent)
unfolding on_bank
bank_found g us b a sent requested other = grind (arith, nat_tests)

pub bank_words : (b w : ℕ) → (bank_order w ≡ Some bank.Free → ⊥) → ReadsOnlyWords (Bank b) w
unfolding order
bank_words b w other = grind (arith, nat_tests, by_words, same_found, bank_found)

-- the process, or the node, that a capability names exists if the capability may be held
pub process_there : (os : List Object) (c : Capability) → NamesItsKind os c → (p : ℕ) → process_named c ≡ Some p → IsTrue (is_process os p)
process_there os c kind p is = grind (arith, nat_tests)

node_there : (os : List Object) (c : Capability) → NamesItsKind os c → (n : ℕ) → node_named c ≡ Some n → IsTrue (is_node (content_at os n))
node_there os c kind n is = grind (arith, nat_tests)

module _ (os : List Object) (c : Capability) (args : Arguments) (kind : NamesItsKind os c) where
  for_within : (x : Change) → IsFor os c args x → IsWithinObject x
  for_within x for = grind (arith, nat_tests)

  for_process : (x : Change) → IsFor os c args x → IsOfProcess os x
  for_process x for = grind (arith, nat_tests, process_there)

  for_holds : (g : Geometry) → FitsCap g args.capability → args.second < 2 ^ 64 → (x : Change) → IsFor os c args x → MayHold g os x
  for_holds g fits small x for = grind (arith, nat_tests, node_there)

  -- the object that an edit writes exists
  for_target : ((p : ℕ) → IsTrue (is_process os p) → IsTrue (is_annex (content_at os (annex_at os p)))) → (x : Change) → IsFor os c args x →
      (n : ℕ) → target_of x ≡ Some n → n < length os
  for_target annexes change.Nothing for n is = cc
  for_target annexes (change.Word page index word) for n is = let e : page ≡ n = cc in
      used_within os n (named_used os c kind n (for.1 ∙ ap Some e))
  for_target annexes (change.Slot node slot held) for n is =
      let e : node ≡ n = cc in used_within os n
      (node_used (content_at os n) (subst (λ (m : ℕ). is_node (content_at os m) ≡ true) e (node_there os c kind node for.1)))
  for_target annexes (change.Register process annex register held) for n is =
      let e : annex ≡ n = cc in
      used_within os n (annex_used (content_at os n)
      (subst (λ (m : ℕ). is_annex (content_at os m) ≡ true) (sym for.3 ∙ e) (annexes process (process_there os c kind process for.2))))
  for_target annexes (change.RootWord process index word) for n is =
      let e : process ≡ n = cc in used_within os n
      (root_used (content_at os n) (subst (λ (m : ℕ). is_process os m ≡ true) e (process_there os c kind process for.1)))
  for_target annexes (change.SetState process state) for n is =
      let e : process ≡ n = cc in used_within os n
      (root_used (content_at os n) (subst (λ (m : ℕ). is_process os m ≡ true) e (process_there os c kind process for)))
  for_target annexes (change.Space process held) for n is =
      let e : process ≡ n = cc in used_within os n
      (root_used (content_at os n) (subst (λ (m : ℕ). is_process os m ≡ true) e (process_there os c kind process for.0)))
  for_target annexes (change.Bank made) for n is = absurd for

-- if two lists of objects agree in owners, roles, annexes and limits (`SameFrame`), the same edits may be made in both
module _ (g : Geometry) (os us : List Object) (frame : SameFrame os us) where
  process_alike : (x : Change) → IsOfProcess os x → IsOfProcess us x
  process_alike x of = grind (arith, nat_tests, tests_at)

  holds_alike : (x : Change) → MayHold g os x → MayHold g us x
  holds_alike x holds = grind (arith, nat_tests, tests_at)

  edit_alike : (list : List ℕ) (x : Change) → MayEdit g os list x → MayEdit g us list x
  edit_alike list x may = record {
    within = may.within;
    process = process_alike x may.process;
    holds = holds_alike x may.holds;
    listed = may.listed;
  }

module _ (g : Geometry) (os : List Object) (list : List ℕ) where
  pub edit_change : (x : Change) → MayEdit g os list x → MayChange g os list x
  edit_change x may = grind (arith, nat_tests)

  pub change_edit : (x : Change) → ((made : BankChange) → x ≡ change.Bank made → ⊥) → MayChange g os list x → MayEdit g os list x
  change_edit x other may = grind (arith, nat_tests)

  pub bank_change : (x : Change) → IsForBank g os list x → MayChange g os list x
  bank_change x may = grind (arith, nat_tests)

  -- a property of all numbers that an order writes holds of those to be fetched
  made_fetched : (P : ℕ → Type 0) (made : BankChange) → MayMake g os list made → All P list → All P (numbers_of made)
  made_fetched P made may all = grind (arith, nat_tests)

  pub change_fetched : (P : ℕ → Type 0) (x : Change) → MayChange g os list x → All P list → All P (fetched_of x)
  change_fetched P x may all = grind (arith, nat_tests, made_fetched)

pub edit_fetched : (x : Change) → ((made : BankChange) → x ≡ change.Bank made → ⊥) → fetched_of x ≡ written_of x
edit_fetched x other = grind (arith, nat_tests)

pub target_all : (P : ℕ → Type 0) (o : Option ℕ) → All P (option_to_list o) → (n : ℕ) → o ≡ Some n → P n
target_all P o all n is = grind (arith, nat_tests)

all_target : (P : ℕ → Type 0) (o : Option ℕ) → ((n : ℕ) → o ≡ Some n → P n) → All P (option_to_list o)
all_target P o each k d inside = grind (arith, nat_tests)

-- after the numbers that the invocation itself writes, the list has those that the order writes
pub behind_writers : (op : Operation) (p annex : ℕ) (ns : List ℕ) → drop (writer_count op) (writers op p annex ++ ns) ≡ ns
behind_writers op p annex ns = grind (arith, nat_tests)

-- a plan for some arguments is a plan for others if the order does the same with both
plans_with : (g : Geometry) (os : List Object) (c : Capability) (w : ℕ) (args others : Arguments) (list : List ℕ) (plan : OrderPlan) →
    ((us : List Object) → order g us c w args ≡ order g us c w others) → Plans g os c w args list plan → Plans g os c w others list plan
plans_with g os c w args others list plan same plans = grind (arith, nat_tests)

pub planned_by : (g : Geometry) (os : List Object) (i : Invocation) (caller : Caller) (plan : OrderPlan) (args : Arguments)
    (first list rest : List ℕ) → AreEnough os i caller.invoked args
    → first ≡ writers caller.operation caller.process caller.annex → list ≡ first ++ rest →
    Plans g os caller.invoked (slice_index i.words 0) args rest plan → IsPlanned g os i caller plan list
planned_by g os i caller plan args first list rest enough first_is is plans = grind (arith, nat_tests, behind_writers, plans_with)

-- the capability that is invoked, and those that are sent, may be held
module _ (g : Geometry) (os : List Object) (i : Invocation) (now : IsNow g os) where
  pub invoked_held : (c : Capability) → c ≡ register_at os i.process i.register → IsHeld os (Waits os) c
  invoked_held c is = subst (IsHeld os (Waits os)) (sym is) ((now.filled (annex_at os i.process)).slots i.register)

  pub arguments_held : Fits (command.Invoke i) → AreArguments os (arguments_of os i)
  arguments_held fits = record { first = all_words i.words fits.3 1; second = all_words i.words fits.3 2; held = held_sent g os i 0 now }

  pub enough_held : (c : Capability) (args : Arguments) → Fits (command.Invoke i) → AreEnough os i c args → AreArguments os args
  enough_held c args fits enough = grind (arith, nat_tests, arguments_held, held_void)

-- the plan of an order that isn't a bank's satisfies `IsPlanned`
pub object_planned : (g : Geometry) (os us : List Object) (i : Invocation) (caller : Caller) (plan : OrderPlan) (args : Arguments)
    (first list : List ℕ) → us ≡ os → IsNow g os → object_count g < 2 ^ 64 → Fits (command.Invoke i) → IsRequested os i caller →
    AreEnough os i caller.invoked args → first ≡ writers caller.operation caller.process caller.annex →
    list ≡ first ++ written_of plan.change → IsFor us caller.invoked args plan.change
    → outcome_of us plan ≡ order g us caller.invoked (slice_index i.words 0) args
    → ((vs : List Object) → HaveAnnexesOf us vs → ChangesAs vs plan (order g vs caller.invoked (slice_index i.words 0) args)) →
    IsPlanned g os i caller plan list
object_planned g os us i caller plan args first list same now few fits is enough first_is listed for as_planned changes =
    let c = caller.invoked in
    let sent = enough_held g os i now caller.invoked args fits enough in
    let kind = (held_to os c (invoked_held g os i now c is.invoked)).1 in
    let for_os = subst (λ (vs : List Object). IsFor vs c args plan.change) same for in
    let may : MayEdit g os (written_of plan.change) plan.change = record {
      within = for_within os c args kind plan.change for_os;
      process = for_process os c args kind plan.change for_os;
      holds = for_holds os c args kind g (held_fits g os now.frame.kinds few args.capability (held_to os args.capability sent.held))
          sent.second plan.change
          for_os;
      listed = refl;
    } in
    planned_by g os i caller plan args first list (written_of plan.change) enough first_is listed (record {
      here = sym (subst (λ (vs : List Object). outcome_of vs plan ≡ order g vs c (slice_index i.words 0) args) same as_planned);
      code = λ vs frame. (changes vs (λ p. (frame.alike p).annex ∙ ap (λ (ws : List Object). annex_at ws p) (sym same))).code;
      objects = λ vs frame. (changes vs (λ p. (frame.alike p).annex ∙ ap (λ (ws : List Object). annex_at ws p) (sym same))).objects;
      written = λ vs frame. (changes vs (λ p. (frame.alike p).annex ∙ ap (λ (ws : List Object). annex_at ws p) (sym same))).written;
      may = λ vs frame then. edit_change g vs (written_of plan.change) plan.change
          (edit_alike g os vs frame (written_of plan.change) plan.change may);
      annex = λ vs frame p before after. changed_annex vs (written_of plan.change) plan.change may.within p;
      known = all_target (λ n. n < length os) (target_of plan.change)
          (for_target os c args kind (λ p process. (now.frame.annexes p process).0) plan.change for_os);
    })

-- order w on a bank is the bank's order with this number
bank_ordered : (g : Geometry) (os : List Object) (b w : ℕ) (requested : BankOrder) (args : Arguments) → bank_order w ≡ Some requested →
    order g os (Bank b) w args ≡ on_bank g os b requested args
unfolding order
bank_ordered g os b w requested args is = ap (λ (found : Option BankOrder). elim found
    [ None ↦ refused os code.NoOrder | Some k ↦ on_bank g os b k args ]) is

bank_plans : (g : Geometry) (os : List Object) (b w : ℕ) (requested : BankOrder) (args : Arguments) (plan : OrderPlan) (list : List ℕ) →
    IsNow g os → IsTrue (is_bank (content_at os b))
    → NamesItsKind os args.capability → bank_order w ≡ Some requested → list ≡ (on_bank g os b requested args).written →
    PlansAs g os b requested args list plan
    → Plans g os (Bank b) w args list plan
bank_plans g os b w requested args plan list now bank names is listed plans =
    let at : (us : List Object) → SameFrame os us → order g us (Bank b) w args ≡ outcome_by us list plan =
    λ us frame. bank_ordered g us b w requested args is ∙ plans.outcome us frame in
    record {
      here = at os (frame_refl os);
      code = λ us frame. ap (λ (o : OrderOutcome). o.code) (at us frame);
      objects = λ us frame. ap (λ (o : OrderOutcome). o.objects) (at us frame);
      written = λ us frame. ap (λ (o : OrderOutcome). o.written) (at us frame);
      may = λ us frame then. bank_change g us list plan.change (plans.may us frame then);
      annex = λ us frame p before after.
          let objects : (on_bank g us b requested args).objects ≡ changed us list plan.change =
          ap (λ (o : OrderOutcome). o.objects) (plans.outcome us frame) in
          ap (λ (vs : List Object). annex_at vs p) (sym objects)
          ∙ annex_kept g us b requested args p before (subst (λ (vs : List Object). is_process vs p ≡ true) (sym objects) after);
      known = subst (λ (ns : List ℕ). All (λ n. n < length os) ns) (sym listed) (written_within g os b requested args now bank names);
    }

pub bank_planned : (g : Geometry) (os : List Object) (i : Invocation) (caller : Caller) (plan : OrderPlan) (args : Arguments) (b : ℕ)
    (requested : BankOrder) (first list : List ℕ)
    → IsNow g os → Fits (command.Invoke i) → IsRequested os i caller → AreEnough os i caller.invoked args →
    first ≡ writers caller.operation caller.process caller.annex
    → caller.invoked ≡ Bank b → bank_order (slice_index i.words 0) ≡ Some requested →
    list ≡ first ++ (on_bank g os b requested args).written
    → PlansAs g os b requested args (on_bank g os b requested args).written plan → IsPlanned g os i caller plan list
bank_planned g os i caller plan args b requested first list now fits is enough first_is invoked order_is listed plans =
    let ws = (on_bank g os b requested args).written in
    let sent = enough_held g os i now caller.invoked args fits enough in
    let bank : IsTrue (is_bank (content_at os b)) = subst (NamesItsKind os) invoked
    (held_to os caller.invoked (invoked_held g os i now caller.invoked is.invoked)).1 in
    planned_by g os i caller plan args first list ws enough first_is listed
    (subst (λ (c : Capability). Plans g os c (slice_index i.words 0) args ws plan) (sym invoked)
    (bank_plans g os b (slice_index i.words 0) requested args plan ws now bank (held_to os args.capability sent.held).1 order_is refl
    plans))
