use Rattle.description_explainer.proofs.Names.{arith, common_steps, List, option_map, slice_get, unwrap_or, Option, ℕ, Bor, IsItemAt, gets}
use Rattle.std.proofs.Common.{◌≡◌}
use Rattle.description_explainer.proofs.naming.listed_number.Goals as goal

-- the number of the item at index k, or 0 if there is none
listed : {A : Type 0} (f : A → ℕ) (xs ys : List A) (k : ℕ) (r : Option (Bor A)) → IsItemAt ys k r → ys ≡ xs →
    unwrap_or (option_map (λ (x : Bor A). f x.now) r) 0 ≡ unwrap_or (option_map f (slice_get xs k)) 0
listed f xs ys k r got is = grind (arith, common_steps, gets)

pub returns-in-Some : goal.returns-in-Some
returns-in-Some c = rw c.in-Bank.is (rw c.in-Some.is at
    (listed (λ bank. bank.number) c.args.description.now.banks.items _ c.in-Bank.k _ c.get.ensures.lookup c.deref.ensures.value))

pub returns-in-None : goal.returns-in-None
returns-in-None c = rw c.in-Bank.is (rw c.in-None.is at
    (listed (λ bank. bank.number) c.args.description.now.banks.items _ c.in-Bank.k _ c.get.ensures.lookup c.deref.ensures.value))

pub returns-in-Some-get : goal.returns-in-Some-get
returns-in-Some-get c = rw c.in-Root.is (rw c.in-Some-get.is at
    (listed (λ process. process.root) c.args.description.now.processes.items _ c.in-Root.k _ c.get-in-Root.ensures.lookup
    c.deref-in-Root.ensures.value))

pub returns-in-None-get : goal.returns-in-None-get
returns-in-None-get c = rw c.in-Root.is (rw c.in-None-get.is at
    (listed (λ process. process.root) c.args.description.now.processes.items _ c.in-Root.k _ c.get-in-Root.ensures.lookup
    c.deref-in-Root.ensures.value))

pub returns-in-Some-get-2 : goal.returns-in-Some-get-2
returns-in-Some-get-2 c = rw c.in-Annex.is (rw c.in-Some-get-2.is at
    (listed (λ process. process.annex) c.args.description.now.processes.items _ c.in-Annex.k _ c.get-in-Annex.ensures.lookup
    c.deref-in-Annex.ensures.value))

pub returns-in-None-get-2 : goal.returns-in-None-get-2
returns-in-None-get-2 c = rw c.in-Annex.is (rw c.in-None-get-2.is at
    (listed (λ process. process.annex) c.args.description.now.processes.items _ c.in-Annex.k _ c.get-in-Annex.ensures.lookup
    c.deref-in-Annex.ensures.value))

pub returns-in-Some-get-3 : goal.returns-in-Some-get-3
returns-in-Some-get-3 c = rw c.in-Node.is (rw c.in-Some-get-3.is at
    (listed (λ node. node.number) c.args.description.now.nodes.items _ c.in-Node.k _ c.get-in-Node.ensures.lookup
    c.deref-in-Node.ensures.value))

pub returns-in-None-get-3 : goal.returns-in-None-get-3
returns-in-None-get-3 c = rw c.in-Node.is (rw c.in-None-get-3.is at
    (listed (λ node. node.number) c.args.description.now.nodes.items _ c.in-Node.k _ c.get-in-Node.ensures.lookup
    c.deref-in-Node.ensures.value))

pub returns-in-Some-get-4 : goal.returns-in-Some-get-4
returns-in-Some-get-4 c = rw c.in-Page.is (rw c.in-Some-get-4.is at
    (listed (λ page. page.number) c.args.description.now.pages.items _ c.in-Page.k _ c.get-in-Page.ensures.lookup
    c.deref-in-Page.ensures.value))

pub returns-in-None-get-4 : goal.returns-in-None-get-4
returns-in-None-get-4 c = rw c.in-Page.is (rw c.in-None-get-4.is at
    (listed (λ page. page.number) c.args.description.now.pages.items _ c.in-Page.k _ c.get-in-Page.ensures.lookup
    c.deref-in-Page.ensures.value))
