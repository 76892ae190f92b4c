-- Orders on any kernel object keep sound objects sound.
use Rattle.model_laws.proofs.Names.{nat_tests, ℕ, List, arith, Capability, Void, Number, Page, Node, Space, Process, Bank, Discrim, Geometry, Object, Arguments}
use Rattle.model_laws.proofs.Names.{on_bank, bank_order, page_order, node_order, process_order, on_page, on_node, on_process, order}
use Rattle.std.proofs.Common.{◌^◌, ◌==◌, ◌<◌}
use Rattle.model_laws.proofs.Cases.{chosen, found_or}
use Rattle.model_laws.proofs.SoundBanks.{on_bank_keeps}
use Rattle.model_laws.proofs.SoundOrders.{IsNow, IsOutcome, AreArguments, given_keeps, on_node_keeps, on_page_keeps}
use Rattle.model_laws.proofs.SoundOrders.{on_process_keeps, refused_keeps, replying_keeps}
use Rattle.model_laws.proofs.SoundParts.{IsHeld, Waits}

-- an order of a held capability keeps sound objects sound
pub order_keeps : (g : Geometry) (os : List Object) (c : Capability) (w : ℕ) (args : Arguments) → IsNow g os → IsHeld os (Waits os) c
    → AreArguments os args → IsOutcome g (order g os c w args)
unfolding order
order_keeps g os Void w args h held fits = refused_keeps g os _ h
order_keeps g os (Number n) w args h held fits = grind (arith, nat_tests, chosen, replying_keeps, refused_keeps)
order_keeps g os (Page o a) w args h held fits =
    found_or (IsOutcome g) (page_order w) _ (λ requested. on_page os o a requested args) (refused_keeps g os _ h)
    (λ requested. on_page_keeps g os o a requested args h held fits)
order_keeps g os (Node o a) w args h held fits =
    found_or (IsOutcome g) (node_order w) _ (λ requested. on_node os o a requested args) (refused_keeps g os _ h)
    (λ requested. on_node_keeps g os o a requested args h held fits)
order_keeps g os (Space o k a) w args h held fits = grind (arith, nat_tests, chosen, given_keeps, refused_keeps)
order_keeps g os (Bank b) w args h held fits =
    found_or (IsOutcome g) (bank_order w) _ (λ requested. on_bank g os b requested args) (refused_keeps g os _ h)
    (λ requested. on_bank_keeps g os b requested args h held.names fits)
order_keeps g os (Process p) w args h held fits =
    found_or (IsOutcome g) (process_order w) _ (λ requested. on_process os p requested args) (refused_keeps g os _ h)
    (λ requested. on_process_keeps g os p requested args h held.names fits)
order_keeps g os Discrim w args h held fits = grind (arith, nat_tests, chosen, replying_keeps, refused_keeps)
order_keeps g os c w args h held fits = refused_keeps g os _ h
