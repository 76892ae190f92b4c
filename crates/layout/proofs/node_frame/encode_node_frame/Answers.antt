use Rattle.layout.proofs.Names.{[], List, refl, sym, ap, rules, replicate, append-nil, Cap, void_held, content_behind, slots_of, ContentRef}
use Rattle.std.proofs.Common.{◌++◌, ◌∷◌, ◌∙◌}
use Rattle.layout.proofs.Frames.{node_written, root_count}
use Rattle.layout.proofs.node_frame.encode_node_frame.Goals as goal

abbrev slots_behind : ContentRef → List Cap
slots_behind r = slots_of (content_behind r)

pub returns-in-Root : goal.returns-in-Root
returns-in-Root c =
    node_written _ c.encode_front.new.into c.put_slots-in-Root.new.into c.root_slots.result 24 c.encode_front.ensures.before
    (ap slots_behind c.in-Root.is ∙ ap (λ (s : List Cap). s ++ replicate 24 void_held) (sym c.root_slots.ensures.slots))
    (root_count c.in-Root.root.now c.root_slots.result c.root_slots.ensures.slots c.root_slots.ensures.words) c.put_slots-in-Root.ensures

pub returns-in-Bank : goal.returns-in-Bank
returns-in-Bank c =
    node_written _ c.encode_front.new.into c.put_slots-in-Bank.new.into (c.number_cap.result ∷ []) 31 c.encode_front.ensures.before
    (ap slots_behind c.in-Bank.is ∙ ap (λ (x : Cap). x ∷ replicate 31 void_held) (sym c.number_cap.ensures)) refl
    c.put_slots-in-Bank.ensures

pub returns-in-Free : goal.returns-in-Free
returns-in-Free c =
    node_written _ c.encode_front.new.into c.put_slots.new.into [] 32 c.encode_front.ensures.before (ap slots_behind c.in-Free.is) refl
    c.put_slots.ensures

pub returns-in-Page : goal.returns-in-Page
returns-in-Page c =
    node_written _ c.encode_front.new.into c.put_slots-in-Page.new.into [] 32 c.encode_front.ensures.before (ap slots_behind c.in-Page.is)
    refl
    c.put_slots-in-Page.ensures

pub returns-in-Node : goal.returns-in-Node
returns-in-Node c =
    node_written _ c.encode_front.new.into c.put_slots-in-Node.new.into c.in-Node.slots.now 0 c.encode_front.ensures.before
    (ap slots_behind c.in-Node.is ∙ sym (append-nil c.in-Node.slots.now)) (search rules) c.put_slots-in-Node.ensures

pub returns-in-Annex : goal.returns-in-Annex
returns-in-Annex c =
    node_written _ c.encode_front.new.into c.put_slots-in-Annex.new.into c.in-Annex.registers.now 0 c.encode_front.ensures.before
    (ap slots_behind c.in-Annex.is ∙ sym (append-nil c.in-Annex.registers.now)) (search rules) c.put_slots-in-Annex.ensures
