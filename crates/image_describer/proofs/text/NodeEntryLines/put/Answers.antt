use Rattle.image_describer.proofs.Names.{codes, refl, string_bytes, on_ok_weaker, node_fields, slot_text}
use Rattle.image_describer.proofs.Added.{object_added, same_list}
use Rattle.image_describer.proofs.text.NodeEntryLines.put.Goals as goal

pub returns : goal.returns
returns c = on_ok_weaker c.put_list_unless_empty.result (λ last.
    object_added (string_bytes c.args.text.now) (string_bytes c.put_header.new.text) (string_bytes c.put_list_unless_empty.new.text)
    (codes "node")
    (node_fields c.args.self.now) c.in_ok-put_header.ensures (
      string_bytes c.put_number.new.text,
      c.in_ok-put_number.ensures,
      (
        string_bytes c.put_number-2.new.text,
        c.in_ok-put_number-2.ensures,
        (
          string_bytes c.put_list_unless_empty.new.text,
          same_list (string_bytes c.put_number-2.new.text) (string_bytes c.put_list_unless_empty.new.text) (codes "slots") slot_text
              c.deref.result.now
              c.args.self.now.slots.items last c.deref.ensures.value,
          refl,
        ),
      ),
    )) c.put_list_unless_empty.ensures
