use Rattle.image_describer.proofs.Names.{codes, Some, refl, string_bytes, on_ok_weaker, process_fields, slot_text, state_value}
use Rattle.image_describer.proofs.Added.{object_added, same_list, same_value}
use Rattle.image_describer.proofs.text.ProcessEntryLines.put.Goals as goal

pub returns : goal.returns
returns c = on_ok_weaker c.put_list_unless_empty.result (λ last.
    object_added (string_bytes c.args.text.now) (string_bytes c.put_header.new.text) (string_bytes c.put_list_unless_empty.new.text)
    (codes "process")
    (process_fields c.args.self.now) c.in_ok-put_header.ensures (
      string_bytes c.put_number.new.text,
      c.in_ok-put_number.ensures,
      (
        string_bytes c.put_number-2.new.text,
        c.in_ok-put_number-2.ensures,
        (
          string_bytes c.put_number-3.new.text,
          c.in_ok-put_number-3.ensures,
          (
            string_bytes c.put_state.new.text,
            same_value (string_bytes c.put_number-3.new.text) (string_bytes c.put_state.new.text) (codes "state") state_value
                (Some c.in-Some.state)
                c.args.self.now.state c.in_ok-put_state.ensures c.in-Some.is,
            (
              string_bytes c.put_number_unless.new.text,
              c.in_ok-put_number_unless.ensures,
              (
                string_bytes c.put_words.new.text,
                c.in_ok-put_words.ensures,
                (
                  string_bytes c.put_space.new.text,
                  c.in_ok-put_space.ensures,
                  (
                    string_bytes c.put_list_unless_empty.new.text,
                    same_list (string_bytes c.put_space.new.text) (string_bytes c.put_list_unless_empty.new.text) (codes "registers")
                        slot_text
                        c.deref.result.now c.args.self.now.registers.items last c.deref.ensures.value,
                    refl,
                  ),
                ),
              ),
            ),
          ),
        ),
      ),
    )) c.put_list_unless_empty.ensures
