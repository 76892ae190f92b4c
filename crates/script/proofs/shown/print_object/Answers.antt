use Rattle.script.proofs.Names.{rules, sym, err_from_is_err_and, word_lines}
use Rattle.script.proofs.Fronts.{writes_same, line_fails, line_and}
use Rattle.script.proofs.Texts.{object_page, object_node, object_annex, object_root, object_bank}
use Rattle.script.proofs.shown.print_object.Goals as goal

pub returns-in_err-print-in-Page : goal.returns-in_err-print-in-Page
returns-in_err-print-in-Page g c =
    let p = err_from_is_err_and c.from_residual.result c.from_residual.ensures.1 in
    rw (p.1, p.2) (line_fails _ _ _ _ _ (word_lines c.in-Page.words) _ c.begin_heading.ensures.text
    (object_page _ _ _ _ c.in-Page.words c.in-Page.is)
    c.in_err-print-in-Page.ensures)

pub returns-in_ok-print-in-Page : goal.returns-in_ok-print-in-Page
returns-in_ok-print-in-Page g c = line_and _ _ _ _ _ _ _ _ c.begin_heading.ensures.text (object_page _ _ _ _ _ c.in-Page.is)
    c.in_ok-print-in-Page.ensures (rw c.as_slice.ensures.value at c.print_words.ensures)

pub returns-in-Bank : goal.returns-in-Bank
returns-in-Bank g c = writes_same _ _ _ _ _ (rw c.begin_bank.ensures.text (sym (object_bank _ _ _ _ c.in-Bank.limit c.in-Bank.is)))
    c.print-in-Bank.ensures

pub returns-in-Node : goal.returns-in-Node
returns-in-Node g c = search (rules, writes_same, object_node)

pub returns-in-Root : goal.returns-in-Root
returns-in-Root g c = search (rules, writes_same, object_root)

pub returns-in-Annex : goal.returns-in-Annex
returns-in-Annex g c = search (rules, writes_same, object_annex)
