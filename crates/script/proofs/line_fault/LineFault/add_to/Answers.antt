use Rattle.script.proofs.line_fault.LineFault.add_to.Goals as goal

pub returns-in-Long-clause-text : goal.returns-in-Long-clause-text
returns-in-Long-clause-text c = rw c.in-Long.is c.word.ensures

pub returns-in-CarriageReturn-clause-text : goal.returns-in-CarriageReturn-clause-text
returns-in-CarriageReturn-clause-text c = rw c.in-CarriageReturn.is c.word-in-CarriageReturn.ensures

pub returns-in-Tab-clause-text : goal.returns-in-Tab-clause-text
returns-in-Tab-clause-text c = rw c.in-Tab.is c.word-in-Tab.ensures

pub returns-in-EmptyWord-clause-text : goal.returns-in-EmptyWord-clause-text
returns-in-EmptyWord-clause-text c = rw c.in-EmptyWord.is c.add_numbered.ensures.text

pub returns-in-NoCommand-clause-text : goal.returns-in-NoCommand-clause-text
returns-in-NoCommand-clause-text c = rw c.in-NoCommand.is c.word-in-NoCommand.ensures

pub returns-in-FewWords-clause-text : goal.returns-in-FewWords-clause-text
returns-in-FewWords-clause-text c = rw c.in-FewWords.is c.add_number.ensures.text

pub returns-in-ManyWords-clause-text : goal.returns-in-ManyWords-clause-text
returns-in-ManyWords-clause-text c = rw c.in-ManyWords.is c.add_number-in-ManyWords.ensures.text

pub returns-in-NoNumber-clause-text : goal.returns-in-NoNumber-clause-text
returns-in-NoNumber-clause-text c = rw c.in-NoNumber.is c.add_numbered-in-NoNumber.ensures.text

pub returns-in-LeadingZero-clause-text : goal.returns-in-LeadingZero-clause-text
returns-in-LeadingZero-clause-text c = rw c.in-LeadingZero.is c.add_numbered-in-LeadingZero.ensures.text

pub returns-in-Great-clause-text : goal.returns-in-Great-clause-text
returns-in-Great-clause-text c = rw c.in-Great.is c.add_numbered-in-Great.ensures.text

pub returns-in-NoRegister-clause-text : goal.returns-in-NoRegister-clause-text
returns-in-NoRegister-clause-text c = rw c.in-NoRegister.is c.add_numbered-in-NoRegister.ensures.text
