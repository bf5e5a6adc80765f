use Rattle.log_text.proofs.naming.put_denial.Goals as goal

pub returns-in-NoNavigable : goal.returns-in-NoNavigable
returns-in-NoNavigable g c = rw c.in-NoNavigable.is c.put-in-NoNavigable.ensures

pub returns-in-NoDocument : goal.returns-in-NoDocument
returns-in-NoDocument g c = rw c.in-NoDocument.is c.put-in-NoDocument.ensures
