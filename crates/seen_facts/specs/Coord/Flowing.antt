-- What is true between two rows of the documents of all awake navigables, whatever is on its way.
-- HTML Standard, "apply the history step" and "URL and history update steps"; the exact form is this project's own.
use Rattle.tab_ids.specs.declared.DocId.{DocId}
use Rattle.log_model.specs.Seen.{Seen}
use Rattle.seen_facts.specs.Coord.Leading.{EachLeads, EachLeadsBut, EachIsOfItsNavigable}
use Rattle.seen_facts.specs.Coord.Reaching.{EachReaches}
use Rattle.seen_facts.specs.Coord.Epochs.{EachIsWithin}

-- what is on its way leads on, each document is of the navigable that is awake on it, once a view is under its epoch only orders come that leave what it shows, and no document is ahead of its navigable
pub record Flows (s : Seen) : Type 0 where
  pub leads : EachLeads s
  pub whose : EachIsOfItsNavigable s
  pub reaches : EachReaches s
  pub within : EachIsWithin s

-- the same between an applied push of the document and the order that tells it of that
pub record FlowsBut (doc : DocId) (s : Seen) : Type 0 where
  pub leads : EachLeadsBut doc s
  pub whose : EachIsOfItsNavigable s
  pub reaches : EachReaches s
  pub within : EachIsWithin s
