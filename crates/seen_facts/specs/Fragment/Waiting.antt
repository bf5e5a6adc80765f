-- What is on its way leads on within an event, too, where something that a document made is at hand.
-- HTML Standard, "URL and history update steps"; the exact form is this project's own.
use Rattle.std.specs.Prelude.{List, ◌++◌}
use Rattle.log_model.specs.declared.made.Made.{Made}
use Rattle.log_model.specs.Seen.{Seen}
use Rattle.seen_facts.specs.Coord.Epochs.{EachDocument, IsWithin}
use Rattle.seen_facts.specs.Coord.Leading.{EachAwake, EachIsOfItsNavigable, Leads, held_back}
use Rattle.seen_facts.specs.Coord.Reaching.{EachReaches}

-- what is true between two rows of the documents of all awake navigables, with these at hand after those that are held back
pub record FlowsWith (hand : List Made) (s : Seen) : Type 0 where
  pub leads : EachAwake (Leads s.history.rows (held_back s.requests s.parked ++ hand)) s
  pub whose : EachIsOfItsNavigable s
  pub reaches : EachReaches s
  pub within : EachDocument (IsWithin (held_back s.requests s.parked ++ hand)) s
