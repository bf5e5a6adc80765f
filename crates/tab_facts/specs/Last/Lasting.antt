-- What lasts in a tab with loads and documents that are left or kept: documents act under an epoch under which they were shown, pokes are of the navigables of their documents, a navigable whose last entries were taken has none, and orders name the states of the documents that they make.
-- HTML Standard, "attempt to populate the history entry's document", "destroy a document" and "destroy a child navigable"; epochs and orders are this project's own.
use Rattle.tab_ids.specs.declared.ProcId.{ProcId}
use Rattle.tab_ids.specs.declared.ReqId.{ReqId}
use Rattle.log_model.specs.Seen.{Asked, Seen, desk_of}
use Rattle.seen_facts.specs.Each.Runs.{EachAsked}
use Rattle.tab_facts.specs.Frame.Lasting.{AreTakenBare, IsMadeShown, IsRunShown, NameTheirStates, PokesItsNav, wish}
use Rattle.tab_facts.specs.Frame.Moving.{AreMoves}
use Rattle.tab_facts.specs.FrameTab.Alive.{EachThere}

-- all of it; and whom requests have moved
pub record AreLasting (s : Seen) : Type 0 where
  pub shown : EachThere IsRunShown s.documents
  pub made : EachAsked (λ (req : ReqId) (q : Asked). IsMadeShown (wish q)) s.requests
  pub poked : EachAsked (λ (req : ReqId) (q : Asked). PokesItsNav s.documents (wish q)) s.requests
  pub taken : AreTakenBare s
  pub populates : (proc : ProcId) → NameTheirStates s.documents (desk_of s proc)
  pub moves : AreMoves s
