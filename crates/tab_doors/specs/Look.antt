-- What the coordinator's tables tell of what a log has come to.
-- This project's own. Documents, navigables and session history are the HTML Standard's.
use Rattle.log_model.specs.History.{History}
use Rattle.log_model.specs.Seen.{Asked, Document, Place, Seen, request_in}
use Rattle.std.specs.Option.{option_map_or}
use Rattle.std.specs.Prelude.{Bool, List, None, Option, Some, [], find, map, not, ℕ, ◌&&◌, ◌==◌}
use Rattle.tab_ids.specs.declared.DocId.{DocId}
use Rattle.tab_ids.specs.declared.NavId.{NavId}
use Rattle.tab_ids.specs.declared.ProcId.{ProcId}
use Rattle.tab_ids.specs.declared.ReqId.{ReqId}
use Rattle.tab_ids.specs.declared.StateId.{StateId}

-- what is told of a document: whose it is, where, what it was told, and whether it is made and still there
pub record Sight : Type 0 where
  pub nr : DocId
  pub nav : NavId
  pub state : StateId
  pub proc : ProcId
  pub slot : Option ℕ
  pub told : Option (ℕ × ℕ)
  pub is_ready : Bool
  pub is_discarded : Bool
  pub is_known_dead : Bool

abbrev pub sight : Document → Sight
sight d =
    record {
      nr = d.nr;
      nav = d.nav;
      state = d.state;
      proc = d.proc;
      slot = d.slot;
      told = d.told;
      is_ready = d.is_ready;
      is_discarded = d.is_discarded;
      is_known_dead = d.is_known_dead;
    }

-- the navigables that the running traversal has moved
abbrev pub moved_by : List Asked → Option ReqId → List NavId
moved_by asked None = []
moved_by asked (Some req) = option_map_or (λ (q : Asked). q.moved) (request_in asked req) []

-- all of it
pub record Look : Type 0 where
  pub documents : List Sight
  pub places : List Place
  pub history : History
  pub moved : List NavId
  pub jobs : ℕ
  pub states : ℕ
  pub entries : ℕ

-- where this traversal runs, or none
abbrev pub look_of : Seen → Option ReqId → Look
look_of s run =
    record {
      documents = map sight s.documents;
      places = s.places;
      history = s.history;
      moved = moved_by s.requests run;
      jobs = s.jobs;
      states = s.states;
      entries = s.entries;
    }

-- the document with a number
abbrev pub sight_in : List Sight → DocId → Option Sight
sight_in documents doc = find (λ (d : Sight). d.nr.0 == doc.0) documents

-- the document is there for the document state: made, and neither discarded nor known to be dead
abbrev pub is_live_for : StateId → Sight → Bool
is_live_for state d = d.state.0 == state.0 && d.is_ready && not d.is_discarded && not d.is_known_dead

-- a document of the state is being made
abbrev pub is_made_for : StateId → Sight → Bool
is_made_for state d = d.state.0 == state.0 && not d.is_ready && not d.is_known_dead
