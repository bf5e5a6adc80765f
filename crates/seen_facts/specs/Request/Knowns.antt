-- What is known of a request by where it is.
-- This project's own; the queue is the HTML Standard's "session history traversal queue".
use Rattle.std.specs.Prelude.{◌≡◌, ℤ, true, false, Bool, List, [], ◌∷◌, filter_map, Option, Some, None}
use Rattle.tab_ids.specs.declared.DocId.{DocId}
use Rattle.tab_ids.specs.declared.NavId.{NavId}
use Rattle.tab_ids.specs.declared.ProcId.{ProcId}
use Rattle.tab_ids.specs.declared.ReqId.{ReqId}
use Rattle.log_model.specs.declared.action.Action.{Action}
use Rattle.log_model.specs.declared.made.Made.{Made}
use Rattle.log_model.specs.declared.made.What.{What}
use Rattle.log_model.specs.declared.made.What.TheVariants as whats
use Rattle.log_model.specs.declared.request.Poke.{Poke}
use Rattle.log_model.specs.declared.request.Request.{Request}
use Rattle.log_model.specs.declared.request.Request.TheVariants as requests
use Rattle.log_model.specs.Seen.{Seen, Desk, Asked, desk_of, request_in}
use Rattle.log_model.specs.Once.{has_to_begin}
use Rattle.log_model.specs.AfterRequests.{made_of_report, changes_history}
use Rattle.seen_facts.specs.Request.Cores.{Core, core_of}

-- a document asks for a traversal
abbrev pub is_go : What → Bool
is_go (whats.Go delta) = true
is_go _ = false

-- a poke in an input: its request is open, of its document and action, and nothing was made of it
pub record IsPoke (core : Option Core) (poke : Poke) : Type 0 where
  pub nav : NavId
  pub is : core ≡ Some (record { what = requests.Poke nav poke.action; doc = Some poke.doc; made = None; ending = None })

-- what was made of an open request, which has to begin just where a document asks for a traversal, and is none of the user; the document of a poke is the one that was poked
pub record IsMadeOf (core : Option Core) (made : Made) : Type 0 where
  pub what : Request
  pub doc : Option DocId
  pub is : core ≡ Some (record { what = what; doc = doc; made = Some made; ending = None })
  pub begins : has_to_begin what ≡ is_go made.what
  pub no_user : (delta : ℤ) → what ≡ requests.Go delta → ⊥
  pub poked : (nav : NavId) (action : Action) → what ≡ requests.Poke nav action → doc ≡ Some made.doc

-- a request in the queue: it is open and has to begin; of a traversal by the user nothing was made
pub record IsJoined (core : Option Core) (req : ReqId) : Type 0 where
  pub what : Request
  pub doc : Option DocId
  pub made : Option Made
  pub is : core ≡ Some (record { what = what; doc = doc; made = made; ending = None })
  pub begins : has_to_begin what ≡ true
  pub unmade : (delta : ℤ) → what ≡ requests.Go delta → made ≡ None

-- a request whose report is held back: it is open, and what was made of it changes the history
pub record IsParked (core : Option Core) (req : ReqId) : Type 0 where
  pub made : Made
  pub of_req : made.req ≡ req
  pub is : IsMadeOf core made
  pub changes : changes_history made.what ≡ true

-- a fact of the request of each of these
abbrev pub AllOf : {A : Type 0} → (Option Core → A → Type 0) → (A → ReqId) → List Asked → List A → Type 0
AllOf F req asked [] = Unit {0}
AllOf F req asked (x ∷ xs) = F (core_of (request_in asked (req x))) x × AllOf F req asked xs

abbrev pub req_of_poke : Poke → ReqId
req_of_poke poke = poke.req

abbrev pub req_of_made : Made → ReqId
req_of_made made = made.req

abbrev pub req_itself : ReqId → ReqId
req_itself req = req

-- what is known of the requests that a desk has
pub record AreKnownAt (asked : List Asked) (desk : Desk) : Type 0 where
  pub pokes : AllOf IsPoke req_of_poke asked desk.input
  pub mades : AllOf IsMadeOf req_of_made asked (filter_map made_of_report desk.reports)

-- what is known of the requests at the desks, in the queue, and of those held back
pub record AreKnown (s : Seen) : Type 0 where
  pub desks : (proc : ProcId) → AreKnownAt s.requests (desk_of s proc)
  pub joined : AllOf IsJoined req_itself s.requests s.joined
  pub parked : AllOf IsParked req_itself s.requests s.parked
