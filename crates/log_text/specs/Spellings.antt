-- How a line of a log spells numbers that name things, what may be missing, and the words of enums.
-- This project's own.
use Rattle.std.specs.Prelude.{ℕ, Bool, true, false, List, ◌++◌, codes, decimal, Option, Some, None}
use Rattle.tab_ids.specs.declared.NavId.{NavId}
use Rattle.tab_ids.specs.declared.StateId.{StateId}
use Rattle.tab_ids.specs.declared.ReqId.{ReqId}
use Rattle.tab_ids.specs.declared.ProcId.{ProcId}
use Rattle.tab_ids.specs.declared.Death.{Death}
use Rattle.tab_ids.specs.declared.DocId.{DocId}
use Rattle.tab_ids.specs.declared.JobId.{JobId}
use Rattle.tab_ids.specs.declared.EntryId.{EntryId}
use Rattle.log_model.specs.declared.handler.LeaveCause.{LeaveCause}
use Rattle.log_model.specs.declared.handler.LeaveCause.TheVariants as leaves
use Rattle.log_model.specs.declared.handler.Verdict.{Verdict}
use Rattle.log_model.specs.declared.handler.Verdict.TheVariants as verdicts
use Rattle.log_model.specs.declared.job.Why.{Why}
use Rattle.log_model.specs.declared.job.Why.TheVariants as whys
use Rattle.log_model.specs.declared.outcome.Denial.{Denial}
use Rattle.log_model.specs.declared.outcome.Denial.TheVariants as denials
use Rattle.log_model.specs.declared.request.Mode.{Mode}
use Rattle.log_model.specs.declared.request.Mode.TheVariants as modes
use Rattle.log_model.specs.declared.row_kind.Actor.{Actor}
use Rattle.log_model.specs.declared.row_kind.Actor.TheVariants as actors

-- ---- numbers that name things

-- a navigable: 0 is the one at the top
abbrev pub nav_name : NavId → List ℕ
nav_name nav = codes "n" ++ decimal nav.0

-- an entry: its maker's document, 0 for the coordinator, and which of that maker's entries it is
abbrev pub entry_name : EntryId → List ℕ
entry_name entry = codes "e" ++ decimal entry.maker ++ codes "." ++ decimal entry.nr

-- a document state
abbrev pub state_name : StateId → List ℕ
state_name state = codes "s" ++ decimal state.0

-- a document
abbrev pub doc_name : DocId → List ℕ
doc_name doc = codes "d" ++ decimal doc.0

-- a document process
abbrev pub proc_name : ProcId → List ℕ
proc_name proc = codes "p" ++ decimal proc.0

-- a request
abbrev pub req_name : ReqId → List ℕ
req_name req = codes "r" ++ decimal req.0

-- an order to a process
abbrev pub job_name : JobId → List ℕ
job_name job = codes "j" ++ decimal job.0

-- a death of a process
abbrev pub death_name : Death → List ℕ
death_name death = codes "x" ++ decimal death.0

-- ---- what may be missing

-- what is missing is a dash
abbrev pub dash : List ℕ
dash = codes "-"

-- the history API's state, where an entry has one
abbrev pub memo_name : Option (List ℕ) → List ℕ
memo_name (Some memo) = memo
memo_name None = dash

-- the handler slot of a document, where it has one
abbrev pub slot_name : Option ℕ → List ℕ
slot_name (Some slot) = decimal slot
slot_name None = dash

-- the document that is poked, where one is
abbrev pub poked_name : Option DocId → List ℕ
poked_name (Some doc) = doc_name doc
poked_name None = dash

-- ---- who acts, and why

-- who acts in an event: the start, the user, the coordinator or a process
abbrev pub actor_name : Actor → List ℕ
actor_name actors.Start = codes "start"
actor_name actors.Ui = codes "ui"
actor_name actors.Coord = codes "co"
actor_name (actors.Proc proc) = proc_name proc

-- what an order was sent for
abbrev pub why_name : Why → List ℕ
why_name (whys.Req req) = req_name req
why_name (whys.Death death) = death_name death
why_name whys.Evict = codes "evict"
why_name whys.Start = codes "start"

-- why a request was refused
abbrev pub denial_name : Denial → List ℕ
denial_name denials.NoStep = codes "no-step"
denial_name denials.NoNavigable = codes "no-navigable"
denial_name denials.NotShown = codes "not-shown"
denial_name denials.NoDocument = codes "no-document"
denial_name denials.NavTaken = codes "nav-taken"
denial_name denials.BadAddress = codes "address"

-- why a document is asked whether it may be left
abbrev pub leave_cause_name : LeaveCause → List ℕ
leave_cause_name leaves.Load = codes "load"
leave_cause_name leaves.Traverse = codes "traverse"
leave_cause_name leaves.Reload = codes "reload"

-- what an asked document answers
abbrev pub verdict_name : Verdict → List ℕ
verdict_name verdicts.Leave = codes "leave"
verdict_name verdicts.Prompt = codes "prompt"

-- a navigation's history handling
abbrev pub mode_name : Mode → List ℕ
mode_name modes.Auto = codes "auto"
mode_name modes.Push = codes "push"
mode_name modes.Replace = codes "replace"

-- ---- what is so or not

-- the user's answer to a prompt
abbrev pub answer_name : Bool → List ℕ
answer_name true = codes "stay"
answer_name false = codes "leave"

-- whether a document is the initial one of its navigable
abbrev pub initial_name : Bool → List ℕ
initial_name true = codes "initial"
initial_name false = codes "plain"

-- whether a document had unsaved edits
abbrev pub dirty_name : Bool → List ℕ
dirty_name true = codes "dirty"
dirty_name false = codes "clean"
