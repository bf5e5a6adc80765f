-- When a document that is left is discarded: it doesn't become a kept one.
-- HTML Standard, "destroy a document" and "apply the history step"; how many documents are kept is left to the browser, and the exact causes are this project's own.
use Rattle.log_model.specs.AfterPlaces.{without_doc}
use Rattle.log_model.specs.Formed.{last_of}
use Rattle.log_model.specs.Orders.{shows_another}
use Rattle.log_model.specs.Seen.{Document, Place, Seen, place_of, request_of}
use Rattle.log_model.specs.declared.header.Header.{Header}
use Rattle.log_model.specs.declared.job.Job.{Job}
use Rattle.log_model.specs.declared.job.Why.{Why}
use Rattle.log_model.specs.declared.row_kind.LogRow.{LogRow}
use Rattle.seen_laws.specs.Sending.{IsTo}
use Rattle.std.specs.List.{list_any}
use Rattle.std.specs.Prelude.{Bool, List, None, Some, is_some, length, nat_lt, true, ◌≡◌, ◌∷◌}
use Rattle.tab_ids.specs.declared.DocId.{DocId}
use Rattle.log_model.specs.declared.job.Task.TheVariants as tasks
use Rattle.log_model.specs.declared.job.Why.TheVariants as whys

-- the request that an order is for, if it is for one, is there
abbrev pub is_for_one : Seen → Why → Bool
is_for_one s (whys.Req req) = is_some (request_of s req)
is_for_one s _ = true

-- the order discards a document without a handler
pub record IsDiscardOf (s : Seen) (job : Job) (d : Document) : Type 0 where
  pub task : job.task ≡ tasks.Discard
  pub to : IsTo s job d
  pub unhandled : d.slot ≡ None
  pub for_one : is_for_one s job.why ≡ true

-- the order discards the document that its navigable was shown last
pub record IsLeaveDue (s : Seen) (job : Job) (d : Document) : Type 0 where
  pub discards : IsDiscardOf s job d
  pub place : Place
  pub placed : place_of s d.nav ≡ Some place
  pub last : place.last ≡ Some d.nr

-- a later row shows the navigable another document
abbrev pub IsLeftLater : Seen → Document → List LogRow → Type 0
IsLeftLater s d later = list_any (shows_another s d) later ≡ true

-- the kept documents with the one that is left in front
abbrev pub kept_and_left : Seen → Document → List DocId
kept_and_left s d = d.nr ∷ without_doc d.nr s.kept

-- with it more documents are kept than may be, and it is the last of them: it can't be kept
pub record IsTooMany (header : Header) (s : Seen) (d : Document) : Type 0 where
  pub last : last_of (kept_and_left s d) ≡ Some d.nr
  pub many : nat_lt header.keep (length (kept_and_left s d)) ≡ true
