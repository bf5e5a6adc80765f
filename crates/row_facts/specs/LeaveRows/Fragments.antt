-- A load that is a fragment navigation: when its order is sent, done and delivered, and when what the document made of it is applied.
-- HTML Standard, "navigate to a fragment"; that the document's process does it on an order is this project's own.
use Rattle.log_model.specs.AfterRequests.{changes_history}
use Rattle.log_model.specs.Places.{aim_of, given_row, has_passed, is_awake_on, is_fragment_navigation, stands}
use Rattle.log_model.specs.Points.{is_accepted_here}
use Rattle.log_model.specs.Queue.{is_taken_up_at_once}
use Rattle.log_model.specs.Seen.{Asked, Document, Place, Seen, desk_of, document_of, place_of, request_of}
use Rattle.log_model.specs.Views.{View, is_fragment_replace, new_entry}
use Rattle.log_model.specs.declared.job.Job.{Job}
use Rattle.log_model.specs.declared.job.Order.{Order}
use Rattle.log_model.specs.declared.made.Made.{Made}
use Rattle.log_model.specs.declared.made.What.{What}
use Rattle.log_model.specs.declared.request.Mode.{Mode}
use Rattle.log_model.specs.declared.row.Row.{Row}
use Rattle.seen_laws.specs.Blocks.{Here, point_at}
use Rattle.seen_laws.specs.Sending.{IsTo}
use Rattle.std.specs.Prelude.{List, None, Some, [], false, not, true, ℕ, ◌≡◌}
use Rattle.tab_ids.specs.declared.NavId.{NavId}
use Rattle.tab_ids.specs.declared.ProcId.{ProcId}
use Rattle.tab_ids.specs.declared.ReqId.{ReqId}
use Rattle.log_model.specs.declared.job.Task.TheVariants as tasks
use Rattle.log_model.specs.declared.request.Request.TheVariants as requests

-- ---- the order

-- the order asks the document that an awake navigable shows for a load accepted in this event, which is a fragment navigation from its given entry
pub record IsFragmentDue (h : Here) (job : Job) (d : Document) (req : ReqId) (nav : NavId) (mode : Mode) (address : List ℕ) (q : Asked) : Type 0 where
  pub task : job.task ≡ tasks.DoFragment req mode address
  pub to : IsTo h.now job d
  pub at : request_of h.now req ≡ Some q
  pub what : q.what ≡ requests.Load nav mode address
  pub accepted : is_accepted_here (point_at h []) req ≡ true
  pub place : Place
  pub placed : place_of h.now nav ≡ Some place
  pub is_awake : is_awake_on job.doc place ≡ true
  pub stand : stands h.now (aim_of h.now) place.nav ≡ true
  pub row : Row
  pub given : given_row h.now place ≡ Some row
  pub is_fragment : is_fragment_navigation row.address address ≡ true

-- ---- what the document makes

-- a new entry at the address, in the place of the active one or after it
abbrev pub fragment_of : View → Mode → List ℕ → What
fragment_of view mode address = new_entry view (not (is_fragment_replace view mode address)) None address

-- the process has the fragment order in hand, and its document runs there
pub record IsFragmentInHand (s : Seen) (proc : ProcId) (order : Order) (req : ReqId) (mode : Mode) (address : List ℕ) (d : Document) (view : View) : Type 0 where
  pub hand : (desk_of s proc).in_hand ≡ Some order
  pub task : order.job.task ≡ tasks.DoFragment req mode address
  pub found : document_of s order.job.doc ≡ Some d
  pub home : d.proc ≡ proc
  pub has : d.view ≡ Some view
  pub of : view.doc ≡ order.job.doc
  pub runs : view.running ≡ true

-- ---- what was made is applied

-- it is a load that never began and has passed its unload check; of it this was made, which is to be taken up now
pub record IsFragmentMade (s : Seen) (q : Asked) (made : Made) : Type 0 where
  pub nav : NavId
  pub mode : Mode
  pub address : List ℕ
  pub what : q.what ≡ requests.Load nav mode address
  pub unstarted : q.is_started ≡ false
  pub passed : has_passed s q ≡ true
  pub makes : q.made ≡ Some made
  pub changes : changes_history made.what ≡ true
  pub at_once : is_taken_up_at_once s made ≡ true
