-- What a document shows of itself, what it makes of an action, and what an order does to it.
-- HTML Standard, "The History interface" ("shared history push/replace state steps", "URL and history update steps"), "Navigating to a fragment", "Updating the document".
-- This project's own: the guess of length and index on a push, and that a push in an initial about:blank document is a replace.
use Rattle.std.specs.Prelude.{ℕ, ◌+◌, Bool, true, false, not, ◌&&◌, ◌||◌, List, bytes_eq, Option, Some, None, option_map, option_and_then, if◌then◌else◌}
use Rattle.std.specs.Result.{result_ok}
use Rattle.tab_ids.specs.declared.DocId.{DocId}
use Rattle.tab_ids.specs.declared.EntryId.{EntryId}
use Rattle.tab_ids.specs.declared.Epoch.{Epoch}
use Rattle.tab_ids.specs.declared.ReqId.{ReqId}
use Rattle.address.specs.Addresses.{resolved, with_fragment, is_rewritable, blank_text}
use Rattle.log_model.specs.declared.request.Mode.{Mode}
use Rattle.log_model.specs.declared.request.Mode.TheVariants as modes
use Rattle.log_model.specs.declared.action.Action.{Action}
use Rattle.log_model.specs.declared.action.Action.TheVariants as actions
use Rattle.log_model.specs.declared.made.What.{What}
use Rattle.log_model.specs.declared.made.What.TheVariants as whats
use Rattle.log_model.specs.declared.made.Made.{Made}
use Rattle.log_model.specs.declared.job.Task.{Task}
use Rattle.log_model.specs.declared.job.Task.TheVariants as tasks

-- a document's view: its active entry with address and memo, the history object's length and index, its epoch, whether it runs, has unsaved edits, is an initial about:blank, and how many entries it has numbered
pub record View : Type 0 where
  pub doc : DocId
  pub entry : EntryId
  pub address : List ℕ
  pub memo : Option (List ℕ)
  pub length : ℕ
  pub index : ℕ
  pub epoch : Epoch
  pub running : Bool
  pub dirty : Bool
  pub initial : Bool
  pub numbered : ℕ

-- a populated document before its first activation
abbrev pub fresh_view : DocId → List ℕ → Bool → View
fresh_view doc address initial =
    record {
      doc = doc;
      entry = record { maker = 0; nr = 0 };
      address = address;
      memo = None;
      length = 1;
      index = 0;
      epoch = record { 0 = 0 };
      running = false;
      dirty = false;
      initial = initial;
      numbered = 0;
    }

-- the document of a tab that was just opened: it runs at the first entry, and is initial where it is about:blank
abbrev pub opening_view : DocId → EntryId → List ℕ → View
opening_view doc entry address =
    record (fresh_view doc address (bytes_eq address blank_text)) {
      entry = entry;
      epoch = record { 0 = 1 };
      running = true;
    }

-- ---- what a document makes

-- the number of the next entry that the document makes
abbrev pub next_entry : View → EntryId
next_entry view = record { maker = view.doc.0; nr = view.numbered + 1 }

-- a push of a new entry, or a replace of the active one
abbrev pub new_entry : View → Bool → Option (List ℕ) → List ℕ → What
new_entry view true memo address = whats.Push (next_entry view) memo address
new_entry view false memo address = whats.Replace view.entry (next_entry view) memo address

-- the address if the document may be rewritten to it
abbrev pub rewritten : List ℕ → List ℕ → Option (List ℕ)
rewritten from to = if is_rewritable from to then Some to else None

-- the address of pushState and replaceState: the document's own without a reference, else the reference's where it resolves and the document may be rewritten to it
abbrev pub new_address : View → Option (List ℕ) → Option (List ℕ)
new_address view None = Some view.address
new_address view (Some reference) =
    option_and_then (rewritten view.address) (result_ok (resolved view.address reference))

-- what a running document makes of an action; none is the refusal for its address
abbrev pub made_by : View → Action → Option What
made_by view (actions.Push memo reference) =
    option_map (new_entry view (not view.initial) memo) (new_address view reference)
made_by view (actions.Replace memo reference) = option_map (new_entry view false memo) (new_address view reference)
made_by view (actions.Fragment text) =
    option_map (λ address. new_entry view (not view.initial && not (bytes_eq address view.address)) None address)
    (result_ok (with_fragment view.address text))
made_by view (actions.AddFrame nav) = Some (whats.AddFrame nav)
made_by view (actions.RemoveFrame nav) = Some (whats.RemoveFrame nav)
made_by view (actions.Go delta) = Some (whats.Go delta)
made_by view actions.Edit = Some whats.Edit

-- what was made, with the request, the document and its epoch
abbrev pub made_for : View → ReqId → What → Made
made_for view req what = record { req = req; doc = view.doc; epoch = view.epoch; what = what }

-- the view after what was made: a push raises the index by 1, and the length is that index plus 1
abbrev pub after_made : View → What → View
after_made view (whats.Push entry memo address) =
    record view {
      entry = entry;
      address = address;
      memo = memo;
      index = view.index + 1;
      length = view.index + 2;
      numbered = view.numbered + 1;
    }
after_made view (whats.Replace over entry memo address) =
    record view { entry = entry; address = address; memo = memo; numbered = view.numbered + 1 }
after_made view (whats.AddFrame nav) = view
after_made view (whats.RemoveFrame nav) = view
after_made view (whats.Go delta) = view
after_made view whats.Edit = record view { dirty = true }

-- ---- what an order does

-- "navigate to a fragment" replaces in an initial document, in mode replace, and in mode auto where the address is the document's
abbrev pub is_fragment_replace : View → Mode → List ℕ → Bool
is_fragment_replace view modes.Auto address = view.initial || bytes_eq address view.address
is_fragment_replace view modes.Push address = view.initial
is_fragment_replace view modes.Replace address = true

-- what a document makes of an order: a running one, of a fragment order, a new entry without a memo
abbrev pub made_of_task : View → Task → Option What
made_of_task view (tasks.DoFragment req mode address) =
    if view.running then Some (new_entry view (not (is_fragment_replace view mode address)) None address) else None
made_of_task view (tasks.Populate nav state address initial) = None
made_of_task view (tasks.Activate entry epoch length index memo address) = None
made_of_task view (tasks.Update length index) = None
made_of_task view tasks.Freeze = None
made_of_task view tasks.Discard = None
made_of_task view (tasks.Ask slot cause) = None

-- the view after what was made, if anything was
abbrev pub after_made_if : View → Option What → View
after_made_if view None = view
after_made_if view (Some what) = after_made view what

-- the view after an order; making and removing it are not the view's own
abbrev pub after_task : View → Task → View
after_task view (tasks.Activate entry epoch length index memo address) =
    record view {
      entry = entry;
      address = address;
      memo = memo;
      length = length;
      index = index;
      epoch = epoch;
      running = true;
    }
after_task view (tasks.Update length index) = record view { length = length; index = index }
after_task view tasks.Freeze = record view { running = false }
after_task view (tasks.DoFragment req mode address) =
    after_made_if view (made_of_task view (tasks.DoFragment req mode address))
after_task view (tasks.Populate nav state address initial) = view
after_task view tasks.Discard = view
after_task view (tasks.Ask slot cause) = view

-- the request that a task answers by itself
abbrev pub request_of_task : Task → Option ReqId
request_of_task (tasks.DoFragment req mode address) = Some req
request_of_task (tasks.Populate nav state address initial) = None
request_of_task (tasks.Activate entry epoch length index memo address) = None
request_of_task (tasks.Update length index) = None
request_of_task tasks.Freeze = None
request_of_task tasks.Discard = None
request_of_task (tasks.Ask slot cause) = None
