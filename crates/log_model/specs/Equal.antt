-- Tests of equality of what rows hold: texts, entries, reasons, what documents make, changes.
-- This project's own.
use Rattle.std.specs.Prelude.{ℕ, ℤ, pos, negsuc, Bool, true, false, not, ◌&&◌, ◌||◌, ◌==◌, List, [], ◌∷◌, bytes_eq, Option, Some, None}
use Rattle.tab_ids.specs.declared.DocId.{DocId}
use Rattle.tab_ids.specs.declared.ReqId.{ReqId}
use Rattle.log_model.specs.declared.change.Change.{Change}
use Rattle.log_model.specs.declared.change.Change.TheVariants as changes
use Rattle.log_model.specs.declared.handler.LeaveCause.{LeaveCause}
use Rattle.log_model.specs.declared.handler.LeaveCause.TheVariants as causes
use Rattle.log_model.specs.declared.job.Why.{Why}
use Rattle.log_model.specs.declared.job.Why.TheVariants as whys
use Rattle.log_model.specs.declared.made.What.{What}
use Rattle.log_model.specs.declared.made.What.TheVariants as whats
use Rattle.log_model.specs.declared.outcome.Denial.{Denial}
use Rattle.log_model.specs.declared.outcome.Denial.TheVariants as denials
use Rattle.log_model.specs.declared.request.Mode.{Mode}
use Rattle.log_model.specs.declared.request.Mode.TheVariants as modes
use Rattle.log_model.specs.declared.row_kind.Actor.{Actor}
use Rattle.log_model.specs.declared.row_kind.Actor.TheVariants as actors
use Rattle.log_model.specs.History.{same_entry}

-- ---- tests on what may be missing

-- a test of what is there, if it is there
abbrev pub holds : {A : Type 0} → (A → Bool) → Option A → Bool
holds test None = false
holds test (Some a) = test a

-- a premise that is tested
abbrev pub implies : Bool → Bool → Bool
implies true b = b
implies false b = true

-- both are missing, or both are there and pass the test of equality
abbrev pub same_option : {A : Type 0} → (A → A → Bool) → Option A → Option A → Bool
same_option same None None = true
same_option same (Some a) (Some b) = same a b
same_option same _ _ = false

-- two lists have the same items in the same order
abbrev pub same_list : {A : Type 0} → (A → A → Bool) → List A → List A → Bool
same_list same [] [] = true
same_list same (a ∷ as_) (b ∷ bs) = same a b && same_list same as_ bs
same_list same _ _ = false

-- ---- plain values

-- two truth values are the same
abbrev pub same_bool : Bool → Bool → Bool
same_bool true b = b
same_bool false b = not b

-- two deltas are the same
abbrev pub same_delta : ℤ → ℤ → Bool
same_delta (pos a) (pos b) = a == b
same_delta (negsuc a) (negsuc b) = a == b
same_delta _ _ = false

-- two handler slots are the same
abbrev pub same_slot : Option ℕ → Option ℕ → Bool
same_slot a b = same_option (λ (m : ℕ) (n : ℕ). m == n) a b

-- two pairs of length and index are the same
abbrev pub same_pair : ℕ × ℕ → ℕ × ℕ → Bool
same_pair a b = a.0 == b.0 && a.1 == b.1

-- two requests have the same number
abbrev pub same_req : ReqId → ReqId → Bool
same_req a b = a.0 == b.0

-- two documents have the same number
abbrev pub same_doc : DocId → DocId → Bool
same_doc a b = a.0 == b.0

-- the request is in the list
abbrev pub has_req : List ReqId → ReqId → Bool
has_req [] req = false
has_req (first ∷ reqs) req = first.0 == req.0 || has_req reqs req

-- the document is in the list
abbrev pub has_doc : List DocId → DocId → Bool
has_doc [] doc = false
has_doc (first ∷ docs) doc = first.0 == doc.0 || has_doc docs doc

-- ---- enumerations

-- two actors are the same
abbrev pub same_actor : Actor → Actor → Bool
same_actor actors.Start actors.Start = true
same_actor actors.Ui actors.Ui = true
same_actor actors.Coord actors.Coord = true
same_actor (actors.Proc a) (actors.Proc b) = a.0 == b.0
same_actor _ _ = false

-- two modes are the same
abbrev pub same_mode : Mode → Mode → Bool
same_mode modes.Auto modes.Auto = true
same_mode modes.Push modes.Push = true
same_mode modes.Replace modes.Replace = true
same_mode _ _ = false

-- two causes of leaving are the same
abbrev pub same_leaving : LeaveCause → LeaveCause → Bool
same_leaving causes.Load causes.Load = true
same_leaving causes.Traverse causes.Traverse = true
same_leaving causes.Reload causes.Reload = true
same_leaving _ _ = false

-- two reasons of a refusal are the same
abbrev pub same_denial : Denial → Denial → Bool
same_denial denials.NoStep denials.NoStep = true
same_denial denials.NoNavigable denials.NoNavigable = true
same_denial denials.NotShown denials.NotShown = true
same_denial denials.NoDocument denials.NoDocument = true
same_denial denials.NavTaken denials.NavTaken = true
same_denial denials.BadAddress denials.BadAddress = true
same_denial _ _ = false

-- two orders are for the same
abbrev pub same_why : Why → Why → Bool
same_why (whys.Req a) (whys.Req b) = a.0 == b.0
same_why (whys.Death a) (whys.Death b) = a.0 == b.0
same_why whys.Evict whys.Evict = true
same_why whys.Start whys.Start = true
same_why _ _ = false

-- ---- what documents make, and changes

-- two memos are the same
abbrev pub same_memo : Option (List ℕ) → Option (List ℕ) → Bool
same_memo None None = true
same_memo (Some a) (Some b) = bytes_eq a b
same_memo _ _ = false

-- a document made the same new entry
abbrev pub same_new_entry : What → What → Bool
same_new_entry (whats.Push e m a) (whats.Push e' m' a') = same_entry e e' && same_memo m m' && bytes_eq a a'
same_new_entry (whats.Replace o e m a) (whats.Replace o' e' m' a') =
    same_entry o o' && same_entry e e' && same_memo m m' && bytes_eq a a'
same_new_entry _ _ = false

-- a document made the same
abbrev pub same_what : What → What → Bool
same_what (whats.AddFrame n) (whats.AddFrame n') = n.0 == n'.0
same_what (whats.RemoveFrame n) (whats.RemoveFrame n') = n.0 == n'.0
same_what (whats.Go d) (whats.Go d') = same_delta d d'
same_what whats.Edit whats.Edit = true
same_what a b = same_new_entry a b

-- two changes are the same push, or the same replace
abbrev pub same_new_row : Change → Change → Bool
same_new_row (changes.Push n e s a m) (changes.Push n' e' s' a' m') =
    n.0 == n'.0 && same_entry e e' && s.0 == s'.0 && bytes_eq a a' && same_memo m m'
same_new_row (changes.Replace n o e s a m) (changes.Replace n' o' e' s' a' m') =
    n.0 == n'.0 && same_entry o o' && same_entry e e' && s.0 == s'.0 && bytes_eq a a' && same_memo m m'
same_new_row _ _ = false

-- two changes are the same
abbrev pub same_change : Change → Change → Bool
same_change (changes.AddFrame o n e s) (changes.AddFrame o' n' e' s') =
    o.0 == o'.0 && n.0 == n'.0 && same_entry e e' && s.0 == s'.0
same_change (changes.RemoveFrame n) (changes.RemoveFrame n') = n.0 == n'.0
same_change (changes.Traverse g) (changes.Traverse g') = g.0 == g'.0
same_change (changes.Reload n) (changes.Reload n') = n.0 == n'.0
same_change changes.Edit changes.Edit = true
same_change a b = same_new_row a b
