-- Which documents are there, of which navigable each of them is, and which of them run, by navigable.
-- HTML Standard, "Navigables" and "update document for history step application". That several documents of a navigable may run for a while, each under an epoch, is this project's own.
use Rattle.std.specs.Prelude.{◌≡◌, ◌<◌, ◌≤◌, ◌⊎◌, ◌==◌, ◌&&◌, Bool, false, List, [], ◌∷◌, Option, None, Some, if◌then◌else◌}
use Rattle.std.specs.Map.{lookup}
use Rattle.std.specs.Option.{unwrap_or}
use Rattle.tab_ids.specs.declared.DocId.{DocId}
use Rattle.tab_ids.specs.declared.Epoch.{Epoch}
use Rattle.tab_ids.specs.declared.NavId.{NavId}

-- the keys are the document and the navigable
abbrev pub is_doc : DocId → DocId → Bool
is_doc doc key = doc.0 == key.0

abbrev pub is_nav : NavId → NavId → Bool
is_nav nav key = nav.0 == key.0

-- what is known: the navigable of each document that is there, and by navigable the documents that run in it, each with its epoch
pub record RunnersState : Type 0 where
  pub navs : List (DocId × NavId)
  pub running : List (NavId × List (DocId × Epoch))

-- no document is there
abbrev pub none_there : RunnersState
none_there = record { navs = []; running = [] }

-- the navigable of a document that is there
abbrev pub nav_in : List (DocId × NavId) → DocId → Option NavId
nav_in navs doc = lookup (is_doc doc) navs

-- the epoch under which a document runs, among those of one navigable
abbrev pub epoch_of : List (DocId × Epoch) → DocId → Option Epoch
epoch_of runners doc = lookup (is_doc doc) runners

-- the documents that run in a navigable
abbrev pub runners_in : List (NavId × List (DocId × Epoch)) → NavId → List (DocId × Epoch)
runners_in running nav = unwrap_or (lookup (is_nav nav) running) []

-- the epoch under which a document runs in a navigable
abbrev pub epoch_in : List (NavId × List (DocId × Epoch)) → NavId → DocId → Option Epoch
epoch_in running nav doc = epoch_of (runners_in running nav) doc

-- the same two look-ups, in what is known
abbrev pub nav_at : RunnersState → DocId → Option NavId
nav_at t doc = nav_in t.navs doc

abbrev pub epoch_at : RunnersState → NavId → DocId → Option Epoch
epoch_at t nav doc = epoch_in t.running nav doc

-- ---- changes of which documents are there

-- one document is of this navigable, or no longer there, and no other's changes
abbrev pub Becomes : DocId → Option NavId → List (DocId × NavId) → List (DocId × NavId) → Type 0
Becomes of nav old new = (doc : DocId) → nav_in new doc ≡ (if of.0 == doc.0 then nav else nav_in old doc)

-- each document is where it was
abbrev pub Stays : List (DocId × NavId) → List (DocId × NavId) → Type 0
Stays old new = (doc : DocId) → nav_in new doc ≡ nav_in old doc

-- ---- changes of who runs

-- of one navigable's, one document runs under this epoch, or no longer, and no other changes
abbrev pub Turns : DocId → Option Epoch → List (DocId × Epoch) → List (DocId × Epoch) → Type 0
Turns of epoch old new = (doc : DocId) → epoch_of new doc ≡ (if of.0 == doc.0 then epoch else epoch_of old doc)

-- there is such a navigable, and it is this one
abbrev pub is_that : Option NavId → NavId → Bool
is_that None nav = false
is_that (Some of) nav = of.0 == nav.0

-- in that navigable, if there is one, the document runs under this epoch, or no longer; no other changes, there or elsewhere
abbrev pub Runs : Option NavId → DocId → Option Epoch → List (NavId × List (DocId × Epoch)) → List (NavId × List (DocId × Epoch)) → Type 0
Runs that of epoch old new =
    (nav : NavId) (doc : DocId) → epoch_in new nav doc ≡ (if is_that that nav && of.0 == doc.0 then epoch else epoch_in old nav doc)

-- in each navigable the same documents run under the same epochs
abbrev pub RunOn : List (NavId × List (DocId × Epoch)) → List (NavId × List (DocId × Epoch)) → Type 0
RunOn old new = (nav : NavId) (doc : DocId) → epoch_in new nav doc ≡ epoch_in old nav doc

-- ---- what each call does

-- the document is there, in this navigable; who runs stays the same
pub record Places (doc : DocId) (nav : NavId) (old new : RunnersState) : Type 0 where
  pub there : Becomes doc (Some nav) old.navs new.navs
  pub runs : RunOn old.running new.running

-- where the document is there, it runs in its navigable under this epoch alone
pub record Shows (doc : DocId) (epoch : Epoch) (old new : RunnersState) : Type 0 where
  pub there : Stays old.navs new.navs
  pub runs : Runs (nav_at old doc) doc (Some epoch) old.running new.running

-- it runs no more, and is still there
pub record Stops (doc : DocId) (old new : RunnersState) : Type 0 where
  pub there : Stays old.navs new.navs
  pub runs : Runs (nav_at old doc) doc None old.running new.running

-- it runs no more, and isn't there
pub record Leaves (doc : DocId) (old new : RunnersState) : Type 0 where
  pub there : Becomes doc None old.navs new.navs
  pub runs : Runs (nav_at old doc) doc None old.running new.running

-- all is as before
pub record Keeps (old new : RunnersState) : Type 0 where
  pub there : Stays old.navs new.navs
  pub runs : RunOn old.running new.running

-- each document stands in such a list once
abbrev pub AreOnce : List (DocId × Epoch) → Type 0
AreOnce [] = Unit {0}
AreOnce (e ∷ es) = (epoch_of es e.0 ≡ None) × AreOnce es

-- ---- who runs under the greatest epoch

-- one of them runs under the greatest epoch, and has the lowest number of those that do
pub record IsFirst (runners : List (DocId × Epoch)) (doc : DocId) : Type 0 where
  pub epoch : Epoch
  pub runs : epoch_of runners doc ≡ Some epoch
  pub first : (other : DocId) (under : Epoch) → epoch_of runners other ≡ Some under → (under.0 < epoch.0) ⊎ ((under.0 ≡ epoch.0) × (doc.0 ≤ other.0))

-- it is that one; or none, where none runs
abbrev pub IsNewestOf : List (DocId × Epoch) → Option DocId → Type 0
IsNewestOf runners None = (doc : DocId) → epoch_of runners doc ≡ None
IsNewestOf runners (Some doc) = IsFirst runners doc

-- of those that run in a navigable
abbrev pub IsNewest : RunnersState → NavId → Option DocId → Type 0
IsNewest t nav doc = IsNewestOf (runners_in t.running nav) doc
