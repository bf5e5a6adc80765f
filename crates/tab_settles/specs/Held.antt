-- What goes on between the two parts of a pass, and while a traversal in its unload check holds the queue.
-- HTML Standard, "apply the history step" and "checking if unloading is canceled"; that all this goes by passes is this project's own.
use Rattle.log_model.specs.declared.job.Why.{Why}
use Rattle.log_model.specs.declared.row_kind.RowKind.{RowKind}
use Rattle.move_queue.specs.Queue.{Queue}
use Rattle.seen_facts.specs.LoadEnds.Standing.{LoadsStand}
use Rattle.seen_laws.specs.InEvent.{now_of}
use Rattle.std.specs.Prelude.{Bool, List, None, false, true, ◌≡◌, ◌⊎◌}
use Rattle.tab_facts.specs.Calm.Calm.{IsCalm}
use Rattle.tab_facts.specs.FrameWhole.Tab.{AreAwakeWithRows}
use Rattle.tab_facts.specs.TabEvents.Between.{AreSwept, orders_go}
use Rattle.tab_ids.specs.declared.ReqId.{ReqId}
use Rattle.tab_ids.specs.declared.StateId.{StateId}
use Rattle.tab_releases.specs.PassedOn.{AreLeftStrays}
use Rattle.tab_releases.specs.Releasing.{InPass, Tables}
use Rattle.tab_settles.specs.Settling.{HasSettled, IsReadyIn}
-- What is passed on of the crates below, for those above.
pub use Rattle.tab_releases.specs.PassedOn.{DiscardsUnheld, EndsRun, NoneStray}

-- a pass, with the queue
pub record InHeld : Type 0 where
  pub pass : InPass
  pub queue : Queue

-- no traversal runs, and a pass went by up to its walk: ongoing loads stand, who is awake has an entry, for each stray document that is left a request is noted, none is or an order is on its way, and the tab is calm; so it is where documents are swept, too
pub record IsClearedIn (sweeps : Bool) (p : InPass) (out : List RowKind) (t : Tables) (queue : Queue) (blame : List (StateId × ReqId)) (cause : Why) : Type 0 where
  pub idle : t.running ≡ None
  pub ready : IsReadyIn sweeps p out t queue blame cause
  pub stand : LoadsStand (now_of p.event out)
  pub rows_ : AreAwakeWithRows (now_of p.event out)
  pub strays : AreLeftStrays (now_of p.event out) blame
  pub swept : AreSwept (now_of p.event out) ⊎ (orders_go (now_of p.event out) ≡ true)
  pub calm : IsCalm (now_of p.event out)

-- whatever runs, a pass went by up to its walk: one may follow, ongoing loads stand, who is awake has an entry, for each stray document that is left a request is noted, and none is or an order is on its way; so it is where documents are swept, too
pub record HasCleared (sweeps : Bool) (p : InPass) (out : List RowKind) (t : Tables) (queue : Queue) (blame : List (StateId × ReqId)) (cause : Why) : Type 0 where
  pub ready : IsReadyIn sweeps p out t queue blame cause
  pub stand : LoadsStand (now_of p.event out)
  pub rows_ : AreAwakeWithRows (now_of p.event out)
  pub strays : AreLeftStrays (now_of p.event out) blame
  pub swept : AreSwept (now_of p.event out) ⊎ (orders_go (now_of p.event out) ≡ true)

-- so it is, with some requests noted for stray documents
abbrev pub IsClearedNoted : Bool → InPass → List RowKind → Tables → Queue → Why → Type 0
IsClearedNoted sweeps p out t queue cause = (blame : List (StateId × ReqId)) × IsClearedIn sweeps p out t queue blame cause

-- so it is whatever runs
abbrev pub HasClearedNoted : InPass → List RowKind → Tables → Queue → Why → Type 0
HasClearedNoted p out t queue cause = (blame : List (StateId × ReqId)) × HasCleared false p out t queue blame cause

-- whichever are noted, a pass has gone by with these noted, if it had gone by up to its walk
abbrev pub RestsNoted : InPass → List RowKind → Tables → List RowKind → Tables → Queue → Why → Type 0
RestsNoted p was t out u queue cause =
    (blame : List (StateId × ReqId)) → HasCleared false p was t queue blame cause → HasSettled p out u queue blame cause

-- whichever are noted, a pass has gone by with these noted, if that was so before
abbrev pub SettlesNoted : InPass → List RowKind → Tables → List RowKind → Tables → Queue → Why → Type 0
SettlesNoted p was t out u queue cause =
    (blame : List (StateId × ReqId)) → IsClearedIn false p was t queue blame cause → HasSettled p out u queue blame cause
