-- What is known of entries, over each order: one that makes a document, one that shows a navigable a document under a new epoch, and any other.
use Rattle.std.proofs.Common.{◌≡◌, ℕ, cond, List, [], ◌∷◌, ◌++◌, length, refl, sym, subst}
use Rattle.tab_ids.specs.declared.NavId.{NavId}
use Rattle.log_model.specs.declared.job.Job.{Job}
use Rattle.log_model.specs.declared.job.Task.{Task}
use Rattle.log_model.specs.declared.job.Task.TheVariants as tasks
use Rattle.log_model.specs.declared.job.Why.{Why}
use Rattle.log_model.specs.declared.made.Made.{Made}
use Rattle.log_model.specs.declared.row_kind.Actor.{Actor}
use Rattle.log_model.specs.declared.row_kind.RowKind.TheVariants as rows
use Rattle.log_model.specs.After.{after}
use Rattle.log_model.specs.AfterPlaces.{places_sent, put_to_sleep, sleepers_with}
use Rattle.log_model.specs.History.{has_nav}
use Rattle.log_model.specs.Seen.{Seen, Place, asleep}
use Rattle.seen_facts.proofs.Request.Readers.{sent_reads}
use Rattle.seen_facts.specs.Entry.Entries.{AreEntries}
use Rattle.seen_facts.proofs.Entry.Docs.{DocsAre, MakesNone, sent_docs}
use Rattle.seen_facts.proofs.Entry.Parts.{GivenBefore, KeepsAsked, SameLists, SameTold, asked_read, deed, given_mapped, given_same, goes_entries, home_same, lists_same, same_shown, shown_mapped, sleep_leaves, told_on, waits_same}
use Rattle.seen_facts.proofs.Entry.Stays.{AllWereShown}

-- the order shows no navigable a document, and makes none
abbrev pub TellsAlone : Task → Type 0
TellsAlone (tasks.Populate nav state address initial) = ⊥
TellsAlone (tasks.Activate entry epoch length index memo address) = ⊥
TellsAlone _ = Unit {0}

module _ (hand : List Made) (s : Seen) (event : ℕ) (actor : Actor) (are : AreEntries hand s) (job : Job) where
  abbrev pub sent : Seen
  sent = after s (record { event = event; actor = actor; row = rows.Sent job })

  pub asked : KeepsAsked s.requests sent.requests
  asked =
      asked_read s.requests sent.requests (sent_reads deed (record { moves = λ q a m. refl; asks = λ q a. refl; fragments = λ q d. refl; misses = λ q b. refl }) s job job.task s.requests)

  pub told : SameTold s sent
  told = told_on s sent job.proc (λ desk. record desk { mail = desk.mail ++ job ∷ [] }) refl (λ desk. refl) refl

  pub same : SameLists hand s sent
  same = record { parked = refl; asked = asked; told = told }

  -- ---- an order that tells

  slept : (navs : List NavId) (why : Why) (t : Seen) → t.places ≡ put_to_sleep navs why s.places → AllWereShown s t × GivenBefore s.places t.places
  slept navs why t are_ = (
    shown_mapped s t (λ (p : Place). cond (has_nav navs p.nav) (record p { status = asleep; why = why }) p) (sleep_leaves navs why) are_,
    given_mapped s.places t.places (λ (p : Place). cond (has_nav navs p.nav) (record p { status = asleep; why = why }) p) (sleep_leaves navs why).nav (sleep_leaves navs why).ever are_,
  )

  stays : (t : Seen) → t.places ≡ s.places → AllWereShown s t × GivenBefore s.places t.places
  stays t are_ = (same_shown s t are_, subst (λ (l : List Place). GivenBefore s.places l) (sym are_) (given_same s.places))

  by_task : (task : Task) → TellsAlone task → (t : Seen) → t.places ≡ places_sent s job task → AllWereShown s t × GivenBefore s.places t.places
  by_task (tasks.Populate nav state address initial) never t are_ = absurd never
  by_task (tasks.Activate entry epoch long at memo address) never t are_ = absurd never
  by_task (tasks.Update long at) alone t are_ = stays t are_
  by_task tasks.Freeze alone t are_ = slept (sleepers_with s job.doc) job.why t are_
  by_task tasks.Discard alone t are_ = slept (sleepers_with s job.doc) job.why t are_
  by_task (tasks.Ask slot cause) alone t are_ = stays t are_
  by_task (tasks.DoFragment req mode address) alone t are_ = stays t are_

  makes_none : (task : Task) → TellsAlone task → MakesNone task
  makes_none (tasks.Populate nav state address initial) never = absurd never
  makes_none (tasks.Activate entry epoch long at memo address) never = absurd never
  makes_none (tasks.Update long at) alone = tt
  makes_none tasks.Freeze alone = tt
  makes_none tasks.Discard alone = tt
  makes_none (tasks.Ask slot cause) alone = tt
  makes_none (tasks.DoFragment req mode address) alone = tt

  pub sent_entries : TellsAlone job.task → AreEntries hand sent
  sent_entries alone =
      goes_entries hand hand s sent
      (record {
        g = docs.g;
        keeps = docs.keeps;
        applied = docs.applied;
        documents = docs.are;
        views = docs.views;
        lists = lists_same hand s sent same;
        waits = waits_same hand s sent same are;
        home = home_same hand s sent told are;
        shown = places.0;
        stays = record { history = refl; numbers = refl; given = places.1; asked = asked };
      })
      are
    where
      docs : DocsAre s.documents sent.documents
      docs = sent_docs s job job.task (makes_none job.task alone)

      places : AllWereShown s sent × GivenBefore s.places sent.places
      places = by_task job.task alone sent refl
