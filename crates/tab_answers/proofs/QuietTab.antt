-- What holds of a tab between two events, and what lasts of it, is read of neither the event's number, nor the order that was just finished, nor whether it is noted that all stand.
use Rattle.log_model.specs.Seen.{Seen}
use Rattle.row_facts.specs.Left.Left.{WereShown}
use Rattle.seen_facts.specs.Coord.Flowing.{Flows}
use Rattle.seen_facts.specs.Load.Loading.{AreLoading, IsLoading, Look}
use Rattle.std.proofs.Common.{Bool, List, None, Option, Some, [], refl, ℕ, ◌+◌}
use Rattle.tab_answers.proofs.Stood.{quieted}
use Rattle.tab_facts.proofs.Calm.Sames.{calm_same, here_same, rooted_kept}
use Rattle.tab_facts.specs.Calm.Calm.{AreRooted, IsCalm, UnmovedAreHere}
use Rattle.tab_facts.specs.Last.Lasting.{AreLasting}
use Rattle.tab_facts.specs.TabEvents.Between.{IsBetweenChecks}
use Rattle.tab_facts.specs.TabGoing.Going.{AreCounted, AreHeldUp, AreSteps}
use Rattle.tab_facts.specs.TabWhole.Tab.{IsTab}
use Rattle.tab_ids.specs.declared.ReqId.{ReqId}
use Rattle.unasked_tab.proofs.Alike.{alike_tab}
use Rattle.unasked_tab.proofs.Steady.{steady_between}

module _ (s : Seen) (event : ℕ) (stood : Bool) where
  -- the log then
  abbrev n : Seen
  n = quieted s event stood

  -- ---- between two events

  loads_on : (l : Look) → IsLoading s l → IsLoading n l
  loads_on l is =
      record {
        nav = is.nav;
        mode = is.mode;
        address = is.address;
        what = is.what;
        state = is.state;
        state_is = is.state_is;
        numbered = is.numbered;
        unmade = is.unmade;
        unheld = is.unheld;
        whose = is.whose;
        unshown = is.unshown;
      }

  loading : AreLoading s → AreLoading n
  loading are =
      record {
        each = λ req l at on. loads_on l (are.each req l at on);
        one = are.one;
        apart = are.apart;
        rows_ = are.rows_;
        documents = are.documents;
      }

  pub tab_quiet : (run : Option ReqId) (loads : List ReqId) → IsTab run loads [] s → IsTab run loads [] n
  tab_quiet run loads tab =
      alike_tab s s.requests (event + 1) s.jobs s.states None stood (λ r. refl) run loads [] tab run loads (record {
        asked = record {
          each = tab.asked.each;
          passed = tab.asked.passed;
          only = tab.asked.only;
          runs = λ req e. (let is = tab.asked.runs req e in record { q = is.q; found = is.found; traverses = is.traverses });
          died = tab.asked.died;
        };
        queued = tab.queued;
        loading = loading tab.loading;
        placed = tab.shown.placed;
        movers = record {
          ends = tab.movers.ends;
          passed = tab.movers.passed;
          away = λ nav place at moved. (let is = tab.movers.away nav place at moved in record { req = is.req; q = is.q; why = is.why; there = is.there; moves = is.moves });
        };
        once = tab.once;
        trips = tab.trips;
      })

  pub between_quiet : (keep : ℕ) (run : Option ReqId) (loads : List ReqId) (holds : Bool) → IsBetweenChecks keep run loads holds s → IsBetweenChecks keep run loads holds n
  between_quiet keep run loads holds is =
      steady_between s s.requests s.desks s.joined s.parked (event + 1) s.jobs s.states None stood keep run loads loads holds is (tab_quiet run loads is.tab) (record { runs = refl; was = λ req q at on. at; stays = λ req q at on. at }) (λ none free. refl) refl (λ go. go) flows is.rests
    where
      flows : Flows n
      flows =
          record { leads = is.flows.leads; whose = is.flows.whose; reaches = is.flows.reaches; within = is.flows.within }

  -- ---- what lasts

  pub lasting_quiet : AreLasting s → AreLasting n
  lasting_quiet are =
      record {
        shown = are.shown;
        made = are.made;
        poked = are.poked;
        taken = are.taken;
        populates = are.populates;
        moves = record { unmoved = are.moves.unmoved; there = are.moves.there; goes = are.moves.goes };
      }

  pub counted_quiet : AreCounted s → AreCounted n
  counted_quiet are = record { entries = are.entries; epochs = are.epochs }

  pub steps_quiet : AreSteps s → AreSteps n
  steps_quiet are = record { rows_ = are.rows_; current = are.current }

  pub held_quiet : (run : Option ReqId) → AreHeldUp run s → AreHeldUp run n
  held_quiet None held = tt
  held_quiet (Some run) held = held

  pub were_quiet : WereShown s → WereShown n
  were_quiet were = record { lasts = were.lasts; kept = were.kept; owned = were.owned }

  -- how calm the tab is
  pub calm_quiet : IsCalm s → IsCalm n
  calm_quiet calm = calm_same s n refl (λ nav. refl) (λ nav. ⊥) calm

  pub here_quiet : UnmovedAreHere s → UnmovedAreHere n
  here_quiet here nav place doc there wakes has unmoved =
      here_same s n refl place place refl refl (here nav place doc there wakes has unmoved)

  pub rooted_quiet : AreRooted s → AreRooted n
  rooted_quiet rooted = rooted_kept s n refl (λ nav. refl) (λ doc. refl) rooted
