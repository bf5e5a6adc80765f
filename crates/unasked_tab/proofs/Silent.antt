-- A row that only concerns unload checks leaves what holds of a tab.
use Rattle.std.proofs.Common.{ℕ, ◌+◌, ◌≤◌, List, Option, None, refl, arith}
use Rattle.tab_ids.specs.declared.ReqId.{ReqId}
use Rattle.log_model.specs.declared.made.Made.{Made}
use Rattle.log_model.specs.Seen.{Seen}
use Rattle.seen_facts.specs.Load.Loading.{AreLoading, IsLoading, Look}
use Rattle.tab_facts.specs.TabWhole.Tab.{IsTab}
use Rattle.unasked.proofs.Whole.{silent}
use Rattle.unasked_tab.proofs.Alike.{alike_tab}

-- what is bounded by a number is bounded by a higher one
higher : (a b c : ℕ) → a ≤ b → b ≤ c → a ≤ c
higher a b c one two = omega (arith, one, two)

module _ (s : Seen) (event jobs states : ℕ) (more : s.states ≤ states) where
  -- a load that goes on does so where more states were numbered
  load_stays : (l : Look) → IsLoading s l → IsLoading (silent s event jobs states) l
  load_stays l is =
      record {
        nav = is.nav;
        mode = is.mode;
        address = is.address;
        what = is.what;
        state = is.state;
        state_is = is.state_is;
        numbered = higher is.state.0 s.states states is.numbered more;
        unmade = is.unmade;
        unheld = is.unheld;
        whose = is.whose;
        unshown = is.unshown;
      }

  -- so do all of them
  loading_stays : AreLoading s → AreLoading (silent s event jobs states)
  loading_stays are =
      record {
        each = λ req l at on. load_stays l (are.each req l at on);
        one = are.one;
        apart = are.apart;
        rows_ = λ row has. higher row.state.0 s.states states (are.rows_ row has) more;
        documents = λ doc d at. higher d.state.0 s.states states (are.documents doc d at) more;
      }

  -- whatever number the event has, and however many orders there are
  pub silent_tab : (run : Option ReqId) (loads : List ReqId) (hand : List Made) → IsTab run loads hand s → IsTab run loads hand (silent s event jobs states)
  silent_tab run loads hand tab =
      alike_tab s s.requests (event + 1) jobs states None s.has_stood (λ r. refl) run loads hand tab run loads (record {
        asked = record {
          each = tab.asked.each;
          passed = tab.asked.passed;
          only = tab.asked.only;
          runs = λ req e. (let is = tab.asked.runs req e in record { q = is.q; found = is.found; traverses = is.traverses });
          died = tab.asked.died;
        };
        queued = tab.queued;
        loading = loading_stays tab.loading;
        placed = tab.shown.placed;
        movers = record {
          ends = tab.movers.ends;
          passed = tab.movers.passed;
          away = λ nav place at moved. (let is = tab.movers.away nav place at moved in record {
            req = is.req;
            q = is.q;
            why = is.why;
            there = is.there;
            moves = is.moves;
          });
        };
        once = tab.once;
        trips = tab.trips;
      })
