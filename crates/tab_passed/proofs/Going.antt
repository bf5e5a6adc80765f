-- A traversal begins in a log as another one began: what holds between two rows goes on with it running, where nothing is held back; and the tables tell of it.
use Rattle.load_doors.specs.Tied.{AreTied}
use Rattle.load_table.specs.declared.load.Load.{Load}
use Rattle.log_model.specs.Seen.{Asked, Seen, request_in}
use Rattle.seen_facts.proofs.Each.Runs.{each_asked_on}
use Rattle.seen_facts.specs.LoadTies.Tying.{IsLoadTied, TiesLoads}
use Rattle.std.proofs.Common.{List, None, Option, Some, [], ap, arith, false, length, refl, sym, true, ◌+◌, ◌<◌, ◌∙◌, ◌≡◌, ◌≤◌}
use Rattle.std.specs.Option.{option_map_or}
use Rattle.std.specs.Prelude.{is_some}
use Rattle.tab_doors.proofs.EndLaws.{left_holds}
use Rattle.tab_doors.specs.Look.{look_of, moved_by}
use Rattle.tab_doors.specs.Ties.{Holds, IsRunning}
use Rattle.tab_doors.specs.Working.{HasGoal}
use Rattle.tab_doors.specs.declared.tables.Tables.{Tables}
use Rattle.tab_facts.proofs.TabGoing.Counts.{as_many, count_same}
use Rattle.tab_facts.proofs.TabGoing.HeldUp.{none_held_up}
use Rattle.tab_facts.proofs.TabGoing.Steps.{steps_still}
use Rattle.tab_facts.proofs.TabWhole.Beginning.{IsToGo}
use Rattle.tab_facts.specs.Frame.Lasting.{IsMadeShown, PokesItsNav, wish}
use Rattle.tab_facts.specs.Frame.Moving.{IsMadeToGo, IsMovedThere, IsUnmovedYet, course}
use Rattle.tab_facts.specs.Last.Lasting.{AreLasting}
use Rattle.tab_facts.specs.TabGoing.Going.{AreCounted, AreSteps, IsGoing, count_of, has_ended}
use Rattle.tab_facts.specs.TabWhole.Tab.{IsTab}
use Rattle.tab_ids.specs.declared.ReqId.{ReqId}
use Rattle.tab_ids.specs.declared.Step.{Step}
use Rattle.tab_passed.proofs.Begun.{ongoing_now, ongoing_was, there}
use Rattle.tab_passed.specs.Passing.{passed_tables}
use Rattle.unasked.proofs.Passings.{begun_as}
use Rattle.unasked_tab.proofs.Begun.{with_begun}
use Rattle.unasked_tab.proofs.Passed.{passed_tab}
use Rattle.unload_check.specs.Checks.{OpenCheck}

module _ (s : Seen) (req : ReqId) (p : Asked) (is : IsToGo s req p) (b : Asked) (starts : b.is_started ≡ true) (goal : Step) (to : b.goal ≡ Some goal) (loads : List ReqId) (tab : IsTab None loads [] s) (lasting : AreLasting s) where
  abbrev n : Seen
  n = with_begun s req b

  -- what holds between two rows
  pub tab_then : IsTab (Some req) loads [] (with_begun s req b)
  tab_then = passed_tab loads [] s tab req p is b starts (ap (λ (o : Option Step). is_some o) to)

  -- ---- what goes on

  lasting_then : AreLasting n
  lasting_then =
      record {
        shown = lasting.shown;
        made = each_asked_on (λ r q. IsMadeShown (wish q)) (λ r q. IsMadeShown (wish q)) s.requests req (begun_as b) (λ r q apart has. has) (λ q at has. has) lasting.made;
        poked = each_asked_on (λ r q. PokesItsNav s.documents (wish q)) (λ r q. PokesItsNav s.documents (wish q)) s.requests req (begun_as b) (λ r q apart has. has) (λ q at has. has) lasting.poked;
        taken = lasting.taken;
        populates = lasting.populates;
        moves = record {
          unmoved = each_asked_on (λ r q. IsUnmovedYet (course q)) (λ r q. IsUnmovedYet (course q)) s.requests req (begun_as b) (λ r q apart has. has) (λ q at has goes un. (let never : true ≡ false = sym starts ∙ un in absurd cc)) lasting.moves.unmoved;
          there = each_asked_on (λ r q. IsMovedThere s.places (course q)) (λ r q. IsMovedThere s.places (course q)) s.requests req (begun_as b) (λ r q apart has. has) (λ q at has. has) lasting.moves.there;
          goes = each_asked_on (λ r q. IsMadeToGo (wish q)) (λ r q. IsMadeToGo (wish q)) s.requests req (begun_as b) (λ r q apart has. has) (λ q at has. has) lasting.moves.goes;
        };
      }

  same_ended : count_of has_ended n.requests ≡ count_of has_ended s.requests
  same_ended = count_same has_ended s.requests req (begun_as b) (λ x at. refl)

  pub going_then : AreCounted s → AreSteps s → length s.requests + 2 < 4294967296 → s.parked ≡ [] → IsGoing (Some req) loads [] (with_begun s req b)
  going_then counted steps room none =
      record {
        tab = tab_then;
        lasting = lasting_then;
        counted = record {
          entries = (let low : s.entries ≤ 1 + count_of has_ended s.requests = counted.entries in let same : count_of has_ended n.requests ≡ count_of has_ended s.requests = same_ended in omega (arith, low, same));
          epochs = counted.epochs;
        };
        steps = steps_still s n steps refl (let same : count_of has_ended n.requests ≡ count_of has_ended s.requests = same_ended in omega (arith, same));
        held = none_held_up (Some req) n none;
        room = (let long : length n.requests ≡ length s.requests = as_many s.requests req (begun_as b) in omega (arith, long, room));
      }

  -- ---- the tables

  -- it has moved nobody yet
  pub unmoved : p.is_started ≡ false → p.moved ≡ []
  unmoved un = lasting.moves.unmoved req p is.there is.goes un

  load_tied : (load : Load) → IsLoadTied s load → IsLoadTied n load
  load_tied load its =
      record {
        q = its.q;
        found = ongoing_now s req p is b starts load.req its.q its.found its.ongoing;
        ongoing = its.ongoing;
        mode = its.mode;
        what = its.what;
        state = its.state;
        replace = its.replace;
        phase = its.phase;
      }

  loads_tied : (table : List Load) → TiesLoads s table → TiesLoads n table
  loads_tied table ties =
      record {
        there = λ nav load at. load_tied load (ties.there nav load at);
        all = λ r q nav at on its. ties.all r q nav (ongoing_was s req p is b starts r q at on) on its;
      }

  pub tied_then : (t : Tables) → t.running ≡ None → AreTied s t → p.moved ≡ [] → (checks : List (ReqId × OpenCheck)) → AreTied (with_begun s req b) (passed_tables t req goal checks)
  tied_then t idle tied none checks =
      record {
        holds = on_tables (left_holds (look_of s t.running) (look_of n (Some req)) t refl refl refl moved refl refl refl tied.holds);
        runs = runs;
        goal = goals;
        few = tied.few;
        initial = tied.initial;
        loads = loads_tied t.loads tied.loads;
        kept = tied.kept;
      }
    where
      found : request_in n.requests req ≡ Some (begun_as b p)
      found = there s req p is b starts

      moved : moved_by n.requests (Some req) ≡ moved_by s.requests t.running
      moved =
          ap (λ (o : Option Asked). option_map_or (λ (q : Asked). q.moved) o []) found ∙ none ∙ sym (ap (λ (r : Option ReqId). moved_by s.requests r) idle)

      runs : IsRunning n.requests (Some req)
      runs =
          record {
            only = tab_then.asked.only;
            there = λ r same. (let one : req ≡ r = cc in (begun_as b p, ap (λ (x : ReqId). request_in n.requests x) (sym one) ∙ found));
          }

      goals : HasGoal n.requests (Some req) goal
      goals r q same at =
          let one : req ≡ r = cc in
          let both : Some (begun_as b p) ≡ Some q = sym found ∙ ap (λ (x : ReqId). request_in n.requests x) one ∙ at in
          let its : begun_as b p ≡ q = cc in
          ap (λ (x : Asked). x.goal) (sym its) ∙ to

      on_tables : Holds (look_of n (Some req)) t → Holds (look_of n (Some req)) (passed_tables t req goal checks)
      on_tables holds =
          record {
            navs = holds.navs;
            documents = holds.documents;
            whose = holds.whose;
            shown = holds.shown;
            last = holds.last;
            history = holds.history;
            numbered = holds.numbered;
            states = holds.states;
            entries = holds.entries;
            sent = holds.sent;
          }
