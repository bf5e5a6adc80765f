-- Tables that tie to the log without questions tie to it as more orders and document states were numbered, and ends that undo nothing of it then undo nothing of it before.
use Rattle.log_model.specs.Seen.{Seen}
use Rattle.row_facts.specs.Owed.Owed.{Lasts, Stays}
use Rattle.seen_facts.specs.LoadTies.Tying.{TiesLoads}
use Rattle.std.proofs.Common.{Option, length, subst, sym, arith, ℕ, ◌+◌, ◌≡◌, ◌≤◌}
use Rattle.tab_cuts.specs.Cut.{TiesCut}
use Rattle.tab_doors.specs.Keeping.{Move}
use Rattle.tab_doors.specs.Look.{look_of}
use Rattle.tab_doors.specs.Ties.{Holds}
use Rattle.tab_doors.specs.declared.tables.Tables.{Tables}
use Rattle.unasked.proofs.Whole.{silent}

module _ (s : Seen) (event jobs states : ℕ) where
  abbrev then_ : Seen
  then_ = silent s event jobs states

  -- ---- ends

  pub lasts_before : (end : Seen) → Lasts then_ end → Lasts s end
  lasts_before end lasts = record { asked = lasts.asked; places = lasts.places; sole = lasts.sole }

  pub stays_before : (end : Seen) → Stays then_ end → Stays s end
  stays_before end stays =
      record {
        lasts = lasts_before end stays.lasts;
        history = stays.history;
        aim = stays.aim;
        passed = stays.passed;
        changes = stays.changes;
        last = stays.last;
        unsettled = stays.unsettled;
        off = stays.off;
      }

  -- ---- tables

  loads_then : (t : Tables) → TiesLoads s t.loads → TiesLoads then_ t.loads
  loads_then t ties =
      record {
        there = λ nav load at. let is = ties.there nav load at in record {
          q = is.q;
          found = is.found;
          ongoing = is.ongoing;
          mode = is.mode;
          what = is.what;
          state = is.state;
          replace = is.replace;
          phase = is.phase;
        };
        all = ties.all;
      }

  module _ (move : Option Move) (t u : Tables) where
    -- they are as they were, but for how many orders and document states were numbered, the loads in their checks, and the checks
    abbrev pub counted : Tables
    counted = record t { sent = u.sent; states = u.states; asking = u.asking; checks = u.checks }

    holds_then : Holds (look_of s t.running) t → length u.sent.items ≡ jobs + 1 → u.states ≡ states → Holds (look_of then_ t.running) counted
    holds_then holds sent numbered =
        record {
          navs = record { navs = holds.navs.navs; order = holds.navs.order };
          documents = record { live = holds.documents.live; made = holds.documents.made; live_once = holds.documents.live_once; made_once = holds.documents.made_once };
          whose = holds.whose;
          shown = holds.shown;
          last = holds.last;
          history = holds.history;
          numbered = holds.numbered;
          states = numbered;
          entries = holds.entries;
          sent = sent;
        }

    pub ties_counted : u ≡ counted → length u.sent.items ≡ jobs + 1 → u.states ≡ states → s.jobs ≤ jobs → TiesCut move s t → TiesCut move then_ u
    ties_counted is sent numbered more ties =
        subst (λ (x : Tables). TiesCut move then_ x) (sym is) (record {
          holds = holds_then ties.holds sent numbered;
          runs = ties.runs;
          goal = ties.goal;
          few = (let few : length s.documents ≤ s.jobs + 1 = ties.few in omega (arith, few, more));
          initial = ties.initial;
          loads = loads_then t ties.loads;
          kept = ties.kept;
        })
