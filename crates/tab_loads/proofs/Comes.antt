-- What becomes of a load against which there is no reason, where it is dropped, or its document is sent to a fragment: what the doors ask, and that a pass may follow.
use Rattle.tab_doors.proofs.PassedOn.{sent_goes, dropped_goes}
use Rattle.tab_facts.proofs.Calm.Sames.{way_at}
use Rattle.seen_facts.specs.Each.Runs.{is_this}
use Rattle.seen_facts.proofs.Hang.Forms.{nav_is}
use Rattle.load_doors.specs.Loading.{IsOpenHere}
use Rattle.load_table.specs.Loads.{ongoing_load}
use Rattle.load_table.specs.declared.load.Load.{Load}
use Rattle.seen_facts.specs.LoadTies.Tying.{HasLoad}
use Rattle.log_model.specs.Causes.{denial_at_acceptance}
use Rattle.log_model.specs.Equal.{holds}
use Rattle.log_model.specs.History.{has_nav}
use Rattle.log_model.specs.Places.{aim_of, has_arrived, is_given_target, is_placed, is_shown, is_standing, stands, way_to}
use Rattle.log_model.specs.Seen.{Place, Seen, place_of}
use Rattle.log_model.specs.declared.job.Job.{Job}
use Rattle.log_model.specs.declared.outcome.Denial.{Denial}
use Rattle.log_model.specs.declared.request.Mode.{Mode}
use Rattle.log_model.specs.declared.row_kind.RowKind.{RowKind}
use Rattle.row_facts.proofs.Owed.Rows.{reckoned_now}
use Rattle.seen_laws.specs.InEvent.{now_of}
use Rattle.std.proofs.Common.{Bool, List, None, Option, Some, [], ap, false, inl, not, refl, subst, sym, true, ℕ, ◌&&◌, ◌++◌, ◌==◌, ◌||◌, ◌∙◌, ◌∷◌, ◌≡◌}
use Rattle.std.proofs.lemmas.Bool.{and_parts}
use Rattle.std.specs.List.{list_all}
use Rattle.std.specs.Prelude.{is_some, option_map}
use Rattle.tab_doors.specs.Keeping.{IsNoLoad}
use Rattle.tab_doors.specs.Orders.{IsThere, order_to}
use Rattle.tab_doors.specs.Working.{IsAtWork, KeepsRun, KeepsStore, MaySend}
use Rattle.tab_doors.specs.declared.tables.Tables.{Tables}
use Rattle.tab_drops.specs.Dropping.{AreUnheld}
use Rattle.tab_ids.specs.declared.DocId.{DocId}
use Rattle.tab_ids.specs.declared.NavId.{NavId}
use Rattle.tab_ids.specs.declared.ReqId.{ReqId}
use Rattle.tab_loads.proofs.Aways.{IsAway, all_placed, is_away}
use Rattle.tab_loads.proofs.Changes.{dropped_changes, sent_changes}
use Rattle.tab_loads.proofs.Cuts.{IsPaidFor, cut_paid, cut_some, first_pass}
use Rattle.tab_loads.proofs.Denies.{IsUndenied, row_place, undenied}
use Rattle.tab_loads.proofs.Ends.{dropped_passing, dropped_tab}
use Rattle.tab_loads.proofs.Firsts.{first_is, idle, no_load, of_load, open_here, unjoined, unparked}
use Rattle.tab_loads.proofs.Givens.{IsSentThere, sent_there}
use Rattle.tab_loads.proofs.Gives.{drop_asks}
use Rattle.tab_loads.proofs.Readies.{row_ready}
use Rattle.tab_loads.proofs.Sends.{may_send as may_be_sent, sent_passing, tab_then, there}
use Rattle.tab_ids.specs.declared.StateId.{StateId}
use Rattle.tab_loads.specs.Asking.{HasCome, InLoad, IsAsked}
use Rattle.tab_loads.specs.Giving.{HasMadeWay}
use Rattle.tab_loads.specs.Loading.{is_way_placed, pass_of}
use Rattle.tab_loads.specs.Telling.{aim_at, away_in, cut_by_in, fragment_in}
use Rattle.tab_loads.specs.declared.loaded.Loaded.TheVariants.{CutOff, ToFragment}
use Rattle.tab_passes.proofs.Aims.{aim_is, held_aim}
use Rattle.tab_passes.specs.Passing.{IsPassing}
use Rattle.tab_facts.proofs.TabWhole.Refusing.{load_other}
use Rattle.log_model.specs.declared.job.Task.TheVariants as tasks
use Rattle.log_model.specs.declared.job.Why.TheVariants as whys
use Rattle.log_model.specs.declared.outcome.Cause.TheVariants as drops
use Rattle.log_model.specs.declared.request.Request.TheVariants as requests
use Rattle.log_model.specs.declared.row_kind.RowKind.TheVariants as rows

-- one of these isn't so
not_all : (f : NavId → Bool) (navs : List NavId) (x : NavId) → ((n : NavId) → (n.0 == x.0) ≡ true → f n ≡ f x) → has_nav navs x ≡ true → f x ≡ false → list_all f navs ≡ false
not_all f [] x same has not_ = absurd cc
not_all f (n ∷ navs) x same has not_ = by_test (n.0 == x.0) refl has (λ more. not_all f navs x same more not_)
  where
    neither : (a : Bool) → (a && false) ≡ false
    neither true = refl
    neither false = refl

    by_test : (b : Bool) → (n.0 == x.0) ≡ b → (b || has_nav navs x) ≡ true → (has_nav navs x ≡ true → list_all f navs ≡ false) → (f n && list_all f navs) ≡ false
    by_test true is h rest = ap (λ (b : Bool). b && list_all f navs) (same n is ∙ not_)
    by_test false is h rest = ap (λ (b : Bool). f n && b) (rest h) ∙ neither (f n)

first_all : (f : NavId → Bool) (navs : List NavId) (nav : NavId) (above : List NavId) → navs ≡ nav ∷ above → list_all f navs ≡ true → f nav ≡ true
first_all f navs nav above is all = (and_parts (f nav) (list_all f above) (ap (λ (l : List NavId). list_all f l) (sym is) ∙ all)).0

module _ (l : InLoad) (t : Tables) (asked : IsAsked l t) where
  abbrev pub s : Seen
  s = now_of l.event []

  pub pass : IsPassing (first_pass l.event l.req l.loads) [] t
  pass = asked.begun.passing

  abbrev reason_in : Seen → Option Denial
  reason_in x = denial_at_acceptance x (requests.Load l.nav l.mode l.address)

  pub un : IsUndenied s l.nav
  un =
      undenied s l.nav l.mode l.address (ap (λ (x : Seen). reason_in x) (first_is l.event l.req l.nav l.mode l.address asked.asks) ∙ asked.undenied)

  pub place : Place
  place = (row_place s pass.going.tab.hangs l.nav un.has).0

  pub placed : place_of s l.nav ≡ Some place
  unfolding place
  placed = (row_place s pass.going.tab.hangs l.nav un.has).1

  pub aim : aim_at t ≡ aim_of s
  aim = held_aim t.store s.history t.running t.goal pass.work.holds.history ∙ sym (aim_is s t.running pass.going.tab.asked t.goal pass.work.goal)

  pub apart : is_this t.running l.req ≡ false
  apart = load_other t.running (l.req ∷ l.loads) [] s pass.going.tab l.req (of_load l.event l.req l.nav l.mode l.address asked.asks)

  pub runs_on : (u : Tables) → u ≡ t → KeepsRun t u
  runs_on u same = record { running = ap (λ (x : Tables). x.running) same; goal = ap (λ (x : Tables). x.goal) same; keep = ap (λ (x : Tables). x.kept.keep) same; checks = ap (λ (x : Tables). x.checks) same }

  -- ---- it is dropped

  module _ (x : NavId) (is : away_in t l.nav ≡ Some x) where
    far : IsAway s t.running t pass.work.holds pass.going.tab.sound pass.going.tab.hangs aim l.nav place placed x
    far = is_away s t.running t pass.work.holds pass.going.tab.sound pass.going.tab.hangs aim l.nav place placed x is

    pub cut_there : is_some (cut_by_in t x) ≡ true
    cut_there =
        cut_some l.event l.req l.nav l.mode l.address asked.asks t pass asked.off asked.busy place placed un.shown x far.on_way far.own far.there far.away

    pub drop_may : IsAtWork l.event [] t × (IsOpenHere l.event [] l.req × ((is_this t.running l.req ≡ false) × (IsNoLoad s l.req × (l.event.checking l.req ≡ false))))
    drop_may = (pass.work, (open_here l.event l.req l.nav l.mode l.address asked.asks t.running pass.going.tab, (apart, (no_load l.event l.req l.nav l.mode l.address asked.asks, asked.asks.outside))))

    module _ (by : ReqId) (cut : cut_by_in t x ≡ Some by) (u : Tables) (out : List RowKind) (work : IsAtWork l.event out u) (out_is : out ≡ rows.Dropped l.req (drops.By by) ∷ []) (same : u ≡ t) where
      paid : IsPaidFor l.event l.req l.nav l.mode l.address asked.asks t pass asked.off asked.busy place placed un.shown x far.on_way far.own far.there far.away by cut
      paid =
          cut_paid l.event l.req l.nav l.mode l.address asked.asks t pass asked.off asked.busy place placed un.shown x far.on_way far.own far.there far.away by cut asked.begun.loose

      passing : IsPassing (pass_of l.event l.loads) out u
      passing =
          dropped_passing l.event l.req l.nav l.mode l.address asked.asks t pass.going pass.rests pass.few pass.duly (drops.By by) paid.owed paid.loose out u out_is same work

      away : is_way_placed s l.nav ≡ false
      away =
          not_all (is_placed s (aim_of s)) (way_to s l.nav) x (λ n is_. ap (λ (m : NavId). is_placed s (aim_of s) m) (nav_is n x is_)) far.on_way far.away

      pub cut_come : HasCome l t u out l.noted CutOff
      cut_come =
          record {
            came = (asked.undenied, record { by = by; away = away; is = out_is });
            ready = row_ready l.event l.req l.nav l.mode l.address asked.asks t l.queue l.noted pass.going asked.begun.taking asked.begun.moved asked.begun.late asked.begun.theirs asked.begun.header asked.begun.queueing asked.walks
                (rows.Dropped l.req (drops.By by)) (dropped_goes l.event [] l.req (drops.By by)) tt tt (dropped_changes s l.event.event l.event.actor l.req (idle l.event l.req l.nav l.mode l.address asked.asks) (unjoined l.event l.req l.nav l.mode l.address asked.asks t.running pass.going.tab) (unparked l.event l.req l.nav l.mode l.address asked.asks t.running pass.going.tab) (drops.By by))
                (dropped_tab l.event l.req l.nav l.mode l.address asked.asks t pass.going pass.rests pass.few pass.duly (drops.By by)) refl out u out_is (ap (λ (y : Tables). y.running) same) (ap (λ (y : Tables). y.kept.keep) same) passing;
            kept = runs_on u same;
          }

  -- ---- its document is sent to a fragment

  module _ (stands_ : away_in t l.nav ≡ None) where
    pub all : is_way_placed s l.nav ≡ true
    all = all_placed s t.running t pass.work.holds pass.going.tab.sound pass.going.tab.hangs aim l.nav place placed stands_

    own_placed : is_placed s (aim_of s) l.nav ≡ true
    own_placed = first_all (is_placed s (aim_of s)) (way_to s l.nav) l.nav place.above (way_at s l.nav place placed) all

    pub standing : stands s (aim_of s) l.nav ≡ true
    standing = (and_parts (is_shown s.history.rows (aim_of s) l.nav) (stands s (aim_of s) l.nav) own_placed).1

    -- the entry that it was given is its target there
    pub target : is_given_target s.history.rows (aim_of s) place ≡ true
    target =
        (and_parts (is_given_target s.history.rows (aim_of s) place) (not place.is_unmet)
        (and_parts (is_given_target s.history.rows (aim_of s) place && not place.is_unmet) (has_arrived place) (sym (ap (λ (o : Option Place). holds (is_standing s.history.rows (aim_of s)) o) placed) ∙ standing)).0).0

    module _ (doc : DocId) (is : fragment_in t l.nav l.address ≡ Some doc) where
      sent : IsSentThere s t.running t pass.work.holds pass.going.tab.sound l.nav place placed (aim_of s) target l.address doc
      sent = sent_there s t.running t pass.work.holds pass.going.tab.sound l.nav place placed (aim_of s) target l.address doc is

      abbrev pub order : Job
      order = order_to s doc (whys.Req l.req) (tasks.DoFragment l.req l.mode l.address)

      pub send_may : IsAtWork l.event [] t × ((l.event.checking l.req ≡ false) × (MaySend None l.event [] (order_to s doc (whys.Req l.req) (tasks.DoFragment l.req l.mode l.address)) × IsThere s doc))
      send_may =
          (pass.work, (asked.asks.outside, (may_be_sent l.event l.req l.nav l.mode l.address asked.asks t pass asked.begun.loose place placed standing doc sent.wakes sent.leads, there l.event l.req l.nav l.mode l.address asked.asks t pass asked.begun.loose place placed standing doc sent.wakes sent.leads)))

      pub sent_come : (u : Tables) (out : List RowKind) → IsAtWork l.event out u → out ≡ rows.Sent (order_to s doc (whys.Req l.req) (tasks.DoFragment l.req l.mode l.address)) ∷ [] → KeepsStore t u → HasCome l t u out l.noted ToFragment
      sent_come u out work out_is keeps =
          record {
            came = (asked.undenied, record { fragment = record { place = place; there = placed; placed = all; is_it = sent.is }; job = order; task = refl; why = refl; doc = sent.wakes; is = out_is });
            ready = row_ready l.event l.req l.nav l.mode l.address asked.asks t l.queue l.noted pass.going asked.begun.taking asked.begun.moved asked.begun.late asked.begun.theirs asked.begun.header asked.begun.queueing asked.walks
                (rows.Sent order) (sent_goes l.event [] order refl) tt tt (sent_changes s l.event.event l.event.actor pass.going.tab.asked.passed (reckoned_now l.event []) order l.req l.mode l.address)
                (tab_then l.event l.req l.nav l.mode l.address asked.asks t pass asked.begun.loose place placed standing doc sent.wakes sent.leads) refl out u out_is keeps.running keeps.keep
                (sent_passing l.event l.req l.nav l.mode l.address asked.asks t pass asked.begun.loose place placed standing doc sent.wakes sent.leads out u out_is keeps work);
            kept = record { running = keeps.running; goal = keeps.goal; keep = keeps.keep; checks = keeps.checks };
          }

-- ---- what the code's names are of all this

module _ (l : InLoad) (t : Tables) (asked : IsAsked l t) (was : List RowKind) (first : was ≡ []) (req : ReqId) (req_is : l.req ≡ req) where
  module _ (x : NavId) (is : away_in t l.nav ≡ Some x) where
    pub drop_now : IsAtWork l.event was t × (IsOpenHere l.event was req × ((is_this t.running req ≡ false) × (IsNoLoad (now_of l.event was) req × (l.event.checking req ≡ false))))
    drop_now =
        subst (λ (o : List RowKind). IsAtWork l.event o t × (IsOpenHere l.event o req × ((is_this t.running req ≡ false) × (IsNoLoad (now_of l.event o) req × (l.event.checking req ≡ false))))) (sym first)
        (subst (λ (r : ReqId). IsAtWork l.event [] t × (IsOpenHere l.event [] r × ((is_this t.running r ≡ false) × (IsNoLoad (now_of l.event []) r × (l.event.checking r ≡ false))))) req_is (drop_may l t asked x is))

    pub cut_now : (by : ReqId) → cut_by_in t x ≡ Some by → (u : Tables) (out : List RowKind) → IsAtWork l.event out u → out ≡ was ++ rows.Dropped req (drops.By by) ∷ [] → u ≡ t → HasCome l t u out l.noted CutOff
    cut_now by cut u out work out_is same =
        cut_come l t asked x is by cut u out work (out_is ∙ ap (λ (o : List RowKind). o ++ rows.Dropped req (drops.By by) ∷ []) first ∙ ap (λ (r : ReqId). let o : List RowKind = rows.Dropped r (drops.By by) ∷ [] in o) (sym req_is)) same

  module _ (mode : Mode) (mode_is : l.mode ≡ mode) (address : List ℕ) (address_is : l.address ≡ address) (stands_ : away_in t l.nav ≡ None) (doc : DocId) (is : fragment_in t l.nav l.address ≡ Some doc) where
    abbrev job_of : List RowKind → ReqId → Mode → List ℕ → Job
    job_of o r m a = order_to (now_of l.event o) doc (whys.Req r) (tasks.DoFragment r m a)

    abbrev asks_for : List RowKind → ReqId → Mode → List ℕ → Type 0
    asks_for o r m a = IsAtWork l.event o t × ((l.event.checking r ≡ false) × (MaySend None l.event o (job_of o r m a) × IsThere (now_of l.event o) doc))

    pub send_now : IsAtWork l.event was t × ((l.event.checking req ≡ false) × (MaySend None l.event was (order_to (now_of l.event was) doc (whys.Req req) (tasks.DoFragment req mode address)) × IsThere (now_of l.event was) doc))
    send_now =
        subst (λ (o : List RowKind). asks_for o req mode address) (sym first)
        (subst (λ (r : ReqId). asks_for [] r mode address) req_is
        (subst (λ (m : Mode). asks_for [] l.req m address) mode_is
        (subst (λ (a : List ℕ). asks_for [] l.req l.mode a) address_is (send_may l t asked stands_ doc is))))

    pub sent_now : (u : Tables) (out : List RowKind) → IsAtWork l.event out u → out ≡ was ++ rows.Sent (order_to (now_of l.event was) doc (whys.Req req) (tasks.DoFragment req mode address)) ∷ [] → KeepsStore t u → HasCome l t u out l.noted ToFragment
    sent_now u out work out_is keeps =
        sent_come l t asked stands_ doc is u out work (out_is
        ∙ ap (λ (o : List RowKind). o ++ rows.Sent (job_of o req mode address) ∷ []) first
        ∙ ap (λ (r : ReqId). let o : List RowKind = rows.Sent (job_of [] r mode address) ∷ [] in o) (sym req_is)
        ∙ ap (λ (m : Mode). let o : List RowKind = rows.Sent (job_of [] l.req m address) ∷ [] in o) (sym mode_is)
        ∙ ap (λ (a : List ℕ). let o : List RowKind = rows.Sent (job_of [] l.req l.mode a) ∷ [] in o) (sym address_is)) keeps

-- an ongoing load of its navigable may be dropped
module _ (l : InLoad) (t : Tables) (asked : IsAsked l t) (was : List RowKind) (first : was ≡ []) (nav : NavId) (nav_is : l.nav ≡ nav) (old : ReqId) (is : option_map (λ (load : Load). load.req) (ongoing_load nav t.loads) ≡ Some old) where
  unheld : AreUnheld l.event (now_of l.event [])
  unheld = (asked.begun.taking.open_ whys.Start (λ r never. absurd cc)).held

  abbrev may_drop : List RowKind → NavId → Type 0
  may_drop o n = IsAtWork l.event o t × (IsOpenHere l.event o old × ((is_this t.running old ≡ false) × HasLoad t.loads n old))

  pub give_now : IsAtWork l.event was t × (IsOpenHere l.event was old × ((is_this t.running old ≡ false) × HasLoad t.loads nav old))
  give_now =
      subst (λ (o : List RowKind). may_drop o nav) (sym first)
      (subst (λ (n : NavId). may_drop [] n) nav_is
      (drop_asks l.event l.req l.nav l.mode l.address asked.asks t asked.begun.passing unheld old (ap (λ (n : NavId). option_map (λ (load : Load). load.req) (ongoing_load n t.loads)) nav_is ∙ is)))

-- where its navigable has none, none gives way
pub none_way : (l : InLoad) (t : Tables) → IsAsked l t → (was : List RowKind) → was ≡ [] → (req : ReqId) (nav : NavId) (noted : List (StateId × ReqId)) → option_map (λ (load : Load). load.req) (ongoing_load nav t.loads) ≡ None → HasMadeWay l.event req nav t t was noted noted
none_way l t asked was first req nav noted none =
    record {
      work = subst (λ (o : List RowKind). IsAtWork l.event o t) (sym first) asked.begun.passing.work;
      which = inl (record { none_ = by_load (ongoing_load nav t.loads) none; out_is = first; tables = refl; noted_is = refl });
    }
  where
    by_load : (o : Option Load) → option_map (λ (load : Load). load.req) o ≡ None → o ≡ None
    by_load None is = refl
    by_load (Some load) never = absurd cc
