-- A load begins: what its doors ask, and what has become of it, in the words of the code.
use Rattle.tab_doors.specs.Orders.{IsForOther}
use Rattle.seen_facts.specs.Kept.Keeping.{AreKeptDocs}
use Rattle.load_doors.specs.Loading.{IsGiven, IsToBegin, begun_load}
use Rattle.row_facts.specs.LoadRows.LoadMaking.{IsMakeOfLoadDue}
use Rattle.load_table.specs.Loads.{ongoing_load}
use Rattle.log_model.specs.AfterRequests.{load_replaces}
use Rattle.log_model.specs.Seen.{desk_of}
use Rattle.log_model.specs.declared.header.Header.{Header}
use Rattle.log_model.specs.declared.job.Job.{Job}
use Rattle.log_model.specs.declared.request.Mode.{Mode}
use Rattle.log_model.specs.declared.row_kind.RowKind.{RowKind}
use Rattle.nav_tree.specs.Tree.{is_state}
use Rattle.seen_laws.specs.InEvent.{now_of}
use Rattle.std.proofs.Common.{Bool, List, None, Some, [], ap, false, map, subst, sym, true, ℕ, ◌++◌, ◌+◌, ◌<◌, ◌∙◌, ◌∷◌, ◌≡◌}
use Rattle.std.specs.Map.{lookup}
use Rattle.std.specs.Prelude.{is_some}
use Rattle.tab_doors.specs.Keeping.{IsUnmadeLoad}
use Rattle.tab_doors.specs.Look.{sight, sight_in}
use Rattle.tab_doors.specs.Orders.{next_order}
use Rattle.tab_doors.specs.Working.{IsAtWork, KeepsStore}
use Rattle.tab_doors.specs.declared.tables.Tables.{Tables}
use Rattle.tab_ids.specs.declared.NavId.{NavId}
use Rattle.tab_ids.specs.declared.ProcId.{ProcId}
use Rattle.tab_ids.specs.declared.ReqId.{ReqId}
use Rattle.tab_ids.specs.declared.StateId.{StateId}
use Rattle.tab_loads.proofs.Begun.{home_there, passing_now}
use Rattle.tab_loads.proofs.Follows.{has_come}
use Rattle.tab_loads.proofs.Makes.{causes, unknown, unmade_load, unmaking}
use Rattle.tab_passes.proofs.Others.{cause_off}
use Rattle.tab_loads.proofs.Orders.{due_make, known}
use Rattle.tab_loads.proofs.Starts.{given, states_room, to_begin}
use Rattle.tab_loads.specs.Asking.{BeginsAnew, HasCome, InLoad, IsAsked}
use Rattle.tab_loads.specs.Giving.{HasMadeWay}
use Rattle.tab_loads.specs.Telling.{away_in}
use Rattle.tab_loads.specs.declared.loaded.Loaded.TheVariants.{Begun}
use Rattle.tab_moves.specs.Making.{home_in}
use Rattle.log_model.specs.declared.job.Task.TheVariants as tasks
use Rattle.log_model.specs.declared.job.Why.TheVariants as whys
use Rattle.log_model.specs.declared.request.Request.TheVariants as requests
use Rattle.log_model.specs.declared.row_kind.RowKind.TheVariants as rows

-- the load, with these names of what it asks
abbrev pub named : InLoad → ReqId → NavId → Mode → List ℕ → List (StateId × ReqId) → InLoad
named l req nav mode address noted =
    record { event = l.event; loads = l.loads; req = req; nav = nav; mode = mode; address = address; queue = l.queue; noted = noted }

module _ (l : InLoad) (t : Tables) (asked : IsAsked l t) (req : ReqId) (req_is : l.req ≡ req) (nav : NavId) (nav_is : l.nav ≡ nav) (mode : Mode) (mode_is : l.mode ≡ mode) (address : List ℕ) (address_is : l.address ≡ address) (was : List (StateId × ReqId)) (was_is : l.noted ≡ was) where
  -- it is the same
  same : l ≡ named l req nav mode address was
  same =
      ap (λ (x : ReqId). named l x l.nav l.mode l.address l.noted) req_is
      ∙ ap (λ (x : NavId). named l req x l.mode l.address l.noted) nav_is
      ∙ ap (λ (x : Mode). named l req nav x l.address l.noted) mode_is
      ∙ ap (λ (x : List ℕ). named l req nav mode x l.noted) address_is
      ∙ ap (λ (x : List (StateId × ReqId)). named l req nav mode address x) was_is

  abbrev its : InLoad
  its = named l req nav mode address was

  pub asked_its : IsAsked (named l req nav mode address was) t
  asked_its = subst (λ (x : InLoad). IsAsked x t) same asked

  module _ (placed_ : away_in t l.nav ≡ None) (anew_ : BeginsAnew l t) (noted : List (StateId × ReqId)) (v : Tables) (out : List RowKind) (way : HasMadeWay l.event req nav t v out was noted) where
    pub placed_its : away_in t nav ≡ None
    placed_its = subst (λ (x : InLoad). away_in t x.nav ≡ None) same placed_

    pub anew_its : BeginsAnew (named l req nav mode address was) t
    anew_its = subst (λ (x : InLoad). BeginsAnew x t) same anew_

    pub given_now : IsAtWork l.event out v × IsGiven (now_of l.event out) v nav
    given_now = given its t asked_its placed_its anew_its noted v out way

    pub begin_now : (a : List ℕ) → a ≡ address → (replace : Bool) → replace ≡ load_replaces (now_of l.event out) (requests.Load nav mode a) → IsAtWork l.event out v × ((l.event.checking req ≡ false) × (IsToBegin l.event out v.loads req nav replace address × (v.states + 1 < 4294967296)))
    begin_now a a_is replace is =
        (way.work, (asked_its.asks.outside, (to_begin its t asked_its placed_its anew_its noted v out way replace (is ∙ ap (λ (x : List ℕ). load_replaces (now_of l.event out) (requests.Load nav mode x)) a_is), states_room its t asked_its placed_its anew_its noted v out way)))

    module _ (w : Tables) (now : List RowKind) (work : IsAtWork l.event now w) (now_is : now ≡ out ++ rows.Started req None ∷ []) (keeps : KeepsStore v w) where
      pub home_now : (header : Header) (a : List ℕ) → is_some (home_in header w nav a) ≡ true
      home_now header a = home_there its t asked_its placed_its anew_its noted v out way w now work now_is keeps header a

      module _ (header : Header) (header_is : header ≡ l.event.header) (a : List ℕ) (a_is : a ≡ address) (proc : ProcId) (home : home_in header w nav a ≡ Some proc) where
        home_its : home_in l.event.header w nav address ≡ Some proc
        home_its =
            ap (λ (h : Header). home_in h w nav address) (sym header_is) ∙ ap (λ (x : List ℕ). home_in header w nav x) (sym a_is) ∙ home

        abbrev order : Job
        order = next_order (now_of l.event now).jobs proc (record { 0 = w.documents + 1 }) (whys.Req req) (tasks.Populate nav (record { 0 = w.states }) address false)

        pub make_now : (replace : Bool) (own : List ℕ) → ongoing_load nav w.loads ≡ Some (begun_load req nav replace own (v.states + 1)) → IsAtWork l.event now w × (IsForOther l.event.checking (whys.Req req) × (IsMakeOfLoadDue l.event.header (now_of l.event now) (next_order (now_of l.event now).jobs proc (record { 0 = w.documents + 1 }) (whys.Req req) (tasks.Populate nav (record { 0 = w.states }) address false)) nav (record { 0 = w.states }) address × (((desk_of (now_of l.event now) proc).known ≡ 0) × ((sight_in (map sight (now_of l.event now).documents) (record { 0 = w.documents + 1 }) ≡ None) × ((lookup (is_state (record { 0 = w.states })) w.making.entries ≡ None) × (IsUnmadeLoad (now_of l.event now) w.loads nav (record { 0 = w.states }) × AreKeptDocs (now_of l.event now)))))))
        make_now replace own began = (
          work,
          (
            cause_off l.event now w work (passing_now its t asked_its placed_its anew_its noted v out way w now work now_is keeps).going.tab.asked.each (whys.Req req) (causes its t asked_its placed_its anew_its noted v out way w now work now_is keeps),
            (
              due_make its t asked_its placed_its anew_its noted v out way w now work now_is keeps proc home_its,
              (
                known its t asked_its placed_its anew_its noted v out way w now work now_is keeps proc home_its,
                (
                  unknown its t asked_its placed_its anew_its noted v out way w now work now_is keeps,
                  (
                    unmaking its t asked_its placed_its anew_its noted v out way w now work now_is keeps,
                    (
                      unmade_load its t asked_its placed_its anew_its noted v out way w now work now_is keeps replace own began,
                      (passing_now its t asked_its placed_its anew_its noted v out way w now work now_is keeps).going.tab.kept,
                    ),
                  ),
                ),
              ),
            ),
          ),
        )

        pub come_now : (y : Tables) (last : List RowKind) → IsAtWork l.event last y → last ≡ now ++ rows.Sent (next_order (now_of l.event now).jobs proc (record { 0 = w.documents + 1 }) (whys.Req req) (tasks.Populate nav (record { 0 = w.states }) address false)) ∷ [] → KeepsStore w y → HasCome l t y last noted Begun
        come_now y last work_y last_is keeps_y =
            subst (λ (x : InLoad). HasCome x t y last noted Begun) (sym same)
            (has_come its t asked_its placed_its anew_its noted v out way w now work now_is keeps proc home_its y last work_y last_is keeps_y)
