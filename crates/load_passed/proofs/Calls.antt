-- The load passes, and its document is to be made: what the calls ask for, and what has become of it, in the words of the code.
use Rattle.load_passed.proofs.Makes as makes
use Rattle.load_passed.proofs.Resting.{past_last}
use Rattle.load_passed.specs.Passing.{InLoadPass, IsPastLoad, IsToMake, load_tables, passed_load}
use Rattle.load_table.specs.declared.load.Load.{Load}
use Rattle.load_table.specs.declared.phase.Phase.TheVariants as phases
use Rattle.log_model.specs.Seen.{desk_of}
use Rattle.log_model.specs.declared.header.Header.{Header}
use Rattle.log_model.specs.declared.job.Task.TheVariants as tasks
use Rattle.log_model.specs.declared.job.Why.TheVariants as whys
use Rattle.log_model.specs.declared.row_kind.RowKind.TheVariants as rows
use Rattle.log_model.specs.declared.row_kind.RowKind.{RowKind}
use Rattle.nav_tree.specs.Tree.{is_state}
use Rattle.row_facts.specs.LoadRows.LoadMaking.{IsMakeOfLoadDue}
use Rattle.seen_facts.specs.Kept.Keeping.{AreKeptDocs}
use Rattle.seen_laws.specs.InEvent.{now_of}
use Rattle.std.proofs.Common.{Bool, List, None, Some, [], ap, false, map, subst, sym, true, ℕ, ◌++◌, ◌+◌, ◌∙◌, ◌∷◌, ◌≡◌}
use Rattle.std.specs.Map.{lookup}
use Rattle.std.specs.Prelude.{is_some}
use Rattle.tab_doors.specs.Keeping.{IsUnmadeLoad}
use Rattle.tab_doors.specs.Look.{sight, sight_in}
use Rattle.tab_doors.specs.Orders.{IsForOther, next_order}
use Rattle.tab_doors.specs.Working.{IsAtWork, KeepsStore}
use Rattle.tab_doors.specs.declared.tables.Tables.{Tables}
use Rattle.tab_ids.specs.declared.NavId.{NavId}
use Rattle.tab_ids.specs.declared.ProcId.{ProcId}
use Rattle.tab_ids.specs.declared.ReqId.{ReqId}
use Rattle.tab_ids.specs.declared.StateId.{StateId}
use Rattle.tab_moves.specs.Making.{home_in}
use Rattle.tab_passes.proofs.Others.{cause_off}
use Rattle.unload_check.specs.Checks.{ended}

-- the load of these names
abbrev pub named : InLoadPass → ReqId → NavId → List ℕ → Bool → StateId → InLoadPass
named l req nav address replace state =
    record { event = l.event; before = l.before; loads = l.loads; req = req; nav = nav; mode = l.mode; address = address; replace = replace; state = state; queue = l.queue; noted = l.noted }

module _ (l : InLoadPass) (req : ReqId) (nav : NavId) (address : List ℕ) (replace : Bool) (state : StateId) (load_is : passed_load l ≡ record { req = req; nav = nav; address = address; replace = replace; state = state; phase = phases.Asking }) where
  -- it is the same
  same : l ≡ named l req nav address replace state
  same = ap (λ (k : Load). named l k.req k.nav k.address k.replace k.state) load_is

  module _ (t u : Tables) (own : List ℕ) (own_is : own ≡ address) (passes : IsToMake l (load_tables t (passed_load l) (ended l.req t.checks))) (tables : u ≡ load_tables t (record { req = req; nav = nav; address = own; replace = replace; state = state; phase = phases.Asking }) (ended req t.checks)) where
    -- the tables are those that were asked for
    tables_are : u ≡ load_tables t (passed_load l) (ended l.req t.checks)
    tables_are =
        tables
        ∙ ap (λ (a : List ℕ). load_tables t (record { req = req; nav = nav; address = a; replace = replace; state = state; phase = phases.Asking }) (ended req t.checks)) own_is
        ∙ ap (λ (k : Load). load_tables t k (ended k.req t.checks)) (sym load_is)

    its : IsToMake (named l req nav address replace state) u
    its =
        subst (λ (x : InLoadPass). IsToMake x u) same (subst (λ (x : Tables). IsToMake l x) (sym tables_are) passes)

    pub home_now : (header : Header) (a : List ℕ) → is_some (home_in header u nav a) ≡ true
    home_now header a = makes.home_there (named l req nav address replace state) u its header a

    -- its check has ended in the table
    pub checks_now : (y : Tables) → KeepsStore u y → y.checks ≡ ended req t.checks
    checks_now y keeps_y = keeps_y.checks ∙ ap (λ (x : Tables). x.checks) tables

    module _ (header : Header) (header_is : header ≡ l.event.header) (a : List ℕ) (a_is : a ≡ address) (proc : ProcId) (home : home_in header u nav a ≡ Some proc) (out : List RowKind) (first : out ≡ []) where
      home_its : home_in l.event.header u nav address ≡ Some proc
      home_its =
          ap (λ (h : Header). home_in h u nav address) (sym header_is) ∙ ap (λ (x : List ℕ). home_in header u nav x) (sym a_is) ∙ home

      pub make_now : (b : List ℕ) → b ≡ address → IsAtWork l.event out u × (IsForOther l.event.checking (whys.Req req) × (IsMakeOfLoadDue l.event.header (now_of l.event out) (next_order (now_of l.event out).jobs proc (record { 0 = u.documents + 1 }) (whys.Req req) (tasks.Populate nav state b false)) nav state b × (((desk_of (now_of l.event out) proc).known ≡ 0) × ((sight_in (map sight (now_of l.event out).documents) (record { 0 = u.documents + 1 }) ≡ None) × ((lookup (is_state state) u.making.entries ≡ None) × (IsUnmadeLoad (now_of l.event out) u.loads nav state × AreKeptDocs (now_of l.event out)))))))
      make_now b b_is =
          subst (λ (o : List RowKind). IsAtWork l.event o u × (IsForOther l.event.checking (whys.Req req) × (IsMakeOfLoadDue l.event.header (now_of l.event o) (next_order (now_of l.event o).jobs proc (record { 0 = u.documents + 1 }) (whys.Req req) (tasks.Populate nav state b false)) nav state b × (((desk_of (now_of l.event o) proc).known ≡ 0) × ((sight_in (map sight (now_of l.event o).documents) (record { 0 = u.documents + 1 }) ≡ None) × ((lookup (is_state state) u.making.entries ≡ None) × (IsUnmadeLoad (now_of l.event o) u.loads nav state × AreKeptDocs (now_of l.event o)))))))) (sym first) (
            its.work,
            (
              cause_off l.event [] u its.work (makes.passing_now (named l req nav address replace state) u its).going.tab.asked.each (whys.Req req) (makes.causes (named l req nav address replace state) u its),
              (
                subst (λ (x : List ℕ). IsMakeOfLoadDue l.event.header (now_of l.event []) (next_order (now_of l.event []).jobs proc (record { 0 = u.documents + 1 }) (whys.Req req) (tasks.Populate nav state x false)) nav state x) (sym b_is) (makes.due_make (named l req nav address replace state) u its proc home_its),
                (
                  makes.known (named l req nav address replace state) u its proc home_its,
                  (
                    makes.unknown (named l req nav address replace state) u its,
                    (
                      makes.unmaking (named l req nav address replace state) u its,
                      (
                        makes.unmade_load (named l req nav address replace state) u its,
                        (makes.passing_now (named l req nav address replace state) u its).going.tab.kept,
                      ),
                    ),
                  ),
                ),
              ),
            ),
          )

      pub past_now : (b : List ℕ) → b ≡ address → (y : Tables) (last : List RowKind) → IsAtWork l.event last y → last ≡ out ++ rows.Sent (next_order (now_of l.event out).jobs proc (record { 0 = u.documents + 1 }) (whys.Req req) (tasks.Populate nav state b false)) ∷ [] → KeepsStore u y → IsPastLoad l y last
      past_now b b_is y last work_y last_is keeps_y =
          subst (λ (x : InLoadPass). IsPastLoad x y last) (sym same) (past_last (named l req nav address replace state) u its proc home_its y last work_y row_is keeps_y)
        where
          row_is : last ≡ rows.Sent (next_order (now_of l.event []).jobs proc (record { 0 = u.documents + 1 }) (whys.Req req) (tasks.Populate nav state address false)) ∷ []
          row_is =
              last_is
              ∙ ap (λ (o : List RowKind). o ++ rows.Sent (next_order (now_of l.event o).jobs proc (record { 0 = u.documents + 1 }) (whys.Req req) (tasks.Populate nav state b false)) ∷ []) first
              ∙ ap (λ (x : List ℕ). rows.Sent (next_order (now_of l.event []).jobs proc (record { 0 = u.documents + 1 }) (whys.Req req) (tasks.Populate nav state x false)) ∷ []) b_is
