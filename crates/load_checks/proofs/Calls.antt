-- What the two calls ask by which a load passes its check and the event is cut, and what they leave, in their own words.
use Rattle.load_checks.proofs.Passes as passes
use Rattle.load_checks.specs.Stages.{GoesAt, HasLetPass, InLoadTurn, IsCutAt, mode_in, reqs_of}
use Rattle.load_midway.specs.Midway.{gone_on, load_on}
use Rattle.load_passed.specs.Passing.{IsPastLoad, IsToMake, load_tables, passed_load}
use Rattle.load_prompts.specs.Prompting.{AreToAskAbout, HasAskedAbout}
use Rattle.load_table.specs.Loads.{HasOneEach, KeepsOthers, cancelled, ongoing_load}
use Rattle.load_table.specs.declared.load.Load.{Load}
use Rattle.load_table.specs.declared.phase.Phase.TheVariants as phases
use Rattle.log_model.specs.declared.row_kind.RowKind.{RowKind}
use Rattle.seen_facts.proofs.LoadTies.Begins.{found_nav}
use Rattle.seen_laws.specs.InEvent.{log_of}
use Rattle.std.proofs.Common.{List, Some, [], ap, subst, sym, ◌∙◌, ◌≡◌}
use Rattle.tab_doors.specs.declared.tables.Tables.{Tables}
use Rattle.tab_ids.specs.declared.NavId.{NavId}
use Rattle.tab_ids.specs.declared.ReqId.{ReqId}
use Rattle.tab_prompts.specs.Asking.{BeginsAsked}
use Rattle.tab_settles.specs.PassedOn.{IsPassing}
use Rattle.unload_check.specs.Checks.{ended, outcome_at}
use Rattle.unload_check.specs.declared.check.Check.TheVariants as checks

module _ (v : InLoadTurn) (load : Load) (own : v.load ≡ load) (t : Tables) (at : IsCutAt v.stage t) (its : ongoing_load load.nav t.asking ≡ Some load) (goes : outcome_at load.req t.checks ≡ Some checks.Go) (each : HasOneEach t.asking) where
  its_own : ongoing_load v.load.nav t.asking ≡ Some v.load
  its_own = subst (λ (k : Load). ongoing_load k.nav t.asking ≡ Some k) (sym own) its

  goes_own : outcome_at v.load.req t.checks ≡ Some checks.Go
  goes_own = ap (λ (k : Load). outcome_at k.req t.checks) own ∙ goes

  -- that with this load's document to be made
  pub make_asks : passed_load (load_on v.stage.event (reqs_of (cancelled v.load.nav t.asking)) v.stage.queue v.stage.noted v.load.req v.load.nav (mode_in (log_of v.stage.event []) v.load.req) v.load.address v.load.replace v.load.state) ≡ record { req = load.req; nav = load.nav; address = load.address; replace = load.replace; state = load.state; phase = phases.Asking } × IsToMake (load_on v.stage.event (reqs_of (cancelled v.load.nav t.asking)) v.stage.queue v.stage.noted v.load.req v.load.nav (mode_in (log_of v.stage.event []) v.load.req) v.load.address v.load.replace v.load.state) (load_tables t (passed_load (load_on v.stage.event (reqs_of (cancelled v.load.nav t.asking)) v.stage.queue v.stage.noted v.load.req v.load.nav (mode_in (log_of v.stage.event []) v.load.req) v.load.address v.load.replace v.load.state)) (ended v.load.req t.checks))
  make_asks = (
    ap (λ (k : Load). let x : Load = record { req = k.req; nav = k.nav; address = k.address; replace = k.replace; state = k.state; phase = phases.Asking } in x) own,
    passes.asks_make v.stage t at v.load.nav v.load its_own goes_own each,
  )

  module _ (u : Tables) (out : List RowKind) (past : IsPastLoad (load_on v.stage.event (reqs_of (cancelled v.load.nav t.asking)) v.stage.queue v.stage.noted v.load.req v.load.nav (mode_in (log_of v.stage.event []) v.load.req) v.load.address v.load.replace v.load.state) u out) (checks_is : u.checks ≡ ended load.req t.checks) (asking_is : u.asking ≡ cancelled load.nav t.asking) (others : KeepsOthers load.nav t.loads u.loads) (runs_is : u.running ≡ t.running) (goal_is : u.goal ≡ t.goal) where
    checks_own : u.checks ≡ ended v.load.req t.checks
    checks_own = checks_is ∙ ap (λ (k : Load). ended k.req t.checks) (sym own)

    asking_own : u.asking ≡ cancelled v.load.nav t.asking
    asking_own = asking_is ∙ ap (λ (k : Load). cancelled k.nav t.asking) (sym own)

    others_own : KeepsOthers v.load.nav t.loads u.loads
    others_own = subst (λ (k : Load). KeepsOthers k.nav t.loads u.loads) (sym own) others

    reqs_own : reqs_of (cancelled v.load.nav t.asking) ≡ reqs_of u.asking
    reqs_own = ap reqs_of (sym asking_own)

    pub cut_asks : IsPassing (record { event = gone_on v.stage.event v.load.req; loads = reqs_of u.asking; hand = [] }) out u × (BeginsAsked (gone_on v.stage.event v.load.req) u.checks × AreToAskAbout (gone_on v.stage.event v.load.req) out u.checks [])
    cut_asks =
        subst (λ (l : List ReqId). IsPassing (record { event = gone_on v.stage.event v.load.req; loads = l; hand = [] }) out u × (BeginsAsked (gone_on v.stage.event v.load.req) u.checks × AreToAskAbout (gone_on v.stage.event v.load.req) out u.checks [])) reqs_own
        (passes.asks_cut v.stage t at v.load.nav v.load its_own goes_own each u out past checks_own asking_own others_own runs_is goal_is)

    pub has_passed : (last : Tables) (new : List RowKind) → HasAskedAbout (record { event = gone_on v.stage.event v.load.req; loads = reqs_of u.asking; hand = [] }) [] out new u last → HasLetPass v.stage load.nav t last new
    has_passed last new asked =
        subst (λ (k : Load). HasLetPass v.stage k.nav t last new) own
        (passes.let_pass v.stage t at v.load.nav v.load its_own goes_own each u out past checks_own asking_own others_own runs_is goal_is last new
        (subst (λ (l : List ReqId). HasAskedAbout (record { event = gone_on v.stage.event v.load.req; loads = l; hand = [] }) [] out new u last) (sym reqs_own) asked))

-- the navigable's load, where it goes on
pub at_here : (t : Tables) (nav : NavId) (load : Load) → ongoing_load nav t.asking ≡ Some load → GoesAt t nav → (load.nav ≡ nav) × ((ongoing_load load.nav t.asking ≡ Some load) × (outcome_at load.req t.checks ≡ Some checks.Go))
at_here t nav load found goes = (navs, (ap (λ (n : NavId). ongoing_load n t.asking) navs ∙ found, sym (ap (λ (k : Load). outcome_at k.req t.checks) one) ∙ goes.goes))
  where
    navs : load.nav ≡ nav
    navs = found_nav nav t.asking load found

    one : goes.load ≡ load
    one = let both : Some goes.load ≡ Some load = sym goes.its ∙ found in cc
