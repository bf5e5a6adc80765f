-- A navigable is shown its document, and the coordinator goes on working; a move to the document ends.
use Rattle.tab_doors.proofs.Ahead.{IsMeant, IsStep, step_show}
use Rattle.unasked.proofs.Nows.{sent_goes}
use Rattle.unasked_dues.proofs.Shows.{numbered_in}
use Rattle.unasked_dues.specs.Checking.{IsForOther}
use Rattle.tab_doors.proofs.ReadOff.{may_show}
use Rattle.seen_laws.specs.Sending.{IsNumbered}
use Rattle.nav_tree.specs.Tree.{activated}  -- keep
use Rattle.tab_doors.proofs.Initial.{initial_same}
use Rattle.tab_doors.proofs.Nodes.{changed_twice, still_there}
use Rattle.tab_doors.proofs.Showing.{show_holds, shown_nav}
use Rattle.tab_doors.proofs.Telling.{SendsOne}
use Rattle.tab_doors.proofs.Works.{aimed_log, at_seen, few_sent, goal_on, goal_read, kept_shown, loads_sent, passed_log, runs_on, work_more}
use Rattle.tab_doors.specs.Keeping.{LeavesFor, Move}
use Rattle.tab_doors.specs.Look.{look_of, moved_by}
use Rattle.tab_doors.specs.Orders.{MayShow, order_to, proc_at}
use Rattle.tab_doors.specs.Ties.{Holds, IsRunning}
use Rattle.tab_doors.specs.Working.{IsAtWork, IsAtWorkFor}
use Rattle.tab_doors.specs.declared.tables.Tables.{Tables}
use Rattle.indexmap.specs.IndexMap.{insert_entry}
use Rattle.seen_facts.proofs.Kept.States.{AreOfOwnStates}
use Rattle.log_model.proofs.Refl.{nat_eq_refl}
use Rattle.log_model.specs.After.{after}
use Rattle.log_model.specs.AfterDocuments.{addressed}
use Rattle.log_model.specs.AfterPlaces.{sleepers_below}
use Rattle.log_model.specs.AfterRequests.{on_served, request_served, with_activated, with_moved}
use Rattle.log_model.specs.History.{has_nav}
use Rattle.log_model.specs.Seen.{Asked, Document, Place, Seen, place_of, request_in}
use Rattle.log_model.specs.declared.job.Job.{Job}
use Rattle.log_model.specs.declared.job.Task.{Task}
use Rattle.log_model.specs.declared.job.Why.{Why}
use Rattle.log_model.specs.declared.row_kind.RowKind.{RowKind}
use Rattle.nav_tree.specs.Tree.{Tree, is_nav, nav_of, node_of, with_nav}
use Rattle.nav_tree.specs.declared.nav.Nav.{Nav}
use Rattle.seen_facts.specs.Each.Runs.{is_run}
use Rattle.page_cache.specs.Kept.{without}
use Rattle.seen_facts.proofs.Request.LookUps.{on_itself}
use Rattle.seen_facts.proofs.Request.Readers.{SameReads, on_read}
use Rattle.seen_laws.proofs.InEvents.{led_here, order_quiet}
use Rattle.seen_laws.proofs.Sendings.{show_may}
use Rattle.seen_laws.specs.InEvent.{InEvent, here_of, log_of, now_of, row_of}
use Rattle.std.proofs.Common.{Bool, List, None, Option, Some, [], ap, arith, false, inl, refl, subst, sym, ℕ, ◌++◌, ◌+◌, ◌<◌, ◌==◌, ◌∙◌, ◌∷◌, ◌≡◌}
use Rattle.std.proofs.lemmas.Bool.Decides.{nat_tests}
use Rattle.std.proofs.lemmas.List.{length-map}
use Rattle.std.specs.Option.{IsSome, option_map_or}
use Rattle.std.specs.Prelude.{IfSome, is_some, option_map}
use Rattle.tab_ids.specs.declared.DocId.{DocId}
use Rattle.tab_ids.specs.declared.EntryId.{EntryId}
use Rattle.tab_ids.specs.declared.Epoch.{Epoch}
use Rattle.tab_ids.specs.declared.NavId.{NavId}
use Rattle.tab_ids.specs.declared.ReqId.{ReqId}
use Rattle.tab_ids.specs.declared.StateId.{StateId}
use Rattle.log_model.specs.declared.job.Task.TheVariants as tasks
use Rattle.log_model.specs.declared.job.Why.TheVariants as whys
use Rattle.log_model.specs.declared.row_kind.RowKind.TheVariants as rows

-- ---- what an order says of the request that it is for

pub served_same : {B : Type 0} (read : Asked → B) (s : Seen) (job : Job) (task : Task) (why : Why) → ((q : Asked) → read (request_served s job task q) ≡ read q) → SameReads read s.requests (on_served why (request_served s job task) s.requests)
served_same read s job task (whys.Req req) same = on_read read s.requests req (request_served s job task) same
served_same read s job task (whys.Death death) same = λ req. refl
served_same read s job task whys.Evict same = λ req. refl
served_same read s job task whys.Start same = λ req. refl

-- ---- the order

module _ {move : Option Move} (e : InEvent) (out : List RowKind) (t u : Tables) (nav : NavId) (doc : DocId) (why : Why) (entry : EntryId) (epoch : Epoch) (long at : ℕ) (memo : Option (List ℕ)) (address : List ℕ) (work : IsAtWorkFor move e out t) (for_other : IsForOther e.checking why) where
  abbrev pub show : Job
  show = order_to (now_of e out) doc why (tasks.Activate entry epoch long at memo address)

  module _ (may : MayShow (now_of e out) t.tree nav show entry epoch (long, at) memo address) (for_run : (r : ReqId) → t.running ≡ Some r → why ≡ whys.Req r) where
    abbrev then_shown : Seen
    then_shown = after (now_of e out) (row_of e (rows.Sent show))

    abbrev d : Document
    d = may.document

    -- what the navigable leaves is of the move to the document, where one has begun
    meant : (m : Option Move) (state : StateId) (keep : ℕ) → LeavesFor m (now_of e out) doc state keep → IsMeant m doc
    meant None state keep leaves = tt
    meant (Some m) state keep leaves = leaves.0

    -- of the log itself
    may_log : MayShow (log_of e out) t.tree nav show entry epoch (long, at) memo address
    may_log =
        may_show e.checking (log_of e out) (aimed_log e out t work) t.tree nav show entry epoch (long, at) memo address (passed_log e out t work show.task why for_other may.passed) (at_seen e out t work (λ (s : Seen). MayShow s t.tree nav show entry epoch (long, at) memo address) may)

    show_step : IsMeant move doc → IsStep move None e out (rows.Sent show)
    show_step is_meant =
        step_show e out move show is_meant (order_quiet e show (tasks.Activate entry epoch long at memo address) refl tt) refl (show_may (here_of e out) e.event e.actor show may_log.document entry epoch long at memo address refl (led_here e out work.own) (numbered_in e.checking (log_of e out) show (at_seen e out t work (λ (s : Seen). IsNumbered s show) (record { number = refl; incarnation = may.known }))) may_log.goes may_log.due may_log.passed)

    keeps_read : {B : Type 0} (read : Asked → B) → ((q : Asked) (navs : List NavId) (n : NavId) → read (with_activated n (with_moved navs q)) ≡ read q) → (q : Asked) → read (request_served (now_of e out) show (tasks.Activate entry epoch long at memo address) q) ≡ read q
    keeps_read read same q = rw may.goes.found (same q (option_map_or (sleepers_below (now_of e out) doc) (place_of (now_of e out) d.nav) []) d.nav)

    same_reads : {B : Type 0} (read : Asked → B) → ((q : Asked) (navs : List NavId) (n : NavId) → read (with_activated n (with_moved navs q)) ≡ read q) → SameReads read (now_of e out).requests then_shown.requests
    same_reads read same = served_same read (now_of e out) show (tasks.Activate entry epoch long at memo address) why (keeps_read read same)

    -- who is moved then
    moved_then : Option ReqId → List NavId
    moved_then None = []
    moved_then (Some r) = d.nav ∷ moved_by (now_of e out).requests (Some r)

    moved_is : (run : Option ReqId) → ((r : ReqId) → run ≡ Some r → why ≡ whys.Req r) → IsRunning (now_of e out).requests run → moved_by then_shown.requests run ≡ moved_then run
    unfolding moved_then
    moved_is None forr runs = refl
    moved_is (Some r) forr runs =
        let q = runs.there r refl in
        let its : why ≡ whys.Req r = forr r refl in
        let found : request_in then_shown.requests r ≡ option_map (request_served (now_of e out) show (tasks.Activate entry epoch long at memo address)) (request_in (now_of e out).requests r) = ap (λ (w : Why). request_in (on_served w (request_served (now_of e out) show (tasks.Activate entry epoch long at memo address)) (now_of e out).requests) r) its ∙ on_itself (now_of e out).requests r (request_served (now_of e out) show (tasks.Activate entry epoch long at memo address)) in
        ap (λ (o : Option Asked). option_map_or (λ (x : Asked). x.moved) o []) found ∙ (let at_ : request_in (now_of e out).requests r ≡ Some q.0 = q.1 in rw at_ (rw may.goes.found (rw may.nobody refl)))

    own : (run : Option ReqId) (b : Bool) → has_nav (moved_by (now_of e out).requests run) d.nav ≡ b → has_nav (moved_then run) d.nav ≡ is_some run
    unfolding moved_then
    own None b is = refl
    own (Some r) b is = rw (nat_eq_refl d.nav.0) refl

    others : (run : Option ReqId) (other : NavId) → (other.0 == d.nav.0) ≡ false → has_nav (moved_then run) other ≡ has_nav (moved_by (now_of e out).requests run) other
    unfolding moved_then
    others None other apart = refl
    others (Some r) other apart = let turned : (d.nav.0 == other.0) ≡ false = grind (arith, nat_tests, apart) in rw turned refl

    place_unmet : (p : Place) → place_of (now_of e out) d.nav ≡ Some p → p.is_unmet ≡ false
    place_unmet p at_ =
        let both_ : Some may.due.place ≡ Some p = sym may.due.placed ∙ at_ in
        let one : may.due.place ≡ p = cc in
        ap (λ (x : Place). x.is_unmet) (sym one) ∙ may.unreloaded

    pub show_work : u.tree ≡ with_nav (λ (n : Nav). record n { moved = is_some t.running }) nav (with_nav (λ (n : Nav). record n { told = Some (long, at) }) nav (with_nav (activated entry doc why) nav t.tree)) → SendsOne t u (insert_entry is_nav t.shown.entries nav show.nr) (insert_entry is_nav t.last.entries nav doc) → u.running ≡ t.running → u.goal ≡ t.goal → (state : StateId) → AreOfOwnStates (now_of e out).documents (now_of e out).kept doc state → LeavesFor move (now_of e out) doc state t.kept.keep → u.kept ≡ record t.kept { states = without state t.kept.states } → IsAtWork e (out ++ rows.Sent show ∷ []) u
    show_work tree one running goal state its_state leaves kept =
        work_more e out (rows.Sent show) None t u work (sent_goes e out show refl) tt for_other tt
        (subst (λ (r : Option ReqId). Holds (look_of then_shown r) u) (sym running) (show_holds (now_of e out) t.running e.event e.actor (proc_at (now_of e out) doc) doc why entry epoch (long, at) memo address d may.goes.found may.nobody may.node t (λ b. is_some t.running) (moved_then t.running) (subst (λ (n : NavId). node_of n t.tree ≡ Some may.node) (sym may.nav_is) may.there) may.next work.holds place_unmet (moved_is t.running for_run work.runs) (own t.running) (others t.running) u (tree ∙ fused) (subst (λ (n : NavId). SendsOne t u (insert_entry is_nav t.shown.entries n show.nr) (insert_entry is_nav t.last.entries n doc)) (sym may.nav_is) one) (rw may.due.placed refl)))
        (runs_on (now_of e out).requests then_shown.requests t u (same_reads is_run (λ q navs n. refl)) running work.runs)
        (goal_on (now_of e out).requests then_shown.requests t u (same_reads goal_read (λ q navs n. refl)) running goal work.goal)
        (few_sent (now_of e out).documents _ (now_of e out).jobs (length-map (now_of e out).documents _) work.few)
        (initial_same (now_of e out).initial_states t.initial.entries u.initial.entries one.initial work.initial)
        (loads_sent e out t u show tt work one.loads)
        (kept_shown (now_of e out) doc (addressed (tasks.Activate entry epoch long at memo address)) (λ x. refl) (λ x. refl) state its_state move t.kept u.kept work.kept leaves kept)
        for_other
        (show_step (meant move state t.kept.keep leaves))
        one.checks
        one.asking
        (inl refl)
      where
        fused : with_nav (λ (n : Nav). record n { moved = is_some t.running }) nav (with_nav (λ (n : Nav). record n { told = Some (long, at) }) nav (with_nav (activated entry doc why) nav t.tree)) ≡ with_nav (shown_nav entry doc why (long, at) (λ b. is_some t.running)) d.nav t.tree
        fused =
            ap (λ (x : Tree). with_nav (λ (n : Nav). record n { moved = is_some t.running }) nav x) (changed_twice (activated entry doc why) (λ (n : Nav). record n { told = Some (long, at) }) nav t.tree)
            ∙ changed_twice (λ (n : Nav). record (activated entry doc why n) { told = Some (long, at) }) (λ (n : Nav). record n { moved = is_some t.running }) nav t.tree
            ∙ ap (λ (m : NavId). with_nav (shown_nav entry doc why (long, at) (λ b. is_some t.running)) m t.tree) (sym may.nav_is)

-- ---- the calls of the door that shows

module _ (s : Seen) (tree : Tree) (nav : NavId) (job : Job) (entry : EntryId) (epoch : Epoch) (pair : ℕ × ℕ) (memo : Option (List ℕ)) (address : List ℕ) (may : MayShow s tree nav job entry epoch pair memo address) where
  pub show_known : IsSome (node_of nav tree)
  show_known = rw may.there refl

  pub show_known_more : (f : Nav → Nav) (new : Tree) → new ≡ with_nav f nav tree → IsSome (node_of nav new)
  show_known_more f new is = rw is (still_there f nav tree show_known)

  pub show_fits : epoch.0 < 18446744073709551616 → IfSome (nav_of nav tree) (λ n. n.epoch.0 + 1 < 18446744073709551616)
  show_fits fits = rw may.there (subst (λ (x : Epoch). x.0 < 18446744073709551616) may.next fits)
