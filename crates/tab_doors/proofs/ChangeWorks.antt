-- A change is put out, and the coordinator goes on working.
use Rattle.checking_facts.proofs.Spent.{adds_unspent, unspent_at}
use Rattle.tab_doors.proofs.Ahead.{IsStep, step_more, step_plain}
use Rattle.tab_doors.proofs.Works.{open_undropped}
use Rattle.unasked.proofs.Nows.{applied_goes}
use Rattle.checking_facts.proofs.Brings.{brings_made}
use Rattle.tab_doors.proofs.LogDues.{end_due, end_off, take_due}
use Rattle.apply_plan.specs.Order.{made_in}
use Rattle.seen_facts.proofs.Coord.Held.{without_same}
use Rattle.tab_doors.proofs.Changing.{Changes, added_holds, given_holds, given_look, pushed_documents, replaced_documents, untold_sight}
use Rattle.tab_doors.proofs.EndLaws.{ended_holds}
use Rattle.tab_doors.proofs.Histories.{held_lost}
use Rattle.tab_doors.proofs.Holding.{at_home_other, awake_home, home_same, listed_unseen}
use Rattle.tab_doors.proofs.Initial.{initial_put, initial_same}
use Rattle.tab_doors.proofs.Keeping.{no_load_at, states_mapped, traversal_no_load, unstarted_no_load}
use Rattle.tab_doors.proofs.Requests.{runs_applied_apart, runs_applied_own}
use Rattle.tab_doors.proofs.Sights.{sights_on, sights_same}
use Rattle.tab_doors.proofs.Takers.{lost_seen, none_lost, removed_holds, taken_holds}
use Rattle.tab_doors.proofs.Whose.{whose_on}
use Rattle.tab_doors.proofs.Works.{aimed_log, goal_of_none, goal_on, goal_read, moving_log, work_more}
use Rattle.tab_doors.specs.Dues.{IsAdded, IsEndDue, IsEndDueIn, IsMadeFor, IsTakeDue, IsTakeDueIn, KeepsRows, SeesRows, lost_of}
use Rattle.tab_doors.specs.Ending.{destroy_all, unmove_all}
use Rattle.tab_doors.specs.Keeping.{IsNoLoad}
use Rattle.tab_doors.specs.Look.{Sight, look_of, moved_by, sight}
use Rattle.tab_doors.specs.Ties.{AreInitial, Holds, IsAwakeAtHome, IsHome, IsRunning, IsTied, status_of}
use Rattle.tab_doors.specs.Working.{HasGoal, IsAtWork, look_now}
use Rattle.tab_doors.specs.declared.tables.Tables.{Tables}
use Rattle.row_facts.proofs.FrameRows.LawfulLaws.{AsksOf, ends_other, left_parked}
use Rattle.row_facts.proofs.FrameRows.Takes.{taken_may}
use Rattle.row_facts.proofs.LeaveRows.FragmentTakes.{fragment_applied_may}
use Rattle.row_facts.proofs.FrameRows.Turns.{end_may}
use Rattle.row_facts.specs.FrameRows.Lawful.{KeepsHeld, ends_among, held_at_first}
use Rattle.seen_facts.specs.Kept.Keeping.{kept_states}
use Rattle.load_table.specs.declared.load.Load.{Load}
use Rattle.seen_facts.proofs.LoadTies.Ends.{applied_ended, other_ends}
use Rattle.seen_facts.proofs.LoadTies.Phases.{changed_phase}
use Rattle.seen_facts.specs.LoadTies.Tying.{TiesLoads}
use Rattle.log_model.specs.After.{after, ended}
use Rattle.log_model.specs.AfterDocuments.{applied_to, told_after_change}
use Rattle.log_model.specs.AfterRequests.{entries_taken, on_request}
use Rattle.log_model.specs.Equal.{has_req}
use Rattle.log_model.specs.History.{applied}
use Rattle.log_model.specs.Order.{SameHistory}
use Rattle.log_model.specs.Points.{ends_in}
use Rattle.log_model.specs.Queue.{is_traversed_duly}
use Rattle.log_model.specs.Seen.{Asked, Document, Place, Seen, Status, awake, place_in}
use Rattle.log_model.specs.declared.change.Change.{Change}
use Rattle.log_model.specs.declared.made.Made.{Made}
use Rattle.log_model.specs.declared.outcome.Ending.{Ending}
use Rattle.log_model.specs.declared.row_kind.Actor.{Actor}
use Rattle.log_model.specs.declared.row_kind.LogRow.{LogRow}
use Rattle.log_model.specs.declared.row_kind.RowKind.{RowKind}
use Rattle.indexmap.specs.IndexMap.{insert_entry}
use Rattle.nav_tree.specs.Tree.{Tree, child_node, is_state, node_of, with_nav}
use Rattle.nav_tree.specs.declared.nav.Nav.{Nav}
use Rattle.nav_tree.specs.declared.node.Node.{Node}
use Rattle.seen_facts.specs.Each.Runs.{is_this}
use Rattle.page_cache.specs.Kept.{Kept}
use Rattle.seen_facts.proofs.Request.Readers.{SameReads, on_read, reads_then}
use Rattle.seen_laws.proofs.InEvents.{led_here, now_is}
use Rattle.seen_laws.specs.Blocks.{Here, MayLog, point_at}
use Rattle.seen_laws.specs.InEvent.{Anything, InEvent, here_of, log_of, now_of, row_of}
use Rattle.std.proofs.Common.{Bool, List, None, Option, Some, [], ap, arith, cond, false, inl, inr, length, map, refl, subst, sym, true, ℕ, ◌&&◌, ◌++◌, ◌+◌, ◌==◌, ◌∙◌, ◌∷◌, ◌≡◌, ◌≤◌, ◌⊎◌}
use Rattle.std.proofs.lemmas.List.{length-map}
use Rattle.std.specs.Prelude.{filter, filter_map}
use Rattle.step_index.specs.Held.{history_held}
use Rattle.step_index.specs.declared.step_index.StepIndex.{StepIndex}
use Rattle.tab_ids.specs.declared.DocId.{DocId}
use Rattle.tab_ids.specs.declared.EntryId.{EntryId}
use Rattle.tab_ids.specs.declared.NavId.{NavId}
use Rattle.tab_ids.specs.declared.ReqId.{ReqId}
use Rattle.tab_ids.specs.declared.StateId.{StateId}
use Rattle.tab_ids.specs.declared.Step.{Step}
use Rattle.log_model.specs.declared.change.Change.TheVariants as changes
use Rattle.log_model.specs.declared.outcome.Ending.TheVariants as endings
use Rattle.log_model.specs.declared.row_kind.RowKind.TheVariants as rows
use Rattle.tab_doors.proofs.LookUps.{nav_same}
use Rattle.tab_doors.proofs.Nodes.{changed_twice}
use Rattle.tab_doors.specs.Ties.{IsAwakeIn}

-- ---- what an applied change leaves of the requests

pub applied_reads : {B : Type 0} (read : Asked → B) (s : Seen) (event : ℕ) (actor : Actor) (req : ReqId) (change : Change) → ((q : Asked) (ending : Option Ending) → read (record q { ending = ending }) ≡ read q) → ((q : Asked) (c : Option Change) → read (record q { change = c }) ≡ read q) → ((q : Asked) (took : List EntryId) → read (record q { took = took }) ≡ read q) → SameReads read s.requests (after s (record { event = event; actor = actor; row = rows.Applied req change })).requests
applied_reads read s event actor req change endings_ changes_ tooks =
    reads_then read s.requests (ended s.requests req endings.Applied) _ (on_read read s.requests req (λ q. record q { ending = Some endings.Applied }) (λ q. endings_ q _))
    (reads_then read (ended s.requests req endings.Applied) (on_request req (λ q. record q { change = Some change }) (ended s.requests req endings.Applied)) _ (on_read read (ended s.requests req endings.Applied) req (λ q. record q { change = Some change }) (λ q. changes_ q _))
    (on_read read (on_request req (λ q. record q { change = Some change }) (ended s.requests req endings.Applied)) req (λ q. record q { took = entries_taken s.history change }) (λ q. tooks q _)))

-- ---- what it leaves of loads and of kept documents

loads_applied : (e : InEvent) (out : List RowKind) (t u : Tables) (req : ReqId) (change : Change) → IsAtWork e out t → IsNoLoad (now_of e out) req → u.loads ≡ t.loads → TiesLoads (after (now_of e out) (row_of e (rows.Applied req change))) u.loads
loads_applied e out t u req change work none same =
    subst (λ (l : List Load). TiesLoads (after (now_of e out) (row_of e (rows.Applied req change))) l) (sym same) (other_ends (now_of e out) (after (now_of e out) (row_of e (rows.Applied req change))) req (applied_ended (now_of e out) e.event e.actor req change) t.loads work.loads none)

pub kept_applied : (e : InEvent) (out : List RowKind) (t u : Tables) (req : ReqId) (change : Change) → IsAtWork e out t → u.kept ≡ t.kept → u.kept.states ≡ kept_states (after (now_of e out) (row_of e (rows.Applied req change)))
kept_applied e out t u req change work same =
    ap (λ (k : Kept). k.states) same ∙ work.kept ∙ sym (states_mapped (λ (d : Document). applied_to change (told_after_change d change)) (now_of e out).documents (now_of e out).kept (changed_phase change).nr (changed_phase change).state)

-- what a document made of it
its_made : (s : Seen) (req : ReqId) (q : Asked) (made : Made) → IsMadeFor s req q made → q.made ≡ Some made
its_made s req q made (inl poked) = poked.makes
its_made s req q made (inr by) = by.makes

-- ---- a change of what a document made

module _ (e : InEvent) (out : List RowKind) (t u : Tables) (req : ReqId) (change : Change) (work : IsAtWork e out t) (due : IsTakeDue e out req change) (off : e.checking req ≡ false) (apart : is_this t.running req ≡ false) (running : u.running ≡ t.running) (goal : u.goal ≡ t.goal) where
  abbrev then_ : Seen
  then_ = after (now_of e out) (row_of e (rows.Applied req change))

  -- of the log itself
  in_log : IsTakeDueIn (log_of e out) e out req change
  in_log = take_due e out (now_is e out) (moving_log e out t work) work.checks.others req change off due

  -- no traversal is it
  abbrev IsNoTraverse : Type 0
  IsNoTraverse = (h : Here) (later : List LogRow) → is_traversed_duly (point_at h later) change ≡ true

  take_may : IsNoTraverse → (d : IsTakeDueIn (log_of e out) e out req change) → IsMadeFor (log_of e out) req d.asked d.made → MayLog (here_of e out) (row_of e (rows.Applied req change) ∷ []) Anything
  take_may plain d (inl poked) =
      taken_may (here_of e out) e.event e.actor (led_here e out work.own) req d.asked d.made change d.due poked d.unstarted d.changes d.at_once d.free d.taken (plain (here_of e out))
  take_may plain d (inr made) =
      fragment_applied_may (here_of e out) e.event e.actor req d.asked d.made change (led_here e out work.own) d.due made d.free d.taken

  take_step : IsNoTraverse → IsStep None None e out (rows.Applied req change)
  take_step plain =
      step_plain e out (rows.Applied req change) (λ r. refl) due.held (take_may plain in_log in_log.by)

  pub taken_work : IsNoTraverse → Holds (look_of then_ t.running) u → AreInitial then_.initial_states u.initial.entries → u.loads ≡ t.loads → u.kept ≡ t.kept → u.checks ≡ t.checks → u.asking ≡ t.asking → IsAtWork e (out ++ rows.Applied req change ∷ []) u
  taken_work plain holds initial loads kept checks asking =
      work_more e out (rows.Applied req change) None t u work (applied_goes e out req change (work.checks.numbered req) off) tt off (brings_made e.checking (log_of e out) work.checks.states in_log.asked change in_log.unstarted in_log.due.due, adds_unspent (log_of e out) req (unspent_at (log_of e out) req in_log.asked in_log.due.at in_log.due.open_ in_log.unstarted) change)
      (subst (λ (r : Option ReqId). Holds (look_of then_ r) u) (sym running) holds)
      (subst (λ (r : Option ReqId). IsRunning then_.requests r) (sym running) (runs_applied_apart (now_of e out) e.event e.actor t.running req change apart work.runs))
      (goal_on (now_of e out).requests then_.requests t u (applied_reads goal_read (now_of e out) e.event e.actor req change (λ q x. refl) (λ q x. refl) (λ q x. refl)) running goal work.goal)
      (few_kept (now_of e out).documents _ (now_of e out).jobs (length-map (now_of e out).documents _) work.few)
      initial
      (loads_applied e out t u req change work (unstarted_no_load (now_of e out) req due.asked due.due.at due.unstarted) loads)
      (kept_applied e out t u req change work kept)
      (off, open_undropped (log_of e out) req in_log.asked in_log.due.at in_log.due.open_)
      (take_step plain)
      checks
      asking
      (inl refl)
    where
      few_kept : (documents next_ : List Document) (jobs : ℕ) → length next_ ≡ length documents → length documents ≤ jobs + 1 → length next_ ≤ jobs + 1
      few_kept documents next_ jobs same few = omega (arith, same, few)

-- ---- a change by its door

-- what is but for the store, and then the navigables
pub changed_work : (e : InEvent) (out : List RowKind) (t mid : Tables) (tree : Tree) → mid ≡ record t { store = mid.store } → IsAtWork e out (record t { store = mid.store; tree = tree }) → IsAtWork e out (record mid { tree = tree })
changed_work e out t mid tree rest work = subst (λ (x : Tables). IsAtWork e out (record x { tree = tree })) (sym rest) work

-- those that its door finds are those of the log
pub lost_by : (e : InEvent) (out : List RowKind) (t : Tables) (mid : Tables) (change : Change) (lost : List NavId) → IsAtWork e out t → SameHistory (history_held mid.store) (applied (now_of e out).history change) → lost ≡ lost_of (history_held t.store).rows (history_held mid.store).rows (made_in t.tree) → lost ≡ lost_of (now_of e out).history.rows (applied (now_of e out).history change).rows (made_in t.tree)
lost_by e out t mid change lost work history is = is ∙ held_lost t.store mid.store (now_of e out).history (applied (now_of e out).history change) work.holds.history history (made_in t.tree)

-- ---- a push

-- what a change leaves of the tables that is but for the store and the navigables
pub tree_changes : (t : Tables) (store : StepIndex) (tree : Tree) → Changes t (record t { store = store; tree = tree })
tree_changes t store tree = record { making = refl; whose = refl; shown = refl; last = refl; documents = refl; sent = refl; loads = refl; kept = refl; checks = refl; asking = refl }

module _ (e : InEvent) (out : List RowKind) (t : Tables) (req : ReqId) (nav : NavId) (entry : EntryId) (state : StateId) (address : List ℕ) (memo : Option (List ℕ)) (work : IsAtWork e out t) (awake_ : IsAwakeIn t.tree nav (record { 0 = entry.maker })) (due : IsTakeDue e out req (changes.Push nav entry state address memo)) (off : e.checking req ≡ false) (sees : SeesRows (now_of e out) (changes.Push nav entry state address memo)) (of_document : (entry.maker == 0) ≡ false) (apart : is_this t.running req ≡ false) where
  abbrev maker : DocId
  maker = record { 0 = entry.maker }

  abbrev untold : List Sight
  untold = sights_on maker untold_sight (map sight (now_of e out).documents)

  here : IsHome (map sight (now_of e out).documents) nav awake_.node.nav.told maker
  here = awake_home (look_now e out t.running) t.tree nav awake_.node maker work.holds.navs awake_.there awake_.wakes

  homes : (other : NavId) (n : Node) (p : Place) → node_of other t.tree ≡ Some n → place_in (now_of e out).places other ≡ Some p → p.nav ≡ other → IsTied (map sight (now_of e out).documents) (moved_by (now_of e out).requests t.running) n p → IsAwakeAtHome untold p.nav (cond (nav.0 == other.0 && true) None n.nav.told) p.status
  homes other n p at at_ is tied = by_test (nav.0 == other.0) refl
    where
      by_test : (b : Bool) → (nav.0 == other.0) ≡ b → IsAwakeAtHome untold p.nav (cond (nav.0 == other.0 && true) None n.nav.told) p.status
      by_test true same =
          let same_nav : nav ≡ other = nav_same nav other same in
          let both_ : Some awake_.node ≡ Some n = sym awake_.there ∙ ap (λ (m : NavId). node_of m t.tree) same_nav ∙ at in
          let same_node : awake_.node ≡ n = cc in
          let awakes : p.status ≡ awake maker = sym tied.status ∙ ap (λ (m : Node). status_of m.nav.status) (sym same_node) ∙ ap status_of awake_.wakes in
          let home_ : IsHome untold nav None maker = home_same (map sight (now_of e out).documents) maker untold_sight nav awake_.node.nav.told None (λ d. refl) (λ d. refl) (λ d. refl) here in
          rw same (subst (λ (st : Status). IsAwakeAtHome untold p.nav None st) (sym awakes) (subst (λ (m : NavId). IsHome untold m None maker) (same_nav ∙ sym is) home_))
      by_test false apart_ =
          rw apart_ (at_home_other (map sight (now_of e out).documents) maker untold_sight nav awake_.node.nav.told (λ d. refl) here p.nav n.nav.told p.status (subst (λ (m : NavId). (nav.0 == m.0) ≡ false) (sym is) apart_) tied.home)

  abbrev push : Change
  push = changes.Push nav entry state address memo

  -- those that lose their last entries
  abbrev lost : List NavId
  lost = lost_of (now_of e out).history.rows (applied (now_of e out).history push).rows (made_in t.tree)

  -- the navigable is given the entry, and was told nothing since
  abbrev given_tree : Tree
  given_tree = with_nav (λ (n : Nav). record n { told = None }) nav (with_nav (λ (n : Nav). record n { given = Some entry }) nav t.tree)

  push_given : (store : StepIndex) → SameHistory (history_held store) (applied (now_of e out).history push) → Holds (given_look (now_of e out) t.running e.event e.actor req nav entry push) (record t { store = store; tree = given_tree })
  push_given store history =
      given_holds (now_of e out) t.running e.event e.actor req nav entry t (record t { store = store; tree = given_tree }) work.holds (tree_changes t store given_tree) due.made due.asked due.due.at (its_made (now_of e out) req due.asked due.made due.by) push untold (pushed_documents nav entry state address memo (now_of e out).documents) true homes (listed_unseen (map sight (now_of e out).documents) t.tree t.tree t.making.entries maker untold_sight (λ d. refl) (λ st d there_ is. refl) (λ st d there_ is. refl) refl work.holds.documents) (whose_on (map sight (now_of e out).documents) t.whose.entries work.holds.whose untold t.whose.entries maker untold_sight refl refl (λ d. refl) (λ d. refl)) (length-map (map sight (now_of e out).documents) _) (changed_twice (λ (n : Nav). record n { given = Some entry }) (λ (n : Nav). record n { told = None }) nav t.tree) history refl work.holds.states (work.holds.entries ∙ rw of_document refl)

  pub push_work : (store : StepIndex) → SameHistory (history_held store) (applied (now_of e out).history push) → IsAtWork e (out ++ rows.Applied req push ∷ []) (record t { store = store; tree = destroy_all lost req given_tree })
  push_work store history =
      taken_work e out t (record t { store = store; tree = destroy_all lost req given_tree }) req push work due off apart refl refl (λ h later. refl)
      (taken_holds (given_look (now_of e out) t.running e.event e.actor req nav entry push) (record t { store = store; tree = given_tree }) (record t { store = store; tree = destroy_all lost req given_tree }) (now_of e out).history (applied (now_of e out).history push) req lost (push_given store history) (lost_seen (now_of e out) push t.running t work.holds sees) refl (tree_changes (record t { store = store; tree = given_tree }) store (destroy_all lost req given_tree)) refl refl refl)
      work.initial
      refl
      refl
      refl
      refl

  -- so it is of the tables after the change's door
  pub push_done : (mid : Tables) (gone : List NavId) → mid ≡ record t { store = mid.store } → SameHistory (history_held mid.store) (applied (now_of e out).history push) → gone ≡ lost_of (history_held t.store).rows (history_held mid.store).rows (made_in t.tree) → IsAtWork e (out ++ rows.Applied req push ∷ []) (record mid { tree = destroy_all gone req (with_nav (λ (n : Nav). record n { told = None }) nav (with_nav (λ (n : Nav). record n { given = Some entry }) nav mid.tree)) })
  push_done mid gone rest history is =
      changed_work e (out ++ rows.Applied req push ∷ []) t mid _ rest (subst (λ (x : Tree). IsAtWork e (out ++ rows.Applied req push ∷ []) (record t { store = mid.store; tree = x })) (sym trees) (push_work mid.store history))
    where
      trees : destroy_all gone req (with_nav (λ (n : Nav). record n { told = None }) nav (with_nav (λ (n : Nav). record n { given = Some entry }) nav mid.tree)) ≡ destroy_all lost req given_tree
      trees =
          ap (λ (l : List NavId). destroy_all l req (with_nav (λ (n : Nav). record n { told = None }) nav (with_nav (λ (n : Nav). record n { given = Some entry }) nav mid.tree))) (lost_by e out t mid push gone work history is)
          ∙ ap (λ (x : Tables). destroy_all lost req (with_nav (λ (n : Nav). record n { told = None }) nav (with_nav (λ (n : Nav). record n { given = Some entry }) nav x.tree))) rest

-- ---- a replace

module _ (e : InEvent) (out : List RowKind) (t : Tables) (req : ReqId) (nav : NavId) (over entry : EntryId) (state : StateId) (address : List ℕ) (memo : Option (List ℕ)) (work : IsAtWork e out t) (due : IsTakeDue e out req (changes.Replace nav over entry state address memo)) (off : e.checking req ≡ false) (keeps : KeepsRows (now_of e out) (changes.Replace nav over entry state address memo)) (of_document : (entry.maker == 0) ≡ false) (apart : is_this t.running req ≡ false) where
  homes_then : (other : NavId) (n : Node) (p : Place) → node_of other t.tree ≡ Some n → place_in (now_of e out).places other ≡ Some p → p.nav ≡ other → IsTied (map sight (now_of e out).documents) (moved_by (now_of e out).requests t.running) n p → IsAwakeAtHome (map sight (now_of e out).documents) p.nav (cond (nav.0 == other.0 && false) None n.nav.told) p.status
  homes_then other n p at at_ is tied = by_test (nav.0 == other.0) refl
    where
      by_test : (b : Bool) → (nav.0 == other.0) ≡ b → IsAwakeAtHome (map sight (now_of e out).documents) p.nav (cond (nav.0 == other.0 && false) None n.nav.told) p.status
      by_test true same = rw same tied.home
      by_test false apart_ = rw apart_ tied.home

  abbrev replace : Change
  replace = changes.Replace nav over entry state address memo

  abbrev replaced_tree : Tree
  replaced_tree = with_nav (λ (n : Nav). record n { given = Some entry }) nav t.tree

  replace_given : (store : StepIndex) → SameHistory (history_held store) (applied (now_of e out).history replace) → Holds (given_look (now_of e out) t.running e.event e.actor req nav entry replace) (record t { store = store; tree = replaced_tree })
  replace_given store history =
      given_holds (now_of e out) t.running e.event e.actor req nav entry t (record t { store = store; tree = replaced_tree }) work.holds (tree_changes t store replaced_tree) due.made due.asked due.due.at (its_made (now_of e out) req due.asked due.made due.by) replace (map sight (now_of e out).documents) (sights_same (λ (d : Document). applied_to replace (told_after_change d replace)) (replaced_documents nav over entry state address memo) (now_of e out).documents) false homes_then work.holds.documents work.holds.whose refl refl history refl work.holds.states (work.holds.entries ∙ rw of_document refl)

  pub replace_work : (store : StepIndex) → SameHistory (history_held store) (applied (now_of e out).history replace) → IsAtWork e (out ++ rows.Applied req replace ∷ []) (record t { store = store; tree = replaced_tree })
  replace_work store history =
      taken_work e out t (record t { store = store; tree = replaced_tree }) req replace work due off apart refl refl (λ h later. refl)
      (taken_holds (given_look (now_of e out) t.running e.event e.actor req nav entry replace) (record t { store = store; tree = replaced_tree }) (record t { store = store; tree = replaced_tree }) (now_of e out).history (applied (now_of e out).history replace) req [] (replace_given store history) (none_lost (now_of e out) replace keeps) refl (tree_changes (record t { store = store; tree = replaced_tree }) store replaced_tree) refl refl refl)
      work.initial
      refl
      refl
      refl
      refl

-- ---- a frame is added

module _ (e : InEvent) (out : List RowKind) (t u : Tables) (req : ReqId) (owner : StateId) (nav parent : NavId) (entry : EntryId) (state : StateId) (work : IsAtWork e out t) (due : IsTakeDue e out req (changes.AddFrame owner nav entry state)) (off : e.checking req ≡ false) (keeps : KeepsRows (now_of e out) (changes.AddFrame owner nav entry state)) (added : IsAdded (now_of e out) t.tree t.running owner nav parent) (apart : is_this t.running req ≡ false) where
  pub add_work : u.tree ≡ record t.tree { navs = t.tree.navs ++ (nav, child_node parent owner req) ∷ [] } → SameHistory (history_held u.store) (applied (now_of e out).history (changes.AddFrame owner nav entry state)) → Changes t u → u.states ≡ t.states + 1 → u.entries ≡ t.entries + 1 → (value : Unit {0}) → u.initial.entries ≡ insert_entry is_state t.initial.entries state value → u.running ≡ t.running → u.goal ≡ t.goal → IsAtWork e (out ++ rows.Applied req (changes.AddFrame owner nav entry state) ∷ []) u
  add_work tree history one states entries value initial running goal =
      taken_work e out t u req (changes.AddFrame owner nav entry state) work due off apart running goal (λ h later. refl)
      (added_holds (now_of e out) t.running e.event e.actor req owner nav parent entry state added.up t u work.holds one added.holder added.up_there added.new_nav added.unmoved keeps tree history (states ∙ ap (λ (n : ℕ). n + 1) work.holds.states) (entries ∙ ap (λ (n : ℕ). n + 1) work.holds.entries))
      (initial_same ((now_of e out).initial_states ++ state ∷ []) (insert_entry is_state t.initial.entries state value) u.initial.entries initial (initial_put (now_of e out).initial_states t.initial.entries state value work.initial))
      one.loads
      one.kept
      one.checks
      one.asking

-- ---- a traversal ends

module _ (e : InEvent) (out : List RowKind) (t u : Tables) (req : ReqId) (goal_ : Step) (work : IsAtWork e out t) (its : t.running ≡ Some req) (due : IsEndDue e out req goal_) where
  abbrev ended_ : Seen
  ended_ = after (now_of e out) (row_of e (rows.Applied req (changes.Traverse goal_)))

  not_held : has_req (held_at_first e) req ≡ false
  not_held = by_first due.first
    where
      by_first : ((now_of e out).parked ≡ held_at_first e) ⊎ (((now_of e out).parked ≡ []) × (has_req (held_at_first e) req ≡ false)) → has_req (held_at_first e) req ≡ false
      by_first (inl same) = subst (λ (l : List ReqId). has_req l req ≡ false) same due.unparked
      by_first (inr none) = none.1

  end_held : KeepsHeld e out (rows.Applied req (changes.Traverse goal_))
  end_held = ends_other e out (rows.Applied req (changes.Traverse goal_)) req (refl, λ s. refl) not_held due.unparked

  none_ends : (reqs : List ReqId) → filter (has_req []) reqs ≡ []
  none_ends [] = refl
  none_ends (r ∷ reqs) = none_ends reqs

  held_then : (later : List LogRow) → AsksOf e out (rows.Applied req (changes.Traverse goal_)) later → ends_among (now_of e out).parked later ≡ (now_of e out).parked
  held_then later asks = by_first due.first
    where
      left : (now_of e (out ++ rows.Applied req (changes.Traverse goal_) ∷ [])).parked ≡ (now_of e out).parked
      left = left_parked e out (rows.Applied req (changes.Traverse goal_)) req (refl, λ s. refl) ∙ without_same (now_of e out).parked req due.unparked

      by_first : ((now_of e out).parked ≡ held_at_first e) ⊎ (((now_of e out).parked ≡ []) × (has_req (held_at_first e) req ≡ false)) → ends_among (now_of e out).parked later ≡ (now_of e out).parked
      by_first (inl same) = ap (λ (l : List ReqId). ends_among l later) same ∙ asks.1 refl ∙ left
      by_first (inr none) = ap (λ (l : List ReqId). ends_among l later) none.0 ∙ none_ends (filter_map ends_in later) ∙ sym none.0

  end_log : IsEndDueIn (log_of e out) e out req goal_
  end_log = end_due e out (now_is e out) (aimed_log e out t work) req goal_ due

  end_step : IsStep None None e out (rows.Applied req (changes.Traverse goal_))
  end_step = by_log (end_due e out (now_is e out) (aimed_log e out t work) req goal_ due)
    where
      parked : (now_of e out).parked ≡ (log_of e out).parked
      parked = ap (λ (s : Seen). s.parked) (now_is e out)

      by_log : IsEndDueIn (log_of e out) e out req goal_ → IsStep None None e out (rows.Applied req (changes.Traverse goal_))
      by_log d =
          step_more e out (rows.Applied req (changes.Traverse goal_)) (λ r. refl) end_held (λ later asks. end_may (here_of e out) e.event e.actor req d.asked goal_ (led_here e out work.own) d.due d.traverses d.makes d.passed d.stand d.unparked later (subst (λ (l : List ReqId). ends_among l later ≡ l) parked (held_then later asks)))

  -- it isn't in its check
  off : e.checking req ≡ false
  off = end_off e out (now_is e out) (aimed_log e out t work) req goal_ due

  pub end_work : u.tree ≡ unmove_all (made_in t.tree) t.tree → SameHistory (history_held u.store) (applied (now_of e out).history (changes.Traverse goal_)) → Changes t u → u.states ≡ t.states → u.entries ≡ t.entries → u.initial.entries ≡ t.initial.entries → u.running ≡ None → IsAtWork e (out ++ rows.Applied req (changes.Traverse goal_) ∷ []) u
  end_work tree history one states entries initial running =
      work_more e out (rows.Applied req (changes.Traverse goal_)) None t u work (applied_goes e out req (changes.Traverse goal_) (work.checks.numbered req) off) tt off (tt, tt)
      (subst (λ (r : Option ReqId). Holds (look_of ended_ r) u) (sym running) (ended_holds (now_of e out) e.event e.actor req goal_ t u (subst (λ (r : Option ReqId). Holds (look_of (now_of e out) r) t) its work.holds) one (λ other is. is) tree history states entries))
      (subst (λ (r : Option ReqId). IsRunning ended_.requests r) (sym running) (runs_applied_own (now_of e out) e.event e.actor req (changes.Traverse goal_) (subst (λ (r : Option ReqId). IsRunning (now_of e out).requests r) its work.runs)))
      (subst (λ (r : Option ReqId). HasGoal ended_.requests r u.goal) (sym running) (goal_of_none ended_.requests u.goal))
      (few_kept (now_of e out).documents _ (now_of e out).jobs (length-map (now_of e out).documents _) work.few)
      (initial_same (now_of e out).initial_states t.initial.entries u.initial.entries initial work.initial)
      (loads_applied e out t u req (changes.Traverse goal_) work (no_load_at (now_of e out) req due.asked due.due.at (traversal_no_load due.asked.what due.traverses)) one.loads)
      (kept_applied e out t u req (changes.Traverse goal_) work one.kept)
      (off, open_undropped (log_of e out) req end_log.asked end_log.due.at end_log.due.open_)
      end_step
      one.checks
      one.asking
      (inl refl)
    where
      few_kept : (documents next_ : List Document) (jobs : ℕ) → length next_ ≡ length documents → length documents ≤ jobs + 1 → length next_ ≤ jobs + 1
      few_kept documents next_ jobs same few = omega (arith, same, few)

-- ---- a frame is removed

module _ (e : InEvent) (out : List RowKind) (t : Tables) (req : ReqId) (nav : NavId) (work : IsAtWork e out t) (due : IsTakeDue e out req (changes.RemoveFrame nav)) (off : e.checking req ≡ false) (sees : SeesRows (now_of e out) (changes.RemoveFrame nav)) (apart : is_this t.running req ≡ false) where
  abbrev removed_navs : List NavId
  removed_navs = lost_of (now_of e out).history.rows (applied (now_of e out).history (changes.RemoveFrame nav)).rows (made_in t.tree)

  pub remove_work : (store : StepIndex) → SameHistory (history_held store) (applied (now_of e out).history (changes.RemoveFrame nav)) → IsAtWork e (out ++ rows.Applied req (changes.RemoveFrame nav) ∷ []) (record t { store = store; tree = destroy_all removed_navs req t.tree })
  remove_work store history =
      taken_work e out t (record t { store = store; tree = destroy_all removed_navs req t.tree }) req (changes.RemoveFrame nav) work due off apart refl refl (λ h later. refl)
      (removed_holds (now_of e out) t.running e.event e.actor req nav t work.holds store removed_navs (lost_seen (now_of e out) (changes.RemoveFrame nav) t.running t work.holds sees) history)
      work.initial
      refl
      refl
      refl
      refl

  pub remove_done : (mid : Tables) (gone : List NavId) → mid ≡ record t { store = mid.store } → SameHistory (history_held mid.store) (applied (now_of e out).history (changes.RemoveFrame nav)) → gone ≡ lost_of (history_held t.store).rows (history_held mid.store).rows (made_in t.tree) → IsAtWork e (out ++ rows.Applied req (changes.RemoveFrame nav) ∷ []) (record mid { tree = destroy_all gone req mid.tree })
  remove_done mid gone rest history is =
      changed_work e (out ++ rows.Applied req (changes.RemoveFrame nav) ∷ []) t mid _ rest (subst (λ (x : Tree). IsAtWork e (out ++ rows.Applied req (changes.RemoveFrame nav) ∷ []) (record t { store = mid.store; tree = x })) (sym trees) (remove_work mid.store history))
    where
      trees : destroy_all gone req mid.tree ≡ destroy_all removed_navs req t.tree
      trees = ap (λ (l : List NavId). destroy_all l req mid.tree) (lost_by e out t mid (changes.RemoveFrame nav) gone work history is) ∙ ap (λ (x : Tables). destroy_all removed_navs req x.tree) rest
