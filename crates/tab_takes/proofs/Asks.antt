-- The change that what a document made asks of the history, as the tables tell: that of its document's navigable and document state.
use Rattle.history_laws.proofs.InOrder.{count_by-ordered}
use Rattle.log_model.specs.AfterRequests.{changes_history}
use Rattle.log_model.specs.History.{History, has_nav, is_of}
use Rattle.log_model.specs.Causes.{denial_at_delivery}
use Rattle.log_model.specs.Once.{next_entry_of, next_state}
use Rattle.log_model.specs.Order.{SameHistory}
use Rattle.log_model.specs.Soundness.{hangs_on, is_owned_by}
use Rattle.tab_facts.proofs.Frame.Removed.{unhung_owner}
use Rattle.log_model.specs.Seen.{Seen}
use Rattle.log_model.specs.declared.change.Change.{Change}
use Rattle.log_model.specs.declared.made.Made.{Made}
use Rattle.log_model.specs.declared.made.What.{What}
use Rattle.log_model.specs.declared.row.Row.{Row}
use Rattle.nav_tree.specs.Tree.{state_of}
use Rattle.sync_core.specs.declared.judging.Judged.TheVariants as verdicts
use Rattle.tab_doors.specs.declared.tables.Tables.{Tables}
use Rattle.tab_ids.specs.declared.ReqId.{ReqId}
use Rattle.tab_rests.specs.PassedOn.{InPass}
use Rattle.tab_takes.proofs.Now.{now_, own, state_listed}
use Rattle.tab_takes.proofs.Verdicts.{IsOfIt, Tells}
use Rattle.tab_takes.specs.Taking.{IsToTake, asked_in, nav_found}
use Rattle.log_model.specs.declared.outcome.Denial.TheVariants as denials
use Rattle.log_model.specs.declared.row_kind.RowKind.{RowKind}
use Rattle.std.proofs.Common.{Bool, List, None, Option, Some, ap, cond, false, not, refl, sym, true, ℕ, ◌&&◌, ◌+◌, ◌==◌, ◌||◌, ◌∙◌, ◌≡◌}
use Rattle.std.specs.List.{count_by}
use Rattle.std.specs.Prelude.{is_some, nat_lt}
use Rattle.step_index.proofs.Counting.{any_counted}
use Rattle.step_index.specs.Held.{history_held}
use Rattle.sync_core.specs.Changes.{asked_change, change_made, is_go, lacks_frame, takes_used_number}
use Rattle.tab_ids.specs.declared.EntryId.{EntryId}
use Rattle.tab_ids.specs.declared.NavId.{NavId}
use Rattle.tab_ids.specs.declared.StateId.{StateId}
use Rattle.log_model.specs.declared.change.Change.TheVariants as changes
use Rattle.log_model.specs.declared.made.What.TheVariants as whats

-- ---- whether a frame hangs on a state doesn't hang on the order of the rows

pub hangs_held : (nav : NavId) (state : StateId) (held history : History) → SameHistory held history → hangs_on nav state held.rows ≡ hangs_on nav state history.rows
hangs_held nav state held history same =
    sym (any_counted test held.rows)
    ∙ ap (nat_lt 0) (sym (count_by-ordered test held.rows) ∙ ap (count_by test) same.rows ∙ count_by-ordered test history.rows)
    ∙ any_counted test history.rows
  where
    test : Row → Bool
    test row = is_of nav row && is_owned_by state row

asks_same : (held history : History) → SameHistory held history → (what : What) (nav : NavId) (state : StateId) (entry : EntryId) (fresh : StateId) → asked_change held what nav state entry fresh ≡ asked_change history what nav state entry fresh
asks_same held history same (whats.Push new memo address) nav state entry fresh = refl
asks_same held history same (whats.Replace over new memo address) nav state entry fresh = refl
asks_same held history same (whats.AddFrame child) nav state entry fresh =
    ap (λ (l : List NavId). let o : Option Change = cond ((child.0 == 0 || has_nav l child) || false) None (Some (changes.AddFrame state child entry fresh)) in o) same.added
asks_same held history same (whats.RemoveFrame child) nav state entry fresh =
    ap (λ (b : Bool). let o : Option Change = cond (not b) None (Some (changes.RemoveFrame child)) in o) (hangs_held child state held history same)
asks_same held history same (whats.Go delta) nav state entry fresh = refl
asks_same held history same whats.Edit nav state entry fresh = refl

-- ---- what was made, of the change that it asks

some_same : {A : Type 0} {a b : A} → (let o : Option A = Some a in o) ≡ Some b → a ≡ b
some_same e = cc

abbrev pub made_by : Change → What
made_by (changes.Push nav entry state address memo) = whats.Push entry memo address
made_by (changes.Replace nav over entry state address memo) = whats.Replace over entry memo address
made_by (changes.AddFrame owner nav entry state) = whats.AddFrame nav
made_by (changes.RemoveFrame nav) = whats.RemoveFrame nav
made_by (changes.Traverse goal) = whats.Edit
made_by (changes.Reload nav) = whats.Edit
made_by changes.Edit = whats.Edit

nav_by : NavId → Change → NavId
nav_by none (changes.Push nav entry state address memo) = nav
nav_by none (changes.Replace nav over entry state address memo) = nav
nav_by none _ = none

state_by : StateId → Change → StateId
state_by none (changes.Push nav entry state address memo) = state
state_by none (changes.Replace nav over entry state address memo) = state
state_by none (changes.AddFrame owner nav entry state) = owner
state_by none _ = none

-- the change that is asked is that of what was made, and no frame's number is taken or lacking
record IsMadeOf (history : History) (what : What) (nav : NavId) (state : StateId) (first : EntryId) (fresh : StateId) (c : Change) : Type 0 where
  pub free : takes_used_number history what ≡ false
  pub hangs : lacks_frame history state what ≡ false
  pub is : change_made what nav state first fresh ≡ Some c

made_of_asked : (history : History) (what : What) (nav : NavId) (state : StateId) (first : EntryId) (fresh : StateId) (c : Change) → asked_change history what nav state first fresh ≡ Some c → IsMadeOf history what nav state first fresh c
made_of_asked history what nav state first fresh c h =
    by_tests (takes_used_number history what) (lacks_frame history state what) refl refl h
  where
    by_tests : (a b : Bool) → takes_used_number history what ≡ a → lacks_frame history state what ≡ b → cond (a || b) None (change_made what nav state first fresh) ≡ Some c → IsMadeOf history what nav state first fresh c
    by_tests false false one two is = record { free = one; hangs = two; is = is }
    by_tests true b one two is = absurd cc
    by_tests false true one two is = absurd cc

made_is : (what : What) (nav : NavId) (state : StateId) (first : EntryId) (fresh : StateId) (c : Change) → change_made what nav state first fresh ≡ Some c → made_by c ≡ what
made_is (whats.Push new memo address) nav state first fresh c h = ap made_by (sym (some_same h))
made_is (whats.Replace over new memo address) nav state first fresh c h = ap made_by (sym (some_same h))
made_is (whats.AddFrame child) nav state first fresh c h = ap made_by (sym (some_same h))
made_is (whats.RemoveFrame child) nav state first fresh c h = ap made_by (sym (some_same h))
made_is (whats.Go delta) nav state first fresh c h = absurd cc
made_is whats.Edit nav state first fresh c h = ap made_by (sym (some_same h))

-- ---- of what is taken up

module _ (p : InPass) (out : List RowKind) (t : Tables) (blame : List (StateId × ReqId)) (made : Made) (at : IsToTake p out t blame made) (told : Tells p out t blame made at verdicts.Now) where
  abbrev s : Seen
  s = now_ p out t blame made at told

  abbrev held : History
  held = history_held t.store

  abbrev same : SameHistory held s.history
  same = at.passing.work.holds.history

  abbrev its : IsOfIt p out t blame made at
  its = own p out t blame made at told

  listed : state_of made.doc t.tree ≡ Some its.d.state
  listed = state_listed p out t blame made at told

  asked_is : asked_in t made ≡ asked_change s.history made.what its.d.nav its.d.state (next_entry_of s) (next_state s)
  asked_is =
      rw its.noted (rw listed refl)
      ∙ asks_same held s.history same made.what its.d.nav its.d.state (record { maker = 0; nr = t.entries + 1 }) (record { 0 = t.states + 1 })
      ∙ ap (λ (n : ℕ). asked_change s.history made.what its.d.nav its.d.state (record { maker = 0; nr = n + 1 }) (record { 0 = t.states + 1 })) at.passing.work.holds.entries
      ∙ ap (λ (n : ℕ). asked_change s.history made.what its.d.nav its.d.state (next_entry_of s) (record { 0 = n + 1 })) at.passing.work.holds.states

  module _ (c : Change) (asked : asked_in t made ≡ Some c) where
    made_of : IsMadeOf s.history made.what its.d.nav its.d.state (next_entry_of s) (next_state s) c
    made_of = made_of_asked s.history made.what its.d.nav its.d.state (next_entry_of s) (next_state s) c (sym asked_is ∙ asked)

    pub what_is : made.what ≡ made_by c
    what_is = sym (made_is made.what its.d.nav its.d.state (next_entry_of s) (next_state s) c made_of.is)

    -- so the change is that of what was made
    pub change_is : change_made (made_by c) its.d.nav its.d.state (next_entry_of s) (next_state s) ≡ Some c
    change_is = ap (λ (w : What). change_made w its.d.nav its.d.state (next_entry_of s) (next_state s)) (sym what_is) ∙ made_of.is

    pub free_is : takes_used_number s.history (made_by c) ≡ false
    free_is = ap (takes_used_number s.history) (sym what_is) ∙ made_of.free

    pub hangs_is : lacks_frame s.history its.d.state (made_by c) ≡ false
    hangs_is = ap (lacks_frame s.history its.d.state) (sym what_is) ∙ made_of.hangs

    pub unlike : (other : Change) → change_made (made_by c) its.d.nav its.d.state (next_entry_of s) (next_state s) ≡ Some other → c ≡ other
    unlike other h = some_same (sym change_is ∙ h)

  -- as the tables tell
  pub asked_then : (nav : NavId) (state : StateId) (c : Change) → nav_found t made.doc ≡ Some nav → state_of made.doc t.tree ≡ Some state → asked_change held made.what nav state (record { maker = 0; nr = t.entries + 1 }) (record { 0 = t.states + 1 }) ≡ Some c → asked_in t made ≡ Some c
  asked_then nav state c found state_found asks = rw found (rw state_found asks)

  pub state_some : is_some (state_of made.doc t.tree) ≡ true
  state_some = ap (λ (o : Option StateId). is_some o) listed

  pub state_own : (state : StateId) → state_of made.doc t.tree ≡ Some state → state ≡ its.d.state
  state_own state found = some_same (sym found ∙ listed)

  pub no_go : is_go made.what ≡ false
  no_go = by_what made.what at.taking.changes
    where
      by_what : (what : What) → changes_history what ≡ true → is_go what ≡ false
      by_what (whats.Go delta) h = absurd cc
      by_what (whats.Push entry memo address) h = refl
      by_what (whats.Replace over entry memo address) h = refl
      by_what (whats.AddFrame child) h = refl
      by_what (whats.RemoveFrame child) h = refl
      by_what whats.Edit h = absurd cc

  -- ---- why it is refused

  pub taken_denial : takes_used_number held made.what ≡ true → denial_at_delivery s made ≡ Some denials.NavTaken
  taken_denial = by_what made.what refl
    where
      by_what : (what : What) → made.what ≡ what → takes_used_number held what ≡ true → denial_at_delivery s made ≡ Some denials.NavTaken
      by_what (whats.AddFrame child) h taken =
          let now : (child.0 == 0 || has_nav s.history.added child) ≡ true = ap (λ (l : List NavId). child.0 == 0 || has_nav l child) (sym same.added) ∙ taken in
          rw h (rw now refl)
      by_what (whats.Push entry memo address) h taken = absurd cc
      by_what (whats.Replace over entry memo address) h taken = absurd cc
      by_what (whats.RemoveFrame child) h taken = absurd cc
      by_what (whats.Go delta) h taken = absurd cc
      by_what whats.Edit h taken = absurd cc

  lacking_denial : lacks_frame held its.d.state made.what ≡ true → denial_at_delivery s made ≡ Some denials.NoNavigable
  lacking_denial = by_what made.what refl
    where
      negative : (b : Bool) → not b ≡ true → b ≡ false
      negative true h = absurd cc
      negative false h = refl

      by_what : (what : What) → made.what ≡ what → lacks_frame held its.d.state what ≡ true → denial_at_delivery s made ≡ Some denials.NoNavigable
      by_what (whats.RemoveFrame child) h lacking =
          let none : hangs_on child its.d.state s.history.rows ≡ false = sym (hangs_held child its.d.state held s.history same) ∙ negative (hangs_on child its.d.state held.rows) lacking in
          rw h (rw its.found (rw (unhung_owner s.history.rows child its.d.state none) refl))
      by_what (whats.AddFrame child) h lacking = absurd cc
      by_what (whats.Push entry memo address) h lacking = absurd cc
      by_what (whats.Replace over entry memo address) h lacking = absurd cc
      by_what (whats.Go delta) h lacking = absurd cc
      by_what whats.Edit h lacking = absurd cc

  pub lacking_own : (state : StateId) → state ≡ its.d.state → lacks_frame held state made.what ≡ true → denial_at_delivery s made ≡ Some denials.NoNavigable
  lacking_own state same_ lacking =
      lacking_denial (ap (λ (x : StateId). lacks_frame held x made.what) (sym same_) ∙ lacking)
