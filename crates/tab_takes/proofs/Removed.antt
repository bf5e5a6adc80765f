-- What a document made is applied: a frame of it is removed, with all below it. A document whose state lost its entries is that of the frame, or of one below it, and the request has moved each such one.
use Rattle.tab_facts.specs.Calm.Calm.{AreRooted, IsRooted}
use Rattle.seen_facts.proofs.Entry.Ends.{IsToEnd, no_entry_end}
use Rattle.seen_facts.proofs.Entry.Skips.{IsNoEntry}
use Rattle.tab_facts.proofs.Frame.Removed.{hung_owner}
use Rattle.seen_facts.proofs.Hang.Forms.{nav_is}
use Rattle.seen_facts.proofs.Hang.Members.{Passing, any_has, has_any}
use Rattle.seen_facts.proofs.Hang.Parts.{state_is}
use Rattle.seen_facts.proofs.Hang.Targets.{target_has}
use Rattle.seen_facts.specs.Hang.Members.{Has}
use Rattle.seen_facts.specs.Home.Homes.{IsHomed, document_in}
use Rattle.tab_facts.proofs.Last.Applied.{removed_lasting}
use Rattle.log_model.proofs.Refl.{nat_eq_refl}
use Rattle.log_model.specs.Equal.{holds}
use Rattle.log_model.specs.History.{fits, has_nav, has_row, has_state, is_of, same_entry, target_entry, used_step_at}
use Rattle.log_model.specs.Once.{change_of_made}
use Rattle.log_model.specs.Orders.{is_usable}
use Rattle.log_model.specs.Places.{aim_of, is_below, is_given_target, way_of, way_to}
use Rattle.log_model.specs.Seen.{Asked, Document, Place, Seen, awake, document_of, place_of}
use Rattle.log_model.specs.Soundness.{hangs_on, is_owned_by}
use Rattle.log_model.specs.declared.change.Change.{Change}
use Rattle.log_model.specs.declared.made.Made.{Made}
use Rattle.log_model.specs.declared.made.What.{What}
use Rattle.log_model.specs.declared.row.Row.{Row}
use Rattle.log_model.specs.declared.row_kind.RowKind.{RowKind}
use Rattle.seen_facts.specs.Mover.Movers.{IsMovedBy}
use Rattle.seen_laws.proofs.Keyed.{find_map}
use Rattle.seen_laws.specs.InEvent.{InEvent}
use Rattle.tab_facts.proofs.ShownWays.Keeps.{way_more}
use Rattle.std.proofs.Common.{Bool, List, None, Option, Some, [], ap, arith, cond, false, inl, inr, map, not, refl, subst, sym, true, ℕ, ◌&&◌, ◌++◌, ◌==◌, ◌||◌, ◌∙◌, ◌∷◌, ◌≡◌, ◌⊎◌}
use Rattle.std.proofs.lemmas.Bool.{and_parts}
use Rattle.std.proofs.lemmas.Bool.Decides.{nat_tests}
use Rattle.std.specs.List.{list_any}
use Rattle.std.specs.Option.{option_map_or}
use Rattle.std.specs.Prelude.{option_and_then, option_map}
use Rattle.sync_core.specs.declared.judging.Judged.TheVariants as verdicts
use Rattle.tab_rests.proofs.PassedOn.{EntriesAreNoted, removed_going, removed_tab, sees}
use Rattle.tab_doors.specs.Dues.{IsTakeDue, MayChange, SeesRows}
use Rattle.tab_doors.specs.Working.{IsAtWork, KeepsRun}
use Rattle.tab_doors.specs.declared.tables.Tables.{Tables}
use Rattle.tab_rests.specs.PassedOn.{InPass, IsGoing, IsTab, MayStand, aim_in}
use Rattle.tab_ids.specs.declared.DocId.{DocId}
use Rattle.tab_ids.specs.declared.NavId.{NavId}
use Rattle.tab_ids.specs.declared.ReqId.{ReqId}
use Rattle.tab_ids.specs.declared.StateId.{StateId}
use Rattle.tab_takes.proofs.Applied.{IsAfter, aim_then, aim_was, has_applied, n as after_change, own_then, then_q}
use Rattle.tab_takes.proofs.Asks.{hangs_is, what_is}
use Rattle.tab_takes.proofs.Lefts.{loses_below, row_stays, target_goal, target_now, used_by, was_row}
use Rattle.tab_takes.proofs.Losing.{KeepsAt, Was, WasDocument, blamed_n, calm_on, parents_n, stand, takers_n, unmoved_n, was}
use Rattle.tab_takes.proofs.Now.{due, e, may_change, now_, own, q, rest, take_due, whole}
use Rattle.tab_takes.proofs.Stays.{but_given}
use Rattle.tab_takes.proofs.Verdicts.{IsOfIt, Tells, apart as apart_run}
use Rattle.tab_takes.proofs.Where.{carried, its_hand, loads_same}
use Rattle.tab_takes.specs.Taking.{HasTaken, IsToTake, asked_in}
use Rattle.seen_facts.proofs.Walk.Placed.{found_nav}
use Rattle.row_facts.proofs.WalkRows.Moved.{changed_moves}
use Rattle.log_model.specs.declared.change.Change.TheVariants as changes
use Rattle.log_model.specs.declared.job.Why.TheVariants as whys
use Rattle.log_model.specs.declared.made.What.TheVariants as whats
use Rattle.log_model.specs.declared.row_kind.RowKind.TheVariants as rows

some_same : {A : Type 0} {a b : A} → (let o : Option A = Some a in o) ≡ Some b → a ≡ b
some_same e = cc

map_itself : (documents : List Document) → map (λ (d : Document). d) documents ≡ documents
map_itself [] = refl
map_itself (d ∷ documents) = ap (λ (l : List Document). d ∷ l) (map_itself documents)

either : (a b : Bool) → b ≡ true → (a || b) ≡ true
either true b is = refl
either false b is = is

is_none : (a : ℕ) → (a == 0) ≡ true → a ≡ 0
is_none a same = (let k : a ≡ 0 = grind (arith, nat_tests, same) in k)

module _ (p : InPass) (out : List RowKind) (t : Tables) (blame : List (StateId × ReqId)) (made : Made) (at : IsToTake p out t blame made) (told : Tells p out t blame made at verdicts.Now) (nav : NavId) (asked : asked_in t made ≡ Some (changes.RemoveFrame nav)) where
  abbrev s : Seen
  s = now_ p out t blame made at told

  abbrev ev : InEvent
  ev = e p out t blame made at told

  abbrev its : IsOfIt p out t blame made at
  its = own p out t blame made at told

  abbrev tab : IsTab t.running p.loads p.hand s
  tab = whole p out t blame made at told

  abbrev left : List Made
  left = rest p out t blame made at told

  abbrev remove : Change
  remove = changes.RemoveFrame nav

  what : made.what ≡ whats.RemoveFrame nav
  what = what_is p out t blame made at told remove asked

  hung : hangs_on nav its.d.state s.history.rows ≡ true
  hung = positive (hangs_on nav its.d.state s.history.rows) (hangs_is p out t blame made at told remove asked)
    where
      positive : (b : Bool) → not b ≡ false → b ≡ true
      positive true h = refl
      positive false h = absurd cc

  removes : change_of_made s its.d made.what ≡ Some remove
  removes =
      ap (λ (w : What). change_of_made s its.d w) what
      ∙ ap (λ (b : Bool). let o : Option Change = cond b (Some remove) None in o) (hung_owner s tab.sound tab.hangs nav its.d.state hung)

  fit : fits s.history remove ≡ true
  fit =
      let a : Passing (λ (r : Row). is_of nav r && is_owned_by its.d.state r) s.history.rows = any_has (λ (r : Row). is_of nav r && is_owned_by its.d.state r) s.history.rows hung in
      let both = and_parts (is_of nav a.it) (is_owned_by its.d.state a.it) a.passes in
      by_top (nav.0 == 0) refl (has_any (is_of nav) s.history.rows a.it a.there both.0)
    where
      by_top : (b : Bool) → (nav.0 == 0) ≡ b → has_row nav s.history.rows ≡ true → (not b && has_row nav s.history.rows) ≡ true
      by_top false e_ has = has
      by_top true e_ has = absurd (tab.sound.rooted.top_owner nav its.d.state hung (is_none nav.0 e_))

  -- ---- all goes on

  abbrev n : Seen
  n = after_change p out t blame made at remove

  ends : IsToEnd p.hand s made.req
  ends =
      no_entry_end p.hand s made.req made (ap (λ (o : Option Asked). option_and_then (λ (x : Asked). x.made) o) at.taking.there ∙ at.taking.makes) none (λ m there same. subst (λ (x : Made). IsNoEntry x.what) (sym (its_hand p out t blame made at m there same)) none)
    where
      none : IsNoEntry made.what
      none = subst (λ (w : What). IsNoEntry w) (sym what) tt

  tab_n : IsTab t.running p.loads left n
  tab_n =
      loads_same p out t blame made at n
      (removed_tab t.running p.loads p.hand s ev.event ev.actor tab made.req (q p out t blame made at told) at.taking.there at.taking.open_ (apart_run p out t blame made at) (carried p out t blame made at) ends nav fit)

  going_n : IsGoing t.running p.loads left n
  going_n =
      removed_going t.running p.loads p.hand s ev.event ev.actor at.passing.going made.req (q p out t blame made at told) at.taking.there at.taking.open_ nav p.loads left tab_n (removed_lasting s ev.event ev.actor at.passing.going.lasting made.req nav)

  pub remove_ready : IsTakeDue ev out made.req remove × (MayChange s remove × SeesRows s remove)
  remove_ready = (
    take_due p out t blame made at told remove (due p out t blame made at told remove removes) fit refl,
    (may_change p out t blame made at told remove fit tt, sees t.running p.loads p.hand s at.passing.going ev.event ev.actor made.req remove going_n.steps),
  )

  -- ---- places

  abbrev become : Place → Place
  become place =
      cond (has_row place.nav s.history.rows && not (has_row place.nav n.history.rows)) (record place { taken_by = Some made.req }) place

  become_nav : (place : Place) → (become place).nav.0 ≡ place.nav.0
  become_nav place = by_test (has_row place.nav s.history.rows && not (has_row place.nav n.history.rows))
    where
      by_test : (b : Bool) → (let x : Place = cond b (record place { taken_by = Some made.req }) place in x).nav.0 ≡ place.nav.0
      by_test true = refl
      by_test false = refl

  place_n : (m : NavId) → place_of n m ≡ option_map become (place_of s m)
  place_n m = find_map (λ (x : Place). x.nav.0) become m.0 s.places become_nav

  alike : (place : Place) → but_given (become place) ≡ but_given place
  alike place = by_test (has_row place.nav s.history.rows && not (has_row place.nav n.history.rows))
    where
      by_test : (b : Bool) → but_given (let x : Place = cond b (record place { taken_by = Some made.req }) place in x) ≡ but_given place
      by_test true = refl
      by_test false = refl

  given_same : (place : Place) → (become place).given ≡ place.given
  given_same place = by_test (has_row place.nav s.history.rows && not (has_row place.nav n.history.rows))
    where
      by_test : (b : Bool) → (let x : Place = cond b (record place { taken_by = Some made.req }) place in x).given ≡ place.given
      by_test true = refl
      by_test false = refl

  taken : (place : Place) → ((become place).taken_by ≡ place.taken_by) ⊎ ((become place).taken_by ≡ Some made.req)
  taken place = by_test (has_row place.nav s.history.rows && not (has_row place.nav n.history.rows))
    where
      by_test : (b : Bool) → ((let x : Place = cond b (record place { taken_by = Some made.req }) place in x).taken_by ≡ place.taken_by) ⊎ ((let x : Place = cond b (record place { taken_by = Some made.req }) place in x).taken_by ≡ Some made.req)
      by_test true = inr refl
      by_test false = inl refl

  abbrev WasAt : NavId → Place → Type 0
  WasAt m place = Was p out t blame made at remove tab_n become place_n alike m place

  was_at : (m : NavId) (place : Place) → place_of n m ≡ Some place → WasAt m place
  was_at = was p out t blame made at remove tab_n become place_n alike

  -- ---- rows

  old_row : (row : Row) → Has n.history.rows row → Has s.history.rows row
  old_row row there = (was_row s tab.sound tab.hangs nav row there).0

  row_was : (m : NavId) → has_row m n.history.rows ≡ true → has_row m s.history.rows ≡ true
  row_was m has =
      let a : Passing (is_of m) n.history.rows = any_has (is_of m) n.history.rows has in
      has_any (is_of m) s.history.rows a.it (old_row a.it a.there) a.passes

  -- with targets that stay, all goes on
  keeps_at : (before after : ℕ) → ((x : NavId) → has_row x n.history.rows ≡ true → target_entry n.history.rows x after ≡ target_entry s.history.rows x before) → KeepsAt s n become before after
  keeps_at before after same =
      record {
        on = λ x row has found. record { row = row; at = same x has ∙ found; state_is = refl };
        back = λ x row found. record { row = row; at = sym (same x (own_row x row found)) ∙ found; state_is = refl };
        given = λ x place found has. as_given x place found has;
      }
    where
      own_row : (x : NavId) (row : Row) → target_entry n.history.rows x after ≡ Some row → has_row x n.history.rows ≡ true
      own_row x row found =
          let tg = target_has n.history.rows x after row found in
          has_any (is_of x) n.history.rows row tg.there (ap (λ (y : NavId). y.0 == x.0) tg.nav_is ∙ nat_eq_refl x.0)

      as_given : (x : NavId) (place : Place) → place_of s x ≡ Some place → has_row x n.history.rows ≡ true → is_given_target n.history.rows after (become place) ≡ is_given_target s.history.rows before place
      as_given x place found has =
          let its_nav : place.nav ≡ x = found_nav s.places x place found in
          ap (λ (y : NavId). holds (λ (row : Row). holds (same_entry row.entry) (become place).given) (target_entry n.history.rows y after)) (ap (λ (y : Place). y.nav) (alike place) ∙ its_nav)
          ∙ ap (λ (o : Option Row). holds (λ (row : Row). holds (same_entry row.entry) (become place).given) o) (same x has)
          ∙ ap (λ (g : Option _). holds (λ (row : Row). holds (same_entry row.entry) g) (target_entry s.history.rows x before)) (given_same place)
          ∙ ap (λ (y : NavId). holds (λ (row : Row). holds (same_entry row.entry) place.given) (target_entry s.history.rows y before)) (sym its_nav)

  keeps_now : KeepsAt s n become s.history.current n.history.current
  keeps_now =
      keeps_at s.history.current n.history.current (λ x has. target_now s tab.sound tab.hangs nav x has)

  keeps_goal : KeepsAt s n become (used_step_at s.history.rows t.goal.0) (used_step_at n.history.rows t.goal.0)
  keeps_goal =
      keeps_at (used_step_at s.history.rows t.goal.0) (used_step_at n.history.rows t.goal.0) (λ x has. target_goal s tab.sound tab.hangs nav x has t.goal.0)

  loads_n : (run : Option ReqId) → aim_of n ≡ aim_in n.history run t.goal → aim_of s ≡ aim_in s.history run t.goal → MayStand run s → MayStand run n
  loads_n None aim_n aim_s so =
      stand p out t blame made at remove tab_n become place_n alike s.history.current n.history.current aim_n aim_s keeps_now None row_was so
  loads_n (Some run) aim_n aim_s so =
      stand p out t blame made at remove tab_n become place_n alike (used_step_at s.history.rows t.goal.0) (used_step_at n.history.rows t.goal.0) aim_n aim_s keeps_goal (Some run) row_was so

  -- ---- documents

  documents_n : n.documents ≡ s.documents
  documents_n = map_itself s.documents

  was_document : (doc : DocId) (d : Document) → document_of n doc ≡ Some d → WasDocument s doc d
  was_document doc d found =
      record {
        old = d;
        there = ap (λ (l : List Document). document_in l doc) (sym documents_n) ∙ found;
        state = refl;
        ready = refl;
        discarded = refl;
      }

  -- an entry of its document's state is of the navigable that is awake on it
  own_row : (m : NavId) (place : Place) (doc : DocId) (d : Document) → place_of s m ≡ Some place → place.status ≡ awake doc → document_of s doc ≡ Some d → (row : Row) → Has s.history.rows row → row.state ≡ d.state → row.nav ≡ m
  own_row m place doc d found wakes there row has same =
      let homed : IsHomed s.documents place doc = tab.homes.homed m place doc found wakes in
      let one : homed.home.document ≡ d = some_same (sym homed.home.found ∙ there) in
      tab.whose.whose doc d row there has same ∙ ap (λ (x : Document). x.nav) (sym one) ∙ homed.home.nav_is ∙ found_nav s.places m place found

  -- who is awake on a document whose state lost its entries is the frame, or below it; so is who is below
  moves : (m : NavId) (place : Place) (doc : DocId) (d : Document) → place_of s m ≡ Some place → place.status ≡ awake doc → document_of s doc ≡ Some d → has_state d.state s.history.rows ≡ true → has_state d.state n.history.rows ≡ false → (other : NavId) (under : Place) → place_of n other ≡ Some under → ((other.0 == m.0) ≡ true) ⊎ (is_below m under ≡ true) → IsMovedBy n (whys.Req made.req) other
  moves m place doc d found wakes there had bare other under placed is =
      changed_moves n made.req (then_q p out t blame made at remove) other remove nav (own_then p out t blame made at remove) refl refl (ap (λ (l : List NavId). has_nav l nav) way_n ∙ by_which is)
    where
      a : Passing (λ (r : Row). r.state.0 == d.state.0) s.history.rows
      a = any_has (λ (r : Row). r.state.0 == d.state.0) s.history.rows had

      w : WasAt other under
      w = was_at other under placed

      gone : Has n.history.rows a.it → ⊥
      gone has =
          let never : true ≡ false = sym (has_any (λ (r : Row). r.state.0 == d.state.0) n.history.rows a.it has a.passes) ∙ bare in cc

      mine : has_nav (m ∷ place.above) nav ≡ true
      mine =
          loses_below s tab.sound tab.hangs nav m place a.it found a.there (own_row m place doc d found wakes there a.it a.there (state_is a.it.state d.state a.passes)) gone

      way_n : way_to n other ≡ other ∷ w.old.above
      way_n =
          ap (λ (o : Option Place). option_map_or way_of o (other ∷ [])) placed
          ∙ ap (λ (x : Place). way_of x) (sym w.same)
          ∙ ap (λ (x : NavId). x ∷ w.old.above) (found_nav s.places other w.old w.there)

      by_which : ((other.0 == m.0) ≡ true) ⊎ (is_below m under ≡ true) → has_nav (other ∷ w.old.above) nav ≡ true
      by_which (inl same) =
          let named : other ≡ m = nav_is other m same in
          let one : w.old ≡ place = some_same (sym w.there ∙ ap (λ (x : NavId). place_of s x) named ∙ found) in
          ap (λ (x : NavId). has_nav (x ∷ w.old.above) nav) named ∙ ap (λ (x : Place). has_nav (m ∷ x.above) nav) one ∙ mine
      by_which (inr below) =
          either (other.0 == nav.0) (has_nav w.old.above nav) (by_own (m.0 == nav.0) refl mine)
        where
          in_ : has_nav w.old.above m ≡ true
          in_ = ap (λ (x : Place). has_nav x.above m) w.same ∙ below

          by_own : (b : Bool) → (m.0 == nav.0) ≡ b → (b || has_nav place.above nav) ≡ true → has_nav w.old.above nav ≡ true
          by_own true same h = ap (λ (x : NavId). has_nav w.old.above x) (sym (nav_is m nav same)) ∙ in_
          by_own false apart h =
              way_more s tab.sound tab.hangs other w.old w.there m place (either (other.0 == m.0) (has_nav w.old.above m) in_) found nav h

  -- ---- what each was given

  rooted_n : AreRooted n
  rooted_n m place doc d found wakes there has =
      by_root (at.open_.rooted m w.old doc v.old w.there wakes_s v.there (ap (λ (x : StateId). has_state x s.history.rows) v.state ∙ has_any (λ (r : Row). r.state.0 == d.state.0) s.history.rows a.it (old_row a.it a.there) a.passes))
    where
      w : WasAt m place
      w = was_at m place found

      v : WasDocument s doc d
      v = was_document doc d there

      wakes_s : w.old.status ≡ awake doc
      wakes_s = ap (λ (x : Place). x.status) w.same ∙ wakes

      a : Passing (λ (r : Row). r.state.0 == d.state.0) n.history.rows
      a = any_has (λ (r : Row). r.state.0 == d.state.0) n.history.rows has

      entered : has_row m n.history.rows ≡ true
      entered =
          let navs : a.it.nav ≡ m = own_row m w.old doc v.old w.there wakes_s v.there a.it (old_row a.it a.there) (state_is a.it.state d.state a.passes ∙ sym v.state) in
          has_any (is_of m) n.history.rows a.it a.there (ap (λ (x : NavId). x.0 == m.0) navs ∙ nat_eq_refl m.0)

      by_root : IsRooted s w.old v.old → IsRooted n place d
      by_root (inl root) =
          inl (root.0, row_stays s tab.sound tab.hangs nav m root.0 entered root.1 (root.2 ∙ found_nav s.places m w.old w.there), root.2 ∙ ap (λ (x : Place). x.nav) w.same, ap (λ (x : Place). x.given) (sym w.is) ∙ given_same w.old ∙ root.3)
      by_root (inr root) =
          let stays : Has n.history.rows root.0 = row_stays s tab.sound tab.hangs nav m root.0 entered root.1 (own_row m w.old doc v.old w.there wakes_s v.there root.0 root.1 root.2) in
          inr (root.0, stays, root.2 ∙ v.state, used_by n.history.rows s.history.current root.0 stays root.3)

  module _ (noted : List (StateId × ReqId)) (are : EntriesAreNoted t made.req blame noted) where
    remove_after : IsAfter p out t blame made at remove noted
    remove_after =
        record {
          tab_n = tab_n;
          going = going_n;
          parents = parents_n p out t blame made at remove tab_n become place_n alike;
          takers = takers_n p out t blame made at remove tab_n become place_n alike taken;
          loads = loads_n t.running (aim_then p out t blame made at remove tab_n) (aim_was p out t blame made at remove) at.open_.loads;
          blamed = blamed_n p out t blame made at remove tab_n become place_n alike was_document noted are moves;
          calm = calm_on p out t blame made at remove tab_n become place_n alike row_was keeps_now t.running at.open_.calm;
          unmoved = unmoved_n p out t blame made at remove tab_n become place_n alike row_was keeps_now;
          rooted = rooted_n;
          usable = λ state_. ap (λ (l : List Document). list_any (λ (x : Document). is_usable x state_) l) documents_n;
          well = record { sound = tab.sound; hangs = tab.hangs; fit = fit; brings = tt; then_sound = tab_n.sound };
          keeps = tt;
        }

    pub remove_done : (more : List RowKind) (u : Tables) → more ≡ out ++ rows.Applied made.req remove ∷ [] → KeepsRun t u → IsAtWork ev more u → HasTaken p t made out more u noted
    remove_done more u out_is keeps work =
        has_applied p out t blame made at remove noted remove_after more u out_is keeps work refl refl
