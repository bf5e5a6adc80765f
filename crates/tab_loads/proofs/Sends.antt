-- The document of the load's navigable is sent to a fragment: the order may be sent, and all goes on then.
use Rattle.seen_laws.proofs.InEvents.{led_here, now_is as read_off}
use Rattle.tab_passes.proofs.PassedOn.{sent_duly}
use Rattle.tab_doors.proofs.PassedOn.{sent_goes, sent_now}
use Rattle.seen_laws.specs.Sending.{IsNumbered}
use Rattle.seen_facts.proofs.Coord.Unread.{next}
use Rattle.seen_facts.specs.Home.Homes.{IsAtHome}
use Rattle.tab_facts.proofs.Last.Orders.{fragment_lasting}
use Rattle.row_facts.proofs.LeaveRows.FragmentSends.{fragment_may}
use Rattle.row_facts.specs.LeaveRows.Fragments.{IsFragmentDue}
use Rattle.log_model.proofs.Refl.{nat_eq_refl}
use Rattle.log_model.specs.Equal.{holds}
use Rattle.log_model.specs.Places.{aim_of, given_row, is_fragment_navigation, stands}
use Rattle.log_model.specs.Seen.{Document, Place, Seen, awake, place_of}
use Rattle.log_model.specs.declared.job.Job.{Job}
use Rattle.log_model.specs.declared.request.Mode.{Mode}
use Rattle.log_model.specs.declared.row.Row.{Row}
use Rattle.log_model.specs.declared.row_kind.RowKind.{RowKind}
use Rattle.row_facts.proofs.Owed.Ends.{loose_more, loose_owed}
use Rattle.row_facts.proofs.Owed.Rows.{sent_lasts}
use Rattle.row_facts.specs.Owed.Owed.{IsLoose}
use Rattle.row_facts.proofs.RestRows.Orders.{told_rests}
use Rattle.row_facts.specs.RestRows.Moving.{AllRest}
use Rattle.seen_laws.specs.InEvent.{InEvent, here_of, log_of, now_of}
use Rattle.std.proofs.Common.{Bool, List, None, Option, Some, [], ap, false, length, refl, subst, sym, true, ℕ, ◌||◌, ◌∙◌, ◌∷◌, ◌≡◌, ◌≤◌}
use Rattle.tab_doors.proofs.Leavable.{IsInLog, in_log, numbered_log}
use Rattle.tab_doors.proofs.Whose.{proc_found}
use Rattle.tab_doors.proofs.Works.{numbered}
use Rattle.tab_doors.specs.Orders.{IsThere, order_to}
use Rattle.tab_doors.specs.Working.{IsAtWork, KeepsStore, MaySend}
use Rattle.tab_doors.specs.declared.tables.Tables.{Tables}
use Rattle.tab_facts.proofs.TabGoing.Rows.{sent_going}
use Rattle.tab_facts.specs.TabGoing.Going.{IsGoing}
use Rattle.tab_ids.specs.declared.DocId.{DocId}
use Rattle.tab_ids.specs.declared.NavId.{NavId}
use Rattle.tab_ids.specs.declared.ReqId.{ReqId}
use Rattle.tab_loads.proofs.Cuts.{first_pass}
use Rattle.tab_loads.proofs.Firsts.{accepted_here, found, found_log, q}
use Rattle.tab_loads.proofs.Reals.{aim_there, read_there}
use Rattle.tab_loads.specs.Loading.{IsLoadAsk, pass_of}
use Rattle.tab_passes.specs.Passing.{IsPassing}
use Rattle.tab_facts.proofs.TabWhole.Sending.{IsToMade, sent_home}
use Rattle.tab_facts.proofs.TabWhole.ToFragments.{send_fragment_tab}
use Rattle.tab_facts.specs.TabWhole.Tab.{IsTab}
use Rattle.seen_facts.proofs.Walk.Placed.{found_nav}
use Rattle.log_model.specs.declared.job.Task.TheVariants as tasks
use Rattle.log_model.specs.declared.job.Why.TheVariants as whys
use Rattle.log_model.specs.declared.row_kind.RowKind.TheVariants as rows

-- one that has a row
some_row : (o : Option Row) (test : Row → Bool) → holds test o ≡ true → (r : Row) × (o ≡ Some r) × (test r ≡ true)
some_row None test never = absurd cc
some_row (Some r) test is = (r, refl, is)

module _ (e : InEvent) (req : ReqId) (nav : NavId) (mode : Mode) (address : List ℕ) (asks : IsLoadAsk e req nav mode address) (t : Tables) {behind : List ReqId} (pass : IsPassing (first_pass e req behind) [] t) (loose : IsLoose e []) (place : Place) (placed : place_of (now_of e []) nav ≡ Some place) (stand : stands (now_of e []) (aim_of (now_of e [])) nav ≡ true) (doc : DocId) (wakes : place.status ≡ awake doc) (leads : holds (λ (r : Row). is_fragment_navigation r.address address) (given_row (now_of e []) place) ≡ true) where
  abbrev s : Seen
  s = now_of e []

  abbrev pub order : Job
  order = order_to s doc (whys.Req req) (tasks.DoFragment req mode address)

  home : IsAtHome s.documents place.nav doc
  home = (pass.going.tab.homes.homed nav place doc placed wakes).home

  proc_is : home.document.proc ≡ order.proc
  proc_is = sym (proc_found s doc home.document home.found)

  alive : (home.document.is_discarded || home.document.is_known_dead) ≡ false
  alive = rw (home.undiscarded, home.unknown) refl

  named : place.nav ≡ nav
  named = found_nav s.places nav place placed

  -- the document as the log has it, with its handler
  its : IsInLog e [] doc home.document
  its = in_log e [] (read_off e []) doc home.document home.found

  due : IsFragmentDue (here_of e []) order its.d req nav mode address (q e req nav mode address asks)
  due =
      (let row = some_row (given_row s place) (λ (r : Row). is_fragment_navigation r.address address) leads in record {
        task = refl;
        to = record {
          found = its.found;
          proc = ap (λ (x : Document). x.proc) (sym its.is) ∙ proc_is;
          alive = ap (λ (x : Document). x.is_discarded || x.is_known_dead) (sym its.is) ∙ alive;
        };
        at = found_log e req nav mode address asks;
        what = refl;
        accepted = accepted_here e req nav mode address asks;
        place = place;
        placed = read_there e [] t pass.work (λ (x : Seen). place_of x nav ≡ Some place) placed;
        is_awake = rw wakes (nat_eq_refl doc.0);
        stand =
            ap (λ (k : ℕ). stands (log_of e []) k place.nav) (aim_there e [] t pass.work)
            ∙ read_there e [] t pass.work (λ (x : Seen). stands x (aim_of x) place.nav ≡ true) (ap (λ (n : NavId). stands s (aim_of s) n) named ∙ stand);
        row = row.0;
        given = read_there e [] t pass.work (λ (x : Seen). given_row x place ≡ Some (row.0)) row.1;
        is_fragment = row.2;
      })

  is_numbered : IsNumbered (log_of e []) order
  is_numbered =
      numbered_log e [] (read_off e []) order (numbered s order.proc doc (whys.Req req) (tasks.DoFragment req mode address) (pass.going.tab.asked.died order.proc).0)

  pub may_send : MaySend None e [] order
  may_send later both =
      fragment_may (here_of e []) e.event e.actor order its.d req nav mode address (q e req nav mode address asks) (led_here e [] pass.work.own) is_numbered due later tt

  pub there : IsThere s doc
  there = record { document = home.document; found = home.found; alive = alive; known = (pass.going.tab.asked.died home.document.proc).0 }

  -- ---- all goes on

  to_made : IsToMade s order home.document
  to_made = record { found = home.found; ready = home.ready; home = proc_is; first = refl }

  abbrev then_ : Seen
  then_ = next s e.event e.actor (rows.Sent order)

  pub tab_then : IsTab t.running behind [] then_
  tab_then =
      send_fragment_tab t.running behind [] s e.event e.actor req pass.going.tab (q e req nav mode address asks) (record { found = found e req nav mode address asks; load = refl; open_ = refl; unsent = refl }) order mode address home.document refl to_made

  going_then : IsGoing t.running behind [] then_
  going_then =
      sent_going t.running (req ∷ behind) [] s e.event e.actor pass.going order behind [] tab_then (fragment_lasting s e.event e.actor pass.going.lasting order req mode address refl) tt

  loose_then : IsLoose e (rows.Sent order ∷ [])
  loose_then = loose_more e [] (rows.Sent order) (sent_goes e [] order refl).read loose (sent_lasts s e.event e.actor order) (λ end lasts. refl)

  now_is : now_of e (rows.Sent order ∷ []) ≡ then_
  now_is = sent_now e [] order refl

  pub sent_passing : (new : List RowKind) (u : Tables) → new ≡ rows.Sent order ∷ [] → KeepsStore t u → IsAtWork e new u → IsPassing (pass_of e behind) new u
  sent_passing new u is keeps work =
      subst (λ (l : List RowKind). IsPassing (pass_of e behind) l u) (sym is) (record {
        work = subst (λ (l : List RowKind). IsAtWork e l u) is work;
        going = subst (λ (x : Seen). IsGoing u.running behind [] x) (sym now_is) (subst (λ (r : Option ReqId). IsGoing r behind [] then_) (sym keeps.running) going_then);
        owed = loose_owed e (rows.Sent order ∷ []) loose_then;
        loose = λ all. loose_then;
        rests = subst (λ (x : Seen). AllRest x) (sym now_is) (told_rests s e.event e.actor [] pass.rests order (sent_home t.running (req ∷ behind) [] s pass.going.tab order home.document to_made) tt);
        duly = sent_duly e [] order (rows.Sent order ∷ []) refl tt pass.duly;
        few = subst (λ (k : ℕ). length (now_of e (rows.Sent order ∷ [])).kept ≤ k) (sym keeps.keep) (subst (λ (l : List DocId). length l ≤ t.kept.keep) (sym (ap (λ (x : Seen). x.kept) now_is)) pass.few);
      })
