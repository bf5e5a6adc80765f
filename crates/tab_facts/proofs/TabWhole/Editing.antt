-- All that holds of a tab between two events holds after a document edits itself on the first poke of its process: what it made is applied at once, and changes nothing but that the document has unsaved edits.
use Rattle.log_model.specs.After.{follows_finished}
use Rattle.log_model.specs.AfterPlaces.{with_taker}
use Rattle.log_model.specs.AfterRequests.{without_req}
use Rattle.log_model.specs.Equal.{has_req, holds}
use Rattle.log_model.specs.History.{History, has_row}
use Rattle.log_model.specs.Seen.{Asked, Document, Place, Seen, desk_of, request_in, request_of}
use Rattle.log_model.specs.Views.{View, made_for}
use Rattle.log_model.specs.declared.change.Change.TheVariants as changes
use Rattle.log_model.specs.declared.made.Made.{Made}
use Rattle.log_model.specs.declared.made.What.TheVariants as whats
use Rattle.log_model.specs.declared.request.Poke.{Poke}
use Rattle.log_model.specs.declared.row_kind.Actor.TheVariants as actors
use Rattle.log_model.specs.declared.row_kind.RowKind.TheVariants as rows
use Rattle.seen_facts.proofs.Asked.Rows.{applied_plain, made_plain}
use Rattle.seen_facts.proofs.Coord.Flowings.{left_flows, made_flows}
use Rattle.seen_facts.proofs.Coord.Held.{held_apart, held_on, without_same}
use Rattle.seen_facts.proofs.Coord.Unread.{next}
use Rattle.seen_facts.proofs.Desk.Rows.{edited_desks}
use Rattle.seen_facts.proofs.Doc.Rows.{made_docs}
use Rattle.seen_facts.proofs.Entry.Changes.{edited_entries}
use Rattle.seen_facts.proofs.Entry.Edits.{edit_entries}
use Rattle.seen_facts.proofs.Entry.Ends.{IsToEnd}
use Rattle.seen_facts.proofs.Hang.Rows.{left_hangs}
use Rattle.seen_facts.proofs.Home.Changed.{edited_homed}
use Rattle.seen_facts.proofs.Home.Rows as homing
use Rattle.seen_facts.proofs.Kept.Rows as keeping
use Rattle.seen_facts.proofs.Load.Rows.{made_loading}
use Rattle.seen_facts.proofs.LoadWhereabouts.Answered.{made_other}
use Rattle.seen_facts.proofs.LoadWhereabouts.Counts.{at_hand_else}
use Rattle.seen_facts.proofs.Mover.Rows.{made_movers}
use Rattle.seen_facts.proofs.Place.Changes.{edited_standing}
use Rattle.seen_facts.proofs.Place.Rows.{made_standing}
use Rattle.seen_facts.proofs.Request.KnownMoved.{edited_known}
use Rattle.seen_facts.proofs.Request.LookUps.{on_itself}
use Rattle.seen_facts.proofs.Request.Placings.{edited_once}
use Rattle.seen_facts.proofs.Rest.Kept.{left_kept}
use Rattle.seen_facts.proofs.Transit.Rows.{made_ways}
use Rattle.seen_facts.specs.Coord.Flowing.{Flows}
use Rattle.seen_facts.specs.Coord.Leading.{held_back}
use Rattle.seen_facts.specs.Each.Runs.{is_this}
use Rattle.seen_facts.specs.Request.Whereabouts.{is_of_load, AreOnce}
use Rattle.std.proofs.Common.{Bool, List, None, Option, Some, [], ap, append-nil, false, inl, inr, not, refl, subst, sym, true, ◌&&◌, ◌++◌, ◌==◌, ◌∙◌, ◌∷◌, ◌≡◌}
use Rattle.std.proofs.lemmas.List.{map-id}
use Rattle.std.specs.Prelude.{if◌then◌else◌, option_and_then, option_map, slice_get}
use Rattle.tab_facts.proofs.FragmentOrders.Works.{made_other_fragments}
use Rattle.tab_facts.proofs.FrameWhole.FlowsAlike.{flows_if}
use Rattle.tab_facts.proofs.FrameWhole.Queued.{queued_after}
use Rattle.tab_facts.proofs.Past.Rows.{edited_row_past}
use Rattle.tab_facts.proofs.Shown.Rows.{made_shown}
use Rattle.tab_facts.proofs.TabWhole.Acting as acting
use Rattle.tab_facts.proofs.TabWhole.Acting.{IsActing}
use Rattle.tab_facts.proofs.TabWhole.Changed.{changed_tab}
use Rattle.tab_facts.proofs.TabWhole.Where.{nothing_goes}
use Rattle.tab_facts.proofs.TabWhole.OpenAmong.{SameEnds, made_ends, once_more, open_same, trips_more, trips_on}
use Rattle.tab_facts.specs.TabWhole.Tab.{IsTab, at_hand, has_ended, open_among}
use Rattle.tab_ids.specs.declared.ProcId.{ProcId}
use Rattle.tab_ids.specs.declared.ReqId.{ReqId}
use Rattle.log_model.proofs.Refl.{nat_eq_refl}

some_same : {A : Type 0} {a b : A} → (let o : Option A = Some a in o) ≡ Some b → a ≡ b
some_same e = cc

-- a change that leaves the history takes no navigable's rows
pub taken_none : (h : History) (req : ReqId) (places : List Place) → with_taker h h req places ≡ places
taken_none h req [] = refl
taken_none h req (place ∷ places) =
    ap (λ (p : Place). p ∷ with_taker h h req places) (by_row (has_row place.nav h.rows))
    ∙ ap (λ (l : List Place). place ∷ l) (taken_none h req places)
  where
    by_row : (b : Bool) → (let p : Place = if b && not b then record place { taken_by = Some req } else place in p) ≡ place
    by_row true = refl
    by_row false = refl

module _ (run : Option ReqId) {loads : List ReqId} (s : Seen) (proc : ProcId) (tab : IsTab run loads [] s) (flows : Flows s) (poke : Poke) (first : slice_get (desk_of s proc).input 0 ≡ Some poke) (d : Document) (view : View) (is : IsActing run s proc tab flows poke first d view whats.Edit) where
  abbrev made : Made
  made = made_for view poke.req whats.Edit

  -- ---- it is made

  abbrev pub edits : Seen
  edits = next s s.events (actors.Proc proc) (rows.Made proc (made_for view poke.req whats.Edit))

  -- the row begins an event, so it isn't of an order that was just finished
  anew : follows_finished s (record { event = s.events; actor = actors.Proc proc; row = rows.Made proc (made_for view poke.req whats.Edit) }) ≡ false
  anew = acting.anew run s proc tab flows poke first d view whats.Edit is

  unparked : has_req s.parked poke.req ≡ false
  unparked = acting.unparked run s proc tab flows poke first

  unjoined : has_req s.joined poke.req ≡ false
  unjoined = acting.unjoined run s proc tab flows poke first

  other : is_this run poke.req ≡ false
  other = acting.not_running run s proc tab flows poke first

  no_load : is_of_load (request_in s.requests poke.req) ≡ false
  no_load = acting.no_load run s proc tab flows poke first

  abbrev make : Asked → Asked
  make q = record q { made = Some made }

  pub edits_flows : Flows edits
  edits_flows =
      made_flows s proc poke _ _ d view whats.Edit (acting.acts run s proc tab flows poke first d view whats.Edit is) flows (held_apart s.requests s.parked poke.req make unparked)

  -- its request, which is no load still
  request_then : request_in edits.requests poke.req ≡ option_map make (request_in s.requests poke.req)
  request_then = on_itself s.requests poke.req make

  pub no_load_then : is_of_load (request_in edits.requests poke.req) ≡ false
  no_load_then = ap is_of_load request_then ∙ by_found (request_in s.requests poke.req) no_load
    where
      by_found : (o : Option Asked) → is_of_load o ≡ false → is_of_load (option_map make o) ≡ false
      by_found None e = refl
      by_found (Some q) e = e

  -- no request ends, and its own hasn't
  ends_same : SameEnds s.requests edits.requests
  ends_same = made_ends s s.events (actors.Proc proc) proc made

  open_then : holds has_ended (request_in edits.requests poke.req) ≡ false
  open_then =
      ends_same poke.req ∙ acting.its_open run s proc tab flows poke first

  once_on_edits : AreOnce edits (poke.req ∷ at_hand (open_among s.requests loads) []) → AreOnce edits (poke.req ∷ at_hand (open_among edits.requests loads) [])
  once_on_edits =
      subst (λ (l : List ReqId). AreOnce edits (poke.req ∷ at_hand l [])) (sym (open_same s.requests edits.requests loads ends_same))

  pub edits_tab : IsTab run (poke.req ∷ loads) [] edits
  edits_tab =
      record {
        sound = tab.sound;
        hangs = left_hangs s s.events (actors.Proc proc) tab.hangs (rows.Made proc made) tt;
        docs = made_docs s s.events (actors.Proc proc) tab.docs proc made;
        whose = left_kept s s.events (actors.Proc proc) tab.whose (rows.Made proc made) tt;
        shown = made_shown s s.events (actors.Proc proc) tab.shown proc made;
        homes = homing.left_rows s s.events (actors.Proc proc) tab.homes (rows.Made proc made) tt;
        kept = keeping.left_rows s s.events (actors.Proc proc) tab.kept (rows.Made proc made) tt;
        standing = made_standing s s.events (actors.Proc proc) tab.standing proc made;
        movers = made_movers s s.events (actors.Proc proc) tab.movers proc made;
        asked = made_plain run s s.events (actors.Proc proc) tab.asked proc made;
        queued = queued_after run s s.events (actors.Proc proc) tab.queued (rows.Made proc made) tt;
        loading = made_loading s s.events (actors.Proc proc) tab.loading proc made (acting.no_ongoing run s proc tab flows poke first d view whats.Edit is);
        fragments = made_other_fragments s s.events (actors.Proc proc) proc made no_load tab.fragments;
        once = once_more edits poke.req loads [] open_then (once_on_edits (edited_once s (at_hand (open_among s.requests loads) []) s.events (actors.Proc proc) proc made poke first refl refl anew tab.once));
        trips = trips_more edits poke.req loads [] open_then (at_hand_else edits (at_hand (open_among edits.requests loads) []) poke.req no_load_then (trips_on s edits loads [] ends_same (made_other s (at_hand (open_among s.requests loads) []) s.events (actors.Proc proc) proc made poke first refl no_load anew tab.trips)));
        known = edited_known s (at_hand (open_among s.requests loads) []) s.events (actors.Proc proc) proc made poke first refl refl anew tab.once tab.known;
        desks = edited_desks s s.events (actors.Proc proc) tab.desks proc made refl anew;
        ways = made_ways s s.events (actors.Proc proc) tab.ways proc made anew;
        entries = edit_entries [] s s.events (actors.Proc proc) tab.entries proc made refl unparked anew;
        flows = flows_if edits edits_flows;
        past = edited_row_past s s.events proc tab.docs made d view (acting.found run s proc tab flows poke first d view whats.Edit is) is.has (acting.its_home run s proc tab flows poke first d view whats.Edit is) refl refl anew (ap (λ (l : List Made). l ++ []) (held_apart s.requests s.parked poke.req make unparked)) tab.past;
      }

  -- ---- it is applied

  abbrev pub edited : Seen
  edited = next edits s.events (actors.Proc proc) (rows.Applied poke.req changes.Edit)

  pub edited_places : edited.places ≡ s.places
  edited_places = taken_none s.history poke.req s.places

  pub edited_documents : edited.documents ≡ edits.documents
  edited_documents = map-id edits.documents

  pub edited_joined : edited.joined ≡ s.joined
  edited_joined = without_same s.joined poke.req unjoined

  pub edited_parked : edited.parked ≡ s.parked
  edited_parked = without_same s.parked poke.req unparked

  -- what is held back was made of other requests
  held_then : held_back edited.requests edited.parked ≡ held_back edits.requests edits.parked
  held_then =
      ap (λ (l : List ReqId). held_back edited.requests l) edited_parked
      ∙ held_on _ s.parked poke.req _ (λ q. refl)
      ∙ held_on _ s.parked poke.req _ (λ q. refl)
      ∙ held_on edits.requests s.parked poke.req _ (λ q. refl)

  pub edited_flows : Flows edited
  edited_flows =
      left_flows edits edited (λ p. ((desk_of edits p).input, refl)) edited_documents edited_places refl held_then edits_flows

  nothing : IsToEnd [] edits poke.req
  nothing = nothing_goes [] edits poke.req unparked refl

  -- its request had no outcome
  unended : (q : Asked) → request_of edits poke.req ≡ Some q → q.ending ≡ None
  unended q there = by_found (request_in s.requests poke.req) (acting.its_ending run s proc tab flows poke first) (sym request_then ∙ there)
    where
      by_found : (o : Option Asked) → option_and_then (λ (x : Asked). x.ending) o ≡ None → option_map make o ≡ Some q → q.ending ≡ None
      by_found None none never = absurd cc
      by_found (Some x) none at = ap (λ (y : Asked). y.ending) (sym (some_same at)) ∙ none

  -- it is at hand until then
  itself : (poke.req.0 == poke.req.0) ≡ true
  itself = nat_eq_refl poke.req.0

  at_hand_then : IsTab run (without_req poke.req (poke.req ∷ loads)) [] edited
  at_hand_then =
      changed_tab run run (poke.req ∷ loads) [] edits s.events (actors.Proc proc) poke.req changes.Edit edits_tab
      (record {
        unended = unended;
        carried = inr (inr (inl (rw itself refl)));
        fit = refl;
        sound = tab.sound;
        brings = tt;
        owned = tt;
        free = tt;
        homes = edited_homed edits s.events (actors.Proc proc) poke.req edits_tab.homes;
        standing = edited_standing edits s.events (actors.Proc proc) edits_tab.standing poke.req;
        asked = applied_plain run edits s.events (actors.Proc proc) edits_tab.asked poke.req changes.Edit other;
        queued = queued_after run edits s.events (actors.Proc proc) edits_tab.queued (rows.Applied poke.req changes.Edit) other;
        entries = edited_entries [] edits s.events (actors.Proc proc) edits_tab.entries poke.req nothing;
        flows = flows_if edited edited_flows;
      })

  -- and then no more
  off_hand : without_req poke.req (poke.req ∷ loads) ≡ loads
  off_hand = rw itself (without_same loads poke.req none)
    where
      none : has_req loads poke.req ≡ false
      none =
          ap (λ (l : List ReqId). has_req l poke.req) (sym (append-nil loads)) ∙ acting.unhanded run s proc tab flows poke first

  pub edited_tab : IsTab run loads [] edited
  edited_tab = subst (λ (l : List ReqId). IsTab run l [] edited) off_hand at_hand_then
