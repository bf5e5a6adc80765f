-- A document makes something of the order that it has just finished: what is true between two rows of the documents of all awake navigables stays.
use Rattle.std.proofs.Common.{◌≡◌, ℕ, ◌≤◌, Bool, true, false, ◌==◌, List, Option, Some, None, refl, sym, ap, ◌∙◌, subst}
use Rattle.std.specs.Prelude.{not, option_map}
use Rattle.tab_ids.specs.declared.DocId.{DocId}
use Rattle.tab_ids.specs.declared.EntryId.{EntryId}
use Rattle.tab_ids.specs.declared.Epoch.{Epoch}
use Rattle.tab_ids.specs.declared.NavId.{NavId}
use Rattle.tab_ids.specs.declared.ProcId.{ProcId}
use Rattle.tab_ids.specs.declared.ReqId.{ReqId}
use Rattle.log_model.specs.declared.job.Job.{Job}
use Rattle.log_model.specs.declared.made.Made.{Made}
use Rattle.log_model.specs.declared.made.What.{What}
use Rattle.log_model.specs.declared.made.What.TheVariants as whats
use Rattle.log_model.specs.declared.outcome.Outcome.TheVariants as outcomes
use Rattle.log_model.specs.declared.request.Mode.{Mode}
use Rattle.log_model.specs.Equal.{has_req}
use Rattle.log_model.specs.Views.{View, after_made, made_for, new_entry, is_fragment_replace}
use Rattle.log_model.specs.Seen.{Seen, Document, Desk, Place, awake, document_of, desk_of, place_of}
use Rattle.log_model.specs.After.{after, on_desk, desks_made}
use Rattle.log_model.proofs.Refl.{nat_eq_refl}
use Rattle.seen_laws.specs.Acting.{IsNoEdit}
use Rattle.seen_laws.proofs.Keyed.{find_has}
use Rattle.seen_facts.specs.Coord.Epochs.{IsWithin}
use Rattle.seen_facts.specs.Coord.Flowing.{Flows}
use Rattle.seen_facts.specs.Coord.Leading.{held_back, EachAwake}
use Rattle.seen_facts.specs.Coord.Reaching.{Reaches, EachReaches}
use Rattle.seen_facts.proofs.Coord.EachDocuments.{IsOneOfEach, each_stays}
use Rattle.seen_facts.proofs.Coord.Held.{held_apart}
use Rattle.seen_facts.proofs.Coord.Kept.{same_places}
use Rattle.seen_facts.proofs.Coord.Leadings.{as_placed, one_stays, LeadsIn, leads_again}
use Rattle.seen_facts.proofs.Coord.OneDocument.{leads_alike}
use Rattle.seen_facts.proofs.Coord.OneMade.{once_made}
use Rattle.seen_facts.proofs.Coord.Whose.{had_status, whose_one}
use Rattle.seen_facts.proofs.Coord.Within.{within_more}
use Rattle.seen_facts.proofs.Coord.Withins.{WithinIn, within_again, unmoved}
use Rattle.seen_facts.specs.Fragment.Fragments.{fragment_of, fragment_row, IsJustFragmented}
use Rattle.seen_facts.proofs.Fragment.Joined.{EndsUntold, desk_joined, joining_leads, joined_elsewhere, joining_reaches, joined_reaches, joining_within}

some_same : {A : Type 0} {a b : A} → (let o : Option A = Some a in o) ≡ Some b → a ≡ b
some_same e = cc

kept_epoch : (view : View) (what : What) → (after_made view what).epoch ≡ view.epoch
kept_epoch view (whats.Push entry memo address) = refl
kept_epoch view (whats.Replace over entry memo address) = refl
kept_epoch view (whats.AddFrame nav) = refl
kept_epoch view (whats.RemoveFrame nav) = refl
kept_epoch view (whats.Go delta) = refl
kept_epoch view whats.Edit = refl

-- a new entry is no edit
pub no_edit : (view : View) (mode : Mode) (address : List ℕ) → IsNoEdit (fragment_of view mode address)
no_edit view mode address = by_test (not (is_fragment_replace view mode address))
  where
    by_test : (b : Bool) → IsNoEdit (new_entry view b None address)
    by_test true = tt
    by_test false = tt

module _ (s : Seen) (event : ℕ) (proc : ProcId) (job : Job) (req : ReqId) (mode : Mode) (address : List ℕ) (d : Document) (view : View) (is : IsJustFragmented s event proc job req mode address d view) where
  abbrev what : What
  what = fragment_of view mode address

  abbrev made : Made
  made = made_for view req (fragment_of view mode address)

  abbrev pub after_fragment : Seen
  after_fragment = after s (fragment_row event proc view req mode address)

  -- the report of the order is the last one
  pub ends : EndsUntold (desk_of s proc).reports
  ends = record { front = is.front; job = job; outcome = outcomes.Fragmented; last = is.last }

  pub desks_are : after_fragment.desks ≡ on_desk proc (desk_joined made) s.desks
  desks_are = ap (λ (b : Bool). on_desk proc (desks_made b made) s.desks) is.follows

  -- the document, by its own number
  pub there : document_of s view.doc ≡ Some d
  there = ap (λ (doc : DocId). document_of s doc) is.of ∙ is.found

  its : view.doc ≡ d.nr
  its =
      ap (λ (n : ℕ). let x : DocId = record { 0 = n } in x) (sym (find_has (λ (x : Document). x.nr.0) view.doc.0 s.documents d there))

  same_document : (x : Document) → document_of s view.doc ≡ Some x → d ≡ x
  same_document x found = some_same (sym there ∙ found)

  at_home : (x : Document) → document_of s view.doc ≡ Some x → x.proc ≡ proc
  at_home x found = ap (λ (y : Document). y.proc) (sym (same_document x found)) ∙ is.home

  -- a fact of the document of each awake navigable
  making_stays : (F : Desk → Document → Option EntryId → Epoch → Type 0) → ((nav : NavId) (place : Place) → place_of s nav ≡ Some place → place.status ≡ awake view.doc → F (desk_of s proc) d place.given place.epoch → F (desk_joined made (desk_of s proc)) (once_made what d) place.given place.epoch) → ((x : Document) (given : Option EntryId) (epoch : Epoch) → (view.doc.0 == x.nr.0) ≡ false → F (desk_of s proc) x given epoch → F (desk_joined made (desk_of s proc)) x given epoch) → EachAwake F s → EachAwake F after_fragment
  making_stays F own other each =
      one_stays F s after_fragment proc (desk_joined made) view.doc (once_made what)
      (record {
        desks = desks_are;
        documents = refl;
        keeps_proc = λ desk. refl;
        keeps_number = λ x. refl;
        stays = λ x. refl;
        home = at_home;
        own = λ nav place x placed wakes found. subst (λ (y : Document). F (desk_joined made (desk_of s proc)) (once_made what y) place.given place.epoch) (same_document x found) (own nav place placed wakes (subst (λ (p : ProcId). F (desk_of s p) d place.given place.epoch) is.home (each nav place view.doc d placed wakes there)));
        others = λ nav place at placed wakes apart. as_placed s nav place placed;
        other = other;
      })
      each

  -- the orders that come to it
  own_reaches : EachReaches s → (nav : NavId) (place : Place) → place_of s nav ≡ Some place → place.status ≡ awake view.doc → Reaches (desk_of s proc) d place.epoch
  own_reaches each nav place placed wakes =
      subst (λ (p : ProcId). Reaches (desk_of s p) d place.epoch) is.home (each nav place view.doc d placed wakes there)

  -- the view that makes it is within the bound, and keeps its epoch
  low : (x : Document) (bound : ℕ) → document_of s view.doc ≡ Some x → IsWithin (held_back s.requests s.parked) (desk_of s proc) x bound → view.epoch.0 ≤ bound
  low x bound found was = was.view view (ap (λ (y : Document). y.view) (sym (same_document x found)) ∙ is.has)

  seen_low : (x : Document) (bound : ℕ) → document_of s view.doc ≡ Some x → IsWithin (held_back s.requests s.parked) (desk_of s proc) x bound → (seen : View) → (once_made what x).view ≡ Some seen → seen.epoch.0 ≤ bound
  seen_low x bound found was seen has =
      let shows : Some (after_made view what) ≡ Some seen = sym (ap (λ (o : Option View). option_map (λ (v : View). after_made v what) o) (ap (λ (y : Document). y.view) (sym (same_document x found)) ∙ is.has)) ∙ has in
      let same : after_made view what ≡ seen = some_same shows in
      subst (λ (k : Epoch). k.0 ≤ bound) (sym (kept_epoch view what) ∙ ap (λ (v : View). v.epoch) same) (low x bound found was)

  within_change : IsOneOfEach (WithinIn s) s after_fragment proc (desk_joined made) view.doc (once_made what)
  within_change =
      record {
        desks = desks_are;
        documents = refl;
        keeps_proc = λ desk. refl;
        keeps_number = λ x. refl;
        stays = λ x. refl;
        stays_in = λ x. refl;
        had = λ nav place placed. unmoved s nav place placed;
        grows = λ desk x m n more was. within_more (held_back s.requests s.parked) desk x m n more was;
        home = at_home;
        own = λ x place found placed was. joining_within (held_back s.requests s.parked) (desk_of s proc) made x (once_made what x) place.epoch.0 ends (λ mine. low x place.epoch.0 found was) refl (seen_low x place.epoch.0 found was) was;
        other = λ x bound apart was. joining_within (held_back s.requests s.parked) (desk_of s proc) made x x bound ends (λ mine. (let yes : (view.doc.0 == x.nr.0) ≡ true = rw mine (nat_eq_refl x.nr.0) in let no_ : true ≡ false = sym yes ∙ apart in absurd cc)) refl was.view was;
      }

  -- what isn't held back yet leaves what is
  pub fragment_held : has_req s.parked req ≡ false → held_back after_fragment.requests s.parked ≡ held_back s.requests s.parked
  fragment_held none = held_apart s.requests s.parked req (λ q. record q { made = Some made }) none

  -- where the request isn't one that is held back
  pub fragment_flows : has_req s.parked req ≡ false → Flows s → Flows after_fragment
  fragment_flows none flows =
      record {
        leads = leads_again s after_fragment refl (fragment_held none) (making_stays (LeadsIn s) (λ nav place placed wakes led. joining_leads s.history.rows (held_back s.requests s.parked) (desk_of s proc) d view req what place.given place.epoch is.has its (no_edit view mode address) ends (own_reaches flows.reaches nav place placed wakes) led) (λ x given epoch apart led. leads_alike s.history.rows (held_back s.requests s.parked) (desk_of s proc) (desk_joined made (desk_of s proc)) x x given epoch (joined_elsewhere (held_back s.requests s.parked) (desk_of s proc) made x epoch ends apart) led) flows.leads);
        whose = whose_one s after_fragment view.doc (once_made what) refl (λ x. refl) (λ x. refl) (had_status s after_fragment (same_places s after_fragment refl)) flows.whose;
        reaches = making_stays (λ desk x given epoch. Reaches desk x epoch) (λ nav place placed wakes reaches. joining_reaches (desk_of s proc) made d what place.epoch reaches) (λ x given epoch apart reaches. joined_reaches (desk_of s proc) made x epoch reaches) flows.reaches;
        within = within_again s after_fragment (fragment_held none) (each_stays (WithinIn s) s after_fragment proc (desk_joined made) view.doc (once_made what) within_change flows.within);
      }
