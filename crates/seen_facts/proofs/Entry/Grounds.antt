-- When a row's premises are met: what is coming leads to what a document's view shows, nothing is coming under a new epoch, what waits first comes next, and a finished order's report is the last.
use Rattle.std.proofs.Common.{◌≡◌, ℕ, ◌<◌, List, [], ◌∷◌, ◌++◌, fold, Option, None, Some, refl, sym, ap, ◌∙◌, subst, append-nil}
use Rattle.std.proofs.lemmas.Bool.{eqb-true}
use Rattle.tab_ids.specs.declared.DocId.{DocId}
use Rattle.tab_ids.specs.declared.EntryId.{EntryId}
use Rattle.tab_ids.specs.declared.Epoch.{Epoch}
use Rattle.tab_ids.specs.declared.ProcId.{ProcId}
use Rattle.tab_ids.specs.declared.JobId.{JobId}
use Rattle.log_model.specs.declared.job.Order.{Order}
use Rattle.log_model.specs.declared.made.Made.{Made}
use Rattle.log_model.specs.declared.made.Report.TheVariants as reports
use Rattle.log_model.specs.declared.outcome.Outcome.{Outcome}
use Rattle.log_model.specs.declared.row_kind.Actor.{Actor}
use Rattle.log_model.specs.declared.row_kind.RowKind.TheVariants as rows
use Rattle.log_model.specs.After.{after, desk_finished}
use Rattle.std.specs.Option.{option_map_or}
use Rattle.log_model.specs.declared.made.What.{What}
use Rattle.log_model.specs.declared.made.What.TheVariants as whats
use Rattle.log_model.specs.Seen.{Seen, Desk, Document, Place, desk_of, document_of, place_of}
use Rattle.log_model.specs.Views.{View}
use Rattle.seen_facts.specs.Coord.Flowing.{Flows}
use Rattle.seen_facts.specs.Coord.Leading.{Face, Leads, coming, face_after, held_back, orders_for}
use Rattle.seen_facts.specs.Coord.Reaching.{AllTell}
use Rattle.seen_facts.proofs.Coord.NewEpoch.{nothing_comes}
use Rattle.seen_laws.proofs.Desks.{desk_on_same}
use Rattle.seen_facts.proofs.Coord.OneMade.{pair_after, tells, with_pair}
use Rattle.seen_facts.specs.Each.Mades.{Ascend, IsNext, entry_after}
use Rattle.seen_facts.specs.Entry.Entries.{AreEntries, mades_of, untaken, untold, waiting}
use Rattle.seen_facts.proofs.Entry.Firsts.{IsFirstOf, first_with, own_first}
use Rattle.seen_facts.proofs.Entry.Makes.{EndsUnmade, IsFaced}
use Rattle.seen_facts.proofs.Entry.Stays.{its_number, some_same}

face_entry : (face : Face) (made : Made) → (face_after face made).entry ≡ entry_after face.entry made.what
face_entry face made = by_what made.what refl
  where
    by_what : (what : What) → made.what ≡ what → (face_after face made).entry ≡ entry_after face.entry made.what
    by_what (whats.Push entry memo address) e = rw e refl
    by_what (whats.Replace over entry memo address) e = rw e refl
    by_what (whats.AddFrame nav) e = rw e refl
    by_what (whats.RemoveFrame nav) e = rw e refl
    by_what (whats.Go delta) e = rw e refl
    by_what whats.Edit e = rw e refl

faces_entry : (face : Face) (mades : List Made) → (fold face_after face mades).entry ≡ fold (λ (e : EntryId) (m : Made). entry_after e m.what) face.entry mades
faces_entry face [] = refl
faces_entry face (made ∷ mades) =
    faces_entry (face_after face made) mades
    ∙ ap (λ (e : EntryId). fold (λ (x : EntryId) (m : Made). entry_after x m.what) e mades) (face_entry face made)

-- with nothing at hand, and under the view's own epoch
pub faced_by : (s : Seen) (d : Document) (view : View) (made : Made) → Flows s → document_of s made.doc ≡ Some d → d.view ≡ Some view → view.epoch ≡ made.epoch → IsFaced [] s d view made
faced_by s d view made flows found has epochs nav place given there wakes is under =
    let leads : Leads s.history.rows (held_back s.requests s.parked) (desk_of s d.proc) d place.given place.epoch = flows.leads nav place made.doc d there wakes found in
    ap (λ (l : List Made). fold (λ (e : EntryId) (m : Made). entry_after e m.what) given l) lists
    ∙ sym (ap (λ (e : EntryId). fold (λ (x : EntryId) (m : Made). entry_after x m.what) e (coming (held_back s.requests s.parked) (desk_of s d.proc) d.nr place.epoch)) entry)
    ∙ sym (faces_entry leads.face (coming (held_back s.requests s.parked) (desk_of s d.proc) d.nr place.epoch))
    ∙ ap (λ (f : Face). f.entry) leads.leads
    ∙ ap (λ (v : View). v.entry) same
  where
    nr : d.nr ≡ made.doc
    nr = ap (λ (n : ℕ). let x : DocId = record { 0 = n } in x) (its_number s.documents made.doc d found)

    lists : coming (waiting s []) (desk_of s d.proc) made.doc place.epoch ≡ coming (held_back s.requests s.parked) (desk_of s d.proc) d.nr place.epoch
    lists =
        ap (λ (l : List Made). coming l (desk_of s d.proc) made.doc place.epoch) (append-nil (held_back s.requests s.parked))
        ∙ ap (λ (n : DocId). coming (held_back s.requests s.parked) (desk_of s d.proc) n place.epoch) (sym nr)

    entry : (flows.leads nav place made.doc d there wakes found).face.entry ≡ given
    entry = some_same ((flows.leads nav place made.doc d there wakes found).is_given ∙ is)

    telling : AllTell (orders_for (desk_of s d.proc) d.nr)
    telling = (flows.reaches nav place made.doc d there wakes found).reached view has (ap (λ (n : Epoch). n.0) epochs ∙ eqb-true made.epoch.0 place.epoch.0 under)

    same : (flows.leads nav place made.doc d there wakes found).view ≡ with_pair view (fold pair_after (view.length, view.index) (orders_for (desk_of s d.proc) d.nr))
    same = some_same (sym (flows.leads nav place made.doc d there wakes found).pending ∙ tells d view (orders_for (desk_of s d.proc) d.nr) telling has)

-- what waits first of a document comes next
pub is_next : (hand : List Made) (s : Seen) (made : Made) (left : List Made) (d : Document) (view : View) → AreEntries hand s → document_of s made.doc ≡ Some d → d.view ≡ Some view → IsFirstOf (waiting s hand) made left → IsNext d.last_applied made.what
is_next hand s made left d view are found has first =
    (subst (λ (l : List Made). Ascend d.last_applied l view.numbered) (its d.proc) (are.ascends made.doc d found view has)).0
  where
    its : (p : ProcId) → untaken (waiting s hand) (desk_of s p) d.nr ≡ made ∷ untaken left (desk_of s p) made.doc
    its p =
        ap (λ (n : ℕ). untaken (waiting s hand) (desk_of s p) (record { 0 = n })) (its_number s.documents made.doc d found)
        ∙ own_first (untold (waiting s hand) (desk_of s p)) made (untold left (desk_of s p)) (first_with (waiting s hand) made left (mades_of (desk_of s p)) first)

-- nothing is coming under an epoch that is still to come, with nothing at hand
pub fresh_by : (s : Seen) (doc : DocId) (d : Document) (place : Place) (epoch : Epoch) → Flows s → document_of s doc ≡ Some d → place_of s d.nav ≡ Some place → place.epoch.0 < epoch.0 → coming (waiting s []) (desk_of s d.proc) doc epoch ≡ []
fresh_by s doc d place epoch flows found placed later =
    ap (λ (l : List Made). coming l (desk_of s d.proc) doc epoch) (append-nil (held_back s.requests s.parked))
    ∙ ap (λ (n : ℕ). coming (held_back s.requests s.parked) (desk_of s d.proc) (record { 0 = n }) epoch) (sym (its_number s.documents doc d found))
    ∙ nothing_comes place.epoch.0 epoch later (held_back s.requests s.parked) (desk_of s d.proc) d (flows.within doc d place found placed)

-- right after an order is finished, its report is the last of its process
pub finished_ends : (s : Seen) (event : ℕ) (actor : Actor) (proc : ProcId) (job : JobId) (outcome : Outcome) (order : Order) → (desk_of s proc).in_hand ≡ Some order → EndsUnmade (desk_of (after s (record { event = event; actor = actor; row = rows.Finished proc job outcome })) proc).reports
finished_ends s event actor proc job outcome order in_hand =
    record {
      before = (desk_of s proc).reports;
      job = order.job;
      outcome = outcome;
      is =
          ap (λ (desk : Desk). desk.reports) (desk_on_same (desk_finished outcome) s.desks proc (λ desk. refl))
          ∙ ap (λ (o : Option Order). option_map_or (λ (x : Order). (desk_of s proc).reports ++ reports.Done x.job outcome None ∷ []) o (desk_of s proc).reports) in_hand;
    }
