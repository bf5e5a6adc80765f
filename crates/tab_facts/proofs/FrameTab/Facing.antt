-- What is coming of a document that a navigable is awake on leads to the entry that its view shows, where that is under the navigable's epoch.
use Rattle.std.proofs.Common.{◌≡◌, List, [], ◌∷◌, fold, Option, Some, refl, sym, ap, ◌∙◌, append-nil}
use Rattle.std.proofs.lemmas.Bool.{eqb-true}
use Rattle.tab_ids.specs.declared.DocId.{DocId}
use Rattle.tab_ids.specs.declared.EntryId.{EntryId}
use Rattle.tab_ids.specs.declared.ProcId.{ProcId}
use Rattle.log_model.specs.declared.made.Made.{Made}
use Rattle.log_model.specs.declared.made.What.{What}
use Rattle.log_model.specs.declared.made.What.TheVariants as whats
use Rattle.log_model.specs.Seen.{Seen, Document, desk_of, document_of}
use Rattle.log_model.specs.Views.{View}
use Rattle.seen_facts.specs.Coord.Flowing.{Flows}
use Rattle.seen_facts.specs.Coord.Leading.{Face, face_after, orders_for, coming, held_back, Leads}
use Rattle.seen_facts.specs.Coord.Reaching.{AllTell}
use Rattle.seen_facts.proofs.Coord.OneMade.{tells, with_pair, pair_after}
use Rattle.seen_facts.specs.Each.Mades.{entry_after}
use Rattle.tab_facts.specs.FrameTab.Desks.{waiting}
use Rattle.tab_facts.proofs.FrameTab.Acting.{IsFaced}

some_same : {A : Type 0} {a b : A} → (let o : Option A = Some a in o) ≡ Some b → a ≡ b
some_same e = cc

face_entry : (face : Face) (made : Made) → (face_after face made).entry ≡ entry_after face.entry made.what
face_entry face made = by_what made.what refl
  where
    by_what : (what : What) → made.what ≡ what → (face_after face made).entry ≡ entry_after face.entry made.what
    by_what (whats.Push entry memo address) e = rw e refl
    by_what (whats.Replace over entry memo address) e = rw e refl
    by_what (whats.AddFrame nav) e = rw e refl
    by_what (whats.RemoveFrame nav) e = rw e refl
    by_what (whats.Go delta) e = rw e refl
    by_what whats.Edit e = rw e refl

faces_entry : (face : Face) (mades : List Made) → (fold face_after face mades).entry ≡ fold (λ (e : EntryId) (m : Made). entry_after e m.what) face.entry mades
faces_entry face [] = refl
faces_entry face (made ∷ mades) =
    faces_entry (face_after face made) mades
    ∙ ap (λ (e : EntryId). fold (λ (x : EntryId) (m : Made). entry_after x m.what) e mades) (face_entry face made)

-- with nothing at hand
pub faced_by : (s : Seen) (home : ProcId) (d : Document) (view : View) → Flows s → document_of s view.doc ≡ Some d → d.nr ≡ view.doc → d.proc ≡ home → d.view ≡ Some view → IsFaced home [] s view
faced_by s home d view flows found nr proc has nav place given there wakes is under =
    let leads : Leads s.history.rows (held_back s.requests s.parked) (desk_of s d.proc) d place.given place.epoch = flows.leads nav place view.doc d there wakes found in
    ap (λ (l : List Made). fold (λ (e : EntryId) (m : Made). entry_after e m.what) given l) lists
    ∙ sym (ap (λ (e : EntryId). fold (λ (x : EntryId) (m : Made). entry_after x m.what) e (coming (held_back s.requests s.parked) (desk_of s d.proc) d.nr place.epoch)) entry)
    ∙ sym (faces_entry leads.face (coming (held_back s.requests s.parked) (desk_of s d.proc) d.nr place.epoch))
    ∙ ap (λ (f : Face). f.entry) leads.leads
    ∙ ap (λ (v : View). v.entry) same
  where
    lists : coming (waiting s []) (desk_of s home) view.doc place.epoch ≡ coming (held_back s.requests s.parked) (desk_of s d.proc) d.nr place.epoch
    lists =
        ap (λ (l : List Made). coming l (desk_of s home) view.doc place.epoch) (append-nil (held_back s.requests s.parked))
        ∙ ap (λ (p : ProcId). coming (held_back s.requests s.parked) (desk_of s p) view.doc place.epoch) (sym proc)
        ∙ ap (λ (n : DocId). coming (held_back s.requests s.parked) (desk_of s d.proc) n place.epoch) (sym nr)

    entry : (flows.leads nav place view.doc d there wakes found).face.entry ≡ given
    entry = some_same ((flows.leads nav place view.doc d there wakes found).is_given ∙ is)

    telling : AllTell (orders_for (desk_of s d.proc) d.nr)
    telling = (flows.reaches nav place view.doc d there wakes found).reached view has (eqb-true view.epoch.0 place.epoch.0 under)

    same : (flows.leads nav place view.doc d there wakes found).view ≡ with_pair view (fold pair_after (view.length, view.index) (orders_for (desk_of s d.proc) d.nr))
    same = some_same (sym (flows.leads nav place view.doc d there wakes found).pending ∙ tells d view (orders_for (desk_of s d.proc) d.nr) telling has)
