-- What leads on between two rows, whether or not its document was told: what a change of its process, and of what is held back or at hand, leaves of it.
use Rattle.seen_facts.proofs.Coord.OneDocument.{LooksAlike}
use Rattle.seen_facts.specs.Coord.Epochs.{EachDocument, IsWithin, MadeWithin}
use Rattle.seen_facts.specs.Coord.Flowing.{Flows}
use Rattle.seen_facts.specs.Coord.Leading.{EachAwake, EachIsOfItsNavigable, Face, Leads, LeadsUntold, coming, face_after, held_back, is_push, pending_view}
use Rattle.tab_facts.specs.FrameTab.Desks.{waiting}
use Rattle.tab_facts.proofs.FrameTab.Takings.{place_nav}
use Rattle.tab_facts.specs.FrameWhole.Tab.{AreAwakeWithRows}
use Rattle.tab_facts.specs.FrameWhole.Untold.{EachLeadsIf, FlowsIf, LeadsIf, LeadsWhere}
use Rattle.log_model.specs.History.{has_row}
use Rattle.log_model.specs.Seen.{Desk, Document, Place, Seen, awake, desk_of, document_of, place_of}
use Rattle.log_model.specs.declared.made.Made.{Made}
use Rattle.log_model.specs.declared.row.Row.{Row}
use Rattle.std.proofs.Common.{List, Option, Some, [], ap, append-nil, fold, subst, sym, true, ℕ, ◌++◌, ◌∙◌, ◌∷◌, ◌≡◌}
use Rattle.std.specs.List.{list_any}
use Rattle.std.specs.Prelude.{is_some}
use Rattle.tab_ids.specs.declared.DocId.{DocId}
use Rattle.tab_ids.specs.declared.EntryId.{EntryId}
use Rattle.tab_ids.specs.declared.Epoch.{Epoch}
use Rattle.tab_ids.specs.declared.NavId.{NavId}

-- ---- of one document

-- the orders lead to the same view, what is coming leads to the same face and has a push where it had one, and the same was told
pub record LooksOn (held next_held : List Made) (desk next_desk : Desk) (d next_d : Document) (epoch : Epoch) : Type 0 where
  pub pending : pending_view next_d next_desk ≡ pending_view d desk
  pub faces : (face : Face) → fold face_after face (coming next_held next_desk next_d.nr epoch) ≡ fold face_after face (coming held desk d.nr epoch)
  pub pushes : list_any is_push (coming next_held next_desk next_d.nr epoch) ≡ list_any is_push (coming held desk d.nr epoch)
  pub told : next_d.told ≡ d.told

-- so it is where the same is coming
pub looks_on : (held : List Made) (desk next_desk : Desk) (d next_d : Document) (epoch : Epoch) → LooksAlike held desk next_desk d next_d epoch → LooksOn held held desk next_desk d next_d epoch
looks_on held desk next_desk d next_d epoch alike =
    record {
      pending = alike.pending;
      faces = λ face. ap (λ (l : List Made). fold face_after face l) alike.coming;
      pushes = ap (λ (l : List Made). list_any is_push l) alike.coming;
      told = alike.told;
    }

pub if_looks : (rows : List Row) (held next_held : List Made) (desk next_desk : Desk) (d next_d : Document) (given : Option EntryId) (epoch : Epoch) → LooksOn held next_held desk next_desk d next_d epoch → LeadsIf rows held desk d given epoch → LeadsIf rows next_held next_desk next_d given epoch
if_looks rows held next_held desk next_desk d next_d given epoch looks is =
    record {
      face = is.face;
      is_given = is.is_given;
      is_row = is.is_row;
      view = is.view;
      pending = looks.pending ∙ is.pending;
      leads = looks.faces is.face ∙ is.leads;
      runs = is.runs;
      in_epoch = is.in_epoch;
      pair = λ none told. looks.told ∙ is.pair (sym looks.pushes ∙ none) (sym (ap (λ (o : Option (ℕ × ℕ)). is_some o) looks.told) ∙ told);
    }

pub if_alike : (rows : List Row) (held : List Made) (desk next_desk : Desk) (d next_d : Document) (given : Option EntryId) (epoch : Epoch) → LooksAlike held desk next_desk d next_d epoch → LeadsIf rows held desk d given epoch → LeadsIf rows held next_desk next_d given epoch
if_alike rows held desk next_desk d next_d given epoch alike is =
    if_looks rows held held desk next_desk d next_d given epoch (looks_on held desk next_desk d next_d epoch alike) is

-- what leads in full, or but for what was told
pub if_leads : (rows : List Row) (held : List Made) (desk : Desk) (d : Document) (given : Option EntryId) (epoch : Epoch) → Leads rows held desk d given epoch → LeadsIf rows held desk d given epoch
if_leads rows held desk d given epoch is =
    record {
      face = is.face;
      is_given = is.is_given;
      is_row = is.is_row;
      view = is.view;
      pending = is.pending;
      leads = is.leads;
      runs = is.runs;
      in_epoch = is.in_epoch;
      pair = λ none told. is.pair none;
    }

pub untold_if : (rows : List Row) (held : List Made) (desk : Desk) (d : Document) (given : Option EntryId) (epoch : Epoch) → LeadsIf rows held desk d given epoch → LeadsUntold rows held desk d given epoch
untold_if rows held desk d given epoch is =
    record {
      face = is.face;
      is_given = is.is_given;
      is_row = is.is_row;
      view = is.view;
      pending = is.pending;
      leads = is.leads;
      runs = is.runs;
      in_epoch = is.in_epoch;
    }

-- what leads of a document that was told does so in full
pub told_if : (rows : List Row) (held : List Made) (desk : Desk) (d : Document) (given : Option EntryId) (epoch : Epoch) → is_some d.told ≡ true → LeadsIf rows held desk d given epoch → Leads rows held desk d given epoch
told_if rows held desk d given epoch told is =
    record {
      face = is.face;
      is_given = is.is_given;
      is_row = is.is_row;
      view = is.view;
      pending = is.pending;
      leads = is.leads;
      runs = is.runs;
      in_epoch = is.in_epoch;
      pair = λ none. is.pair none told;
    }

-- ---- of all

-- what a document leads by, of all that a log has come to, with these at hand, where its navigable has a row
abbrev pub IfIn : List Made → Seen → Desk → Document → Option EntryId → Epoch → Type 0
IfIn hand s = LeadsWhere s.history.rows (held_back s.requests s.parked ++ hand)

abbrev pub WithinHand : List Made → Seen → Desk → Document → ℕ → Type 0
WithinHand hand s = IsWithin (held_back s.requests s.parked ++ hand)

-- rows and what waits that are as they were leave what leads
pub if_again : (s next : Seen) (hand next_hand : List Made) → next.history.rows ≡ s.history.rows → waiting next next_hand ≡ waiting s hand → EachAwake (IfIn hand s) next → EachLeadsIf next_hand next
if_again s next hand next_hand rows_ held each nav place at d placed wakes found =
    subst (λ (rows : List Row). LeadsWhere rows (waiting next next_hand) (desk_of next d.proc) d place.given place.epoch) (sym rows_)
    (subst (λ (held : List Made). LeadsWhere s.history.rows held (desk_of next d.proc) d place.given place.epoch) (sym held)
    (each nav place at d placed wakes found))

pub within_if : (s next : Seen) (hand next_hand : List Made) → waiting next next_hand ≡ waiting s hand → EachDocument (WithinHand hand s) next → EachDocument (WithinHand next_hand next) next
within_if s next hand next_hand held each doc d place found placed =
    subst (λ (l : List Made). IsWithin l (desk_of next d.proc) d place.epoch.0) (sym held) (each doc d place found placed)

-- ---- between two events

-- with nothing at hand, what leads in full does so
pub flows_if : (s : Seen) → Flows s → FlowsIf [] s
flows_if s flows =
    record {
      leads = λ nav place doc d placed wakes found has.
          subst (λ (l : List Made). LeadsIf s.history.rows l (desk_of s d.proc) d place.given place.epoch) (sym (append-nil (held_back s.requests s.parked)))
          (if_leads s.history.rows (held_back s.requests s.parked) (desk_of s d.proc) d place.given place.epoch (flows.leads nav place doc d placed wakes found));
      whose = flows.whose;
      reaches = flows.reaches;
      within = λ doc d place found placed. subst (λ (l : List Made). IsWithin l (desk_of s d.proc) d place.epoch.0) (sym (append-nil (held_back s.requests s.parked))) (flows.within doc d place found placed);
    }

-- each awake navigable's document was told a pair
abbrev pub EachIsTold : Seen → Type 0
EachIsTold s =
    (nav : NavId) (place : Place) (doc : DocId) (d : Document) → place_of s nav ≡ Some place → place.status ≡ awake doc → document_of s doc ≡ Some d → is_some d.told ≡ true

-- a document that a navigable is awake on is of that navigable's place
pub awake_nav : (s : Seen) → EachIsOfItsNavigable s → (nav : NavId) (place : Place) (doc : DocId) (d : Document) → place_of s nav ≡ Some place → place.status ≡ awake doc → document_of s doc ≡ Some d → d.nav ≡ place.nav
awake_nav s whose nav place doc d placed wakes found =
    ap (λ (n : ℕ). let x : NavId = record { 0 = n } in x) (whose nav place doc d placed wakes found) ∙ sym (place_nav s nav place placed)

-- where no navigable without a row is awake
pub flows_told : (s : Seen) → FlowsIf [] s → EachIsTold s → AreAwakeWithRows s → Flows s
flows_told s flows told rows_ =
    record {
      leads = λ nav place doc d placed wakes found.
          told_if s.history.rows (held_back s.requests s.parked) (desk_of s d.proc) d place.given place.epoch (told nav place doc d placed wakes found)
          (subst (λ (l : List Made). LeadsIf s.history.rows l (desk_of s d.proc) d place.given place.epoch) (append-nil (held_back s.requests s.parked)) (flows.leads nav place doc d placed wakes found (ap (λ (n : NavId). has_row n s.history.rows) (awake_nav s flows.whose nav place doc d placed wakes found) ∙ rows_ nav place doc placed wakes)));
      whose = flows.whose;
      reaches = flows.reaches;
      within = λ doc d place found placed. subst (λ (l : List Made). IsWithin l (desk_of s d.proc) d place.epoch.0) (append-nil (held_back s.requests s.parked)) (flows.within doc d place found placed);
    }

-- what is held back is within where what is at hand is, too
pub held_within : (bound : ℕ) (doc : DocId) (xs ys : List Made) → MadeWithin bound doc (xs ++ ys) → MadeWithin bound doc xs × MadeWithin bound doc ys
held_within bound doc [] ys all = (tt, all)
held_within bound doc (x ∷ xs) ys all =
    let rest : MadeWithin bound doc xs × MadeWithin bound doc ys = held_within bound doc xs ys all.1 in
    ((all.0, rest.0), rest.1)

pub both_within : (bound : ℕ) (doc : DocId) (xs ys : List Made) → MadeWithin bound doc xs → MadeWithin bound doc ys → MadeWithin bound doc (xs ++ ys)
both_within bound doc [] ys one two = two
both_within bound doc (x ∷ xs) ys one two = (one.0, both_within bound doc xs ys one.1 two)
