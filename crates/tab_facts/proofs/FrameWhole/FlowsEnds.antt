-- A request is refused or dropped, or a traversal begins: what is true between two rows of the documents of all awake navigables stays, where what was made of a request that ends, and is held back or at hand, is no entry of a document that is shown.
use Rattle.seen_facts.proofs.Coord.Held.{made_of, on_alike}
use Rattle.seen_facts.proofs.Coord.Kept.{same_places}
use Rattle.seen_facts.proofs.Coord.Unread.{DesksLeft, dropped_left, left_reaches, next, refused_left, started_held, started_left}
use Rattle.seen_facts.proofs.Coord.Whose.{had_status, whose_same}
use Rattle.seen_facts.specs.Coord.Epochs.{MadeWithin}
use Rattle.seen_facts.specs.Coord.Leading.{Face, face_after, held_back, is_made_under, is_push}
use Rattle.tab_facts.proofs.FrameTab.Ends.{IsToEnd}
use Rattle.tab_facts.proofs.FrameTab.Skips.{IsNoEntry, IsPassed, Skips, hand_skips, held_skips, made_in, skips_append, skips_same, without_made}
use Rattle.tab_facts.specs.FrameTab.Desks.{waiting}
use Rattle.tab_facts.proofs.FrameWhole.FlowsAlike.{LooksOn, WithinHand, awake_nav, if_looks}
use Rattle.tab_facts.specs.FrameWhole.Untold.{FlowsIf, LeadsIf}
use Rattle.log_model.specs.After.{ended}
use Rattle.log_model.specs.AfterRequests.{made_of_report, without_req}
use Rattle.log_model.specs.History.{has_row}
use Rattle.log_model.specs.Seen.{Desk, Document, Place, Seen, awake, desk_of, document_of, place_in, place_of}
use Rattle.log_model.specs.declared.made.Made.{Made}
use Rattle.log_model.specs.declared.made.What.{What}
use Rattle.log_model.specs.declared.outcome.Cause.{Cause}
use Rattle.log_model.specs.declared.outcome.Denial.{Denial}
use Rattle.log_model.specs.declared.outcome.Ending.{Ending}
use Rattle.log_model.specs.declared.row.Row.{Row}
use Rattle.log_model.specs.declared.row_kind.Actor.{Actor}
use Rattle.seen_laws.proofs.Keyed.{find_has}
use Rattle.seen_laws.proofs.Sums.{over}
use Rattle.std.proofs.Common.{Bool, List, Option, Some, [], ap, cond, false, fold, inl, inr, refl, subst, sym, true, ℕ, ◌++◌, ◌==◌, ◌||◌, ◌∙◌, ◌∷◌, ◌≡◌}
use Rattle.std.specs.List.{list_any}
use Rattle.std.specs.Prelude.{filter, filter_map, find}
use Rattle.tab_ids.specs.declared.DocId.{DocId}
use Rattle.tab_ids.specs.declared.Epoch.{Epoch}
use Rattle.tab_ids.specs.declared.NavId.{NavId}
use Rattle.tab_ids.specs.declared.ReqId.{ReqId}
use Rattle.tab_ids.specs.declared.Step.{Step}
use Rattle.log_model.specs.declared.made.What.TheVariants as whats
use Rattle.log_model.specs.declared.outcome.Ending.TheVariants as endings
use Rattle.log_model.specs.declared.row_kind.RowKind.TheVariants as rows

-- ---- lists from which something goes

pub face_stays : (face : Face) (made : Made) → IsNoEntry made.what → face_after face made ≡ face
face_stays face made none = by_what made.what refl none
  where
    by_what : (what : What) → made.what ≡ what → IsNoEntry what → face_after face made ≡ face
    by_what (whats.Push entry memo address) e never = absurd never
    by_what (whats.Replace over entry memo address) e never = absurd never
    by_what (whats.AddFrame nav) e none_ = rw e refl
    by_what (whats.RemoveFrame nav) e none_ = rw e refl
    by_what (whats.Go delta) e none_ = rw e refl
    by_what whats.Edit e none_ = rw e refl

pub no_push : (made : Made) → IsNoEntry made.what → is_push made ≡ false
no_push made none = by_what made.what refl none
  where
    by_what : (what : What) → made.what ≡ what → IsNoEntry what → is_push made ≡ false
    by_what (whats.Push entry memo address) e never = absurd never
    by_what (whats.Replace over entry memo address) e never = absurd never
    by_what (whats.AddFrame nav) e none_ = rw e refl
    by_what (whats.RemoveFrame nav) e none_ = rw e refl
    by_what (whats.Go delta) e none_ = rw e refl
    by_what whats.Edit e none_ = rw e refl

module _ (P : Made → Type 0) (doc : DocId) (epoch : Epoch) (passes : (made : Made) → P made → is_made_under doc epoch made ≡ true → IsNoEntry made.what) where
  abbrev under : List Made → List Made
  under xs = filter (is_made_under doc epoch) xs

  faces_gone : (x : Made) (xs : List Made) → P x → (face : Face) → fold face_after face (under (x ∷ xs)) ≡ fold face_after face (under xs)
  faces_gone x xs gone face = by_test (is_made_under doc epoch x) refl
    where
      by_test : (b : Bool) → is_made_under doc epoch x ≡ b → fold face_after face (cond b (x ∷ under xs) (under xs)) ≡ fold face_after face (under xs)
      by_test true e = ap (λ (f : Face). fold face_after f (under xs)) (face_stays face x (passes x gone e))
      by_test false e = refl

  faces_kept : (x : Made) (xs zs : List Made) → ((face : Face) → fold face_after face (under zs) ≡ fold face_after face (under xs)) → (face : Face) → fold face_after face (under (x ∷ zs)) ≡ fold face_after face (under (x ∷ xs))
  faces_kept x xs zs on face = by_test (is_made_under doc epoch x)
    where
      by_test : (b : Bool) → fold face_after face (cond b (x ∷ under zs) (under zs)) ≡ fold face_after face (cond b (x ∷ under xs) (under xs))
      by_test true = on (face_after face x)
      by_test false = on face

  pub faces_skip : (xs ys : List Made) → Skips P xs ys → (face : Face) → fold face_after face (under ys) ≡ fold face_after face (under xs)
  faces_skip [] ys none face = ap (λ (l : List Made). fold face_after face (under l)) none
  faces_skip (x ∷ xs) ys (inl (gone, more)) face = faces_skip xs ys more face ∙ sym (faces_gone x xs gone face)
  faces_skip (x ∷ xs) ys (inr (zs, same, more)) face =
      ap (λ (l : List Made). fold face_after face (under l)) same ∙ faces_kept x xs zs (faces_skip xs zs more) face

  pushes_gone : (x : Made) (xs : List Made) → P x → list_any is_push (under (x ∷ xs)) ≡ list_any is_push (under xs)
  pushes_gone x xs gone = by_test (is_made_under doc epoch x) refl
    where
      by_test : (b : Bool) → is_made_under doc epoch x ≡ b → list_any is_push (cond b (x ∷ under xs) (under xs)) ≡ list_any is_push (under xs)
      by_test true e = rw (no_push x (passes x gone e)) refl
      by_test false e = refl

  pushes_kept : (x : Made) (xs zs : List Made) → list_any is_push (under zs) ≡ list_any is_push (under xs) → list_any is_push (under (x ∷ zs)) ≡ list_any is_push (under (x ∷ xs))
  pushes_kept x xs zs on = by_test (is_made_under doc epoch x)
    where
      by_test : (b : Bool) → list_any is_push (cond b (x ∷ under zs) (under zs)) ≡ list_any is_push (cond b (x ∷ under xs) (under xs))
      by_test true = ap (λ (c : Bool). is_push x || c) on
      by_test false = on

  pub pushes_skip : (xs ys : List Made) → Skips P xs ys → list_any is_push (under ys) ≡ list_any is_push (under xs)
  pushes_skip [] ys none = ap (λ (l : List Made). list_any is_push (under l)) none
  pushes_skip (x ∷ xs) ys (inl (gone, more)) = pushes_skip xs ys more ∙ sym (pushes_gone x xs gone)
  pushes_skip (x ∷ xs) ys (inr (zs, same, more)) =
      ap (λ (l : List Made). list_any is_push (under l)) same ∙ pushes_kept x xs zs (pushes_skip xs zs more)

pub within_skip : (P : Made → Type 0) (bound : ℕ) (doc : DocId) (xs ys : List Made) → Skips P xs ys → MadeWithin bound doc xs → MadeWithin bound doc ys
within_skip P bound doc [] ys none all = subst (λ (l : List Made). MadeWithin bound doc l) (sym none) all
within_skip P bound doc (x ∷ xs) ys (inl (gone, more)) all = within_skip P bound doc xs ys more all.1
within_skip P bound doc (x ∷ xs) ys (inr (zs, same, more)) all =
    subst (λ (l : List Made). MadeWithin bound doc l) (sym same) (all.0, within_skip P bound doc xs zs more all.1)

-- ---- each process is as it was, but for its input

module _ (s t : Seen) (hand next_hand : List Made) (left : DesksLeft s t) (documents : t.documents ≡ s.documents) (places : t.places ≡ s.places) (rows_ : t.history.rows ≡ s.history.rows) (skips : Skips (IsPassed s) (waiting s hand) (waiting t next_hand)) where
  was_there : (doc : DocId) (d : Document) → document_of t doc ≡ Some d → document_of s doc ≡ Some d
  was_there doc d found = ap (λ (l : List Document). find (λ (x : Document). x.nr.0 == doc.0) l) (sym documents) ∙ found

  was_placed : (nav : NavId) (place : Place) → place_of t nav ≡ Some place → place_of s nav ≡ Some place
  was_placed nav place placed = ap (λ (l : List Place). place_in l nav) (sym places) ∙ placed

  looks : (nav : NavId) (place : Place) (doc : DocId) (d : Document) → place_of s nav ≡ Some place → place.status ≡ awake doc → document_of s doc ≡ Some d → has_row place.nav s.history.rows ≡ true → LooksOn (waiting s hand) (waiting t next_hand) (desk_of s d.proc) (desk_of t d.proc) d d place.epoch
  looks nav place doc d placed wakes found has =
      subst (λ (desk : Desk). LooksOn (waiting s hand) (waiting t next_hand) (desk_of s d.proc) desk d d place.epoch) (sym (left d.proc).1)
      (record {
        pending = refl;
        faces = λ face. faces_skip (IsPassed s) d.nr place.epoch passes (whole s hand) (whole t next_hand) all face;
        pushes = pushes_skip (IsPassed s) d.nr place.epoch passes (whole s hand) (whole t next_hand) all;
        told = refl;
      })
    where
      whole : Seen → List Made → List Made
      whole u at = waiting u at ++ filter_map made_of_report (desk_of s d.proc).reports

      all : Skips (IsPassed s) (whole s hand) (whole t next_hand)
      all =
          skips_append (IsPassed s) (waiting s hand) (waiting t next_hand) (filter_map made_of_report (desk_of s d.proc).reports) (filter_map made_of_report (desk_of s d.proc).reports) skips
          (skips_same (IsPassed s) (filter_map made_of_report (desk_of s d.proc).reports))

      number : d.nr ≡ doc
      number =
          ap (λ (n : ℕ). let x : DocId = record { 0 = n } in x) (find_has (λ (x : Document). x.nr.0) doc.0 s.documents d found)

      passes : (made : Made) → IsPassed s made → is_made_under d.nr place.epoch made ≡ true → IsNoEntry made.what
      passes made passed under_ =
          passed nav place doc placed wakes has (ap (λ (n : DocId). is_made_under n place.epoch made) (sym number) ∙ under_)

  pub ends_if : FlowsIf hand s → FlowsIf next_hand t
  ends_if is =
      record {
        leads = λ nav place doc d placed wakes found has.
            let before : place_of s nav ≡ Some place = was_placed nav place placed in
            let there : document_of s doc ≡ Some d = was_there doc d found in
            let had : has_row d.nav s.history.rows ≡ true = ap (λ (l : List Row). has_row d.nav l) (sym rows_) ∙ has in
            let its : has_row place.nav s.history.rows ≡ true = ap (λ (n : NavId). has_row n s.history.rows) (sym (awake_nav s is.whose nav place doc d before wakes there)) ∙ had in
            subst (λ (l : List Row). LeadsIf l (waiting t next_hand) (desk_of t d.proc) d place.given place.epoch) (sym rows_)
            (if_looks s.history.rows (waiting s hand) (waiting t next_hand) (desk_of s d.proc) (desk_of t d.proc) d d place.given place.epoch (looks nav place doc d before wakes there its) (is.leads nav place doc d before wakes there had));
        whose = whose_same s t documents (had_status s t (same_places s t places)) is.whose;
        reaches = left_reaches s t left documents places is.reaches;
        within = λ doc d place found placed. within_then doc d place (was_there doc d found) (was_placed d.nav place placed) (is.within doc d place (was_there doc d found) (was_placed d.nav place placed));
      }
    where
      within_then : (doc : DocId) (d : Document) (place : Place) → document_of s doc ≡ Some d → place_of s d.nav ≡ Some place → WithinHand hand s (desk_of s d.proc) d place.epoch.0 → WithinHand next_hand t (desk_of t d.proc) d place.epoch.0
      within_then doc d place there placed was =
          subst (λ (desk : Desk). WithinHand next_hand t desk d place.epoch.0) (sym (left d.proc).1)
          (record {
            view = was.view;
            orders = was.orders;
            held_back = within_skip (IsPassed s) place.epoch.0 d.nr (waiting s hand) (waiting t next_hand) skips was.held_back;
            reports = was.reports;
          })

-- ---- the rows

-- what goes with a request that ends
pub end_skips : (s t : Seen) (run : Option ReqId) (hand : List Made) (req : ReqId) → IsToEnd run hand s req → ((r : ReqId) → made_in t.requests r ≡ made_in s.requests r) → t.parked ≡ without_req req s.parked → Skips (IsPassed s) (waiting s hand) (waiting t (without_made req hand))
end_skips s t run hand req end made parked =
    subst (λ (l : List ReqId). Skips (IsPassed s) (waiting s hand) (held_back t.requests l ++ without_made req hand)) (sym parked)
    (skips_append (IsPassed s) (held_back s.requests s.parked) (held_back t.requests (without_req req s.parked)) hand (without_made req hand) (held_skips (IsPassed s) s.requests t.requests s.parked req made end.held) (hand_skips (IsPassed s) req hand end.at_hand))

module _ (s : Seen) (event : ℕ) (run : Option ReqId) (hand : List Made) (req : ReqId) (end : IsToEnd run hand s req) where
  ended_made : (ending : Ending) (r : ReqId) → made_in (ended s.requests req ending) r ≡ made_in s.requests r
  ended_made ending r = on_alike made_of s.requests req (λ q. record q { ending = Some ending }) r (λ q. refl)

  pub refused_if : (actor : Actor) (reason : Denial) → FlowsIf hand s → FlowsIf (without_made req hand) (next s event actor (rows.Refused req reason))
  refused_if actor reason is =
      ends_if s (next s event actor (rows.Refused req reason)) hand (without_made req hand) (refused_left s event actor req reason) refl refl refl
      (end_skips s (next s event actor (rows.Refused req reason)) run hand req end (ended_made (endings.Refused reason)) refl)
      is

  pub dropped_if : (actor : Actor) (cause : Cause) → FlowsIf hand s → FlowsIf (without_made req hand) (next s event actor (rows.Dropped req cause))
  dropped_if actor cause is =
      ends_if s (next s event actor (rows.Dropped req cause)) hand (without_made req hand) (dropped_left s event actor req cause) refl refl refl
      (end_skips s (next s event actor (rows.Dropped req cause)) run hand req end (ended_made (endings.Dropped cause)) refl)
      is

pub started_if : (s : Seen) (event : ℕ) (actor : Actor) (hand : List Made) (req : ReqId) (goal : Option Step) → FlowsIf hand s → FlowsIf hand (next s event actor (rows.Started req goal))
started_if s event actor hand req goal is =
    ends_if s (next s event actor (rows.Started req goal)) hand hand (started_left s event actor req goal) refl refl refl
    (subst (λ (l : List Made). Skips (IsPassed s) (waiting s hand) (l ++ hand)) (sym (started_held s event actor req goal)) (skips_same (IsPassed s) (waiting s hand)))
    is
