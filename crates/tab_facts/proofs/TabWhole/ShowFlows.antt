-- A navigable is shown a document, and those below it may fall asleep: what is true between two rows of the documents of all awake navigables stays.
-- This project's own.
use Rattle.seen_facts.proofs.Coord.EachDocuments.{HadEpoch, IsOneOfEach, each_stays}
use Rattle.seen_facts.proofs.Coord.NewEpoch as anew
use Rattle.seen_facts.proofs.Coord.Shown as showns
use Rattle.seen_facts.proofs.Coord.Kept.{IsSentHome, is_mine}
use Rattle.seen_facts.proofs.Coord.Leadings.{IsOneChange, WasAwake, as_placed, one_stays}
use Rattle.seen_facts.proofs.Coord.OneDocument.{activated_leads, mailed, mailed_other}
use Rattle.seen_facts.proofs.Coord.Shown.{IsToBeShown}
use Rattle.seen_facts.proofs.Coord.Unread.{next}
use Rattle.seen_facts.proofs.Coord.Within.{sent_apart, sent_within, within_more}
use Rattle.seen_facts.specs.Coord.Epochs.{IsWithin, ShowsWithin}
use Rattle.seen_facts.specs.Coord.Leading.{coming, held_back, is_live_order, pending_view}
use Rattle.seen_facts.specs.Entry.Entries.{waiting}
use Rattle.tab_facts.proofs.FrameWhole.FlowsAlike.{IfIn, WithinHand, if_again, if_alike, if_leads, within_if}
use Rattle.tab_facts.proofs.FrameWhole.FlowsShown.{sent_waits, within_held}
use Rattle.tab_facts.specs.FrameWhole.Untold.{FlowsIf}
use Rattle.seen_facts.proofs.Hang.Forms.{nav_is}
use Rattle.log_model.proofs.Refl.{nat_eq_refl}
use Rattle.log_model.specs.After.{on_document}
use Rattle.log_model.specs.AfterDocuments.{addressed, documents_sent}
use Rattle.log_model.specs.AfterPlaces.{activated}
use Rattle.log_model.specs.AfterRequests.{requests_sent}
use Rattle.log_model.specs.History.{has_nav}
use Rattle.log_model.specs.Seen.{Document, Place, Seen, asleep, awake, desk_of, document_of, place_of}
use Rattle.log_model.specs.Views.{View}
use Rattle.log_model.specs.declared.job.Job.{Job}
use Rattle.log_model.specs.declared.job.Task.{Task}
use Rattle.log_model.specs.declared.made.Made.{Made}
use Rattle.log_model.specs.declared.row.Row.{Row}
use Rattle.log_model.specs.declared.row_kind.Actor.{Actor}
use Rattle.seen_laws.proofs.Keyed.{find_has}
use Rattle.std.proofs.Common.{Bool, List, None, Option, Some, [], ap, append-nil, arith, cond, false, inl, inr, length, refl, subst, sym, true, ℕ, ◌<◌, ◌==◌, ◌∙◌, ◌≡◌, ◌≤◌, ◌⊎◌}
use Rattle.std.specs.Prelude.{option_map, slice_get}
use Rattle.tab_ids.specs.declared.DocId.{DocId}
use Rattle.tab_ids.specs.declared.EntryId.{EntryId}
use Rattle.tab_ids.specs.declared.Epoch.{Epoch}
use Rattle.tab_ids.specs.declared.NavId.{NavId}
use Rattle.tab_ids.specs.declared.ProcId.{ProcId}
use Rattle.tab_facts.proofs.TabWhole.Sending.{nav_of_place, some_same}
use Rattle.seen_facts.proofs.Walk.Sleepers.{becomes, place_becomes, sleepers_of, slept, slept_same}
use Rattle.log_model.specs.declared.job.Task.TheVariants as tasks
use Rattle.log_model.specs.declared.row_kind.RowKind.TheVariants as rows

module _ (s : Seen) (event : ℕ) (actor : Actor) (hand : List Made) (job : Job) (d : Document) (entry : EntryId) (epoch : Epoch) (long at : ℕ) (memo : Option (List ℕ)) (address : List ℕ) (task : job.task ≡ tasks.Activate entry epoch long at memo address) (sent : IsSentHome s job) (found : document_of s job.doc ≡ Some d) (place : Place) (placed : place_of s d.nav ≡ Some place) (greater : place.epoch.0 < epoch.0) where
  abbrev pub shown : Seen
  shown = next s event actor (rows.Sent job)

  abbrev fall : Place → Place
  fall p = slept (sleepers_of s job.doc d.nav) job.why p

  -- ---- the places

  -- the place of the document's navigable: awake on it, given the entry, under the epoch
  record IsOwn (nav : NavId) (p : Place) : Type 0 where
    nav_is_its : nav ≡ d.nav
    status : p.status ≡ awake job.doc
    given : p.given ≡ Some entry
    epoch_is : p.epoch ≡ epoch

  -- another place: as it was, or asleep
  record IsOther (nav : NavId) (p : Place) : Type 0 where
    before : Place
    there : place_of s nav ≡ Some before
    falls : fall before ≡ p
    apart : (before.nav.0 == d.nav.0) ≡ false

  place_then : (nav : NavId) (p : Place) → place_of shown nav ≡ Some p → IsOwn nav p ⊎ IsOther nav p
  place_then nav p there = by_old (place_of s nav) refl
    where
      be : Place → Place
      be = becomes s event actor job d entry epoch long at memo address task found

      by_nav : (old : Place) → place_of s nav ≡ Some old → (b : Bool) → ((fall old).nav.0 == d.nav.0) ≡ b → be old ≡ p → IsOwn nav p ⊎ IsOther nav p
      by_nav old e true own is =
          let value : activated job entry epoch d (fall old) ≡ p = sym (ap (λ (b : Bool). let q : Place = cond b (activated job entry epoch d (fall old)) (fall old) in q) own) ∙ is in
          inl (record {
            nav_is_its = sym (nav_of_place s nav old e) ∙ sym (slept_same (sleepers_of s job.doc d.nav) job.why old).0 ∙ nav_is (fall old).nav d.nav own;
            status = ap (λ (q : Place). q.status) (sym value);
            given = ap (λ (q : Place). q.given) (sym value);
            epoch_is = ap (λ (q : Place). q.epoch) (sym value);
          })
      by_nav old e false other is =
          let value : fall old ≡ p = sym (ap (λ (b : Bool). let q : Place = cond b (activated job entry epoch d (fall old)) (fall old) in q) other) ∙ is in
          inr (record { before = old; there = e; falls = value; apart = ap (λ (n : NavId). n.0 == d.nav.0) (sym (slept_same (sleepers_of s job.doc d.nav) job.why old).0) ∙ other })

      by_old : (o : Option Place) → place_of s nav ≡ o → IsOwn nav p ⊎ IsOther nav p
      by_old None e =
          let no_ : None ≡ Some p = sym (place_becomes s event actor job d entry epoch long at memo address task found nav ∙ ap (λ (o : Option Place). option_map be o) e) ∙ there in absurd cc
      by_old (Some old) e =
          by_nav old e ((fall old).nav.0 == d.nav.0) refl (some_same (sym (place_becomes s event actor job d entry epoch long at memo address task found nav ∙ ap (λ (o : Option Place). option_map be o) e) ∙ there))

  -- one of the others that is awake was so
  other_was : (nav : NavId) (p : Place) (doc : DocId) → IsOther nav p → p.status ≡ awake doc → place_of s nav ≡ Some p
  other_was nav p doc other wakes =
      by_sleep (has_nav (sleepers_of s job.doc d.nav) other.before.nav) other.falls
    where
      by_sleep : (b : Bool) → (let q : Place = cond b (record other.before { status = asleep; why = job.why }) other.before in q) ≡ p → place_of s nav ≡ Some p
      by_sleep true is =
          let no_ : asleep ≡ awake doc = ap (λ (q : Place). q.status) is ∙ wakes in absurd cc
      by_sleep false is = other.there ∙ ap (λ (q : Place). Some q) is

  other_epoch : (nav : NavId) (p : Place) (other : IsOther nav p) → other.before.epoch ≡ p.epoch
  other_epoch nav p other =
      by_sleep (has_nav (sleepers_of s job.doc d.nav) other.before.nav) other.falls
    where
      by_sleep : (b : Bool) → (let q : Place = cond b (record other.before { status = asleep; why = job.why }) other.before in q) ≡ p → other.before.epoch ≡ p.epoch
      by_sleep true is = ap (λ (q : Place). q.epoch) is
      by_sleep false is = ap (λ (q : Place). q.epoch) is

  others_stood : (nav : NavId) (p : Place) (doc : DocId) → place_of shown nav ≡ Some p → p.status ≡ awake doc → (job.doc.0 == doc.0) ≡ false → WasAwake s nav p
  others_stood nav p doc there wakes apart = by_case (place_then nav p there)
    where
      awake_same : (a b : DocId) → awake a ≡ awake b → a ≡ b
      awake_same a b e = cc

      by_case : IsOwn nav p ⊎ IsOther nav p → WasAwake s nav p
      by_case (inl own) =
          let docs : job.doc ≡ doc = awake_same job.doc doc (sym own.status ∙ wakes) in
          let yes : (job.doc.0 == doc.0) ≡ true = rw docs (nat_eq_refl doc.0) in
          let no_ : true ≡ false = sym yes ∙ apart in absurd cc
      by_case (inr other) = as_placed s nav p (other_was nav p doc other wakes)

  had_epoch : (nav : NavId) (p : Place) → place_of shown nav ≡ Some p → HadEpoch s nav p
  had_epoch nav p there = by_case (place_then nav p there)
    where
      by_case : IsOwn nav p ⊎ IsOther nav p → HadEpoch s nav p
      by_case (inl own) =
          record {
            before = place;
            there = ap (λ (n : NavId). place_of s n) own.nav_is_its ∙ placed;
            rises = subst (λ (k : Epoch). place.epoch.0 ≤ k.0) (sym own.epoch_is) (omega (arith, greater));
          }
      by_case (inr other) =
          record {
            before = other.before;
            there = other.there;
            rises = subst (λ (k : Epoch). other.before.epoch.0 ≤ k.0) (other_epoch nav p other) (omega arith);
          }

  -- ---- the documents

  documents_are : shown.documents ≡ on_document job.doc (addressed job.task) s.documents
  documents_are =
      ap (λ (t : Task). documents_sent s job t) task ∙ ap (λ (t : Task). on_document job.doc (addressed t) s.documents) (sym task)

  mine : is_live_order d.nr (length (desk_of s job.proc).killed) job ≡ true
  mine =
      is_mine d.nr (length (desk_of s job.proc).killed) job (sym (find_has (λ (x : Document). x.nr.0) job.doc.0 s.documents d found)) sent.lives

  module _ (flows : FlowsIf hand s) where
    within_here : IsWithin (waiting s hand) (desk_of s job.proc) d place.epoch.0
    within_here =
        subst (λ (p : ProcId). IsWithin (waiting s hand) (desk_of s p) d place.epoch.0) (sent.home d found) (flows.within job.doc d place found placed)

    -- nothing is coming under the new epoch
    pub none_coming : coming (waiting s hand) (desk_of s job.proc) d.nr epoch ≡ []
    none_coming = anew.nothing_comes place.epoch.0 epoch greater (waiting s hand) (desk_of s job.proc) d within_here

    module _ (view : View) (pending : pending_view d (desk_of s job.proc) ≡ Some view) (fields : (i : ℕ) (row : Row) → slice_get s.history.rows i ≡ Some row → row.entry ≡ entry → (row.address ≡ address) × (row.memo ≡ memo)) where
      to_be_shown : IsToBeShown s job d view entry epoch memo address
      to_be_shown =
          record {
            there = found;
            pending = pending;
            none = anew.nothing_comes place.epoch.0 epoch greater (held_back s.requests s.parked) (desk_of s job.proc) d (within_held (held_back s.requests s.parked) hand (desk_of s job.proc) d place.epoch.0 within_here);
            shown = fields;
          }

      held_same : held_back (requests_sent s job job.task s.requests) s.parked ≡ held_back s.requests s.parked
      held_same =
          sym (append-nil (held_back (requests_sent s job job.task s.requests) s.parked)) ∙ sent_waits s event actor [] job ∙ append-nil (held_back s.requests s.parked)

      own : (nav : NavId) (p : Place) (old : Document) → place_of shown nav ≡ Some p → p.status ≡ awake job.doc → document_of s job.doc ≡ Some old → IfIn hand s (mailed job (desk_of s job.proc)) (addressed job.task old) p.given p.epoch
      own nav p old there wakes at_ = by_case (place_then nav p there)
        where
          same_d : d ≡ old
          same_d = some_same (sym found ∙ at_)

          here : IfIn hand s (mailed job (desk_of s job.proc)) (addressed job.task d) (Some entry) epoch
          here has =
              if_leads s.history.rows (waiting s hand) (mailed job (desk_of s job.proc)) (addressed job.task d) (Some entry) epoch
              (activated_leads s.history.rows (waiting s hand) (desk_of s job.proc) d job view entry epoch long at memo address task mine pending none_coming fields)

          by_case : IsOwn nav p ⊎ IsOther nav p → IfIn hand s (mailed job (desk_of s job.proc)) (addressed job.task old) p.given p.epoch
          by_case (inl its) =
              subst (λ (given : Option EntryId). IfIn hand s (mailed job (desk_of s job.proc)) (addressed job.task old) given p.epoch) (sym its.given)
              (subst (λ (k : Epoch). IfIn hand s (mailed job (desk_of s job.proc)) (addressed job.task old) (Some entry) k) (sym its.epoch_is)
              (subst (λ (x : Document). IfIn hand s (mailed job (desk_of s job.proc)) (addressed job.task x) (Some entry) epoch) same_d here))
          by_case (inr other) =
              let number : d.nav.0 ≡ nav.0 = flows.whose nav p job.doc d (other_was nav p job.doc other wakes) wakes found in
              let yes : (other.before.nav.0 == d.nav.0) ≡ true = ap (λ (n : NavId). n.0 == d.nav.0) (nav_of_place s nav other.before other.there) ∙ ap (λ (n : ℕ). n == d.nav.0) (sym number) ∙ nat_eq_refl d.nav.0 in
              let no_ : true ≡ false = sym yes ∙ other.apart in absurd cc

      leads_change : IsOneChange (IfIn hand s) s shown job.proc (mailed job) job.doc (addressed job.task)
      leads_change =
          record {
            desks = refl;
            documents = documents_are;
            keeps_proc = λ desk. refl;
            keeps_number = λ x. refl;
            stays = λ x. refl;
            home = sent.home;
            own = own;
            others = others_stood;
            other = λ x given under apart leads has. if_alike s.history.rows (waiting s hand) (desk_of s job.proc) (mailed job (desk_of s job.proc)) x x given under (mailed_other (waiting s hand) (desk_of s job.proc) job x under apart) (leads has);
          }

      shows : (old : Document) (p : Place) → document_of s job.doc ≡ Some old → place_of shown old.nav ≡ Some p → ShowsWithin p.epoch.0 job.task
      shows old p there at_ = by_case (place_then old.nav p at_)
        where
          same : d ≡ old
          same = some_same (sym found ∙ there)

          by_case : IsOwn old.nav p ⊎ IsOther old.nav p → ShowsWithin p.epoch.0 job.task
          by_case (inl its) =
              subst (ShowsWithin p.epoch.0) (sym task) (subst (λ (k : Epoch). epoch.0 ≤ k.0) (sym its.epoch_is) (omega arith))
          by_case (inr other) =
              let navs : other.before.nav ≡ d.nav = nav_of_place s old.nav other.before other.there ∙ ap (λ (x : Document). x.nav) (sym same) in
              let yes : (other.before.nav.0 == d.nav.0) ≡ true = ap (λ (n : NavId). n.0 == d.nav.0) navs ∙ nat_eq_refl d.nav.0 in
              let no_ : true ≡ false = sym yes ∙ other.apart in absurd cc

      within_change : IsOneOfEach (WithinHand hand s) s shown job.proc (mailed job) job.doc (addressed job.task)
      within_change =
          record {
            desks = refl;
            documents = documents_are;
            keeps_proc = λ desk. refl;
            keeps_number = λ x. refl;
            stays = λ x. refl;
            stays_in = λ x. refl;
            had = had_epoch;
            grows = λ desk x m n more is. within_more (waiting s hand) desk x m n more is;
            home = sent.home;
            own = λ old p there at_ is. sent_within (waiting s hand) (desk_of s job.proc) old job p.epoch.0 (shows old p there at_) (is_mine old.nr (length (desk_of s job.proc).killed) job (sym (find_has (λ (x : Document). x.nr.0) job.doc.0 s.documents old there)) sent.lives) is;
            other = λ x bound apart is. sent_apart (waiting s hand) (desk_of s job.proc) x job bound apart is;
          }

      pub show_if : FlowsIf hand shown
      show_if =
          record {
            leads = if_again s shown hand hand refl (sent_waits s event actor hand job) (one_stays (IfIn hand s) s shown job.proc (mailed job) job.doc (addressed job.task) leads_change flows.leads);
            whose = showns.whose_shown s event actor job d view entry epoch long at memo address task sent to_be_shown flows.whose held_same;
            reaches = showns.show_reaches s event actor job d view entry epoch long at memo address task sent to_be_shown flows.whose held_same (anew.no_view place.epoch.0 epoch greater (waiting s hand) (desk_of s job.proc) d within_here) (anew.no_order place.epoch.0 epoch greater (waiting s hand) (desk_of s job.proc) d within_here) flows.reaches;
            within = within_if s shown hand hand (sent_waits s event actor hand job) (each_stays (WithinHand hand s) s shown job.proc (mailed job) job.doc (addressed job.task) within_change flows.within);
          }
