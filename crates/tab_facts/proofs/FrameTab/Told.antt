-- All that holds in a tab of frames holds after a report is delivered: of what a document made, or of an order that told or discarded it.
use Rattle.std.proofs.Common.{◌≡◌, inl, ℕ, ◌+◌, Bool, true, false, ◌==◌, List, [], ◌∷◌, ◌++◌, drop, Option, Some, None, refl, sym, ap, ◌∙◌, subst, append-nil, arith}
use Rattle.std.specs.Prelude.{filter_map, option_map, slice_get, option_and_then, if◌then◌else◌}
use Rattle.std.specs.Option.{option_map_or}
use Rattle.std.proofs.lemmas.List.Elements.{filter_map-append}
use Rattle.tab_ids.specs.declared.DocId.{DocId}
use Rattle.tab_ids.specs.declared.ProcId.{ProcId}
use Rattle.tab_ids.specs.declared.ReqId.{ReqId}
use Rattle.log_model.specs.declared.job.Job.{Job}
use Rattle.log_model.specs.declared.job.Task.{Task}
use Rattle.log_model.specs.declared.job.Task.TheVariants as tasks
use Rattle.log_model.specs.declared.made.Made.{Made}
use Rattle.log_model.specs.declared.made.Report.{Report}
use Rattle.log_model.specs.declared.made.Report.TheVariants as reports
use Rattle.log_model.specs.declared.outcome.Outcome.{Outcome}
use Rattle.log_model.specs.declared.outcome.Outcome.TheVariants as outcomes
use Rattle.log_model.specs.declared.row_kind.Actor.TheVariants as actors
use Rattle.log_model.specs.declared.row_kind.RowKind.TheVariants as rows
use Rattle.log_model.specs.After.{desk_delivered, known_after}
use Rattle.log_model.specs.AfterDocuments.{documents_delivered}
use Rattle.log_model.specs.AfterPlaces.{places_delivered, kept_delivered}
use Rattle.log_model.specs.AfterRequests.{made_of_report, requests_delivered, is_held_back}
use Rattle.log_model.specs.Places.{is_moved_in}
use Rattle.log_model.specs.Seen.{Seen, Document, Desk, Asked, Place, desk_of, request_in}
use Rattle.seen_facts.specs.Coord.Leading.{orders_of_desk, held_back}
use Rattle.seen_facts.proofs.Coord.Unread.{next}
use Rattle.seen_facts.specs.Transit.Orders.{IsOutcomeOf}
use Rattle.seen_facts.specs.Each.Runs.{EachAsked, is_run, is_this}
use Rattle.seen_facts.specs.Each.Items.{Each, NoneDied}
use Rattle.seen_facts.proofs.Each.Eaches.{each_less, each_first, each_more}
use Rattle.seen_facts.proofs.Each.Died.{died_on}
use Rattle.tab_facts.specs.FrameTab.Asking.{IsPlainlyAsked, ArePlainlyAsked}
use Rattle.tab_facts.specs.FrameTab.Desks.{makes_by, makes_it, makes_sent, makes_told, IsTaskOf, IsOrderTo, IsMadeThere, IsReportTo, IsHomeDesk, AreDesks, waiting}
use Rattle.tab_facts.specs.FrameTab.Steady.{IsAskedBy}
use Rattle.tab_facts.specs.FrameTab.Whole.{IsFrameTab}
use Rattle.tab_facts.proofs.FrameTab.Goings.{all_same}
use Rattle.tab_facts.proofs.FrameTab.Desking.{desks_on, own_desk}
use Rattle.tab_facts.proofs.FrameTab.Going.{same_tooks}
use Rattle.tab_facts.proofs.FrameTab.Leaving.{makes_at, untold, leaves_tab, same_ascends, same_continues, same_unmade}
use Rattle.tab_facts.proofs.FrameTab.Skips.{Skips, skips_same, skips_append, ascends_skip, none_skip, continues_skip, IsNoEntry, made_in}

pub nothing_more : (n : ℕ) → 0 + n ≡ n
nothing_more n = omega arith

-- a list that has a first item
pub first_of : {A : Type 0} (xs : List A) (x : A) → slice_get xs 0 ≡ Some x → xs ≡ x ∷ drop 1 xs
first_of [] x first = cc
first_of (y ∷ xs) x first = (let same : y ≡ x = cc in ap (λ z. z ∷ xs) same)

module _ (home : ProcId) (run : Option ReqId) (s : Seen) (event : ℕ) (tab : IsFrameTab home run [] s) (report : Report) (first : slice_get (desk_of s home).reports 0 ≡ Some report) where
  abbrev pub delivered : Seen
  delivered = next s event actors.Coord (rows.Delivered home)

  all_reports : (desk_of s home).reports ≡ report ∷ drop 1 (desk_of s home).reports
  all_reports = first_of (desk_of s home).reports report first

  pub own_delivered : desk_of delivered home ≡ desk_delivered (desk_of s home)
  own_delivered = own_desk home s delivered desk_delivered refl (λ desk. refl)

  -- the report tells of no death
  abbrev pub IsNoDeath : Report → Type 0
  IsNoDeath (reports.Died death) = ⊥
  IsNoDeath _ = Unit {0}

  no_death : IsReportTo s.documents s.places report → IsNoDeath report
  no_death is = by_report report is
    where
      by_report : (r : Report) → IsReportTo s.documents s.places r → IsNoDeath r
      by_report (reports.Done job outcome made) is_ = tt
      by_report (reports.Made made) is_ = tt
      by_report (reports.Died death) never = never

  same_known : known_after (desk_of s home).known (slice_get (desk_of s home).reports 0) ≡ (desk_of s home).known
  same_known = ap (λ (o : Option Report). known_after (desk_of s home).known o) first ∙ by_report report (no_death (each_first (IsReportTo s.documents s.places) (desk_of s home).reports report first tab.desks.own.told))
    where
      by_report : (r : Report) → IsNoDeath r → known_after (desk_of s home).known (Some r) ≡ (desk_of s home).known
      by_report (reports.Done job outcome made) is = refl
      by_report (reports.Made made) is = refl
      by_report (reports.Died death) never = absurd never

  pub delivered_died : NoneDied delivered
  delivered_died = died_on s delivered home desk_delivered refl (λ desk. refl) same_known refl tab.asked.died

  pub delivered_desk : IsHomeDesk s.documents s.places (desk_delivered (desk_of s home))
  delivered_desk =
      record { orders = tab.desks.own.orders; told = each_less (IsReportTo s.documents s.places) (desk_of s home).reports tab.desks.own.told; pokes = tab.desks.own.pokes }

  -- how many are made is told of by what waits before
  pub makes_less : (n : ℕ) (doc : DocId) → makes_told doc (report ∷ drop 1 (desk_of s home).reports) ≡ makes_told doc (drop 1 (desk_of s home).reports) → makes_at doc (desk_of delivered home) ≡ makes_at doc (desk_of s home)
  makes_less n doc same =
      ap (makes_at doc) own_delivered
      ∙ ap (λ (k : ℕ). makes_sent doc (orders_of_desk (desk_of s home)) + k) (sym same ∙ sym (ap (λ (l : List Report). makes_told doc l) all_reports))

-- ---- it tells of what a document made

module _ (home : ProcId) (run : Option ReqId) (s : Seen) (event : ℕ) (tab : IsFrameTab home run [] s) (made : Made) (first : slice_get (desk_of s home).reports 0 ≡ Some (reports.Made made)) where
  abbrev told_of : Seen
  told_of = delivered home run s event tab (reports.Made made) first

  pub made_there : IsMadeThere s.documents made
  made_there = each_first (IsReportTo s.documents s.places) (desk_of s home).reports (reports.Made made) first tab.desks.own.told

  told_requests : told_of.requests ≡ s.requests
  told_requests = ap (λ (o : Option Report). requests_delivered o s.requests) first

  told_asked : ArePlainlyAsked run told_of
  told_asked =
      record {
        each = subst (λ (l : List Asked). EachAsked IsPlainlyAsked l) (sym told_requests) tab.asked.each;
        only = subst (λ (l : List Asked). EachAsked (λ r q. is_run q ≡ is_this run r) l) (sym told_requests) tab.asked.only;
        runs = λ r e. subst (λ (l : List Asked). IsAskedBy l run) (sym told_requests) (tab.asked.runs r e);
        kept = ap (λ (o : Option Report). kept_delivered s o) first ∙ tab.asked.kept;
        died = delivered_died home run s event tab (reports.Made made) first;
      }

  told_desks : AreDesks home told_of
  told_desks =
      desks_on home s told_of desk_delivered refl (λ desk. refl)
      (subst (λ (l : List Document). IsHomeDesk l told_of.places (desk_delivered (desk_of s home))) (sym (ap (λ (o : Option Report). documents_delivered s.documents o) first))
      (subst (λ (l : List Place). IsHomeDesk s.documents l (desk_delivered (desk_of s home))) (sym (ap (λ (o : Option Report). places_delivered s o) first)) (delivered_desk home run s event tab (reports.Made made) first)))
      tab.desks

  abbrev rest : List Made
  rest = filter_map made_of_report (drop 1 (desk_of s home).reports)

  before : untold (waiting s []) (desk_of s home) ≡ (held_back s.requests s.parked ++ []) ++ made ∷ rest
  before =
      ap (λ (l : List Report). (held_back s.requests s.parked ++ []) ++ filter_map made_of_report l) (first_of (desk_of s home).reports (reports.Made made) first)

  after_ : (held : List Made) → untold held (desk_of told_of home) ≡ held ++ rest
  after_ held = ap (λ (desk : Desk). untold held desk) (own_delivered home run s event tab (reports.Made made) first)

  told_leaves : (hand_ : List Made) → untold (waiting told_of hand_) (desk_of told_of home) ≡ untold (waiting s []) (desk_of s home) → Each (IsMadeThere s.documents) (waiting told_of hand_) → IsFrameTab home run hand_ told_of
  told_leaves hand_ same waits =
      leaves_tab home run run [] hand_ s told_of
      (record {
        documents = ap (λ (o : Option Report). documents_delivered s.documents o) first;
        places = ap (λ (o : Option Report). places_delivered s o) first;
        history = refl;
        states = refl;
        entries = refl;
        initial = refl;
        stay = all_same s.requests told_of.requests told_requests;
        tooks = same_tooks s told_of (λ r. ap (λ (l : List Asked). option_map (λ (q : Asked). q.took) (request_in l r)) told_requests);
        asked = told_asked;
        desks = told_desks;
        makes = λ doc. makes_less home run s event tab (reports.Made made) first 0 doc refl;
        unmade = same_unmade (waiting s []) (waiting told_of hand_) (desk_of s home) (desk_of told_of home) same;
        waits = waits;
        ascends = same_ascends (waiting s []) (waiting told_of hand_) (desk_of s home) (desk_of told_of home) same;
        continues = λ nav place doc given there wakes has. same_continues (waiting s []) (waiting told_of hand_) (desk_of s home) (desk_of told_of home) same doc given place.epoch;
        moved = λ nav none. ap (λ (l : List Asked). is_moved_in l nav) (sym told_requests) ∙ none;
      })
      tab

  parked_is : told_of.parked ≡ (if is_held_back s made then s.parked ++ made.req ∷ [] else s.parked)
  parked_is =
      ap (λ (o : Option Report). option_map_or (λ (m : Made). if is_held_back s m then s.parked ++ m.req ∷ [] else s.parked) (option_and_then made_of_report o) s.parked) first

  move_in : (xs : List Made) (x : Made) (ys : List Made) → (xs ++ x ∷ []) ++ ys ≡ xs ++ x ∷ ys
  move_in [] x ys = refl
  move_in (y ∷ xs) x ys = ap (λ (l : List Made). y ∷ l) (move_in xs x ys)

  -- it is at hand
  pub at_hand_framed : is_held_back s made ≡ false → IsFrameTab home run (made ∷ []) told_of
  at_hand_framed free = told_leaves (made ∷ []) same waits
    where
      held_same : held_back told_of.requests told_of.parked ≡ held_back s.requests s.parked
      held_same =
          ap (λ (l : List Asked). held_back l told_of.parked) told_requests
          ∙ ap (λ (l : List ReqId). held_back s.requests l) (parked_is ∙ ap (λ (b : Bool). if b then s.parked ++ made.req ∷ [] else s.parked) free)

      same : untold (waiting told_of (made ∷ [])) (desk_of told_of home) ≡ untold (waiting s []) (desk_of s home)
      same =
          after_ (waiting told_of (made ∷ []))
          ∙ ap (λ (l : List Made). (l ++ made ∷ []) ++ rest) held_same
          ∙ move_in (held_back s.requests s.parked) made rest
          ∙ ap (λ (l : List Made). l ++ made ∷ rest) (sym (append-nil (held_back s.requests s.parked)))
          ∙ sym before

      waits : Each (IsMadeThere s.documents) (waiting told_of (made ∷ []))
      waits =
          subst (λ (l : List Made). Each (IsMadeThere s.documents) (l ++ made ∷ [])) (sym held_same ∙ refl)
          (each_more (IsMadeThere s.documents) (held_back s.requests s.parked) made (subst (λ (l : List Made). Each (IsMadeThere s.documents) l) (append-nil (held_back s.requests s.parked)) tab.waits) made_there)

  -- it is held back
  pub held_framed : is_held_back s made ≡ true → made_in s.requests made.req ≡ Some made → IsFrameTab home run [] told_of
  held_framed held its = told_leaves [] same waits
    where
      one : filter_map (made_in s.requests) (made.req ∷ []) ≡ made ∷ []
      one = rw its refl

      held_more_ : held_back told_of.requests told_of.parked ≡ held_back s.requests s.parked ++ made ∷ []
      held_more_ =
          ap (λ (l : List Asked). held_back l told_of.parked) told_requests
          ∙ ap (λ (l : List ReqId). held_back s.requests l) (parked_is ∙ ap (λ (b : Bool). if b then s.parked ++ made.req ∷ [] else s.parked) held)
          ∙ filter_map-append (made_in s.requests) s.parked (made.req ∷ [])
          ∙ ap (λ (l : List Made). held_back s.requests s.parked ++ l) one

      same : untold (waiting told_of []) (desk_of told_of home) ≡ untold (waiting s []) (desk_of s home)
      same =
          after_ (waiting told_of [])
          ∙ ap (λ (l : List Made). l ++ rest) (append-nil (held_back told_of.requests told_of.parked) ∙ held_more_)
          ∙ move_in (held_back s.requests s.parked) made rest
          ∙ ap (λ (l : List Made). l ++ made ∷ rest) (sym (append-nil (held_back s.requests s.parked)))
          ∙ sym before

      waits : Each (IsMadeThere s.documents) (waiting told_of [])
      waits =
          subst (λ (l : List Made). Each (IsMadeThere s.documents) l) (sym (append-nil (held_back told_of.requests told_of.parked) ∙ held_more_))
          (each_more (IsMadeThere s.documents) (held_back s.requests s.parked) made (subst (λ (l : List Made). Each (IsMadeThere s.documents) l) (append-nil (held_back s.requests s.parked)) tab.waits) made_there)

  -- it is a document's traversal, which joins the queue
  pub go_framed : is_held_back s made ≡ false → IsNoEntry made.what → IsFrameTab home run [] told_of
  go_framed free none =
      leaves_tab home run run [] [] s told_of
      (record {
        documents = ap (λ (o : Option Report). documents_delivered s.documents o) first;
        places = ap (λ (o : Option Report). places_delivered s o) first;
        history = refl;
        states = refl;
        entries = refl;
        initial = refl;
        stay = all_same s.requests told_of.requests told_requests;
        tooks = same_tooks s told_of (λ r. ap (λ (l : List Asked). option_map (λ (q : Asked). q.took) (request_in l r)) told_requests);
        asked = told_asked;
        desks = told_desks;
        makes = λ doc. makes_less home run s event tab (reports.Made made) first 0 doc refl;
        unmade = λ doc is. none_skip IsThis doc (untold (waiting s []) (desk_of s home)) (untold (waiting told_of []) (desk_of told_of home)) skips is;
        waits = subst (λ (l : List Made). Each (IsMadeThere s.documents) l) (sym held_same) tab.waits;
        ascends = λ doc from to is. ascends_skip IsThis doc to (untold (waiting s []) (desk_of s home)) (untold (waiting told_of []) (desk_of told_of home)) skips from is;
        continues = λ nav place doc given there wakes has is. continues_skip IsThis doc place.epoch (λ x it under. it) (untold (waiting s []) (desk_of s home)) (untold (waiting told_of []) (desk_of told_of home)) skips given is;
        moved = λ nav none_. ap (λ (l : List Asked). is_moved_in l nav) (sym told_requests) ∙ none_;
      })
      tab
    where
      IsThis : Made → Type 0
      IsThis x = IsNoEntry x.what

      held_same : waiting told_of [] ≡ waiting s []
      held_same =
          ap (λ (l : List Asked). held_back l told_of.parked ++ []) told_requests
          ∙ ap (λ (l : List ReqId). held_back s.requests l ++ []) (parked_is ∙ ap (λ (b : Bool). if b then s.parked ++ made.req ∷ [] else s.parked) free)

      skips : Skips IsThis (untold (waiting s []) (desk_of s home)) (untold (waiting told_of []) (desk_of told_of home))
      skips =
          subst (λ (l : List Made). Skips IsThis l (untold (waiting told_of []) (desk_of told_of home))) (sym before)
          (subst (λ (l : List Made). Skips IsThis ((held_back s.requests s.parked ++ []) ++ made ∷ rest) l) (sym (after_ (waiting told_of []) ∙ ap (λ (l : List Made). l ++ rest) held_same))
          (skips_append IsThis (waiting s []) (waiting s []) (made ∷ rest) rest (skips_same IsThis (waiting s [])) (inl (none, skips_same IsThis rest))))

-- ---- it tells of a finished order

-- the order makes, shows, tells or discards a document
abbrev pub IsFine : Task → Type 0
IsFine (tasks.Populate nav state address initial) = Unit {0}
IsFine (tasks.Activate entry epoch length index memo address) = Unit {0}
IsFine (tasks.Update length index) = Unit {0}
IsFine tasks.Discard = Unit {0}
IsFine _ = ⊥

pub fine_of : {documents : List Document} {places : List Place} {job : Job} → IsOrderTo documents places job → IsFine job.task
fine_of {documents} {places} {job} is = by_task job.task is.task
  where
    by_task : (task : Task) → IsTaskOf is.document is.place task → IsFine task
    by_task (tasks.Populate nav state address initial) its = tt
    by_task (tasks.Activate entry epoch length index memo address) its = tt
    by_task (tasks.Update length index) its = tt
    by_task tasks.Discard its = tt
    by_task tasks.Freeze never = never
    by_task (tasks.Ask slot cause) never = never
    by_task (tasks.DoFragment req mode address) never = never

abbrev pub IsTelling : Task → Type 0
IsTelling (tasks.Update length index) = Unit {0}
IsTelling tasks.Discard = Unit {0}
IsTelling _ = ⊥

module _ (home : ProcId) (run : Option ReqId) (s : Seen) (event : ℕ) (tab : IsFrameTab home run [] s) (job : Job) (outcome : Outcome) (first : slice_get (desk_of s home).reports 0 ≡ Some (reports.Done job outcome None)) where
  abbrev report_ : Report
  report_ = reports.Done job outcome None

  abbrev pub done_of : Seen
  done_of = delivered home run s event tab report_ first

  pub its_outcome : IsOutcomeOf job.task outcome
  its_outcome = (each_first (IsReportTo s.documents s.places) (desk_of s home).reports report_ first tab.desks.own.told).1

  pub done_parked : done_of.parked ≡ s.parked
  done_parked = ap (λ (o : Option Report). option_map_or (λ (m : Made). if is_held_back s m then s.parked ++ m.req ∷ [] else s.parked) (option_and_then made_of_report o) s.parked) first

  pub done_untold : (hand : List Made) → held_back done_of.requests done_of.parked ≡ held_back s.requests s.parked → untold (waiting done_of hand) (desk_of done_of home) ≡ untold (waiting s hand) (desk_of s home)
  done_untold hand held =
      ap (λ (desk : Desk). untold (waiting done_of hand) desk) (own_delivered home run s event tab report_ first)
      ∙ ap (λ (l : List Made). (l ++ hand) ++ filter_map made_of_report (drop 1 (desk_of s home).reports)) held
      ∙ ap (λ (l : List Report). waiting s hand ++ filter_map made_of_report l) (sym (first_of (desk_of s home).reports report_ first))

  -- nobody is asked, so that the requests stay
  pub done_requests : done_of.requests ≡ s.requests
  done_requests = ap (λ (o : Option Report). requests_delivered o s.requests) first ∙ by_task job.task outcome its_fine its_outcome
    where
      its_fine : IsFine job.task
      its_fine = fine_of (each_first (IsReportTo s.documents s.places) (desk_of s home).reports report_ first tab.desks.own.told).0

      by_task : (task : Task) (u : Outcome) → IsFine task → IsOutcomeOf task u → requests_delivered (Some (reports.Done job u None)) s.requests ≡ s.requests
      by_task (tasks.Populate nav state address initial) (outcomes.Populated slot) fine is = refl
      by_task (tasks.Activate entry epoch long at memo address) outcomes.Activated fine is = refl
      by_task (tasks.Update long at) outcomes.Updated fine is = refl
      by_task tasks.Discard outcomes.Discarded fine is = refl
      by_task tasks.Freeze u never is = absurd never
      by_task (tasks.Ask slot cause) u never is = absurd never
      by_task (tasks.DoFragment req mode address) u never is = absurd never
      by_task _ _ fine is = elim is [ ]

  pub done_asked : ArePlainlyAsked run done_of
  done_asked =
      record {
        each = subst (λ (l : List Asked). EachAsked IsPlainlyAsked l) (sym done_requests) tab.asked.each;
        only = subst (λ (l : List Asked). EachAsked (λ r q. is_run q ≡ is_this run r) l) (sym done_requests) tab.asked.only;
        runs = λ r e. subst (λ (l : List Asked). IsAskedBy l run) (sym done_requests) (tab.asked.runs r e);
        kept = ap (λ (o : Option Report). kept_delivered s o) first ∙ tab.asked.kept;
        died = delivered_died home run s event tab report_ first;
      }

  done_held : held_back done_of.requests done_of.parked ≡ held_back s.requests s.parked
  done_held = ap (λ (l : List Asked). held_back l done_of.parked) done_requests ∙ ap (λ (l : List ReqId). held_back s.requests l) done_parked

  pub done_waiting : waiting done_of [] ≡ waiting s []
  done_waiting = ap (λ (l : List Made). l ++ []) done_held

  pub done_same : untold (waiting done_of []) (desk_of done_of home) ≡ untold (waiting s []) (desk_of s home)
  done_same = done_untold [] done_held

  module _ (tells : IsTelling job.task) where
    done_documents : done_of.documents ≡ s.documents
    done_documents = ap (λ (o : Option Report). documents_delivered s.documents o) first ∙ by_task job.task outcome tells its_outcome
      where
        by_task : (task : Task) (u : Outcome) → IsTelling task → IsOutcomeOf task u → documents_delivered s.documents (Some (reports.Done job u None)) ≡ s.documents
        by_task (tasks.Update long at) outcomes.Updated fine is = refl
        by_task tasks.Discard outcomes.Discarded fine is = refl
        by_task (tasks.Populate nav state address initial) u never is = absurd never
        by_task (tasks.Activate entry epoch long at memo address) u never is = absurd never
        by_task tasks.Freeze u never is = absurd never
        by_task (tasks.Ask slot cause) u never is = absurd never
        by_task (tasks.DoFragment req mode address) u never is = absurd never
        by_task _ _ fine is = elim is [ ]

    done_places : done_of.places ≡ s.places
    done_places = ap (λ (o : Option Report). places_delivered s o) first ∙ by_task job.task tells refl
      where
        by_task : (task : Task) → IsTelling task → job.task ≡ task → places_delivered s (Some (reports.Done job outcome None)) ≡ s.places
        by_task (tasks.Update long at) fine e = rw e refl
        by_task tasks.Discard fine e = rw e refl
        by_task (tasks.Populate nav state address initial) never e = absurd never
        by_task (tasks.Activate entry epoch long at memo address) never e = absurd never
        by_task tasks.Freeze never e = absurd never
        by_task (tasks.Ask slot cause) never e = absurd never
        by_task (tasks.DoFragment req mode address) never e = absurd never

    makes_none : (doc : DocId) → makes_it doc job ≡ 0
    makes_none doc = by_task (job.doc.0 == doc.0) job.task tells refl
      where
        by_task : (b : Bool) (task : Task) → IsTelling task → job.task ≡ task → makes_it doc job ≡ 0
        by_task b (tasks.Update long at) fine e = rw e (either (job.doc.0 == doc.0))
          where
            either : (c : Bool) → makes_by c (tasks.Update long at) ≡ 0
            either true = refl
            either false = refl
        by_task b tasks.Discard fine e = rw e (either (job.doc.0 == doc.0))
          where
            either : (c : Bool) → makes_by c tasks.Discard ≡ 0
            either true = refl
            either false = refl
        by_task b (tasks.Populate nav state address initial) never e = absurd never
        by_task b (tasks.Activate entry epoch long at memo address) never e = absurd never
        by_task b tasks.Freeze never e = absurd never
        by_task b (tasks.Ask slot cause) never e = absurd never
        by_task b (tasks.DoFragment req mode address) never e = absurd never

    pub told_framed : IsFrameTab home run [] done_of
    told_framed =
        leaves_tab home run run [] [] s done_of
        (record {
          documents = done_documents;
          places = done_places;
          history = refl;
          states = refl;
          entries = refl;
          initial = refl;
          stay = all_same s.requests done_of.requests done_requests;
          tooks = same_tooks s done_of (λ r. ap (λ (l : List Asked). option_map (λ (q : Asked). q.took) (request_in l r)) done_requests);
          asked = done_asked;
          desks =
              desks_on home s done_of desk_delivered refl (λ desk. refl)
              (subst (λ (l : List Document). IsHomeDesk l done_of.places (desk_delivered (desk_of s home))) (sym done_documents)
              (subst (λ (l : List Place). IsHomeDesk s.documents l (desk_delivered (desk_of s home))) (sym done_places) (delivered_desk home run s event tab report_ first)))
              tab.desks;
          makes = λ doc. makes_less home run s event tab report_ first 0 doc (ap (λ (n : ℕ). n + makes_told doc (drop 1 (desk_of s home).reports)) (makes_none doc) ∙ nothing_more (makes_told doc (drop 1 (desk_of s home).reports)));
          unmade = same_unmade (waiting s []) (waiting done_of []) (desk_of s home) (desk_of done_of home) done_same;
          waits = subst (λ (l : List Made). Each (IsMadeThere s.documents) l) (sym done_waiting) tab.waits;
          ascends = same_ascends (waiting s []) (waiting done_of []) (desk_of s home) (desk_of done_of home) done_same;
          continues = λ nav place doc given there wakes has. same_continues (waiting s []) (waiting done_of []) (desk_of s home) (desk_of done_of home) done_same doc given place.epoch;
          moved = λ nav none. ap (λ (l : List Asked). is_moved_in l nav) (sym done_requests) ∙ none;
        })
        tab
