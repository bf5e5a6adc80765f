-- Nobody was asked so far: so it is once an event's own row was logged, and over rows more that ask nobody.
use Rattle.tab_stands.proofs.Checked.{unasked_stands}
use Rattle.tab_stands.specs.Checked.{ChecksStand}
use Rattle.tab_doors.proofs.Works.{start_here}
use Rattle.seen_facts.proofs.Doc.Works.{HasNoSlot}
use Rattle.seen_laws.proofs.Desks.{desk_on_same}
use Rattle.log_model.specs.declared.outcome.Outcome.TheVariants as outcomes
use Rattle.log_model.specs.declared.made.Report.TheVariants as reports
use Rattle.std.proofs.lemmas.Bool.Decides.{nat_tests}
use Rattle.tab_ids.specs.declared.JobId.{JobId}
use Rattle.log_model.specs.declared.made.Made.{Made}
use Rattle.log_model.specs.declared.job.Order.{Order}
use Rattle.log_model.specs.declared.outcome.Outcome.{Outcome}
use Rattle.log_model.specs.declared.outcome.Denial.{Denial}
use Rattle.unasked.proofs.Works.{finished_seen, joined_seen, made_seen}
use Rattle.unasked.proofs.Ends.{refused_seen}
use Rattle.coord.specs.Standing.{IsOpenIn, nobody}
use Rattle.coord.specs.declared.coordinator.Coordinator.{Coordinator}
use Rattle.log_model.specs.After.{after, desk_finished}
use Rattle.log_model.specs.Seen.{Desk, Seen, desk_of}
use Rattle.log_model.specs.declared.job.Job.{Job}
use Rattle.log_model.specs.declared.made.Report.{Report}
use Rattle.log_model.specs.declared.request.Request.{Request}
use Rattle.log_model.specs.declared.row_kind.RowKind.{RowKind}
use Rattle.log_model.specs.declared.row_kind.RowKind.TheVariants as rows
use Rattle.seen_laws.proofs.InEvents.{log_more, now_more, now_is, goes_more, none_goes, uncut_log}
use Rattle.seen_laws.specs.InEvent.{InEvent, log_of, now_of, row_of, GoesThere, EachGoes, IsReadOff, here_of, seen_here}
use Rattle.seen_laws.specs.Unasked.{is_question, no_answer, no_question_in_hand, quiet_desk, unasked, without_slot}
use Rattle.std.proofs.Common.{Bool, List, None, Option, Some, [], ap, arith, cond, false, filter, length, not, refl, subst, sym, true, ℕ, ◌&&◌, ◌++◌, ◌+◌, ◌==◌, ◌∙◌, ◌∷◌, ◌≡◌, ◌≤◌}
use Rattle.std.specs.Prelude.{filter_map, is_some, option_and_then, option_map, slice_get}
use Rattle.tab_ids.specs.declared.DocId.{DocId}
use Rattle.tab_ids.specs.declared.ProcId.{ProcId}
use Rattle.tab_ids.specs.declared.ReqId.{ReqId}
use Rattle.tab_ids.specs.declared.StateId.{StateId}
use Rattle.tab_stands.specs.Delivering.{IsDelivery, IsSeenDelivery}
use Rattle.tab_stands.specs.Standing as tab
use Rattle.tab_stands.specs.Standing.{HasRoomFor, LastsInLog, StartsUnasked, seen_start}
use Rattle.entry_store.proofs.StepBounds.{filter-fewer}
use Rattle.unasked.proofs.Deliveries.{delivered_seen}
use Rattle.unasked.proofs.Events.{accepted_seen, evicted_seen, taken_seen}
use Rattle.unasked.proofs.Lists.{desk_map}
use Rattle.unasked.specs.Premises.{IsUnheld}

not_true : (b : Bool) → not b ≡ true → b ≡ false
not_true true never = let no : false ≡ true = never in absurd cc
not_true false is = refl

-- ---- a list that loses nothing

-- of which nothing is left out
pub all_kept : {A : Type 0} (test : A → Bool) (xs : List A) (x : A) → filter test xs ≡ xs → slice_get xs 0 ≡ Some x → test x ≡ true
all_kept test [] x same first = absurd cc
all_kept test (y ∷ ys) x same first = by_test (test y) refl same
  where
    it : y ≡ x
    it = (let at : Some y ≡ Some x = first in cc)

    by_test : (b : Bool) → test y ≡ b → cond b (y ∷ filter test ys) (filter test ys) ≡ y ∷ ys → test x ≡ true
    by_test true is kept = ap test (sym it) ∙ is
    by_test false is kept =
        let few : length (filter test ys) ≤ length ys = filter-fewer test ys in
        let long : length (filter test ys) ≡ length (y ∷ ys) = ap (λ l. length l) kept in
        absurd (omega (arith, few, long))

-- in which each stays as it is
some_fewer : {A : Type 0} (f : A → Option A) (xs : List A) → length (filter_map f xs) ≤ length xs
some_fewer f [] = omega arith
some_fewer {A = A} f (x ∷ xs) = by_one (f x) refl (some_fewer f xs)
  where
    by_one : (o : Option A) → f x ≡ o → length (filter_map f xs) ≤ length xs → length (filter_map f (x ∷ xs)) ≤ length (x ∷ xs)
    by_one None is few =
        let same : filter_map f (x ∷ xs) ≡ filter_map f xs = rw is refl in
        subst (λ (l : List A). length l ≤ length (x ∷ xs)) (sym same) (omega (arith, few))
    by_one (Some y) is few =
        let same : filter_map f (x ∷ xs) ≡ y ∷ filter_map f xs = rw is refl in
        subst (λ (l : List A). length l ≤ length (x ∷ xs)) (sym same) (omega (arith, few))

pub each_same : {A : Type 0} (f : A → Option A) (xs : List A) (x : A) → filter_map f xs ≡ xs → slice_get xs 0 ≡ Some x → f x ≡ Some x
each_same f [] x same first = absurd cc
each_same {A = A} f (y ∷ ys) x same first = by_one (f y) refl
  where
    it : y ≡ x
    it = (let at : Some y ≡ Some x = first in cc)

    by_one : (o : Option A) → f y ≡ o → f x ≡ Some x
    by_one None is =
        let none : filter_map f (y ∷ ys) ≡ filter_map f ys = rw is refl in
        let few : length (filter_map f ys) ≤ length ys = some_fewer f ys in
        let long : length (filter_map f ys) ≡ length (y ∷ ys) = ap (λ (l : List A). length l) (sym none ∙ same) in
        absurd (omega (arith, few, long))
    by_one (Some z) is =
        let kept : filter_map f (y ∷ ys) ≡ z ∷ filter_map f ys = rw is refl in
        let both : (z ∷ filter_map f ys) ≡ (y ∷ ys) = sym kept ∙ same in
        let one : z ≡ y = cc in
        ap f (sym it) ∙ is ∙ ap (λ (a : A). let o : Option A = Some a in o) (one ∙ it)

-- ---- nobody was asked so far

-- as the event's own row, and these, were logged
pub record IsPlain (e : InEvent) (out : List RowKind) : Type 0 where
  pub same : log_of e out ≡ now_of e out
  pub plain : unasked nobody (log_of e out) ≡ log_of e out

-- one row alone goes in the log without questions
pub one_goes : (e : InEvent) (kind : RowKind) → GoesThere e [] kind → EachGoes e [] (kind ∷ [])
one_goes e kind it = goes_more e [] [] kind (none_goes e []) it

module _ (e : InEvent) (c : Coordinator) (open_ : IsOpenIn e c) where
  abbrev s : Seen
  s = e.start

  -- as the event begins
  pub start_plain : unasked e.checking e.start ≡ e.start
  start_plain = ap (λ (checking : ReqId → Bool). unasked checking s) open_.unchecked ∙ open_.stands.plain

  -- so its tables stand for what that would have come to had nobody been asked
  pub seen_stands : tab.StandsFor tab.none_in_check (seen_start e) c.tables c.queue c.blame.entries
  seen_stands =
      subst (λ (x : Seen). tab.StandsFor tab.none_in_check x c.tables c.queue c.blame.entries) (sym start_plain) open_.stands.stands

  pub seen_room : HasRoomFor (seen_start e)
  seen_room = subst HasRoomFor (sym start_plain) open_.room

  pub start_lasts : LastsInLog e.checking c.tables.asking e.start
  start_lasts = subst (λ (checking : ReqId → Bool). LastsInLog checking c.tables.asking e.start) (sym open_.unchecked) open_.stands.lasts

  -- the request isn't in a check
  pub off : (req : ReqId) → e.checking req ≡ false
  off req = ap (λ (checking : ReqId → Bool). checking req) open_.unchecked

  -- the table of checks, which has none, stands for the log
  pub start_asks : ChecksStand e.checking e.start c.tables.checks
  start_asks = unasked_stands e.checking e.start c.tables.checks off start_plain start_lasts.checks open_.stands.unchecked

  -- a row that asks nobody
  module _ (kind : RowKind) (own : e.own ≡ kind) (read : unasked e.checking (after s (row_of e kind)) ≡ after (unasked e.checking s) (row_of e kind)) where
    read_own : unasked e.checking (log_of e []) ≡ log_of e []
    read_own =
        subst (λ (x : Seen). unasked e.checking x ≡ x) (sym (uncut_log e open_.uncut))
        (subst (λ (k : RowKind). unasked e.checking (after s (row_of e k)) ≡ after s (row_of e k)) (sym own)
        (read ∙ ap (λ (x : Seen). after x (row_of e kind)) start_plain))

    pub plain_own : IsPlain e []
    plain_own =
        record {
          same = sym (now_is e [] ∙ read_own);
          plain = ap (λ (checking : ReqId → Bool). unasked checking (log_of e [])) (sym open_.unchecked) ∙ read_own;
        }

    begins : seen_here e [] ≡ here_of e []
    begins = λ i. record (here_of e []) { start = (start_plain ∙ sym (start_here e [])) i; now = (now_is e [] ∙ read_own) i }

    pub aside_own : StartsUnasked e
    aside_own = record { uncut = open_.uncut; undue = open_.undue; unchecked = off; begins = begins; plain = plain_own.same }

  -- one more
  pub plain_more : (out : List RowKind) (kind : RowKind) → IsReadOff e out kind → IsPlain e out → IsPlain e (out ++ kind ∷ [])
  plain_more out kind read was =
      record {
        same = log_more e out kind ∙ ap (λ (x : Seen). after x (row_of e kind)) was.same ∙ sym (now_more e out kind read);
        plain =
            ap (λ (checking : ReqId → Bool). unasked checking (log_of e (out ++ kind ∷ []))) (sym open_.unchecked)
            ∙ ap (λ (x : Seen). unasked e.checking x) (log_more e out kind)
            ∙ read
            ∙ ap (λ (x : Seen). after x (row_of e kind)) (ap (λ (checking : ReqId → Bool). unasked checking (log_of e out)) open_.unchecked ∙ was.plain)
            ∙ sym (log_more e out kind);
      }

  -- ---- an event's own row

  module _ (req : ReqId) (doc : Option DocId) (what : Request) (own : e.own ≡ rows.Accepted req doc what) where
    pub accepted_plain : IsPlain e []
    accepted_plain = plain_own (rows.Accepted req doc what) own (accepted_seen e.checking s e.event e.actor req doc what)

    pub accepted_aside : StartsUnasked e
    accepted_aside = aside_own (rows.Accepted req doc what) own (accepted_seen e.checking s e.event e.actor req doc what)

  pub evicted_aside : (state : StateId) → e.own ≡ rows.Evicted state → StartsUnasked e
  evicted_aside state own = aside_own (rows.Evicted state) own (evicted_seen e.checking s e.event e.actor state)

  -- the desk of a process asks nobody
  pub desk_plain : (proc : ProcId) → quiet_desk (desk_of s proc) ≡ desk_of s proc
  desk_plain proc = sym (desk_map s.desks proc) ∙ ap (λ (x : Seen). desk_of x proc) start_plain

  module _ (proc : ProcId) (report : Report) (delivery : IsDelivery e proc report) where
    -- the report is no answer
    pub no_answer_told : no_answer report ≡ Some report
    no_answer_told =
        each_same no_answer (desk_of s proc).reports report (ap (λ (desk : Desk). desk.reports) (desk_plain proc)) delivery.first

    unheld : IsUnheld e.checking s
    unheld q runs checks = absurd (let never : false ≡ true = sym (off q.nr) ∙ checks in cc)

    read_delivered : unasked e.checking (after s (row_of e (rows.Delivered proc))) ≡ after (unasked e.checking s) (row_of e (rows.Delivered proc))
    read_delivered =
        delivered_seen e.checking s e.event e.actor proc report report delivery.first no_answer_told unheld

    pub seen_delivery : IsSeenDelivery e proc report
    seen_delivery =
        record {
          by_coord = delivery.by_coord;
          own = delivery.own;
          first = subst (λ (x : Seen). slice_get (desk_of x proc).reports 0 ≡ Some report) (sym start_plain) delivery.first;
          real = report;
          real_first = delivery.first;
          quiet = no_answer_told;
          unheld = unheld;
        }

    pub delivered_plain : IsPlain e []
    delivered_plain = plain_own (rows.Delivered proc) delivery.own read_delivered

    pub delivered_aside : StartsUnasked e
    delivered_aside = aside_own (rows.Delivered proc) delivery.own read_delivered

  -- a row of a process

  pub refused_plain : (req : ReqId) (reason : Denial) → e.own ≡ rows.Refused req reason → IsPlain e []
  refused_plain req reason own =
      plain_own (rows.Refused req reason) own (refused_seen e.checking s e.event e.actor req reason)

  -- what a document makes of a poke
  pub made_plain : (proc : ProcId) (made : Made) → e.event ≡ s.events → e.own ≡ rows.Made proc made → IsPlain e []
  made_plain proc made event own =
      plain_own (rows.Made proc made) own (made_seen e.checking s e.event e.actor proc made (ap (λ (b : Bool). b && is_some s.just_finished) apart))
    where
      apart : (s.events == (e.event + 1)) ≡ false
      apart = grind (arith, nat_tests, event)

  -- an order that waits first asks nobody
  pub mail_asks : (proc : ProcId) (job : Job) → slice_get (desk_of s proc).mail 0 ≡ Some job → is_question job.task ≡ false
  mail_asks proc job first =
      not_true (is_question job.task) (all_kept (λ (x : Job). not (is_question x.task)) (desk_of s proc).mail job (ap (λ (desk : Desk). desk.mail) (desk_plain proc)) first)

  -- it is taken up
  pub taken_plain : (proc : ProcId) (nr : JobId) (live dirty : Bool) (job : Job) → slice_get (desk_of s proc).mail 0 ≡ Some job → e.own ≡ rows.Taken proc nr live dirty → IsPlain e []
  taken_plain proc nr live dirty job first own =
      plain_own (rows.Taken proc nr live dirty) own (taken_seen e.checking s e.event e.actor proc nr live dirty job first (mail_asks proc job first))

  -- the order in hand asks nobody
  pub hand_asks : (proc : ProcId) (order : Order) → (desk_of s proc).in_hand ≡ Some order → is_question order.job.task ≡ false
  hand_asks proc order hand = by_test (is_question order.job.task) refl
    where
      kept : option_and_then no_question_in_hand (Some order) ≡ Some order
      kept =
          ap (λ (o : Option Order). option_and_then no_question_in_hand o) (sym hand)
          ∙ ap (λ (desk : Desk). desk.in_hand) (desk_plain proc)
          ∙ hand

      by_test : (b : Bool) → is_question order.job.task ≡ b → is_question order.job.task ≡ false
      by_test false is = is
      by_test true is = (let never : None ≡ Some order = ap (λ (b : Bool). let o : Option Order = cond b None (Some order) in o) (sym is) ∙ kept in absurd cc)

  -- one is finished, which finds no handler
  module _ (proc : ProcId) (order : Order) (outcome : Outcome) (hand : (desk_of s proc).in_hand ≡ Some order) (bare : HasNoSlot outcome) (own : e.own ≡ rows.Finished proc order.job.nr outcome) where
    unslotted : (x : Outcome) → HasNoSlot x → without_slot x ≡ x
    unslotted (outcomes.Populated slot) none = ap (λ (o : Option ℕ). let x : Outcome = outcomes.Populated o in x) (sym none)
    unslotted outcomes.Activated none = refl
    unslotted outcomes.Updated none = refl
    unslotted outcomes.Frozen none = refl
    unslotted outcomes.Discarded none = refl
    unslotted outcomes.Fragmented none = refl
    unslotted (outcomes.Asked verdict) none = refl

    pub finished_plain : IsPlain e []
    finished_plain =
        plain_own (rows.Finished proc order.job.nr outcome) own
        (finished_seen e.checking s e.event e.actor proc order.job.nr outcome order hand (hand_asks proc order hand)
        ∙ ap (λ (x : Outcome). after (unasked e.checking s) (row_of e (rows.Finished proc order.job.nr x))) (unslotted outcome bare))

    -- and its document makes something of it at once
    pub joined_goes : (made : Made) → GoesThere e [] (rows.Made proc made)
    joined_goes made =
        record {
          seen = refl;
          read = joined_seen e.checking (log_of e []) e.event e.actor proc made (desk_of s proc).reports order.job outcome None (ap (λ (x : Seen). x.events) (uncut_log e open_.uncut))
              (ap (λ (x : Seen). x.just_finished) (uncut_log e open_.uncut) ∙ ap (λ (k : RowKind). (after s (row_of e k)).just_finished) own ∙ ap (λ (o : Option Order). option_map (λ (x : Order). x.job) o) hand)
              (ap (λ (x : Seen). (desk_of x proc).reports) (uncut_log e open_.uncut) ∙ ap (λ (k : RowKind). (desk_of (after s (row_of e k)) proc).reports) own ∙ reports_then)
              (hand_asks proc order hand);
        }
      where
        reports_then : (desk_of (after s (row_of e (rows.Finished proc order.job.nr outcome))) proc).reports ≡ (desk_of s proc).reports ++ reports.Done order.job outcome None ∷ []
        reports_then =
            ap (λ (desk : Desk). desk.reports) (desk_on_same (desk_finished outcome) s.desks proc (λ desk. refl))
            ∙ ap (λ (o : Option Order). (desk_finished outcome (record (desk_of s proc) { in_hand = o })).reports) hand

    pub joined_plain : (made : Made) → IsPlain e (rows.Made proc made ∷ [])
    joined_plain made = plain_more [] (rows.Made proc made) (joined_goes made).read finished_plain
