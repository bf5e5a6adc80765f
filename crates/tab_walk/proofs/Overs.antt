-- What holds over orders that freeze or discard documents, one after the other.
use Rattle.seen_laws.specs.Unasked.{is_question}
use Rattle.tab_doors.proofs.PassedOn.{sent_goes}
use Rattle.tab_passes.proofs.SetOuts.{KeepBegun, kept_begun, sent_begun}
use Rattle.tab_facts.proofs.Calm.Loads.{loads_sent}
use Rattle.tab_facts.proofs.Calm.Sents.{DiscardsNone}
use Rattle.tab_facts.specs.Calm.Loads.{LoadsHaveDocuments}
use Rattle.seen_facts.specs.Hang.Members.{Has}
use Rattle.row_facts.proofs.Left.Rows.{were_shown}
use Rattle.row_facts.specs.Left.Left.{WereShown}
use Rattle.seen_facts.proofs.Load.Rows.{look_blind}
use Rattle.seen_facts.specs.Load.Loading.{look, look_of}
use Rattle.log_model.specs.After.{after}
use Rattle.log_model.specs.AfterDocuments.{addressed, documents_sent}
use Rattle.log_model.specs.AfterPlaces.{sleepers_with}
use Rattle.log_model.specs.Checks.{may_go_on}
use Rattle.log_model.specs.History.{has_nav}
use Rattle.log_model.specs.Seen.{Asked, Document, Place, Seen, asleep, request_of}
use Rattle.log_model.specs.declared.job.Job.{Job}
use Rattle.log_model.specs.declared.job.Task.{Task}
use Rattle.log_model.specs.declared.job.Why.{Why}
use Rattle.log_model.specs.declared.row_kind.RowKind.{RowKind}
use Rattle.seen_facts.proofs.Mover.Orders.{PutsToSleep}
use Rattle.seen_facts.specs.Mover.Movers.{IsMovedBy}
use Rattle.row_facts.proofs.Owed.Requests.{AsksNone}
use Rattle.seen_facts.proofs.Request.Readers.{sent_reads}
use Rattle.seen_laws.proofs.InEvents.{now_step, first_goes, rest_goes, since_goes}
use Rattle.seen_laws.specs.InEvent.{InEvent, now_of, row_of, GoesThere, EachGoes}
use Rattle.std.proofs.Common.{List, Option, Some, [], ap, append-nil, append_assoc, cond, false, inl, inr, map, refl, subst, sym, true, Bool, None, ◌==◌, ◌++◌, ◌∙◌, ◌∷◌, ◌≡◌}
use Rattle.std.specs.List.{list_any}
use Rattle.std.specs.Prelude.{option_map}
use Rattle.tab_doors.proofs.Sights.{sights_same, unseen_at}
use Rattle.tab_doors.specs.Look.{sight}
use Rattle.tab_evicts.specs.Evicting.{HasOnlyDiscarded, NoLoadBelow}
use Rattle.tab_ids.specs.declared.DocId.{DocId}
use Rattle.tab_ids.specs.declared.NavId.{NavId}
use Rattle.tab_ids.specs.declared.ReqId.{ReqId}
use Rattle.tab_ids.specs.declared.StateId.{StateId}
use Rattle.tab_moves.proofs.Sleeps.{WasSlept, was_slept}
pub use Rattle.tab_moves.proofs.PassedOn.{only_as}
use Rattle.tab_moves.proofs.Frees.{HasOnlyFrozen, IsFreezeOf}
use Rattle.tab_moves.specs.Moving.{MayCause}
use Rattle.tab_moves.specs.PassedOn.{HasOnly}
use Rattle.seen_facts.proofs.Walk.Sleepers.{slept}
use Rattle.row_facts.proofs.WalkRows.Moved.{sent_moved}
use Rattle.log_model.specs.declared.job.Task.TheVariants as tasks
use Rattle.log_model.specs.declared.row_kind.RowKind.TheVariants as rows

-- the row is an order that freezes or discards a document
pub record IsQuietRow (row : RowKind) : Type 0 where
  pub job : Job
  pub is : row ≡ rows.Sent job
  pub puts : PutsToSleep job.task

pub frozen_quiet : (why : Why) (docs : List DocId) (was out : List RowKind) → HasOnlyFrozen why docs was out → HasOnly IsQuietRow was out
frozen_quiet why docs was out only =
    only_as _ IsQuietRow was out (λ row it. record { job = it.job; is = it.is; puts = subst (λ (k : Task). PutsToSleep k) (sym it.freezes) tt }) only

pub discarded_quiet : (why : Why) (was out : List RowKind) → HasOnlyDiscarded why was out → HasOnly IsQuietRow was out
discarded_quiet why was out only =
    only_as _ IsQuietRow was out (λ row it. record { job = it.job; is = it.is; puts = subst (λ (k : Task). PutsToSleep k) (sym it.discards) tt }) only

-- freezing and discarding asks nobody
pub asks_nobody : (task : Task) → PutsToSleep task → is_question task ≡ false
asks_nobody tasks.Freeze is = refl
asks_nobody tasks.Discard is = refl
asks_nobody _ is = absurd is

-- the row is an order that asks nobody
pub record IsPlainOrder (row : RowKind) : Type 0 where
  pub job : Job
  pub is : row ≡ rows.Sent job
  pub quiet : is_question job.task ≡ false

-- so it goes in the log without questions
pub order_goes : (e : InEvent) (out : List RowKind) (row : RowKind) → IsPlainOrder row → GoesThere e out row
order_goes e out row it = subst (GoesThere e out) (sym it.is) (sent_goes e out it.job it.quiet)

-- so do all rows of a kind, wherever they come
abbrev pub AllGo : InEvent → (RowKind → Type 0) → Type 0
AllGo e Is = (out : List RowKind) (row : RowKind) → Is row → GoesThere e out row

kind_goes : (Is : RowKind → Type 0) (e : InEvent) → AllGo e Is → (was more : List RowKind) → ((row : RowKind) → Has more row → Is row) → EachGoes e was more
kind_goes Is e go was more each = record { each = λ before later row is. go (was ++ before) row (each row (subst (λ (l : List RowKind). Has l row) is (among before later row))) }
  where
    among : (before later : List RowKind) (row : RowKind) → Has (before ++ row ∷ later) row
    among [] later row = inl refl
    among (first ∷ before) later row = inr (among before later row)

-- what each row keeps is kept over all
over_rows : (Is : RowKind → Type 0) (P : Seen → Type 0) (e : InEvent) → ((s : Seen) (row : RowKind) → Is row → P s → P (after s (row_of e row))) → (out more : List RowKind) → EachGoes e out more → ((row : RowKind) → Has more row → Is row) → P (now_of e out) → P (now_of e (out ++ more))
over_rows Is P e step out [] goes each so = subst (λ (l : List RowKind). P (now_of e l)) (sym (append-nil out)) so
over_rows Is P e step out (row ∷ more) goes each so =
    subst (λ (l : List RowKind). P (now_of e l)) (append_assoc out (row ∷ []) more)
    (over_rows Is P e step (out ++ row ∷ []) more (rest_goes e out more row goes) (λ other there. each other (inr there)) (now_step P e out row (first_goes e out more row goes) (λ (was : P (now_of e out)). step (now_of e out) row (each row (inl refl)) was) so))

-- of an event whose rows go there
pub over_with : (Is : RowKind → Type 0) (P : Seen → Type 0) (e : InEvent) → ((s : Seen) (row : RowKind) → Is row → P s → P (after s (row_of e row))) → (was out : List RowKind) → EachGoes e [] out → HasOnly Is was out → P (now_of e was) → P (now_of e out)
over_with Is P e step was out goes only so =
    subst (λ (l : List RowKind). P (now_of e l)) (sym only.is) (over_rows Is P e step was only.more (since_goes e was only.more out only.is goes) only.each so)

-- of a kind that goes there
pub over_each : (Is : RowKind → Type 0) (P : Seen → Type 0) (e : InEvent) → AllGo e Is → ((s : Seen) (row : RowKind) → Is row → P s → P (after s (row_of e row))) → (was out : List RowKind) → HasOnly Is was out → P (now_of e was) → P (now_of e out)
over_each Is P e go step was out only so =
    subst (λ (l : List RowKind). P (now_of e l)) (sym only.is) (over_rows Is P e step was only.more (kind_goes Is e go was only.more only.each) only.each so)

pub over_only : (P : Seen → Type 0) → ((s : Seen) (event : InEvent) (job : Job) → PutsToSleep job.task → P s → P (after s (row_of event (rows.Sent job)))) → (e : InEvent) (was out : List RowKind) → HasOnly IsQuietRow was out → P (now_of e was) → P (now_of e out)
over_only P step e =
    over_each IsQuietRow P e (λ mid row it. order_goes e mid row (record { job = it.job; is = it.is; quiet = asks_nobody it.job.task it.puts })) (λ s row it so. subst (λ (k : RowKind). P (after s (row_of e k))) (sym it.is) (step s e it.job it.puts so))

-- each ongoing load has its document still, where documents were frozen
pub frozen_loads : (e : InEvent) (why : Why) (docs : List DocId) (was out : List RowKind) → HasOnlyFrozen why docs was out → LoadsHaveDocuments (now_of e was) → LoadsHaveDocuments (now_of e out)
frozen_loads e why docs =
    over_each (IsFreezeOf why docs) LoadsHaveDocuments e (λ mid row it. order_goes e mid row (record { job = it.job; is = it.is; quiet = ap is_question it.freezes })) (λ s row it so. subst (λ (k : RowKind). LoadsHaveDocuments (after s (row_of e k))) (sym it.is) (loads_sent s e.event e.actor it.job (inl (subst (λ (k : Task). DiscardsNone k) (sym it.freezes) tt)) so))

-- ---- what they keep

asks_none : (task : Task) → PutsToSleep task → AsksNone task
asks_none tasks.Freeze is = tt
asks_none tasks.Discard is = tt
asks_none _ is = absurd is

module _ (e : InEvent) (was out : List RowKind) (only : HasOnly IsQuietRow was out) where
  -- whom a reason moved it has still
  pub moved_over : (why : Why) (nav : NavId) → IsMovedBy (now_of e was) why nav → IsMovedBy (now_of e out) why nav
  moved_over why nav =
      over_only (λ (s : Seen). IsMovedBy s why nav) (λ s event job puts by. sent_moved s event.event event.actor why nav by job (asks_none job.task puts)) e was out only

  pub were_over : WereShown (now_of e was) → WereShown (now_of e out)
  were_over = over_only WereShown (λ s event job puts were. were_shown s event.event event.actor were (rows.Sent job) tt) e was out only

  -- what is read of a request
  pub looks_over : (req : ReqId) → look_of (now_of e out) req ≡ look_of (now_of e was) req
  looks_over req =
      over_only (λ (s : Seen). look_of s req ≡ look_of (now_of e was) req) (λ s event job puts same. sent_reads look look_blind s job job.task s.requests req ∙ same) e was out only refl

  pub parked_over : (now_of e out).parked ≡ (now_of e was).parked
  parked_over = over_only (λ (s : Seen). s.parked ≡ (now_of e was).parked) (λ s event job puts same. same) e was out only refl

  -- on what a navigable hangs
  pub loads_over : (gone : StateId) → NoLoadBelow (now_of e was) gone → NoLoadBelow (now_of e out) gone
  loads_over gone =
      over_only (λ (s : Seen). NoLoadBelow s gone) each e was out only
    where
      owners_same : (navs : List NavId) (why : Why) (old : Place) → (slept navs why old).owners ≡ old.owners
      owners_same navs why old = by_test (has_nav navs old.nav)
        where
          by_test : (b : Bool) → (let p : Place = cond b (record old { status = asleep; why = why }) old in p.owners) ≡ old.owners
          by_test true = refl
          by_test false = refl

      each : (s : Seen) (event : InEvent) (job : Job) → PutsToSleep job.task → NoLoadBelow s gone → NoLoadBelow (after s (row_of event (rows.Sent job))) gone
      each s event job puts none req l nav place at ongoing own placed =
          let was : WasSlept s job nav place = was_slept event s job job.task refl puts nav place placed in
          let owners : place.owners ≡ was.old.owners = ap (λ (p : Place). p.owners) (sym was.is) ∙ owners_same (sleepers_with s job.doc) job.why was.old in
          ap (λ (l_ : List StateId). list_any (λ (owner : StateId). owner.0 == gone.0) l_) owners
          ∙ none req l nav was.old (sym (sent_reads look look_blind s job job.task s.requests req) ∙ at) ongoing own was.found

  -- what an order may be for, where each request that is there may go on
  pub causes_over : ((req : ReqId) (q : Asked) → request_of (now_of e out) req ≡ Some q → may_go_on (now_of e out) req ≡ true) → (cause : Why) → MayCause (now_of e was) cause → MayCause (now_of e out) cause
  causes_over each cause may req is =
      record {
        goes = by_there (request_of (now_of e out) req) refl (request_of (now_of e was) req) refl same (may req is).goes;
        begun = kept_begun (now_of e was) (now_of e out) req kept (may req is).begun;
      }
    where
      kept : KeepBegun (now_of e was).requests (now_of e out).requests
      kept =
          over_only (λ (s : Seen). KeepBegun (now_of e was).requests s.requests) (λ s event job puts so this each_. sent_begun s job job.task s.requests this (so this each_)) e was out only (λ this each_. each_)

      -- whether it has begun
      began : Asked → Bool
      began q = q.is_started

      same : option_map began (request_of (now_of e out) req) ≡ option_map began (request_of (now_of e was) req)
      same =
          over_only (λ (s : Seen). option_map began (request_of s req) ≡ option_map began (request_of (now_of e was) req))
          (λ s event job puts so. sent_reads began (record { moves = λ q activated moved. refl; asks = λ q asks. refl; fragments = λ q doc. refl; misses = λ q is. refl }) s job job.task s.requests req ∙ so) e was out only refl

      by_there : (o : Option Asked) → request_of (now_of e out) req ≡ o → (old : Option Asked) → request_of (now_of e was) req ≡ old → option_map began (request_of (now_of e out) req) ≡ option_map began (request_of (now_of e was) req) → may_go_on (now_of e was) req ≡ true → may_go_on (now_of e out) req ≡ true
      by_there (Some q) there old is_was same_ goes = each req q there
      by_there None there None is_was same_ goes = let never : may_go_on (now_of e was) req ≡ false = rw is_was refl in absurd cc
      by_there None there (Some q) is_was same_ goes =
          let one : option_map began None ≡ Some (began q) = sym (ap (λ (o : Option Asked). option_map began o) there) ∙ same_ ∙ ap (λ (o : Option Asked). option_map began o) is_was in
          absurd cc

-- what is seen of documents stays over those that freeze
pub sights_over : (why : Why) (docs : List DocId) (e : InEvent) (was out : List RowKind) → HasOnlyFrozen why docs was out → map sight (now_of e out).documents ≡ map sight (now_of e was).documents
sights_over why docs e was out only = subst (λ (l : List RowKind). map sight (now_of e l).documents ≡ map sight (now_of e was).documents) (sym only.is) (over only.more was only.each refl)
  where
    over : (more : List RowKind) (mid : List RowKind) → ((row : RowKind) → Has more row → IsFreezeOf why docs row) → map sight (now_of e mid).documents ≡ map sight (now_of e was).documents → map sight (now_of e (mid ++ more)).documents ≡ map sight (now_of e was).documents
    over [] mid each so = subst (λ (l : List RowKind). map sight (now_of e l).documents ≡ map sight (now_of e was).documents) (sym (append-nil mid)) so
    over (row ∷ more) mid each so =
        subst (λ (l : List RowKind). map sight (now_of e l).documents ≡ map sight (now_of e was).documents) (append_assoc mid (row ∷ []) more)
        (over more (mid ++ row ∷ []) (λ other there. each other (inr there)) (now_step (λ (x : Seen). map sight x.documents ≡ map sight (now_of e was).documents) e mid row (order_goes e mid row (record { job = its.job; is = its.is; quiet = ap is_question its.freezes })) (λ was_. one) so))
      where
        its : IsFreezeOf why docs row
        its = each row (inl refl)

        frozen : map sight (after (now_of e mid) (row_of e (rows.Sent its.job))).documents ≡ map sight (now_of e mid).documents
        frozen =
            ap (λ (k : Task). map sight (documents_sent (now_of e mid) its.job k)) its.freezes
            ∙ sights_same (λ (d : Document). cond (d.nr.0 == its.job.doc.0) (addressed tasks.Freeze d) d) (unseen_at its.job.doc (addressed tasks.Freeze) (λ d. refl)) (now_of e mid).documents

        one : map sight (after (now_of e mid) (row_of e row)).documents ≡ map sight (now_of e was).documents
        one = subst (λ (k : RowKind). map sight (after (now_of e mid) (row_of e k)).documents ≡ map sight (now_of e was).documents) (sym its.is) (frozen ∙ so)
