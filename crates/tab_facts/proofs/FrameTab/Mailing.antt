-- What an order that is sent leaves of requests, and adds to the process of all documents.
use Rattle.std.proofs.Common.{◌≡◌, ◌⊎◌, inl, inr, ℕ, ◌+◌, Bool, true, false, ◌==◌, List, [], ◌∷◌, ◌++◌, Option, Some, None, refl, sym, ap, ◌∙◌, subst, arith}
use Rattle.std.specs.Prelude.{option_map, option_to_list}
use Rattle.std.proofs.lemmas.Bool.Decides.{nat_tests}
use Rattle.tab_ids.specs.declared.DocId.{DocId}
use Rattle.tab_ids.specs.declared.NavId.{NavId}
use Rattle.tab_ids.specs.declared.ProcId.{ProcId}
use Rattle.tab_ids.specs.declared.ReqId.{ReqId}
use Rattle.log_model.specs.declared.job.Job.{Job}
use Rattle.log_model.specs.declared.job.Order.{Order}
use Rattle.log_model.specs.declared.job.Why.{Why}
use Rattle.log_model.specs.declared.job.Why.TheVariants as whys
use Rattle.log_model.specs.declared.made.Made.{Made}
use Rattle.log_model.specs.declared.row_kind.Actor.{Actor}
use Rattle.log_model.specs.declared.row_kind.RowKind.TheVariants as rows
use Rattle.log_model.specs.Equal.{holds}
use Rattle.log_model.specs.History.{has_nav}
use Rattle.log_model.specs.After.{on_desk}
use Rattle.log_model.specs.AfterRequests.{on_request, on_served}
use Rattle.log_model.specs.Places.{is_moved_in}
use Rattle.log_model.specs.Seen.{Seen, Desk, Asked, desk_of, request_in}
use Rattle.seen_facts.specs.Coord.Leading.{orders_of_desk}
use Rattle.seen_facts.proofs.Coord.Held.{held_alike, made_of, on_else}
use Rattle.seen_facts.proofs.Coord.OneDocument.{mailed}
use Rattle.seen_facts.proofs.Coord.Unread.{next}
use Rattle.seen_facts.proofs.Request.LookUps.{on_itself}
use Rattle.seen_facts.proofs.Request.Readers.{SameReads, sent_reads}
use Rattle.seen_facts.specs.Each.Runs.{EachAsked, is_run, is_this}
use Rattle.seen_facts.specs.Each.Items.{NoneDied}
use Rattle.seen_facts.proofs.Each.Courses.{runs_again}
use Rattle.seen_facts.proofs.Each.Died.{died_on}
use Rattle.tab_facts.specs.FrameTab.Asking.{IsPlainlyAsked, ArePlainlyAsked}
use Rattle.tab_facts.specs.FrameTab.Desks.{makes_it, makes_sent, waiting}
use Rattle.tab_facts.specs.FrameTab.Whole.{IsFrameTab}
use Rattle.tab_facts.proofs.FrameTab.Goings.{AllStayAsked, all_read, asked_by_stays, begun_of}
use Rattle.tab_facts.proofs.FrameTab.Desking.{own_desk}
use Rattle.tab_facts.proofs.FrameTab.Leaving.{makes_at, untold}
use Rattle.tab_facts.proofs.FrameTab.Running.{moved_is, run_in}

-- ---- the desk

join_in : {A : Type 0} (xs ys zs : List A) → xs ++ (ys ++ zs) ≡ (xs ++ ys) ++ zs
join_in [] ys zs = refl
join_in (x ∷ xs) ys zs = ap (λ l. x ∷ l) (join_in xs ys zs)

pub orders_more : (job : Job) (desk : Desk) → orders_of_desk (mailed job desk) ≡ orders_of_desk desk ++ job ∷ []
orders_more job desk = join_in (option_to_list (option_map (λ (order : Order). order.job) desk.in_hand)) desk.mail (job ∷ [])

sent_last : (doc : DocId) (jobs : List Job) (job : Job) → makes_sent doc (jobs ++ job ∷ []) ≡ makes_sent doc jobs + makes_it doc job
sent_last doc [] job = omega arith
sent_last doc (first ∷ jobs) job =
    (let more : makes_sent doc (jobs ++ job ∷ []) ≡ makes_sent doc jobs + makes_it doc job = sent_last doc jobs job in omega (arith, more))

pub mailed_makes : (doc : DocId) (job : Job) (desk : Desk) → makes_at doc (mailed job desk) ≡ makes_at doc desk + makes_it doc job
mailed_makes doc job desk =
    let one : makes_sent doc (orders_of_desk (mailed job desk)) ≡ makes_sent doc (orders_of_desk desk) + makes_it doc job = ap (λ (l : List Job). makes_sent doc l) (orders_more job desk) ∙ sent_last doc (orders_of_desk desk) job in
    omega (arith, one)

-- ---- the requests

abbrev flat : Option (Option Made) → Option Made
flat None = None
flat (Some o) = o

made_alike : (a b : Option Asked) → option_map (λ (q : Asked). q.made) a ≡ option_map (λ (q : Asked). q.made) b → made_of a ≡ made_of b
made_alike a b same = by_flat a ∙ ap flat same ∙ sym (by_flat b)
  where
    by_flat : (o : Option Asked) → made_of o ≡ flat (option_map (λ (q : Asked). q.made) o)
    by_flat None = refl
    by_flat (Some q) = refl

-- one request is there after it as it was, or as an order for it leaves it
pub served_then : (why : Why) (f : Asked → Asked) (asked : List Asked) (req : ReqId) (q : Asked) → request_in asked req ≡ Some q → (x : Asked) × (request_in (on_served why f asked) req ≡ Some x) × ((x ≡ q) ⊎ (x ≡ f q))
served_then (whys.Req r) f asked req q at = by_number (req.0 == r.0) refl
  where
    by_number : (b : Bool) → (req.0 == r.0) ≡ b → (x : Asked) × (request_in (on_request r f asked) req ≡ Some x) × ((x ≡ q) ⊎ (x ≡ f q))
    by_number true e =
        let n : req.0 ≡ r.0 = grind (arith, nat_tests, e) in
        let same : req ≡ r = ap (λ (i : ℕ). let x : ReqId = record { 0 = i } in x) n in
        let now : request_in (on_request r f asked) r ≡ Some (f q) = on_itself asked r f ∙ ap (λ (o : Option Asked). option_map f o) (subst (λ (x : ReqId). request_in asked x ≡ Some q) same at) in
        (f q, subst (λ (x : ReqId). request_in (on_request r f asked) x ≡ Some (f q)) (sym same) now, inr refl)
    by_number false e = (q, on_else asked r f req e ∙ at, inl refl)
served_then whys.Start f asked req q at = (q, at, inl refl)
served_then whys.Evict f asked req q at = (q, at, inl refl)
served_then (whys.Death death) f asked req q at = (q, at, inl refl)

-- who isn't moved now wasn't before, where who is moved goes on being moved
pub moved_less : (run : Option ReqId) (asked next_ : List Asked) (nav : NavId) → EachAsked (λ r q. is_run q ≡ is_this run r) asked → EachAsked (λ r q. is_run q ≡ is_this run r) next_ → ((req : ReqId) (q : Asked) → request_in asked req ≡ Some q → (x : Asked) × (request_in next_ req ≡ Some x) × (has_nav x.moved nav ≡ false → has_nav q.moved nav ≡ false)) → is_moved_in next_ nav ≡ false → is_moved_in asked nav ≡ false
moved_less run asked next_ nav before now on none =
    moved_is run asked nav before ∙ by_run run (sym (moved_is run next_ nav now) ∙ none)
  where
    by_run : (r : Option ReqId) → holds (λ (q : Asked). has_nav q.moved nav) (run_in r next_) ≡ false → holds (λ (q : Asked). has_nav q.moved nav) (run_in r asked) ≡ false
    by_run None e = refl
    by_run (Some req) e = by_found (request_in asked req) refl
      where
        by_found : (o : Option Asked) → request_in asked req ≡ o → holds (λ (q : Asked). has_nav q.moved nav) o ≡ false
        by_found None h = refl
        by_found (Some q) h =
            let x : (x : Asked) × (request_in next_ req ≡ Some x) × (has_nav x.moved nav ≡ false → has_nav q.moved nav ≡ false) = on req q h in
            x.2 (sym (ap (λ (o : Option Asked). holds (λ (y : Asked). has_nav y.moved nav) o) x.1) ∙ e)

-- ---- the row

module _ (home : ProcId) (run : Option ReqId) (hand : List Made) (s : Seen) (event : ℕ) (actor : Actor) (tab : IsFrameTab home run hand s) (job : Job) (to : job.proc ≡ home) where
  abbrev pub sent : Seen
  sent = next s event actor (rows.Sent job)

  pub sent_desks : sent.desks ≡ on_desk home (mailed job) s.desks
  sent_desks = ap (λ (p : ProcId). on_desk p (mailed job) s.desks) to

  pub own_sent : desk_of sent home ≡ mailed job (desk_of s home)
  own_sent = own_desk home s sent (mailed job) sent_desks (λ desk. refl)

  pub sent_died : NoneDied sent
  sent_died = died_on s sent home (mailed job) sent_desks (λ desk. refl) refl refl tab.asked.died

  pub sent_stay : AllStayAsked s.requests sent.requests
  sent_stay = all_read s.requests sent.requests (sent_reads begun_of (record { moves = λ q a m. refl; asks = λ q a. refl; fragments = λ q d. refl; misses = λ q b. refl }) s job job.task s.requests)

  pub sent_took : SameReads (λ (q : Asked). q.took) s.requests sent.requests
  sent_took = sent_reads (λ (q : Asked). q.took) (record { moves = λ q a m. refl; asks = λ q a. refl; fragments = λ q d. refl; misses = λ q b. refl }) s job job.task s.requests

  pub sent_only : EachAsked (λ r q. is_run q ≡ is_this run r) sent.requests
  sent_only = runs_again run s.requests sent.requests (sent_reads is_run (record { moves = λ q a m. refl; asks = λ q a. refl; fragments = λ q d. refl; misses = λ q b. refl }) s job job.task s.requests) tab.asked.only

  pub sent_asked : EachAsked IsPlainlyAsked sent.requests → sent.kept ≡ [] → ArePlainlyAsked run sent
  sent_asked each kept =
      record {
        each = each;
        only = sent_only;
        runs = λ r e. asked_by_stays s.requests sent.requests run sent_stay (tab.asked.runs r e);
        kept = kept;
        died = sent_died;
      }

  pub sent_waiting : waiting sent hand ≡ waiting s hand
  sent_waiting =
      ap (λ (l : List Made). l ++ hand)
      (held_alike s.requests sent.requests s.parked (λ r. made_alike (request_in sent.requests r) (request_in s.requests r) (sent_reads (λ (q : Asked). q.made) (record { moves = λ q a m. refl; asks = λ q a. refl; fragments = λ q d. refl; misses = λ q b. refl }) s job job.task s.requests r)))

  pub sent_same : untold (waiting sent hand) (desk_of sent home) ≡ untold (waiting s hand) (desk_of s home)
  sent_same =
      ap (λ (desk : Desk). untold (waiting sent hand) desk) own_sent
      ∙ ap (λ (l : List Made). untold l (desk_of s home)) sent_waiting

  pub sent_makes : (doc : DocId) → makes_at doc (desk_of sent home) ≡ makes_at doc (desk_of s home) + makes_it doc job
  sent_makes doc = ap (makes_at doc) own_sent ∙ mailed_makes doc job (desk_of s home)
