-- What is true of questions and prompts from row to row.
use Rattle.std.proofs.Common.{◌≡◌, ℕ, Bool, true, false, cond, not, ◌||◌, ◌==◌, List, [], ◌∷◌, map, slice_get, Option, Some, None, refl, sym, ap, ◌∙◌, subst, arith}
use Rattle.std.specs.Prelude.{filter, find, fold, is_some, option_map}
use Rattle.std.specs.List.{list_all}
use Rattle.std.proofs.lemmas.Bool.{and_parts}
use Rattle.std.proofs.lemmas.Bool.Decides.{nat_tests}
use Rattle.tab_ids.specs.declared.Death.{Death}
use Rattle.tab_ids.specs.declared.DocId.{DocId}
use Rattle.tab_ids.specs.declared.ProcId.{ProcId}
use Rattle.tab_ids.specs.declared.ReqId.{ReqId}
use Rattle.log_model.specs.declared.job.Job.{Job}
use Rattle.log_model.specs.declared.job.Task.TheVariants as tasks
use Rattle.log_model.specs.declared.made.Report.TheVariants as reports
use Rattle.log_model.specs.declared.row_kind.Actor.{Actor}
use Rattle.log_model.specs.declared.row_kind.LogRow.{LogRow}
use Rattle.log_model.specs.declared.row_kind.RowKind.TheVariants as rows
use Rattle.log_model.specs.Equal.{holds}
use Rattle.log_model.specs.Outcomes.{is_drop}
use Rattle.log_model.specs.Seen.{Seen, Document, Asked, Asking, desk_of, document_of, request_of}
use Rattle.log_model.specs.After.{after}
use Rattle.log_model.specs.AfterPlaces.{is_dead_by, is_taken_by}
use Rattle.log_model.specs.Places.{all_asked, is_gone, is_settled_asking}
use Rattle.log_model.specs.Checks.{due_prompt, lower_doc}
use Rattle.unload_check.specs.Checks.{is_doc}
use Rattle.seen_laws.proofs.Keyed.{find_has, find_map}
use Rattle.seen_facts.proofs.Each.Courses.{was_asked}
use Rattle.seen_facts.proofs.Request.Readers.{SameReads}
use Rattle.seen_facts.proofs.Walk.Aims.{is_away}
use Rattle.check_facts.proofs.Checkings.{wants}
use Rattle.check_facts.proofs.Promptings.{due_none, due_same, open_fresh}
use Rattle.check_facts.proofs.Rows.{DropsStay, Plain, plain_of, settled_more}
use Rattle.check_facts.proofs.Runs.{never_due}
use Rattle.check_facts.specs.Checking.{GoWith}
use Rattle.check_facts.specs.Prompting.{AgreesNow, DropsNone, HaveNumbers, NothingElseDue, OpenUnnoted, PromptedSettled, SameQuestions, SettlesDue, StaySettled, has_settled, is_asked, silent}

-- ---- as an event begins, and at each row of it

-- what was settled as the event began still is
pub stay_own : (start : Seen) → StaySettled start start
stay_own start req had = had

-- each request whose last question a row settles is one that may be, where nothing is noted for those with an open question
pub settles_due : (start : Seen) (todo : ReqId → Option DocId) (ran : ReqId → Bool) (now : Seen) (row : LogRow) → StaySettled start now → PromptedSettled now → OpenUnnoted todo now → SettlesDue start todo ran now row
settles_due start todo ran now row stays prompted unnoted q found settles =
    record {
      fresh = open_fresh start now stays q.nr q found open_;
      unprompted = by_prompted (is_some q.prompted) refl;
      noted = λ is. none (subst (λ (o : Option DocId). is_some o ≡ true) (unnoted q found open_) is);
    }
  where
    not_true : (b : Bool) → not b ≡ true → b ≡ false
    not_true true e = cc
    not_true false e = refl

    none : {b : Bool} → false ≡ true → b ≡ true
    none e = cc

    open_ : all_asked now q ≡ false
    open_ =
        not_true (all_asked now q) (and_parts (not (all_asked now q)) (holds (all_asked (after now row)) (request_of (after now row) q.nr)) settles).0

    by_prompted : (b : Bool) → is_some q.prompted ≡ b → b ≡ false
    by_prompted false is = refl
    by_prompted true is =
        let parts = and_parts (is_asked q.asks) (all_asked now q) (prompted q.nr q found is) in
        absurd cc

-- ---- what is due reads only which of the asked documents are gone

docs_apart : (gone new : DocId → Bool) (asks : List Asking) → GoWith gone new [] asks → filter (λ (doc : DocId). not (new doc)) (map (λ (a : Asking). a.doc) (filter (λ (a : Asking). holds wants a.verdict) asks)) ≡ filter (λ (doc : DocId). not (gone doc)) (map (λ (a : Asking). a.doc) (filter (λ (a : Asking). holds wants a.verdict) asks))
docs_apart gone new [] goes = refl
docs_apart gone new (asking ∷ asks) goes = by_wants (holds wants asking.verdict) (docs_apart gone new asks goes.1)
  where
    by_wants : (b : Bool) → filter (λ (doc : DocId). not (new doc)) (map (λ (a : Asking). a.doc) (filter (λ (a : Asking). holds wants a.verdict) asks)) ≡ filter (λ (doc : DocId). not (gone doc)) (map (λ (a : Asking). a.doc) (filter (λ (a : Asking). holds wants a.verdict) asks)) → filter (λ (doc : DocId). not (new doc)) (map (λ (a : Asking). a.doc) (cond b (asking ∷ filter (λ (a : Asking). holds wants a.verdict) asks) (filter (λ (a : Asking). holds wants a.verdict) asks))) ≡ filter (λ (doc : DocId). not (gone doc)) (map (λ (a : Asking). a.doc) (cond b (asking ∷ filter (λ (a : Asking). holds wants a.verdict) asks) (filter (λ (a : Asking). holds wants a.verdict) asks)))
    by_wants false more = more
    by_wants true more = rw (goes.0, more) refl

pub due_apart : (s t : Seen) (q r : Asked) → map silent r.asks ≡ map silent q.asks → holds is_drop r.ending ≡ holds is_drop q.ending → GoWith (is_gone s) (is_gone t) [] q.asks → due_prompt t r ≡ due_prompt s q
due_apart s t q r same dropped spared =
    due_same t q r same dropped
    ∙ ap (λ (l : List DocId). cond (holds is_drop q.ending) None (fold lower_doc None l)) (docs_apart (is_gone s) (is_gone t) q.asks spared)

some_same : {A : Type 0} {a b : A} → (let o : Option A = Some a in o) ≡ Some b → a ≡ b
some_same e = cc

-- ---- over rows that leave the questions and prompts of all requests as they were

module _ (s t : Seen) (reads : SameReads plain_of s.requests t.requests) where
  pub numbers_plain : HaveNumbers s → HaveNumbers t
  numbers_plain numbered req r found =
      let q = was_asked plain_of s.requests t.requests reads req r found in
      ap (λ (x : Plain). x.nr) (sym q.2) ∙ numbered req q.0 q.1

  pub prompted_plain : ((doc : DocId) → is_gone s doc ≡ true → is_gone t doc ≡ true) → PromptedSettled s → PromptedSettled t
  prompted_plain gone prompted req r found is =
      let q = was_asked plain_of s.requests t.requests reads req r found in
      let was : has_settled s q.0 ≡ true = prompted req q.0 q.1 (ap (λ (x : Plain). is_some x.prompted) q.2 ∙ is) in
      let parts = and_parts (is_asked q.0.asks) (all_asked s q.0) was in
      let asked : is_asked r.asks ≡ true = sym (ap (λ (x : Plain). is_asked x.asks) q.2) ∙ parts.0 in
      let all : all_asked t r ≡ true = sym (ap (λ (x : Plain). list_all (is_settled_asking (is_gone t)) x.asks) q.2) ∙ settled_more s t q.0.asks gone parts.1 in
      rw (asked, all) refl

  -- nothing is noted for those with an open question
  pub unnoted_plain : (todo : ReqId → Option DocId) → HaveNumbers s → HaveNumbers t → ((doc : DocId) → is_gone s doc ≡ true → is_gone t doc ≡ true) → OpenUnnoted todo s → OpenUnnoted todo t
  unnoted_plain todo before numbered gone unnoted r found open_ =
      let q = was_asked plain_of s.requests t.requests reads r.nr r found in
      let nr : q.0.nr ≡ r.nr = ap (λ (x : Plain). x.nr) q.2 in
      let own : request_of s q.0.nr ≡ Some q.0 = ap (λ (n : ReqId). request_of s n) nr ∙ q.1 in
      ap todo (sym nr) ∙ unnoted q.0 own (by_test q.0 q.2 (all_asked s q.0) refl)
    where
      by_test : (q : Asked) → plain_of q ≡ plain_of r → (b : Bool) → all_asked s q ≡ b → b ≡ false
      by_test q same false is = refl
      by_test q same true is =
          let all : all_asked t r ≡ true = sym (ap (λ (x : Plain). list_all (is_settled_asking (is_gone t)) x.asks) same) ∙ settled_more s t q.asks gone is in
          absurd cc

  -- what was noted while its run lasts still is what is due, where no document of those requests is gone more
  pub agrees_plain : (todo : ReqId → Option DocId) (ran : ReqId → Bool) → DropsNone s t → ((req : ReqId) (q : Asked) → request_of s req ≡ Some q → ran req ≡ true → GoWith (is_gone s) (is_gone t) [] q.asks) → AgreesNow todo ran s → AgreesNow todo ran t
  agrees_plain todo ran drops spared agrees req r found is =
      let q = was_asked plain_of s.requests t.requests reads req r found in
      due_apart s t q.0 r (ap (λ (x : Plain). map silent x.asks) (sym q.2)) (drops req q.0 r q.1 found) (spared req q.0 q.1 is)
      ∙ agrees req q.0 q.1 is

  -- nothing else is due: neither for what was settled before, nor for what is settled since, if that is noted as it is due
  pub nothing_noted : (start : Seen) (todo new : ReqId → Option DocId) → DropsStay s t → ((doc : DocId) → is_gone s doc ≡ true → is_gone t doc ≡ true) → ((req : ReqId) (q : Asked) → request_of s req ≡ Some q → has_settled s q ≡ true → new q.nr ≡ todo q.nr) → ((req : ReqId) (q r : Asked) → request_of s req ≡ Some q → request_of t req ≡ Some r → has_settled s q ≡ false → has_settled t r ≡ true → new r.nr ≡ due_prompt t r) → NothingElseDue start todo s → NothingElseDue start new t
  nothing_noted start todo new drops gone kept noted nothing req r found fresh settled un none =
      let q = was_asked plain_of s.requests t.requests reads req r found in
      by_settled q.0 q.1 q.2 (has_settled s q.0) refl
    where
      by_settled : (q : Asked) → request_of s req ≡ Some q → plain_of q ≡ plain_of r → (b : Bool) → has_settled s q ≡ b → due_prompt t r ≡ None
      by_settled q was same false is = sym (noted req q r was found is settled) ∙ none
      by_settled q was same true is =
          let nr : q.nr ≡ r.nr = ap (λ (x : Plain). x.nr) same in
          let un_ : is_some q.prompted ≡ false = ap (λ (x : Plain). is_some x.prompted) same ∙ un in
          let none_ : todo q.nr ≡ None = sym (kept req q was is) ∙ ap new nr ∙ none in
          let before : due_prompt s q ≡ None = nothing req q was fresh is un_ none_ in
          let alike : SameQuestions q r = record { nr = sym nr; asks = ap (λ (x : Plain). map silent x.asks) (sym same); prompted = ap (λ (x : Plain). x.prompted) (sym same); dropped = drops req q r was found } in
          never_due s t r gone (due_none s q r alike before)

  -- so it is where nobody more is gone
  pub nothing_plain : (start : Seen) (todo : ReqId → Option DocId) → DropsStay s t → ((doc : DocId) → is_gone t doc ≡ is_gone s doc) → NothingElseDue start todo s → NothingElseDue start todo t
  nothing_plain start todo drops gone nothing =
      nothing_noted start todo todo drops (λ doc is. gone doc ∙ is) (λ req q was is. refl) never nothing
    where
      back : (asks : List Asking) → list_all (is_settled_asking (is_gone t)) asks ≡ true → list_all (is_settled_asking (is_gone s)) asks ≡ true
      back asks all = settled_more t s asks (λ doc is. sym (gone doc) ∙ is) all

      never : (req : ReqId) (q r : Asked) → request_of s req ≡ Some q → request_of t req ≡ Some r → has_settled s q ≡ false → has_settled t r ≡ true → todo r.nr ≡ due_prompt t r
      never req q r was found open_ settled =
          let p = was_asked plain_of s.requests t.requests reads req r found in
          let it : p.0 ≡ q = some_same (sym p.1 ∙ was) in
          let same : plain_of q ≡ plain_of r = subst (λ (x : Asked). plain_of x ≡ plain_of r) it p.2 in
          let parts = and_parts (is_asked r.asks) (all_asked t r) settled in
          let asked : is_asked q.asks ≡ true = ap (λ (x : Plain). is_asked x.asks) same ∙ parts.0 in
          let all : list_all (is_settled_asking (is_gone s)) q.asks ≡ true = ap (λ (x : Plain). list_all (is_settled_asking (is_gone s)) x.asks) same ∙ back r.asks parts.1 in
          let here : has_settled s q ≡ true = rw (asked, all) refl in
          absurd cc

-- ---- who is gone, after an order that discards and after a death

module _ (s : Seen) (event : ℕ) (actor : Actor) (job : Job) (task : job.task ≡ tasks.Discard) (d : Document) (there : document_of s job.doc ≡ Some d) where
  abbrev pub cut : Seen
  cut = after s (record { event = event; actor = actor; row = rows.Sent job })

  abbrev discarded : Document → Document
  discarded x = cond (x.nr.0 == job.doc.0) (record x { is_discarded = true }) x

  -- who was, and its document
  pub discard_goes : (doc : DocId) → is_gone cut doc ≡ (is_doc doc job.doc || is_gone s doc)
  discard_goes doc =
      ap (λ (docs : List Document). holds is_away (find (λ (x : Document). x.nr.0 == doc.0) docs)) (rw task refl)
      ∙ ap (holds is_away) (find_map (λ (x : Document). x.nr.0) discarded doc.0 s.documents number)
      ∙ by_number (doc.0 == job.doc.0) refl (document_of s doc) refl
    where
      number : (x : Document) → (discarded x).nr.0 ≡ x.nr.0
      number x = by_test (x.nr.0 == job.doc.0)
        where
          by_test : (b : Bool) → (let y : Document = cond b (record x { is_discarded = true }) x in y).nr.0 ≡ x.nr.0
          by_test true = refl
          by_test false = refl

      by_number : (b : Bool) → (doc.0 == job.doc.0) ≡ b → (o : Option Document) → document_of s doc ≡ o → holds is_away (option_map discarded o) ≡ ((doc.0 == job.doc.0) || holds is_away o)
      by_number true e None at =
          let it : doc ≡ job.doc = ap (λ (n : ℕ). let y : DocId = record { 0 = n } in y) (let n : doc.0 ≡ job.doc.0 = grind (arith, nat_tests, e) in n) in
          let none : document_of s job.doc ≡ None = subst (λ (x : DocId). document_of s x ≡ None) it at in
          let never : Some d ≡ None = sym there ∙ none in
          absurd cc
      by_number true e (Some x) at =
          let own : x.nr.0 ≡ doc.0 = find_has (λ (y : Document). y.nr.0) doc.0 s.documents x at in
          let its : (x.nr.0 == job.doc.0) ≡ true = grind (arith, nat_tests, e, own) in
          rw (its, e) refl
      by_number false e None at = rw e refl
      by_number false e (Some x) at =
          let own : x.nr.0 ≡ doc.0 = find_has (λ (y : Document). y.nr.0) doc.0 s.documents x at in
          let its : (x.nr.0 == job.doc.0) ≡ false = grind (arith, nat_tests, e, own) in
          rw (its, e) refl

module _ (s : Seen) (event : ℕ) (actor : Actor) (proc : ProcId) (death : Death) (first : slice_get (desk_of s proc).reports 0 ≡ Some (reports.Died death)) where
  abbrev pub knowing : Seen
  knowing = after s (record { event = event; actor = actor; row = rows.Delivered proc })

  abbrev known : Document → Document
  known d = cond (is_dead_by death d) (record d { is_known_dead = true }) d

  -- who was, and those that it took
  pub death_goes : (doc : DocId) → is_gone knowing doc ≡ (is_taken_by s death doc || is_gone s doc)
  death_goes doc =
      ap (λ (docs : List Document). holds is_away (find (λ (x : Document). x.nr.0 == doc.0) docs)) (rw first refl)
      ∙ ap (holds is_away) (find_map (λ (x : Document). x.nr.0) known doc.0 s.documents number)
      ∙ by_found (document_of s doc)
    where
      number : (x : Document) → (known x).nr.0 ≡ x.nr.0
      number x = by_test (is_dead_by death x)
        where
          by_test : (b : Bool) → (let y : Document = cond b (record x { is_known_dead = true }) x in y).nr.0 ≡ x.nr.0
          by_test true = refl
          by_test false = refl

      or_true : (b : Bool) → (b || true) ≡ true
      or_true true = refl
      or_true false = refl

      by_found : (o : Option Document) → holds is_away (option_map known o) ≡ (holds (is_dead_by death) o || holds is_away o)
      by_found None = refl
      by_found (Some x) = by_test (is_dead_by death x)
        where
          by_test : (b : Bool) → is_away (cond b (record x { is_known_dead = true }) x) ≡ (b || is_away x)
          by_test true = or_true x.is_discarded
          by_test false = refl
