-- An answer comes late, to a request whose questions were all settled, or that was dropped: the table stays as it is. And the report of a death, which the table is told of as of discarded documents.
use Rattle.std.proofs.Common.{◌≡◌, ◌⊎◌, inl, inr, ℕ, Bool, true, false, cond, not, ◌&&◌, ◌||◌, ◌==◌, List, [], ◌∷◌, ◌++◌, map, slice_get, Option, Some, None, refl, sym, ap, ◌∙◌, subst}
use Rattle.std.specs.Prelude.{option_map}
use Rattle.std.specs.List.{list_any}
use Rattle.std.proofs.lemmas.Bool.{and_parts, or_right}
use Rattle.tab_ids.specs.declared.Death.{Death}
use Rattle.tab_ids.specs.declared.DocId.{DocId}
use Rattle.tab_ids.specs.declared.ProcId.{ProcId}
use Rattle.tab_ids.specs.declared.ReqId.{ReqId}
use Rattle.log_model.specs.declared.handler.Verdict.{Verdict}
use Rattle.log_model.specs.declared.job.Job.{Job}
use Rattle.log_model.specs.declared.job.Why.TheVariants as whys
use Rattle.log_model.specs.declared.made.Made.{Made}
use Rattle.log_model.specs.declared.made.Report.{Report}
use Rattle.log_model.specs.declared.made.Report.TheVariants as reports
use Rattle.log_model.specs.declared.outcome.Outcome.TheVariants as outcomes
use Rattle.log_model.specs.declared.row_kind.Actor.{Actor}
use Rattle.log_model.specs.declared.row_kind.Actor.TheVariants as actors
use Rattle.log_model.specs.declared.row_kind.RowKind.{RowKind}
use Rattle.log_model.specs.declared.row_kind.RowKind.TheVariants as rows
use Rattle.log_model.specs.After.{after}
use Rattle.log_model.specs.AfterPlaces.{is_taken_by}
use Rattle.log_model.specs.Checks.{due_prompt, is_checked, prompts_duly}
use Rattle.log_model.specs.Queue.{is_delivered_duly}
use Rattle.log_model.specs.Equal.{holds}
use Rattle.log_model.specs.Outcomes.{is_drop}
use Rattle.log_model.specs.Places.{all_asked, is_gone, is_under_way, may_leave}
use Rattle.log_model.specs.Seen.{Asked, Asking, Seen, desk_of, request_in, request_of}
use Rattle.log_model.proofs.Refl.{nat_eq_refl}
use Rattle.unload_check.specs.Checks as table
use Rattle.unload_check.specs.Checks.{OpenCheck, check_of, is_doc}
use Rattle.seen_laws.specs.Blocks.{Passes, point_at}
use Rattle.seen_laws.specs.InEvent.{InEvent, IsTakenIn, row_of, start_of}
use Rattle.seen_facts.proofs.Coord.Held.{on_else}
use Rattle.seen_facts.proofs.Request.Readers.{SameReads}
use Rattle.check_facts.proofs.Begins.{OwnPasses}
use Rattle.check_facts.proofs.Carried.{death_goes, prompted_plain, stay_own}
use Rattle.check_facts.proofs.Changes.{said_heard}
use Rattle.check_facts.proofs.Checkings.{all_go}
use Rattle.check_facts.proofs.Hearings.{answered, gone_same, heard_keeps, hearing, request_heard, requests_are}
use Rattle.check_facts.proofs.Notings.{tied_held}
use Rattle.check_facts.proofs.Promptings.{keeps_settled, settled_still, stay_settled}
use Rattle.check_facts.proofs.Rows.{delivered_keeps, drops_none, is_dropped, plain_of}
use Rattle.check_facts.specs.Checking.{AnswerIs, AreTiedAt, IsCheckTied, checked_of, heard, is_checking}
use Rattle.check_facts.specs.Having.{HasChecks, OpenChecked}
use Rattle.check_facts.specs.Prompting.{KeepsQuestions, PromptedSettled, had_settled, has_settled, is_asked}
use Rattle.check_facts.specs.Rows.{IsNoAnswer}
use Rattle.checking_facts.proofs.Tellings.{dropped_unchecked}
use Rattle.checking_facts.specs.Prompts.{AreAskedDuly}
use Rattle.asking_facts.proofs.Ended.{between_duly}
use Rattle.asking_facts.proofs.Ones.{one_duly, told_none}
use Rattle.asking_facts.specs.Ones.{IsOneHeld}

never : {A : Type 0} → true ≡ false → A
never e = absurd cc

some_same : {A : Type 0} {a b : A} → (let o : Option A = Some a in o) ≡ Some b → a ≡ b
some_same e = cc

-- ---- any report

-- the row of a delivered report passes, if the prompts that it makes due come
pub report_passes : (e : InEvent) (proc : ProcId) (report : Report) → e.before ≡ [] → e.own ≡ rows.Delivered proc → e.actor ≡ actors.Coord → slice_get (desk_of e.start proc).reports 0 ≡ Some report → OwnPasses e
report_passes e proc report uncut own coord first later rest duly =
    (subst (λ (kind : RowKind). Passes e.header (point_at (start_of e) later) (row_of e kind)) (sym own) passes, tt)
  where
    -- no row of the event is before a cut
    taken : IsTakenIn e later
    taken =
        subst (λ (l : List RowKind). IsTakenIn e ((map (row_of e) l ++ []) ++ later)) uncut rest.rest.taken

    passes : Passes e.header (point_at (start_of e) later) (row_of e (rows.Delivered proc))
    passes =
        record {
          formed = rw coord (rw first refl);
          once = refl;
          caused = refl;
          queued = subst (λ (kind : RowKind). is_delivered_duly (point_at (start_of e) later) (row_of e kind) ≡ true) own taken;
          ordered = refl;
          checked = subst (λ (kind : RowKind). prompts_duly (point_at (start_of e) later) (row_of e kind) ≡ true) own duly;
          in_time = refl;
          suits = refl;
        }

-- ---- an answer that comes late

module _ (s : Seen) (event : ℕ) (actor : Actor) (proc : ProcId) (job : Job) (verdict : Verdict) (made : Option Made) (first : slice_get (desk_of s proc).reports 0 ≡ Some (reports.Done job (outcomes.Asked verdict) made)) (r : ReqId) (why : job.why ≡ whys.Req r) (checking : ReqId → Bool) (es : List (ReqId × OpenCheck)) (has : HasChecks s es) (open_checked : OpenChecked s) (within : (req : ReqId) → checking req ≡ false → check_of req es ≡ None) (q : Asked) (found : request_of s r ≡ Some q) (says : AnswerIs job.nr verdict q.asks) (late : (all_asked s q ≡ true) ⊎ (is_checking s q ≡ false)) where
  abbrev t : Seen
  t = hearing s event actor proc job verdict made first r why

  abbrev one : Asked
  one = answered s event actor proc job verdict made first r why q

  one_found : request_of t r ≡ Some one
  one_found =
      request_heard s event actor proc job verdict made first r why r q found
      ∙ ap (λ (b : Bool). let o : Option Asked = Some (cond b one q) in o) (let itself : (r.0 == r.0) ≡ true = nat_eq_refl r.0 in itself)

  tied : AreTiedAt s (Some q) (check_of r es)
  tied = subst (λ (o : Option Asked). AreTiedAt s o (check_of r es)) found (has.tied.each r)

  -- all were settled, and are
  settled_on : all_asked s q ≡ true → all_asked t one ≡ true
  settled_on all =
      let k = (heard_keeps s event actor proc job verdict made first r why).later r q found in
      let it : k.after_ ≡ one = some_same (sym k.found ∙ one_found) in
      ap (all_asked t) (sym it) ∙ k.settled all

  same_checking : all_asked s q ≡ true → is_checking t one ≡ is_checking s q
  same_checking all =
      ap (λ (b : Bool). is_checked q && is_under_way q && not (b && may_leave q)) (settled_on all ∙ sym all)

  tied_on : (all_asked s q ≡ true) ⊎ ((all_asked s q ≡ false) × (is_checking s q ≡ false)) → AreTiedAt t (Some one) (check_of r es)
  tied_on (inl all) = by_check (check_of r es) tied
    where
      by_check : (o : Option OpenCheck) → AreTiedAt s (Some q) o → AreTiedAt t (Some one) o
      by_check None is = same_checking all ∙ is
      by_check (Some c) is =
          (same_checking all ∙ is.0, subst (λ (b : Bool). IsCheckTied t one c b) (sym (settled_on all)) (subst (λ (b : Bool). IsCheckTied s q c b) all is.1))
  tied_on (inr un) = by_check (check_of r es) tied
    where
      by_check : (o : Option OpenCheck) → AreTiedAt s (Some q) o → AreTiedAt t (Some one) o
      by_check None is = dropped_unchecked t one (open_checked r q found un.0 un.1)
      by_check (Some c) is = never (sym is.0 ∙ un.1)

  -- which of the two it is
  which : (b : Bool) → all_asked s q ≡ b → (all_asked s q ≡ true) ⊎ ((all_asked s q ≡ false) × (is_checking s q ≡ false))
  which true all = inl all
  which false still = inr (still, by_late late)
    where
      by_late : (all_asked s q ≡ true) ⊎ (is_checking s q ≡ false) → is_checking s q ≡ false
      by_late (inl all) = never (sym all ∙ still)
      by_late (inr un) = un

  held_one : IsOneHeld s t es r one
  held_one =
      record {
        nr = has.numbered r q found;
        said = said_heard job.nr verdict q.asks says (has.said r q found);
        held = inl (tied_on (which (all_asked s q) refl));
        checked = λ is_open un. by_open (which (all_asked s q) refl) is_open;
        prompted = λ up. settled_then (has.prompted r q found up);
        nothing = λ fresh settled un none. by_fresh (which (all_asked s q) refl) fresh settled;
      }
    where
      by_open : (all_asked s q ≡ true) ⊎ ((all_asked s q ≡ false) × (is_checking s q ≡ false)) → all_asked t one ≡ false → holds is_drop q.ending ≡ true
      by_open (inl all) is_open = never (sym (settled_on all) ∙ is_open)
      by_open (inr un) is_open = open_checked r q found un.0 un.1

      settled_then : has_settled s q ≡ true → has_settled t one ≡ true
      settled_then settled =
          let k = (heard_keeps s event actor proc job verdict made first r why).later r q found in
          let it : k.after_ ≡ one = some_same (sym k.found ∙ one_found) in
          subst (λ (y : Asked). has_settled t y ≡ true) it (settled_still s t r q k settled)

      -- one that was dropped has no prompt due
      by_fresh : (all_asked s q ≡ true) ⊎ ((all_asked s q ≡ false) × (is_checking s q ≡ false)) → had_settled s r ≡ false → has_settled t one ≡ true → due_prompt t one ≡ None
      by_fresh (inl all) fresh settled = never (sym (had all settled) ∙ fresh)
        where
          asked_was : is_asked (map (heard job.nr) q.asks) ≡ true → is_asked q.asks ≡ true
          asked_was is = by_asks q.asks is
            where
              by_asks : (asks : List Asking) → is_asked (map (heard job.nr) asks) ≡ true → is_asked asks ≡ true
              by_asks [] e = e
              by_asks (asking ∷ asks) e = refl

          had : all_asked s q ≡ true → has_settled t one ≡ true → had_settled s r ≡ true
          had all settled =
              let asked : is_asked q.asks ≡ true = asked_was (and_parts (is_asked one.asks) (all_asked t one) settled).0 in
              ap (λ (o : Option Asked). holds (has_settled s) o) found ∙ rw (asked, all) refl
      by_fresh (inr un) fresh settled = rw (open_checked r q found un.0 un.1) refl

  -- what is carried of prompts, by the table as it was
  pub late_duly : AreAskedDuly checking s t (record { checks = es; run = [] })
  late_duly =
      subst (λ (l : List (ReqId × OpenCheck)). AreAskedDuly checking s t (record { checks = l; run = [] })) (told_none es) (one_duly checking checking s s t (record { checks = es; run = [] }) (between_duly checking s es has open_checked within) r (λ req apart. refl) (record {
        others = λ req apart. ap (λ (l : List Asked). request_in l req) (requests_are s event actor proc job verdict made first r why) ∙ on_else s.requests r (answered s event actor proc job verdict made first r why) req apart;
        gone = gone_same s event actor proc job verdict made first r why;
      }) (table.after_all_deaths [] es) (λ req apart. refl) (record {
        within = λ out. ap (check_of r) (told_none es) ∙ within r out;
        stays = λ had. stay_settled s s t (keeps_settled s t (heard_keeps s event actor proc job verdict made first r why)) (stay_own s) r had;
        each = λ x at. subst (λ (y : Asked). IsOneHeld s t (table.after_all_deaths [] es) r y) (some_same (sym one_found ∙ at)) (subst (λ (l : List (ReqId × OpenCheck)). IsOneHeld s t l r one) (sym (told_none es)) held_one);
      }))

-- ---- the report of a death

-- the documents that it took, as a run of which the table isn't told yet
pub died_duly : (s : Seen) (event : ℕ) (actor : Actor) (proc : ProcId) (death : Death) (first : slice_get (desk_of s proc).reports 0 ≡ Some (reports.Died death)) (checking : ReqId → Bool) (es : List (ReqId × OpenCheck)) (docs : List DocId) → HasChecks s es → OpenChecked s → ((req : ReqId) → checking req ≡ false → check_of req es ≡ None) → ((doc : DocId) → is_taken_by s death doc ≡ list_any (is_doc doc) docs) → AreAskedDuly checking s (after s (record { event = event; actor = actor; row = rows.Delivered proc })) (record { checks = es; run = docs })
died_duly s event actor proc death first checking es docs has checked within taken =
    record {
      within = within;
      stays = stay_settled s s t (keeps_settled s t keeps) (stay_own s);
      prompted = λ req x at is. prompted req x at is;
      run = record {
        was = s;
        all = es;
        same = λ req. inl refl;
        held = tied_held s es has.tied;
        said = has.said;
        numbered = has.numbered;
        prompted = has.prompted;
        checked = checked;
        nothing = λ req x at fresh settled un none. never (sym (ap (λ (o : Option Asked). holds (has_settled s) o) at ∙ settled) ∙ fresh);
        asks = reads plain_of;
        reads = reads checked_of;
        drops = drops_none s t (reads is_dropped);
        gone = λ doc is. goes doc ∙ or_right (list_any (is_doc doc) docs) (is_gone s doc) is;
        goes = λ req x at. all_go (is_gone s) (is_gone t) docs goes x.asks;
      };
    }
  where
    t : Seen
    t = after s (record { event = event; actor = actor; row = rows.Delivered proc })

    requests : t.requests ≡ s.requests
    requests = rw first refl

    reads : {B : Type 0} (read : Asked → B) → SameReads read s.requests t.requests
    reads read r = ap (λ (l : List Asked). option_map read (request_in l r)) requests

    goes : (doc : DocId) → is_gone t doc ≡ (list_any (is_doc doc) docs || is_gone s doc)
    goes doc = death_goes s event actor proc death first doc ∙ ap (λ (b : Bool). b || is_gone s doc) (taken doc)

    no_answer : IsNoAnswer (slice_get (desk_of s proc).reports 0)
    no_answer = subst IsNoAnswer (sym first) tt

    keeps : KeepsQuestions s t
    keeps = delivered_keeps s event actor proc no_answer

    prompted : PromptedSettled t
    prompted =
        prompted_plain s t (reads plain_of) (λ doc is. goes doc ∙ or_right (list_any (is_doc doc) docs) (is_gone s doc) is) has.prompted
