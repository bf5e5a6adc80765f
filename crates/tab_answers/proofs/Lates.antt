-- An answer comes late, to a request whose questions were all settled, or that is in no check any more: the event's row passes, and the table of unload checks stands for the log as it is.
use Rattle.asking_facts.proofs.Known.{known_rows}
use Rattle.asking_facts.proofs.Late.{late_duly, report_passes}
use Rattle.asking_facts.proofs.Ones.{one_tied}
use Rattle.asking_facts.proofs.Owns.{report_pass}
use Rattle.asking_facts.specs.Known.{AskingKnown}
use Rattle.asking_facts.specs.Ones.{ChangesOne}
use Rattle.check_facts.proofs.Hearings.{answered, gone_same, heard_drops, heard_keeps, hearing, request_heard, requests_are}
use Rattle.check_facts.specs.Checking.{AnswerIs, AreChecksTied, AreTiedAt, IsCheckTied, is_checking}
use Rattle.checking_facts.proofs.Askings.{heard_waits}
use Rattle.checking_facts.proofs.Grown.{req_same}
use Rattle.checking_facts.proofs.Tellings.{dropped_unchecked}
use Rattle.checking_facts.proofs.Waits.{none_waits}
use Rattle.checking_facts.specs.Checks.{just}
use Rattle.checking_facts.specs.Prompts.{AreAskedDuly}
use Rattle.log_model.proofs.Refl.{nat_eq_refl}
use Rattle.log_model.specs.Checks.{is_checked}
use Rattle.log_model.specs.Places.{all_asked, has_passed, is_load, is_reload, is_traversal, is_under_way, may_leave}
use Rattle.log_model.specs.Seen.{Asked, Seen, request_in, request_of}
use Rattle.log_model.specs.declared.handler.Verdict.{Verdict}
use Rattle.log_model.specs.declared.header.Header.{Header}
use Rattle.log_model.specs.declared.job.Job.{Job}
use Rattle.log_model.specs.declared.made.Report.TheVariants as reports
use Rattle.log_model.specs.declared.outcome.Outcome.TheVariants as outcomes
use Rattle.log_model.specs.declared.row_kind.Actor.TheVariants as actors
use Rattle.log_model.specs.declared.row_kind.LogRow.{LogRow}
use Rattle.log_model.specs.declared.row_kind.RowKind.TheVariants as rows
use Rattle.seen_facts.proofs.Coord.Held.{on_else}
use Rattle.seen_laws.specs.Blocks.{EachPass}
use Rattle.seen_laws.specs.InEvent.{InEvent, IsTakenIn, rows_of, start_of}
use Rattle.std.proofs.Common.{Bool, List, None, Option, Some, [], ap, cond, false, inl, inr, not, refl, subst, sym, true, ℕ, ◌&&◌, ◌==◌, ◌||◌, ◌∙◌, ◌≡◌, ◌⊎◌}
use Rattle.tab_answers.proofs.Asked.{said_so}
use Rattle.tab_answers.proofs.Tables.{Free, tied_pass, tied_stand}
use Rattle.tab_answers.specs.Answering.{TellsAnswer}
use Rattle.tab_ids.specs.declared.ProcId.{ProcId}
use Rattle.tab_ids.specs.declared.ReqId.{ReqId}
use Rattle.tab_stands.specs.Checked.{ChecksStand}
use Rattle.unasked_dues.specs.Checking.{NonePasses}
use Rattle.unload_check.specs.Checks.{OpenCheck, check_of}

never : {A : Type 0} → true ≡ false → A
never e = absurd cc

some_same : {A : Type 0} {a b : A} → (let o : Option A = Some a in o) ≡ Some b → a ≡ b
some_same e = cc

module _ (header : Header) (s : Seen) (event : ℕ) (checking : ReqId → Bool) (proc : ProcId) (job : Job) (verdict : Verdict) (r : ReqId) (tells : TellsAnswer s proc job verdict r) (es : List (ReqId × OpenCheck)) (asks : ChecksStand checking s es) (known : AskingKnown s) (q : Asked) (found : request_of s r ≡ Some q) (late : (all_asked s q ≡ true) ⊎ (is_checking s q ≡ false)) where
  says : AnswerIs job.nr verdict q.asks
  says = (said_so s proc job verdict r tells known q found).1

  -- the event, the log once the answer is delivered, and the request then
  abbrev pub e : InEvent
  e =
      record { header = header; start = s; event = event; actor = actors.Coord; own = rows.Delivered proc; before = []; ran = []; checking = checking; due = λ end. true; wants = λ behind. true }

  abbrev pub t : Seen
  t = hearing s event actors.Coord proc job verdict None tells.first r tells.why

  abbrev then : Asked
  then = answered s event actors.Coord proc job verdict None tells.first r tells.why q

  there : request_of t r ≡ Some then
  there =
      request_heard s event actors.Coord proc job verdict None tells.first r tells.why r q found
      ∙ ap (λ (b : Bool). let o : Option Asked = Some (cond b then q) in o) (let itself : (r.0 == r.0) ≡ true = nat_eq_refl r.0 in itself)

  duly : AreAskedDuly checking s t (record { checks = es; run = [] })
  duly =
      late_duly s event actors.Coord proc job verdict None tells.first r tells.why checking es asks.has asks.open_ asks.within q found says late

  -- what was settled is
  settled_on : all_asked s q ≡ true → all_asked t then ≡ true
  settled_on all =
      let k = (heard_keeps s event actors.Coord proc job verdict None tells.first r tells.why).later r q found in
      let it : k.after_ ≡ then = some_same (sym k.found ∙ there) in
      ap (all_asked t) (sym it) ∙ k.settled all

  -- all were settled, or it is in no check with one open
  which : (b : Bool) → all_asked s q ≡ b → (all_asked s q ≡ true) ⊎ ((all_asked s q ≡ false) × (is_checking s q ≡ false))
  which true all = inl all
  which false still = inr (still, by_late late)
    where
      by_late : (all_asked s q ≡ true) ⊎ (is_checking s q ≡ false) → is_checking s q ≡ false
      by_late (inl all) = never (sym all ∙ still)
      by_late (inr un) = un

  -- ---- the table is tied still

  tied_one : AreTiedAt t (Some then) (check_of r es)
  tied_one =
      by_case (which (all_asked s q) refl) (check_of r es) (subst (λ (o : Option Asked). AreTiedAt s o (check_of r es)) found (asks.has.tied.each r))
    where
      same : all_asked s q ≡ true → is_checking t then ≡ is_checking s q
      same all =
          ap (λ (b : Bool). is_checked q && is_under_way q && not (b && may_leave q)) (settled_on all ∙ sym all)

      by_case : (all_asked s q ≡ true) ⊎ ((all_asked s q ≡ false) × (is_checking s q ≡ false)) → (o : Option OpenCheck) → AreTiedAt s (Some q) o → AreTiedAt t (Some then) o
      by_case (inl all) None is = same all ∙ is
      by_case (inl all) (Some c) is =
          (same all ∙ is.0, subst (λ (b : Bool). IsCheckTied t then c b) (sym (settled_on all)) (subst (λ (b : Bool). IsCheckTied s q c b) all is.1))
      by_case (inr un) None is = dropped_unchecked t then (asks.open_ r q found un.0 un.1)
      by_case (inr un) (Some c) is = never (sym is.0 ∙ un.1)

  change : ChangesOne s t r
  change =
      record {
        others = λ req apart. ap (λ (l : List Asked). request_in l req) (requests_are s event actors.Coord proc job verdict None tells.first r tells.why) ∙ on_else s.requests r (answered s event actors.Coord proc job verdict None tells.first r tells.why) req apart;
        gone = gone_same s event actors.Coord proc job verdict None tells.first r tells.why;
      }

  tied : AreChecksTied t es
  tied =
      one_tied s t r es es change (λ req apart. refl) asks.has.tied (subst (λ (o : Option Asked). AreTiedAt t o (check_of r es)) (sym there) tied_one)

  -- ---- the row passes

  takes_none : (later : List LogRow) → IsTakenIn e later
  takes_none later = rw tells.first refl

  pub late_pass : EachPass (start_of e) (rows_of e []) []
  late_pass =
      tied_pass e [] es duly tied (report_pass Free e es refl asks.has (heard_keeps s event actors.Coord proc job verdict None tells.first r tells.why) (heard_drops s event actors.Coord proc job verdict None tells.first r tells.why) (report_passes e proc (reports.Done job (outcomes.Asked verdict) None) refl refl refl tells.first)) refl (takes_none []) (λ moves. absurd cc)

  -- ---- no traversal in its check passes

  -- one that is under way hadn't passed, and leaves no more than it did
  own_waits : is_under_way q ≡ true → is_traversal q.what ≡ true → checking r ≡ true → has_passed t then ≡ false
  own_waits runs goes on = by_leave (may_leave q) refl
    where
      or_true : (a b c : Bool) → b ≡ true → (a || b || c) ≡ true
      or_true true b c is = refl
      or_true false true c is = refl
      or_true false false c is = cc

      checked : is_checked q ≡ true
      checked = or_true (is_load q.what) (is_traversal q.what) (is_reload q.what) goes

      no_end : (b : Bool) → (b && false) ≡ false
      no_end true = refl
      no_end false = refl

      by_case : may_leave q ≡ true → (all_asked s q ≡ true) ⊎ ((all_asked s q ≡ false) × (is_checking s q ≡ false)) → ⊥
      by_case leaves (inl all) =
          let passed : has_passed s q ≡ true = rw (all, leaves) refl in
          let no : true ≡ false = sym passed ∙ asks.calm r q found runs goes on in cc
      by_case leaves (inr un) =
          let waits : has_passed s q ≡ false = rw (un.0) refl in
          let in_check : is_checking s q ≡ true = rw (checked, runs, waits) refl in
          let no : true ≡ false = sym in_check ∙ un.1 in cc

      by_leave : (b : Bool) → may_leave q ≡ b → has_passed t then ≡ false
      by_leave false is = rw is (no_end (all_asked t then))
      by_leave true is = absurd (by_case is (which (all_asked s q) refl))

  calm : NonePasses checking t
  calm req x at runs goes on = by_number (req.0 == r.0) refl
    where
      by_number : (b : Bool) → (req.0 == r.0) ≡ b → has_passed t x ≡ false
      by_number false apart =
          heard_waits checking s event actors.Coord r (none_waits checking s asks.calm (just r)) proc job verdict None tells.first tells.why req x at runs goes on apart
      by_number true is =
          let it : req ≡ r = req_same req r is in
          let one : then ≡ x = some_same (sym there ∙ ap (λ (n : ReqId). request_of t n) (sym it) ∙ at) in
          subst (λ (y : Asked). has_passed t y ≡ false) one (own_waits (ap (λ (y : Asked). is_under_way y) one ∙ runs) (ap (λ (y : Asked). is_traversal y.what) one ∙ goes) (ap checking (sym it) ∙ on))

  pub late_known : AskingKnown t
  late_known = known_rows (start_of e) (rows_of e []) [] late_pass (tt, tt) known

  pub late_asks : ChecksStand checking t es
  late_asks = tied_stand checking s t es duly tied calm
