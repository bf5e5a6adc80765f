-- The table stays tied to the log: over rows that leave it alone, and with each of its calls.
use Rattle.std.proofs.Common.{cond, ◌≡◌, ℕ, Bool, true, false, not, ◌&&◌, ◌||◌, List, [], ◌∷◌, map, Option, Some, None, refl, sym, ap, ◌∙◌, subst, arith}
use Rattle.std.specs.Prelude.{is_none, option_map}
use Rattle.std.specs.List.{list_all}
use Rattle.std.proofs.lemmas.Bool.{and_parts}
use Rattle.std.proofs.lemmas.Bool.Decides.{nat_tests}
use Rattle.tab_ids.specs.declared.DocId.{DocId}
use Rattle.tab_ids.specs.declared.JobId.{JobId}
use Rattle.tab_ids.specs.declared.ReqId.{ReqId}
use Rattle.log_model.specs.declared.handler.Verdict.{Verdict}
use Rattle.log_model.specs.Equal.{holds}
use Rattle.log_model.specs.Seen.{Seen, Asked, Asking, request_of}
use Rattle.log_model.specs.Places.{all_asked, is_gone, is_load, is_reload, is_settled_asking, is_traversal, is_under_way}
use Rattle.log_model.specs.Checks.{is_checked}
use Rattle.unload_check.specs.declared.check.Check.{Check}
use Rattle.unload_check.specs.declared.check.Check.TheVariants as checks
use Rattle.unload_check.specs.declared.asked_doc.AskedDoc.{AskedDoc}
use Rattle.unload_check.specs.Checks as table
use Rattle.unload_check.specs.Checks.{KeepsOthers, OpenCheck, begun, changed, check_of, ended, is_req, outcome_at, outcome_of}
use Rattle.seen_facts.proofs.Coord.Held.{fun_ext}
use Rattle.seen_facts.proofs.Request.Readers.{SameReads}
use Rattle.unload_check.proofs.Stays.{others_begun, others_ended}
use Rattle.check_facts.specs.Checking.{AnswerIs, AreChecksTied, AreOneEach, AreOthersTied, AreTiedAt, Checked, GoWith, IsCheckTied, IsTiedIn, as_heard, asked_of, checked_of, heard, is_checking, is_new, is_said, open_check}
use Rattle.check_facts.specs.Prompting.{is_asked}
use Rattle.check_facts.proofs.Checkings.{answer_tied, begun_tied, dead_tied}
use Rattle.check_facts.proofs.Tables.{check_begun, check_changed, check_dead, check_ended}

-- ---- rows that leave the table alone

-- nothing that is read of a question reads an answer before its delivery
heard_settled : (gone : DocId → Bool) (asks : List Asking) → list_all (is_settled_asking gone) (map as_heard asks) ≡ list_all (is_settled_asking gone) asks
heard_settled gone [] = refl
heard_settled gone (asking ∷ asks) = rw (heard_settled gone asks) refl

heard_check : (gone : DocId → Bool) (asks : List Asking) → map (asked_of gone) (map as_heard asks) ≡ map (asked_of gone) asks
heard_check gone [] = refl
heard_check gone (asking ∷ asks) = rw (heard_check gone asks) (by_test asking.is_delivered asking.verdict)
  where
    by_test : (b : Bool) (v : Option Verdict) → (let a : AskedDoc = record { doc = asking.doc; verdict = cond b (cond b v None) None; died = gone asking.doc } in a) ∷ map (asked_of gone) asks ≡ (let a : AskedDoc = record { doc = asking.doc; verdict = cond b v None; died = gone asking.doc } in a) ∷ map (asked_of gone) asks
    by_test true v = refl
    by_test false v = refl

-- what the tie reads: of a request, and who is gone
abbrev checking_of : (DocId → Bool) → Checked → Bool → Bool → Bool
checking_of gone x checked all =
    checked && (x.is_started && x.is_open) && not (all && (is_none x.prompted || holds not x.answered))

module _ (s t : Seen) (q r : Asked) (gone : is_gone t ≡ is_gone s) (same : checked_of r ≡ checked_of q) where
  pub all_same : all_asked t r ≡ all_asked s q
  all_same =
      sym (heard_settled (is_gone t) r.asks)
      ∙ ap (λ (g : DocId → Bool). list_all (is_settled_asking g) (map as_heard r.asks)) gone
      ∙ ap (λ (x : Checked). list_all (is_settled_asking (is_gone s)) x.asks) same
      ∙ heard_settled (is_gone s) q.asks

  checking_same : is_checking t r ≡ is_checking s q
  checking_same =
      ap (λ (b : Bool). checking_of (is_gone t) (checked_of r) (is_checked r) b) all_same
      ∙ ap (λ (b : Bool). checking_of (is_gone t) (checked_of r) b (all_asked s q)) kind
      ∙ ap (λ (x : Checked). checking_of (is_gone t) x (is_checked q) (all_asked s q)) same
    where
      kind : is_checked r ≡ is_checked q
      kind = ap (λ (x : Checked). is_load x.what || is_traversal x.what || is_reload x.what) same

  check_same : open_check (is_gone t) r.asks ≡ open_check (is_gone s) q.asks
  check_same =
      ap (λ (l : List AskedDoc). let c : OpenCheck = record { asked = l; stay = None } in c) (
      sym (heard_check (is_gone t) r.asks)
      ∙ ap (λ (g : DocId → Bool). map (asked_of g) (map as_heard r.asks)) gone
      ∙ ap (λ (x : Checked). map (asked_of (is_gone s)) x.asks) same
      ∙ heard_check (is_gone s) q.asks
      )

  by_all : (c : OpenCheck) (b : Bool) → IsCheckTied s q c b → IsCheckTied t r c b
  by_all c false is = is ∙ sym check_same
  by_all c true is = λ doc up. is doc (sym (ap (λ (x : Checked). x.prompted) same) ∙ up)

  pub tied_same : (check : Option OpenCheck) → AreTiedAt s (Some q) check → AreTiedAt t (Some r) check
  tied_same None is = checking_same ∙ is
  tied_same (Some c) is =
      (checking_same ∙ is.0, subst (λ (b : Bool). IsCheckTied t r c b) (sym all_same) (by_all c (all_asked s q) is.1))

-- so is a request whose reads, and the documents that are gone, are as they were
pub tie_stays : (s t : Seen) (es : List (ReqId × OpenCheck)) → ((doc : DocId) → is_gone t doc ≡ is_gone s doc) → SameReads checked_of s.requests t.requests → (req : ReqId) → IsTiedIn s es req → IsTiedIn t es req
tie_stays s t es gone reads req tied = by_found (request_of s req) (request_of t req) refl refl (reads req) tied
  where
    some_same : {a b : Checked} → (let o : Option Checked = Some a in o) ≡ Some b → a ≡ b
    some_same e = cc

    by_found : (o p : Option Asked) → request_of s req ≡ o → request_of t req ≡ p → option_map checked_of p ≡ option_map checked_of o → AreTiedAt s o (check_of req es) → AreTiedAt t p (check_of req es)
    by_found None None was is same tied = tied
    by_found None (Some r) was is same tied = absurd cc
    by_found (Some q) None was is same tied = absurd cc
    by_found (Some q) (Some r) was is same tied =
        tied_same s t q r (fun_ext gone) (some_same same) (check_of req es) tied

-- and the whole table
pub ties_stay : (s t : Seen) (es : List (ReqId × OpenCheck)) → ((doc : DocId) → is_gone t doc ≡ is_gone s doc) → SameReads checked_of s.requests t.requests → AreChecksTied s es → AreChecksTied t es
ties_stay s t es gone reads tied = record { each = λ req. tie_stays s t es gone reads req (tied.each req) }

-- ---- a call for one request leaves the others

others_stay : (t : Seen) (old new : List (ReqId × OpenCheck)) (hand : ReqId) → KeepsOthers hand old new → AreOthersTied t old hand → AreOthersTied t new hand
others_stay t old new hand keeps others req apart =
    subst (λ (o : Option OpenCheck). AreTiedAt t (request_of t req) o) (sym (keeps req apart)) (others req apart)

-- tied at one number, and at the others
whole : (t : Seen) (es : List (ReqId × OpenCheck)) (hand : ReqId) → AreOthersTied t es hand → IsTiedIn t es hand → AreChecksTied t es
whole t es hand others own = record { each = λ req. by_number req (is_req req hand) refl }
  where
    by_number : (req : ReqId) (b : Bool) → is_req req hand ≡ b → IsTiedIn t es req
    by_number req false e = others req e
    by_number req true e =
        let it : req ≡ hand = ap (λ (n : ℕ). let r : ReqId = record { 0 = n } in r) (let n : req.0 ≡ hand.0 = grind (arith, nat_tests, e) in n) in
        subst (λ (r : ReqId). IsTiedIn t es r) (sym it) own

-- ---- a check begins

-- questions that were just asked are open
new_open : (gone : DocId → Bool) (asks : List Asking) → is_asked asks ≡ true → list_all (is_new gone) asks ≡ true → list_all (is_settled_asking gone) asks ≡ false
new_open gone [] asked new = cc
new_open gone (asking ∷ asks) asked new =
    let parts = and_parts (is_new gone asking) (list_all (is_new gone) asks) new in
    let one : is_settled_asking gone asking ≡ false = by_tests asking.is_delivered (gone asking.doc) parts.0 in
    rw one refl
  where
    by_tests : (b g : Bool) → (not b && not g) ≡ true → (b || g) ≡ false
    by_tests true g e = cc
    by_tests false true e = cc
    by_tests false false e = refl

pub begun_ties : (t : Seen) (es : List (ReqId × OpenCheck)) (hand : ReqId) (q : Asked) → AreOthersTied t es hand → request_of t hand ≡ Some q → is_checked q ≡ true → is_under_way q ≡ true → is_asked q.asks ≡ true → list_all (is_new (is_gone t)) q.asks ≡ true → AreChecksTied t (begun hand (table.opened (map (λ (asking : Asking). asking.doc) q.asks)) es)
begun_ties t es hand q others found checked under asked new =
    whole t (begun hand check es) hand (others_stay t es (begun hand check es) hand (others_begun hand check es) others) own
  where
    check : OpenCheck
    check = table.opened (map (λ (asking : Asking). asking.doc) q.asks)

    open_ : all_asked t q ≡ false
    open_ = new_open (is_gone t) q.asks asked new

    checking : is_checking t q ≡ true
    checking = rw (checked, under, open_) refl

    tied : IsCheckTied t q check (all_asked t q)
    tied = subst (λ (b : Bool). IsCheckTied t q check b) (sym open_) (sym (begun_tied (is_gone t) q.asks new))

    own : IsTiedIn t (begun hand check es) hand
    own = rw (found, check_begun hand check es) (checking, tied)

-- ---- a check ends

pub ended_ties : (t : Seen) (es : List (ReqId × OpenCheck)) (hand : ReqId) → AreOthersTied t es hand → ((q : Asked) → request_of t hand ≡ Some q → is_checking t q ≡ false) → AreChecksTied t (ended hand es)
ended_ties t es hand others past =
    whole t (ended hand es) hand (others_stay t es (ended hand es) hand (others_ended hand es) others) (rw (check_ended hand es) (by_found (request_of t hand) refl))
  where
    by_found : (o : Option Asked) → request_of t hand ≡ o → AreTiedAt t o None
    by_found None is = refl
    by_found (Some q) is = past q is

-- ---- an answer

-- of a request with a question open: the table has the check of the questions after the delivery
pub answer_at : (s t : Seen) (es : List (ReqId × OpenCheck)) (hand : ReqId) (job : JobId) (doc : DocId) (verdict : Verdict) (q : Asked) → AreTiedAt s (Some q) (check_of hand es) → is_checking s q ≡ true → all_asked s q ≡ false → list_all is_said q.asks ≡ true → AreOneEach job doc q.asks → AnswerIs job verdict q.asks → ((d : DocId) → is_gone t d ≡ is_gone s d) → check_of hand (changed hand (table.after_answer doc verdict) es) ≡ Some (open_check (is_gone t) (map (heard job) q.asks))
answer_at s t es hand job doc verdict q tied checking open_ said one says gone =
    check_changed hand (table.after_answer doc verdict) es ∙ by_check (check_of hand es) tied
  where
    by_check : (o : Option OpenCheck) → AreTiedAt s (Some q) o → option_map (table.after_answer doc verdict) o ≡ Some (open_check (is_gone t) (map (heard job) q.asks))
    by_check None is = absurd cc
    by_check (Some c) is =
        let own : c ≡ open_check (is_gone s) q.asks = subst (λ (b : Bool). IsCheckTied s q c b) open_ is.1 in
        ap (λ (x : OpenCheck). let o : Option OpenCheck = Some (table.after_answer doc verdict x) in o) own
        ∙ ap (λ (x : OpenCheck). let o : Option OpenCheck = Some x in o) (answer_tied (is_gone s) job doc verdict q.asks said open_ one says)
        ∙ ap (λ (g : DocId → Bool). let o : Option OpenCheck = Some (open_check g (map (heard job) q.asks)) in o) (sym (fun_ext gone))

-- so where another question is open still, the whole table is tied
pub answer_ties : (t : Seen) (es new : List (ReqId × OpenCheck)) (hand : ReqId) (q : Asked) → KeepsOthers hand es new → AreOthersTied t es hand → request_of t hand ≡ Some q → is_checking t q ≡ true → all_asked t q ≡ false → check_of hand new ≡ Some (open_check (is_gone t) q.asks) → AreChecksTied t new
answer_ties t es new hand q keeps others found checking open_ at =
    whole t new hand (others_stay t es new hand keeps others) (rw (found, at) (checking, subst (λ (b : Bool). IsCheckTied t q (open_check (is_gone t) q.asks) b) (sym open_) refl))

-- ---- documents that go

-- of a request with a question open: the table has the check of the questions with these documents gone
pub dead_at : (s t : Seen) (es : List (ReqId × OpenCheck)) (req : ReqId) (docs : List DocId) (q : Asked) → AreTiedAt s (Some q) (check_of req es) → is_checking s q ≡ true → all_asked s q ≡ false → list_all is_said q.asks ≡ true → GoWith (is_gone s) (is_gone t) docs q.asks → check_of req (table.after_all_deaths docs es) ≡ Some (open_check (is_gone t) q.asks)
dead_at s t es req docs q tied checking open_ said gone =
    check_dead req docs es ∙ by_check (check_of req es) tied
  where
    by_check : (o : Option OpenCheck) → AreTiedAt s (Some q) o → option_map (table.after_deaths docs) o ≡ Some (open_check (is_gone t) q.asks)
    by_check None is = absurd cc
    by_check (Some c) is =
        let own : c ≡ open_check (is_gone s) q.asks = subst (λ (b : Bool). IsCheckTied s q c b) open_ is.1 in
        ap (λ (x : OpenCheck). let o : Option OpenCheck = Some (table.after_deaths docs x) in o) own
        ∙ ap (λ (x : OpenCheck). let o : Option OpenCheck = Some x in o) (dead_tied (is_gone s) (is_gone t) docs q.asks gone said open_)

-- where the prompt is up, it stays up
pub up_at : (s t : Seen) (es : List (ReqId × OpenCheck)) (req : ReqId) (docs : List DocId) (q : Asked) (check : OpenCheck) (doc : DocId) → check_of req es ≡ Some check → IsCheckTied s q check true → q.prompted ≡ Some doc → check_of req (table.after_all_deaths docs es) ≡ Some check
up_at s t es req docs q check doc at tied up =
    check_dead req docs es
    ∙ ap (λ (o : Option OpenCheck). option_map (table.after_deaths docs) o) at
    ∙ ap (λ (c : OpenCheck). let o : Option OpenCheck = Some c in o) same
  where
    by_settled : (b : Bool) → table.is_settled check ≡ b → outcome_of check ≡ checks.Prompt doc → table.is_settled check ≡ true
    by_settled true is e = is
    by_settled false is e =
        let waits : outcome_of check ≡ checks.Waiting = rw is refl in
        let never : checks.Waiting ≡ checks.Prompt doc = sym waits ∙ e in
        absurd cc

    same : table.after_deaths docs check ≡ check
    same = rw (by_settled (table.is_settled check) refl (tied doc up)) refl

-- ---- the user's answer

-- the check whose prompt is up has come to what the user said
pub user_at : (req : ReqId) (es : List (ReqId × OpenCheck)) (check : OpenCheck) (doc : DocId) (stay : Bool) → check_of req es ≡ Some check → outcome_of check ≡ checks.Prompt doc → outcome_at req (changed req (table.after_user stay) es) ≡ Some (table.decided (Some doc) (Some stay))
user_at req es check doc stay at up =
    ap (λ (o : Option OpenCheck). option_map outcome_of o) (check_changed req (table.after_user stay) es ∙ ap (λ (o : Option OpenCheck). option_map (table.after_user stay) o) at)
    ∙ ap (λ (c : Check). let o : Option Check = Some c in o) (word ∙ by_settled (table.is_settled check) refl (table.prompting_doc check.asked) check.stay refl refl up)
  where
    word : outcome_of (table.after_user stay check) ≡ outcome_of (record check { stay = Some stay })
    word = rw up refl

    by_settled : (b : Bool) → table.is_settled check ≡ b → (o : Option DocId) (st : Option Bool) → table.prompting_doc check.asked ≡ o → check.stay ≡ st → outcome_of check ≡ checks.Prompt doc → outcome_of (record check { stay = Some stay }) ≡ table.decided (Some doc) (Some stay)
    by_settled false is o st due said e = let never : checks.Waiting ≡ checks.Prompt doc = sym (rw is refl) ∙ e in absurd cc
    by_settled true is None st due said e =
        let goes : outcome_of check ≡ checks.Go = rw (is, due) refl in
        let never : checks.Go ≡ checks.Prompt doc = sym goes ∙ e in
        absurd cc
    by_settled true is (Some d) None due said e =
        let asks : outcome_of check ≡ checks.Prompt d = rw (is, due, said) refl in
        let both : checks.Prompt d ≡ checks.Prompt doc = sym asks ∙ e in
        let same : d ≡ doc = cc both in
        rw (is, due) (ap (λ (x : DocId). table.decided (Some x) (Some stay)) same)
    by_settled true is (Some d) (Some true) due said e =
        let stays : outcome_of check ≡ checks.Stay = rw (is, due, said) refl in
        let never : checks.Stay ≡ checks.Prompt doc = sym stays ∙ e in
        absurd cc
    by_settled true is (Some d) (Some false) due said e =
        let goes : outcome_of check ≡ checks.Go = rw (is, due, said) refl in
        let never : checks.Go ≡ checks.Prompt doc = sym goes ∙ e in
        absurd cc
