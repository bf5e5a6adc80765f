-- The table is told which documents a run has discarded, and which a death took: what it notes then is what is due.
use Rattle.std.proofs.Common.{◌≡◌, inl, inr, Bool, true, false, not, ◌&&◌, ◌||◌, List, [], ◌∷◌, Option, Some, None, refl, sym, ap, ◌∙◌, subst}
use Rattle.std.specs.Prelude.{is_none, is_some, option_and_then, option_map}
use Rattle.std.specs.List.{list_all}
use Rattle.std.proofs.lemmas.Bool.{and_parts}
use Rattle.tab_ids.specs.declared.DocId.{DocId}
use Rattle.tab_ids.specs.declared.ReqId.{ReqId}
use Rattle.log_model.specs.Equal.{holds}
use Rattle.log_model.specs.Outcomes.{is_drop}
use Rattle.log_model.specs.Seen.{Seen, Asked, Asking, request_of}
use Rattle.log_model.specs.Places.{all_asked, has_passed, is_gone, is_settled_asking, is_under_way, may_leave}
use Rattle.log_model.specs.Checks.{due_prompt, is_checked}
use Rattle.unload_check.specs.Checks as table
use Rattle.unload_check.specs.Checks.{OpenCheck, check_of, outcome_of}
use Rattle.unload_check.proofs.Stays.{settled_deaths}
use Rattle.seen_facts.proofs.Each.Courses.{was_asked}
use Rattle.seen_facts.proofs.Request.Readers.{SameReads}
use Rattle.check_facts.specs.Checking.{AreSaid, AreTiedAt, IsCheckTied, is_checking, is_said, open_check}
use Rattle.check_facts.specs.Having.{AllGoWith, AreHeld, IsHeld, OpenChecked}
use Rattle.check_facts.specs.Prompting.{DropsNone, HaveNumbers, NothingElseDue, has_settled, is_asked, prompt_of, todo_of}
use Rattle.check_facts.proofs.Carried.{nothing_noted}
use Rattle.check_facts.proofs.Notings.{NewsAreTold, todo_stays}
use Rattle.check_facts.proofs.Rows.{Plain, drops_stay, plain_of}
use Rattle.check_facts.proofs.Tables.{check_dead, todo_due, todo_none, todo_up}
use Rattle.check_facts.proofs.Ties.{dead_at}

-- from where the table holds each check to where it is told, nobody is asked, answered or dropped, and of the asked documents these are gone more
module _ (s t : Seen) (es : List (ReqId × OpenCheck)) (docs : List DocId) (held : AreHeld s es) (all_said : AreSaid s) (numbered : HaveNumbers s) (reads : SameReads plain_of s.requests t.requests) (drops : DropsNone s t) (gone : (doc : DocId) → is_gone s doc ≡ true → is_gone t doc ≡ true) (goes : AllGoWith s t docs) where
  abbrev pub told : List (ReqId × OpenCheck)
  told = table.after_all_deaths docs es

  -- one with a question open is tied
  tied_of : (req : ReqId) (q : Asked) → request_of s req ≡ Some q → all_asked s q ≡ false → AreTiedAt s (Some q) (check_of req es)
  tied_of req q found open_ = by_held (held req q found)
    where
      by_held : IsHeld s es req q → AreTiedAt s (Some q) (check_of req es)
      by_held (inl tied) = tied
      by_held (inr settled) = let both : true ≡ false = sym settled.0 ∙ open_ in absurd cc

  -- so one that isn't in a check has none
  unchecked : (req : ReqId) (q : Asked) → request_of s req ≡ Some q → all_asked s q ≡ false → is_checking s q ≡ false → check_of req told ≡ None
  unchecked req q was open_ not_ =
      check_dead req docs es
      ∙ ap (λ (o : Option OpenCheck). option_map (table.after_deaths docs) o) (by_check (check_of req es) (tied_of req q was open_))
    where
      by_check : (o : Option OpenCheck) → AreTiedAt s (Some q) o → o ≡ None
      by_check None tied = refl
      by_check (Some c) tied = let both : true ≡ false = sym tied.0 ∙ not_ in absurd cc

  -- one in a check is under way, so it wasn't dropped
  undropped : (q : Asked) → is_checking s q ≡ true → holds is_drop q.ending ≡ false
  undropped q checking =
      let first = and_parts (is_checked q && is_under_way q) (not (has_passed s q)) checking in
      let second = and_parts (is_checked q) (is_under_way q) first.0 in
      let third = and_parts q.is_started (is_none q.ending) second.1 in
      by_ending q.ending third.1
    where
      by_ending : (o : Option _) → is_none o ≡ true → holds is_drop o ≡ false
      by_ending None e = refl
      by_ending (Some ending) e = cc

  -- one with a question open has the check of its questions as they are now
  told_at : (req : ReqId) (q r : Asked) → request_of s req ≡ Some q → plain_of q ≡ plain_of r → is_checking s q ≡ true → all_asked s q ≡ false → check_of req told ≡ Some (open_check (is_gone t) r.asks)
  told_at req q r found same checking open_ =
      dead_at s t es req docs q (tied_of req q found open_) checking open_ (all_said req q found) (goes req q found)
      ∙ ap (λ (x : Plain). let o : Option OpenCheck = Some (open_check (is_gone t) x.asks) in o) same

  said_of : (req : ReqId) (q r : Asked) → request_of s req ≡ Some q → plain_of q ≡ plain_of r → list_all is_said r.asks ≡ true
  said_of req q r found same = sym (ap (λ (x : Plain). list_all is_said x.asks) same) ∙ all_said req q found

  -- one that is settled has the prompt that is up or is to come, or no check
  settled_todo : (req : ReqId) (q : Asked) → request_of s req ≡ Some q → all_asked s q ≡ true → todo_of told req ≡ todo_of es req
  settled_todo req q found settled = by_held (held req q found)
    where
      by_prompt : (c : OpenCheck) → check_of req es ≡ Some c → IsCheckTied s q c true → (o : Option DocId) → q.prompted ≡ o → is_some o ≡ true → todo_of told req ≡ todo_of es req
      by_prompt c at tied None up is = absurd cc
      by_prompt c at tied (Some doc) up is =
          todo_stays req es told (settled_deaths docs es) (ap (λ (o : Option DocId). is_some o) (todo_up s q req es c doc at tied up))

      prompted : (o : Option DocId) (a : Option Bool) → not (is_none o || holds not a) ≡ true → is_some o ≡ true
      prompted None a e = cc
      prompted (Some doc) a e = refl

      by_check : (o : Option OpenCheck) → check_of req es ≡ o → AreTiedAt s (Some q) o → todo_of told req ≡ todo_of es req
      by_check None at tied =
          let none : check_of req told ≡ None = check_dead req docs es ∙ ap (λ (o : Option OpenCheck). option_map (table.after_deaths docs) o) at in
          todo_none req told none ∙ sym (todo_none req es at)
      by_check (Some c) at tied =
          let parts = and_parts (is_checked q && is_under_way q) (not (has_passed s q)) tied.0 in
          let up : not (may_leave q) ≡ true = sym (ap (λ (b : Bool). not (b && may_leave q)) settled) ∙ parts.1 in
          by_prompt c at (subst (λ (b : Bool). IsCheckTied s q c b) settled tied.1) q.prompted refl (prompted q.prompted q.answered up)

      by_held : IsHeld s es req q → todo_of told req ≡ todo_of es req
      by_held (inl tied) = by_check (check_of req es) refl tied
      by_held (inr stays) =
          ap (λ (o : Option OpenCheck). option_and_then prompt_of (option_map outcome_of o)) (settled_deaths docs es req stays.1)

  -- a prompt that is noted now for the first time is that of a check as it is
  pub news_told : NewsAreTold t es told
  news_told req r found none some =
      let q = was_asked plain_of s.requests t.requests reads req r found in
      by_all q.0 q.1 q.2 (all_asked s q.0) refl (is_checking s q.0) refl
    where
      never : (o : Option DocId) → o ≡ None → is_some o ≡ true → ⊥
      never None e is = cc
      never (Some doc) e is = cc

      by_all : (q : Asked) → request_of s req ≡ Some q → plain_of q ≡ plain_of r → (b : Bool) → all_asked s q ≡ b → (c : Bool) → is_checking s q ≡ c → (check_of req told ≡ Some (open_check (is_gone t) r.asks)) × (list_all is_said r.asks ≡ true) × (holds is_drop r.ending ≡ false)
      by_all q was same true all c checking =
          absurd (never (todo_of told req) (settled_todo req q was all ∙ none) some)
      by_all q was same false all false checking =
          absurd (never (todo_of told req) (todo_none req told (unchecked req q was all checking)) some)
      by_all q was same false all true checking =
          (told_at req q r was same checking all, said_of req q r was same, drops req q r was found ∙ undropped q checking)

  -- and nothing else is due
  pub told_nothing : (start : Seen) → OpenChecked s → NothingElseDue start (todo_of es) s → NothingElseDue start (todo_of told) t
  told_nothing start checked nothing =
      nothing_noted s t reads start (todo_of es) (todo_of told) (drops_stay s t drops) gone kept noted nothing
    where
      kept : (req : ReqId) (q : Asked) → request_of s req ≡ Some q → has_settled s q ≡ true → todo_of told q.nr ≡ todo_of es q.nr
      kept req q was is =
          let parts = and_parts (is_asked q.asks) (all_asked s q) is in
          let nr : q.nr ≡ req = numbered req q was in
          ap (todo_of told) nr ∙ settled_todo req q was parts.1 ∙ ap (todo_of es) (sym nr)

      some_open : (asks : List Asking) → is_asked asks ≡ true → (is_asked asks && list_all (is_settled_asking (is_gone s)) asks) ≡ false → list_all (is_settled_asking (is_gone s)) asks ≡ false
      some_open [] e f = cc
      some_open (asking ∷ asks) e f = f

      noted : (req : ReqId) (q r : Asked) → request_of s req ≡ Some q → request_of t req ≡ Some r → has_settled s q ≡ false → has_settled t r ≡ true → todo_of told r.nr ≡ due_prompt t r
      noted req q r was found open_ settled =
          let p = was_asked plain_of s.requests t.requests reads req r found in
          let it : p.0 ≡ q = some_same (sym p.1 ∙ was) in
          let same : plain_of q ≡ plain_of r = subst (λ (x : Asked). plain_of x ≡ plain_of r) it p.2 in
          let nr : r.nr ≡ req = sym (ap (λ (x : Plain). x.nr) same) ∙ numbered req q was in
          let parts = and_parts (is_asked r.asks) (all_asked t r) settled in
          let asked : is_asked q.asks ≡ true = ap (λ (x : Plain). is_asked x.asks) same ∙ parts.0 in
          ap (todo_of told) nr ∙ by_checking q r was found same parts.1 (some_open q.asks asked open_) (is_checking s q) refl
        where
          some_same : {a b : Asked} → (let o : Option Asked = Some a in o) ≡ Some b → a ≡ b
          some_same e = cc

          by_checking : (q r : Asked) → request_of s req ≡ Some q → request_of t req ≡ Some r → plain_of q ≡ plain_of r → all_asked t r ≡ true → all_asked s q ≡ false → (b : Bool) → is_checking s q ≡ b → todo_of told req ≡ due_prompt t r
          by_checking q r was found same all open_ true is =
              todo_due t r req told (told_at req q r was same is open_) (said_of req q r was same) all (drops req q r was found ∙ undropped q is)
          by_checking q r was found same all open_ false is =
              let at : check_of req told ≡ None = unchecked req q was open_ is in
              let dropped : holds is_drop r.ending ≡ true = drops req q r was found ∙ checked req q was open_ is in
              let none : due_prompt t r ≡ None = rw dropped refl in
              todo_none req told at ∙ sym none
