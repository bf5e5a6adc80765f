-- Ends that undo nothing, one after the other, and what an event owes over one row more.
use Rattle.log_model.specs.After.{after}
use Rattle.log_model.specs.Places.{has_passed}
use Rattle.log_model.specs.Seen.{Asked, Seen}
use Rattle.log_model.specs.declared.row_kind.RowKind.{RowKind}
use Rattle.row_facts.specs.Owed.Owed.{IsLoose, IsOwed, Lasts, Stays, owes_from, owes_seen}
use Rattle.seen_laws.proofs.InEvents.{now_more}
use Rattle.seen_laws.specs.InEvent.{InEvent, IsReadOff, OwesNothing, now_of, row_of, seen_here}
use Rattle.seen_laws.specs.Owing.{owes_row}
use Rattle.std.proofs.Common.{Bool, List, [], append-nil, append_assoc, refl, subst, sym, true, ◌&&◌, ◌++◌, ◌∙◌, ◌∷◌, ◌≡◌}
use Rattle.std.proofs.lemmas.Bool.{and_parts}
use Rattle.std.proofs.lemmas.Option.{same_Some}

-- ---- what lasts

-- nothing is undone where nothing happens
pub lasts_refl : (s : Seen) → Lasts s s
lasts_refl s =
    record {
      asked = λ req q at. record { r = q; at = at; what = refl; nr = refl; began = λ is. is };
      places = λ nav place at. record { then_ = place; at = at; nav_is = refl; above = refl; added = refl; shown = refl };
      sole = λ req nav is. is;
    }

-- nor where neither of two stretches undoes anything
pub lasts_trans : (s t u : Seen) → Lasts s t → Lasts t u → Lasts s u
lasts_trans s t u first second =
    record {
      asked = λ req q at. let a = first.asked req q at in let b = second.asked req a.r a.at in record { r = b.r; at = b.at; what = b.what ∙ a.what; nr = b.nr ∙ a.nr; began = λ is. b.began (a.began is) };
      places = λ nav place at. let a = first.places nav place at in let b = second.places nav a.then_ a.at in record { then_ = b.then_; at = b.at; nav_is = b.nav_is ∙ a.nav_is; above = b.above ∙ a.above; added = b.added ∙ a.added; shown = b.shown ∙ a.shown };
      sole = λ req nav is. second.sole req nav (first.sole req nav is);
    }

-- ---- what stays

-- where nothing happens, nothing of this is undone
pub stays_refl : (s : Seen) → Stays s s
stays_refl s =
    record {
      lasts = lasts_refl s;
      history = refl;
      aim = refl;
      passed = λ req q r at there is. subst (λ (x : Asked). has_passed s x ≡ true) (same_Some _ _ (sym at ∙ there)) is;
      changes = λ req q r at there. let same : q ≡ r = same_Some _ _ (sym at ∙ there) in rw same refl;
      last = refl;
      unsettled = λ is. is;
      off = λ step nav is. is;
    }

-- nor where neither of two stretches undoes any of it
pub stays_trans : (s t u : Seen) → Stays s t → Stays t u → Stays s u
stays_trans s t u first second =
    record {
      lasts = lasts_trans s t u first.lasts second.lasts;
      history = second.history ∙ first.history;
      aim = second.aim ∙ first.aim;
      passed = λ req q r at there is. let a = first.lasts.asked req q at in second.passed req a.r r a.at there (first.passed req q a.r at a.at is);
      changes = λ req q r at there. let a = first.lasts.asked req q at in second.changes req a.r r a.at there ∙ first.changes req q a.r at a.at;
      last = second.last ∙ first.last;
      unsettled = λ is. second.unsettled (first.unsettled is);
      off = λ step nav is. second.off step nav (first.off step nav is);
    }

-- ---- what an event owes

-- what every end pays that undoes nothing of what lasts is paid by those, too, that undo nothing of what stays
pub loose_owed : (e : InEvent) (out : List RowKind) → IsLoose e out → IsOwed e out
loose_owed e out loose end stays = loose end stays.lasts

-- where the event ends here, all is paid
pub owed_paid : (e : InEvent) (out : List RowKind) → IsOwed e out → owes_seen e out (now_of e out) ≡ true
owed_paid e out owed = owed (now_of e out) (stays_refl (now_of e out))

-- an end that pays some rows, and one more
owes_last : (e : InEvent) (was more : List RowKind) (kind : RowKind) (end : Seen) → owes_from e was more end ≡ true → owes_row (seen_here e (was ++ more)) (row_of e kind) end ≡ true → owes_from e was (more ++ kind ∷ []) end ≡ true
owes_last e was [] kind end before own =
    rw (subst (λ (l : List RowKind). owes_row (seen_here e l) (row_of e kind) end ≡ true) (append-nil was) own) refl
owes_last e was (k ∷ more) kind end before own =
    let parts = and_parts (owes_row (seen_here e was) (row_of e k) end) (owes_from e (was ++ k ∷ []) more end) before in
    let rest = owes_last e (was ++ k ∷ []) more kind end parts.1 (subst (λ (l : List RowKind). owes_row (seen_here e l) (row_of e kind) end ≡ true) (sym (append_assoc was (k ∷ []) more)) own) in
    both (owes_row (seen_here e was) (row_of e k) end) (owes_from e (was ++ k ∷ []) (more ++ kind ∷ []) end) parts.0 rest
  where
    both : (a b : Bool) → a ≡ true → b ≡ true → (a && b) ≡ true
    both a b one other = rw one other

-- an end that pays the rows so far, and one more
pub owes_more : (e : InEvent) (out : List RowKind) (kind : RowKind) (end : Seen) → owes_seen e out end ≡ true → owes_row (seen_here e out) (row_of e kind) end ≡ true → owes_seen e (out ++ kind ∷ []) end ≡ true
owes_more e out kind end before own =
    let parts = and_parts (e.due end) (owes_from e [] out end) before in
    rw (parts.0, owes_last e [] out kind end parts.1 own) refl

-- a row more that undoes nothing of what stays, and is paid by the ends that undo nothing of it
pub owed_more : (e : InEvent) (out : List RowKind) (kind : RowKind) → IsReadOff e out kind → IsOwed e out → Stays (now_of e out) (after (now_of e out) (row_of e kind)) → ((end : Seen) → Stays (after (now_of e out) (row_of e kind)) end → owes_row (seen_here e out) (row_of e kind) end ≡ true) → IsOwed e (out ++ kind ∷ [])
owed_more e out kind read owed stays own end on =
    let then_ : Stays (after (now_of e out) (row_of e kind)) end = subst (λ (s : Seen). Stays s end) (now_more e out kind read) on in
    owes_more e out kind end (owed end (stays_trans (now_of e out) (after (now_of e out) (row_of e kind)) end stays then_)) (own end then_)

-- any row more, where the ends that undo nothing of what lasts after it pay both it and the rows before it
pub loose_since : (e : InEvent) (out : List RowKind) (kind : RowKind) → IsReadOff e out kind → ((end : Seen) → Lasts (after (now_of e out) (row_of e kind)) end → owes_seen e out end ≡ true) → ((end : Seen) → Lasts (after (now_of e out) (row_of e kind)) end → owes_row (seen_here e out) (row_of e kind) end ≡ true) → IsLoose e (out ++ kind ∷ [])
loose_since e out kind read before own end on =
    let then_ : Lasts (after (now_of e out) (row_of e kind)) end = subst (λ (s : Seen). Lasts s end) (now_more e out kind read) on in
    owes_more e out kind end (before end then_) (own end then_)

-- so they do where it undoes nothing of what lasts
pub loose_more : (e : InEvent) (out : List RowKind) (kind : RowKind) → IsReadOff e out kind → IsLoose e out → Lasts (now_of e out) (after (now_of e out) (row_of e kind)) → ((end : Seen) → Lasts (after (now_of e out) (row_of e kind)) end → owes_row (seen_here e out) (row_of e kind) end ≡ true) → IsLoose e (out ++ kind ∷ [])
loose_more e out kind read loose lasts own =
    loose_since e out kind read (λ end then_. loose end (lasts_trans (now_of e out) (after (now_of e out) (row_of e kind)) end lasts then_)) own

-- where the rows before the cut owe nothing, nothing is owed before any row is put out
pub loose_first : (e : InEvent) → OwesNothing e → IsLoose e []
loose_first e undue end on = rw (undue.due end) refl
