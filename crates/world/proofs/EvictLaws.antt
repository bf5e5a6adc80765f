-- The user has the document discarded that is kept longest.
use Rattle.std.proofs.Common.{◌≡◌, ℕ, ◌+◌, ◌<◌, inl, inr, true, false, ◌==◌, List, [], ◌∷◌, ◌++◌, length, map, fold, Option, Some, None, refl, sym, ap, ◌∙◌, subst, arith, append_assoc}
use Rattle.std.specs.Prelude.{option_and_then, option_map, is_some, not, IsSome}
use Rattle.std.proofs.lemmas.Bool.Decides.{nat_tests}
use Rattle.coord.specs.Evicting.{InEviction, longest_in}
use Rattle.coord.specs.Standing.{HasActed, IsOpenTo}
use Rattle.coord.specs.declared.coordinator.Coordinator.{Coordinator}
use Rattle.seen_facts.specs.Hang.Members.{Has}
use Rattle.seen_facts.specs.Kept.Keeping.{AreKeptDocs, state_in}
use Rattle.running_table.proofs.ForCallers.{quiet_told}
use Rattle.seen_facts.proofs.Kept.States.{states_oldest}
use Rattle.row_facts.specs.LeaveRows.Evicting.{IsEvictDue}
use Rattle.log_model.specs.declared.header.Header.{Header}
use Rattle.log_model.specs.declared.row_kind.Actor.TheVariants as actors
use Rattle.log_model.specs.declared.row_kind.LogRow.{LogRow}
use Rattle.log_model.specs.declared.row_kind.RowKind.{RowKind}
use Rattle.log_model.specs.declared.row_kind.RowKind.TheVariants as rows
use Rattle.log_model.specs.After.{after}
use Rattle.log_model.specs.Formed.{last_of}
use Rattle.log_model.specs.Logs.{seen_of}
use Rattle.log_model.specs.Seen.{Seen, Document, document_of}
use Rattle.tab_ids.specs.declared.DocId.{DocId}
use Rattle.tab_ids.specs.declared.ProcId.{ProcId}
use Rattle.tab_ids.specs.declared.StateId.{StateId}
use Rattle.coord.specs.PassedOn.{IsEvictAsk}
use Rattle.world.specs.declared.event.Event.TheVariants as events
use Rattle.world.specs.declared.event.Reply.TheVariants as replies
use Rattle.world.specs.declared.state.State.{State}
use Rattle.world.specs.Asking.{evicting}
use Rattle.proc_tables.specs.Desks.{desk_at, desk_noted}
use Rattle.proc_tables.specs.Views.{view_at}
use Rattle.world.specs.Notes.{endings_noted, row_with}
use Rattle.world.specs.Open.{IsOpen, row_limit}
use Rattle.world.specs.Steps.{Begins}
use Rattle.world.specs.Turns.{HasGone}
use Rattle.world.proofs.EventLaws.{works_on}
use Rattle.world.proofs.NoteLaws.{Keeping}

-- ---- the document that is kept longest

-- the last of a list that isn't empty
record IsLast (docs : List DocId) : Type 0 where
  pub doc : DocId
  pub last : last_of docs ≡ Some doc
  pub has : Has docs doc

last_there : (doc : DocId) (docs : List DocId) → IsLast (doc ∷ docs)
last_there doc [] = record { doc = doc; last = refl; has = inl refl }
last_there doc (next ∷ docs) =
    let its = last_there next docs in
    record { doc = its.doc; last = its.last; has = inr its.has }

-- it is there, of this document state
pub record IsLongest (s : Seen) (longest : StateId) : Type 0 where
  pub doc : DocId
  pub d : Document
  pub due : IsEvictDue s longest doc d

module _ (s : Seen) (kept : AreKeptDocs s) where
  there : (doc : DocId) → Has s.kept doc → (state : StateId) × (state_in s.documents doc ≡ Some state)
  there doc has =
      let its = kept.each doc has in
      (its.d.state, ap (λ (o : Option Document). option_map (λ (d : Document). d.state) o) its.found)

  oldest_is : longest_in s ≡ option_and_then (state_in s.documents) (last_of s.kept)
  oldest_is = states_oldest s.documents s.kept there

  -- one is kept longest just where one is kept
  pub kept_some : is_some (longest_in s) ≡ not (length s.kept == 0)
  kept_some = by_kept s.kept refl
    where
      by_kept : (docs : List DocId) → s.kept ≡ docs → is_some (longest_in s) ≡ not (length docs == 0)
      by_kept [] e = ap is_some (oldest_is ∙ ap (λ (l : List DocId). option_and_then (state_in s.documents) (last_of l)) e)
      by_kept (doc ∷ docs) e =
          let its = last_there doc docs in
          let at = there its.doc (subst (λ (l : List DocId). Has l its.doc) (sym e) its.has) in
          let some : longest_in s ≡ Some at.0 = oldest_is ∙ ap (λ (l : List DocId). option_and_then (state_in s.documents) (last_of l)) e ∙ ap (λ (o : Option DocId). option_and_then (state_in s.documents) o) its.last ∙ at.1 in
          let long : (length (doc ∷ docs) == 0) ≡ false = grind (arith, nat_tests) in
          ap (λ (o : Option StateId). is_some o) some ∙ sym (ap not long)

  pub longest_due : (longest : StateId) → longest_in s ≡ Some longest → IsLongest s longest
  longest_due longest is = by_last (last_of s.kept) refl
    where
      by_found : (doc : DocId) → last_of s.kept ≡ Some doc → (o : Option Document) → document_of s doc ≡ o → option_map (λ (d : Document). d.state) o ≡ Some longest → IsLongest s longest
      by_found doc last None e never = absurd cc
      by_found doc last (Some d) e its =
          record { doc = doc; d = d; due = record { last = last; found = e; state_is = cc } }

      by_last : (o : Option DocId) → last_of s.kept ≡ o → IsLongest s longest
      by_last None e =
          let none : longest_in s ≡ None = oldest_is ∙ ap (λ (x : Option DocId). option_and_then (state_in s.documents) x) e in
          absurd (let wrong : None ≡ Some longest = sym none ∙ is in cc)
      by_last (Some doc) e =
          by_found doc e (document_of s doc) refl (sym (oldest_is ∙ ap (λ (x : Option DocId). option_and_then (state_in s.documents) x) e) ∙ is)

-- ---- the event

-- what the coordinator asks of it
pub evicts_so : (v : InEviction) (header : Header) (log : List LogRow) (state : StateId) (c : Coordinator) (out : List RowKind) → v ≡ evicting header log state → IsEvictAsk v.event state → IsOpenTo v.event c → out ≡ [] → IsEvictAsk v.event v.state × (IsOpenTo v.event c × (out ≡ []))
evicts_so v header log state c out is asks open_ none =
    (subst (λ (x : StateId). IsEvictAsk v.event x) (sym (ap (λ (x : InEviction). x.state) is)) asks, (open_, none))

module _ (header : Header) (log : List LogRow) (t : State) (is : IsOpen header log t) where
  abbrev s : Seen
  s = seen_of log

  pub kept_docs : AreKeptDocs (seen_of log)
  kept_docs = is.keeps.stands.but.stands.between.tab.kept

  -- the one that is kept longest is there
  pub evict_due : (length s.kept == 0) ≡ false → IsSome (longest_in (seen_of log))
  evict_due some =
      let there_ : is_some (longest_in s) ≡ true = kept_some s kept_docs ∙ ap not some in
      by_option (longest_in s) there_
    where
      by_option : (o : Option StateId) → is_some o ≡ true → IsSome o
      by_option None never = absurd cc
      by_option (Some x) e = refl

  module _ (short : length log < row_limit) (longest : StateId) (at : longest_in (seen_of log) ≡ Some longest) where
    its : IsLongest s longest
    its = longest_due s kept_docs longest at

    pub evict_asks : IsEvictAsk (evicting header log longest).event longest
    evict_asks = record { by_user = refl; own = refl; doc = its.doc; document = its.d; due = its.due }

    own : RowKind
    own = rows.Evicted longest

    begins : (out : List RowKind) → Begins s events.Evict replies.Evicted (rows.Evicted longest) out
    begins out =
        (refl, rw (its.due.last, its.due.found) (ap (λ (x : StateId). rows.Evicted x) (sym its.due.state_is)))

    kept_on : Keeping header (after s (row_with s.events actors.Ui (rows.Evicted longest))) s.events (desk_at t.desks) (view_at t.views) t.runners t.endings.items
    kept_on =
        record {
          events = refl;
          desks = is.holds.desks;
          views = is.holds.views;
          runners = quiet_told s s.events actors.Ui (rows.Evicted longest) t.runners tt tt is.holds.runners;
          endings = is.holds.endings;
          sited = is.sited;
        }

    rows_same : (n m : ℕ) (out : List RowKind) → n ≡ m → (log ++ row_with n actors.Ui (rows.Evicted longest) ∷ []) ++ map (row_with n actors.Ui) out ≡ log ++ row_with m actors.Ui (rows.Evicted longest) ∷ map (row_with m actors.Ui) out
    rows_same n m out same =
        append_assoc log (row_with n actors.Ui (rows.Evicted longest) ∷ []) (map (row_with n actors.Ui) out)
        ∙ ap (λ (k : ℕ). log ++ row_with k actors.Ui (rows.Evicted longest) ∷ map (row_with k actors.Ui) out) same

    pub evict_gone : (out : List RowKind) (new : State) (longer : List LogRow) → HasActed (evicting header log longest).event out new.coordinator → new.events ≡ t.events + 1 → new.views ≡ t.views → new.runners ≡ t.runners → ((proc : ProcId) → desk_at new.desks proc ≡ fold (desk_noted proc) (desk_at t.desks proc) out) → new.endings.items ≡ fold endings_noted t.endings.items out → longer ≡ (log ++ row_with t.events actors.Ui (rows.Evicted longest) ∷ []) ++ map (row_with t.events actors.Ui) out → HasGone header events.Evict replies.Evicted log longer new
    evict_gone out new longer acted events_ views run desks ends_ more =
        let whole = more ∙ rows_same t.events s.events out (sym is.holds.events) in
        record {
          happened = record { own = rows.Evicted longest; out = out; begins = begins out; log = whole };
          stands = subst (λ (l : List LogRow). IsOpen header l new) (sym whole) (works_on header log t is short actors.Ui (rows.Evicted longest) out new (desk_at t.desks) t.endings.items tt refl acted kept_on events_ views run desks ends_);
        }
