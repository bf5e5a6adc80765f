-- What is known of questions, prompts and answers stays over the rows of an event: over all that pass, over a request that begins and asks, over a prompt, and where the event is cut.
use Rattle.std.proofs.Common.{◌≡◌, ◌+◌, Bool, true, List, [], ◌∷◌, ◌++◌, Option, Some, refl, sym, subst}
use Rattle.tab_ids.specs.declared.DocId.{DocId}
use Rattle.tab_ids.specs.declared.ReqId.{ReqId}
use Rattle.tab_ids.specs.declared.Step.{Step}
use Rattle.log_model.specs.declared.job.Job.{Job}
use Rattle.log_model.specs.declared.row_kind.LogRow.{LogRow}
use Rattle.log_model.specs.declared.row_kind.RowKind.{RowKind}
use Rattle.log_model.specs.declared.row_kind.RowKind.TheVariants as rows
use Rattle.log_model.specs.After.{after}
use Rattle.log_model.specs.Orders.{Question}
use Rattle.log_model.specs.Seen.{Asked, Seen, request_of}
use Rattle.seen_laws.proofs.InEvents.{log_more}
use Rattle.seen_laws.specs.Blocks.{EachPass, Here, on_row, on_rows, point_at}
use Rattle.seen_laws.specs.InEvent.{InEvent, cut, log_of, row_of}
use Rattle.asking_facts.proofs.Askable.{row_askable, sent_askable}
use Rattle.asking_facts.proofs.Beginning.{questions_early}
use Rattle.asking_facts.proofs.Begun.{block_log, begun_own, once_begun}
use Rattle.asking_facts.proofs.Early.{early_row}
use Rattle.asking_facts.proofs.Passed.{known_on, known_passed}
use Rattle.asking_facts.proofs.Sent.{when_asked}
use Rattle.asking_facts.proofs.Standing.{kept_cut}
use Rattle.asking_facts.proofs.Unanswered.{unanswered_row}
use Rattle.asking_facts.proofs.Wanted.{wanted_row}
use Rattle.asking_facts.proofs.WaitingBegun.{begun_wait}
use Rattle.asking_facts.specs.Asking.{AreQuestions, BeginsToAsk, begun_asking}
use Rattle.asking_facts.specs.Known.{AskingKnown, KeepsKnown}
use Rattle.asking_facts.specs.Prompting.{AllWanted, NoneAnsweredEarly, has_wanted}
use Rattle.asking_facts.specs.Waiting.{AreApartDocs}

-- ---- rows that pass

-- each asks first, or for a document that wants it
abbrev pub EachKeepsKnown : Here → List LogRow → Type 0
EachKeepsKnown h [] = Unit {0}
EachKeepsKnown h (row ∷ rows_) = KeepsKnown h.now row.row × EachKeepsKnown (on_row h row) rows_

pub known_rows : (h : Here) (rows_ later : List LogRow) → EachPass h rows_ later → EachKeepsKnown h rows_ → AskingKnown h.now → AskingKnown (on_rows h rows_).now
known_rows h [] later pass keeps known = known
known_rows h (row ∷ rows_) later pass keeps known =
    known_rows (on_row h row) rows_ later pass.1 keeps.1 (known_passed h.header (point_at h (rows_ ++ later)) row pass.0 keeps.0 known)

-- ---- a request begins and asks

unanswered_sent : (e : InEvent) (s : Seen) (jobs : List Job) → NoneAnsweredEarly s → NoneAnsweredEarly (when_asked e s jobs)
unanswered_sent e s [] none = none
unanswered_sent e s (job ∷ jobs) none =
    unanswered_sent e (after s (row_of e (rows.Sent job))) jobs (unanswered_row s (row_of e (rows.Sent job)) tt none)

wanted_sent : (e : InEvent) (s : Seen) (jobs : List Job) → AllWanted s → AllWanted (when_asked e s jobs)
wanted_sent e s [] all = all
wanted_sent e s (job ∷ jobs) all =
    wanted_sent e (after s (row_of e (rows.Sent job))) jobs (wanted_row s (row_of e (rows.Sent job)) tt all)

-- where no document is asked twice
pub known_begun : (e : InEvent) (out : List RowKind) (req : ReqId) (goal : Option Step) (questions : List Question) (jobs : List Job) (q : Asked) → BeginsToAsk (log_of e out) req goal questions q → AreQuestions (log_of e out) req questions jobs → AreApartDocs questions → AskingKnown (log_of e out) → AskingKnown (log_of e (out ++ begun_asking req goal jobs))
known_begun e out req goal questions jobs q begins are apart known =
    subst AskingKnown (sym (block_log e out req goal jobs)) (record {
      early = questions_early e now req first (now.jobs + 1) questions jobs _ are (begun_own e now req goal questions jobs q begins are) refl (early_row now (row_of e (rows.Started req goal)) tt known.early);
      waits = begun_wait e now req goal questions jobs q begins are apart known.waits;
      unanswered = unanswered_sent e first jobs (unanswered_row now (row_of e (rows.Started req goal)) tt known.unanswered);
      wanted = wanted_sent e first jobs (wanted_row now (row_of e (rows.Started req goal)) tt known.wanted);
      askable = sent_askable e first jobs (row_askable now (row_of e (rows.Started req goal)) known.askable);
    })
  where
    now : Seen
    now = log_of e out

    first : Seen
    first = once_begun e now req goal questions jobs q begins are

-- ---- the user is asked

pub known_prompted : (e : InEvent) (out : List RowKind) (req : ReqId) (doc : DocId) → ((q : Asked) → request_of (log_of e out) req ≡ Some q → has_wanted doc q.asks ≡ true) → AskingKnown (log_of e out) → AskingKnown (log_of e (out ++ rows.Prompted req doc ∷ []))
known_prompted e out req doc wants known =
    subst AskingKnown (sym (log_more e out (rows.Prompted req doc))) (known_on (log_of e out) (row_of e (rows.Prompted req doc)) tt tt tt wants known)

-- ---- the event is cut

pub known_cut : (e : InEvent) (out : List RowKind) (checking : ReqId → Bool) (due : Seen → Bool) → AskingKnown (log_of e out) → AskingKnown (log_of (cut e out checking due) [])
known_cut e out checking due known = kept_cut e out checking due AskingKnown known
