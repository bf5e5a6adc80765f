-- An event that goes on behind rows that were put out ends as the event itself, with all rows.
use Rattle.log_model.specs.Seen.{Seen}
use Rattle.log_model.specs.declared.header.Header.{Header}
use Rattle.log_model.specs.declared.row_kind.Actor.{Actor}
use Rattle.log_model.specs.declared.row_kind.LogRow.{LogRow}
use Rattle.log_model.specs.declared.row_kind.RowKind.{RowKind}
use Rattle.move_queue.specs.Queue.{Queue}
use Rattle.seen_laws.proofs.Cuts.{here_cut, rows_cut}
use Rattle.seen_laws.proofs.InEvents.{now_is}
use Rattle.seen_laws.specs.Blocks.{EachPass, Here}
use Rattle.seen_laws.specs.InEvent.{InEvent, cut, log_of, now_of, running, start_of, wanting}
use Rattle.seen_laws.specs.Unasked.{unasked}
use Rattle.std.proofs.Common.{Bool, List, [], ap, append-nil, append_assoc, refl, subst, sym, ℕ, ◌++◌, ◌∙◌, ◌≡◌}
use Rattle.tab_doors.specs.declared.tables.Tables.{Tables}
use Rattle.tab_ids.specs.declared.DocId.{DocId}
use Rattle.tab_ids.specs.declared.ReqId.{ReqId}
use Rattle.tab_ids.specs.declared.StateId.{StateId}
use Rattle.tab_stands.specs.Checked.{ChecksStand}
use Rattle.tab_stands.specs.GoingOn.{GoesOn}
use Rattle.tab_stands.specs.Standing.{HasActed, InCheck, LastsInLog, StandsFor}

-- the event with those in their checks
abbrev pub with_checking : InEvent → (ReqId → Bool) → InEvent
with_checking e checking = record e { checking = checking }

-- it is the event, cut behind these rows, where that run lasts
pub goes_is : (e : InEvent) (first : List RowKind) (at : InEvent) → GoesOn e first at → at ≡ running (wanting (cut e first at.checking at.due) at.wants) at.ran
goes_is e first at goes =
    ap (λ (h : Header). record at { header = h }) goes.header
    ∙ ap (λ (s : Seen). record at { header = e.header; start = s }) goes.start
    ∙ ap (λ (n : ℕ). record at { header = e.header; start = e.start; event = n }) goes.event
    ∙ ap (λ (a : Actor). record at { header = e.header; start = e.start; event = e.event; actor = a }) goes.actor
    ∙ ap (λ (k : RowKind). record at { header = e.header; start = e.start; event = e.event; actor = e.actor; own = k }) goes.own
    ∙ ap (λ (l : List RowKind). record at { header = e.header; start = e.start; event = e.event; actor = e.actor; own = e.own; before = l }) goes.before

-- an event goes on as itself behind no rows, as the one that was cut behind these, and so on
pub goes_first : (e : InEvent) → GoesOn e [] e
goes_first e = record { header = refl; start = refl; event = refl; actor = refl; own = refl; before = sym (append-nil e.before) }

pub goes_cut : (e : InEvent) (first : List RowKind) (at : InEvent) → GoesOn e first at → (out : List RowKind) (checking : ReqId → Bool) (due : Seen → Bool) (wants : List LogRow → Bool) → GoesOn e (first ++ out) (wanting (cut at out checking due) wants)
goes_cut e first at goes out checking due wants =
    record {
      header = goes.header;
      start = goes.start;
      event = goes.event;
      actor = goes.actor;
      own = goes.own;
      before = ap (λ (l : List RowKind). l ++ out) goes.before ∙ append_assoc e.before first out;
    }

-- what holds as that one ends holds as the event does, with all rows
module _ (e : InEvent) (first : List RowKind) (checking : ReqId → Bool) (due : Seen → Bool) (wants : List LogRow → Bool) (ran : List DocId) (more : List RowKind) where
  abbrev at : InEvent
  at = running (wanting (cut e first checking due) wants) ran

  same_log : log_of at more ≡ log_of (with_checking e checking) (first ++ more)
  same_log = ap (λ (h : Here). h.now) (here_cut e first checking due more)

  same_now : now_of at more ≡ now_of (with_checking e checking) (first ++ more)
  same_now =
      now_is at more
      ∙ ap (λ (s : Seen). unasked checking s) same_log
      ∙ sym (now_is (with_checking e checking) (first ++ more))

  cut_acts : {check : InCheck} (t : Tables) (queue : Queue) (blame : List (StateId × ReqId)) → HasActed check at more t queue blame → HasActed check (with_checking e checking) (first ++ more) t queue blame
  cut_acts {check} t queue blame acted =
      record {
        stands = subst (λ (s : Seen). StandsFor check s t queue blame) same_now acted.stands;
        lasts = subst (λ (s : Seen). LastsInLog checking t.asking s) same_log acted.lasts;
        asks = subst (λ (s : Seen). ChecksStand checking s t.checks) same_log acted.asks;
        passes = subst (λ (l : List LogRow). EachPass (start_of e) l []) (rows_cut e first checking due more) acted.passes;
      }

pub acted_then : (e : InEvent) (first : List RowKind) (at : InEvent) → GoesOn e first at → (more : List RowKind) {check : InCheck} (t : Tables) (queue : Queue) (blame : List (StateId × ReqId)) → HasActed check at more t queue blame → HasActed check (with_checking e at.checking) (first ++ more) t queue blame
acted_then e first at goes more {check} t queue blame acted =
    cut_acts e first at.checking at.due at.wants at.ran more t queue blame (subst (λ (x : InEvent). HasActed check x more t queue blame) (goes_is e first at goes) acted)
