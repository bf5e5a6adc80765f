-- What it takes for one row more, where a move may have begun: the document that is shown next is then the one that is meant.
use Rattle.checking_facts.specs.Prompts.{PassIf, PromptsFor}
use Rattle.row_facts.proofs.FrameRows.LawfulLaws.{AsksOf, keeps_held}
use Rattle.row_facts.specs.FrameRows.Lawful.{KeepsHeld}
use Rattle.log_model.specs.declared.job.Job.{Job}
use Rattle.log_model.specs.declared.row_kind.LogRow.{LogRow}
use Rattle.log_model.specs.declared.row_kind.RowKind.{RowKind}
use Rattle.seen_laws.proofs.InEvents.{IsQuiet}
use Rattle.seen_laws.specs.Blocks.{EachPass, MayLog}
use Rattle.seen_laws.specs.InEvent.{Anything, InEvent, here_of, row_of}
use Rattle.seen_laws.specs.Owing.{Pays}
use Rattle.std.proofs.Common.{List, None, Option, Some, [], ap, refl, sym, ◌∷◌, ◌≡◌}
use Rattle.tab_doors.specs.Keeping.{Move}
use Rattle.tab_doors.specs.Working.{IsAhead, IsToCome, MaySend, shown_by}
use Rattle.tab_ids.specs.declared.DocId.{DocId}
use Rattle.tab_ids.specs.declared.ReqId.{ReqId}
use Rattle.log_model.specs.declared.row_kind.RowKind.TheVariants as rows

-- a move may begin anywhere
pub begin_move : (e : InEvent) (todo : ReqId → Option DocId) (out : List RowKind) (move : Move) → PassIf (IsToCome None e out) e todo out → PassIf (IsToCome (Some move) e out) e todo out
unfolding PassIf
begin_move e todo out move pass later rest = pass later (rest.0, (tt, rest.1.1))

-- ---- one row more

-- the row asks no document, keeps what the reports held back ask of later rows and what is ahead, and passes by what it asks of them
pub record IsStep (from next : Option Move) (e : InEvent) (out : List RowKind) (kind : RowKind) : Type 0 where
  pub quiet : IsQuiet e kind
  pub held : KeepsHeld e out kind
  pub ahead : (later : List LogRow) → IsAhead next later → IsAhead from (row_of e kind ∷ later)
  pub may : (later : List LogRow) → AsksOf e out kind later × Pays (here_of e out) (row_of e kind ∷ []) later → IsAhead next later → PromptsFor e out kind later → EachPass (here_of e out) (row_of e kind ∷ []) later

-- where no move has begun: a row that may be logged if the event's end pays what it owes
pub step_owing : (e : InEvent) (out : List RowKind) (kind : RowKind) → IsQuiet e kind → KeepsHeld e out kind → MayLog (here_of e out) (row_of e kind ∷ []) (λ later. AsksOf e out kind later × Pays (here_of e out) (row_of e kind ∷ []) later) → IsStep None None e out kind
step_owing e out kind quiet held may =
    record { quiet = quiet; held = held; ahead = λ later is. tt; may = λ later asks ahead prompts. may later asks }

-- one that owes nothing
pub step_more : (e : InEvent) (out : List RowKind) (kind : RowKind) → IsQuiet e kind → KeepsHeld e out kind → MayLog (here_of e out) (row_of e kind ∷ []) (AsksOf e out kind) → IsStep None None e out kind
step_more e out kind quiet held may = step_owing e out kind quiet held (λ later both. may later both.0)

-- one that asks nothing
pub step_plain : (e : InEvent) (out : List RowKind) (kind : RowKind) → IsQuiet e kind → KeepsHeld e out kind → MayLog (here_of e out) (row_of e kind ∷ []) Anything → IsStep None None e out kind
step_plain e out kind quiet held may = step_owing e out kind quiet held (λ later both. may later tt)

-- an order that shows no document, and may be sent as long as what comes later has what is ahead
pub step_sent : (e : InEvent) (out : List RowKind) (move : Option Move) (job : Job) → IsQuiet e (rows.Sent job) → shown_by (rows.Sent job) ≡ None → MaySend move e out job → IsStep move move e out (rows.Sent job)
step_sent e out move job quiet none may =
    record {
      quiet = quiet;
      held = keeps_held e out (rows.Sent job) refl refl;
      ahead = λ later is. still move later is;
      may = λ later asks ahead prompts. may later (ahead, prompts);
    }
  where
    still : (m : Option Move) (later : List LogRow) → IsAhead m later → IsAhead m (row_of e (rows.Sent job) ∷ later)
    still None later ahead = tt
    still (Some m) later ahead = rw none ahead

-- the document is the one that a move has begun to, if one has
abbrev pub IsMeant : Option Move → DocId → Type 0
IsMeant None doc = Unit {0}
IsMeant (Some move) doc = move.doc ≡ doc

-- the order that shows it ends the move
pub step_show : (e : InEvent) (out : List RowKind) (move : Option Move) (job : Job) → IsMeant move job.doc → IsQuiet e (rows.Sent job) → shown_by (rows.Sent job) ≡ Some job.doc → MayLog (here_of e out) (row_of e (rows.Sent job) ∷ []) Anything → IsStep move None e out (rows.Sent job)
step_show e out move job meant quiet shows may =
    record {
      quiet = quiet;
      held = keeps_held e out (rows.Sent job) refl refl;
      ahead = λ later ahead. ends move later meant;
      may = λ later asks ahead prompts. may later tt;
    }
  where
    ends : (m : Option Move) (later : List LogRow) → IsMeant m job.doc → IsAhead m (row_of e (rows.Sent job) ∷ later)
    ends None later is = tt
    ends (Some m) later is = rw shows (ap (λ (doc : DocId). let o : Option DocId = Some doc in o) (sym is))
