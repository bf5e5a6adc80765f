-- There is room for a document state more, where there is for two requests: each but the first came with a request.
use Rattle.checking_facts.specs.States.{has_spent}
use Rattle.entry_store.proofs.StepBounds.{filter-fewer}
use Rattle.log_model.specs.Seen.{Seen}
use Rattle.log_model.specs.declared.row_kind.RowKind.{RowKind}
use Rattle.seen_laws.proofs.InEvents.{now_is}
use Rattle.seen_laws.specs.InEvent.{InEvent, log_of, now_of}
use Rattle.seen_laws.specs.Unasked.{unasked_request}
use Rattle.std.proofs.Common.{Bool, List, Option, ap, arith, length, ◌+◌, ◌∙◌, ◌≡◌, ◌≤◌}
use Rattle.std.proofs.lemmas.List.{length-map}
use Rattle.std.specs.Prelude.{filter, ◌<◌}
use Rattle.tab_doors.specs.Keeping.{Move}
use Rattle.tab_doors.specs.Working.{IsAtWorkIn}
use Rattle.tab_doors.specs.declared.tables.Tables.{Tables}

pub states_fit : {sweeps : Bool} {move : Option Move} (e : InEvent) (out : List RowKind) (t : Tables) → IsAtWorkIn sweeps move e out t → length (now_of e out).requests + 2 < 4294967296 → t.states + 1 < 4294967296
states_fit e out t work room =
    let few : (log_of e out).states ≤ 1 + length (filter has_spent (log_of e out).requests) = work.checks.spent in
    let fewer : length (filter has_spent (log_of e out).requests) ≤ length (log_of e out).requests = filter-fewer has_spent (log_of e out).requests in
    let same : t.states ≡ (log_of e out).states = work.holds.states ∙ ap (λ (s : Seen). s.states) (now_is e out) in
    let long : length (now_of e out).requests ≡ length (log_of e out).requests = ap (λ (s : Seen). length s.requests) (now_is e out) ∙ length-map (log_of e out).requests (unasked_request e.checking) in
    omega (arith, few, fewer, same, long, room)
