-- An event before which nothing was put out: as its own row has come it stands where that row leads.
use Rattle.log_model.specs.After.{after}
use Rattle.log_model.specs.Seen.{Seen}
use Rattle.log_model.specs.declared.row_kind.LogRow.{LogRow}
use Rattle.log_model.specs.declared.row_kind.RowKind.{RowKind}
use Rattle.row_facts.specs.FrameRows.Lawful.{held_at_first}
use Rattle.seen_laws.proofs.InEvents.{uncut_log, uncut_rows}
use Rattle.seen_laws.specs.Blocks.{EachPass}
use Rattle.seen_laws.specs.InEvent.{InEvent, log_of, now_of, row_of, rows_of, start_of}
use Rattle.std.proofs.Common.{List, [], ap, map, subst, sym, ◌∙◌, ◌∷◌, ◌≡◌}

-- what is held back then
pub uncut_held : (e : InEvent) → e.before ≡ [] → (now_of e []).parked ≡ held_at_first e
unfolding now_of
uncut_held e uncut = ap (λ (s : Seen). s.parked) (uncut_log e uncut)

-- what the log without questions has come to, where nobody is asked
pub uncut_now : (e : InEvent) → e.before ≡ [] → log_of e [] ≡ now_of e [] → after e.start (row_of e e.own) ≡ now_of e []
uncut_now e uncut plain = sym (uncut_log e uncut) ∙ plain

-- all its rows pass where the own one and these do
pub uncut_pass : (e : InEvent) (out : List RowKind) (later : List LogRow) → e.before ≡ [] → EachPass (start_of e) (row_of e e.own ∷ map (row_of e) out) later → EachPass (start_of e) (rows_of e out) later
uncut_pass e out later uncut pass = subst (λ (l : List LogRow). EachPass (start_of e) l later) (sym (uncut_rows e out uncut)) pass
