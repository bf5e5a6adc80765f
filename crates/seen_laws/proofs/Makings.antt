-- A document makes something of its first poke, or the poke is refused for its address.
use Rattle.std.proofs.Common.{◌≡◌, ℕ, ◌+◌, Bool, true, false, ◌&&◌, ◌||◌, ◌==◌, [], Some, None, refl, arith}
use Rattle.std.proofs.lemmas.Bool.Decides.{nat_tests}
use Rattle.tab_ids.specs.declared.NavId.{NavId}
use Rattle.tab_ids.specs.declared.ProcId.{ProcId}
use Rattle.log_model.specs.declared.header.Header.{Header}
use Rattle.log_model.specs.declared.made.Made.{Made}
use Rattle.log_model.specs.declared.made.What.{What}
use Rattle.log_model.specs.declared.made.What.TheVariants as whats
use Rattle.log_model.specs.declared.outcome.Denial.TheVariants as denials
use Rattle.log_model.specs.declared.request.Poke.{Poke}
use Rattle.log_model.specs.declared.request.Request.TheVariants as requests
use Rattle.log_model.specs.declared.row_kind.Actor.TheVariants as actors
use Rattle.log_model.specs.declared.row_kind.RowKind.TheVariants as rows
use Rattle.log_model.specs.Equal.{implies, has_req}
use Rattle.log_model.specs.Views.{View, made_by, made_for}
use Rattle.log_model.specs.Seen.{Seen, Document, Asked}
use Rattle.log_model.specs.Places.{is_traversal}
use Rattle.log_model.specs.Queue.{begins_in_turn}
use Rattle.log_model.specs.Formed.{is_applied_duly}
use Rattle.log_model.proofs.Refl.{nat_eq_refl, same_what_refl}
use Rattle.seen_laws.specs.Acting.{IsToAct, IsNoEdit}
use Rattle.seen_laws.specs.Blocks.{Passes}

-- the row that begins an event doesn't follow the end of an order
begins_anew : (n : ℕ) → (n == (n + 1)) ≡ false
begins_anew n = grind (arith, nat_tests)

-- what is no edit has no further row
alone_duly : (made : Made) (what : What) → IsNoEdit what → is_applied_duly made what [] ≡ true
alone_duly made (whats.Push entry memo address) no_edit = refl
alone_duly made (whats.Replace over entry memo address) no_edit = refl
alone_duly made (whats.AddFrame nav) no_edit = refl
alone_duly made (whats.RemoveFrame nav) no_edit = refl
alone_duly made (whats.Go delta) no_edit = refl
alone_duly made whats.Edit no_edit = elim no_edit [ ]

-- what the document makes is told, under its epoch
pub made_passes : (header : Header) (s : Seen) (proc : ProcId) (poke : Poke) (q : Asked) (nav : NavId) (d : Document) (view : View) (what : What) → IsToAct s proc poke q nav d view → made_by view poke.action ≡ Some what → IsNoEdit what → Passes header (record { start = s; now = s; done = []; later = [] }) (record { event = s.events; actor = actors.Proc proc; row = rows.Made proc (made_for view poke.req what) })
made_passes header s proc poke q nav d view what acts makes no_edit =
    record {
      formed = rw (nat_eq_refl proc.0, acts.first) (rw (nat_eq_refl poke.req.0, alone_duly (made_for view poke.req what) what no_edit) refl);
      once = rw (acts.asked, begins_anew s.events) (rw (acts.unmade, acts.named, acts.there) (rw (nat_eq_refl view.doc.0, acts.home, acts.has, acts.asks) (rw (nat_eq_refl proc.0, acts.runs, nat_eq_refl view.epoch.0, makes) (rw (same_what_refl what) refl))));
      caused = refl;
      queued = refl;
      ordered = refl;
      checked = refl;
      in_time = refl;
      suits = refl;
    }

-- a refusal that isn't one of a step of the queue needs no turn
pub unturned : (steps turn : Bool) → implies ((steps && false) || false) turn ≡ true
unturned true turn = refl
unturned false turn = refl

-- the poke is refused where its address is none for the document
pub refused_passes : (header : Header) (s : Seen) (proc : ProcId) (poke : Poke) (q : Asked) (nav : NavId) (d : Document) (view : View) → IsToAct s proc poke q nav d view → made_by view poke.action ≡ None → has_req s.parked poke.req ≡ false → Passes header (record { start = s; now = s; done = []; later = [] }) (record { event = s.events; actor = actors.Proc proc; row = rows.Refused poke.req denials.BadAddress })
refused_passes header s proc poke q nav d view acts makes unparked =
    record {
      formed = rw acts.first (rw (nat_eq_refl poke.req.0, acts.asked) refl);
      once = rw acts.asked (rw acts.unended refl);
      caused = rw acts.asked (rw (acts.named, acts.there) (rw (acts.has, acts.runs, acts.asks) (rw (acts.there, acts.has, makes) refl)));
      queued = rw (unparked, acts.asked) (rw acts.asks (unturned (is_traversal (requests.Poke nav poke.action)) (begins_in_turn s poke.req)));
      ordered = refl;
      checked = refl;
      in_time = refl;
      suits = refl;
    }
