-- What is known of the log once an event's own row was logged, and what lasts of it.
use Rattle.tab_doors.proofs.AskingLoads.{LeavesAsking, row_asking}
use Rattle.tab_doors.specs.AskingLoads.{TiesAsking}
use Rattle.load_table.specs.declared.load.Load.{Load}
use Rattle.tab_doors.proofs.Uncut.{uncut_now}
use Rattle.asking_facts.proofs.Passed.{known_on}
use Rattle.asking_facts.specs.Asking.{AsksBegun}
use Rattle.asking_facts.specs.Known.{AskingKnown}
use Rattle.asking_facts.specs.Prompting.{AnswersPrompt, PromptsWanted}
use Rattle.asking_facts.specs.Waiting.{GoesWaiting}
use Rattle.checking_facts.proofs.Rows.{row_checks}
use Rattle.checking_facts.specs.Checks.{AreInCheck, GoesDuly}
use Rattle.checking_facts.specs.States.{LeavesStates}
use Rattle.leave_facts.proofs.Carried.{row_duly}
use Rattle.log_model.specs.Seen.{Seen, desk_of}
use Rattle.log_model.specs.declared.outcome.Denial.{Denial}
use Rattle.log_model.specs.declared.request.Request.{Request}
use Rattle.log_model.specs.declared.row_kind.RowKind.{RowKind}
use Rattle.log_model.specs.declared.row_kind.RowKind.TheVariants as rows
use Rattle.seen_facts.proofs.Desk.Stays.{NoDeath}
use Rattle.seen_laws.proofs.InEvents.{log_more, uncut_log}
use Rattle.seen_laws.specs.Blocks.{Here}
use Rattle.seen_laws.specs.InEvent.{AreLegal, InEvent, log_of, row_of}
use Rattle.seen_laws.specs.Sending.{leads}
use Rattle.std.proofs.Common.{Bool, List, None, Option, [], ap, false, length, subst, sym, true, ◌+◌, ◌∙◌, ◌∷◌, ◌≡◌}
use Rattle.std.specs.Prelude.{slice_get}
use Rattle.tab_ids.specs.declared.DocId.{DocId}
use Rattle.tab_ids.specs.declared.ProcId.{ProcId}
use Rattle.tab_ids.specs.declared.StateId.{StateId}
use Rattle.tab_stands.proofs.DulyEvents.{own_duly}
use Rattle.tab_stands.proofs.EpochRows.{own_under, refused_under}
use Rattle.tab_doors.proofs.PassedOn.{lawful_pass}
use Rattle.tab_doors.proofs.Works.{start_here}
use Rattle.tab_doors.specs.PassedOn.{noted_by}
use Rattle.tab_doors.specs.Working.{IsToCome}
use Rattle.load_doors.specs.Logged.{IsLogged, IsOwnRead}
use Rattle.log_model.specs.After.{after}
use Rattle.row_facts.proofs.FrameRows.LawfulLaws.{lawful_legal}
use Rattle.seen_laws.specs.Unasked.{unasked}
use Rattle.tab_ids.specs.declared.ReqId.{ReqId}
use Rattle.tab_stands.specs.Standing.{HasLogged, LastsInLog, StartsUnasked}
use Rattle.tab_stands.specs.Offs.{AreShownOnce, AreShownUnder}
use Rattle.unload_check.specs.Checks.{OpenCheck}

-- what is read of navigables alone
pub once_of : {s : Seen} → AreShownUnder s → AreShownOnce s.places
once_of shows = record { unshown = shows.unshown; top_ = shows.top_ }

module _ (e : InEvent) (aside : StartsUnasked e) where
  -- as it begins the log is as it would be had nobody been asked
  pub start_plain : unasked e.checking e.start ≡ e.start
  start_plain = ap (λ (h : Here). h.start) aside.begins ∙ start_here e []

  -- and its own row is read off
  pub own_read : IsOwnRead e
  own_read = sym (uncut_now e aside.uncut aside.plain) ∙ ap (λ (s : Seen). after s (row_of e e.own)) (sym start_plain)

-- where the own row may be logged by itself
pub with_lawful : (e : InEvent) (checks : List (ReqId × OpenCheck)) → {table : List Load} → IsLogged e checks → LastsInLog e.checking table (log_of e []) → AreLegal e [] → HasLogged e checks table
with_lawful e checks logged lasts legal =
    record { logged = logged; lasts = lasts; lawful = lawful_pass (IsToCome None e []) e (noted_by e.ran checks []) [] (lawful_legal e [] legal) }

-- ---- what lasts of the log, over an event's own row

-- such a row makes no document state and gives none an entry
leaves_own : (checking : ReqId → Bool) (s : Seen) (kind : RowKind) → leads kind ≡ true → LeavesStates checking s kind
leaves_own checking s (rows.Accepted req doc what) is = tt
leaves_own checking s (rows.Answered req stay) is = tt
leaves_own checking s (rows.Evicted state) is = tt
leaves_own checking s (rows.Delivered proc) is = tt
leaves_own checking s _ is = absurd (let never : false ≡ true = is in cc)

-- such a row sends and finishes no order, and asks the user nothing
asks_none : (s : Seen) (kind : RowKind) → leads kind ≡ true → AsksBegun s kind
asks_none s (rows.Accepted req doc what) is = tt
asks_none s (rows.Answered req stay) is = tt
asks_none s (rows.Evicted state) is = tt
asks_none s (rows.Delivered proc) is = tt
asks_none s _ is = absurd (let never : false ≡ true = is in cc)

waits_none : (s : Seen) (kind : RowKind) → leads kind ≡ true → GoesWaiting s kind
waits_none s (rows.Accepted req doc what) is = tt
waits_none s (rows.Answered req stay) is = tt
waits_none s (rows.Evicted state) is = tt
waits_none s (rows.Delivered proc) is = tt
waits_none s _ is = absurd (let never : false ≡ true = is in cc)

wants_none : (s : Seen) (kind : RowKind) → leads kind ≡ true → PromptsWanted s kind
wants_none s (rows.Accepted req doc what) is = tt
wants_none s (rows.Answered req stay) is = tt
wants_none s (rows.Evicted state) is = tt
wants_none s (rows.Delivered proc) is = tt
wants_none s _ is = absurd (let never : false ≡ true = is in cc)

-- of what it accepts, it has the next number; it begins and ends none
asking_own : (checking : ReqId → Bool) (s : Seen) (kind : RowKind) → leads kind ≡ true → GoesDuly checking s kind → LeavesAsking checking s kind
asking_own checking s (rows.Accepted req doc what) is goes = goes.next
asking_own checking s (rows.Answered req stay) is goes = tt
asking_own checking s (rows.Evicted state) is goes = tt
asking_own checking s (rows.Delivered proc) is goes = tt
asking_own checking s _ is goes = absurd (let never : false ≡ true = is in cc)

module _ (e : InEvent) (uncut : e.before ≡ []) (led : leads e.own ≡ true) (alive : (proc : ProcId) → e.own ≡ rows.Delivered proc → NoDeath (slice_get (desk_of e.start proc).reports 0)) {table : List Load} (lasts : LastsInLog e.checking table e.start) where
  own_lasts : GoesDuly e.checking e.start e.own → AnswersPrompt e.start e.own → LastsInLog e.checking table (log_of e [])
  own_lasts goes answers =
      record { checks = checks; asking = asking; shows = own_under e uncut led alive lasts.shows; duly = own_duly e uncut led checks.numbered lasts.duly; known = known }
    where
      asking : TiesAsking e.checking (log_of e []) table
      asking =
          subst (λ (x : Seen). TiesAsking e.checking x table) (sym (uncut_log e uncut)) (row_asking e.checking e.start e.event e.actor table lasts.asking e.own (asking_own e.checking e.start e.own led goes))

      known : AskingKnown (log_of e [])
      known =
          subst (λ (x : Seen). AskingKnown x) (sym (uncut_log e uncut))
          (known_on e.start (row_of e e.own) (asks_none e.start e.own led) (waits_none e.start e.own led) answers (wants_none e.start e.own led) lasts.known)

      checks : AreInCheck e.checking (log_of e [])
      checks = subst (λ (x : Seen). AreInCheck e.checking x) (sym (uncut_log e uncut)) (row_checks e.checking e.start (row_of e e.own) goes (leaves_own e.checking e.start e.own led) lasts.checks)

  -- of a request that is accepted, which isn't in its check
  pub accepted_lasts : (req : ReqId) (doc : Option DocId) (what : Request) → e.own ≡ rows.Accepted req doc what → req.0 ≡ length e.start.requests + 1 → e.checking req ≡ false → LastsInLog e.checking table (log_of e [])
  accepted_lasts req doc what own next outside =
      own_lasts (subst (λ (k : RowKind). GoesDuly e.checking e.start k) (sym own) (record { next = next; outside = outside })) (subst (λ (k : RowKind). AnswersPrompt e.start k) (sym own) tt)

  -- of a report that is taken
  pub delivered_lasts : (proc : ProcId) → e.own ≡ rows.Delivered proc → LastsInLog e.checking table (log_of e [])
  delivered_lasts proc own = own_lasts (subst (λ (k : RowKind). GoesDuly e.checking e.start k) (sym own) tt) (subst (λ (k : RowKind). AnswersPrompt e.start k) (sym own) tt)

  -- of an eviction
  pub evicted_lasts : (state : StateId) → e.own ≡ rows.Evicted state → LastsInLog e.checking table (log_of e [])
  evicted_lasts state own = own_lasts (subst (λ (k : RowKind). GoesDuly e.checking e.start k) (sym own) tt) (subst (λ (k : RowKind). AnswersPrompt e.start k) (sym own) tt)

-- a refusal behind it, of what isn't in its check
pub refused_lasts : (e : InEvent) (req : ReqId) (reason : Denial) → {table : List Load} → e.checking req ≡ false → LastsInLog e.checking table (log_of e []) → LastsInLog e.checking table (log_of e (rows.Refused req reason ∷ []))
refused_lasts e req reason {table} off lasts =
    subst (λ (x : Seen). LastsInLog e.checking table x) (sym (log_more e [] (rows.Refused req reason))) (record {
      checks = row_checks e.checking (log_of e []) (row_of e (rows.Refused req reason)) tt tt lasts.checks;
      asking = row_asking e.checking (log_of e []) e.event e.actor table lasts.asking (rows.Refused req reason) off;
      shows = refused_under (log_of e []) e.event e.actor req reason lasts.shows;
      duly = row_duly (log_of e []) e.event e.actor lasts.duly (rows.Refused req reason) tt;
      known = known_on (log_of e []) (row_of e (rows.Refused req reason)) tt tt tt tt lasts.known;
    })
