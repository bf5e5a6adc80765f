-- Where documents were swept the table is told, and the user is asked for each request that waited, is under way and is settled now, as the table notes it. The event is cut behind these rows, of what comes after it is wanted that it spares the documents for whose sake the user was asked while their run lasts, and where each such request was asked about nobody in its check has passed.
use Rattle.log_model.specs.Seen.{Asked, request_of}
use Rattle.log_model.specs.Places.{is_traversal}
use Rattle.asking_facts.proofs.Standing.{stands_less, stands_same, stands_wanting}
use Rattle.asking_facts.specs.Noting.{Agreed}
use Rattle.asking_facts.specs.Standing.{StandsAsked}
use Rattle.check_facts.specs.Prompting.{todo_of}
use Rattle.checking_facts.specs.Prompts.{told_by}
use Rattle.log_model.proofs.Refl.{nat_eq_refl}
use Rattle.log_model.specs.declared.row_kind.LogRow.{LogRow}
use Rattle.log_model.specs.declared.row_kind.RowKind.TheVariants as rows
use Rattle.log_model.specs.declared.row_kind.RowKind.{RowKind}
use Rattle.row_facts.specs.Owed.Owed.{owes_seen}
use Rattle.seen_facts.specs.Hang.Members.{Has}
use Rattle.seen_laws.specs.InEvent.{AreAsWanted, EndAsWanted, InEvent, cut, cut_wanting, log_of, row_of}
use Rattle.std.proofs.Common.{Bool, List, None, Option, Some, [], ap, false, filter, inl, inr, map, not, refl, subst, sym, true, ◌++◌, ◌==◌, ◌∙◌, ◌∷◌, ◌≡◌}
use Rattle.std.proofs.lemmas.Bool.{and_parts}
use Rattle.std.proofs.lemmas.List.{map-append}
use Rattle.std.specs.Prelude.{if◌then◌else◌}
use Rattle.tab_doors.proofs.Wanted.{come_on}
use Rattle.tab_doors.specs.Keeping.{Move}
use Rattle.tab_doors.specs.Working.{IsAhead, IsAtWorkIn, IsCalmIn, IsToCome}
use Rattle.tab_doors.specs.declared.tables.Tables.{Tables}
use Rattle.tab_ids.specs.declared.DocId.{DocId}
use Rattle.tab_ids.specs.declared.ReqId.{ReqId}
use Rattle.tab_prompts.proofs.Agreeing.{agrees_prompted, ended_quiet}
use Rattle.tab_prompts.proofs.Dues.{each_due}
use Rattle.tab_prompts.proofs.Prompted.{stands_prompted}
use Rattle.tab_prompts.proofs.Sparing.{agrees_spared, new_none, spares_any}
use Rattle.tab_prompts.proofs.Since.{finished_since}
use Rattle.tab_prompts.proofs.Told.{ran, told, told_asked}
use Rattle.tab_prompts.proofs.Works.{prompts_are, work_prompted}
use Rattle.tab_prompts.specs.Asking.{AreAllWaiting, AreApart, AreUnderWay, BeginsAsked, left_of, without}
use Rattle.tab_prompts.specs.Sparing.{new_notes, spares}
use Rattle.tab_prompts.specs.Prompts.{is_settled_in, is_settled_since, is_waiting, prompts_for}
use Rattle.unasked_dues.specs.Checking.{NonePasses}
use Rattle.unload_check.specs.Checks.{OpenCheck}

some_same : {A : Type 0} {a b : A} → (let o : Option A = Some a in o) ≡ Some b → a ≡ b
some_same is = cc

never : {A : Type 0} → true ≡ false → A
never is = absurd cc

-- ---- nobody is left out

-- the table notes a prompt for the request
abbrev pub IsNotedFor : List (ReqId × OpenCheck) → ReqId → Type 0
IsNotedFor table req = (doc : DocId) × (todo_of table req ≡ Some doc)

-- where each of those left out is among these, and its prompt is noted
pub left_none : (table : List (ReqId × OpenCheck)) (reqs : List ReqId) (but : ReqId → Bool) (r : ReqId) → (but r ≡ true → Has reqs r × IsNotedFor table r) → left_of table reqs but r ≡ false
left_none table [] but r each = by_but (but r) refl
  where
    by_but : (b : Bool) → but r ≡ b → b ≡ false
    by_but false is = refl
    by_but true is = absurd (each is).0
left_none table (req ∷ reqs) but r each =
    left_none table reqs (without (todo_of table req) req but) r (by_todo (todo_of table req) refl)
  where
    by_todo : (o : Option DocId) → todo_of table req ≡ o → without o req but r ≡ true → Has reqs r × IsNotedFor table r
    by_todo None none is = by_place its.0
      where
        its : Has (req ∷ reqs) r × IsNotedFor table r
        its = each is

        by_place : Has (req ∷ reqs) r → Has reqs r × IsNotedFor table r
        by_place (inr has) = (has, its.1)
        by_place (inl same) =
            let both : (let o : Option DocId = None in o) ≡ Some (its.1.0) = sym none ∙ ap (todo_of table) same ∙ its.1.1 in
            absurd cc
    by_todo (Some doc) some is = by_place its.0
      where
        parts : (but r ≡ true) × (not (r.0 == req.0) ≡ true)
        parts = and_parts (but r) (not (r.0 == req.0)) is

        its : Has (req ∷ reqs) r × IsNotedFor table r
        its = each parts.0

        by_place : Has (req ∷ reqs) r → Has reqs r × IsNotedFor table r
        by_place (inr has) = (has, its.1)
        by_place (inl same) =
            let it : (r.0 == req.0) ≡ true = subst (λ (x : ReqId). (r.0 == x.0) ≡ true) (sym same) (nat_eq_refl r.0) in
            let both : false ≡ true = sym (ap not it) ∙ parts.1 in
            never (sym both)

-- who is among these, and waits, is among those that wait
pub has_waiting : (p : ReqId → Bool) (among : List ReqId) (req : ReqId) → Has among req → p req ≡ true → Has (filter p among) req
has_waiting p [] req has is = absurd has
has_waiting p (first ∷ among) req has is = by_test (p first) refl has (λ there. has_waiting p among req there is)
  where
    by_test : (b : Bool) → p first ≡ b → Has (first ∷ among) req → (Has among req → Has (filter p among) req) → Has (if b then first ∷ filter p among else filter p among) req
    by_test true e (inl same) rest = inl same
    by_test true e (inr there) rest = inr (rest there)
    by_test false e (inl same) rest = never (sym is ∙ ap p (sym same) ∙ e)
    by_test false e (inr there) rest = rest there

-- and each of those waits
pub waiting_has : (p : ReqId → Bool) (among : List ReqId) (req : ReqId) → Has (filter p among) req → p req ≡ true
waiting_has p [] req has = absurd has
waiting_has p (first ∷ among) req has = by_test (p first) refl has (waiting_has p among req)
  where
    by_test : (b : Bool) → p first ≡ b → Has (if b then first ∷ filter p among else filter p among) req → (Has (filter p among) req → p req ≡ true) → p req ≡ true
    by_test true e (inl same) rest = ap p (sym same) ∙ e
    by_test true e (inr there) rest = rest there
    by_test false e there rest = rest there

-- ---- the rows

module _ {sweeps : Bool} (move : Option Move) (e : InEvent) (out : List RowKind) (t : Tables) (work : IsAtWorkIn sweeps move e out t) (begins : BeginsAsked e t.checks) where
  abbrev pub then_told : List (ReqId × OpenCheck)
  then_told = told move e out t work begins

  abbrev pub its_run : ReqId → Bool
  its_run = ran move e out t work begins

  -- a prompt shows no document
  ahead_on : (rows_ : List RowKind) (req : ReqId) (doc : DocId) (later : List LogRow) → IsToCome move e (rows_ ++ rows.Prompted req doc ∷ []) later → IsToCome move e rows_ (row_of e (rows.Prompted req doc) ∷ later)
  ahead_on rows_ req doc later is = come_on move move e rows_ (rows.Prompted req doc ∷ []) later (by_move move) is
    where
      by_move : (m : Option Move) → IsAhead m later → IsAhead m (row_of e (rows.Prompted req doc) ∷ later)
      by_move None is = tt
      by_move (Some m) is = is

  module _ (waited : List ReqId) (apart : AreApart waited) (waits : (req : ReqId) → Has waited req → is_waiting t.checks req ≡ true) (go : AreUnderWay (log_of e out) waited) where
    abbrev pub prompts : List RowKind
    prompts = prompts_for then_told waited

    -- who is left out then
    abbrev pub left : ReqId → Bool
    left = left_of then_told waited (is_settled_since t.checks then_told)

    pub settled_stands : StandsAsked (Agreed (todo_of then_told) its_run e (out ++ prompts) (IsToCome move e (out ++ prompts))) left e (out ++ prompts) (record { checks = then_told; run = [] })
    settled_stands =
        stands_prompted e then_told its_run (IsToCome move e) work.own ahead_on (is_settled_since t.checks then_told) out waited apart (each_due move e out t work begins waited waits go) (told_asked move e out t work begins)

    -- ---- the event is cut behind them: what comes later is to spare the documents of what was noted for the run that lasts

    abbrev pub spared : List DocId
    spared = new_notes (told_by e.ran t.checks out).checks then_told

    abbrev pub then_ : InEvent
    then_ = cut_wanting e (out ++ prompts) e.checking (owes_seen e out) (spares spared)

    -- so what comes later agrees with what was noted
    agrees : (later : List LogRow) → IsToCome move then_ [] later → Agreed (todo_of then_told) its_run e (out ++ prompts) (IsToCome move e (out ++ prompts)) later
    agrees later is =
        (agrees_spared (told_by e.ran t.checks out).checks then_told (log_of e (out ++ prompts)) later (agrees_prompted e out prompts (told_by e.ran t.checks out) work.asked (prompts_are then_told waited)) parts.0, (is.0, parts.1))
      where
        parts : (spares spared later ≡ true) × AreAsWanted e (out ++ prompts) later
        parts = and_parts (spares spared later) (e.wants (map (row_of e) (out ++ prompts) ++ later)) is.1

    pub cut_stands : StandsAsked (IsToCome move then_ []) left then_ [] (record { checks = then_told; run = [] })
    cut_stands =
        stands_wanting (IsToCome move then_ []) left (cut e (out ++ prompts) e.checking (owes_seen e out)) [] (record { checks = then_told; run = [] }) then_.wants []
        (stands_same (IsToCome move then_ []) left e (out ++ prompts) (record { checks = then_told; run = [] }) (owes_seen e out)
        (stands_less (Agreed (todo_of then_told) its_run e (out ++ prompts) (IsToCome move e (out ++ prompts))) (IsToCome move then_ []) left e (out ++ prompts) (record { checks = then_told; run = [] }) agrees settled_stands))

    -- where all traversals that waited and are under way are among these, and none of them goes on, nobody has passed
    pub cut_calm : AreAllWaiting (log_of then_ []) t.checks waited → ((req : ReqId) (q : Asked) → request_of (log_of then_ []) req ≡ Some q → is_traversal q.what ≡ true → Has waited req → is_settled_in then_told req ≡ true → IsNotedFor then_told req) → NonePasses e.checking (log_of then_ [])
    cut_calm all noted req q at runs goes on =
        cut_stands.none req q at runs goes on (left_none then_told waited (is_settled_since t.checks then_told) req (λ is. (let parts = and_parts (is_waiting t.checks req) (is_settled_in then_told req) is in let has = all req q at goes runs parts.0 in (has, noted req q at goes has parts.1))))

    -- the coordinator goes on
    pub cut_works : {then_sweeps : Bool} → IsCalmIn then_sweeps e.checking (log_of then_ []) → IsAtWorkIn then_sweeps move then_ [] (record t { checks = then_told })
    cut_works calm =
        work_prompted e out prompts (prompts_are then_told waited) (finished_since e out work.goes work.off begins.finished) (spares spared) [] move t work left (record t { checks = then_told }) refl cut_stands calm

    -- ---- what is wanted of the rows behind the cut

    -- they are as it is wanted where they spare these documents, and with the rows before the cut are as was wanted before
    pub ends_then : (more : List RowKind) → spares spared (map (row_of e) more) ≡ true → EndAsWanted e ((out ++ prompts) ++ more) → EndAsWanted then_ more
    ends_then more spare was =
        let before : e.wants (map (row_of e) (out ++ prompts) ++ map (row_of e) more) ≡ true = subst (λ (l : List LogRow). e.wants l ≡ true) (map-append (row_of e) (out ++ prompts) more) was in
        rw (spare, before) refl

    -- whatever they are they do, where the last run noted nothing
    pub spared_quiet : ((req : ReqId) → its_run req ≡ false) → (later : List LogRow) → spares spared later ≡ true
    spared_quiet quiet later =
        subst (λ (docs : List DocId). spares docs later ≡ true) (sym (new_none (told_by e.ran t.checks out).checks then_told quiet)) (spares_any later)

    -- or where none lasts
    pub spared_ended : (told_by e.ran t.checks out).run ≡ [] → (later : List LogRow) → spares spared later ≡ true
    spared_ended ended = spared_quiet (ended_quiet (told_by e.ran t.checks out) ended)
