-- One row more in an event that may end a traversal with reports held back for it.
use Rattle.seen_facts.proofs.Coord.Held.{without_same}
use Rattle.row_facts.specs.FrameRows.Lawful.{AreLawful, IsRestOf, KeepsHeld, ends_among, has_traversed, held_at_first}
use Rattle.log_model.specs.AfterRequests.{parked_after, without_req}
use Rattle.log_model.specs.Equal.{has_req}
use Rattle.log_model.specs.Points.{ends_in}
use Rattle.log_model.specs.Queue.{is_traverse}
use Rattle.log_model.specs.Seen.{Seen}
use Rattle.log_model.specs.declared.row_kind.LogRow.{LogRow}
use Rattle.log_model.specs.declared.row_kind.RowKind.{RowKind}
use Rattle.seen_facts.proofs.Request.Times.{itself}
use Rattle.seen_laws.proofs.InEvents.{AsksNoMore, IsQuiet, begun_more, later_more, log_more, one_later, pass_more, pays_end, pays_more, taken_end}
use Rattle.seen_laws.specs.Blocks.{EachPass, MayLog}
use Rattle.seen_laws.specs.InEvent.{Anything, AreLegal, InEvent, IsPaid, IsTakenIn, begins, here_of, later_of, log_of, now_of, row_of, rows_of, start_of}
use Rattle.seen_laws.specs.Owing.{Pays}
use Rattle.std.proofs.Common.{Bool, List, None, Some, [], ap, append_assoc, false, subst, sym, true, ◌++◌, ◌||◌, ◌∙◌, ◌∷◌, ◌≡◌}
use Rattle.std.specs.List.{list_any}
use Rattle.std.specs.Prelude.{filter, filter_map}
use Rattle.tab_ids.specs.declared.ReqId.{ReqId}
use Rattle.std.proofs.Common.{refl}

-- ---- rows that end no request, and leave what is held back

abbrev pub EndsNone : InEvent → RowKind → Type 0
EndsNone e kind = ends_in (row_of e kind) ≡ None

pub keeps_held : (e : InEvent) (out : List RowKind) (kind : RowKind) → EndsNone e kind → parked_after (log_of e out) kind ≡ (log_of e out).parked → KeepsHeld e out kind
unfolding now_of
keeps_held e out kind none same later are =
    let parked : (log_of e (out ++ kind ∷ [])).parked ≡ (log_of e out).parked = ap (λ (s : Seen). s.parked) (log_more e out kind) ∙ same in
    ap (λ (l : List ReqId). filter (has_req (held_at_first e)) l) (dropped_none later) ∙ are ∙ parked
  where
    dropped_none : (later : List LogRow) → filter_map ends_in (row_of e kind ∷ later) ≡ filter_map ends_in later
    dropped_none later = rw none refl

-- ---- rows that end a request

abbrev pub Ends : InEvent → RowKind → ReqId → Type 0
Ends e kind req = (ends_in (row_of e kind) ≡ Some req) × ((s : Seen) → parked_after s kind ≡ without_req req s.parked)

-- what is held back after it
pub left_parked : (e : InEvent) (out : List RowKind) (kind : RowKind) (req : ReqId) → Ends e kind req → (now_of e (out ++ kind ∷ [])).parked ≡ without_req req (now_of e out).parked
unfolding now_of
left_parked e out kind req ends = ap (λ (s : Seen). s.parked) (log_more e out kind) ∙ ends.1 (log_of e out)

-- one whose report wasn't held back
pub ends_other : (e : InEvent) (out : List RowKind) (kind : RowKind) (req : ReqId) → Ends e kind req → has_req (held_at_first e) req ≡ false → has_req (now_of e out).parked req ≡ false → KeepsHeld e out kind
ends_other e out kind req ends apart unparked later are =
    let parked : (now_of e (out ++ kind ∷ [])).parked ≡ (now_of e out).parked = left_parked e out kind req ends ∙ without_same (now_of e out).parked req unparked in
    past ∙ are ∙ parked
  where
    past : ends_among (held_at_first e) (row_of e kind ∷ later) ≡ ends_among (held_at_first e) later
    past = rw (ends.0) (rw apart refl)

-- the first of those that are held back
pub ends_first : (e : InEvent) (out : List RowKind) (kind : RowKind) (req : ReqId) (others : List ReqId) → Ends e kind req → has_req (held_at_first e) req ≡ true → (now_of e out).parked ≡ req ∷ others → has_req others req ≡ false → KeepsHeld e out kind
ends_first e out kind req others ends among is apart later are =
    let parked : (now_of e (out ++ kind ∷ [])).parked ≡ others = left_parked e out kind req ends ∙ ap (λ (l : List ReqId). without_req req l) is ∙ rw (itself req) (without_same others req apart) in
    here ∙ ap (λ (l : List ReqId). req ∷ l) (are ∙ parked) ∙ sym is
  where
    here : ends_among (held_at_first e) (row_of e kind ∷ later) ≡ req ∷ ends_among (held_at_first e) later
    here = rw (ends.0) (rw among refl)

-- ---- one row more

or_left : (a b : Bool) → a ≡ true → (a || b) ≡ true
or_left true b is = refl
or_left false b is = cc

or_right : (a : Bool) {b : Bool} → b ≡ true → (a || b) ≡ true
or_right true is = refl
or_right false is = is

any_left : {A : Type 0} (test : A → Bool) (rows more : List A) → list_any test rows ≡ true → list_any test (rows ++ more) ≡ true
any_left test [] more is = cc
any_left test (row ∷ rows) more is = by_test (test row) (any_left test rows more) is
  where
    by_test : (b : Bool) → (list_any test rows ≡ true → list_any test (rows ++ more) ≡ true) → (b || list_any test rows) ≡ true → (b || list_any test (rows ++ more)) ≡ true
    by_test true on is = refl
    by_test false on is = on is

any_last : {A : Type 0} (test : A → Bool) (rows : List A) (last : A) → test last ≡ true → list_any test (rows ++ last ∷ []) ≡ true
any_last test [] last is = or_left (test last) false is
any_last test (row ∷ rows) last is = or_right (test row) (any_last test rows last is)

traversed_more : (e : InEvent) (out : List RowKind) (kind : RowKind) → has_traversed e out ≡ true → has_traversed e (out ++ kind ∷ []) ≡ true
traversed_more e out kind is =
    subst (λ (l : List LogRow). list_any is_traverse l ≡ true) (sym (later_more e out (kind ∷ []))) (any_left is_traverse (later_of e out) (row_of e kind ∷ []) is)

traversed_last : (e : InEvent) (out : List RowKind) (kind : RowKind) → is_traverse (row_of e kind) ≡ true → has_traversed e (out ++ kind ∷ []) ≡ true
traversed_last e out kind is =
    subst (λ (l : List LogRow). list_any is_traverse l ≡ true) (sym (later_more e out (kind ∷ []))) (any_last is_traverse (later_of e out) (row_of e kind) is)

begun_last : (e : InEvent) (out : List RowKind) (kind : RowKind) (req : ReqId) → begins req kind ≡ true → list_any (begins req) (e.before ++ (out ++ kind ∷ [])) ≡ true
begun_last e out kind req is =
    subst (λ (l : List RowKind). list_any (begins req) l ≡ true) (append_assoc e.before out (kind ∷ [])) (any_last (begins req) (e.before ++ out) kind is)

-- what a row asks of those that come later, by itself
abbrev pub AsksOf : InEvent → List RowKind → RowKind → List LogRow → Type 0
AsksOf e out kind later = (AsksNoMore kind later) × (is_traverse (row_of e kind) ≡ true → ends_among (held_at_first e) later ≡ (now_of e (out ++ kind ∷ [])).parked)

-- a row keeps what the rows before it ask of what comes later
pub rest_more : (e : InEvent) (out : List RowKind) (kind : RowKind) → IsQuiet e kind → KeepsHeld e out kind → (later : List LogRow) → IsRestOf e (out ++ kind ∷ []) later → IsRestOf e out (row_of e kind ∷ later) × (AsksOf e out kind later × Pays (here_of e out) (row_of e kind ∷ []) later)
rest_more e out kind quiet keeps later rest =
    let parts = pays_more e out (kind ∷ []) later rest.rest.owed in (
      record {
        rest = record {
          asks = λ req began. rw (quiet req) (rest.rest.asks req (begun_more e out kind req began));
          taken = subst (λ (rows : List LogRow). IsTakenIn e rows) (one_later e out kind later) rest.rest.taken;
          owed = parts.0;
        };
        held = λ was. keeps later (rest.held (traversed_more e out kind was));
      },
      ((λ req began. rest.rest.asks req (begun_last e out kind req began), λ is. rest.held (traversed_last e out kind is)), parts.1),
    )

-- one that may be logged, if the event's end pays what it owes
pub lawful_more_owing : (e : InEvent) (out : List RowKind) (kind : RowKind) → IsQuiet e kind → KeepsHeld e out kind → AreLawful e out → MayLog (here_of e out) (row_of e kind ∷ []) (λ later. AsksOf e out kind later × Pays (here_of e out) (row_of e kind ∷ []) later) → AreLawful e (out ++ kind ∷ [])
unfolding AreLawful
lawful_more_owing e out kind quiet keeps lawful may later rest =
    let parts = rest_more e out kind quiet keeps later rest in
    pass_more e out (kind ∷ []) later (lawful (row_of e kind ∷ later) parts.0) (may later parts.1)

-- one that owes nothing
pub lawful_more : (e : InEvent) (out : List RowKind) (kind : RowKind) → IsQuiet e kind → KeepsHeld e out kind → AreLawful e out → MayLog (here_of e out) (row_of e kind ∷ []) (AsksOf e out kind) → AreLawful e (out ++ kind ∷ [])
lawful_more e out kind quiet keeps lawful may =
    lawful_more_owing e out kind quiet keeps lawful (λ later both. may later both.0)

-- one that asks nothing
pub lawful_plain : (e : InEvent) (out : List RowKind) (kind : RowKind) → IsQuiet e kind → KeepsHeld e out kind → AreLawful e out → MayLog (here_of e out) (row_of e kind ∷ []) Anything → AreLawful e (out ++ kind ∷ [])
lawful_plain e out kind quiet keeps lawful may = lawful_more e out kind quiet keeps lawful (λ later asks. may later tt)

-- a traversal with which none was held back before: no rows before it ask for that
pub before_traversal : (e : InEvent) (out : List RowKind) (kind : RowKind) → has_traversed e out ≡ false → (later : List LogRow) → has_traversed e out ≡ true → ends_among (held_at_first e) (row_of e kind ∷ later) ≡ (now_of e out).parked
before_traversal e out kind none later is = cc

-- what is lawful as it was before is so, whether or not reports are held back
pub lawful_legal : (e : InEvent) (out : List RowKind) → AreLegal e out → AreLawful e out
unfolding AreLegal AreLawful
lawful_legal e out legal later rest = legal later rest.rest

-- at the event's end nothing comes later
pub lawful_end : (e : InEvent) (out : List RowKind) → AreLawful e out → IsPaid e out → IsTakenIn e (later_of e out) → (has_traversed e out ≡ true → (now_of e out).parked ≡ []) → EachPass (start_of e) (rows_of e out) []
unfolding AreLawful
lawful_end e out lawful paid taken none =
    lawful [] (record {
      rest = record {
        asks = λ req began. refl;
        taken = taken_end e out taken;
        owed = pays_end e out paid;
      };
      held = λ was. sym (none was);
    })
