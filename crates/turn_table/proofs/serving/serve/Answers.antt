use Rattle.std.proofs.Common.{rules, ◌≡◌, [], ◌∷◌, refl, sym, ap, ◌∙◌, subst, Some}
use Rattle.atomic_table.specs.Table.{rest}
use Rattle.turn_table.specs.declared.board.Held.{Held}
use Rattle.turn_table.proofs.Turns.{ends_at, returned, taken}
use Rattle.turn_table.proofs.serving.serve.Goals as goal

pub exchange-held-requires : goal.exchange-held-requires
exchange-held-requires g c = let r = c.requires.served.2 in (c.requires.table.0, (Some r.0, r.1 ∙ ap (λ cs. (0, Some r.0) ∷ rest cs) (sym r.1)))

pub fetch_add-requires : goal.fetch_add-requires
fetch_add-requires g c = let v = c.args.place.now.me.0 in let r = c.requires.served.2 in let held = r.0 in
    let same : held ≡ c.in-Some.field-0 = taken c.args.place.now.me.1 held c.in-Some.field-0 c.exchange-held.result r.1 c.exchange-held.ensures.2 c.in-Some.is in
    let back : Held g.row.V.Denot g.row.V-Event.Denot g.row.V-Reply.Denot = record { value = c.step-reply.new.self; event = Some c.of-said.result; reply = Some c.of-told.result } in
    let now : c.exchange.new.seat.me ≡ (v, (0, Some back) ∷ []) = c.exchange.ensures.3 ∙ (λ i. ((ap (λ m. m.0) c.exchange-held.ensures.3) i, (0, Some back) ∷ (ap (λ m. rest m.1) c.exchange-held.ensures.3 ∙ ap rest r.1) i)) in (
      search rules,
      search rules,
      ends_at g.V.Stepped.goes g.V.Stepped.for_first _ _ _ _ v back c.of-said.result c.of-told.result held.value now refl refl c.requires.served.0 c.requires.served.1 r.2
          (subst (λ (x : _ × _ × _). g.V.Stepped.goes x.0 x.1 x.2 c.step-reply.new.self) (λ i. (ap (λ h. h.value) (sym same) i, sym c.of-said.ensures i, sym c.of-told.ensures i)) c.step-reply.ensures)
          (λ h. c.requires.first (subst g.V.Stepped.for_first c.of-said.ensures h)),
    )

pub returns-clause-turn : goal.returns-clause-turn
returns-clause-turn g c = let v = c.args.place.now.me.0 in let r = c.requires.served.2 in let held = r.0 in
    let same : held ≡ c.in-Some.field-0 = taken c.args.place.now.me.1 held c.in-Some.field-0 c.exchange-held.result r.1 c.exchange-held.ensures.2 c.in-Some.is in
    let back : Held g.row.V.Denot g.row.V-Event.Denot g.row.V-Reply.Denot = record { value = c.step-reply.new.self; event = Some c.of-said.result; reply = Some c.of-told.result } in
    let now : c.exchange.new.seat.me ≡ (v, (0, Some back) ∷ []) = c.exchange.ensures.3 ∙ (λ i. ((ap (λ m. m.0) c.exchange-held.ensures.3) i, (0, Some back) ∷ (ap (λ m. rest m.1) c.exchange-held.ensures.3 ∙ ap rest r.1) i)) in
    let done = returned g.V.Stepped.for_first v c.exchange.new.seat.me.0 c.args.event c.step-reply.result c.of-said.result c.of-told.result c.fetch_add.new.seat.me (ap (λ m. m.0) now) c.of-said.ensures c.of-told.ensures
    (c.fetch_add.ensures.2 back c.of-said.result c.of-told.result (ap (λ m. m.1) now) refl refl) in (
      done.0,
      done.1,
      (held.value, c.step-reply.new.self, r.2, subst (λ x. g.V.Stepped.goes x c.args.event c.step-reply.result c.step-reply.new.self) (ap (λ h. h.value) (sym same)) c.step-reply.ensures),
    )
