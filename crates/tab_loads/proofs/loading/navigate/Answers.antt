use Rattle.std.proofs.Common.{List, None, Option, ap, sym, ℕ, ◌∙◌, ◌≡◌}
use Rattle.tab_ids.specs.declared.DocId.{DocId}
use Rattle.tab_ids.specs.declared.NavId.{NavId}
use Rattle.tab_loads.proofs.Asks.{asks_come, asks_nobody}
use Rattle.tab_loads.proofs.loading.navigate.Goals as goal
use Rattle.tab_loads.specs.Telling.{away_in, fragment_in}
use Rattle.tab_doors.specs.declared.tables.Tables.{Tables}

-- what the tables tell of the navigable and the address is told of those that the load names
away_named : (t : Tables) (own nav : NavId) (found : Option NavId) → own ≡ nav → found ≡ away_in t nav → found ≡ None → away_in t own ≡ None
away_named t own nav found nav_is told none = ap (λ (n : NavId). away_in t n) nav_is ∙ sym told ∙ none

fragment_named : (t : Tables) (own nav : NavId) (address a : List ℕ) (found to : Option DocId) → own ≡ nav → address ≡ a → found ≡ fragment_in t nav a → found ≡ to → fragment_in t own address ≡ to
fragment_named t own nav address a found to nav_is address_is told is =
    ap (λ (n : NavId). fragment_in t n address) nav_is ∙ ap (λ (x : List ℕ). fragment_in t nav x) address_is ∙ sym told ∙ is

pub to_fragment-requires : goal.to_fragment-requires
to_fragment-requires g c = (
  c.requires.1.0,
  (
    c.requires.1.1.1.1.0,
    (
      c.requires.1.1.1.1.1.0,
      (
        c.requires.1.1.1.1.1.1.1.0,
        (
          c.requires.1.1.1.1.1.1.1.1.0,
          (
            away_named c.args.tables.now g.l.nav c.args.nav _ c.requires.1.1.1.1.1.1.0 c.away.ensures c.in-None.is,
            fragment_named c.args.tables.now g.l.nav c.args.nav g.l.address c.args.address.now _ _ c.requires.1.1.1.1.1.1.0 c.requires.1.1.1.1.1.1.1.1.0 c.fragment_doc.ensures c.in-Some-fragment_doc.is,
          ),
        ),
      ),
    ),
  ),
)

pub begin-requires : goal.begin-requires
begin-requires g c = (
  c.requires.0,
  (
    c.requires.1.0,
    (
      c.requires.1.1.1.0,
      (
        c.requires.1.1.1.1.0,
        (
          c.requires.1.1.1.1.1.0,
          (
            c.requires.1.1.1.1.1.1.0,
            (
              c.requires.1.1.1.1.1.1.1.0,
              (
                c.requires.1.1.1.1.1.1.1.1.0,
                (
                  away_named c.args.tables.now g.l.nav c.args.nav _ c.requires.1.1.1.1.1.1.0 c.away.ensures c.in-None.is,
                  (
                    fragment_named c.args.tables.now g.l.nav c.args.nav g.l.address c.args.address.now _ _ c.requires.1.1.1.1.1.1.0 c.requires.1.1.1.1.1.1.1.1.0 c.fragment_doc.ensures c.in-None-fragment_doc.is,
                    asks_nobody g.l c.args.tables.now c.requires.1.0 c.args.slots.now.entries c.requires.1.1.1.1.1.1.1.1.1 c.args.nav c.requires.1.1.1.1.1.1.0 _ c.in_ok-asks-in-None-fragment_doc.ensures c.if-asks.false,
                  ),
                ),
              ),
            ),
          ),
        ),
      ),
    ),
  ),
)

pub returns-then-asks : goal.returns-then-asks
returns-then-asks g c =
    record { come = asks_come g.l c.args.tables.now c.requires.1.0 c.args.slots.now.entries c.requires.1.1.1.1.1.1.1.1.1 c.args.nav c.requires.1.1.1.1.1.1.0 _ c.in_ok-asks-in-None-fragment_doc.ensures (away_named c.args.tables.now g.l.nav c.args.nav _ c.requires.1.1.1.1.1.1.0 c.away.ensures c.in-None.is) (fragment_named c.args.tables.now g.l.nav c.args.nav g.l.address c.args.address.now _ _ c.requires.1.1.1.1.1.1.0 c.requires.1.1.1.1.1.1.1.1.0 c.fragment_doc.ensures c.in-None-fragment_doc.is) _ c.requires.1.1.1.1.0 _ c.requires.1.1.1.0 c.if-asks.true }
