-- A document goes on living as a row changes it: as it is told, shown, frozen or discarded, as its report or an entry of it is taken, and as its process works.
use Rattle.std.proofs.Common.{◌≡◌, ℕ, Bool, true, false, cond, ◌==◌, Option, Some, None, refl, sym, ◌∙◌, subst}
use Rattle.std.specs.Prelude.{option_map}
use Rattle.log_model.specs.declared.change.Change.{Change}
use Rattle.log_model.specs.declared.change.Change.TheVariants as changes
use Rattle.log_model.specs.declared.job.Task.{Task}
use Rattle.log_model.specs.declared.job.Task.TheVariants as tasks
use Rattle.log_model.specs.declared.made.What.{What}
use Rattle.log_model.specs.declared.made.What.TheVariants as whats
use Rattle.log_model.specs.After.{applied_to, told_after_change}
use Rattle.log_model.specs.AfterDocuments.{view_finished}
use Rattle.log_model.specs.Seen.{Document, Place}
use Rattle.log_model.specs.Views.{View, after_made, after_task}
use Rattle.seen_facts.specs.Desk.Own.{IsTaskOf}
use Rattle.seen_facts.specs.Doc.Docs.{IsLive}
use Rattle.seen_facts.proofs.Doc.Leaves.{KeepsDoc, keeps_both, keeps_if, itself_keeps}

some_same : {A : Type 0} {a b : A} → (let o : Option A = Some a in o) ≡ Some b → a ≡ b
some_same e = cc

-- ---- by what is read of it

-- the document has what is read of its life as before; it is made still, if it was, and discarded only if it was
pub record IsAsBefore (d new : Document) : Type 0 where
  pub nr : new.nr ≡ d.nr
  pub incarnation : new.incarnation ≡ d.incarnation
  pub slot : new.slot ≡ d.slot
  pub lives : new.dead_by ≡ d.dead_by
  pub unknown : new.is_known_dead ≡ d.is_known_dead
  pub view : new.view ≡ d.view
  pub ready : new.is_ready ≡ d.is_ready
  pub discarded : new.is_discarded ≡ d.is_discarded

pub itself_as : (d : Document) → IsAsBefore d d
itself_as d = record { nr = refl; incarnation = refl; slot = refl; lives = refl; unknown = refl; view = refl; ready = refl; discarded = refl }

pub live_as : (d new : Document) → IsAsBefore d new → IsLive d → IsLive new
live_as d new same is =
    record {
      incarnation = same.incarnation ∙ is.incarnation;
      slot = same.slot ∙ is.slot;
      lives = same.lives ∙ is.lives;
      unknown = same.unknown ∙ is.unknown;
      viewed = λ view has. is.viewed view (sym same.view ∙ has) ∙ sym same.nr;
      unmade = λ view has no_. is.unmade view (sym same.view ∙ has) (sym same.ready ∙ no_);
      made = λ gone. same.ready ∙ is.made (sym same.discarded ∙ gone);
    }

as_if : (b : Bool) (d new : Document) → IsAsBefore d new → IsAsBefore d (cond b new d)
as_if true d new same = same
as_if false d new same = itself_as d

as_then : (d mid new : Document) → IsAsBefore d mid → IsAsBefore mid new → IsAsBefore d new
as_then d mid new one two =
    record {
      nr = two.nr ∙ one.nr;
      incarnation = two.incarnation ∙ one.incarnation;
      slot = two.slot ∙ one.slot;
      lives = two.lives ∙ one.lives;
      unknown = two.unknown ∙ one.unknown;
      view = two.view ∙ one.view;
      ready = two.ready ∙ one.ready;
      discarded = two.discarded ∙ one.discarded;
    }

-- ---- a change is applied

-- what a document is after it
abbrev pub takes_in : Change → Document → Document
takes_in change d = applied_to change (told_after_change d change)

untold_as : (b : Bool) (d : Document) → IsAsBefore d (cond b (record d { told = None }) d)
untold_as b d = as_if b d (record d { told = None }) (record { nr = refl; incarnation = refl; slot = refl; lives = refl; unknown = refl; view = refl; ready = refl; discarded = refl })

applied_as : (b : Bool) (n : ℕ) (d : Document) → IsAsBefore d (cond b (record d { last_applied = n }) d)
applied_as b n d = as_if b d (record d { last_applied = n }) (record { nr = refl; incarnation = refl; slot = refl; lives = refl; unknown = refl; view = refl; ready = refl; discarded = refl })

stale_as : (b : Bool) (d : Document) → IsAsBefore d (cond b (record d { is_fresh = false }) d)
stale_as b d = as_if b d (record d { is_fresh = false }) (record { nr = refl; incarnation = refl; slot = refl; lives = refl; unknown = refl; view = refl; ready = refl; discarded = refl })

pub change_as : (change : Change) (d : Document) → IsAsBefore d (takes_in change d)
change_as (changes.Push nav entry state address memo) d =
    as_then d (told_after_change d (changes.Push nav entry state address memo)) (takes_in (changes.Push nav entry state address memo) d) (untold_as (d.nr.0 == entry.maker) d) (applied_as ((told_after_change d (changes.Push nav entry state address memo)).nr.0 == entry.maker) entry.nr (told_after_change d (changes.Push nav entry state address memo)))
change_as (changes.Replace nav over entry state address memo) d = applied_as (d.nr.0 == entry.maker) entry.nr d
change_as (changes.Reload nav) d = stale_as (d.nav.0 == nav.0) d
change_as (changes.AddFrame owner nav entry state) d = itself_as d
change_as (changes.RemoveFrame nav) d = itself_as d
change_as (changes.Traverse goal) d = itself_as d
change_as changes.Edit d = itself_as d

plain_keeps : (f : Document → Document) → ((d : Document) → (f d).nr ≡ d.nr) → ((d : Document) → (f d).nav ≡ d.nav) → ((d : Document) → (f d).state ≡ d.state) → ((d : Document) → (f d).proc ≡ d.proc) → ((d : Document) → (f d).is_discarded ≡ d.is_discarded) → KeepsDoc f
plain_keeps f nr nav state proc gone =
    record { nr = nr; nav = nav; state = state; proc = proc; discarded = λ d e. sym (gone d) ∙ e }

untold_keeps : (n : ℕ) → KeepsDoc (λ (d : Document). cond (d.nr.0 == n) (record d { told = None }) d)
untold_keeps n = keeps_if (λ (d : Document). d.nr.0 == n) (λ (d : Document). record d { told = None }) (plain_keeps (λ (d : Document). record d { told = None }) (λ d. refl) (λ d. refl) (λ d. refl) (λ d. refl) (λ d. refl))

applied_keeps : (n last : ℕ) → KeepsDoc (λ (d : Document). cond (d.nr.0 == n) (record d { last_applied = last }) d)
applied_keeps n last = keeps_if (λ (d : Document). d.nr.0 == n) (λ (d : Document). record d { last_applied = last }) (plain_keeps (λ (d : Document). record d { last_applied = last }) (λ d. refl) (λ d. refl) (λ d. refl) (λ d. refl) (λ d. refl))

pub change_keeps : (change : Change) → KeepsDoc (takes_in change)
change_keeps (changes.Push nav entry state address memo) =
    keeps_both (λ (d : Document). cond (d.nr.0 == entry.maker) (record d { told = None }) d) (λ (d : Document). cond (d.nr.0 == entry.maker) (record d { last_applied = entry.nr }) d) (untold_keeps entry.maker) (applied_keeps entry.maker entry.nr)
change_keeps (changes.Replace nav over entry state address memo) = applied_keeps entry.maker entry.nr
change_keeps (changes.Reload nav) =
    keeps_if (λ (d : Document). d.nav.0 == nav.0) (λ (d : Document). record d { is_fresh = false }) (plain_keeps (λ (d : Document). record d { is_fresh = false }) (λ d. refl) (λ d. refl) (λ d. refl) (λ d. refl) (λ d. refl))
change_keeps (changes.AddFrame owner nav entry state) = itself_keeps
change_keeps (changes.RemoveFrame nav) = itself_keeps
change_keeps (changes.Traverse goal) = itself_keeps
change_keeps changes.Edit = itself_keeps

-- no change freezes a document
pub change_frozen : (change : Change) (d : Document) → (takes_in change d).is_frozen ≡ d.is_frozen
change_frozen (changes.Push nav entry state address memo) d =
    by_tests (d.nr.0 == entry.maker) (λ x. x.nr.0 == entry.maker)
  where
    by_tests : (a : Bool) (test : Document → Bool) → (let x : Document = cond a (record d { told = None }) d in let y : Document = cond (test x) (record x { last_applied = entry.nr }) x in y).is_frozen ≡ d.is_frozen
    by_tests true test = elim (test (record d { told = None })) as (λ b. (let y : Document = cond b (record (record d { told = None }) { last_applied = entry.nr }) (record d { told = None }) in y).is_frozen ≡ d.is_frozen) [ true ↦ refl | false ↦ refl ]
    by_tests false test = elim (test d) as (λ b. (let y : Document = cond b (record d { last_applied = entry.nr }) d in y).is_frozen ≡ d.is_frozen) [ true ↦ refl | false ↦ refl ]
change_frozen (changes.Replace nav over entry state address memo) d = elim (d.nr.0 == entry.maker) as (λ b. (let y : Document = cond b (record d { last_applied = entry.nr }) d in y).is_frozen ≡ d.is_frozen) [ true ↦ refl | false ↦ refl ]
change_frozen (changes.Reload nav) d = elim (d.nav.0 == nav.0) as (λ b. (let y : Document = cond b (record d { is_fresh = false }) d in y).is_frozen ≡ d.is_frozen) [ true ↦ refl | false ↦ refl ]
change_frozen (changes.AddFrame owner nav entry state) d = refl
change_frozen (changes.RemoveFrame nav) d = refl
change_frozen (changes.Traverse goal) d = refl
change_frozen changes.Edit d = refl

-- ---- its view

-- the view is the document's own, and runs only once it is made
pub record IsRightView (d : Document) (view : View) : Type 0 where
  pub doc : view.doc ≡ d.nr
  pub unmade : d.is_ready ≡ false → view.running ≡ false

-- with such a view it lives
pub viewed_live : (d : Document) (o : Option View) → ((view : View) → o ≡ Some view → IsRightView d view) → IsLive d → IsLive (record d { view = o })
viewed_live d o right is =
    record {
      incarnation = is.incarnation;
      slot = is.slot;
      lives = is.lives;
      unknown = is.unknown;
      viewed = λ view has. (right view has).doc;
      unmade = λ view has. (right view has).unmade;
      made = is.made;
    }

-- an order was finished
pub finished_right : (d : Document) (place : Place) → IsLive d → (task : Task) → IsTaskOf d place task → (view : View) → view_finished d task ≡ Some view → IsRightView d view
finished_right d place is (tasks.Populate nav state address initial) its view has =
    subst (λ (v : View). IsRightView d v) (some_same has) (record { doc = refl; unmade = λ no_. refl })
finished_right d place is (tasks.Activate entry epoch long at memo address) its view has = by_view d.view refl has
  where
    by_view : (o : Option View) → d.view ≡ o → option_map (λ (v : View). after_task v (tasks.Activate entry epoch long at memo address)) o ≡ Some view → IsRightView d view
    by_view None e h = absurd cc
    by_view (Some v) e h = subst (λ (x : View). IsRightView d x) (some_same h) (record { doc = is.viewed v e; unmade = λ no_. (let never : true ≡ false = sym its.0 ∙ no_ in absurd cc) })
finished_right d place is (tasks.Update long at) its view has = by_view d.view refl has
  where
    by_view : (o : Option View) → d.view ≡ o → option_map (λ (v : View). after_task v (tasks.Update long at)) o ≡ Some view → IsRightView d view
    by_view None e h = absurd cc
    by_view (Some v) e h = subst (λ (x : View). IsRightView d x) (some_same h) (record { doc = is.viewed v e; unmade = λ no_. is.unmade v e no_ })
finished_right d place is tasks.Discard its view has = absurd cc
finished_right d place is tasks.Freeze its view has = by_view d.view refl has
  where
    by_view : (o : Option View) → d.view ≡ o → option_map (λ (v : View). after_task v tasks.Freeze) o ≡ Some view → IsRightView d view
    by_view None e h = absurd cc
    by_view (Some v) e h = subst (λ (x : View). IsRightView d x) (some_same h) (record { doc = is.viewed v e; unmade = λ no_. refl })
finished_right d place is (tasks.Ask slot cause) its view has = by_view d.view refl has
  where
    by_view : (o : Option View) → d.view ≡ o → option_map (λ (v : View). after_task v (tasks.Ask slot cause)) o ≡ Some view → IsRightView d view
    by_view None e h = absurd cc
    by_view (Some v) e h = subst (λ (x : View). IsRightView d x) (some_same h) (record { doc = is.viewed v e; unmade = λ no_. is.unmade v e no_ })
finished_right d place is (tasks.DoFragment req mode address) its view has =
    record { doc = is.viewed view has; unmade = λ no_. is.unmade view has no_ }

-- something was made
made_right : (d : Document) (view : View) (what : What) → IsRightView d view → IsRightView d (after_made view what)
made_right d view (whats.Push entry memo address) right = record { doc = right.doc; unmade = right.unmade }
made_right d view (whats.Replace over entry memo address) right = record { doc = right.doc; unmade = right.unmade }
made_right d view (whats.AddFrame nav) right = right
made_right d view (whats.RemoveFrame nav) right = right
made_right d view (whats.Go delta) right = right
made_right d view whats.Edit right = record { doc = right.doc; unmade = right.unmade }

pub making_right : (d : Document) (what : What) → IsLive d → (view : View) → option_map (λ (v : View). after_made v what) d.view ≡ Some view → IsRightView d view
making_right d what is view has = by_view d.view refl has
  where
    by_view : (o : Option View) → d.view ≡ o → option_map (λ (v : View). after_made v what) o ≡ Some view → IsRightView d view
    by_view None e h = absurd cc
    by_view (Some v) e h = subst (λ (x : View). IsRightView d x) (some_same h) (made_right d v what (record { doc = is.viewed v e; unmade = λ no_. is.unmade v e no_ }))
