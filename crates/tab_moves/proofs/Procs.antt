-- The process in which a document is to be made, as the tables tell, is the log's.
use Rattle.address.specs.Addresses.{base_of, blank_text, origin_of}
use Rattle.seen_facts.specs.Home.Homes.{IsAtHome}
use Rattle.log_model.proofs.Refl.{nat_eq_refl}
use Rattle.log_model.specs.Equal.{holds}
use Rattle.log_model.specs.Places.{aim_of, awake_document}
use Rattle.log_model.specs.Seen.{Document, Place, Seen, Status, awake, document_of, place_of}
use Rattle.log_model.specs.Suits.{first_process, home_of, is_home, process_of_origin, process_of_parent}
use Rattle.log_model.specs.declared.header.Header.{Header}
use Rattle.log_model.specs.declared.row_kind.RowKind.{RowKind}
use Rattle.nav_tree.specs.declared.status.NavStatus.{NavStatus}
use Rattle.nav_tree.specs.declared.status.NavStatus.TheVariants as kept
use Rattle.seen_laws.specs.InEvent.{now_of}
use Rattle.std.proofs.Common.{Bool, List, Option, Some, [], ap, arith, false, refl, sym, true, ℕ, ◌==◌, ◌∙◌, ◌∷◌, ◌≡◌}
use Rattle.std.proofs.lemmas.Bool.Decides.{nat_tests}
use Rattle.std.specs.List.{list_any}
use Rattle.std.specs.Prelude.{is_some, option_and_then, option_map, slice_get}
use Rattle.std.specs.Str.{bytes_eq}
use Rattle.tab_doors.proofs.Holding.{HasNode, its_node}
use Rattle.tab_doors.proofs.Sights.{sight_found}
use Rattle.tab_doors.specs.Look.{look_of, sight}
use Rattle.tab_doors.specs.Ties.{birth_of, proc_in, status_of}
use Rattle.tab_doors.specs.declared.birth.Birth.{Birth}
use Rattle.tab_doors.specs.declared.tables.Tables.{Tables}
use Rattle.tab_ids.specs.declared.DocId.{DocId}
use Rattle.tab_ids.specs.declared.NavId.{NavId}
use Rattle.tab_ids.specs.declared.ProcId.{ProcId}
use Rattle.tab_moves.proofs.Ups.{up_at}
use Rattle.tab_moves.specs.Making.{home_in, parent_proc}
use Rattle.tab_passes.proofs.Stand.{stand_for}
use Rattle.tab_passes.specs.Passing.{InPass, IsPassing}
use Rattle.tab_passes.specs.Telling.{awake_on}
use Rattle.seen_facts.proofs.Walk.Placed.{found_nav}
use Rattle.tab_passes.proofs.PassedOn.{IsUpAt}
use Rattle.seen_facts.specs.Walk.Serving.{is_stopping}

module _ (p : InPass) (out : List RowKind) (t : Tables) (pass : IsPassing p out t) (nav : NavId) (place : Place) (placed : place_of (now_of p.event out) nav ≡ Some place) (reached : list_any (is_stopping (now_of p.event out).history.rows (aim_of (now_of p.event out)) (now_of p.event out).places) place.above ≡ false) where
  abbrev s : Seen
  s = now_of p.event out

  -- the process of a document
  proc_found_in : (doc : DocId) (d : Document) → document_of s doc ≡ Some d → proc_in t.whose.entries doc ≡ Some d.proc
  proc_found_in doc d found =
      ap (λ (o : Option Birth). option_map (λ (b : Birth). b.proc) o) (pass.work.holds.whose doc ∙ ap (option_map birth_of) (sight_found s.documents doc ∙ ap (option_map sight) found))

  -- the document that the navigable above is awake on has one, the same in both
  record IsParentProc : Type 0 where
    proc : ProcId
    table : parent_proc t nav ≡ Some proc
    log : process_of_parent s nav ≡ Some proc

  parent_is : (parent : NavId) (others : List NavId) → place.above ≡ parent ∷ others → IsParentProc
  parent_is parent others is =
      record { proc = home.document.proc; table = table_; log = log_ }
    where
      up : IsUpAt s (aim_of s) parent
      up = up_at s parent others place is reached

      home : IsAtHome s.documents up.up.place.nav up.up.doc
      home = (pass.going.tab.homes.homed parent up.up.place up.up.doc up.up.placed up.up.wakes).home

      there : document_of s up.up.doc ≡ Some home.document
      there = home.found

      log_ : process_of_parent s nav ≡ Some home.document.proc
      log_ =
          ap (λ (o : Option Place). option_and_then (λ (q : Place). option_and_then (λ (n : NavId). option_and_then (λ (r : Place). option_map (λ (d : Document). d.proc) (option_and_then (document_of s) (awake_document r))) (place_of s n)) (slice_get q.above 0)) o) placed
          ∙ ap (λ (l : List NavId). option_and_then (λ (n : NavId). option_and_then (λ (r : Place). option_map (λ (d : Document). d.proc) (option_and_then (document_of s) (awake_document r))) (place_of s n)) (slice_get l 0)) is
          ∙ ap (λ (o : Option Place). option_and_then (λ (r : Place). option_map (λ (d : Document). d.proc) (option_and_then (document_of s) (awake_document r))) o) up.up.placed
          ∙ ap (λ (st : Status). option_map (λ (d : Document). d.proc) (option_and_then (document_of s) (awake_document (record up.up.place { status = st })))) up.up.wakes
          ∙ ap (λ (o : Option Document). option_map (λ (d : Document). d.proc) o) there

      own : HasNode (look_of s t.running) t.tree nav place
      own = its_node (look_of s t.running) t.tree nav place pass.work.holds.navs placed

      above : HasNode (look_of s t.running) t.tree parent up.up.place
      above = its_node (look_of s t.running) t.tree parent up.up.place pass.work.holds.navs up.up.placed

      parent_at : own.node.nav.parent ≡ Some parent
      parent_at = own.tied.parent ∙ ap (λ (l : List NavId). slice_get l 0) is

      wakes : (st : NavStatus) → above.node.nav.status ≡ st → status_of st ≡ awake up.up.doc → awake_on st ≡ Some up.up.doc
      wakes (kept.Awake doc) same e = (let one : doc ≡ up.up.doc = cc in ap (λ (d : DocId). Some d) one)
      wakes kept.Lost same e = cc
      wakes kept.Asleep same e = cc

      on : awake_on above.node.nav.status ≡ Some up.up.doc
      on = wakes above.node.nav.status refl (above.tied.status ∙ up.up.wakes)

      table_ : parent_proc t nav ≡ Some home.document.proc
      table_ = rw own.there (rw parent_at (rw above.there (rw on (proc_found_in up.up.doc home.document there))))

  parents_same : (nav.0 == 0) ≡ false → IsParentProc
  parents_same not_zero = by_above place.above refl
    where
      by_above : (l : List NavId) → place.above ≡ l → IsParentProc
      by_above [] is =
          let zero_ : place.nav.0 ≡ 0 = ((stand_for p out t pass).hangs nav place placed).top is in
          let number : nav.0 ≡ 0 = sym (ap (λ (n : NavId). n.0) (found_nav s.places nav place placed)) ∙ zero_ in
          absurd (grind (arith, nat_tests, number, not_zero))
      by_above (parent ∷ others) is = parent_is parent others is

  -- it is the log's, and there is one
  pub record IsHomeBoth (header : Header) (address : List ℕ) : Type 0 where
    pub proc : ProcId
    pub table : home_in header t nav address ≡ Some proc
    pub log : home_of header s nav address ≡ Some proc

  pub homes_same : (header : Header) (address : List ℕ) → IsHomeBoth header address
  homes_same header address = by_blank (bytes_eq (base_of address) blank_text) refl
    where
      by_top : bytes_eq (base_of address) blank_text ≡ true → (b : Bool) → (nav.0 == 0) ≡ b → IsHomeBoth header address
      by_top blank true zero_ = record { proc = first_process; table = rw blank (rw zero_ refl); log = rw blank (rw zero_ refl) }
      by_top blank false not_zero =
          let its = parents_same not_zero in
          record { proc = its.proc; table = rw blank (rw not_zero its.table); log = rw blank (rw not_zero its.log) }

      by_blank : (b : Bool) → bytes_eq (base_of address) blank_text ≡ b → IsHomeBoth header address
      by_blank true blank = by_top blank (nav.0 == 0) refl
      by_blank false sited = record { proc = process_of_origin header (origin_of address); table = rw sited refl; log = rw sited refl }

  pub home_is : (header : Header) (address : List ℕ) (proc : ProcId) → home_in header t nav address ≡ Some proc → is_home header s nav address proc ≡ true
  home_is header address proc is =
      let its = homes_same header address in
      let both : Some its.proc ≡ Some proc = sym its.table ∙ is in
      let one : its.proc ≡ proc = cc in
      ap (λ (o : Option ProcId). holds (λ (home : ProcId). home.0 == proc.0) o) its.log ∙ ap (λ (q : ProcId). q.0 == proc.0) one ∙ nat_eq_refl proc.0

  pub home_some : (header : Header) (address : List ℕ) → is_some (home_in header t nav address) ≡ true
  home_some header address = ap (λ (o : Option ProcId). is_some o) (homes_same header address).table
