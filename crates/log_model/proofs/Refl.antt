-- Each test of equality holds of a thing and itself.
use Rattle.std.proofs.Common.{◌≡◌, ℕ, ℤ, pos, negsuc, Bool, true, false, ◌==◌, List, [], ◌∷◌, Option, Some, None, refl, arith}
use Rattle.std.specs.Prelude.{bytes_eq}
use Rattle.std.proofs.lemmas.Bool.Decides.{nat_tests}
use Rattle.std.proofs.lemmas.Slice.Eq.{bytes_eq-Decides}
use Rattle.tab_ids.specs.declared.EntryId.{EntryId}
use Rattle.log_model.specs.declared.change.Change.{Change}
use Rattle.log_model.specs.declared.change.Change.TheVariants as changes
use Rattle.log_model.specs.declared.handler.LeaveCause.{LeaveCause}
use Rattle.log_model.specs.declared.handler.LeaveCause.TheVariants as causes
use Rattle.log_model.specs.declared.job.Why.{Why}
use Rattle.log_model.specs.declared.job.Why.TheVariants as whys
use Rattle.log_model.specs.declared.made.What.{What}
use Rattle.log_model.specs.declared.made.What.TheVariants as whats
use Rattle.log_model.specs.declared.outcome.Denial.{Denial}
use Rattle.log_model.specs.declared.outcome.Denial.TheVariants as denials
use Rattle.log_model.specs.declared.request.Mode.{Mode}
use Rattle.log_model.specs.declared.request.Mode.TheVariants as modes
use Rattle.log_model.specs.declared.row_kind.Actor.{Actor}
use Rattle.log_model.specs.declared.row_kind.Actor.TheVariants as actors
use Rattle.log_model.specs.History.{same_entry}
use Rattle.log_model.specs.Equal.{same_option, same_list, same_bool, same_delta, same_slot, same_pair, same_actor, same_mode, same_leaving, same_denial, same_why, same_memo, same_new_entry, same_what, same_change}

pub nat_eq_refl : (n : ℕ) → (n == n) ≡ true
nat_eq_refl n = grind (arith, nat_tests)

pub bytes_eq_refl : (text : List ℕ) → bytes_eq text text ≡ true
bytes_eq_refl text = (bytes_eq-Decides text text).1 refl

pub same_option_refl : {A : Type 0} (same : A → A → Bool) → ((a : A) → same a a ≡ true) → (a : Option A) → same_option same a a ≡ true
same_option_refl same h None = refl
same_option_refl same h (Some a) = h a

pub same_list_refl : {A : Type 0} (same : A → A → Bool) → ((a : A) → same a a ≡ true) → (items : List A) → same_list same items items ≡ true
same_list_refl same h [] = refl
same_list_refl same h (a ∷ items) = rw (h a) (same_list_refl same h items)

pub same_bool_refl : (b : Bool) → same_bool b b ≡ true
same_bool_refl true = refl
same_bool_refl false = refl

pub same_delta_refl : (delta : ℤ) → same_delta delta delta ≡ true
same_delta_refl (pos n) = nat_eq_refl n
same_delta_refl (negsuc n) = nat_eq_refl n

pub same_slot_refl : (slot : Option ℕ) → same_slot slot slot ≡ true
same_slot_refl slot = same_option_refl _ nat_eq_refl slot

pub same_pair_refl : (pair : ℕ × ℕ) → same_pair pair pair ≡ true
same_pair_refl pair = rw (nat_eq_refl pair.0) (nat_eq_refl pair.1)

pub same_entry_refl : (entry : EntryId) → same_entry entry entry ≡ true
same_entry_refl entry = rw (nat_eq_refl entry.maker) (nat_eq_refl entry.nr)

pub same_actor_refl : (actor : Actor) → same_actor actor actor ≡ true
same_actor_refl actors.Start = refl
same_actor_refl actors.Ui = refl
same_actor_refl actors.Coord = refl
same_actor_refl (actors.Proc proc) = nat_eq_refl proc.0

pub same_mode_refl : (mode : Mode) → same_mode mode mode ≡ true
same_mode_refl modes.Auto = refl
same_mode_refl modes.Push = refl
same_mode_refl modes.Replace = refl

pub same_leaving_refl : (cause : LeaveCause) → same_leaving cause cause ≡ true
same_leaving_refl causes.Load = refl
same_leaving_refl causes.Traverse = refl
same_leaving_refl causes.Reload = refl

pub same_denial_refl : (reason : Denial) → same_denial reason reason ≡ true
same_denial_refl denials.NoStep = refl
same_denial_refl denials.NoNavigable = refl
same_denial_refl denials.NotShown = refl
same_denial_refl denials.NoDocument = refl
same_denial_refl denials.NavTaken = refl
same_denial_refl denials.BadAddress = refl

pub same_why_refl : (why : Why) → same_why why why ≡ true
same_why_refl (whys.Req req) = nat_eq_refl req.0
same_why_refl (whys.Death death) = nat_eq_refl death.0
same_why_refl whys.Evict = refl
same_why_refl whys.Start = refl

pub same_memo_refl : (memo : Option (List ℕ)) → same_memo memo memo ≡ true
same_memo_refl None = refl
same_memo_refl (Some text) = bytes_eq_refl text

pub same_new_entry_push : (entry : EntryId) (memo : Option (List ℕ)) (address : List ℕ) → same_new_entry (whats.Push entry memo address) (whats.Push entry memo address) ≡ true
same_new_entry_push entry memo address = rw (same_entry_refl entry, same_memo_refl memo) (bytes_eq_refl address)

pub same_what_refl : (what : What) → same_what what what ≡ true
same_what_refl (whats.Push entry memo address) = rw (same_entry_refl entry, same_memo_refl memo) (bytes_eq_refl address)
same_what_refl (whats.Replace over entry memo address) = rw (same_entry_refl over, same_entry_refl entry, same_memo_refl memo) (bytes_eq_refl address)
same_what_refl (whats.AddFrame nav) = nat_eq_refl nav.0
same_what_refl (whats.RemoveFrame nav) = nat_eq_refl nav.0
same_what_refl (whats.Go delta) = same_delta_refl delta
same_what_refl whats.Edit = refl

pub same_change_refl : (change : Change) → same_change change change ≡ true
same_change_refl (changes.Push nav entry state address memo) = rw (nat_eq_refl nav.0, same_entry_refl entry, nat_eq_refl state.0, bytes_eq_refl address) (same_memo_refl memo)
same_change_refl (changes.Replace nav over entry state address memo) = rw (nat_eq_refl nav.0, same_entry_refl over, same_entry_refl entry, nat_eq_refl state.0, bytes_eq_refl address) (same_memo_refl memo)
same_change_refl (changes.AddFrame owner nav entry state) = rw (nat_eq_refl owner.0, nat_eq_refl nav.0, same_entry_refl entry) (nat_eq_refl state.0)
same_change_refl (changes.RemoveFrame nav) = nat_eq_refl nav.0
same_change_refl (changes.Traverse goal) = nat_eq_refl goal.0
same_change_refl (changes.Reload nav) = nat_eq_refl nav.0
same_change_refl changes.Edit = refl
