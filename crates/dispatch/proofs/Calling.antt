-- One call: the table after it by its reply, and that its reply fits words.
-- Assumes nothing.
use Prim.Native.Nat.{ℕ, ◌<◌}
use mathlib.Core.Path.{◌≡◌, refl, sym, ap, ◌∙◌}
use mathlib.Core.Bool.{Bool, true, false, cond, true≢false}
use mathlib.Core.Logic.{◌≢◌}
use mathlib.Core.List.{List}
use lib.ListN.{length}
use Rattle.std.specs.Option.{ForSome, MatchOption}
use Rattle.std.specs.Prelude.{Option, None, Some}
use Rattle.std.proofs.lemmas.Option.{same_Some, none-some}
use native.Mathlib.Omega.{arith}
use lib.Dec.{eqb}
use borrow.Author.Tests.{eqb-true, eqb-false, ne_eqb}
use Rattle.lists.proofs.Tests.{by_bool}
use Rattle.table.specs.Parts.{used_of}
use Rattle.table.proofs.Soundness.{sound-facts}
use Rattle.upkeep.specs.Upkeep.{one_more, with_entry, with_opened}
use Rattle.calls.specs.declared.Call.{Call}
use Rattle.calls.specs.declared.Call.TheVariants.{AddServer, Reweight, Write, Delete, Lookup}
use Rattle.calls.specs.Number.{add_server_number, reweight_number, write_number, delete_number, lookup_number}
use Rattle.calls.specs.Numbered.{on_servers, is_write, call_of}
use Rattle.replies.specs.declared.Reply.{Reply}
use Rattle.replies.proofs.Answers.{reply-unopened}
use Rattle.deletion.specs.Deletion.{delete_reply}
use Rattle.servers.specs.Servers.{add_server_reply, reweight_reply}
use Rattle.writing.specs.Writing.{write_reply}
use Rattle.lookup.specs.Lookup.{lookup_table}
use Rattle.writing.proofs.Accepted.{written-to, table_kept}
use Rattle.archive.proofs.Small.{Small, add_server-small, reweight-small, write-small, delete-small, lookup-small}
use Rattle.history.specs.Machine.{State, reply, next}
use Rattle.dispatch.specs.OneCall.{in_list, reply_to, next_by, used_after, counters_after, counted_table}

-- add_server and reweight alone change the servers
pub no-other : (c : Call) → on_servers c ≡ true → ((weight : ℕ) → c ≡ AddServer weight → ⊥) → ((server weight : ℕ) → c ≡ Reweight server weight → ⊥) → ⊥
unfolding on_servers
no-other (AddServer weight) o a b = a weight refl
no-other (Reweight server weight) o a b = b server weight refl
no-other (Write _ _ _) o a b = true≢false (sym o)
no-other (Delete _ _) o a b = true≢false (sym o)
no-other (Lookup _ _) o a b = true≢false (sym o)

-- whether a call changes the servers, by the code's test of what may be no call
pub by-test : (o : Option Call) (r b : Bool) → MatchOption o (r ≡ false) (λ c. r ≡ on_servers c) → r ≡ b → ForSome o (λ c. on_servers c ≡ b)
by-test o r b e d c f = sym (rw f at e) ∙ d

-- no reply but a lookup's carries an opened count; what is no call has none either
pub unopened : (S : State) (o : Option Call) → ((tenant id : ℕ) → o ≡ Some (Lookup tenant id) → ⊥) → (reply_to S o).opened ≡ 0
unfolding in_list reply_to reply add_server_reply reweight_reply write_reply delete_reply
unopened S None n = refl
unopened S (Some (AddServer _)) n = reply-unopened _ _ refl
unopened S (Some (Reweight _ _)) n = reply-unopened _ _ refl
unopened S (Some (Write _ _ _)) n = reply-unopened _ _ refl
unopened S (Some (Delete _ _)) n = reply-unopened _ _ refl
unopened S (Some (Lookup tenant id)) n = absurd (n tenant id refl)

-- the same by the number of a call
pub number-unopened : (S : State) (number tenant subject amount : ℕ) → number ≢ lookup_number → (reply_to S (call_of number tenant subject amount)).opened ≡ 0
unfolding call_of in_list reply_to reply add_server_reply reweight_reply write_reply delete_reply
number-unopened S number tenant subject amount l = rw (ne_eqb number lookup_number l)
    (by_bool (eqb number add_server_number) (λ d. rw d (reply-unopened _ _ refl)) (λ d. rw d
    (by_bool (eqb number reweight_number) (λ d. rw d (reply-unopened _ _ refl)) (λ d. rw d
    (by_bool (eqb number write_number) (λ d. rw d (reply-unopened _ _ refl)) (λ d. rw d
    (by_bool (eqb number delete_number) (λ d. rw d (reply-unopened _ _ refl)) (λ d. rw d refl))))))))

-- by the number of a call: which calls change the servers, which is a write, and what is counted
module _ (number tenant subject amount : ℕ) where
  abbrev made : Option Call
  made = call_of number tenant subject amount

  pub lent-number : number ≢ add_server_number → number ≢ reweight_number → ForSome made (λ c. on_servers c ≡ false)
  unfolding call_of on_servers
  lent-number a b c e =
      let f = rw (ne_eqb number add_server_number a, ne_eqb number reweight_number b) at e in
      by_bool (eqb number write_number) (λ d. sym (ap on_servers (same_Some _ _ (rw d at f)))) (λ w.
      by_bool (eqb number delete_number) (λ d. sym (ap on_servers (same_Some _ _ (rw (w, d) at f)))) (λ x.
      by_bool (eqb number lookup_number) (λ d. sym (ap on_servers (same_Some _ _ (rw (w, x, d) at f)))) (λ l.
      absurd (none-some c (rw (w, x, l) at f)))))

  pub change-number : number < write_number → ForSome made (λ c. on_servers c ≡ true)
  unfolding call_of on_servers
  change-number l c e =
      let f = rw (ne_eqb number write_number (omega arith), ne_eqb number delete_number (omega arith), ne_eqb number lookup_number (omega arith)) at e in
      by_bool (eqb number add_server_number) (λ d. sym (ap on_servers (same_Some _ _ (rw d at f)))) (λ w.
      by_bool (eqb number reweight_number) (λ d. sym (ap on_servers (same_Some _ _ (rw (w, d) at f)))) (λ x.
      absurd (none-some c (rw (w, x) at f))))

  pub write-number : ForSome made (λ c. is_write c ≡ true → number ≡ write_number)
  unfolding call_of is_write
  write-number c e w =
      by_bool (eqb number write_number) (λ d. eqb-true _ _ d) (λ x. absurd (true≢false (sym w ∙ other x)))
    where
      other : eqb number write_number ≡ false → is_write c ≡ false
      other x =
          by_bool (eqb number add_server_number) (λ d. sym (ap is_write (same_Some _ _ (rw d at e)))) (λ a.
          by_bool (eqb number reweight_number) (λ d. sym (ap is_write (same_Some _ _ (rw (a, d) at e)))) (λ b.
          by_bool (eqb number delete_number) (λ d. sym (ap is_write (same_Some _ _ (rw (a, b, x, d) at e)))) (λ y.
          by_bool (eqb number lookup_number) (λ d. sym (ap is_write (same_Some _ _ (rw (a, b, x, y, d) at e)))) (λ l.
          absurd (none-some c (rw (a, b, x, y, l) at e))))))

  pub used-number : (used : List ℕ) (r : Reply) → used_after used made r ≡ cond (eqb number write_number) (cond (eqb r.refusal 0) (one_more used r.server) used) used
  unfolding call_of used_after
  used-number used r =
      by_bool (eqb number add_server_number) (λ d. rw (d, eqb-true _ _ d) refl) (λ a. rw a
      (by_bool (eqb number reweight_number) (λ d. rw (d, eqb-true _ _ d) refl) (λ b. rw b
      (by_bool (eqb number write_number) (λ d. rw d refl) (λ w. rw w
      (by_bool (eqb number delete_number) (λ d. rw d refl) (λ d. rw d
      (by_bool (eqb number lookup_number) (λ d. rw d refl) (λ d. rw d refl)))))))))

-- a number that is no call
pub no_call : (number tenant subject amount : ℕ) → number ≢ add_server_number → number ≢ reweight_number → number ≢ write_number → number ≢ delete_number → number ≢ lookup_number → call_of number tenant subject amount ≡ None
unfolding call_of
no_call number tenant subject amount a b c d e = rw (ne_eqb number add_server_number a, ne_eqb number reweight_number b, ne_eqb number write_number c, ne_eqb number delete_number d, ne_eqb number lookup_number e)

-- by its reply: whether and where an entry is counted, and the table with what is counted
module _ (S : State) where
  counts-one : (c : Call) (r : Reply) → r ≡ reply_to S (Some c) → length S.table.used ≡ 256 → is_write c ≡ true → r.refusal ≡ 0
      → (r.server < length S.table.used) × (used_of S.table r.server < 65536)
  unfolding in_list reply_to reply is_write
  counts-one (AddServer _) r e l w z = absurd (true≢false (sym w))
  counts-one (Reweight _ _) r e l w z = absurd (true≢false (sym w))
  counts-one (Write tenant id value) r e l w z =
      let f = written-to S.table S.medium tenant id value r e z in
      let s = sound-facts S.table f.is_sound in
      (omega arith, omega arith)
  counts-one (Delete _ _) r e l w z = absurd (true≢false (sym w))
  counts-one (Lookup _ _) r e l w z = absurd (true≢false (sym w))

  pub counts : (o : Option Call) (r : Reply) → r ≡ reply_to S o → length S.table.used ≡ 256
      → ForSome o (λ c. is_write c ≡ true → r.refusal ≡ 0 → (r.server < length S.table.used) × (used_of S.table r.server < 65536))
  counts o r e l c f = counts-one c r (rw f at e) l

  pub counted-table : (o : Option Call) (r : Reply) → ForSome o (λ c. on_servers c ≡ false) → r ≡ reply_to S o → counted_table S.table o r ≡ (next_by S o).table
  unfolding in_list reply_to reply next_by next used_after counters_after with_entry lookup_table with_opened on_servers
  counted-table None r s e = refl
  counted-table (Some (AddServer _)) r s e = absurd (true≢false (s _ refl))
  counted-table (Some (Reweight _ _)) r s e = absurd (true≢false (s _ refl))
  counted-table (Some (Write tenant id value)) r s e = by_bool (eqb r.refusal 0)
      (λ z. rw z ((written-to S.table S.medium tenant id value r e (eqb-true r.refusal 0 z)).table))
      (λ z. rw z (table_kept S.table S.medium tenant id value r e (eqb-false r.refusal 0 z)))
  counted-table (Some (Delete _ _)) r s e = refl
  counted-table (Some (Lookup tenant id)) r s e = ap (λ (x : Reply). with_opened S.table tenant x.opened) e

-- what the code stores of its reply as a cast fits a word
reply_to-small : (S : State) (o : Option Call) → Small (reply_to S o)
unfolding in_list reply_to reply
reply_to-small S None = record { server = omega arith; opened = omega arith; invalidated = omega arith }
reply_to-small S (Some (AddServer weight)) = add_server-small S.table S.medium weight
reply_to-small S (Some (Reweight server weight)) = reweight-small S.table server weight
reply_to-small S (Some (Write tenant id value)) = write-small S.table S.medium tenant id value
reply_to-small S (Some (Delete tenant id)) = delete-small S.table S.medium tenant id
reply_to-small S (Some (Lookup tenant id)) = lookup-small S.table S.medium tenant id

pub called_small : (S : State) (o : Option Call) (r : Reply) → r ≡ reply_to S o → (r.server < 4294967296) × (r.opened < 4294967296) × (r.invalidated < 4294967296)
called_small S o r e = let s : Small r = rw e (reply_to-small S o) in (s.server, s.opened, s.invalidated)
