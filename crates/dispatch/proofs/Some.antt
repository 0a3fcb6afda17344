-- A write or a delete with a number of burns: where no burn is left over it is the plain call, and its reply fits words.
-- Assumes nothing.
use Prim.Native.Nat.{ℕ, ◌+◌, ◌<◌}
use mathlib.Core.Path.{◌≡◌, refl, sym, ◌∙◌}
use mathlib.Core.Bool.{Bool, true, false, cond, true≢false}
use Rattle.std.specs.Prelude.{Option, None, Some}
use native.Mathlib.Omega.{arith}
use lib.Dec.{eqb, leb}
use borrow.Author.Tests.{eqb-true, eqb-false}
use Rattle.limits.specs.Limits.{all_burns}
use Rattle.lists.proofs.Tests.{by_bool}
use Rattle.table.specs.declared.Table.{Table}
use Rattle.upkeep.specs.Upkeep.{with_entry}
use Rattle.calls.specs.declared.Call.{Call}
use Rattle.calls.specs.declared.Call.TheVariants.{AddServer, Reweight, Write, Delete, Lookup}
use Rattle.calls.specs.Numbered.{on_servers, is_write}
use Rattle.replies.specs.declared.Reply.{Reply}
use Rattle.replies.specs.Reply.{refused}
use Rattle.deletion.proofs.Whole.{delete_plain}
use Rattle.writing.proofs.Accepted.{written-some, some-kept}
use Rattle.writing.proofs.Whole.{write-plain}
use Rattle.archive.proofs.Small.{Small, write-small, delete-small}
use Rattle.history.specs.Machine.{State, reply, next}
use Rattle.dispatch.specs.OneCall.{in_list, no_call_number, reply_to, next_by, used_after, with_counts}
use Rattle.dispatch.specs.SomeBurns.{some_reply, some_next}

either : (b : Bool) (t : Table) → cond b t t ≡ t
either true t = refl
either false t = refl

-- what is no call
refused-small : Small (refused no_call_number 0)
refused-small = record { server = omega arith; opened = omega arith; invalidated = omega arith }

module _ (S : State) where
  pub some-reply : (c : Call) → on_servers c ≡ false → ((tenant id : ℕ) → c ≡ Lookup tenant id → ⊥) → some_reply S (Some c) ≡ reply_to S (Some c)
  unfolding some_reply in_list reply_to reply on_servers
  some-reply (AddServer _) o l = absurd (true≢false o)
  some-reply (Reweight _ _) o l = absurd (true≢false o)
  some-reply (Write _ _ _) o l = refl
  some-reply (Delete _ _) o l = refl
  some-reply (Lookup tenant id) o l = absurd (l tenant id refl)

  pub some-medium : (c : Call) → on_servers c ≡ false → ((tenant id : ℕ) → c ≡ Lookup tenant id → ⊥) → (some_next S (Some c) all_burns).medium ≡ (next_by S (Some c)).medium
  unfolding some_next in_list next_by next on_servers
  some-medium (AddServer _) o l = absurd (true≢false o)
  some-medium (Reweight _ _) o l = absurd (true≢false o)
  some-medium (Write tenant id value) o l = (write-plain S.table S.medium tenant id value).medium
  some-medium (Delete tenant id) o l = delete_plain S.table S.medium tenant id
  some-medium (Lookup tenant id) o l = absurd (l tenant id refl)

  pub written-here : (c : Call) (r : Reply) → r ≡ some_reply S (Some c) → is_write c ≡ true → r ≡ reply_to S (Some c)
  unfolding some_reply in_list reply_to reply is_write
  written-here (AddServer _) r e w = absurd (true≢false (sym w))
  written-here (Reweight _ _) r e w = absurd (true≢false (sym w))
  written-here (Write _ _ _) r e w = e
  written-here (Delete _ _) r e w = absurd (true≢false (sym w))
  written-here (Lookup _ _) r e w = absurd (true≢false (sym w))

  -- the table after it, by the test whether no burn is left over
  pub some-table : (o : Option Call) (r : Reply) → r ≡ some_reply S o → (n : ℕ) (b : Bool) → b ≡ leb (r.invalidated + 2) n
      → cond b (with_counts S.table (used_after S.table.used o r) S.table.counters) S.table ≡ (some_next S o n).table
  unfolding some_reply some_next used_after with_entry
  some-table None r e n b t = either b S.table
  some-table (Some (AddServer _)) r e n b t = either b S.table
  some-table (Some (Reweight _ _)) r e n b t = either b S.table
  some-table (Some (Write tenant id value)) r e n b t = by_bool (eqb r.refusal 0)
      (λ z. rw z (written-some S.table S.medium tenant id value r e (eqb-true r.refusal 0 z) n b t))
      (λ z. rw z (either b S.table ∙ some-kept S.table S.medium tenant id value r e (eqb-false r.refusal 0 z) n))
  some-table (Some (Delete _ _)) r e n b t = either b S.table
  some-table (Some (Lookup _ _)) r e n b t = either b S.table

-- what the code stores of its reply as a cast fits a word
reply-small : (S : State) (o : Option Call) → Small (some_reply S o)
unfolding some_reply
reply-small S None = refused-small
reply-small S (Some (AddServer _)) = refused-small
reply-small S (Some (Reweight _ _)) = refused-small
reply-small S (Some (Write tenant id value)) = write-small S.table S.medium tenant id value
reply-small S (Some (Delete tenant id)) = delete-small S.table S.medium tenant id
reply-small S (Some (Lookup _ _)) = refused-small

pub some_small : (S : State) (o : Option Call) (r : Reply) → r ≡ some_reply S o → (r.server < 4294967296) × (r.opened < 4294967296) × (r.invalidated < 4294967296)
some_small S o r e = let s : Small r = rw e (reply-small S o) in (s.server, s.opened, s.invalidated)
