-- A ledger as a tenant knows it, and what it makes of a call: a function of the calls that the tenant sees and of their verdicts.
-- Assumes nothing.
use Prim.Native.Nat.{ℕ}
use mathlib.Core.Path.{◌≡◌, refl, ap, ◌∙◌}
use mathlib.Core.Bool.{Bool, true, false, cond, ◌&&◌}
use mathlib.Core.List.{List, [], ◌∷◌}
use lib.Dec.{leb, eqb}
use borrow.Author.Tests.{eq-eqb, ne_eqb}
use Rattle.lists.specs.Below.{count_below}
use Rattle.lists.proofs.Tests.{by_bool, true-not-false}
use Rattle.tenants.specs.Tenant.{tenant_of}
use Rattle.replies.specs.Refusal.{first_of}
use Rattle.replies.specs.declared.Reply.{Reply}
use Rattle.history.specs.Call.{Call, add_server, reweight, write, delete, lookup, batch, Compared}
use Rattle.history.specs.Ledger.{Event, wrote, removed, spent, Ledger, Entered, told, words_for, last_write_of, target_l, batch_l, rows_of, done_of, reads_l}
use Rattle.isolation.specs.Seen.{supposed, Shown, to_call, to_batch}
use Rattle.isolation.proofs.LiveOn.{live_on}

-- the events of the tenant's ids
unfoldable pub events_of : ℕ → List Event → List Event
events_of tenant [] = []
events_of tenant (wrote id value server ∷ older) = cond (eqb (tenant_of id) tenant) (wrote id value server ∷ events_of tenant older) (events_of tenant older)
events_of tenant (removed id ∷ older) = cond (eqb (tenant_of id) tenant) (removed id ∷ events_of tenant older) (events_of tenant older)
events_of tenant (spent server ∷ older) = events_of tenant older

-- a ledger with other events, over just the words that its servers have
unfoldable pub trimmed : Ledger → List Event → Ledger
trimmed L events = record {
  capacity = L.capacity;
  salt = L.salt;
  words = words_for L L.servers;
  servers = L.servers;
  weight = L.weight;
  greatest = L.greatest;
  events = events;
}

-- what the tenant knows: its own events, and nothing of the medium's length
abbrev pub view : ℕ → Ledger → Ledger
view tenant L = trimmed L (events_of tenant L.events)

-- a reply of the ledger as far as it is shown
unfoldable pub shown_l : Call → Compared → Compared
shown_l c r = record { refusal = cond (supposed c) 0 r.refusal; server = r.server; value = r.value; opened = r.opened }

-- a call on such a ledger: a supposed one goes by its verdict, any other by its rows
unfoldable pub accepts : Ledger → Call → Bool → Bool
accepts K c ok = cond (supposed c) ok (eqb (first_of (rows_of K c)) 0)

unfoldable pub enter_v : Ledger → Call → Bool → Entered
enter_v K c ok = cond (accepts K c ok)
    (record { reply = shown_l c (done_of K c).reply; ledger = trimmed (done_of K c).ledger (done_of K c).ledger.events })
    (record { reply = shown_l c (told (first_of (rows_of K c)) 0 0 0); ledger = K })

-- the live entries of an id on the readable servers from one up
unfoldable pub live_from : Ledger → ℕ → ℕ → ℕ
live_from K id from = count_below (λ k. (leb from k && reads_l K id k) && live_on K.events id k) K.servers

-- the entries that a call invalidates
unfoldable pub lost_v : Ledger → Call → Bool → ℕ
lost_v K (add_server weight) ok = 0
lost_v K (reweight server weight) ok = 0
lost_v K (write caller id value) ok = cond ok (live_from K id (target_l K id)) 0
lost_v K (delete caller id) ok = cond ok (live_from K id 0) 0
lost_v K (lookup caller id) ok = 0
lost_v K (batch caller ids) ok = 0

-- a whole reply
unfoldable pub whole : Compared → ℕ → Reply
whole r invalidated = record { refusal = r.refusal; server = r.server; value = r.value; opened = r.opened; invalidated = invalidated }

unfoldable pub reply_v : Ledger → Call → Bool → Reply
reply_v K c ok = whole (enter_v K c ok).reply (lost_v K c (accepts K c ok))

unfoldable pub shown_v : Ledger → Call → Bool → Shown
shown_v K (add_server weight) ok = to_call (reply_v K (add_server weight) ok)
shown_v K (reweight server weight) ok = to_call (reply_v K (reweight server weight) ok)
shown_v K (write caller id value) ok = to_call (reply_v K (write caller id value) ok)
shown_v K (delete caller id) ok = to_call (reply_v K (delete caller id) ok)
shown_v K (lookup caller id) ok = to_call (reply_v K (lookup caller id) ok)
shown_v K (batch caller ids) ok = to_batch (batch_l K caller ids)

-- the next verdict and those after it
unfoldable pub next_of : List Bool → Bool
next_of [] = true
next_of (ok ∷ oks) = ok

unfoldable pub rest_of : List Bool → List Bool
rest_of [] = []
rest_of (ok ∷ oks) = oks

-- over the calls that the tenant sees, with the verdicts on the supposed ones
unfoldable pub foretold : Ledger → List Call → List Bool → List Shown
foretold K [] oks = []
foretold K (c ∷ calls) oks = shown_v K c (next_of oks) ∷ foretold (enter_v K c (next_of oks)).ledger calls (cond (supposed c) (rest_of oks) oks)

-- an event of another tenant's id is none of this id
other-id : (tenant id a : ℕ) → tenant_of id ≡ tenant → eqb (tenant_of a) tenant ≡ false → eqb a id ≡ false
other-id tenant id a own d = ne_eqb a id (λ e. true-not-false (eq-eqb (tenant_of a) tenant (ap tenant_of e ∙ own)) d)

-- the tenant's own events tell of its ids what all events tell
module _ (tenant id : ℕ) (own : tenant_of id ≡ tenant) where
  pub live_own : (events : List Event) (k : ℕ) → live_on (events_of tenant events) id k ≡ live_on events id k
  unfolding events_of live_on
  live_own [] k = refl
  live_own (wrote a v s ∷ older) k = by_bool (eqb (tenant_of a) tenant)
      (λ d. rw (d, live_own older k))
      (λ d. rw (d, other-id tenant id a own d) (live_own older k))
  live_own (removed a ∷ older) k = by_bool (eqb (tenant_of a) tenant)
      (λ d. rw (d, live_own older k))
      (λ d. rw (d, other-id tenant id a own d) (live_own older k))
  live_own (spent s ∷ older) k = live_own older k

  pub last-own : (events : List Event) → last_write_of (events_of tenant events) id ≡ last_write_of events id
  unfolding events_of last_write_of
  last-own [] = refl
  last-own (wrote a v s ∷ older) = by_bool (eqb (tenant_of a) tenant)
      (λ d. rw (d, last-own older))
      (λ d. rw (d, other-id tenant id a own d) (last-own older))
  last-own (removed a ∷ older) = by_bool (eqb (tenant_of a) tenant)
      (λ d. rw (d, last-own older))
      (λ d. rw (d, other-id tenant id a own d) (last-own older))
  last-own (spent s ∷ older) = last-own older
