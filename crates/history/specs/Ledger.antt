-- The plain ledger (document 01, "The plain ledger"; document 02, items 2, 4 and 7). It is fed the capacity, the salt, the medium's
-- length and the calls' arguments, and nothing from table or medium but, for crashed calls only, what `Heard` has; of the archive it
-- shares the published rule, which of two fractions is kept (`raise`), whose an id is, and how rows of refusals and the parts of a
-- batch are put together.
use Rattle.std.specs.Prelude.{ℕ, suc, ◌+◌, ◌-◌, ◌*◌, Bool, true, false, cond, not, ◌&&◌, ◌||◌, List, [], ◌∷◌, ◌++◌, map, length, leb, ltb, eqb, Option, None, Some}
use Rattle.limits.specs.Limits.{max_servers, content_range}
use Rattle.lists.specs.Below.{nth, count_below}
use Rattle.tenants.specs.Tenant.{out_of_range, of_another}
use Rattle.placement.specs.declared.Fraction.{Fraction}
use Rattle.placement.specs.Fraction.{raise}
use Rattle.placement.specs.Rule.{write_p, write_server, readable}
use Rattle.replies.specs.Refusal.{Row, ◌when◌, first_of, settle}
use Rattle.batch_answer.specs.Answer.{BatchReply, batch_by, too_long, settled_batch}
use Rattle.history.specs.Call.{Call, add_server, reweight, write, delete, lookup, batch, Heard, heard, heard_write, heard_delete, Compared}

-- an accepted write (id, value, server), an accepted delete, or an entry of a server that a crashed write spent in vain
pub data Event : Type 0 where
  wrote : ℕ → ℕ → ℕ → Event
  removed : ℕ → Event
  spent : ℕ → Event

-- the capacity, the salt, the medium's length, the number of servers, their weights, for each the greatest WriteP so far, and the
-- events, the newest first
pub record Ledger : Type 0 where
  pub capacity : ℕ
  pub salt : ℕ
  pub words : ℕ
  pub servers : ℕ
  pub weight : ℕ → ℕ
  pub greatest : ℕ → Fraction
  pub events : List Event

-- a ledger that has no server, write or delete yet
unfoldable pub fresh_ledger : ℕ → ℕ → ℕ → Ledger
fresh_ledger capacity salt words = record {
  capacity = capacity;
  salt = salt;
  words = words;
  servers = 0;
  weight = λ k. 0;
  greatest = λ k. record { num = 0; den = 1 };
  events = [];
}

-- the entries of each server, and the words that n servers have
abbrev pub entries_l : Ledger → ℕ
entries_l L = L.capacity

abbrev pub words_for : Ledger → ℕ → ℕ
words_for L n = 3 * L.capacity * n

-- a server's used: the number of writes to it, and of entries spent on it
unfoldable pub used_by : List Event → ℕ → ℕ
used_by [] k = 0
used_by (wrote id value server ∷ older) k = cond (eqb server k) 1 0 + used_by older k
used_by (removed id ∷ older) k = used_by older k
used_by (spent server ∷ older) k = cond (eqb server k) 1 0 + used_by older k

-- what an id has by a write: the value, and the server that it went to
pub record Version : Type 0 where
  pub value : ℕ
  pub server : ℕ

-- the last write of an id with no delete of it afterwards
unfoldable pub last_write_of : List Event → ℕ → Option Version
last_write_of [] id = None
last_write_of (wrote a value server ∷ older) id =
    cond (eqb a id) (Some (record { value = value; server = server })) (last_write_of older id)
last_write_of (removed a ∷ older) id = cond (eqb a id) None (last_write_of older id)
last_write_of (spent server ∷ older) id = last_write_of older id

-- the id has such a write
unfoldable pub is_written : Option Version → Bool
is_written None = false
is_written (Some x) = true

-- what a call makes of the ledger, and its reply
pub record Entered : Type 0 where
  pub reply : Compared
  pub ledger : Ledger

abbrev pub told : ℕ → ℕ → ℕ → ℕ → Compared
told refusal server value opened = record { refusal = refusal; server = server; value = value; opened = opened }

-- a refused call changes nothing
unfoldable pub enter_by : Ledger → List Row → Entered → Entered
enter_by L rows done = settle rows done (record { reply = told (first_of rows) 0 0 0; ledger = L })

-- f, but for another value at k
unfoldable pub put : {A : Type 0} → (ℕ → A) → ℕ → A → ℕ → A
put f k x i = cond (eqb i k) x (f i)

-- add_server: the new server's greatest WriteP is its first

unfoldable pub add_server_rows_l : Ledger → ℕ → List Row
add_server_rows_l L weight =
    2 when ltb (entries_l L) weight
    ∷ 4 when eqb L.servers max_servers
    ∷ 5 when ltb L.words (words_for L (suc L.servers))
    ∷ []

unfoldable pub with_server_l : Ledger → ℕ → Ledger
with_server_l L weight =
    let weights = put L.weight L.servers weight in
    record {
      capacity = L.capacity;
      salt = L.salt;
      words = L.words;
      servers = suc L.servers;
      weight = weights;
      greatest = put L.greatest L.servers (write_p weights L.servers);
      events = L.events;
    }

-- reweight: every server's greatest WriteP takes today's where that is strictly greater

unfoldable pub reweight_rows_l : Ledger → ℕ → ℕ → List Row
reweight_rows_l L server weight =
    2 when ltb (entries_l L) weight
    ∷ 3 when leb L.servers server
    ∷ 9 when ltb (entries_l L - used_by L.events server) weight
    ∷ []

unfoldable pub with_weight_l : Ledger → ℕ → ℕ → Ledger
with_weight_l L server weight =
    let weights = put L.weight server weight in
    record {
      capacity = L.capacity;
      salt = L.salt;
      words = L.words;
      servers = L.servers;
      weight = weights;
      greatest = λ k. raise (L.greatest k) (write_p weights k);
      events = L.events;
    }

unfoldable pub short_l : Ledger → Bool
short_l L = ltb L.words (words_for L L.servers)

-- the rows that write, delete and lookup share, for a tenant and an id; `outside` says whether another argument of the call is out
-- of range
unfoldable pub asked_rows_l : Ledger → ℕ → ℕ → Bool → List Row
asked_rows_l L tenant id outside =
    2 when (outside || out_of_range tenant id)
    ∷ 11 when of_another tenant id
    ∷ 3 when eqb L.servers 0
    ∷ 5 when short_l L
    ∷ []

unfoldable pub with_event : Ledger → Event → Ledger
with_event L event = record {
  capacity = L.capacity;
  salt = L.salt;
  words = L.words;
  servers = L.servers;
  weight = L.weight;
  greatest = L.greatest;
  events = event ∷ L.events;
}

-- write: its server is the write rule's pick

unfoldable pub target_l : Ledger → ℕ → ℕ
target_l L id = write_server L.weight L.servers L.salt id

unfoldable pub write_rows_l : Ledger → ℕ → ℕ → ℕ → List Row
write_rows_l L tenant id value =
    asked_rows_l L tenant id (leb content_range value)
    ++ (6 when eqb (used_by L.events (target_l L id)) (entries_l L) ∷ [])

-- delete

unfoldable pub delete_rows_l : Ledger → ℕ → ℕ → List Row
delete_rows_l L tenant id =
    asked_rows_l L tenant id false
    ++ (8 when not (is_written (last_write_of L.events id)) ∷ [])

-- server k is readable for an id: its greatest WriteP exceeds its draw
abbrev pub reads_l : Ledger → ℕ → ℕ → Bool
reads_l L id k = readable L.greatest L.salt id k

-- lookup: the value of the id's last write, or 8; the servers from that write's upward whose greatest WriteP exceeds their
-- draw, or all such servers

unfoldable pub lookup_rows_l : Ledger → ℕ → ℕ → List Row
lookup_rows_l L tenant id = asked_rows_l L tenant id false

unfoldable pub opened_from : Ledger → ℕ → ℕ → ℕ
opened_from L id from = count_below (λ k. leb from k && reads_l L id k) L.servers

unfoldable pub last_write_reply : Ledger → ℕ → Option Version → Compared
last_write_reply L id None = told 8 0 0 (opened_from L id 0)
last_write_reply L id (Some x) = told 0 0 x.value (opened_from L id x.server)

-- batch

unfoldable pub batch_rows_l : List ℕ → List Row
batch_rows_l ids = 2 when too_long ids ∷ []

-- each call: its rows of refusals, and what it makes of the ledger where none applies; a lookup and a batch change nothing

unfoldable pub rows_of : Ledger → Call → List Row
rows_of L (add_server weight) = add_server_rows_l L weight
rows_of L (reweight server weight) = reweight_rows_l L server weight
rows_of L (write tenant id value) = write_rows_l L tenant id value
rows_of L (delete tenant id) = delete_rows_l L tenant id
rows_of L (lookup tenant id) = lookup_rows_l L tenant id
rows_of L (batch tenant ids) = batch_rows_l ids

unfoldable pub done_of : Ledger → Call → Entered
done_of L (add_server weight) = record { reply = told 0 L.servers 0 0; ledger = with_server_l L weight }
done_of L (reweight server weight) = record { reply = told 0 server 0 0; ledger = with_weight_l L server weight }
done_of L (write tenant id value) =
    let k = target_l L id in
    record { reply = told 0 k 0 0; ledger = with_event L (wrote id value k) }
done_of L (delete tenant id) = record { reply = told 0 0 0 0; ledger = with_event L (removed id) }
done_of L (lookup tenant id) = record { reply = last_write_reply L id (last_write_of L.events id); ledger = L }
done_of L (batch tenant ids) = record { reply = told 0 0 0 0; ledger = L }

unfoldable pub enter : Ledger → Call → Entered
enter L c = enter_by L (rows_of L c) (done_of L c)

-- a batch's whole answer: the replies of its lookups, and the servers that they open

abbrev pub lookup_l : Ledger → ℕ → ℕ → Entered
lookup_l L tenant id = enter L (lookup tenant id)

-- the lowest server that a lookup of the id may open
unfoldable pub lowest_l : Option Version → ℕ
lowest_l None = 0
lowest_l (Some x) = x.server

unfoldable pub opens_l : Ledger → ℕ → ℕ → ℕ → Bool
opens_l L tenant id k = settle (lookup_rows_l L tenant id) (leb (lowest_l (last_write_of L.events id)) k && reads_l L id k) false

unfoldable pub opened_at_l : Ledger → ℕ → List ℕ → ℕ → ℕ → Bool
opened_at_l L tenant ids i k = opens_l L tenant (nth ids i) k

unfoldable pub batch_l : Ledger → ℕ → List ℕ → BatchReply
batch_l L tenant ids =
    settled_batch (batch_rows_l ids)
    (batch_by
    (λ i. (lookup_l L tenant (nth ids i)).reply.refusal)
    (λ i. (lookup_l L tenant (nth ids i)).reply.value)
    (λ i. (lookup_l L tenant (nth ids i)).reply.opened)
    (opened_at_l L tenant ids)
    (length ids)
    L.servers)

-- A crashed call: the ledger takes the outcome shown as having happened. A crashed write whose entry a lookup meets is a write; else
-- an entry that is not wholly blank is spent. A crashed delete after which a lookup meets none is a delete

unfoldable pub crashed_write_l : Ledger → ℕ → ℕ → ℕ → Bool → Bool → Ledger
crashed_write_l L tenant id value is_touched met =
    let k = target_l L id in
    settle (write_rows_l L tenant id value) (cond met (with_event L (wrote id value k)) (cond is_touched (with_event L (spent k)) L)) L

unfoldable pub crashed_delete_l : Ledger → ℕ → ℕ → Bool → Ledger
crashed_delete_l L tenant id gone = settle (delete_rows_l L tenant id) (cond gone (with_event L (removed id)) L) L

unfoldable pub noted : Ledger → Heard → Ledger
noted L (heard c) = (enter L c).ledger
noted L (heard_write tenant id value is_touched met) = crashed_write_l L tenant id value is_touched met
noted L (heard_delete tenant id gone) = crashed_delete_l L tenant id gone

unfoldable pub ledger_by : Ledger → List Heard → Ledger
ledger_by L [] = L
ledger_by L (x ∷ xs) = ledger_by (noted L x) xs

-- its replies to the calls that did not crash
unfoldable pub replies_by : Ledger → List Heard → List Compared
replies_by L [] = []
replies_by L (heard c ∷ xs) = (enter L c).reply ∷ replies_by (noted L (heard c)) xs
replies_by L (heard_write tenant id value is_touched met ∷ xs) = replies_by (noted L (heard_write tenant id value is_touched met)) xs
replies_by L (heard_delete tenant id gone ∷ xs) = replies_by (noted L (heard_delete tenant id gone)) xs

-- the same of a list of calls
abbrev pub ledger_after : Ledger → List Call → Ledger
ledger_after L calls = ledger_by L (map heard calls)

abbrev pub ledger_replies : Ledger → List Call → List Compared
ledger_replies L calls = replies_by L (map heard calls)

-- the accepted writes and the crashed ones together: of both, those that no row refuses

unfoldable pub takes_entry : Ledger → Call → ℕ
takes_entry L (write tenant id value) = settle (write_rows_l L tenant id value) 1 0
takes_entry L (add_server weight) = 0
takes_entry L (reweight server weight) = 0
takes_entry L (delete tenant id) = 0
takes_entry L (lookup tenant id) = 0
takes_entry L (batch tenant ids) = 0

unfoldable pub may_take_entry : Ledger → Heard → ℕ
may_take_entry L (heard c) = takes_entry L c
may_take_entry L (heard_write tenant id value is_touched met) = takes_entry L (write tenant id value)
may_take_entry L (heard_delete tenant id gone) = 0

unfoldable pub writes_by : Ledger → List Heard → ℕ
writes_by L [] = 0
writes_by L (x ∷ xs) = may_take_entry L x + writes_by (noted L x) xs
