-- Where servers and entries stand: inside the medium, one above the other, and no two entries on one word.
-- All that the layers above know of these addresses. Assumes nothing.
use Prim.Native.Nat.{ℕ, suc, ◌+◌, ◌-◌, ◌*◌, ◌≤◌, ◌<◌}
use mathlib.Core.Path.{◌≡◌}
use mathlib.Core.List.{List}
use native.Mathlib.Omega.{arith}
use native.Mathlib.Nat.{mul-le-mul, mul-le-mul_left}
use lib.ListN.{length}
use lib.Dec.{ltb}
use borrow.Author.Tests.{ltb-true, ltb-false}
use Rattle.lists.proofs.Tests.{by_bool}
use Rattle.medium.specs.Entry.{server_at, entry_at, Inside}

pub server-le : (capacity k n : ℕ) → k ≤ n → server_at capacity k ≤ server_at capacity n
unfolding server_at
server-le capacity k n h = mul-le-mul_left (3 * capacity) h

-- server 0 begins at the first word
pub server-zero : (capacity : ℕ) → server_at capacity 0 ≡ 0
unfolding server_at
server-zero capacity = omega arith

-- a server has three words for each entry
pub server-next : (capacity k : ℕ) → server_at capacity (suc k) ≡ server_at capacity k + 3 * capacity
unfolding server_at
server-next capacity k = omega arith

-- an entry begins no later than the next server
pub entry-before : (capacity k j : ℕ) → j ≤ capacity → entry_at capacity k j ≤ server_at capacity (suc k)
unfolding server_at entry_at
entry-before capacity k j h = omega arith

-- three words on begins the next entry
pub entry_next : (capacity k j : ℕ) → entry_at capacity k (j + 1) ≡ entry_at capacity k j + 3
unfolding entry_at
entry_next capacity k j = omega arith

-- entry i begins three words on for each entry from j up to it
pub entry-on : (capacity k j i : ℕ) → j ≤ i → entry_at capacity k i ≡ entry_at capacity k j + 3 * (i - j)
unfolding entry_at
entry-on capacity k j i l = omega arith

-- an entry's words lie between its own server's first word and that of any server above
pub entry_in : (capacity n k j q : ℕ) → k < n → j < capacity → q < 3 → entry_at capacity k j + q < server_at capacity n
unfolding server_at entry_at
entry_in capacity n k j q a b c = omega (arith, mul-le-mul_left (3 * capacity) a)

pub entry-above : (capacity k j q : ℕ) → server_at capacity k ≤ entry_at capacity k j + q
unfolding entry_at
entry-above capacity k j q = omega arith

-- and inside a medium that its server lies in
pub entry-inside : (capacity k j q : ℕ) (m : List ℕ) → Inside capacity k m → j < capacity → q < 3 → entry_at capacity k j + q < length m
entry-inside capacity k j q m s a b = omega (arith, entry_in capacity (suc k) k j q (omega arith) a b)

-- and so do n entries, which end below the first word of the next server
pub entries-inside : (capacity k j n : ℕ) (m : List ℕ) → Inside capacity k m → j + n ≤ capacity → entry_at capacity k j + 3 * n ≤ length m
unfolding server_at entry_at
entries-inside capacity k j n m s l = omega (arith, s.long)

-- the addresses of 256 servers of 65,536 entries are small
pub server-small : (capacity k : ℕ) → capacity ≤ 65536 → k ≤ 256 → server_at capacity k ≤ 50331648
unfolding server_at
server-small capacity k a b = omega (arith, mul-le-mul a b)

pub entry-small : (capacity k j : ℕ) → capacity ≤ 65536 → k < 256 → j ≤ capacity → entry_at capacity k j ≤ 50331648
entry-small capacity k j a b c = omega (arith, entry-before capacity k j c, server-small capacity (suc k) a b)

-- two entries never share a word
same-server : (capacity k j p n i q : ℕ) → j < capacity → i < capacity → p < 3 → q < 3 → entry_at capacity k j + p ≡ entry_at capacity n i + q → k ≡ n
same-server capacity k j p n i q a b c d h = by_bool (ltb k n)
    (λ x. absurd (omega (arith, entry_in capacity n k j p (ltb-true k n x) a c, entry-above capacity n i q)))
    (λ x. by_bool (ltb n k)
    (λ y. absurd (omega (arith, entry_in capacity k n i q (ltb-true n k y) b d, entry-above capacity k j p)))
    (λ y. omega (arith, ltb-false k n x, ltb-false n k y)))

same-entry : (capacity k j p i q : ℕ) → p < 3 → q < 3 → entry_at capacity k j + p ≡ entry_at capacity k i + q → (j ≡ i) × (p ≡ q)
unfolding entry_at
same-entry capacity k j p i q c d h = (omega arith, omega arith)

pub entry-apart : (capacity k j p n i q : ℕ) → j < capacity → i < capacity → p < 3 → q < 3 → entry_at capacity k j + p ≡ entry_at capacity n i + q
    → (k ≡ n) × (j ≡ i) × (p ≡ q)
entry-apart capacity k j p n i q a b c d h =
    let e = same-server capacity k j p n i q a b c d h in
    let f = same-entry capacity n j p i q c d (rw e at h) in
    (e, f.0, f.1)
