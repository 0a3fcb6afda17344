-- Words that are read where each has its tag, and nothing where one has not.
-- Assumes nothing.
use Prim.Native.Nat.{ℕ, ◌+◌, ◌<◌}
use mathlib.Core.Path.{◌≡◌, refl}
use mathlib.Core.Bool.{Bool, true, false, cond}
use mathlib.Core.List.{List}
use lib.ListN.{length, set}
use lib.Dec.{eqb}
use Rattle.std.specs.Prelude.{Some, None}
use Rattle.limits.specs.Limits.{tenants}
use Rattle.lists.specs.Below.{all_below, set_below}
use Rattle.lists.proofs.Tests.{by_bool, true-not-false, and_l, and_r, and_i}
use Rattle.lists.proofs.Below.{all_below-out, set_below-more}
use Rattle.table.specs.declared.Table.{Table}
use Rattle.table.specs.Parts.{shape_of, table_by, with_counters, empty}
use Rattle.image.specs.Layout.{weight_place, used_place, numerator_place, denominator_place, capacity_place, salt_place, part_at}
use Rattle.image.specs.Decoding.{tag_at, content_at, count_in, table_in, head_tagged, server_tagged, counter_tagged, each_tagged}
use Rattle.image_reader.specs.Servers.{with_servers}

-- what a value says of its test
module _ {A : Type 0} (b : Bool) (x : A) where
  pub some_if : (y : A) → Some y ≡ cond b (Some x) None → (b ≡ true) × (y ≡ x)
  some_if y e = by_bool b (λ t. let h : Some y ≡ Some x = rw t at e in (t, cc)) (λ f. let h : Some y ≡ None = rw f at e in absurd cc)

  pub none_if : None ≡ cond b (Some x) None → b ≡ false
  none_if e = by_bool b (λ t. let h : None ≡ Some x = rw t at e in absurd cc) (λ f. f)

-- one test of a whole fails, or one of a run
one_fails : (b whole : Bool) → (whole ≡ true → b ≡ true) → b ≡ false → whole ≡ false
one_fails b whole h e = by_bool whole (λ t. absurd (true-not-false (h t) e)) (λ f. f)

pub fails_below : (p : ℕ → Bool) (n k : ℕ) → k < n → p k ≡ false → all_below p n ≡ false
fails_below p n k l = one_fails (p k) (all_below p n) (λ t. all_below-out p n t k l)

-- each word of a server has its tag
pub record ServerTags (words : List ℕ) (k : ℕ) : Type 0 where
  pub weight : eqb (tag_at words (part_at k + weight_place)) 1 ≡ true
  pub used : eqb (tag_at words (part_at k + used_place)) 2 ≡ true
  pub numerator : eqb (tag_at words (part_at k + numerator_place)) 0 ≡ true
  pub denominator : eqb (tag_at words (part_at k + denominator_place)) 1 ≡ true

server_tags_of : (words : List ℕ) (k : ℕ) → server_tagged words k ≡ true → ServerTags words k
unfolding server_tagged
server_tags_of words k e = record {
  weight = search and_l;
  used = search (and_l, and_r);
  numerator = search (and_l, and_r);
  denominator = search (and_l, and_r);
}

pub server_all : (words : List ℕ) (k : ℕ) → ServerTags words k → server_tagged words k ≡ true
unfolding server_tagged
server_all words k t = and_i _ _ t.weight (and_i _ _ t.used (and_i _ _ t.numerator t.denominator))

pub server_fails : (words : List ℕ) (n k : ℕ) (b : Bool) → k < n → (ServerTags words k → b ≡ true) → b ≡ false → all_below (server_tagged words) n ≡ false
server_fails words n k b l h e =
    fails_below (server_tagged words) n k l (one_fails b (server_tagged words k) (λ t. h (server_tags_of words k t)) e)

-- a server more is read
pub server_read : (words : List ℕ) (k : ℕ) (t s : Table) (weight used numerator denominator : ℕ)
    → s ≡ with_servers words k t
    → weight ≡ content_at words (part_at k + weight_place)
    → used ≡ content_at words (part_at k + used_place)
    → numerator ≡ content_at words (part_at k + numerator_place)
    → denominator ≡ content_at words (part_at k + denominator_place)
    → table_by (shape_of s) (set s.weights k weight) (set s.used k used) (set s.numerators k numerator) (set s.denominators k denominator) s.counters
    ≡ with_servers words (k + 1) t
server_read words k t s weight used numerator denominator e a b c d =
    rw (
      e,
      set_below-more (λ k. content_at words (part_at k + weight_place)) k t.weights _ weight refl a,
      set_below-more (λ k. content_at words (part_at k + used_place)) k t.used _ used refl b,
      set_below-more (λ k. content_at words (part_at k + numerator_place)) k t.numerators _ numerator refl c,
      set_below-more (λ k. content_at words (part_at k + denominator_place)) k t.denominators _ denominator refl d,
    )

-- each run has its tags
pub record Tags (words : List ℕ) (n : ℕ) : Type 0 where
  pub capacity : eqb (tag_at words capacity_place) 0 ≡ true
  pub salt : eqb (tag_at words salt_place) 1 ≡ true
  pub servers : all_below (server_tagged words) n ≡ true
  pub counters : all_below (counter_tagged words (part_at n)) tenants ≡ true

pub tags_of : (words : List ℕ) (n : ℕ) → each_tagged words n ≡ true → Tags words n
unfolding each_tagged head_tagged
tags_of words n e = record {
  capacity = search (and_l, and_r);
  salt = search (and_l, and_r);
  servers = search (and_l, and_r);
  counters = search (and_l, and_r);
}

pub tags_fail : (words : List ℕ) (n : ℕ) (b : Bool) → (Tags words n → b ≡ true) → b ≡ false → each_tagged words n ≡ false
tags_fail words n b h = one_fails b (each_tagged words n) (λ t. h (tags_of words n t))

-- where head and servers have their tags, all turns on the counters
pub last_run : (words : List ℕ) (n : ℕ) → eqb (tag_at words capacity_place) 0 ≡ true → eqb (tag_at words salt_place) 1 ≡ true → all_below (server_tagged words) n ≡ true
    → each_tagged words n ≡ all_below (counter_tagged words (part_at n)) tenants
unfolding each_tagged head_tagged
last_run words n a b c = rw (a, b, c)

-- and the table is read: an empty one, with the servers and then the counters
pub table_read : (words : List ℕ) (n capacity salt : ℕ) (e s : Table) (counters : List ℕ)
    → n ≡ count_in (length words)
    → capacity ≡ content_at words capacity_place
    → salt ≡ content_at words salt_place
    → e ≡ empty capacity salt
    → s ≡ with_servers words n (table_by (record { capacity = e.capacity; salt = e.salt; count = n }) e.weights e.used e.numerators e.denominators e.counters)
    → counters ≡ set_below (λ i. content_at words (part_at n + i)) tenants s.counters
    → with_counters s counters ≡ table_in words
unfolding table_in
table_read words n capacity salt e s counters a b c d f g = rw (g, f, d, b, c, a)
